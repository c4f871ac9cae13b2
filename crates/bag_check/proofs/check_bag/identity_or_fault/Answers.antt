use Rattle.std.proofs.Common.{inl, sym, ◌∙◌}
use Rattle.bag_check.specs.Check.{check_of}
use Rattle.bag_check.proofs.Steps.{handed_on_as, faulty_tag_files, not_read, faulty_listing}
use Rattle.bag_check.proofs.Steps.{sound_listing}
use Rattle.bag_check.proofs.check_bag.identity_or_fault.Goals as goal

pub returns-in-Some : goal.returns-in-Some
returns-in-Some c =
    faulty_tag_files c.args.facts.now _ _ (c.in_ok-files.ensures ∙ c.files.ensures)
    c.payload_exists.ensures c.in-Some.fault c.in-Some.ensures

pub returns-in_err-listings : goal.returns-in_err-listings
returns-in_err-listings c =
    let fault = c.in_err-listings.field-0.0 in
    handed_on_as (check_of c.args.facts.now) c.from_residual-in_err-listings.result fault
    c.from_residual-in_err-listings.ensures.1
    (not_read c.args.facts.now _ _ (c.in_ok-files.ensures ∙ c.files.ensures)
    c.payload_exists.ensures c.in_default.ensures fault c.in_err-listings.ensures.err)

pub returns-in-Some-2 : goal.returns-in-Some-2
returns-in-Some-2 c =
    faulty_listing c.args.facts.now _ _ (c.in_ok-files.ensures ∙ c.files.ensures)
    c.payload_exists.ensures c.in_default.ensures c.in_ok-listings.listings.items
    c.as_slice.result.now c.in_ok-listings.ensures.ok c.as_slice.ensures.value c.in-Some-2.fault
    (sym c.in-Some-2.is ∙ c.in_ok-fault.ensures)

pub returns : goal.returns
returns c =
    inl
    (sym (sound_listing c.args.facts.now _ _ (c.in_ok-files.ensures ∙ c.files.ensures)
    c.payload_exists.ensures c.in_default.ensures c.in_ok-listings.listings.items
    c.as_slice.result.now c.in_ok-listings.ensures.ok c.as_slice.ensures.value c.identity.result
    (sym c.in_default-2.is ∙ c.in_ok-fault.ensures) c.identity.ensures))
