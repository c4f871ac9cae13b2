use Rattle.std.proofs.Common.{◌≡◌, ◌-◌, ◌∙◌, length, arith, ap, refl, sym}
use Rattle.records.specs.declared.owner.Owner.{Owner}
use Rattle.ledger.specs.inner.Found.{ending_of}
use Rattle.ledger.proofs.SameOwners.{reaches_of, end_of}
use Rattle.ledger.proofs.CellContents.{weights_of}
use Rattle.ledger.proofs.read.text_contents.Goals as goal

pub returns : goal.returns
returns c =
    let owner = c.args.owner.now in
    let bytes = c.args.bytes.now in
    let found = c.in_ok-found.found in
    let its : Owner = record { members = found.members; site = owner.site } in
    let f = sym c.in_ok-found.ensures.federation in
    record {
      federation = c.in_ok-found.ensures.federation;
      site = refl;
      all = λ start records rest reaches ends.
          let both = c.in_ok-found.ensures.all start records rest reaches ends in
          let left : length bytes - found.end ≡ length rest = omega (arith, both.1) in (
            c.in_ok-records.ensures start records rest
                (reaches_of owner its f refl bytes start records rest reaches)
                (end_of owner its f refl start rest ends)
                (weights_of start found.members.weights found.named both.0),
            both.0,
            c.ending_at.ensures ∙ ap ending_of left,
          );
    }
