-- A turn in which a call is refused because the site's device failed leaves a site that needs
-- opening.
use Rattle.std.proofs.Common.{inl, inr, refl, ◌≡◌, ℕ, List, Bool, true, false, IsSome, Option, Some}
use Rattle.std.proofs.Common.{None, Result, Ok, Err, option_to_list}
use Rattle.cell_device.specs.Devices.{Device}
use Rattle.bag_tree.specs.declared.fault.TreeFault.{TreeFault}
use Rattle.bag_tree.specs.Facts.{TreeFacts}
use Rattle.records.specs.declared.record.Record.{Record}
use Rattle.book.specs.OpenBooks.{OpenBook}
use Rattle.site.specs.declared.answer.Answer.{Answer}
use Rattle.site.specs.declared.answer.Line.{Line}
use Rattle.site.specs.declared.answer.Line.TheVariants as site_lines
use Rattle.site.specs.declared.fault.SiteFault.{SiteFault}
use Rattle.site.specs.declared.fault.SiteFault.TheVariants as faults
use Rattle.site.specs.Answered.{Keeps}
use Rattle.site.specs.Calls as calls
use Rattle.site.specs.Calls.{Input}
use Rattle.site.specs.Sites.{effect}
use Rattle.lines.specs.Notices.{notice_of}
use Rattle.udp_site.specs.Requests.{Request, Deposits}
use Rattle.udp_site.specs.Served.{or_one}
use Rattle.udp_site.specs.Turns.{Serving, Done, IsCalled, notices_of, number, comes_of}
use Rattle.udp_site.proofs.TurnCalls.{came}

-- what a call says that isn't refused
line_says_no : (site : ℕ) (input : Input) (line : Option Line)
    → or_one (option_to_list (notice_of site input (Ok line))) ≡ false
line_says_no site input None = refl
line_says_no site (calls.Deposits slot checked) (Some (site_lines.Registered bag)) = refl
line_says_no site input (Some (site_lines.Registered bag)) = refl
line_says_no site input (Some (site_lines.Known slot bag)) = refl
line_says_no site input (Some site_lines.Dropped) = refl

module _ {C : Type 0} (device : C → Device) where
  failed : (commits : Option Record) (old new : OpenBook C)
      → Keeps device commits (Err faults.Device) old new → IsSome commits
      → new.needs_opening ≡ true
  failed None old new keeps some = absurd (cc some)
  failed (Some r) old new (inl (is, same)) some = absurd (cc is)
  failed (Some r) old new (inr c) some = (c.device_failed refl).1

  module _ (old new : Serving C) (input : Input) where
    device_failed : IsCalled device old input (Err faults.Device) new → (needs_opening : Bool)
        → old.site.book.needs_opening ≡ needs_opening → new.site.book.needs_opening ≡ true
    device_failed is true opened = rw (is.refused opened).1 opened
    device_failed is false opened =
        failed (effect old.site old.volatile input).commits old.site.book new.site.book
        (is.answered opened).keeps (is.answered opened).gives

    needs_open : IsCalled device old input (Err faults.NeedsOpen) new → (needs_opening : Bool)
        → old.site.book.needs_opening ≡ needs_opening → new.site.book.needs_opening ≡ true
    needs_open is true opened = rw (is.refused opened).1 opened
    needs_open is false opened = absurd (is.answered opened).gives

    called : (result : Result Answer SiteFault) → IsCalled device old input result new
        → or_one (notices_of (number old) input result) ≡ true
        → new.site.book.needs_opening ≡ true
    called (Ok answer) is stops =
        absurd (cc (line_says_no (number old) input answer.line, stops))
    called (Err faults.Device) is stops = device_failed is old.site.book.needs_opening refl
    called (Err faults.NeedsOpen) is stops = needs_open is old.site.book.needs_opening refl
    called (Err fault) is stops = absurd (cc stops)

  pub last_needs_opening : (addresses : List ℕ) (new : Serving C) (done : Done)
      → or_one done.notices ≡ true → (gives : Option (List ℕ → Result TreeFacts TreeFault))
      (old : Serving C) (request : Request)
      → comes_of device addresses gives old request done new
      → new.site.book.needs_opening ≡ true
  last_needs_opening addresses new done stops gives old request comes =
      elim (came device addresses new done gives old request comes) [
        | inl c ↦ called c.at new c.input c.result c.called (c.says stops)
        | inr (same, says) ↦ rw same (says stops)
      ]
