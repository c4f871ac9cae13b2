use Rattle.std.proofs.Common.{◌≡◌, ℕ, ◌==◌, Bool, true, false}
use Rattle.site.specs.Sites.{OpenSite}
use Rattle.udp_site.specs.Turns.{Serving, number}
use Rattle.udp_site.proofs.Questions.{asks_by, isnt_asked, not_asked}
use Rattle.udp_site.proofs.Same.{same_number}
use Rattle.udp_site.proofs.queries.ask_other.Given.{Over}
use Rattle.udp_site.proofs.queries.ask_other.Goals.{Else-eq}
use Rattle.udp_site.proofs.queries.ask_other.Goals as goal

-- the test whether it is the site, by the site's number
same_test : {C : Type 0} (old : Serving C) (start : OpenSite C) (member n : ℕ) (test : Bool)
    → old.site ≡ start → n ≡ start.book.owner.site → test ≡ (member == n)
    → (member == number old) ≡ test
same_test old start member n test there from is = cc

pub returns-then-eq-clause-comes : goal.returns-then-eq-clause-comes
returns-then-eq-clause-comes g c old there serves =
    not_asked c.args.addresses.now old c.args.slot.now c.args.member
    (same_test old _ _ _ true there c.number.ensures c.if-eq.ensures) _ _

is_other : (g : Over) (c : Else-eq g) (old : Serving g.row.C.Denot) → old.site ≡ c.args.site.now
    → (c.args.member == number old) ≡ false
is_other g c old there = same_test old _ _ _ false there c.number.ensures c.if-eq.ensures

pub returns-in-Ok-clause-comes : goal.returns-in-Ok-clause-comes
returns-in-Ok-clause-comes g c old there serves =
    asks_by c.args.addresses.now old c.args.slot.now c.args.member
    (is_other g (goal.at.returns-in-Ok-clause-comes g c).Else-eq old there)
    g.C.Cell.device c.args.site.now there serves c.requires c.in-Ok.answer c.in-Ok.ensures.answer
    _ _ _ _ (rw c.as_slice.ensures.value at c.send_all.ensures.hands)

pub returns-in-Err-clause-comes : goal.returns-in-Err-clause-comes
returns-in-Err-clause-comes g c old there serves =
    isnt_asked c.args.addresses.now old c.args.slot.now c.args.member
    (is_other g (goal.at.returns-in-Err-clause-comes g c).Else-eq old there) _ _ _ _
    (rw (← same_number old there c.number-in-Err-2.ensures.value
    c.number-in-Err.ensures) c.push_refused.ensures)
