use Rattle.std.proofs.Common.{map, refl, sym, ap}
use Rattle.records.specs.SlotStates.{known_of, deposit_of}
use Rattle.site.specs.Datagrams.{handed_out}
use Rattle.site.proofs.Registered.{some_of, none_of, deposit_refused, deposited_again, deposited}
use Rattle.site.proofs.Seen.{as_seen}
use Rattle.site.proofs.member_site.Site.register.Goals as goal

pub returns-in-Some : goal.returns-in-Some
returns-in-Some g c volatile stands =
    deposit_refused g.C.Cell.device c.args.self.now volatile c.args.slot.now c.args.bag _ _
    (as_seen (deposit_of c.args.slot.now) c.self.view_is
    (c.deposit-own.ensures _ _ c.self.invariant.of))
    (as_seen (known_of c.args.slot.now) c.self.view_is (c.known.ensures _ _ c.self.invariant.of))
    stands c.in-Some.fault (cc (c.deposit_fault.ensures, c.in-Some.is))

pub returns-then-is_some : goal.returns-then-is_some
returns-then-is_some g c volatile stands =
    let there = some_of c.deposit-own.result (sym c.if-is_some.ensures) in
    deposited_again g.C.Cell.device c.args.self.now volatile c.args.slot.now c.args.bag _ _
    (as_seen (deposit_of c.args.slot.now) c.self.view_is
    (c.deposit-own.ensures _ _ c.self.invariant.of))
    (as_seen (known_of c.args.slot.now) c.self.view_is (c.known.ensures _ _ c.self.invariant.of))
    stands (cc (c.deposit_fault.ensures, c.in_default.is)) there.0 there.1 _ refl
    (ap (map handed_out) c.new-sends.ensures.items)

pub returns : goal.returns
returns g c volatile stands =
    deposited g.C.Cell.device c.args.self.now volatile c.args.slot.now c.args.bag _ _
    (as_seen (deposit_of c.args.slot.now) c.self.view_is
    (c.deposit-own.ensures _ _ c.self.invariant.of))
    (as_seen (known_of c.args.slot.now) c.self.view_is (c.known.ensures _ _ c.self.invariant.of))
    stands (cc (c.deposit_fault.ensures, c.in_default.is)) c.commit_and_answer.new.self
    (map handed_out c.new-sends.result.items) c.commit_and_answer.result
    (none_of c.deposit-own.result (sym c.if-is_some.ensures))
    (ap (map handed_out) c.new-sends.ensures.items)
    (rw c.in_ok-copy.ensures at c.commit_and_answer.ensures)
