use Rattle.std.proofs.Common.{Bool, ◌||◌, is_some, ap, ◌∙◌}
use Rattle.records.specs.SlotStates.{deposit_of, vote_of}
use Rattle.site.proofs.Seen.{as_seen}
use Rattle.site.proofs.member_site.Site.has_vote_or_deposit.Goals as goal

pub returns-then-is_some : goal.returns-then-is_some
returns-then-is_some g c =
    c.if-is_some.true
    ∙ ap (λ (t : Bool). t || is_some (deposit_of c.args.slot.now c.args.self.now.book.records))
    (c.if-is_some.ensures ∙ ap is_some (as_seen (vote_of c.args.slot.now) c.self.view_is
    (c.vote.ensures _ _ c.self.invariant.of)))

pub returns-else-is_some : goal.returns-else-is_some
returns-else-is_some g c =
    c.is_some-else-is_some.ensures
    ∙ ap is_some (as_seen (deposit_of c.args.slot.now) c.self.view_is
    (c.deposit.ensures _ _ c.self.invariant.of))
    ∙ ap (λ (t : Bool). t || is_some (deposit_of c.args.slot.now c.args.self.now.book.records))
    (c.if-is_some.ensures ∙ ap is_some (as_seen (vote_of c.args.slot.now) c.self.view_is
    (c.vote.ensures _ _ c.self.invariant.of)))
