-- What a run reports was chosen.
use Rattle.std.proofs.Common.{◌≡◌, inl, inr, ap, List, [], ◌∷◌, Option, None, Some}
use Rattle.std.specs.Option.{option_to_list}
use Rattle.fed_types.specs.declared.bag_id.BagId.{BagId}
use Rattle.fed_types.specs.Lists.{Has}
use Rattle.fed_types.specs.Quorums.{QuorumSystem, AreQuorums}
use Rattle.fed_types.specs.Slots.{SlotName}
use Rattle.fed_types.specs.Laws.Lists.{has_cases, has_one, has_none}
use Rattle.world_law.specs.Laws.{IsChosen, Report, notice_report, notices_of, ReportsAgree}
use Rattle.lines.specs.declared.notice.Notice.{Notice}
use Rattle.world_law.specs.Networks.{Network, new_network, Event, happens, run}
use Rattle.world_law.proofs.Grows.{chosen_grows}
use Rattle.world_law.proofs.Induction.{chosen_once}
use Rattle.world_law.proofs.Kept.{Kept}
use Rattle.world_law.proofs.Runs.{happens_kept, new_kept, run_kept}

has_notice : (o : Option Notice) (m : Notice) → Has m (option_to_list o) → o ≡ Some m
has_notice None m h = absurd (has_none h)
has_notice (Some l) m h = ap Some (has_one h)

module _ (q : QuorumSystem) (laws : AreQuorums q) where
  -- what is chosen stays so
  pub chosen_from : (events : List Event) (w : Network) → Kept q w → (slot : SlotName) (bag : BagId)
      → IsChosen q w slot bag → IsChosen q (run q w events) slot bag
  unfolding run
  chosen_from [] w inv slot bag c = c
  chosen_from (e ∷ es) w inv slot bag c =
      let next = happens_kept q laws w inv e in
      chosen_from es (happens q w e).network next.kept slot bag (chosen_grows next.grows c)

  -- what is reported was chosen
  pub reported_from : (events : List Event) (w : Network) → Kept q w → (m : Notice) (r : Report)
      → Has m (notices_of q w events) → notice_report m ≡ Some r
      → IsChosen q (run q w events) r.slot r.bag
  unfolding run notices_of
  reported_from [] w inv m r h is = absurd (has_none h)
  reported_from (e ∷ es) w inv m r h is =
      let next = happens_kept q laws w inv e in
      elim (has_cases (option_to_list (happens q w e).notice) _ h) [
        | inl first ↦
            chosen_from es (happens q w e).network next.kept r.slot r.bag
            (chosen_grows next.grows
            (next.reports.chosen m r (has_notice (happens q w e).notice m first) is))
        | inr later ↦ reported_from es (happens q w e).network next.kept m r later is
      ]

  pub reports_of_a_run : (events : List Event) → ReportsAgree (notices_of q new_network events)
  reports_of_a_run events m n slot u v h i e f =
      let first = reported_from events new_network (new_kept q) m _ h e in
      let second = reported_from events new_network (new_kept q) n _ i f in
      chosen_once q (run q new_network events) laws (run_kept q laws events) slot u v first second
