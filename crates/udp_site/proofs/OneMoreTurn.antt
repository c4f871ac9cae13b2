-- Turns, and then one more.
use Rattle.std.proofs.Common.{inl, inr, refl, ◌∙◌, length-append, ◌≡◌, ℕ, ◌+◌, ◌<◌, false, List, []}
use Rattle.std.proofs.Common.{◌∷◌, ◌++◌, length, Result, Ok, Err, Bool, true}
use Rattle.site.specs.Sites.{OpenSite}
use Rattle.udp_site.specs.declared.fault.ServeFault.{ServeFault}
use Rattle.udp_site.specs.declared.fault.ServeFault.TheVariants as faults
use Rattle.udp_site.specs.Traffic.{Move}
use Rattle.udp_site.specs.Turns.{Serving, IsServing}
use Rattle.udp_site.specs.Served.{Rule, Outside, Turned, Leads, Shows, moves_of, text_of}
use Rattle.udp_site.specs.Served.{is_the_last, Serves, EndsInWriting}
use Rattle.udp_site.specs.inner.OneTurn.{Adds, OneTurn}
use Rattle.udp_site.specs.inner.OneTurn as one
use Rattle.udp_site.proofs.Shown.{shown_more, shown_whole}

module _ {C : Type 0} (rule : Rule C) where
  leads_more : (start mid end : Serving C) (turns : List Turned) (turn : Turned)
      → Leads rule start turns mid → rule mid turn.took turn.done end → is_the_last turn ≡ false
      → Leads rule start (turns ++ turn ∷ []) end
  leads_more start mid end [] turn leads comes goes_on = (end, rw leads comes, goes_on, refl)
  leads_more start mid end (first ∷ turns) turn (next, first_so, not_last, leads) comes goes_on =
      (next, first_so, not_last, leads_more next mid end turns turn leads comes goes_on)

  -- what a site that serves has done so far: so many turns lead here
  abbrev pub SoFar : (before after : Outside) → (start : Serving C) → (site : OpenSite C)
      → (idle tried count : ℕ) → Type 0
  SoFar before after start site idle tried count =
      (end : Serving C) × (done : List Turned) × (end.site ≡ site) × (end.idle ≡ idle)
      × (end.tried ≡ tried) × IsServing end × (length done ≡ count)
      × Leads rule start done end × Shows before after done [] []

  -- how it ends, where so many turns were wanted
  abbrev pub Ended : (before after : Outside) → (start : Serving C) → OpenSite C → ℕ
      → Result (Unit {0}) ServeFault → Type 0
  Ended before after start site wanted result =
      (end : Serving C) × (done : List Turned) × (end.site ≡ site)
      × Serves rule before after start end wanted done result

  module _ (before mid after : Outside) (start : Serving C) (old new : OpenSite C)
      (idle tried idle_then tried_then count : ℕ)
      (so_far : SoFar before mid start old idle tried count) where
    pub one_turn_more :
        OneTurn rule mid after so_far.0 new idle_then tried_then (Ok tt)
        → SoFar before after start new idle_then tried_then (count + 1)
    one_turn_more (turn, next, comes, site, idle_is, tried_is, serving, goes_on, adds) = (
      next,
      so_far.1 ++ turn ∷ [],
      site,
      idle_is,
      tried_is,
      serving,
      rw (length-append so_far.1 (turn ∷ []), so_far.6),
      leads_more start so_far.0 next so_far.1 turn so_far.7 comes goes_on,
      shown_whole moves_of text_of before mid after so_far.1 turn so_far.8 adds,
    )

    module _ (wanted : ℕ) (fewer : count < wanted) where
      short : length so_far.1 < wanted
      short = rw so_far.6 fewer

      shows : (moves : List Move) (text : List ℕ) → Adds mid after moves text
          → Shows before after so_far.1 moves text
      shows moves text = shown_more moves_of text_of before mid after so_far.1 moves text so_far.8

      in_writing : (last : Bool) (part : one.InWriting rule mid after so_far.0 new last)
          → EndsInWriting rule before after last start part.1 so_far.1
      in_writing last (turn, next, comes, site, is, count, adds) =
          (so_far.0, so_far.7, turn, comes, is, count, shows _ _ adds)

      pub ended : (fault : ServeFault)
          → OneTurn rule mid after so_far.0 new idle_then tried_then (Err fault)
          → Ended before after start new wanted (Err fault)
      ended faults.Port (there, adds) =
          (so_far.0, so_far.1, there, (short, (so_far.7, shows _ _ adds)))
      ended faults.Cell (part, needs_opening) =
          (part.1, so_far.1, part.3, (short, in_writing true part, rw part.3 needs_opening))
      ended faults.Memory (inl (there, adds)) =
          (so_far.0, so_far.1, there, (short, inl (so_far.7, shows _ _ adds)))
      ended faults.Memory (inr (count, (turn, next, comes, site, adds))) = (
        next,
        so_far.1,
        site,
        (short, inr (count, (so_far.0, so_far.7, turn, comes, shows _ _ adds))),
      )
      ended faults.Output part = (part.1, so_far.1, part.3, (short, in_writing false part))

  -- all turns were served
  pub all_served : (before after : Outside) (start : Serving C) (site : OpenSite C)
      (idle tried count wanted : ℕ) → SoFar before after start site idle tried count
      → count ≡ wanted → Ended before after start site wanted (Ok tt)
  all_served before after start site idle tried count wanted so_far all =
      (so_far.0, so_far.1, so_far.2, (so_far.6 ∙ all, (so_far.7, so_far.8)))
