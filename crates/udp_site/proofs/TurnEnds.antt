-- How one turn ends.
use Rattle.std.specs.List.{list_any}
use Rattle.std.specs.Io.KnownBytes.{Appends}
use Rattle.std.proofs.Common.{inl, inr, sym, ◌∙◌, ◌≡◌, ◌⊎◌, ℕ, Bool, true, false, List, [], ◌∷◌}
use Rattle.std.proofs.Common.{length, take, Option, Result, Ok, Err, OnOk, OnErr, IfErr, flat_map}
use Rattle.std.proofs.Math.Seq.{take-length}
use Rattle.site.specs.Sites.{OpenSite}
use Rattle.lines.specs.declared.line.Line.{Line}
use Rattle.lines.specs.Texts.{line_text}
use Rattle.std.specs.declared.alloc.AllocError.{AllocError}
use Rattle.udp_site.specs.declared.fault.ServeFault.{ServeFault}
use Rattle.udp_site.specs.declared.fault.ServeFault.TheVariants as faults
use Rattle.udp_site.specs.Traffic.{Taken, Move, Took, Grows, all_handed}
use Rattle.udp_site.specs.Turns.{Serving}
use Rattle.udp_site.specs.Served.{Rule, Outside, Turned, moves_of, text_of, by_identity}
use Rattle.udp_site.specs.Served.{is_the_last, outside}
use Rattle.udp_site.specs.inner.Outcomes.{ComesTo, at}
use Rattle.udp_site.specs.inner.OneTurn as one
use Rattle.udp_site.specs.inner.OneTurn.{OneTurn}
use Rattle.udp_site.specs.inner.Receipts.{Receives}
use Rattle.udp_site.specs.inner.StopLines.{line_of_the_cell}
use Rattle.udp_site.proofs.Growth.{Grows-trans, Appends-none}
use Rattle.udp_site.proofs.Printed.{one_is_last, text_is}

-- what is so is so where a call succeeds
pub on_ok : {P : Type 0} (result : Result (Unit {0}) ServeFault) → P → OnOk result P
on_ok (Ok x) p = p
on_ok (Err e) p = tt

-- all of these lines were written, or a part
module _ (before after : Outside) where
  abbrev pub AllOf : List Line → Type 0
  AllOf lines = Appends before.written after.written (flat_map (line_text by_identity) lines)

  abbrev pub PartOf : List Line → Type 0
  PartOf lines =
      (count : ℕ) × Appends before.written after.written
      (take count (flat_map (line_text by_identity) lines))

-- nothing of a turn was written
module _ {C : Type 0} (rule : Rule C) (before : Outside) (traffic : Option (List Move))
    (old : Serving C) (site : OpenSite C) (idle tried : ℕ) where
  abbrev Ends : ServeFault → Type 0
  Ends fault =
      OneTurn rule before (outside traffic before.written) old site idle tried (Err fault)

  -- nothing was received
  pub not_begun : (fault : ServeFault) → Receives before.traffic traffic (Err fault)
      → old.site ≡ site → Ends fault
  not_begun faults.Port failed same = (same, (failed, Appends-none before.written))
  not_begun faults.Memory grows same = inl (same, (grows, Appends-none before.written))
  not_begun _ received same = absurd received

  -- this was received, and memory ran out before all was handed out
  pub broken_off : (took : Taken) (mid : Option (List Move)) (start lines : List Line)
      → Grows before.traffic mid (Took took ∷ []) → (fault : AllocError)
      → ComesTo (at idle tried (rule old took)) mid traffic start lines site (Err fault)
      → Ends faults.Memory
  broken_off took mid start lines received fault (done, next, comes, same, count, grows) =
      let moved = Grows-trans _ _ _ (Took took ∷ []) _ received grows in
      let turn : Turned = record { took = took; done = done } in
      inr (count, (turn, next, comes.0, same, (moved, Appends-none before.written)))

-- all was handed out
module _ {C : Type 0} (rule : Rule C) (before after : Outside) (old : Serving C)
    (site : OpenSite C) (idle tried : ℕ) (took : Taken) (mid : Option (List Move))
    (start lines : List Line) (received : Grows before.traffic mid (Took took ∷ []))
    (none : start ≡ [])
    (comes : ComesTo (at idle tried (rule old took)) mid after.traffic start lines site (Ok tt))
  where
    abbrev turn : Turned
    turn = record { took = took; done = comes.0 }

    moved : Grows before.traffic after.traffic (moves_of turn)
    moved = Grows-trans _ _ _ (Took took ∷ []) _ received comes.5

    text : flat_map (line_text by_identity) lines ≡ text_of turn
    text = text_is start lines comes.0.notices none comes.6

    is_last : (last : Bool) → last ≡ list_any line_of_the_cell lines → is_the_last turn ≡ last
    is_last last is = sym (is ∙ one_is_last start lines comes.0.notices none comes.6)

    -- a part of its text was written
    in_writing : (last : Bool) → last ≡ list_any line_of_the_cell lines
        → PartOf before after lines → one.InWriting rule before after old site last
    in_writing last is (count, written) = (
      turn,
      comes.1,
      comes.2.0,
      comes.3,
      is_last last is,
      count,
      (moved, rw text at written),
    )

    -- the lines were written, or that failed, and the site can go on
    pub went_on : (result : Result (Unit {0}) ServeFault) → false ≡ list_any line_of_the_cell lines
        → OnOk result (AllOf before after lines) → OnErr result (PartOf before after lines)
        → IfErr result (λ f. f ≡ faults.Memory → after.written ≡ before.written)
        → IfErr result (λ f. (f ≡ faults.Output) ⊎ (f ≡ faults.Memory))
        → OneTurn rule before after old site idle tried result
    went_on (Ok x) is written part none which = (
      turn,
      comes.1,
      comes.2.0,
      comes.3,
      comes.2.1,
      comes.2.2,
      comes.4,
      is_last false is,
      (moved, rw text at written),
    )
    went_on (Err f) is all part none (inl output) = rw output (in_writing false is part)
    went_on (Err f) is all part none (inr memory) =
        rw memory
        (inr (
          length (all_handed comes.0.posts),
          (
            turn,
            comes.1,
            comes.2.0,
            comes.3,
            (rw take-length moved, rw (none memory) (Appends-none before.written)),
          ),
        ))

    -- or its cell has failed it
    pub by_the_cell : (result : Result (Unit {0}) ServeFault)
        → true ≡ list_any line_of_the_cell lines → OnOk result (AllOf before after lines)
        → OnErr result (PartOf before after lines) → one.InWriting rule before after old site true
    by_the_cell (Ok x) is written part =
        in_writing true is (length (flat_map (line_text by_identity) lines), rw take-length written)
    by_the_cell (Err f) is all part = in_writing true is part
