-- The mark up to which a cell is synced.
use Rattle.std.proofs.Common.{◌≡◌, ◌≢◌, ◌+◌, ◌-◌, ℕ, zero, suc, List, [], ◌++◌, length, take}
use Rattle.std.proofs.Common.{Option, None, Some, refl, ap, ◌∙◌, arith, inl, inr}
use Rattle.std.proofs.lemmas.List.{length-append, take-append-le, append-nil}
use Rattle.std.proofs.lemmas.Bool.Decides.{leb_tells}
use Rattle.std.proofs.Math.Seq.{take-append-add, take-length}
use Rattle.records.specs.declared.record.Record.{Record}
use Rattle.ledger.specs.declared.ending.Ending.{Ending}
use Rattle.ledger.specs.declared.ending.Ending.TheVariants as endings
use Rattle.ledger.specs.declared.part.LastPart.{LastPart}
use Rattle.ledger.specs.declared.part.Part.{Part}
use Rattle.ledger.specs.Parts.{Told, IsWhole, IsDamaged, and_part}
use Rattle.audit_command.specs.declared.mark.Mark.{Mark}
use Rattle.audit_command.specs.declared.mark.Mark.TheVariants.{Unsaid, Ahead, Passed}
use Rattle.audit_command.specs.CellReadings.{AreSynced, count_if_whole}
use Rattle.audit_command.specs.inner.Marks.{IsMark, EndsBefore, begins, mark_after, more_synced}
use Rattle.audit_command.specs.inner.Marks.{waiting_if_whole}

pub mark_begins : (synced : Option ℕ) → IsMark synced [] 0 (begins synced)
mark_begins None = refl
mark_begins (Some k) = ap Some (omega arith)

-- so many records are synced, and the mark says how many of them come after those that are counted
abbrev pub EndsAtMark : (synced : Option ℕ) → List ℕ → (counted : ℕ) → Mark → Type 0
EndsAtMark synced bytes counted m =
    (n : ℕ) × AreSynced synced bytes n × (more_synced m ≡ n - counted)

module _ (synced : Option ℕ) (taken : List ℕ) (counted : ℕ) where
  -- after more bytes
  pub mark_read : (piece : List ℕ) (m : Mark) → EndsBefore (length piece) m
      → IsMark synced taken counted m
      → IsMark synced (taken ++ piece) counted (mark_after (length piece) 0 m)
  mark_read piece Unsaid within is = is
  mark_read piece (Ahead more) within is =
      is ∙ ap Some (omega (arith, length-append taken piece))
  mark_read piece (Passed left) within (k, n, said, le, counts, is) = (
    k,
    n,
    said,
    omega (arith, length-append taken piece),
    rw (take-append-le k taken piece le) counts,
    omega arith,
  )

  -- after more counted records
  pub mark_counted : (more : ℕ) (m : Mark) → IsMark synced taken counted m
      → IsMark synced taken (counted + more) (mark_after 0 more m)
  mark_counted more Unsaid is = is
  mark_counted more (Ahead a) is = is ∙ ap Some (omega arith)
  mark_counted more (Passed left) (k, n, said, le, counts, is) =
      (k, n, said, le, counts, omega arith)

  pub end_counted_on : (more : ℕ) (m : Mark) → EndsAtMark synced taken counted m
      → EndsAtMark synced taken (counted + more) (mark_after 0 more m)
  end_counted_on more m ends = (ends.0, ends.1, grind (arith, ends.2))

  -- ---- where a cell ends

  passed_end : (more : List ℕ) (left : ℕ) → IsMark synced taken counted (Passed left)
      → EndsAtMark synced (taken ++ more) counted (Passed left)
  passed_end more left (k, n, said, le, counts, is) = (
    n,
    rw said (inl (
      omega (arith, length-append taken more),
      rw (take-append-le k taken more le) counts,
    )),
    is,
  )

  -- it ends here
  pub end_mark : (m : Mark) → m ≢ Ahead 0 → IsMark synced taken counted m
      → EndsAtMark synced taken counted m
  end_mark Unsaid some is = (0, rw is refl, omega arith)
  end_mark (Ahead zero) some is = absurd (some refl)
  end_mark (Ahead (suc more)) some is = (0, rw is (inr (omega arith, refl)), omega arith)
  end_mark (Passed left) some is = rw append-nil at (passed_end [] left is)

  -- it is damaged, whatever follows
  pub damage_mark : (m : Mark) (told : Told) (ending : Ending) → IsDamaged ending
      → ((more : List ℕ) → IsWhole (taken ++ more) told ending) → IsMark synced taken counted m
      → (more : List ℕ) → EndsAtMark synced (taken ++ more) counted m
  damage_mark Unsaid told ending damaged whole is more = (0, rw is refl, omega arith)
  damage_mark (Ahead a) told ending damaged whole is more = (
    0,
    rw is (elim (leb_tells (length taken + a) (length (taken ++ more))) [
      | inl t ↦ inl (
        t.1,
        rw take-append-add (told, ending, whole (take a more), rw damaged.1),
      )
      | inr f ↦ inr (omega (arith, f.1), refl)
    ]),
    omega arith,
  )
  damage_mark (Passed left) told ending damaged whole is more = passed_end more left is

-- ---- the synced bytes end here

waiting : (ending : Ending) (told : Told) (sure held : List Record) (part : Part)
    → told.records ≡ sure ++ held
    → waiting_if_whole ending (length held) (length part.records.items)
    ≡ count_if_whole ending (and_part told part) - length sure
waiting endings.Whole told sure held part are =
    omega (arith, ap length are, length-append {A = Record})
waiting _ told sure held part are = omega arith

-- so many of the records that come next are in them
pub mark_passed : (synced : Option ℕ) (taken : List ℕ) (told : Told) (sure held : List Record)
    (last : LastPart) (left : ℕ) → IsMark synced taken (length sure) (Ahead 0)
    → told.records ≡ sure ++ held
    → IsWhole taken (and_part told last.part) last.ending
    → left ≡ waiting_if_whole last.ending (length held) (length last.part.records.items)
    → IsMark synced taken (length sure) (Passed left)
mark_passed synced taken told sure held last left is are whole counts = (
  length taken,
  count_if_whole last.ending (and_part told last.part),
  is ∙ ap Some (omega arith),
  omega arith,
  rw take-length (and_part told last.part, last.ending, whole, refl),
  counts ∙ waiting last.ending told sure held last.part are,
)
