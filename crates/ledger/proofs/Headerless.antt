-- Bytes that begin with no header, whatever follows.
use Rattle.std.proofs.Common.{◌≡◌, ◌≢◌, ℕ, ◌≤◌, List, [], ◌∷◌, ◌++◌, length, take}
use Rattle.std.proofs.Common.{drop, refl, sym, ap, arith, inl, inr, length-append}
use Rattle.std.proofs.lemmas.List.{take_at, take-append-le, take-append-drop, length-drop}
use Rattle.records.specs.declared.owner.Owner.{Owner}
use Rattle.records.specs.Layout.{header_of, old_header}
use Rattle.records.specs.Numbers.{front_len}
use Rattle.records.proofs.Apart.{header_size, old_header_size}
use Rattle.ledger.specs.declared.ending.Ending.TheVariants.{Damaged}
use Rattle.ledger.specs.declared.part.LastPart.{LastPart}
use Rattle.ledger.specs.Cells.{HasNoOwner, IsHeaded}
use Rattle.ledger.specs.Headless.{AreCut, BeginsHeader}
use Rattle.ledger.specs.Parts.{IsEmpty, TellsLast, nothing}
use Rattle.ledger.proofs.ToldParts.{told_nothing}

module _ (bytes more : List ℕ) (long : 77 ≤ length bytes) where
  -- they begin with what all begin with
  begins : (first rest : List ℕ) → bytes ++ more ≡ first ++ rest → length first ≤ length bytes
      → bytes ≡ first ++ drop (length first) bytes
  begins first rest is fits =
      let n = length first in
      let front : take n bytes ≡ first =
      rw (← take-append-le n bytes more fits, is) (take_at first rest n refl) in
      sym (rw front at (take-append-drop {A = ℕ} n bytes))

  headed : (owner : Owner) → IsHeaded owner (bytes ++ more) → IsHeaded owner bytes
  headed owner (inl (rest, is)) =
      let first = old_header owner in
      inl (
        drop (length first) bytes,
        begins first rest is (omega (arith, long, old_header_size owner)),
      )
  headed owner (inr (weights, rest, are, is)) =
      let first = header_of owner weights in
      inr (
        weights,
        drop (length first) bytes,
        are,
        begins first rest is (omega (arith, long, header_size owner weights, are.0.1)),
      )

  never_headed : HasNoOwner bytes → HasNoOwner (bytes ++ more)
  never_headed none owner site has = none owner site (headed owner has)

  all_long : 77 ≤ length (bytes ++ more)
  all_long = omega (arith, long, length-append bytes more)

  uncut : (after : List ℕ) → 64 ≤ length after → ¬ AreCut after
  uncut [] some cut = omega (arith, some)
  uncut (count ∷ weights) some cut = omega (arith, some, cut.0, cut.1)

  no_beginning : ¬ BeginsHeader (bytes ++ more)
  no_beginning (inl (short, first)) = omega (arith, short, all_long)
  no_beginning (inr (front, first, site, cut)) =
      uncut (drop front_len (bytes ++ more))
      (omega (arith, all_long, length-drop front_len (bytes ++ more))) cut

  some_bytes : bytes ++ more ≢ []
  some_bytes e = omega (arith, all_long, ap length e)

  pub damaged_headless : HasNoOwner bytes → (last : LastPart) → IsEmpty last.part
      → last.ending ≡ Damaged 0 → TellsLast (bytes ++ more) nothing last
  damaged_headless none last empty at = (
    inl refl,
    inr (
      never_headed none,
      rw at (no_beginning, some_bytes, refl),
      told_nothing nothing last.part empty,
    ),
  )
