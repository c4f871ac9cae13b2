-- The lines of versions, one after another.
use Rattle.std.proofs.Common.{◌≡◌, ℕ, zero, suc, List, [], ◌∷◌, ◌++◌, take}
use Rattle.std.proofs.Common.{refl, sym, ap, ◌∙◌, append-nil, append_assoc}
use Rattle.std.specs.List.{flat_map}
use Rattle.std.specs.Prelude.{slice_get}
use Rattle.fed_types.specs.Slots.{SlotName}
use Rattle.records.specs.declared.record.Record.{Record}
use Rattle.slot_table.specs.Listings.{Listing}
use Rattle.ledger.specs.declared.version_filter.VersionFilter.{VersionFilter}
use Rattle.ledger.specs.declared.row.Row.{Row}
use Rattle.ledger.specs.Ledgers.{listed_line, versions_text}
use Rattle.ledger.specs.Versions.{slots_of, standing_of}
use Rattle.ledger.specs.inner.Rows.{text_if, listed_in, standing_by, Represents}

-- the text of one more
module _ {X : Type 0} (f : X → List ℕ) where
  pub text_next : (xs : List X) (n : ℕ)
      → flat_map f (take (suc n) xs) ≡ flat_map f (take n xs) ++ text_if f (slice_get xs n)
  text_next [] zero = refl
  text_next [] (suc n) = refl
  text_next (x ∷ xs) zero = append-nil (f x)
  text_next (x ∷ xs) (suc n) =
      rw (text_next xs n)
      (sym (append_assoc (f x) (flat_map f (take n xs)) (text_if f (slice_get xs n))))

same_lines : (f g : SlotName → List ℕ) → ((slot : SlotName) → f slot ≡ g slot)
    → (slots : List SlotName) → flat_map f slots ≡ flat_map g slots
same_lines f g same [] = refl
same_lines f g same (slot ∷ slots) = rw (same slot, same_lines f g same slots) refl

-- the lines of what is kept are those of the records
pub lines_are : (wanted : VersionFilter) (versions : Listing Row) (records : List Record)
    → Represents versions records
    → flat_map (listed_in wanted versions.rows) versions.slots ≡ versions_text wanted records
unfolding versions_text
lines_are wanted versions records stands =
    ap (flat_map (listed_in wanted versions.rows)) stands.slots
    ∙ same_lines (listed_in wanted versions.rows)
    (λ slot. listed_line wanted slot (standing_of records slot))
    (λ slot. ap (λ (row : Row). listed_line wanted slot (standing_by row)) (stands.says slot))
    (slots_of records)
