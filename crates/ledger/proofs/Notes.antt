-- What one more record makes of what is kept of each version.
use Rattle.std.proofs.Common.{◌≡◌, Bool, true, false, cond, List, [], ◌∷◌, ◌++◌, Some, None}
use Rattle.std.proofs.Common.{refl, sym, ap, ◌∙◌}
use Rattle.std.proofs.lemmas.List.Sums.{fold-append}
use Rattle.fed_types.specs.Slots.{SlotName, same_slot}
use Rattle.fed_types.specs.Laws.Slots.{same_slot_decides}
use Rattle.records.specs.declared.record.Record.{Record}
use Rattle.records.specs.SlotStates.{deposit_of, known_of, vote_of}
use Rattle.records.proofs.SlotStates.{deposit-push, known-push, vote-push}
use Rattle.slot_table.specs.Listings.{Listing, listed}
use Rattle.slot_table.specs.Rows.{row_at, row_or, IsWith}
use Rattle.ledger.specs.declared.row.Row.{Row}
use Rattle.ledger.specs.inner.Rows.{empty_row, noted, row_after, row_from, Represents}
use Rattle.ledger.specs.Versions.{with_slot, slots_of}

-- no records
pub none_stand : Represents (record { slots = []; rows = [] }) []
unfolding slots_of known_of deposit_of vote_of
none_stand = record { slots = refl; says = λ slot. refl }

slots_push : (records : List Record) (r : Record)
    → slots_of (records ++ r ∷ []) ≡ with_slot (slots_of records) r
unfolding slots_of
slots_push records r = fold-append with_slot [] records (r ∷ [])

row_push : (records : List Record) (r : Record) (slot : SlotName)
    → row_from (records ++ r ∷ []) slot
    ≡ noted (row_from records slot) (cond (same_slot r.slot slot) (Some r.body) None)
row_push records r slot =
    λ i. record {
      known = known-push slot records r i;
      deposit = deposit-push slot records r i;
      vote = vote-push slot records r i;
    }

-- the version of the record goes to the end, if it is new, and what is kept of it takes the entry
pub one_more : (old new : Listing Row) (r : Record)
    → new.slots ≡ listed old.slots r.slot
    → IsWith old.rows new.rows r.slot (row_after old.rows r)
    → (records : List Record) → Represents old records → Represents new (records ++ r ∷ [])
one_more old new r is put records stands = record {
  slots = rw (is, stands.slots) (sym (slots_push records r));
  says = λ slot. ap (row_or empty_row) (put slot) ∙ go slot (same_slot r.slot slot) refl
      ∙ sym (row_push records r slot);
}
  where
    go : (slot : SlotName) (t : Bool) → same_slot r.slot slot ≡ t
        → row_or empty_row
        (cond t (Some (row_after old.rows r)) (row_at old.rows slot))
        ≡ noted (row_from records slot) (cond t (Some r.body) None)
    go slot true e =
        let same : r.slot ≡ slot = (same_slot_decides r.slot slot).0 e in
        rw (same, stands.says slot) refl
    go slot false e = stands.says slot
