-- One more record in the rows of an acceptor.
use Rattle.std.proofs.Common.{
  ◌≡◌,
  Bool,
  true,
  false,
  cond,
  sym,
  ap,
  ◌∙◌,
  refl,
  List,
  [],
  ◌∷◌,
  ◌++◌,
  Option,
  None,
  Some,
}
use Rattle.fed_types.specs.Slots.{SlotName, same_slot}
use Rattle.fed_types.specs.Laws.Slots.{same_slot_decides}
use Rattle.records.specs.declared.entry.Entry.{Entry}
use Rattle.records.specs.declared.record.Record.{Record}
use Rattle.records.specs.SlotStates.{promised_of, vote_of}
use Rattle.records.proofs.SlotStates.{promised-push, vote-push}
use Rattle.slot_table.specs.Rows.{Rows, row_at, IsWith}
use Rattle.acceptor.specs.declared.row.Row.{Row}
use Rattle.acceptor.specs.inner.Noted.{noted}
use Rattle.acceptor.specs.Rows.{row_or_empty, row_of, Represents}

-- the row that these records give
abbrev row_from : SlotName → List Record → Row
row_from slot records =
    record { promised = promised_of slot records; vote = vote_of slot records }

row_push : (slot : SlotName) (records : List Record) (r : Record)
    → row_from slot (records ++ r ∷ [])
    ≡ noted (row_from slot records) (cond (same_slot r.slot slot) (Some r.body) None)
row_push slot records r =
    λ i. record { promised = promised-push slot records r i; vote = vote-push slot records r i }

-- the row of the record's slot takes its entry, and all others stay
pub noted_stands : (old new : Rows Row) (r : Record)
    → IsWith old new r.slot (noted (row_of old r.slot) (Some r.body))
    → (records : List Record) → Represents old records → Represents new (records ++ r ∷ [])
noted_stands old new r put records stands slot =
    ap row_or_empty (put slot) ∙ go (same_slot r.slot slot) refl ∙ sym (row_push slot records r)
  where
    go : (t : Bool) → same_slot r.slot slot ≡ t
        → row_or_empty (cond t (Some (noted (row_of old r.slot) (Some r.body))) (row_at old slot))
        ≡ noted (row_from slot records) (cond t (Some r.body) None)
    go true e =
        let same : r.slot ≡ slot = (same_slot_decides r.slot slot).0 e in
        ap (λ (s : SlotName). noted (row_of old s) (Some r.body)) same
        ∙ ap (λ (before : Row). noted before (Some r.body)) (stands slot)
    go false e = stands slot

-- rows that say the same represent the same records
pub same_stands : (old new : Rows Row) → ((slot : SlotName) → row_of new slot ≡ row_of old slot)
    → (records : List Record) → Represents old records → Represents new records
same_stands old new same records stands slot = same slot ∙ stands slot
