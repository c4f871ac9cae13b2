-- All but the last of the records that a reader finds in a cell in use outlive a crash.
use Rattle.std.proofs.Common.{◌≡◌, inl, inr, ℕ, ◌-◌, List, [], ◌∷◌, ◌++◌, length, take, drop}
use Rattle.std.proofs.Common.{Option, Some, None, Ok, refl, sym, ap, ◌∙◌, arith}
use Rattle.std.proofs.Common.{length-append, append-nil, append_assoc}
use Rattle.std.specs.Option.{option_to_list}
use Rattle.std.proofs.Math.Seq.{take-append_seam}
use Rattle.std.proofs.lemmas.List.{take-append-drop}
use Rattle.cell_device.specs.Images.{Image, Leaves, at_rest, with_bytes, keeps}
use Rattle.records.specs.declared.owner.Owner.{Owner}
use Rattle.records.specs.declared.record.Record.{Record}
use Rattle.records.specs.Journals.{DecodesTo}
use Rattle.records.specs.Layout.{record_bytes}
use Rattle.records.specs.Records.{IsRecord}
use Rattle.records.specs.Texts.{IsTextOf, kept_record, kept_records}
use Rattle.records.proofs.OneReading.{same_records_said}
use Rattle.records.proofs.Texts.{text_atomic, text_says}
use Rattle.book.proofs.AtRest.{keeps_appended, keeps_same}
use Rattle.book.specs.Unsynced.{IsInUse, synced_records}

-- the synced ones of these records, with the new one or without
first_of : (records : List Record) (o p : Option Record) → (others : List Record)
    × (records ++ option_to_list p ≡ synced_records (records ++ option_to_list o) ++ others)
first_of records None p =
    let n = length (records ++ []) - 1 in (
      drop n records ++ option_to_list p,
      rw (append-nil records, ← append_assoc, take-append-drop) refl,
    )
first_of records (Some new) p = (option_to_list p, rw all refl)
  where
    all : synced_records (records ++ new ∷ []) ≡ records
    all = ap (λ (n : ℕ). take n (records ++ new ∷ []))
        (omega (arith, length-append records (new ∷ [])))
        ∙ take-append_seam records (new ∷ [])

-- what bytes say that a crash leaves of a text and a record after it
after_text : (owner : Owner) (records : List Record) (text : List ℕ) (new : Record)
    (bytes : List ℕ) (found : List Record) → IsTextOf owner records text → IsRecord new
    → Leaves (with_bytes (record_bytes new) (at_rest text)) bytes
    → DecodesTo owner bytes (Ok found)
    → (o : Option Record) × (found ≡ records ++ option_to_list o)
after_text owner records text new bytes found is fine (k, left) says = (
  kept_record k new,
  same_records_said owner found (kept_records k records new) bytes says
      (rw (left, keeps_appended k text (record_bytes new))
      (text_atomic owner records text new k is fine)),
)

at_text : (owner : Owner) (records : List Record) (text bytes : List ℕ) (found : List Record)
    → IsTextOf owner records text → Leaves (at_rest text) bytes → DecodesTo owner bytes (Ok found)
    → (o : Option Record) × (found ≡ records ++ option_to_list o)
at_text owner records text bytes found is (k, left) says = (
  None,
  same_records_said owner found records bytes says
      (rw (left, keeps_same k text) (text_says owner records text is))
      ∙ sym (append-nil records),
)

both : (records found kept : List Record) → (o : Option Record) × (found ≡ records ++ option_to_list o)
    → (p : Option Record) × (kept ≡ records ++ option_to_list p)
    → (others : List Record) × (kept ≡ synced_records found ++ others)
both records found kept (o, one) (p, other) =
    let first = first_of records o p in (first.0, rw (other, one) first.1)

pub all_but_the_last : (owner : Owner) (i : Image) (seen left : List ℕ) (found kept : List Record)
    → IsInUse owner i → Leaves i seen → Leaves i left → DecodesTo owner seen (Ok found)
    → DecodesTo owner left (Ok kept)
    → (others : List Record) × (kept ≡ synced_records found ++ others)
all_but_the_last owner i seen left found kept (records, text, is, inl rests) a b says keeps =
    both records found kept
    (at_text owner records text seen found is (rw rests at a) says)
    (at_text owner records text left kept is (rw rests at b) keeps)
all_but_the_last owner i seen left found kept (records, text, is, inr (new, fine, more)) a b says
    keeps =
    both records found kept
    (after_text owner records text new seen found is fine
    (rw more at a) says)
    (after_text owner records text new left kept is fine
    (rw more at b) keeps)
