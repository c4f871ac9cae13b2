-- What opening a cell gives, by its contents.
use Rattle.std.proofs.Common.{◌≡◌, ◌≢◌, ℕ, List, [], length, take, Ok, Err, refl, sym, ap}
use Rattle.std.proofs.Common.{◌∙◌, arith, inl, inr, length-append}
use Rattle.std.proofs.lemmas.List.{append-nil, take_at}
use Rattle.records.specs.declared.fault.JournalFault.TheVariants as faults
use Rattle.records.specs.declared.owner.Owner.{Owner}
use Rattle.records.specs.Starts.{Start, text_bytes}
use Rattle.records.specs.Journals.{IsEnd, IsDamagedAt, DecodesTo}
use Rattle.ledger.specs.declared.contents.Contents.{Contents}
use Rattle.ledger.specs.declared.ending.Ending.{Ending}
use Rattle.ledger.specs.declared.ending.Ending.TheVariants.{Whole, Torn, Damaged}
use Rattle.ledger.specs.Cells.{EndsWith, IsCell}
use Rattle.ledger.proofs.Readings.{says_all}
use Rattle.ledger.proofs.CellContents.{weights_of}

end_of : (owner : Owner) (bytes : List ℕ) (start : Start) (rest : List ℕ) (ending : Ending)
    → EndsWith owner bytes start rest ending → ((place : ℕ) → ending ≢ Damaged place)
    → IsEnd owner start rest
end_of owner bytes start rest Whole h whole = inl h
end_of owner bytes start rest (Torn count) h whole = inr h.0
end_of owner bytes start rest (Damaged place) h whole = absurd (whole place refl)

pub opens : (bytes : List ℕ) (contents : Contents) → IsCell bytes contents
    → ((place : ℕ) → contents.ending ≢ Damaged place)
    → DecodesTo contents.owner bytes (Ok contents.records.items)
opens bytes contents is whole =
    rw is.records_are
    (says_all contents.owner bytes is.start is.records is.rest is.reaches
    (end_of contents.owner bytes is.start is.rest contents.ending is.ends whole)
    (weights_of is.start contents.owner.members.weights contents.names_weights is.weights_are))

says_damage : (owner : Owner) (bytes : List ℕ) (place : ℕ) → IsDamagedAt owner place bytes
    → DecodesTo owner bytes (Err (faults.Damaged place))
unfolding DecodesTo
says_damage owner bytes place h = h

pub damaged : (bytes : List ℕ) (contents : Contents) (place : ℕ) → IsCell bytes contents
    → contents.ending ≡ Damaged place
    → DecodesTo contents.owner bytes (Err (faults.Damaged place))
    × DecodesTo contents.owner (take place bytes) (Ok contents.records.items)
damaged bytes contents place is at =
    let owner = contents.owner in
    let text = text_bytes owner is.start is.records in
    let ends : EndsWith owner bytes is.start is.rest (Damaged place) = rw at at is.ends in
    let size : place ≡ length text = omega (
      arith,
      ends.1,
      ap length is.reaches.bytes_are,
      length-append text is.rest,
    ) in (
      says_damage owner bytes place (inr (record {
        start = is.start;
        records = is.records;
        rest = is.rest;
        reaches = is.reaches;
        damage = ends.0;
        place_is = size;
      })),
      rw is.records_are
          (says_all owner (take place bytes) is.start is.records []
          (record {
            is_start = is.reaches.is_start;
            are_records = is.reaches.are_records;
            bytes_are = ap (take place) is.reaches.bytes_are
                ∙ take_at text is.rest place (sym size) ∙ sym (append-nil text);
          })
          (inl refl)
          (weights_of is.start owner.members.weights contents.names_weights is.weights_are)),
    )
