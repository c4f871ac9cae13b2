-- What reading a journal says of a cell that begins with a header.
use Rattle.std.proofs.Common.{◌≡◌, ℕ, List, length, Ok, Err, Option, Result, refl, ap}
use Rattle.std.proofs.Common.{arith, inl, inr, length-append}
use Rattle.std.specs.Prelude.{IfOk, IsErr}
use Rattle.std.specs.declared.alloc.AllocError.{AllocError}
use Rattle.fed_types.specs.Faults.{IsOrFault}
use Rattle.records.specs.declared.fault.JournalFault.{JournalFault}
use Rattle.records.specs.declared.owner.Owner.{Owner}
use Rattle.records.specs.declared.record.Record.{Record}
use Rattle.records.specs.Answers.{IsReading}
use Rattle.records.specs.Starts.{Start, HasWeights, records_of, text_bytes}
use Rattle.records.specs.Journals.{Reaches, IsEnd, HasEnd, IsDamagedAt, DecodesTo}
use Rattle.records.proofs.OneReading.{new_not_headed, headed_owner, no_header_headed}
use Rattle.ledger.specs.Cells.{IsHeaded}
use Rattle.ledger.specs.inner.Found.{HasDamage, IsDamageIn, IsDamageFound}
use Rattle.records.specs.declared.fault.JournalFault.TheVariants as faults

pub says_end : (owner : Owner) (bytes : List ℕ) (records : List Record) → IsHeaded owner bytes
    → DecodesTo owner bytes (Ok records) → HasEnd owner bytes
unfolding DecodesTo
says_end owner bytes records headed (inl (none, new)) =
    absurd (new_not_headed owner bytes new headed)
says_end owner bytes records headed (inr j) = j.text

-- ---- faults

damaged : (owner : Owner) (bytes : List ℕ) (place : ℕ) → IsHeaded owner bytes
    → IsDamagedAt owner place bytes → HasDamage owner bytes place
damaged owner bytes place headed (inl (zero, none)) =
    absurd (no_header_headed owner bytes none headed)
damaged owner bytes place headed (inr d) = record {
  start = d.start;
  records = d.records;
  rest = d.rest;
  reaches = d.reaches;
  damage = d.damage;
  place_is = omega (
    arith,
    d.place_is,
    ap length d.reaches.bytes_are,
    length-append (text_bytes owner d.start d.records) d.rest,
  );
}

memory : (r : Result (Option ℕ) AllocError) (P : Option ℕ → Type 0) → IsErr r → IfOk r P
memory (Ok x) P h = absurd (cc h)
memory (Err e) P h = tt

pub found_damage : (owner : Owner) (bytes : List ℕ) (fault : JournalFault)
    (r : Result (Option ℕ) AllocError) → IsHeaded owner bytes → IsReading owner bytes (Err fault)
    → IsDamageIn fault r → IfOk r (IsDamageFound owner bytes)
unfolding DecodesTo
found_damage owner bytes faults.OtherFederation r headed said e =
    absurd (said.1 (headed_owner owner bytes headed).0)
found_damage owner bytes faults.OtherSite r headed said e =
    absurd (said.2 (headed_owner owner bytes headed).1)
found_damage owner bytes (faults.Damaged place) r headed said e =
    rw e (damaged owner bytes place headed said)
found_damage owner bytes faults.OtherWeights r headed said e =
    rw e said.text
found_damage owner bytes faults.Memory r headed said e = memory r (IsDamageFound owner bytes) e

-- ---- records

pub says_all : (owner : Owner) (bytes : List ℕ) (start : Start) (rs : List Record) (rest : List ℕ)
    → Reaches owner bytes start rs rest → IsEnd owner start rest
    → HasWeights owner.members.weights start → DecodesTo owner bytes (Ok (records_of start rs))
unfolding DecodesTo
says_all owner bytes start rs rest reaches ends has = inr (record {
  text = record { start = start; records = rs; end = rest; reaches = reaches; ends = ends };
  all_are = refl;
  weights = inr has;
})

pub same_items : (xs ys : List Record) → IsOrFault faults.Memory (Ok xs) (Ok ys) → xs ≡ ys
same_items xs ys (inl e) = cc e
same_items xs ys (inr e) = absurd (cc e)
