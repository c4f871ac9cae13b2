-- Decoding a record from left to right.
use Rattle.std.specs.Prelude.{ℕ, List, length, Option, Some, None, ◌==◌, if◌then◌else◌}
use Rattle.std.specs.Int.{w32}
use Rattle.fields.specs.Decoders.{◌>>=◌, Decoder, meant, byte_at, number_at, ballot_at, bag_at}
use Rattle.fields.specs.Decoders.{vote_at, slot_at}
use Rattle.records.specs.Numbers.{deposit_code, round_code, promise_code, vote_code, known_code}
use Rattle.records.specs.declared.entry.Entry.{Entry}
use Rattle.records.specs.declared.entry.Entry.TheVariants.{Deposit, Round, Promise, Vote, Known}
use Rattle.records.specs.declared.record.Record.{Record}

-- a round that isn't 0
abbrev pub round_of : ℕ → Option ℕ
round_of n = if n == 0 then None else Some n

unfoldable pub round_at : Decoder ℕ
round_at bytes = meant (number_at w32) round_of bytes

-- what a record of this kind says
unfoldable pub entry_at : ℕ → Decoder Entry
entry_at kind bytes =
    if kind == deposit_code then meant bag_at (λ b. Some (Deposit b)) bytes else
    (if kind == round_code then meant round_at (λ n. Some (Round n)) bytes else
    (if kind == promise_code then meant ballot_at (λ b. Some (Promise b)) bytes else
    (if kind == vote_code then meant vote_at (λ v. Some (Vote v)) bytes else
    (if kind == known_code then meant bag_at (λ b. Some (Known b)) bytes else None))))

-- nothing follows it
abbrev pub at_end : {A : Type 0} → A × List ℕ → Option A
at_end p = if length p.1 == 0 then Some p.0 else None

-- the record of all the bytes after its length
unfoldable pub content_at : List ℕ → Option Record
content_at bytes = do
  kind ← byte_at bytes
  slot ← slot_at kind.1
  body ← entry_at kind.0 slot.1
  at_end (record { slot = slot.0; body = body.0 }, body.1)
