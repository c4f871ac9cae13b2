-- How a site stands: what it counts, the question for it, and the answer.
use Rattle.std.specs.Prelude.{ℕ, zero, suc, ◌+◌, ◌-◌, min, Bool, true, false, List, [], ◌∷◌, ◌++◌}
use Rattle.std.specs.Prelude.{length, replicate}
use Rattle.std.specs.Prelude.{Option, Some, None, if◌then◌else◌}
use Rattle.std.specs.Int.{w64, to_be_bytes}
use Rattle.std.specs.List.{count_by}
use Rattle.std.specs.Str.{bytes_eq}
use Rattle.fields.specs.Checksums.{with_checksum}
use Rattle.dgram.specs.Numbers.{NO_SITE}
use Rattle.dgram.specs.Encoding.{front_bytes}
use Rattle.records.specs.declared.record.Record.{Record}
use Rattle.records.specs.declared.entry.Entry.{Entry}
use Rattle.records.specs.declared.entry.Entry.TheVariants.{Known}
use Rattle.udp_site.specs.declared.contacts.Contacts.{Contacts}
use Rattle.udp_site.specs.declared.status.Counts.{Counts}
use Rattle.udp_site.specs.declared.status.Standing.{Standing}
use Rattle.udp_site.specs.Pace.{most_together}
use Rattle.udp_site.specs.Rounds.{waits}

-- ---- what is counted

abbrev pub is_known_bag : Entry → Bool
is_known_bag (Known bag) = true
is_known_bag entry = false

-- at how many of the first places, among the deposits, one has no known bag
unfoldable pub waiting_before : List Record → (place : ℕ) → ℕ
waiting_before records zero = 0
waiting_before records (suc place) =
    waiting_before records place + (if waits records place then 1 else 0)

-- how many come from this place on, up to as many as are proposed together
abbrev pub waiting_from : List Record → (from : ℕ) → ℕ
waiting_from records from =
    min most_together (waiting_before records (length records) - waiting_before records from)

-- all records, the bags that are known, and the deposits without one; there are no more deposits
-- than records
abbrev pub counts_of : List Record → Counts
counts_of records = record {
  records = length records;
  known = count_by (λ r. is_known_bag r.body) records;
  pending = waiting_before records (length records);
}

-- ---- datagrams, which sites don't see: their ports ask and answer

-- the kinds of the question and of the answer
abbrev pub STATUS : ℕ
STATUS = 19

abbrev pub STATUS_REPLY : ℕ
STATUS_REPLY = 34

-- magic, layout, kind, federation, and sender, as in all datagrams
abbrev pub front : (kind federation sender : ℕ) → List ℕ
front kind federation sender = front_bytes federation kind ++ sender ∷ []

-- four numbers of eight bytes each
abbrev pub standing_bytes : Standing → List ℕ
standing_bytes s =
    to_be_bytes w64 s.counts.records
    ++ (to_be_bytes w64 s.counts.known
    ++ (to_be_bytes w64 s.counts.pending ++ to_be_bytes w64 s.alone))

-- The question has as many zeros in their place: so no answer is longer than its question, and
-- nobody gets more sent to another by a question with that one's address.
abbrev pub status_question : (federation : ℕ) → List ℕ
status_question federation = with_checksum (front STATUS federation NO_SITE ++ replicate 32 0)

abbrev pub status_answer : (federation site : ℕ) → Standing → List ℕ
status_answer federation site s =
    with_checksum (front STATUS_REPLY federation site ++ standing_bytes s)

-- A site's port answers the question of its own federation. A client's port has no contacts, and
-- answers none.
abbrev pub asks_status : Option Contacts → List ℕ → Bool
asks_status None bytes = false
asks_status (Some contacts) bytes =
    bytes_eq bytes (status_question contacts.members.federation)
