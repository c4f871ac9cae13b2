-- The canonical encoding of each record, and of a journal. Numbers are big-endian.
use Rattle.std.specs.Prelude.{ℕ, ◌+◌, List, [], ◌∷◌, ◌++◌, length}
use Rattle.std.specs.Int.{w16, w32, w64, to_be_bytes}
use Rattle.fields.specs.Encoding.{bag_bytes, ballot_bytes, vote_bytes, slot_bytes}
use Rattle.fields.specs.Checksums.{checksum_len, with_checksum}
use Rattle.records.specs.Numbers.{old_magic, magic, deposit_code, round_code, promise_code}
use Rattle.records.specs.Numbers.{vote_code, known_code}
use Rattle.records.specs.declared.entry.Entry.{Entry}
use Rattle.records.specs.declared.entry.Entry.TheVariants.{Deposit, Round, Promise, Vote, Known}
use Rattle.records.specs.declared.layout.Layout.{Layout}
use Rattle.records.specs.declared.layout.Layout.TheVariants.{First, Second}
use Rattle.records.specs.declared.owner.Owner.{Owner}
use Rattle.records.specs.declared.record.Record.{Record}

-- the byte of each kind
abbrev pub kind_code : Entry → ℕ
kind_code (Deposit bag) = deposit_code
kind_code (Round round) = round_code
kind_code (Promise ballot) = promise_code
kind_code (Vote vote) = vote_code
kind_code (Known bag) = known_code

-- what follows the slot
abbrev pub entry_bytes : Entry → List ℕ
entry_bytes (Deposit bag) = bag_bytes bag
entry_bytes (Round round) = to_be_bytes w32 round
entry_bytes (Promise ballot) = ballot_bytes ballot
entry_bytes (Vote vote) = vote_bytes vote
entry_bytes (Known bag) = bag_bytes bag

-- kind, slot, and what it says of the slot
abbrev pub content_bytes : Record → List ℕ
content_bytes r = kind_code r.body ∷ (slot_bytes r.slot ++ entry_bytes r.body)

-- the bytes after the content: a checksum in the second layout
abbrev pub checksum_size : Layout → ℕ
checksum_size First = 0
checksum_size Second = checksum_len

abbrev pub sealed : Layout → List ℕ → List ℕ
sealed First bytes = bytes
sealed Second bytes = with_checksum bytes

-- the length of the rest in two bytes, and the content
abbrev pub framed : Layout → Record → List ℕ
framed l r = to_be_bytes w16 (length (content_bytes r) + checksum_size l) ++ content_bytes r

-- a record in a layout: its length, its content, and in the second layout the checksum of both
unfoldable pub encoded : Layout → Record → List ℕ
encoded l r = sealed l (framed l r)

-- records one after another
unfoldable pub all_encoded : Layout → List Record → List ℕ
all_encoded l [] = []
all_encoded l (r ∷ rs) = encoded l r ++ all_encoded l rs

-- a record as it is written
abbrev pub record_bytes : Record → List ℕ
record_bytes r = encoded Second r

-- federation, site
abbrev pub owner_bytes : Owner → List ℕ
owner_bytes owner = to_be_bytes w64 owner.members.federation ++ owner.site ∷ []

-- the header of the first layout
unfoldable pub old_header : Owner → List ℕ
old_header owner = old_magic ++ owner_bytes owner

-- the header of the second layout: magic, federation, site, how many members there are, and their
-- weights
unfoldable pub header_of : Owner → List ℕ → List ℕ
header_of owner weights = magic ++ (owner_bytes owner ++ length weights ∷ weights)

-- the owner's own
abbrev pub header_bytes : Owner → List ℕ
header_bytes owner = header_of owner owner.members.weights
