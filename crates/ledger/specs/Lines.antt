-- The text of what a cell says: a line for whose it is, one for each record, and one for its end.
use Rattle.std.specs.Prelude.{ℕ, Bool, if◌then◌else◌, List, [], ◌∷◌, ◌++◌, codes}
use Rattle.std.specs.List.{flat_map}
use Rattle.std.specs.Fmt.{decimal}
use Rattle.tokens.specs.Written.{slot_text, bag_text, ballot_text, vote_text}
use Rattle.records.specs.declared.entry.Entry.{Entry}
use Rattle.records.specs.declared.entry.Entry.TheVariants as entry
use Rattle.records.specs.declared.entry.Entry.TheVariants.{Deposit, Round, Promise, Known}
use Rattle.records.specs.declared.owner.Owner.{Owner}
use Rattle.records.specs.declared.record.Record.{Record}
use Rattle.ledger.specs.declared.ending.Ending.{Ending}
use Rattle.ledger.specs.declared.ending.Ending.TheVariants.{Whole, Torn, Damaged}
use Rattle.ledger.specs.Cells.{Said}

-- what a record is
abbrev pub kind_text : Entry → List ℕ
kind_text (Deposit bag) = codes "deposit "
kind_text (Round round) = codes "round "
kind_text (Promise ballot) = codes "promise "
kind_text (entry.Vote vote) = codes "vote "
kind_text (Known bag) = codes "known "

-- what a record says of its slot, a space before each word
abbrev pub entry_text : Entry → List ℕ
entry_text (Deposit bag) = bag_text bag
entry_text (Round round) = 32 ∷ decimal round
entry_text (Promise ballot) = ballot_text ballot
entry_text (entry.Vote vote) = vote_text vote
entry_text (Known bag) = bag_text bag

-- the line of a record
unfoldable pub record_line : Record → List ℕ
record_line r = kind_text r.body ++ (slot_text r.slot ++ (entry_text r.body ++ 10 ∷ []))

-- a space, and a weight
abbrev pub weight_word : ℕ → List ℕ
weight_word weight = 32 ∷ decimal weight

-- the weights, where a header names them
abbrev pub weight_words : Owner → Bool → List ℕ
weight_words owner named = if named then flat_map weight_word owner.members.weights else []

-- the federation, the site and the weights
unfoldable pub owner_line : Owner → Bool → List ℕ
owner_line owner named =
    codes "cell " ++ (decimal owner.members.federation
    ++ (32 ∷ (decimal owner.site ++ (weight_words owner named ++ 10 ∷ []))))

abbrev pub ending_line : Ending → List ℕ
ending_line Whole = []
ending_line (Torn count) = codes "torn " ++ (decimal count ++ 10 ∷ [])
ending_line (Damaged place) = codes "damaged " ++ (decimal place ++ 10 ∷ [])

-- the lines of records
unfoldable pub records_text : List Record → List ℕ
records_text records = flat_map record_line records

-- the lines of what a cell says
unfoldable pub said_text : Said → List ℕ
said_text said =
    owner_line said.owner said.names_weights
    ++ (records_text said.records ++ ending_line said.ending)
