-- Which cells name the bags of a conflict, and what is said of that.
use Rattle.std.specs.Prelude.{ℕ, Bool, true, false, ◌&&◌, ◌||◌, List, [], ◌∷◌, ◌++◌}
use Rattle.std.specs.Prelude.{codes, Option, Some, None, option_map}
use Rattle.std.specs.Fmt.{decimal}
use Rattle.std.specs.List.{list_any}
use Rattle.std.specs.Str.{bytes_eq}
use Rattle.hex.specs.Hex.{encode_lower}
use Rattle.code_words.specs.Names.{shown_name}
use Rattle.fed_types.specs.declared.bag_id.BagId.{BagId}
use Rattle.fed_types.specs.Slots.{SlotName}
use Rattle.records.specs.declared.record.Record.{Record}
use Rattle.records.specs.SlotStates.{known_in, vote_in}
use Rattle.tokens.specs.Escapes.{escaped_text}
use Rattle.audit_command.specs.declared.conflict_cells.Mention.{Mention}

-- the version that these words of a line name: an object and a number
abbrev pub is_slot : (object version : List ℕ) → SlotName → Bool
is_slot object version slot =
    bytes_eq (decimal slot.version) version && bytes_eq (escaped_text slot.object) object

-- the bag of these digits
abbrev pub is_bag : (digits : List ℕ) → BagId → Bool
is_bag digits bag = bytes_eq (encode_lower bag.0) digits

-- a bag, if there is one, is the one of these digits, for the version of these words
abbrev pub is_named : (object version digits : List ℕ) → SlotName → Option BagId → Bool
is_named object version digits slot None = false
is_named object version digits slot (Some bag) =
    is_slot object version slot && is_bag digits bag

-- a record says that the bag is known
abbrev pub says_known : (object version digits : List ℕ) → Record → Bool
says_known object version digits r = is_named object version digits r.slot (known_in r.body)

-- a record is a vote for it
abbrev pub says_vote : (object version digits : List ℕ) → Record → Bool
says_vote object version digits r =
    is_named object version digits r.slot (option_map (λ v. v.bag) (vote_in r.body))

-- what records say of a bag
abbrev pub mention_by : (object version digits : List ℕ) → List Record → Mention
mention_by object version digits records = record {
  is_known = list_any (says_known object version digits) records;
  has_vote = list_any (says_vote object version digits) records;
}

-- the same, and what one more record says
abbrev pub mention_with : (object version digits : List ℕ) → Mention → Record → Mention
mention_with object version digits m r = record {
  is_known = m.is_known || says_known object version digits r;
  has_vote = m.has_vote || says_vote object version digits r;
}

-- ---- as words

-- how a cell names a bag, if it does
abbrev pub how_text : (is_known has_vote : Bool) → Option (List ℕ)
how_text false false = None
how_text false true = Some (codes "has a vote for")
how_text true false = Some (codes "knows")
how_text true true = Some (codes "knows, and has a vote for,")

-- the cell of this path names the first bag so, or the second
abbrev pub line_of : (path : List ℕ) → Option (List ℕ) → (which : List ℕ) → List ℕ
line_of path None which = []
line_of path (Some how) which =
    codes "\n  " ++ (shown_name path
    ++ (32 ∷ (how ++ (codes " the " ++ (which ++ codes " bag")))))

-- a line, if the cell names the bag
abbrev pub mention_line : (path : List ℕ) → Mention → (which : List ℕ) → List ℕ
mention_line path m which = line_of path (how_text m.is_known m.has_vote) which
