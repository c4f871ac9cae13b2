-- What the bytes of a cell say to a reader: whose it is, its records, and how it ends.
use Rattle.std.specs.Prelude.{◌≡◌, ◌⊎◌, ◌+◌, ◌≤◌, ℕ, Bool, true, false, List, [], ◌∷◌, ◌++◌, length}
use Rattle.fed_types.specs.Sites.{IsSiteNumber}
use Rattle.fed_types.specs.Values.{IsMembership}
use Rattle.records.specs.declared.owner.Owner.{Owner}
use Rattle.records.specs.declared.record.Record.{Record}
use Rattle.records.specs.Journals.{HasHeader, Reaches, IsTornRecord, IsTornHeader, IsDamage}
use Rattle.records.specs.Layout.{old_header}
use Rattle.records.specs.Starts.{Start, Old, New, Carried, layout_after, records_of}
use Rattle.ledger.specs.declared.contents.Contents.{Contents}
use Rattle.ledger.specs.declared.ending.Ending.{Ending}
use Rattle.ledger.specs.declared.ending.Ending.TheVariants.{Whole, Torn, Damaged}

-- the bytes begin with a whole header of this federation and site, in either layout
abbrev pub IsHeaded : Owner → List ℕ → Type 0
IsHeaded owner bytes =
    ((rest : List ℕ) × (bytes ≡ old_header owner ++ rest)) ⊎ HasHeader owner bytes

-- they begin with no whole header, of whichever federation and site
abbrev pub HasNoOwner : List ℕ → Type 0
HasNoOwner bytes = (owner : Owner) → IsSiteNumber owner.site → ¬ IsHeaded owner bytes

-- The weights that a start names, and whether it does. A start without weights is read as that of a
-- single member of weight 1: its records don't depend on that.
abbrev pub NamesWeights : Start → List ℕ → Bool → Type 0
NamesWeights Old weights named = (weights ≡ 1 ∷ []) × (named ≡ false)
NamesWeights (New its) weights named = (weights ≡ its) × (named ≡ true)
NamesWeights (Carried records its) weights named = (weights ≡ its) × (named ≡ true)

-- an owner as a header names one: the federation's number and the weights are ones that a
-- federation may have, and the site's number is one that a site may have
abbrev pub IsOwner : Owner → Type 0
IsOwner owner = IsMembership owner.members × IsSiteNumber owner.site

-- what follows the last record, or the last header, of a cell
abbrev pub EndsWith : Owner → (bytes : List ℕ) → Start → (rest : List ℕ) → Ending → Type 0
EndsWith owner bytes start rest Whole = rest ≡ []
EndsWith owner bytes start rest (Torn count) =
    (IsTornRecord (layout_after start) rest ⊎ IsTornHeader owner start rest)
    × (1 ≤ count) × (count ≡ length rest)
EndsWith owner bytes start rest (Damaged place) =
    IsDamage owner start rest × (place + length rest ≡ length bytes)

-- what a cell says: whose it is, by the header that names the weights or by an older one; its
-- records; and how it ends
pub record Said : Type 0 where
  pub owner : Owner
  pub names_weights : Bool
  pub records : List Record
  pub ending : Ending

-- the same, as it is read
abbrev pub said_in : Contents → Said
said_in contents = record {
  owner = contents.owner;
  names_weights = contents.names_weights;
  records = contents.records.items;
  ending = contents.ending;
}

-- the bytes are headers and records, all of which are said, and an end
pub record IsSaid (bytes : List ℕ) (said : Said) : Type 0 where
  pub start : Start
  pub records : List Record
  pub rest : List ℕ
  pub owner_is : IsOwner said.owner
  pub reaches : Reaches said.owner bytes start records rest
  pub records_are : said.records ≡ records_of start records
  pub weights_are : NamesWeights start said.owner.members.weights said.names_weights
  pub ends : EndsWith said.owner bytes start rest said.ending

-- these are the contents of a cell
abbrev pub IsCell : List ℕ → Contents → Type 0
IsCell bytes contents = IsSaid bytes (said_in contents)

-- the bytes begin with headers and these records, whatever follows
pub record Begins (bytes : List ℕ) (owner : Owner) (named : Bool) (all : List Record) : Type 0 where
  pub start : Start
  pub records : List Record
  pub rest : List ℕ
  pub owner_is : IsOwner owner
  pub reaches : Reaches owner bytes start records rest
  pub all_are : all ≡ records_of start records
  pub weights_are : NamesWeights start owner.members.weights named

-- where the last record, or the last header, ends in a cell of so many bytes that ends so and isn't
-- damaged
abbrev pub EndsAt : Ending → (len end : ℕ) → Type 0
EndsAt Whole len end = end ≡ len
EndsAt (Torn count) len end = end + count ≡ len
EndsAt (Damaged place) len end = Unit {0}
