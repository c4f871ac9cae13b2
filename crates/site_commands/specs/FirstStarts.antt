-- How a start begins with a cell: one that has to be there holds a whole header, and of a new site
-- an empty one gets its own.
use Rattle.std.specs.Prelude.{◌≡◌, ◌⊎◌, ◌≤◌, ⊤, ℕ, Bool, true, false, List, [], ◌∷◌, length}
use Rattle.std.specs.Prelude.{take, drop, Option, Some, Result, Ok, Err}
use Rattle.std.specs.List.{Contains}
use Rattle.cell_device.specs.Images.{Image, IfKnown, Leaves, at_rest}
use Rattle.fed_types.specs.Limits.{most_members}
use Rattle.records.specs.Numbers.{old_magic, magic, front_len}
use Rattle.records.specs.Layout.{header_bytes}
use Rattle.records.specs.declared.owner.Owner.{Owner}
use Rattle.site_commands.specs.declared.first_start.Unprepared.{Unprepared}
use Rattle.site_commands.specs.declared.first_start.Unprepared.TheVariants.{NoHeader, Device}
use Rattle.site_commands.specs.declared.first_start.Unprepared.TheVariants.{Memory}

-- ---- a whole header, of any federation and site

-- of the first layout: `BPJ1`, the federation in 8 bytes, the site in one
abbrev pub HoldsOldHeader : List ℕ → Type 0
HoldsOldHeader bytes = (take 4 bytes ≡ old_magic) × (front_len ≤ length bytes)

-- how many members there are, 1 to 63, and the weight of each, none of them 0
abbrev pub HoldsWeights : List ℕ → Type 0
HoldsWeights [] = ⊥
HoldsWeights (count ∷ rest) =
    (1 ≤ count) × (count ≤ most_members) × (count ≤ length rest) × ¬ Contains (take count rest) 0

-- of the second: `BPJ2`, the federation, the site, and the members' weights
abbrev pub HoldsNewHeader : List ℕ → Type 0
HoldsNewHeader bytes = (take 4 bytes ≡ magic) × HoldsWeights (drop front_len bytes)

-- the bytes begin with one
abbrev pub HoldsHeader : List ℕ → Type 0
HoldsHeader bytes = HoldsOldHeader bytes ⊎ HoldsNewHeader bytes

-- ---- what is answered, and what the cell holds then

-- a site that has a cell finds a header in it; a new one asks for nothing
abbrev pub IsFit : (existing : Bool) → List ℕ → Type 0
IsFit true bytes = HoldsHeader bytes
IsFit false bytes = ⊤

-- these are no bytes, of a new site: they get its header
abbrev pub IsBegun : (existing : Bool) → List ℕ → Type 0
IsBegun existing bytes = (existing ≡ false) × (bytes ≡ [])

-- the cell then rests at its owner's header; any other one is as it was
abbrev pub begun : (existing : Bool) → Owner → (bytes : List ℕ) → Image → Image
begun true owner bytes i = i
begun false owner [] i = at_rest (header_bytes owner)
begun false owner (first ∷ rest) i = i

-- By the answer. Out of memory a read gives what it gave; where the device fails, what a crash may
-- leave is what is known.
abbrev pub IsPrepared : (existing : Bool) → Owner → Image → Result (Unit {0}) Unprepared
    → Option Image → Type 0
IsPrepared existing owner i (Ok _) new =
    IsFit existing i.seen × (new ≡ Some (begun existing owner i.seen i))
IsPrepared existing owner i (Err NoHeader) new = ¬ IsFit existing i.seen × (new ≡ Some i)
IsPrepared existing owner i (Err Memory) new = IfKnown new (λ j. j.seen ≡ i.seen)
IsPrepared existing owner i (Err Device) new = ⊤

-- A crash at any moment leaves what it might have left before; or, of a cell that gets a header,
-- the first bytes of that.
abbrev pub LeavesBegun : (existing : Bool) → Owner → Option Image → List ℕ → Type 0
LeavesBegun existing owner old bytes = IfKnown old (λ i. Leaves i bytes
    ⊎ (IsBegun existing i.seen × ((k : ℕ) × (bytes ≡ take k (header_bytes owner)))))
