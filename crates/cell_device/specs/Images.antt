-- What a cell holds, what the calls make of it, and what a crash leaves.
use Rattle.std.specs.Prelude.{◌≡◌, ℕ, ◌+◌, ◌≤◌, List, ◌++◌, length, take, Option, Some, None}
use Rattle.std.specs.Prelude.{nat_le, if◌then◌else◌}

-- the bytes that the last sync kept, those that the calls since have made of them, and those that a
-- read gives
pub record Image : Type 0 where
  pub synced : List ℕ
  pub newest : List ℕ
  pub seen : List ℕ

-- a statement about a thing, if it is known
abbrev pub IfKnown : {X : Type 0} → Option X → (X → Type 0) → Type 0
IfKnown None P = Unit {0}
IfKnown (Some x) P = P x

-- the synced bytes and the first k of those appended since; after a cut, the old bytes up to the
-- cut length and k more; all, if they are fewer
unfoldable pub keeps : ℕ → List ℕ → List ℕ → List ℕ
keeps k synced newest =
    if nat_le (length synced) (length newest)
    then take (length synced + k) newest
    else take (length newest + k) synced

-- a crash leaves these bytes of the image
abbrev pub Leaves : Image → List ℕ → Type 0
Leaves i bytes = (k : ℕ) × (bytes ≡ keeps k i.synced i.newest)

-- a crash now may leave these bytes: any, where the cell's own aren't known
abbrev pub MayLeave : Option Image → List ℕ → Type 0
MayLeave None bytes = Unit {0}
MayLeave (Some i) bytes = Leaves i bytes

-- the image in which these bytes are all synced
abbrev pub at_rest : List ℕ → Image
at_rest bytes = record { synced = bytes; newest = bytes; seen = bytes }

-- with these bytes appended, and no sync since
abbrev pub with_bytes : List ℕ → Image → Image
with_bytes bytes i =
    record { synced = i.synced; newest = i.seen ++ bytes; seen = i.seen ++ bytes }

-- cut to a length, no sync since
abbrev pub cut_to : ℕ → Image → Image
cut_to len i = record { synced = i.synced; newest = take len i.seen; seen = take len i.seen }

-- with all that a read gives synced
abbrev pub all_synced : Image → Image
all_synced i = at_rest i.seen

-- as it was
abbrev pub same_image : Image → Image
same_image i = i

-- after the device failed: a read gives what `keeps` gives of some k
abbrev pub after_failure : ℕ → Image → Image
after_failure k i =
    record { synced = i.synced; newest = i.newest; seen = keeps k i.synced i.newest }

-- no cut waits for a sync
abbrev pub AllowsAppend : Option Image → Type 0
AllowsAppend None = Unit {0}
AllowsAppend (Some i) = length i.synced ≤ length i.newest

-- no append and no cut waits for a sync, and the length is at most the present one
abbrev pub AllowsCut : ℕ → Option Image → Type 0
AllowsCut len None = Unit {0}
AllowsCut len (Some i) = (i.synced ≡ i.newest) × (len ≤ length i.seen)
