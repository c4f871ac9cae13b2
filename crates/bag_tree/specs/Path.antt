-- Paths: bytes of UTF-8 with parts between slashes (RFC 8493, 2.1.3: relative to the bag's own
-- folder).
use Rattle.std.specs.Prelude.{ℕ, Bool, true, false, ◌&&◌, ◌||◌, ◌==◌, List, [], ◌∷◌, ◌++◌, codes}
use Rattle.std.specs.Prelude.{length}
use Rattle.std.specs.List.{slice_split, starts_with, ends_with, list_any}
use Rattle.std.specs.Str.{bytes_eq}

-- `/`, and `.`
abbrev pub slash : ℕ
slash = 47

abbrev pub dot : ℕ
dot = 46

-- what is between the slashes; a path of no bytes has one empty part
abbrev pub parts_of : List ℕ → List (List ℕ)
parts_of path = slice_split (λ b. b == slash) path

-- nothing, `.` or `..`
abbrev pub is_unsafe_part : List ℕ → Bool
is_unsafe_part [] = true
is_unsafe_part (a ∷ []) = a == dot
is_unsafe_part (a ∷ b ∷ []) = a == dot && b == dot
is_unsafe_part (a ∷ b ∷ c ∷ part) = false

-- a part of the path is nothing, `.` or `..`: so a path that begins or ends with a slash is unsafe
abbrev pub is_unsafe : List ℕ → Bool
is_unsafe path = list_any is_unsafe_part (parts_of path)

-- the path lies in this folder, or in one of its folders
abbrev pub is_below : List ℕ → List ℕ → Bool
is_below folder path = starts_with (λ a b. a == b) path (folder ++ slash ∷ [])

-- `data`, the folder of the payload
abbrev pub payload_folder : List ℕ
payload_folder = codes "data"

abbrev pub is_payload : List ℕ → Bool
is_payload path = is_below payload_folder path

-- the path begins with this prefix and ends with `.txt`
abbrev pub is_text_named : List ℕ → List ℕ → Bool
is_text_named prefix path =
    starts_with (λ a b. a == b) path prefix && ends_with (λ a b. a == b) path (codes ".txt")

-- the texts at the tree's own level that are read: `bagit.txt`, `manifest-X.txt` and
-- `tagmanifest-X.txt`, whatever X is
abbrev pub is_read_text : List ℕ → Bool
is_read_text path =
    length (parts_of path) == 1
    && (bytes_eq path (codes "bagit.txt")
    || is_text_named (codes "manifest-") path || is_text_named (codes "tagmanifest-") path)
