-- The forms of the lines that commands print: the words that each has, and what fills it in.
use Rattle.std.specs.Prelude.{ℕ, ◌==◌, Bool, true, false, ◌&&◌, List, [], ◌∷◌, length, map, codes}
use Rattle.std.specs.Prelude.{Option, drop}
use Rattle.std.specs.List.{find}
use Rattle.std.specs.Str.{bytes_eq}
use Rattle.json_lines.specs.declared.form.Part.{Part}
use Rattle.json_lines.specs.declared.form.Part.TheVariants.{Word, Name, Number, Text, Numbers}
use Rattle.json_lines.specs.declared.form.Form.{Form}

-- a part of a form: this word; an escaped name, a number or another text, each the value of the
-- member of this name; or all words that are left, each a number
pub data FormPart : Type 0 where
  word : List ℕ → FormPart
  name : List ℕ → FormPart
  number : List ℕ → FormPart
  text : List ℕ → FormPart
  numbers : List ℕ → FormPart

-- the kind of line that it is, and its parts
pub record LineForm : Type 0 where
  pub kind : List ℕ
  pub parts : List FormPart

-- ---- the table

abbrev pub of_kind : List ℕ → List FormPart → LineForm
of_kind kind parts = record { kind = kind; parts = parts }

abbrev pub object : FormPart
object = name (codes "object")

abbrev pub version : FormPart
version = number (codes "version")

abbrev pub round : FormPart
round = number (codes "round")

abbrev pub site : FormPart
site = number (codes "site")

abbrev pub bag : FormPart
bag = text (codes "bag")

abbrev pub other : FormPart
other = text (codes "other")

abbrev pub cell : FormPart
cell = name (codes "cell")

abbrev pub federation : FormPart
federation = text (codes "federation")

-- the lines of journal and ledger, of audit, of members, of status and of catch-up; the two of
-- counts come last, since they begin with no word of their own
unfoldable pub forms : List LineForm
forms =
    of_kind (codes "cell") (word (codes "cell") ∷ federation ∷ site ∷ numbers (codes "weights")
    ∷ [])
    ∷ of_kind (codes "deposit") (word (codes "deposit") ∷ object ∷ version ∷ bag ∷ [])
    ∷ of_kind (codes "round") (word (codes "round") ∷ object ∷ version ∷ round ∷ [])
    ∷ of_kind (codes "promise") (word (codes "promise") ∷ object ∷ version ∷ round ∷ site ∷ [])
    ∷ of_kind (codes "vote") (word (codes "vote") ∷ object ∷ version ∷ round ∷ site ∷ bag ∷ [])
    ∷ of_kind (codes "known") (word (codes "known") ∷ object ∷ version ∷ bag ∷ [])
    ∷ of_kind (codes "pending") (word (codes "pending") ∷ object ∷ version ∷ bag ∷ [])
    ∷ of_kind (codes "voted") (word (codes "voted") ∷ object ∷ version ∷ bag ∷ [])
    ∷ of_kind (codes "asked") (word (codes "asked") ∷ object ∷ version ∷ [])
    ∷ of_kind (codes "torn") (word (codes "torn") ∷ number (codes "bytes") ∷ [])
    ∷ of_kind (codes "damaged") (word (codes "damaged") ∷ number (codes "offset") ∷ [])
    ∷ of_kind (codes "in-use") (word (codes "in-use") ∷ cell ∷ [])
    ∷ of_kind (codes "unread") (word (codes "unread") ∷ cell ∷ [])
    ∷ of_kind (codes "foreign") (word (codes "foreign") ∷ cell ∷ [])
    ∷ of_kind (codes "damaged") (word (codes "damaged") ∷ cell ∷ number (codes "offset") ∷ [])
    ∷ of_kind (codes "chosen") (word (codes "chosen") ∷ object ∷ version ∷ bag ∷ round ∷ site ∷ [])
    ∷ of_kind (codes "open") (word (codes "open") ∷ object ∷ version ∷ [])
    ∷ of_kind (codes "conflict") (word (codes "conflict") ∷ object ∷ version ∷ bag ∷ other ∷ [])
    ∷ of_kind (codes "other") (word (codes "other") ∷ object ∷ version ∷ bag ∷ other ∷ [])
    ∷ of_kind (codes "ok") (word (codes "ok") ∷ federation ∷ number (codes "sites")
    ∷ number (codes "quorum") ∷ text (codes "digest") ∷ [])
    ∷ of_kind (codes "members line") (word (codes "members") ∷ word (codes "line")
    ∷ number (codes "number") ∷ [])
    ∷ of_kind (codes "key line") (word (codes "key") ∷ word (codes "line")
    ∷ number (codes "number") ∷ [])
    ∷ of_kind (codes "ledger line") (word (codes "ledger") ∷ word (codes "line")
    ∷ number (codes "number") ∷ [])
    ∷ of_kind (codes "key") (word (codes "key") ∷ text (codes "kind") ∷ text (codes "name") ∷ [])
    ∷ of_kind (codes "up") (word (codes "site") ∷ site ∷ word (codes "up") ∷ number (codes "ms")
    ∷ word (codes "records") ∷ number (codes "records") ∷ word (codes "known")
    ∷ number (codes "known") ∷ word (codes "pending") ∷ number (codes "pending")
    ∷ word (codes "alone") ∷ number (codes "alone") ∷ word (codes "lacks")
    ∷ number (codes "lacks") ∷ [])
    ∷ of_kind (codes "silent") (word (codes "site") ∷ site ∷ word (codes "silent") ∷ [])
    ∷ of_kind (codes "federation") (word (codes "federation") ∷ federation
    ∷ number (codes "well") ∷ word (codes "of") ∷ number (codes "sites") ∷ [])
    ∷ of_kind (codes "counts") (number (codes "chosen") ∷ word (codes "chosen,")
    ∷ number (codes "known") ∷ word (codes "known,") ∷ number (codes "open")
    ∷ word (codes "open,") ∷ number (codes "conflicts") ∷ word (codes "conflicts") ∷ [])
    ∷ of_kind (codes "counts") (number (codes "known") ∷ word (codes "of")
    ∷ number (codes "all") ∷ [])
    ∷ []

-- ---- which form a line has

-- words begin with a part
abbrev pub begins : FormPart → List (List ℕ) → Bool
begins (numbers key) words = true
begins (word it) [] = false
begins (word it) (first ∷ words) = bytes_eq first it
begins (name key) [] = false
begins (name key) (first ∷ words) = true
begins (number key) [] = false
begins (number key) (first ∷ words) = true
begins (text key) [] = false
begins (text key) (first ∷ words) = true

-- the words after it
abbrev pub after : FormPart → List (List ℕ) → List (List ℕ)
after (numbers key) words = []
after (word it) words = drop 1 words
after (name key) words = drop 1 words
after (number key) words = drop 1 words
after (text key) words = drop 1 words

-- words are these parts, all of them and in order
abbrev pub fits : List FormPart → List (List ℕ) → Bool
fits [] words = length words == 0
fits (part ∷ parts) words = begins part words && fits parts (after part words)

-- the first form that fits
abbrev pub form_of : List (List ℕ) → Option LineForm
form_of words = find (λ form. fits form.parts words) forms

-- ---- the same table in the program

abbrev pub part_shown : Part → FormPart
part_shown (Word it) = word it.now
part_shown (Name key) = name key.now
part_shown (Number key) = number key.now
part_shown (Text key) = text key.now
part_shown (Numbers key) = numbers key.now

abbrev pub form_shown : Form → LineForm
form_shown form = of_kind form.kind.now (map part_shown form.parts.now)
