-- What `check --json` prints of a folder: a value, and its text.
use Rattle.std.specs.Prelude.{◌≡◌, ◌⊎◌, ℕ, ◌+◌, ◌==◌, if◌then◌else◌, List, [], ◌∷◌, ◌++◌, map}
use Rattle.std.specs.Prelude.{length, take, drop, position, codes}
use Rattle.std.specs.Prelude.{Option, Some, None, Result, Ok, Err, unwrap_or}
use Rattle.std.specs.Str.{is_utf8}
use Rattle.hex.specs.Hex.{encode_lower}
use Rattle.serde_json.specs.Data.{Data, null, number, unsigned, string, array, object}
use Rattle.serde_json.specs.Data.{member, no_members}
use Rattle.serde_json.specs.View.{items_of}
use Rattle.serde_json.specs.Written.{compact_text}
use Rattle.serde_json.specs.Read.{read}
use Rattle.tokens.specs.Escapes.{escaped_text}
use Rattle.tokens.specs.Words.{number_in}
use Rattle.bag_tree.specs.declared.fault.TreeFault.{TreeFault}
use Rattle.bag_tree.specs.Facts.{TreeFacts}
use Rattle.bag_tree.specs.Fault as tree_numbers
use Rattle.bag_check.specs.Fault as bag_numbers
use Rattle.folder_checks.specs.declared.measure.Measure.{Measure}
use Rattle.folder_checks.specs.declared.report.Report.{Report}
use Rattle.folder_checks.specs.declared.report.Detail.{Detail}
use Rattle.folder_checks.specs.declared.report.Detail.TheVariants.{Brief, Explained}
use Rattle.folder_checks.specs.declared.verdict.Verdict.{Verdict}
use Rattle.folder_checks.specs.declared.verdict.Verdict.TheVariants.{Valid, Complete, Invalid}
use Rattle.folder_checks.specs.declared.verdict.Verdict.TheVariants.{Unread}
use Rattle.outcomes.specs.Outcomes.{Outcome}
use Rattle.folder_checks.specs.Verdicts.{verdict_by, IsOrMemory, outcome_of_verdict}
use Rattle.folder_checks.specs.Explanations.{IsPlace, lines_after}
use Rattle.folder_checks.specs.Names.{names_of}

-- ---- the parts of the value

-- a text; no JSON text is of bytes that aren't UTF-8
abbrev pub text_data : List ℕ → Data
text_data bytes = if is_utf8 bytes then string bytes else null

abbrev pub number_data : ℕ → Data
number_data n = number (unsigned n)

abbrev pub verdict_word : Verdict → List ℕ
verdict_word (Valid bag) = codes "valid"
verdict_word (Complete bag) = codes "complete"
verdict_word (Invalid fault) = codes "invalid"
verdict_word (Unread fault) = codes "unread"

abbrev pub code_data : Verdict → Data
code_data (Valid bag) = null
code_data (Complete bag) = null
code_data (Invalid fault) = number_data (bag_numbers.number_of fault)
code_data (Unread fault) = number_data (tree_numbers.number_of fault)

abbrev pub identity_data : Verdict → Data
identity_data (Valid bag) = string (encode_lower bag.0)
identity_data (Complete bag) = string (encode_lower bag.0)
identity_data (Invalid fault) = null
identity_data (Unread fault) = null

abbrev pub count_data : Option ℕ → Data
count_data None = null
count_data (Some n) = number_data n

-- a line of an explanation: the number before its first space, and what comes after that
abbrev pub finding_at : List ℕ → ℕ → Data
finding_at line space =
    object (member (codes "number") (number_data (unwrap_or (number_in 0 255 (take space line)) 0))
    (member (codes "where") (text_data (drop (space + 1) line)) no_members))

abbrev pub finding_data : List ℕ → Data
finding_data line = finding_at line (unwrap_or (position (λ b. b == 32) line) 0)

abbrev pub places_data : Option (List ℕ) → Data
places_data None = null
places_data (Some lines) = array (items_of (map finding_data (names_of 10 lines)))

abbrev pub words_data : Option (List ℕ) → Data
words_data None = null
words_data (Some words) = string words

-- ---- the value, and its line

-- what is said of a folder, in this order: by its name and the verdict, how many files it has, what
-- was measured, the lines that explain the verdict, and what its code says; null for what is left
-- out
unfoldable pub folder_data : List ℕ → Verdict → Option ℕ → Measure → Option (List ℕ)
    → Option (List ℕ) → Data
folder_data name verdict files measure lines words =
    object (member (codes "bytes") (count_data measure.bytes)
    (member (codes "code") (code_data verdict)
    (member (codes "escaped") (string (escaped_text name))
    (member (codes "files") (count_data files)
    (member (codes "folder") (text_data name)
    (member (codes "identity") (identity_data verdict)
    (member (codes "places") (places_data lines)
    (member (codes "seconds") (count_data measure.seconds)
    (member (codes "verdict") (string (verdict_word verdict))
    (member (codes "words") (words_data words) no_members))))))))))

-- how many files there are, if the folder was read
abbrev pub count_of : Result TreeFacts TreeFault → Option ℕ
count_of (Ok facts) = Some (length facts.files)
count_of (Err fault) = None

abbrev pub files_in : Verdict → Result TreeFacts TreeFault → Option ℕ
files_in (Unread fault) read = None
files_in (Valid bag) read = count_of read
files_in (Complete bag) read = count_of read
files_in (Invalid fault) read = count_of read

-- the lines, if they are asked for
abbrev pub lines_in : Detail → List ℕ → Option (List ℕ)
lines_in Brief lines = None
lines_in Explained lines = Some lines

abbrev pub asked_lines : Report → List ℕ → Option (List ℕ)
asked_lines report lines = lines_in report.detail lines

-- the text is a line, and a reader of JSON has this value of it
abbrev pub IsLineOf : Data → List ℕ → Type 0
IsLineOf value text =
    (text ≡ compact_text value ++ 10 ∷ []) × (read (compact_text value) ≡ Some value)

-- what is written where memory ran out
abbrev pub json_memory : Outcome
json_memory = record { status = 1; text = codes "{\"verdict\":\"memory\"}" ++ 10 ∷ [] }

-- what a check found is what a read of the folder gives, or that memory ran out
abbrev pub IsFound : Report → Result TreeFacts TreeFault → Option (List ℕ) → Verdict → Option ℕ
    → Option (List ℕ) → Type 0
IsFound report read known verdict files lines =
    IsOrMemory verdict (verdict_by report.question read) × (files ≡ files_in verdict read)
    × ((place : Option (List ℕ)) × IsPlace known place
    × (lines ≡ asked_lines report (lines_after report.question verdict read place)))

-- the line of the folder of this name, and the status, by what a read of it gives and where it
-- fails; what was measured, and which words the code has, is left open
abbrev pub SaysJson : Report → Result TreeFacts TreeFault → Option (List ℕ) → List ℕ → ℕ → List ℕ
    → Type 0
SaysJson report read known name status text =
    (verdict : Verdict) × (files : Option ℕ) × (measure : Measure) × (lines words : Option (List ℕ))
    × IsFound report read known verdict files lines
    × (status ≡ (outcome_of_verdict verdict).status)
    × IsLineOf (folder_data name verdict files measure lines words) text

-- the line is the outcome, or that memory ran out
abbrev pub EndsInJson : Report → Result TreeFacts TreeFault → Option (List ℕ) → List ℕ → Outcome
    → Type 0
EndsInJson report read known name outcome =
    SaysJson report read known name outcome.status outcome.text ⊎ (outcome ≡ json_memory)
