-- What a check of a folder finds, before it is put into JSON.
use Rattle.std.proofs.Common.{◌≡◌, ℕ, ◌≤◌, List, [], ◌∷◌, ◌++◌, length, map, take, Bor}
use Rattle.std.proofs.Common.{Option, Some, None, Result, Ok, Err, option_map, inl}
use Rattle.std.proofs.Common.{sym, ap, ◌∙◌}
use Rattle.std.proofs.lemmas.List.{take_all}
use Rattle.std.proofs.lemmas.Simd.{map-map}
use Rattle.std.specs.Prelude.{String}
use Rattle.std.specs.declared.alloc.Global.{Global}
use Rattle.serde_json.specs.Data.{Data}
use Rattle.std.specs.Result.{IfOk}
use Rattle.std.specs.Prelude.{IfSome}
use Rattle.std.specs.String.{string_bytes}
use Rattle.std.specs.declared.alloc.AllocError.{AllocError}
use Rattle.bag_tree.specs.declared.fault.TreeFault.{TreeFault}
use Rattle.bag_tree.specs.Facts.{TreeFacts}
use Rattle.bag_tree.specs.Fault as tree_numbers
use Rattle.folder_checks.specs.declared.found.Found.{Found}
use Rattle.folder_checks.specs.declared.measure.Measure.{Measure}
use Rattle.folder_checks.specs.declared.report.Report.{Report}
use Rattle.folder_checks.specs.declared.verdict.Verdict.{Verdict}
use Rattle.folder_checks.specs.declared.verdict.Verdict.TheVariants.{Unread}
use Rattle.folder_checks.specs.Verdicts.{verdict_by, IsOrMemory, outcome_of_verdict}
use Rattle.folder_checks.specs.Explanations.{unread_line, lines_by, lines_after, IsPlace}
use Rattle.folder_checks.specs.Json.{IsFound, IsLineOf, asked_lines, files_in, folder_data}
use Rattle.folder_checks.specs.Json.{finding_data}
use Rattle.folder_checks.specs.Names.{read_of, place_of}
use Rattle.folder_checks.specs.Forms.{IsJson}
use Rattle.folder_checks.proofs.Explained.{known_is, unread_is}

-- what reads of folders give
abbrev Given : Type 0
Given = List ℕ → Result TreeFacts TreeFault

-- it is what a check finds
abbrev pub Finds : Report → Result TreeFacts TreeFault → Option (List ℕ) → Found → Type 0
Finds report read known found =
    IsFound report read known found.verdict found.files (option_map string_bytes found.lines)

-- of a tree that was read
pub found_in : (report : Report) (facts : TreeFacts) (verdict : Verdict) (files : Option ℕ)
    (lines : Option (List ℕ)) → IsOrMemory verdict (verdict_by report.question (Ok facts))
    → files ≡ files_in verdict (Ok facts)
    → ((place : Option (List ℕ)) → lines_after report.question verdict (Ok facts) place
    ≡ lines_by report.question facts)
    → lines ≡ asked_lines report (lines_by report.question facts)
    → (known : Option (List ℕ)) → IsFound report (Ok facts) known verdict files lines
found_in report facts verdict files lines is count after are known =
    (is, count, (known, known_is known, are ∙ ap (asked_lines report) (sym (after known))))

-- the same, where it is known what a read gives
pub found_read : (gives : Option Given) (known : Option (List ℕ)) (path : List ℕ)
    (facts : TreeFacts) (report : Report) (r : Result Found AllocError)
    → IfSome gives (λ gives. tree_numbers.IsOrMemory {T = TreeFacts} (Ok facts) (gives path))
    → IfOk r (λ found. (known : Option (List ℕ)) → Finds report (Ok facts) known found)
    → IfOk r (λ found. IfSome gives (λ gives. Finds report (gives path) known found))
found_read gives known path facts report (Err e) is finds = tt
found_read None known path facts report (Ok found) is finds = tt
found_read (Some gives) known path facts report (Ok found) is finds = rw is (finds known)

-- what is found of a folder that can't be read
abbrev pub IsUnread : Report → TreeFault → Option (List ℕ) → Found → Type 0
IsUnread report fault place found =
    (found.verdict ≡ Unread fault) × (found.files ≡ None)
    × (option_map string_bytes found.lines ≡ asked_lines report (unread_line fault place))

unread : (report : Report) (read : Result TreeFacts TreeFault) (known place : Option (List ℕ))
    (fault : TreeFault) (found : Found)
    → tree_numbers.IsOrMemory {T = TreeFacts} (Err fault) read → IsPlace known place
    → IsUnread report fault place found → Finds report read known found
unread report read known place fault found is at (verdict, files, lines) =
    rw verdict (unread_is report.question read fault is, files, (place, at, lines))

pub found_unread : (gives : Option Given) (known place : Option (List ℕ)) (path : List ℕ)
    (fault : TreeFault) (report : Report) (r : Result Found AllocError)
    → IfSome gives (λ gives. tree_numbers.IsOrMemory {T = TreeFacts} (Err fault) (gives path))
    → IsPlace known place → IfOk r (IsUnread report fault place)
    → IfOk r (λ found. IfSome gives (λ gives. Finds report (gives path) known found))
found_unread gives known place path fault report (Err e) is at finds = tt
found_unread None known place path fault report (Ok found) is at finds = tt
found_unread (Some gives) known place path fault report (Ok found) is at finds =
    unread report (gives path) known place fault found is at finds

-- the outcome of it, where it is known what a read gives
pub says : (gives : Option Given) (place : Option (List ℕ)) (name : List ℕ) (report : Report)
    (found : Found) (status : ℕ) (line bytes : List ℕ)
    → IfSome gives (λ gives. Finds report (read_of gives name) (place_of place name) found)
    → status ≡ (outcome_of_verdict found.verdict).status
    → ((words : Option (List ℕ)) × IsLineOf (folder_data name found.verdict found.files
    found.measure (option_map string_bytes found.lines) words) line)
    → bytes ≡ line
    → IfSome gives
    (λ gives. IsJson report place gives name (record { status = status; text = bytes }))
says None place name report found status line bytes finds is text same = tt
says (Some gives) place name report found status line bytes finds is (words, text) same =
    rw same
    (inl (
      found.verdict,
      found.files,
      found.measure,
      option_map string_bytes found.lines,
      words,
      finds,
      is,
      text,
    ))

-- the values of all lines of an explanation
pub all_found : (lines : List (Bor (List ℕ))) (i : ℕ) (values : List Data) (names : List (List ℕ))
    → length lines ≤ i → values ≡ map (λ line. finding_data line.now) (take i lines)
    → map (λ line. line.now) lines ≡ names → values ≡ map finding_data names
all_found lines i values names past are same =
    are ∙ (ap (λ l. map (λ line. finding_data line.now) l) (take_all i lines past)
    ∙ (sym (map-map finding_data (λ line. line.now) lines) ∙ ap (map finding_data) same))

-- the line that the text of a value makes
pub ended : (name : List ℕ) (verdict : Verdict) (files : Option ℕ) (measure : Measure)
    (lines words : Option (List ℕ)) (text : List ℕ) (r : Result (String Global) AllocError)
    → IfOk r (λ line. string_bytes line ≡ text ++ 10 ∷ [])
    → IsLineOf (folder_data name verdict files measure lines words) (text ++ 10 ∷ [])
    → IfOk r (λ line. (w : Option (List ℕ))
    × IsLineOf (folder_data name verdict files measure lines w) (string_bytes line))
ended name verdict files measure lines words text (Err e) same is = tt
ended name verdict files measure lines words text (Ok line) same is =
    (words, (same ∙ is.0, is.1))
