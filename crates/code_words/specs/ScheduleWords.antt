-- What is said to be wrong with a line of a schedule.
use Rattle.std.specs.Prelude.{ℕ, ◌+◌, Bool, true, false, not, ◌&&◌, ◌==◌, if◌then◌else◌}
use Rattle.std.specs.Prelude.{List, [], ◌∷◌, ◌++◌, length, drop, map, codes}
use Rattle.std.specs.Prelude.{Option, Some, None, unwrap_or}
use Rattle.std.specs.Char.{to_ascii_lowercase}
use Rattle.std.specs.Fmt.{decimal}
use Rattle.std.specs.List.{find, list_any}
use Rattle.std.specs.Option.{option_map_or}
use Rattle.std.specs.Str.{bytes_eq, is_utf8}
use Rattle.tokens.specs.Words.{words_of}
use Rattle.code_words.specs.declared.file_kind.FileKind.{FileKind}
use Rattle.code_words.specs.declared.file_kind.FileKind.TheVariants as file
use Rattle.code_words.specs.declared.form.Form.{Form}
use Rattle.code_words.specs.declared.kind.Kind.{Kind}
use Rattle.code_words.specs.declared.kind.Kind.TheVariants.{Federation, Count, Weight, Site, Tree}
use Rattle.code_words.specs.declared.kind.Kind.TheVariants.{Object, Version, Number, Path, Bytes}
use Rattle.code_words.specs.FileKinds.{begins, kind_of_line, said_of}
use Rattle.code_words.specs.Kinds.{name_of, range_of, takes, wrong_text}
use Rattle.code_words.specs.ScheduleLines.{line_at, has_command_before}
use Rattle.code_words.specs.Words.{found_text}

-- ---- the words after a command's name

-- a word of this kind is missing, and which there are
abbrev pub missing_text : Kind → List ℕ
missing_text kind = name_of kind ++ (codes " is missing, " ++ range_of kind)

-- what is wrong with the first word that is missing or not of its kind, if there is one
abbrev pub first_fault : List Kind → (words : List (List ℕ)) → Option (List ℕ)
first_fault [] words = None
first_fault (kind ∷ kinds) [] = Some (missing_text kind)
first_fault (kind ∷ kinds) (word ∷ words) =
    if takes kind word then first_fault kinds words else Some (wrong_text kind word)

-- that a comment has a line of its own, where this word begins one
abbrev pub own_line_text : List ℕ → List ℕ
own_line_text word =
    if begins word (codes "#") then codes "; a comment has a line of its own" else []

-- the same for the first of these words
abbrev pub comment_text : List (List ℕ) → List ℕ
comment_text [] = []
comment_text (word ∷ words) = own_line_text word

-- ---- the commands

-- a command
pub record Command : Type 0 where
  pub name : List ℕ
  -- what it takes, in words
  pub takes : List ℕ
  pub kinds : List Kind
  pub has_fate : Bool

-- how the program has one
abbrev pub command_of : Form → Command
command_of form = record {
  name = form.name.now;
  takes = form.takes.now;
  kinds = form.kinds.now;
  has_fate = form.has_fate;
}

-- a command that no fate may follow
abbrev pub plain : (name takes : List ℕ) → List Kind → Command
plain name takes kinds =
    record { name = name; takes = takes; kinds = kinds; has_fate = false }

-- a command that a fate may follow
abbrev pub fated : (name takes : List ℕ) → List Kind → Command
fated name takes kinds =
    record { name = name; takes = takes; kinds = kinds; has_fate = true }

-- each command but `federation`
unfoldable pub commands : List Command
commands =
    plain (codes "tree") (codes "the number of a tree") (Tree ∷ [])
    ∷ plain (codes "folder") (codes "the number of a tree") (Tree ∷ [])
    ∷ plain (codes "file") (codes "a tree, a path and bytes in hex") (Tree ∷ Path ∷ Bytes ∷ [])
    ∷ fated (codes "deposit") (codes "a site, a tree, an object and a version")
    (Site ∷ Tree ∷ Object ∷ Version ∷ [])
    ∷ fated (codes "propose") (codes "a site, an object and a version")
    (Site ∷ Object ∷ Version ∷ [])
    ∷ fated (codes "recover") (codes "a site, an object and a version")
    (Site ∷ Object ∷ Version ∷ [])
    ∷ fated (codes "deliver") (codes "the number of one datagram") (Number ∷ [])
    ∷ plain (codes "pump") (codes "a number") (Number ∷ [])
    ∷ fated (codes "ask") (codes "a site, the site that it asks, an object and a version")
    (Site ∷ Site ∷ Object ∷ Version ∷ [])
    ∷ plain (codes "query") (codes "a site, an object and a version")
    (Site ∷ Object ∷ Version ∷ [])
    ∷ plain (codes "raw") (codes "a site and bytes in hex") (Site ∷ Bytes ∷ [])
    ∷ plain (codes "stop") (codes "a site") (Site ∷ [])
    ∷ plain (codes "start") (codes "a site") (Site ∷ [])
    ∷ []

-- two names differ in letter case at most
abbrev pub same_but_case : List ℕ → List ℕ → Bool
same_but_case a b = bytes_eq (map to_ascii_lowercase a) (map to_ascii_lowercase b)

-- that the words after those that a command takes are no fate, or too much
abbrev pub surplus_end : (has_fate : Bool) → List ℕ
surplus_end true = codes " is no fate, stop 1 K, stop 2 K, stop 3 J, fail 1 K or fail 2 K"
surplus_end false = codes " is too much"

-- the words that are left after those that the command takes, and what is wrong with them
abbrev pub surplus_text : Command → (left : List (List ℕ)) → List ℕ
surplus_text command left =
    found_text left ++ (surplus_end command.has_fate ++ comment_text left)

-- the first fault of the words after a command's name, or else what is left of them
abbrev pub command_fault : Command → (arguments : List (List ℕ)) → List ℕ
command_fault command arguments =
    unwrap_or (first_fault command.kinds arguments)
    (surplus_text command (drop (length command.kinds) arguments))

-- what the command takes, what was found, and the first fault of it
abbrev pub form_text : Command → (arguments : List (List ℕ)) → List ℕ
form_text command arguments =
    command.name
    ++ (codes " takes "
    ++ (command.takes
    ++ (codes "; found "
    ++ (found_text arguments
    ++ (codes ": "
    ++ command_fault command arguments)))))

-- that the command of this name is one, in lower case
abbrev pub lower_text : Command → List ℕ
lower_text command = codes "; in lower case, " ++ (command.name ++ codes " is one")

-- there is no command of this name, but perhaps one that differs only in letter case
unfoldable pub unknown_text : (name : List ℕ) → List ℕ
unknown_text name =
    codes "there is no command "
    ++ (found_text (name ∷ [])
    ++ option_map_or lower_text (find (λ command. same_but_case command.name name) commands) [])

-- what is wrong with a command after the first one
unfoldable pub command_text : (name : List ℕ) → (arguments : List (List ℕ)) → List ℕ
command_text name arguments =
    if bytes_eq name (codes "federation")
    then codes "federation stands once, as the first command"
    else option_map_or (λ command. form_text command arguments)
    (find (λ command. bytes_eq command.name name) commands) (unknown_text name)

-- ---- the first command

-- a word is no weight
abbrev pub weight_text : (word : List ℕ) → List ℕ
weight_text word = wrong_text Weight word ++ comment_text (word ∷ [])

-- how many weights there are, and are wanted
abbrev pub count_text : (count : ℕ) → List ℕ
count_text count =
    codes "it has " ++ (decimal count ++ codes " weights, and needs one for each site, or none")

-- what is wrong with the words after F N
abbrev pub weights_text : (weights : List (List ℕ)) → List ℕ
weights_text weights =
    option_map_or weight_text (find (λ word. not (takes Weight word)) weights)
    (count_text (length weights))

-- the first fault of F N after `federation`, or else of the weights
abbrev pub federation_fault : (arguments : List (List ℕ)) → List ℕ
federation_fault arguments =
    unwrap_or (first_fault (Federation ∷ Count ∷ []) arguments) (weights_text (drop 2 arguments))

-- what is wrong with the words after `federation`
unfoldable pub federation_text : (arguments : List (List ℕ)) → List ℕ
federation_text arguments =
    codes "federation takes its number, how many sites it has, and their weights if "
    ++ (codes "they differ; found "
    ++ (found_text arguments ++ (codes ": " ++ federation_fault arguments)))

-- that the word begins with a byte order mark, where it does
abbrev pub mark_text : List ℕ → List ℕ
mark_text word =
    if begins word (0xEF ∷ 0xBB ∷ 0xBF ∷ [])
    then codes "; it begins with a byte order mark: save it without"
    else []

-- the first command has another name than `federation`
abbrev pub other_name_text : (name : List ℕ) → (words : List (List ℕ)) → List ℕ
other_name_text name words =
    codes "the first command has to be federation F N; found "
    ++ (found_text words ++ mark_text name)

-- what is wrong with the first command, of these words
unfoldable pub first_text : List (List ℕ) → List ℕ
first_text [] = codes "there is no command: the first has to be federation F N"
first_text (name ∷ arguments) =
    if bytes_eq name (codes "federation") then federation_text arguments
    else other_name_text name (name ∷ arguments)

-- ---- lines

-- a text of this kind is a list that the program prints or reads
abbrev pub is_list : FileKind → Bool
is_list file.Ledger = true
is_list file.Journal = true
is_list file.Deposits = true
is_list file.Json = true
is_list kind = false

-- of which list a text of this kind is, if it is one
abbrev pub kind_text : Option FileKind → List ℕ
kind_text None = []
kind_text (Some kind) = if is_list kind then said_of kind else []

-- of which list a line is, if it is one's
abbrev pub list_text : (line : List ℕ) → List ℕ
list_text line = if is_utf8 line then kind_text (kind_of_line line) else []

-- that a tab separates no words, where the line has one
abbrev pub tab_text : (line : List ℕ) → List ℕ
tab_text line =
    if list_any (λ byte. byte == 9) line then codes "; a tab separates no words: write a space"
    else []

-- the words are `federation F`, and no number of sites
abbrev pub names_members : List (List ℕ) → Bool
names_members (name ∷ number ∷ []) = bytes_eq name (codes "federation")
names_members words = false

-- the first of the words is `site`
abbrev pub names_site : List (List ℕ) → Bool
names_site [] = false
names_site (name ∷ words) = bytes_eq name (codes "site")

-- a members file begins at the line of this number and these words
unfoldable pub begins_members : (text : List ℕ) → (number : ℕ) → List (List ℕ) → Bool
begins_members text number words =
    names_members words && not (has_command_before text number)
    && names_site (words_of (line_at text (number + 1)))

-- what is wrong with a line of these words, which may stand after another command
unfoldable pub words_text : (later : Bool) → (line : List ℕ) → List (List ℕ) → List ℕ
words_text true line (name ∷ arguments) = command_text name arguments
words_text later line words = first_text words ++ list_text line

-- what is wrong with the line of this number
unfoldable pub line_text : (schedule : List ℕ) → (number : ℕ) → List ℕ
line_text schedule number =
    let line = line_at schedule number in
    let words = words_of line in
    if begins_members schedule number words
    then codes "this is a members file; a schedule begins with federation F N"
    else words_text (has_command_before schedule number) line words ++ tab_text line

-- the number of the line, counted from 1, and what is wrong with it
abbrev pub schedule_text : (schedule : List ℕ) → (number : ℕ) → List ℕ
schedule_text schedule number =
    codes "line " ++ (decimal number ++ (codes ": " ++ line_text schedule number))
