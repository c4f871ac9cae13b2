-- What is said of a folder as JSON has no float, and nests three deep at most. So a reader has the
-- value of its text.
use Rattle.std.proofs.Common.{◌≡◌, ℕ, suc, ◌+◌, ◌≤◌, Bool, true, false, ◌||◌, List, [], ◌∷◌, ◌++◌}
use Rattle.std.proofs.Common.{map, drop, Option, Some, None, cond, refl, ap, arith}
use Rattle.std.specs.Prelude.{◌==◌, position, unwrap_or}
use Rattle.std.proofs.Math.Nat.{max-le}
use Rattle.std.specs.Str.{is_utf8}
use Rattle.hex.specs.Hex.{encode_lower}
use Rattle.serde_json.specs.Data.{Data, null, string, array, Members, member, no_members, object}
use Rattle.serde_json.specs.Data.{Items, item, depth, items_depth, members_depth}
use Rattle.serde_json.specs.View.{items_of}
use Rattle.serde_json.specs.Read.{read, max_depth}
use Rattle.serde_json.specs.Written.{compact_text, has_float, items_have_float, members_have_float}
use Rattle.tokens.specs.Escapes.{escaped_text}
use Rattle.bag_tree.specs.Fault as tree_numbers
use Rattle.bag_check.specs.Fault as bag_numbers
use Rattle.folder_checks.specs.declared.measure.Measure.{Measure}
use Rattle.folder_checks.specs.declared.verdict.Verdict.{Verdict}
use Rattle.folder_checks.specs.declared.verdict.Verdict.TheVariants.{Valid, Complete, Invalid}
use Rattle.folder_checks.specs.declared.verdict.Verdict.TheVariants.{Unread}
use Rattle.folder_checks.specs.Json.{IsLineOf, text_data, code_data, identity_data, finding_at}
use Rattle.folder_checks.specs.Json.{finding_data, count_data, places_data, words_data, folder_data}
use Rattle.folder_checks.specs.Json.{number_data, verdict_word}
use Rattle.folder_checks.specs.Names.{names_of}

-- it has no float, and nests no deeper than this
pub record IsPlain (most : ℕ) (value : Data) : Type 0 where
  pub no_float : has_float value ≡ false
  pub shallow : depth value ≤ most

record ArePlain (most : ℕ) (ms : Members) : Type 0 where
  pub no_float : members_have_float ms ≡ false
  pub shallow : members_depth ms ≤ most

neither : (a b : Bool) → a ≡ false → b ≡ false → (a || b) ≡ false
neither false false p q = refl
neither false true p q = absurd (cc q)
neither true b p q = absurd (cc p)

none_plain : (most : ℕ) → ArePlain most no_members
none_plain most = record { no_float = refl; shallow = omega arith }

-- one member more
more_plain : (most : ℕ) (key : List ℕ) (value : Data) (ms : Members) → IsPlain most value
    → ArePlain most ms → ArePlain most (member key value ms)
more_plain most key value ms first rest = record {
  no_float = neither (has_float value) (members_have_float ms) first.no_float rest.no_float;
  shallow = max-le first.shallow rest.shallow;
}

plain_null : (most : ℕ) → IsPlain most null
plain_null most = record { no_float = refl; shallow = omega arith }

plain_string : (bytes : List ℕ) (most : ℕ) → IsPlain most (string bytes)
plain_string bytes most = record { no_float = refl; shallow = omega arith }

plain_number : (n most : ℕ) → IsPlain most (number_data n)
plain_number n most = record { no_float = refl; shallow = omega arith }

plain_text : (bytes : List ℕ) (most : ℕ) → IsPlain most (text_data bytes)
plain_text bytes most = go (is_utf8 bytes)
  where
    go : (t : Bool) → IsPlain most (cond t (string bytes) null)
    go true = plain_string bytes most
    go false = plain_null most

plain_code : (verdict : Verdict) (most : ℕ) → IsPlain most (code_data verdict)
plain_code (Valid bag) most = plain_null most
plain_code (Complete bag) most = plain_null most
plain_code (Invalid fault) most = plain_number (bag_numbers.number_of fault) most
plain_code (Unread fault) most = plain_number (tree_numbers.number_of fault) most

plain_identity : (verdict : Verdict) (most : ℕ) → IsPlain most (identity_data verdict)
plain_identity (Valid bag) most = plain_string (encode_lower bag.0) most
plain_identity (Complete bag) most = plain_string (encode_lower bag.0) most
plain_identity (Invalid fault) most = plain_null most
plain_identity (Unread fault) most = plain_null most

plain_count : (count : Option ℕ) (most : ℕ) → IsPlain most (count_data count)
plain_count None most = plain_null most
plain_count (Some n) most = plain_number n most

plain_words : (words : Option (List ℕ)) (most : ℕ) → IsPlain most (words_data words)
plain_words None most = plain_null most
plain_words (Some words) most = plain_string words most

-- an object is one deeper than its members
object_plain : (most : ℕ) (ms : Members) → ArePlain most ms → IsPlain (suc most) (object ms)
object_plain most ms are = record {
  no_float = are.no_float;
  shallow = omega (arith, are.shallow);
}

plain_finding : (line : List ℕ) (space : ℕ) → IsPlain 1 (finding_at line space)
plain_finding line space =
    object_plain 0 _ (more_plain 0 _ _ _ (plain_number _ 0)
    (more_plain 0 _ _ _ (plain_text (drop (space + 1) line) 0) (none_plain 0)))

record ItemsPlain (most : ℕ) (items : Items) : Type 0 where
  pub no_float : items_have_float items ≡ false
  pub shallow : items_depth items ≤ most

more_items : (most : ℕ) (value : Data) (items : Items) → IsPlain most value
    → ItemsPlain most items → ItemsPlain most (item value items)
more_items most value items first rest = record {
  no_float = neither (has_float value) (items_have_float items) first.no_float rest.no_float;
  shallow = max-le first.shallow rest.shallow;
}

plain_findings : (lines : List (List ℕ)) → ItemsPlain 1 (items_of (map finding_data lines))
plain_findings [] = record { no_float = refl; shallow = omega arith }
plain_findings (line ∷ lines) =
    more_items 1 (finding_data line) (items_of (map finding_data lines))
    (plain_finding line (unwrap_or (position (λ b. b == 32) line) 0)) (plain_findings lines)

array_plain : (most : ℕ) (items : Items) → ItemsPlain most items → IsPlain (suc most) (array items)
array_plain most items are = record {
  no_float = are.no_float;
  shallow = omega (arith, are.shallow);
}

plain_places : (lines : Option (List ℕ)) → IsPlain 2 (places_data lines)
plain_places None = plain_null 2
plain_places (Some lines) =
    array_plain 1 (items_of (map finding_data (names_of 10 lines)))
    (plain_findings (names_of 10 lines))

pub plain_folder : (name : List ℕ) (verdict : Verdict) (files : Option ℕ) (measure : Measure)
    (lines words : Option (List ℕ)) → IsPlain 3 (folder_data name verdict files measure lines words)
unfolding folder_data
plain_folder name verdict files measure lines words =
    object_plain 2 _ (more_plain 2 _ _ _ (plain_count measure.bytes 2)
    (more_plain 2 _ _ _ (plain_code verdict 2)
    (more_plain 2 _ _ _ (plain_string (escaped_text name) 2)
    (more_plain 2 _ _ _ (plain_count files 2)
    (more_plain 2 _ _ _ (plain_text name 2)
    (more_plain 2 _ _ _ (plain_identity verdict 2)
    (more_plain 2 _ _ _ (plain_places lines)
    (more_plain 2 _ _ _ (plain_count measure.seconds 2)
    (more_plain 2 _ _ _ (plain_string (verdict_word verdict) 2)
    (more_plain 2 _ _ _ (plain_words words 2) (none_plain 2)))))))))))

-- the line of a plain value
pub line_of : (wanted value : Data) (text : List ℕ) → IsPlain 3 wanted → value ≡ wanted
    → (has_float value ≡ false → text ≡ compact_text value)
    → (depth value ≤ max_depth → read text ≡ Some value) → IsLineOf wanted (text ++ 10 ∷ [])
line_of wanted value text plain same is reads =
    let written = rw same at is in
    let back = rw same at reads in
    let shallow : depth wanted ≤ max_depth = omega (arith, plain.shallow) in
    let text_is : text ≡ compact_text wanted = written plain.no_float in
    (ap (λ t. t ++ 10 ∷ []) text_is, rw text_is at (back shallow))
