-- What a line says as JSON has no float, and nests two deep at most. So a reader has the value of
-- its text.
use Rattle.std.proofs.Common.{◌≡◌, ℕ, suc, ◌≤◌, Bool, true, false, ◌||◌, List, [], ◌∷◌, ◌++◌}
use Rattle.std.proofs.Common.{map, Option, Some, None, cond, refl, ap, arith, ◌∙◌, Result, Ok, Err}
use Rattle.std.proofs.Common.{Bor, length, take, sym}
use Rattle.std.proofs.lemmas.List.{take_all}
use Rattle.std.proofs.lemmas.Simd.{map-map}
use Rattle.std.specs.Result.{IfOk}
use Rattle.std.specs.Prelude.{String, string_bytes}
use Rattle.std.specs.declared.alloc.AllocError.{AllocError}
use Rattle.std.specs.declared.alloc.Global.{Global}
use Rattle.std.specs.Ordering.{match_ordering, nat_cmp}
use Rattle.std.specs.Cmp.Lexicographic.{slice_cmp}
use Rattle.std.specs.Prelude.{codes}
use Rattle.std.specs.declared.cmp.Ordering.{Ordering}
use Rattle.std.specs.declared.cmp.Ordering.TheVariants.{Less, Equal, Greater}
use Rattle.std.proofs.Math.Nat.{max-le}
use Rattle.std.specs.Str.{IsUtf8, is_utf8}
use Rattle.std.proofs.lemmas.Str.{IsUtf8-from_is_utf8}
use Rattle.serde_json.specs.Data.{Data, null, string, array, Members, member, no_members, object}
use Rattle.serde_json.specs.Data.{Items, depth, items_depth, members_depth, put}
use Rattle.serde_json.specs.View.{items_of}
use Rattle.serde_json.specs.Read.{read, max_depth}
use Rattle.serde_json.specs.Written.{compact_text, has_float, items_have_float, members_have_float}
use Rattle.tokens.specs.Words.{text_of, number_in}
use Rattle.json_lines.specs.Forms.{FormPart, word, name, number, text, numbers, LineForm}
use Rattle.json_lines.specs.Forms.{after, form_of}
use Rattle.json_lines.specs.Json.{IsLineOf, text_data, name_data, number_data, number_in_word}
use Rattle.json_lines.specs.Json.{first_of, with_part, with_parts, formed_data, words_in, line_data}

pub not_text : (bytes : List ℕ) → ¬ IsUtf8 bytes → is_utf8 bytes ≡ false
not_text bytes not = go (is_utf8 bytes) refl
  where
    go : (t : Bool) → is_utf8 bytes ≡ t → is_utf8 bytes ≡ false
    go true is = absurd (not (IsUtf8-from_is_utf8 bytes is))
    go false is = is

-- it has no float, and nests no deeper than this
pub record IsPlain (most : ℕ) (value : Data) : Type 0 where
  pub no_float : has_float value ≡ false
  pub shallow : depth value ≤ most

record ArePlain (most : ℕ) (ms : Members) : Type 0 where
  pub no_float : members_have_float ms ≡ false
  pub shallow : members_depth ms ≤ most

record ItemsPlain (most : ℕ) (items : Items) : Type 0 where
  pub no_float : items_have_float items ≡ false
  pub shallow : items_depth items ≤ most

neither : (a b : Bool) → a ≡ false → b ≡ false → (a || b) ≡ false
neither false false p q = refl
neither false true p q = absurd (cc q)
neither true b p q = absurd (cc p)

first_none : (a b : Bool) → (a || b) ≡ false → a ≡ false
first_none false b p = refl
first_none true b p = absurd (cc p)

second_none : (a b : Bool) → (a || b) ≡ false → b ≡ false
second_none false b p = p
second_none true b p = absurd (cc p)

none_plain : (most : ℕ) → ArePlain most no_members
none_plain most = record { no_float = refl; shallow = omega arith }

-- one member more
more_plain : (most : ℕ) (key : List ℕ) (value : Data) (ms : Members) → IsPlain most value
    → ArePlain most ms → ArePlain most (member key value ms)
more_plain most key value ms first rest = record {
  no_float = neither (has_float value) (members_have_float ms) first.no_float rest.no_float;
  shallow = max-le first.shallow rest.shallow;
}

-- the first of members, and the rest
first_plain : (most : ℕ) (key : List ℕ) (value : Data) (ms : Members)
    → ArePlain most (member key value ms) → IsPlain most value
first_plain most key value ms are = record {
  no_float = first_none (has_float value) (members_have_float ms) are.no_float;
  shallow = omega (arith, are.shallow);
}

rest_plain : (most : ℕ) (key : List ℕ) (value : Data) (ms : Members)
    → ArePlain most (member key value ms) → ArePlain most ms
rest_plain most key value ms are = record {
  no_float = second_none (has_float value) (members_have_float ms) are.no_float;
  shallow = omega (arith, are.shallow);
}

put_plain : (most : ℕ) (key : List ℕ) (value : Data) (ms : Members) → IsPlain most value
    → ArePlain most ms → ArePlain most (put key value ms)
put_plain most key value no_members is are = more_plain most key value no_members is are
put_plain most key value (member other its ms) is are =
    go (slice_cmp nat_cmp key other)
    (put_plain most key value ms is (rest_plain most other its ms are))
  where
    go : (order : Ordering) → ArePlain most (put key value ms)
        → ArePlain most (match_ordering order (member key value (member other its ms))
        (member other value ms) (member other its (put key value ms)))
    go Less later = more_plain most key value (member other its ms) is are
    go Equal later = more_plain most other value ms is (rest_plain most other its ms are)
    go Greater later =
        more_plain most other its (put key value ms) (first_plain most other its ms are) later

plain_string : (bytes : List ℕ) (most : ℕ) → IsPlain most (string bytes)
plain_string bytes most = record { no_float = refl; shallow = omega arith }

plain_null : (most : ℕ) → IsPlain most null
plain_null most = record { no_float = refl; shallow = omega arith }

plain_text : (bytes : List ℕ) (most : ℕ) → IsPlain most (text_data bytes)
plain_text bytes most = go (is_utf8 bytes)
  where
    go : (t : Bool) → IsPlain most (cond t (string bytes) null)
    go true = plain_string bytes most
    go false = plain_null most

plain_name : (found : Option (List ℕ)) (most : ℕ) → IsPlain most (name_data found)
plain_name None most = plain_null most
plain_name (Some bytes) most = plain_string bytes most

plain_number : (found : Option ℕ) (most : ℕ) → IsPlain most (number_data found)
plain_number None most = plain_null most
plain_number (Some n) most = record { no_float = refl; shallow = omega arith }

plain_items : (words : List (List ℕ)) → ItemsPlain 0 (items_of (map number_in_word words))
plain_items [] = record { no_float = refl; shallow = omega arith }
plain_items (first ∷ words) =
    let one = plain_number (number_in 0 18446744073709551615 first) 0 in
    let more = plain_items words in
    record {
      no_float = neither (has_float (number_in_word first))
          (items_have_float (items_of (map number_in_word words))) one.no_float more.no_float;
      shallow = max-le one.shallow more.shallow;
    }

plain_numbers : (words : List (List ℕ)) → IsPlain 1 (array (items_of (map number_in_word words)))
plain_numbers words = record {
  no_float = (plain_items words).no_float;
  shallow = omega (arith, (plain_items words).shallow);
}

part_plain : (part : FormPart) (words : List (List ℕ)) (ms : Members) → ArePlain 1 ms
    → ArePlain 1 (with_part part words ms)
part_plain (word it) words ms are = are
part_plain (name key) words ms are =
    put_plain 1 key _ ms (plain_name (text_of (first_of words)) 1) are
part_plain (number key) words ms are =
    put_plain 1 key _ ms (plain_number (number_in 0 18446744073709551615 (first_of words)) 1) are
part_plain (text key) words ms are = put_plain 1 key _ ms (plain_text (first_of words) 1) are
part_plain (numbers key) words ms are = put_plain 1 key _ ms (plain_numbers words) are

parts_plain : (parts : List FormPart) (words : List (List ℕ)) (ms : Members) → ArePlain 1 ms
    → ArePlain 1 (with_parts parts words ms)
parts_plain [] words ms are = are
parts_plain (part ∷ parts) words ms are =
    parts_plain parts (after part words) (with_part part words ms) (part_plain part words ms are)

-- an object is one deeper than its members
object_plain : (most : ℕ) (ms : Members) → ArePlain most ms → IsPlain (suc most) (object ms)
object_plain most ms are = record {
  no_float = are.no_float;
  shallow = omega (arith, are.shallow);
}

formed_plain : (form : Option LineForm) (words : List (List ℕ)) (line : List ℕ)
    → IsPlain 2 (formed_data form words line)
formed_plain None words line =
    object_plain 1 _ (put_plain 1 (codes "line") _ no_members (plain_text line 1) (none_plain 1))
formed_plain (Some form) words line =
    object_plain 1 _ (put_plain 1 (codes "line") _ _ (plain_string form.kind 1)
    (parts_plain form.parts words no_members (none_plain 1)))

plain_line : (line : List ℕ) → IsPlain 2 (line_data line)
unfolding line_data
plain_line line = formed_plain (form_of (words_in line)) (words_in line) line

-- the line of the value of a line
pub line_of : (line : List ℕ) (value : Data) (bytes : List ℕ) → value ≡ line_data line
    → (has_float value ≡ false → bytes ≡ compact_text value)
    → (depth value ≤ max_depth → read bytes ≡ Some value)
    → IsLineOf (line_data line) (bytes ++ 10 ∷ [])
line_of line value bytes same is reads =
    let plain = plain_line line in
    let written = rw same at is in
    let back = rw same at reads in
    let shallow : depth (line_data line) ≤ max_depth = omega (arith, plain.shallow) in
    let bytes_are : bytes ≡ compact_text (line_data line) = written plain.no_float in
    (ap (λ t. t ++ 10 ∷ []) bytes_are, rw bytes_are at (back shallow))

pub ended : (line bytes : List ℕ) (r : Result (String Global) AllocError)
    → IfOk r (λ whole. string_bytes whole ≡ bytes ++ 10 ∷ [])
    → IsLineOf (line_data line) (bytes ++ 10 ∷ [])
    → IfOk r (λ whole. IsLineOf (line_data line) (string_bytes whole))
ended line bytes (Err e) same is = tt
ended line bytes (Ok whole) same is = (same ∙ is.0, is.1)

-- all words have their values, once none is left
pub all_numbers : (words : List (Bor (List ℕ))) (i : ℕ) (values : List Data) → length words ≤ i
    → values ≡ map (λ word. number_in_word word.now) (take i words)
    → values ≡ map number_in_word (map (λ word. word.now) words)
all_numbers words i values past are =
    are ∙ (ap (λ l. map (λ word. number_in_word word.now) l) (take_all i words past)
    ∙ sym (map-map number_in_word (λ word. word.now) words))
