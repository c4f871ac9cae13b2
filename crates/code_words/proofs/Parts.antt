-- The parts of a word between digits that may be a key's, one after the other.
use Rattle.std.proofs.Common.{◌≡◌, ◌<◌, ◌≤◌, ℕ, zero, suc, ◌+◌, ◌-◌, Bool, true, false, List, []}
use Rattle.std.proofs.Common.{◌∷◌, ◌++◌, rules, arith, length, take, drop, cond, option_map, refl}
use Rattle.std.proofs.Common.{ap, ◌∙◌, length-drop, append_assoc, subst}
use Rattle.std.specs.Prelude.{Option, None, Some, codes, nat_le, nat_lt, if◌then◌else◌}
use Rattle.std.specs.Char.{is_ascii_hexdigit}
use Rattle.std.specs.List.{onto_first, prefix_len}
use Rattle.std.proofs.lemmas.List.{take_all}
use Rattle.std.proofs.Math.Numerals.{one-add}
use borrow.Author.Tests.{tests}
use Rattle.code_words.specs.Keys.{hidden_digits, further}
use Rattle.code_words.specs.Words.{bytes_text, front_text, parts_after, parts_text}

-- what is passed over, and then the rest
parts_left : (left : ℕ) (bytes : List ℕ)
    → parts_after left bytes ≡ parts_after 0 (drop left bytes)
unfolding parts_after
parts_left zero bytes = refl
parts_left (suc left) [] = refl
parts_left (suc left) (byte ∷ bytes) = parts_left left bytes

-- so many digits are one and those after it
count_of : (is : Bool) (after : ℕ) → nat_le 64 (cond is (1 + after) 0) ≡ true
    → cond is (1 + after) 0 ≡ 1 + after
count_of true after many = refl
count_of false after many = cc

-- the parts, by where the digits stand
abbrev PartsOf : Option (ℕ × ℕ) → (parts : List (List ℕ)) → (bytes : List ℕ) → Type 0
PartsOf None parts bytes = parts ≡ bytes ∷ []
PartsOf (Some at) parts bytes = parts ≡ take at.0 bytes ∷ parts_after 0 (drop at.1 bytes)

one_further : (o : Option (ℕ × ℕ)) (parts : List (List ℕ)) (byte : ℕ) (bytes : List ℕ)
    → PartsOf o parts bytes
    → PartsOf (option_map (further 1) o) (onto_first byte parts) (byte ∷ bytes)
one_further None parts byte bytes is = rw is
one_further (Some at) parts byte bytes is = rw (is, one-add at.0, one-add at.1)

by_test : (is : Bool) (count after byte : ℕ) (bytes : List ℕ) → (is ≡ true → count ≡ 1 + after)
    → PartsOf (hidden_digits bytes) (parts_after 0 bytes) bytes
    → PartsOf (if is then Some (0, count) else option_map (further 1) (hidden_digits bytes))
    (if is then [] ∷ parts_after after bytes else onto_first byte (parts_after 0 bytes))
    (byte ∷ bytes)
by_test true count after byte bytes counts rest =
    rw (parts_left after bytes, counts refl, one-add after)
by_test false count after byte bytes counts rest =
    one_further (hidden_digits bytes) (parts_after 0 bytes) byte bytes rest

parts_of : (bytes : List ℕ) → PartsOf (hidden_digits bytes) (parts_after 0 bytes) bytes
unfolding hidden_digits parts_after
parts_of [] = refl
parts_of (byte ∷ bytes) =
    by_test _ _ (prefix_len is_ascii_hexdigit bytes) byte bytes
    (count_of (is_ascii_hexdigit byte) (prefix_len is_ascii_hexdigit bytes)) (parts_of bytes)

-- there is one at least
onto_some : (byte : ℕ) (parts : List (List ℕ)) → 0 < length (onto_first byte parts)
onto_some byte [] = omega arith
onto_some byte (part ∷ parts) = omega arith

some_by : (is : Bool) (first : List (List ℕ)) (byte : ℕ) (parts : List (List ℕ))
    → 0 < length (if is then [] ∷ first else onto_first byte parts)
some_by true first byte parts = omega arith
some_by false first byte parts = onto_some byte parts

some_part : (left : ℕ) (bytes : List ℕ) → 0 < length (parts_after left bytes)
unfolding parts_after
some_part left [] = omega arith
some_part (suc left) (byte ∷ bytes) = some_part left bytes
some_part zero (byte ∷ bytes) = some_by _ _ byte _

-- the text of a part with more after it
more_text : (room : ℕ) (part : List ℕ) (parts : List (List ℕ)) → 0 < length parts
    → parts_text room (part ∷ parts)
    ≡ (if nat_lt room (length part) then front_text room part
    else bytes_text part ++ (codes ".." ++ parts_text (room - length part) parts))
unfolding parts_text
more_text room part [] some = absurd (omega arith)
more_text room part (next ∷ parts) some = refl

-- the text of a word of which there is no more than a part
pub last_text : (room : ℕ) (bytes : List ℕ) → hidden_digits bytes ≡ None
    → parts_text room (parts_after 0 bytes) ≡ front_text room bytes
unfolding parts_text
last_text room bytes none =
    ap (parts_text room) (subst (λ o. PartsOf o (parts_after 0 bytes) bytes) none (parts_of bytes))

-- and of one that begins with a part
begun : (room : ℕ) (bytes : List ℕ) (begin end : ℕ) → hidden_digits bytes ≡ Some (begin, end)
    → parts_text room (parts_after 0 bytes)
    ≡ (if nat_lt room (length (take begin bytes)) then front_text room (take begin bytes)
    else bytes_text (take begin bytes)
    ++ (codes ".." ++ parts_text (room - length (take begin bytes))
    (parts_after 0 (drop end bytes))))
begun room bytes begin end some =
    ap (parts_text room) (subst (λ o. PartsOf o (parts_after 0 bytes) bytes) some (parts_of bytes))
    ∙ more_text room (take begin bytes) _ (some_part 0 (drop end bytes))

pub long_text : (room : ℕ) (bytes : List ℕ) (begin end : ℕ)
    → hidden_digits bytes ≡ Some (begin, end) → room < length (take begin bytes)
    → parts_text room (parts_after 0 bytes) ≡ front_text room (take begin bytes)
long_text room bytes begin end some long =
    let is : nat_lt room (length (take begin bytes)) ≡ true = search (rules, tests) in
    rw (begun room bytes begin end some, is)

pub next_text : (room : ℕ) (bytes : List ℕ) (begin end : ℕ)
    → hidden_digits bytes ≡ Some (begin, end) → length (take begin bytes) ≤ room
    → parts_text room (parts_after 0 bytes)
    ≡ bytes_text (take begin bytes)
    ++ (codes ".." ++ parts_text (room - length (take begin bytes))
    (parts_after 0 (drop end bytes)))
next_text room bytes begin end some short =
    let is : nat_lt room (length (take begin bytes)) ≡ false = search (rules, tests) in
    rw (begun room bytes begin end some, is)

-- the bytes from a place on are all that stand there
pub whole_rest : (begin : ℕ) (bytes : List ℕ)
    → take (length bytes - begin) (drop begin bytes) ≡ drop begin bytes
whole_rest begin bytes =
    let all : length (drop begin bytes) ≤ length bytes - begin =
    omega (arith, length-drop begin bytes) in
    take_all (length bytes - begin) (drop begin bytes) all

-- a part and dots were appended, and the rest is to be
pub appended : (old mid new part dots rest all : List ℕ) → mid ≡ old ++ part → new ≡ mid ++ dots
    → all ≡ part ++ (dots ++ rest) → new ++ rest ≡ old ++ all
appended old mid new part dots rest all a b c =
    rw (b, a, c) (simp append_assoc)
