-- The digits of hex that stand in a row.
use Rattle.std.proofs.Common.{◌≡◌, ℕ, ◌+◌, ◌<◌, ◌≤◌, List, [], ◌∷◌, length, drop, refl, ap, ◌∙◌}
use Rattle.std.proofs.Common.{rules, suc, Bool, true, false, option_map, arith, cond}
use Rattle.std.specs.Prelude.{Option, None, Some, nat_le, if◌then◌else◌}
use Rattle.std.specs.Char.{is_ascii_hexdigit}
use Rattle.std.specs.List.{prefix_len}
use Rattle.std.proofs.lemmas.List.{drop-drop, drop_all}
use Rattle.std.proofs.Math.Nat.{add-zero}
use borrow.Author.Tests.{tests}
use Rattle.code_words.specs.Keys.{hidden_digits, further}

pub further_twice : (a b : ℕ) (o : Option (ℕ × ℕ))
    → option_map (further a) (option_map (further b) o) ≡ option_map (further (a + b)) o
further_twice a b None = refl
further_twice a b (Some at) =
    let first : a + (b + at.0) ≡ (a + b) + at.0 = omega arith in
    let second : a + (b + at.1) ≡ (a + b) + at.1 = omega arith in
    cc

-- how many digits come first
abbrev pub run_of : List ℕ → ℕ
run_of bytes = prefix_len is_ascii_hexdigit bytes

-- what is found in the bytes after `count`
abbrev pub found_after : ℕ → List ℕ → Option (ℕ × ℕ)
found_after count bytes = option_map (further count) (hidden_digits (drop count bytes))

skip_by : (is : Bool) (byte : ℕ) (bytes : List ℕ)
    → (run_of bytes < 64 → hidden_digits bytes ≡ found_after (run_of bytes + 1) bytes)
    → cond is (1 + run_of bytes) 0 < 64
    → (if nat_le 64 (cond is (1 + run_of bytes) 0) then Some (0, cond is (1 + run_of bytes) 0)
    else option_map (further 1) (hidden_digits bytes))
    ≡ found_after (cond is (1 + run_of bytes) 0 + 1) (byte ∷ bytes)
skip_by true byte bytes rest few =
    let more : run_of bytes < 64 = omega arith in
    let is : nat_le 64 (1 + run_of bytes) ≡ false = search (rules, tests) in
    let next : 1 + (run_of bytes + 1) ≡ suc (run_of bytes + 1) = omega arith in
    let last : suc (run_of bytes + 1) ≡ 1 + run_of bytes + 1 = omega arith in
    rw is
    (ap (option_map (further 1)) (rest more)
    ∙ (further_twice 1 (run_of bytes + 1) (hidden_digits (drop (run_of bytes + 1) bytes))
    ∙ (ap (λ count. option_map (further count) (hidden_digits (drop (run_of bytes + 1) bytes))) next
    ∙ ap (λ count. found_after count (byte ∷ bytes)) last)))
skip_by false byte bytes rest few = refl

-- digits too few are passed over, with what stands after them
skip_run : (bytes : List ℕ) → run_of bytes < 64
    → hidden_digits bytes ≡ found_after (run_of bytes + 1) bytes
unfolding hidden_digits
skip_run [] few = refl
skip_run (byte ∷ bytes) few = skip_by (is_ascii_hexdigit byte) byte bytes (skip_run bytes) few

enough : (bytes : List ℕ) → 64 ≤ run_of bytes → hidden_digits bytes ≡ Some (0, run_of bytes)
unfolding hidden_digits
enough [] many = absurd (omega (arith, many))
enough (byte ∷ bytes) many =
    let is : nat_le 64 (run_of (byte ∷ bytes)) ≡ true = search (rules, tests) in rw is refl

-- the digits that begin here are found
pub found_here : (begin : ℕ) (bytes : List ℕ) → 64 ≤ run_of (drop begin bytes)
    → found_after begin bytes ≡ Some (begin, begin + run_of (drop begin bytes))
found_here begin bytes many =
    rw (enough (drop begin bytes) many, add-zero begin)

-- where they are too few, what stands after them is looked at
pub found_further : (begin : ℕ) (bytes : List ℕ) → run_of (drop begin bytes) < 64
    → found_after begin bytes ≡ found_after (begin + (run_of (drop begin bytes) + 1)) bytes
found_further begin bytes few =
    let run = run_of (drop begin bytes) + 1 in
    rw (skip_run (drop begin bytes) few)
    (further_twice begin run _ ∙ rw (drop-drop run begin bytes))

nothing : hidden_digits [] ≡ None
unfolding hidden_digits
nothing = refl

-- at the end nothing is found
pub found_none : (begin : ℕ) (bytes : List ℕ) → length bytes ≤ begin
    → found_after begin bytes ≡ None
found_none begin bytes end =
    rw (drop_all begin bytes end, nothing)

-- and from the first byte on it is as it stands
pub found_first : (bytes : List ℕ) → hidden_digits bytes ≡ found_after 0 bytes
found_first bytes = first (hidden_digits bytes)
  where
    first : (o : Option (ℕ × ℕ)) → o ≡ option_map (further 0) o
    first None = refl
    first (Some at) =
        let begin : at.0 ≡ 0 + at.0 = omega arith in
        let end : at.1 ≡ 0 + at.1 = omega arith in
        ap (λ place. Some (place, at.1)) begin ∙ ap (λ place. Some (0 + at.0, place)) end
