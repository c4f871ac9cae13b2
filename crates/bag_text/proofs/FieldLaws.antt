-- The values of a declaration's fields: versions, names of encodings, and the lines that have them.
use Rattle.std.proofs.Common.{◌≡◌, ℕ, ◌+◌, ◌-◌, ◌<◌, Bool, true, false, not, ◌&&◌, eqb, ltb}
use Rattle.std.proofs.Common.{List, [], ◌∷◌, ◌++◌, length, get_or, take, drop, Option, Some, None}
use Rattle.std.proofs.Common.{refl, sym, arith}
use Rattle.std.specs.Prelude.{IsTrue}
use Rattle.std.specs.Option.{option_map}
use Rattle.std.specs.List.{list_all, position, prefix_len}
use Rattle.std.specs.Char.{is_ascii_digit}
use Rattle.std.specs.Str.{bytes_eq}
use Rattle.std.proofs.lemmas.Bool.{and_parts, eqb-true, eqb-false, not-true, ne_eqb, lt-ltb}
use Rattle.std.proofs.lemmas.Option.{cond_some}
use Rattle.std.proofs.lemmas.List.{take_at, drop_at, take-append-drop, length-drop, drop_more}
use Rattle.std.proofs.lemmas.List.Folds.{list_all-append}
use Rattle.std.proofs.lemmas.List.Quantifiers.{position-Some}
use Rattle.std.proofs.lemmas.Slice.Eq.{bytes_eq-Decides}
use Rattle.bag_text.specs.Blanks.{starts_nonblank}
use Rattle.bag_text.specs.Declarations.{version_label, encoding_label, full_stop, is_visible}
use Rattle.bag_text.specs.Declarations.{IsField, IsVersion, IsVersionLine}
use Rattle.bag_text.specs.Declarations.{IsEncodingLine}
use Rattle.bag_text.specs.Readers.{trim_blanks, after_gap, is_number, is_version, is_encoding_name}
use Rattle.bag_text.specs.Readers.{field_value, checked, version_in, encoding_in}
use Rattle.std.proofs.lemmas.List.{take_rest, drop-drop, length-append}
use Rattle.bag_text.proofs.Lists.{cond_found}
use Rattle.bag_text.proofs.GapLaws.{nonblank_by, is_nonblank, after_gap-gap, after_gap-some}
use Rattle.bag_text.proofs.GapLaws.{trim_blanks-parts, trim_blanks-value}

-- ---- versions

-- two numbers at a full stop
pub is_version-at : (value major rest : List ℕ) (place : ℕ)
    → position (λ byte. eqb byte full_stop) value ≡ Some place → major ≡ take place value
    → rest ≡ drop place value
    → true ≡ is_number major → is_number (take (length rest - 1) (drop 1 rest)) ≡ is_version value
is_version-at value major rest place at front back number =
    let n : ℕ = prefix_len (λ byte. not (eqb byte full_stop)) value in
    let found = cond_some (ltb n (length value)) n place at in
    rw (take_rest rest 1, back, drop-drop 1 place value, found.1, ← front, ← number) refl

-- one or more bytes that pass, as a test and as a fact
module _ (p : ℕ → Bool) (xs : List ℕ) where
  pass_from_test : (not (eqb (length xs) 0) && list_all p xs) ≡ true
      → (0 < length xs) × IsTrue (list_all p xs)
  pass_from_test h =
      let q = and_parts (not (eqb (length xs) 0)) (list_all p xs) h in
      (omega (arith, eqb-false (length xs) 0 (not-true (eqb (length xs) 0) q.0)), q.1)

  test_from_pass : (0 < length xs) × IsTrue (list_all p xs)
      → (not (eqb (length xs) 0) && list_all p xs) ≡ true
  test_from_pass h = rw (ne_eqb (length xs) 0 (λ e. omega (arith, h.0)), h.1) refl

-- a digit is no full stop
digit-no_stop : (d : ℕ) → is_ascii_digit d ≡ true → eqb d full_stop ≡ false
digit-no_stop d h = ne_eqb d full_stop (λ e. absurd (cc (h, e)))

-- the first full stop after digits
stop_behind : (major minor : List ℕ) → list_all is_ascii_digit major ≡ true
    → prefix_len (λ byte. not (eqb byte full_stop)) (major ++ (full_stop ∷ minor)) ≡ length major
stop_behind [] minor h = refl
stop_behind (d ∷ major) minor h =
    let p = and_parts (is_ascii_digit d) (list_all is_ascii_digit major) h in
    rw (digit-no_stop d p.0, stop_behind major minor p.1) (omega arith)

test-from_version : (value : List ℕ) → IsVersion value → is_version value ≡ true
test-from_version value h =
    rw (
      h.2,
      stop_behind h.0 h.1 h.3.1,
      take_at h.0 (full_stop ∷ h.1) (length h.0) refl,
      ← drop-drop 1 (length h.0) (h.0 ++ (full_stop ∷ h.1)),
      drop_at h.0 (full_stop ∷ h.1) (length h.0) refl,
      test_from_pass is_ascii_digit h.0 h.3,
      test_from_pass is_ascii_digit h.1 h.4,
    ) refl

version-from_test : (value : List ℕ) → is_version value ≡ true → IsVersion value
version-from_test value h =
    let n : ℕ = prefix_len (λ byte. not (eqb byte full_stop)) value in
    let p = and_parts (is_number (take n value)) (is_number (drop (n + 1) value)) h in
    let major = pass_from_test is_ascii_digit (take n value) p.0 in
    let minor = pass_from_test is_ascii_digit (drop (n + 1) value) p.1 in
    let inside : n < length value = omega (arith, minor.0, length-drop (n + 1) value) in
    let found =
    position-Some (λ byte. eqb byte full_stop) value n 0
    (rw (lt-ltb n (length value) inside) refl) in
    let stop : get_or value n 0 ≡ full_stop = eqb-true (get_or value n 0) 46 found.1 in
    let following : drop n value ≡ full_stop ∷ drop (n + 1) value =
    rw (drop_more value n 0 inside, stop) refl in
    let whole : value ≡ take n value ++ (full_stop ∷ drop (n + 1) value) =
    rw (← following) (sym (take-append-drop n value)) in
    (take n value, drop (n + 1) value, whole, major, minor)

-- ---- neither has a space or a tab

all_nonblank : (p : ℕ → Bool) → p 32 ≡ false → p 9 ≡ false → (xs : List ℕ) → list_all p xs ≡ true
    → list_all is_nonblank xs ≡ true
all_nonblank p space tab [] h = refl
all_nonblank p space tab (x ∷ xs) h =
    let q = and_parts (p x) (list_all p xs) h in
    rw (nonblank_by p space tab x q.0, all_nonblank p space tab xs q.1) refl

version-nonblank : (value : List ℕ) → IsVersion value → list_all is_nonblank value ≡ true
version-nonblank value h =
    rw (
      h.2,
      list_all-append is_nonblank h.0 (full_stop ∷ h.1),
      all_nonblank is_ascii_digit refl refl h.0 h.3.1,
      all_nonblank is_ascii_digit refl refl h.1 h.4.1,
    ) refl

version-some : (value : List ℕ) → IsVersion value → 0 < length value
version-some value h = rw h.2 (omega (arith, length-append h.0 (full_stop ∷ h.1)))

-- ---- fields

nonblank-starts : (value ending : List ℕ) → 0 < length value → list_all is_nonblank value ≡ true
    → IsTrue (starts_nonblank (value ++ ending))
nonblank-starts [] ending some h = absurd (omega arith)
nonblank-starts (x ∷ value) ending some h =
    (and_parts (is_nonblank x) (list_all is_nonblank value) h).0

value-field : (label line value : List ℕ) → IsField label line value → 0 < length value
    → list_all is_nonblank value ≡ true → field_value label line ≡ Some value
unfolding field_value
value-field label line value h some nonblank =
    let rest : List ℕ = h.0 ++ (value ++ h.1) in
    rw (
      h.2,
      take_at label rest (length label) refl,
      (bytes_eq-Decides label label).1 refl,
      drop_at label rest (length label) refl,
      after_gap-gap h.0 (value ++ h.1) h.3 (nonblank-starts value h.1 some nonblank),
      trim_blanks-value value h.1 nonblank h.4,
    ) refl

trimmed : (following : Option (List ℕ)) (value : List ℕ)
    → option_map trim_blanks following ≡ Some value → (text : List ℕ) × (following ≡ Some text)
    × (trim_blanks text ≡ value)
trimmed (Some text) value h = (text, refl, cc)
trimmed None value h = absurd cc

field-value : (label line value : List ℕ) → field_value label line ≡ Some value
    → IsField label line value
unfolding field_value
field-value label line value h =
    let found =
    cond_found (bytes_eq (take (length label) line) label)
    (option_map trim_blanks (after_gap (drop (length label) line))) value h in
    let front = (bytes_eq-Decides (take (length label) line) label).0 found.0 in
    let text = trimmed (after_gap (drop (length label) line)) value found.1 in
    let gap = after_gap-some (drop (length label) line) text.0 text.1 in
    let ending = trim_blanks-parts text.0 in
    let rest : drop (length label) line ≡ gap.0 ++ (value ++ ending.0) =
    cc (gap.1, ending.1, text.2) in
    let whole : line ≡ label ++ (gap.0 ++ (value ++ ending.0)) =
    cc (take-append-drop (length label) line, front, rest) in
    (gap.0, ending.0, whole, gap.2, ending.2)

checked-some : (test : List ℕ → Bool) (found : Option (List ℕ)) (value : List ℕ)
    → checked test found ≡ Some value → (found ≡ Some value) × (test value ≡ true)
checked-some test None value h = absurd cc
checked-some test (Some x) value h =
    let p = cond_some (test x) x value h in
    (rw p.1 refl, rw (← p.1) p.0)

pub version-line : (line version : List ℕ) → IsVersionLine line version
    → version_in line ≡ Some version
unfolding version_in
version-line line version h =
    rw (
      value-field version_label line version h.0 (version-some version h.1)
          (version-nonblank version h.1),
      test-from_version version h.1,
    ) refl

pub line-version : (line version : List ℕ) → version_in line ≡ Some version
    → IsVersionLine line version
unfolding version_in
line-version line version h =
    let p = checked-some is_version (field_value version_label line) version h in
    (field-value version_label line version p.0, version-from_test version p.1)

pub encoding-line : (line encoding : List ℕ) → IsEncodingLine line encoding
    → encoding_in line ≡ Some encoding
unfolding encoding_in
encoding-line line encoding h =
    rw (
      value-field encoding_label line encoding h.0 h.1.0
          (all_nonblank is_visible refl refl encoding h.1.1),
      test_from_pass is_visible encoding h.1,
    ) refl

pub line-encoding : (line encoding : List ℕ) → encoding_in line ≡ Some encoding
    → IsEncodingLine line encoding
unfolding encoding_in
line-encoding line encoding h =
    let p = checked-some is_encoding_name (field_value encoding_label line) encoding h in
    (field-value encoding_label line encoding p.0, pass_from_test is_visible encoding p.1)
