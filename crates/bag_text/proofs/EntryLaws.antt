-- A line lists a file exactly where reading it gives that file.
use Rattle.std.proofs.Common.{◌≡◌, ℕ, ◌<◌, true, false, List, [], ◌∷◌}
use Rattle.std.proofs.Common.{◌++◌, length, take, drop, Option, Some, None, Result, Ok, Err, refl}
use Rattle.std.proofs.Common.{sym, ap, arith, inl, inr}
use Rattle.std.specs.Prelude.{IsTrue, option_and_then}
use Rattle.std.specs.Option.{option_map}
use Rattle.std.specs.Result.{result_ok}
use Rattle.std.specs.List.{list_all, AllPass}
use Rattle.std.specs.Str.{is_utf8, IsUtf8}
use Rattle.std.proofs.lemmas.Bool.{cases_lt, lt-ltb, le-ltb}
use Rattle.std.proofs.lemmas.Option.{cond_some}
use Rattle.std.proofs.lemmas.List.{take_at, drop_at, take-append-drop, length-append, length-take}
use Rattle.std.proofs.lemmas.List.Elements.{All-head}
use Rattle.std.proofs.lemmas.Str.{IsUtf8-from_is_utf8}
use Rattle.hex.specs.Hex.{decode_of, is_hex_digit}
use Rattle.hex.proofs.HexLemmas.{decode_of-ok}
use Rattle.bag_text.specs.declared.algorithm.Algorithm.{Algorithm}
use Rattle.bag_text.specs.declared.algorithm.Algorithm.TheVariants.{Md5}
use Rattle.bag_text.specs.Algorithms.{hex_len}
use Rattle.bag_text.specs.Blanks.{is_blank, IsGap, starts_nonblank}
use Rattle.bag_text.specs.Paths.{path_of}
use Rattle.bag_text.specs.ListedFile.{ListedFile}
use Rattle.bag_text.specs.Manifests.{IsEntryLine}
use Rattle.bag_text.specs.Readers.{after_gap, unless_empty, written_path, path_in, file_in}
use Rattle.bag_text.proofs.PathLaws.{path_in-text}
use Rattle.bag_text.proofs.GapLaws.{nonblank_by, after_gap-gap, after_gap-some}

-- ---- the path as it is written, after a gap

unless_empty-start : (written : List ℕ) → IsTrue (starts_nonblank written)
    → unless_empty written ≡ Some written
unless_empty-start [] s = absurd cc
unless_empty-start (first ∷ rest) s = refl

written_path-gap : (gap written : List ℕ) → IsGap gap → IsTrue (starts_nonblank written)
    → written_path (gap ++ written) ≡ Some written
written_path-gap gap written g s =
    rw (after_gap-gap gap written g s) (unless_empty-start written s)

unless_empty-some : (following : Option (List ℕ)) (written : List ℕ)
    → option_and_then unless_empty following ≡ Some written → (following ≡ Some written)
    × (written ≡ [] → ⊥)
unless_empty-some (Some (byte ∷ rest)) written h = (h, λ e. cc (h, e))
unless_empty-some _ written h = absurd cc

written_path-some : (rest written : List ℕ) → written_path rest ≡ Some written → (gap : List ℕ)
    × (rest ≡ gap ++ written) × IsGap gap × IsTrue (starts_nonblank written)
written_path-some rest written h =
    let following = unless_empty-some (after_gap rest) written h in
    let gap = after_gap-some rest written following.0 in
    let starts : IsTrue (starts_nonblank written) =
    elim gap.3 [ inl empty ↦ absurd (following.1 empty) | inr start ↦ start ] in
    (gap.0, gap.1, gap.2, starts)

-- ---- a line

pub file_in-entry : (algorithm : Algorithm) (line : List ℕ) (file : ListedFile)
    → IsEntryLine algorithm line file → file_in algorithm line ≡ Some file
unfolding file_in
file_in-entry algorithm line file h =
    let rest : List ℕ = h.1 ++ h.2 in
    let lists = h.4 in
    rw (
      h.3,
      le-ltb (length (h.0 ++ rest)) (hex_len algorithm)
          (omega (arith, length-append h.0 rest, lists.whole)),
      take_at h.0 rest (hex_len algorithm) lists.whole,
      lists.digest,
      drop_at h.0 rest (hex_len algorithm) lists.whole,
      written_path-gap h.1 h.2 lists.between lists.begins,
      path_in-text h.2 file.path lists.path lists.text,
    ) refl

path_in-some : (written path : List ℕ) → path_in written ≡ Some path → (path ≡ path_of written)
    × IsUtf8 path
path_in-some written path h =
    let found = cond_some (is_utf8 (path_of written)) (path_of written) path h in
    (sym found.1, rw (← found.1) (IsUtf8-from_is_utf8 (path_of written) found.0))

-- the parts of what was read
file_made : (digest : List ℕ) (path : Option (List ℕ)) (file : ListedFile)
    → option_map (λ p. record { digest = digest; path = p }) path ≡ Some file
    → (digest ≡ file.digest) × (path ≡ Some file.path)
file_made digest (Some p) file h =
    let same : record { digest = digest; path = p } ≡ file =
    cc in (ap (λ f. f.digest) same, ap (λ f. Some f.path) same)
file_made digest None file h = absurd cc

file_parts : (d w : Option (List ℕ)) (file : ListedFile)
    → option_and_then
    (λ digest. option_and_then (λ written. option_map (λ p. record { digest = digest; path = p })
    (path_in written)) w) d ≡ Some file
    → (d ≡ Some file.digest) × ((written : List ℕ) × (w ≡ Some written)
    × (path_in written ≡ Some file.path))
file_parts (Some digest) (Some written) file h =
    let m = file_made digest (path_in written) file h in (rw m.0 refl, (written, refl, m.1))
file_parts _ _ file h = absurd cc

result_ok-some : {E : Type 0} (r : Result (List ℕ) E) (x : List ℕ) → result_ok r ≡ Some x → r ≡ Ok x
result_ok-some (Ok y) x h = cc
result_ok-some (Err e) x h = absurd cc

pub entry-file_in : (algorithm : Algorithm) (line : List ℕ) (file : ListedFile)
    → file_in algorithm line ≡ Some file → IsEntryLine algorithm line file
unfolding file_in
entry-file_in algorithm line file h = elim (cases_lt (length line) (hex_len algorithm)) [
  | inl short ↦ absurd (cc (rw (lt-ltb (length line) (hex_len algorithm) short) at h))
  | inr long ↦
      let n : ℕ = hex_len algorithm in
      let m =
      file_parts (result_ok (decode_of (take n line))) (written_path (drop n line)) file
      (rw (le-ltb (length line) (hex_len algorithm) long) at h) in
      let gap = written_path-some (drop n line) m.1.0 m.1.1 in
      let path = path_in-some m.1.0 file.path m.1.2 in (
        take n line,
        gap.0,
        m.1.0,
        rw (← gap.1) (sym (take-append-drop n line)),
        record {
          whole = omega (arith, length-take n line);
          digest = result_ok-some (decode_of (take n line)) file.digest m.0;
          between = gap.2;
          begins = gap.3;
          path = path.0;
          text = path.1;
        },
      )
]

some_digits : (algorithm : Algorithm) → 0 < hex_len algorithm
some_digits Md5 = omega arith
some_digits _ = omega arith

first-not_blank : (digits rest : List ℕ) → 0 < length digits → AllPass is_hex_digit digits
    → list_all is_blank (digits ++ rest) ≡ false
first-not_blank [] rest some h = absurd (omega arith)
first-not_blank (d ∷ digits) rest some h =
    rw (nonblank_by is_hex_digit refl refl d (All-head (λ c. is_hex_digit c ≡ true) d digits h))
    refl

-- a line that lists a file isn't blank
pub entry-not_blank : (algorithm : Algorithm) (line : List ℕ) (file : ListedFile)
    → IsEntryLine algorithm line file → list_all is_blank line ≡ false
entry-not_blank algorithm line file h =
    let lists = h.4 in
    let digits = decode_of-ok h.0 file.digest lists.digest in
    let some : 0 < length h.0 = omega (arith, lists.whole, some_digits algorithm) in
    rw h.3 (first-not_blank h.0 (h.1 ++ h.2) some digits.1)
