-- A path that is listed twice, one entry on.
use Rattle.std.proofs.Common.{◌≡◌, ℕ, ◌+◌, ◌<◌, Bool, true, false, ◌||◌, List, [], ◌∷◌, ◌++◌}
use Rattle.std.proofs.Common.{length, take, drop, get_or, refl, sym, ap, ◌∙◌}
use Rattle.std.specs.List.{list_any}
use Rattle.std.specs.Str.{bytes_eq}
use Rattle.std.proofs.lemmas.List.{take_more, take-append-drop}
use Rattle.std.proofs.lemmas.List.Folds.{list_any-append}
use Rattle.std.proofs.lemmas.Slice.Eq.{bytes_eq-Decides}
use Rattle.std.proofs.lemmas.Bool.Decides.{same_from_decides, Decides-like}
use Rattle.std.proofs.Math.Bool.{or-false, or-true, or_comm}
use Rattle.bag_text.specs.ListedFile.{ListedFile}
use Rattle.bag_check.specs.Manifests.{is_listed}
use Rattle.bag_check.specs.Check.{repeats}

pub bytes_eq-sym : (p q : List ℕ) → bytes_eq p q ≡ bytes_eq q p
bytes_eq-sym p q =
    same_from_decides (bytes_eq p q) (bytes_eq q p) (bytes_eq-Decides p q)
    (Decides-like (bytes_eq q p) sym sym (bytes_eq-Decides q p))

-- a path among these files and one more
pub listed-more : (q : List ℕ) (files : List ListedFile) (file : ListedFile)
    → is_listed q (files ++ file ∷ []) ≡ (bytes_eq file.path q || is_listed q files)
listed-more q files file =
    rw (
      list_any-append (λ (f : ListedFile). bytes_eq f.path q) files (file ∷ []),
      or-false (bytes_eq file.path q),
    ) (or_comm (is_listed q files) (bytes_eq file.path q))

mixed : (a s c d : Bool) → ((s || a) || (c || d)) ≡ ((a || c) || (s || d))
mixed true true c d = refl
mixed true false c d = refl
mixed false true true d = refl
mixed false true false d = refl
mixed false false c d = refl

-- one entry more
pub repeats-snoc : (entries : List ListedFile) (entry : ListedFile)
    → repeats (entries ++ entry ∷ []) ≡ (repeats entries || is_listed entry.path entries)
unfolding repeats
repeats-snoc [] entry = refl
repeats-snoc (first ∷ entries) entry =
    rw (
      listed-more first.path entries entry,
      repeats-snoc entries entry,
      bytes_eq-sym first.path entry.path,
    )
    (mixed (is_listed first.path entries) (bytes_eq entry.path first.path) (repeats entries)
    (is_listed entry.path entries))

kept : (a b c d : Bool) → (c ≡ true → d ≡ true) → (a || c) ≡ true → ((a || b) || d) ≡ true
kept true b c d goes h = refl
kept false b c d goes h = rw (goes h) (or-true b)

-- what repeats goes on to
repeats-more : (entries more : List ListedFile) → repeats entries ≡ true
    → repeats (entries ++ more) ≡ true
unfolding repeats
repeats-more [] more h = cc
repeats-more (first ∷ entries) more h =
    rw (list_any-append (λ (e : ListedFile). bytes_eq e.path first.path) entries more)
    (kept (is_listed first.path entries) (is_listed first.path more) (repeats entries)
    (repeats (entries ++ more)) (repeats-more entries more) h)

module _ (entries : List ListedFile) (place : ℕ) (entry : ListedFile)
    (within : place < length entries) (is : entry ≡ get_or entries place entry) where
  next : take (place + 1) entries ≡ take place entries ++ entry ∷ []
  next = take_more entries place entry within ∙ ap (λ e. take place entries ++ e ∷ []) (sym is)

  pub repeat_found : is_listed entry.path (take place entries) ≡ true → true ≡ repeats entries
  repeat_found twice =
      let here : repeats (take (place + 1) entries) ≡ true =
      rw (next, repeats-snoc (take place entries) entry, twice)
      (or-true (repeats (take place entries))) in
      sym (ap repeats (sym (take-append-drop (place + 1) entries))
      ∙ repeats-more (take (place + 1) entries) (drop (place + 1) entries) here)

  pub repeat_passed : repeats (take place entries) ≡ false
      → is_listed entry.path (take place entries) ≡ false
      → repeats (take (place + 1) entries) ≡ false
  repeat_passed so_far once = rw (next, repeats-snoc (take place entries) entry, so_far) once

  pub listed_next : (q : List ℕ)
      → is_listed q (take (place + 1) entries)
      ≡ (bytes_eq entry.path q || is_listed q (take place entries))
  listed_next q = ap (is_listed q) next ∙ listed-more q (take place entries) entry

-- a test that each element passes alike
pub same_any : {X : Type 0} (p q : X → Bool) → ((x : X) → p x ≡ q x) → (xs : List X)
    → list_any p xs ≡ list_any q xs
same_any p q same [] = refl
same_any p q same (x ∷ xs) = rw (same x, same_any p q same xs) refl
