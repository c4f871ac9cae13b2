-- A path as it is written, from its first byte on, and whether it is text.
use Rattle.std.proofs.Common.{◌≡◌, ℕ, Bool, true, false, cond, eqb, codes, Some, None, List, []}
use Rattle.std.proofs.Common.{◌∷◌, ◌++◌, drop, refl, ap, ◌∙◌}
use Rattle.std.proofs.lemmas.Bool.{eqb-true, false_from_ne_true}
use Rattle.std.proofs.lemmas.List.{append-nil}
use Rattle.std.proofs.lemmas.List.Concat.{flat_map-cons}
use Rattle.std.proofs.lemmas.Str.{IsUtf8-from_is_utf8, is_utf8-from_IsUtf8}
use Rattle.std.specs.Str.{IsUtf8, is_utf8}
use Rattle.bag_text.specs.Paths.{escape_of, escaped, unescaped, path_of}
use Rattle.bag_text.specs.Readers.{path_in}
use Rattle.bag_text.specs.inner.Starts.{escape_at}

-- an escape comes first
pub unescaped-escape : (text : List ℕ) (byte : ℕ) → escape_at text ≡ Some byte
    → unescaped text ≡ byte ∷ unescaped (drop 3 text)
unfolding unescaped
unescaped-escape (a ∷ b ∷ c ∷ rest) byte h = rw h refl
unescaped-escape _ byte h = absurd cc

without_escape : (first : ℕ) (rest : List ℕ) → escape_at (first ∷ rest) ≡ None
    → unescaped (first ∷ rest) ≡ first ∷ unescaped rest
unfolding unescaped
without_escape a (b ∷ c ∷ rest) n = rw n refl
without_escape a _ n = refl

-- none is
pub unescaped-other : (text : List ℕ) (first : ℕ) (rest : List ℕ) → text ≡ first ∷ rest
    → escape_at text ≡ None → unescaped text ≡ first ∷ unescaped rest
unescaped-other text first rest e h = rw e (without_escape first rest (rw e at h))

-- where nothing is left, what was made so far is all
pub unescaped-ended : (rest made all : List ℕ) → rest ≡ [] → made ++ unescaped rest ≡ all
    → made ≡ all
unfolding unescaped
unescaped-ended rest made all e h = rw (e, append-nil made) at h

-- what begins with another byte than the sign of escapes is no escape
no_sign : (byte : ℕ) (rest : List ℕ) → eqb byte 37 ≡ false → escape_at (byte ∷ rest) ≡ None
no_sign byte (x ∷ y ∷ rest) h = rw h refl
no_sign byte _ h = refl

escaped-byte : (byte : ℕ) (rest : List ℕ)
    → unescaped (escape_of byte ++ rest) ≡ byte ∷ unescaped rest
unfolding unescaped
escaped-byte byte rest = go (eqb byte 10) (eqb byte 13) (eqb byte 37) refl refl refl
  where
    go : (lf cr sign : Bool) → eqb byte 10 ≡ lf → eqb byte 13 ≡ cr → eqb byte 37 ≡ sign
        → unescaped
        (cond lf (codes "%0A")
        (cond cr (codes "%0D") (cond sign (codes "%25") (byte ∷ []))) ++ rest)
        ≡ byte ∷ unescaped rest
    go true cr sign e f g = rw (eqb-true byte 10 e) refl
    go false true sign e f g = rw (eqb-true byte 13 f) refl
    go false false true e f g = rw (eqb-true byte 37 g) refl
    go false false false e f g = unescaped-other (byte ∷ rest) byte rest refl (no_sign byte rest g)

-- what was escaped is read again
pub unescaped-escaped : (path : List ℕ) → unescaped (escaped path) ≡ path
unfolding unescaped
unescaped-escaped [] = refl
unescaped-escaped (byte ∷ path) =
    ap unescaped (flat_map-cons escape_of byte path) ∙ escaped-byte byte (escaped path)
    ∙ ap (λ (p : List ℕ). byte ∷ p) (unescaped-escaped path)

-- a path that is text
pub path_in-text : (written path : List ℕ) → path ≡ path_of written → IsUtf8 path
    → path_in written ≡ Some path
path_in-text written path e h =
    rw (← e, is_utf8-from_IsUtf8 path h) refl

-- a path that isn't
pub path_in-other : (written path : List ℕ) → path ≡ path_of written → (IsUtf8 path → ⊥)
    → path_in written ≡ None
path_in-other written path e h =
    let other = false_from_ne_true (is_utf8 path) (λ t. h (IsUtf8-from_is_utf8 path t)) in
    rw (← e, other) refl
