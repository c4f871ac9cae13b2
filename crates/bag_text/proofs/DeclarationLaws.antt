-- A text declares a version and an encoding exactly where reading it gives them, and what is read
-- otherwise is
-- the number of the first faulty line.
use Rattle.std.proofs.Common.{◌≡◌, ℕ, ◌<◌, Bool, true, false, cond, ◌&&◌, eqb, List, [], ◌∷◌}
use Rattle.std.proofs.Common.{length, Option, Some, None, Result, Ok, Err, refl, sym}
use Rattle.std.proofs.Common.{arith, inl, inr}
use Rattle.std.specs.Prelude.{IfOk, IfErr, IsOkAnd, ◌≢◌}
use Rattle.std.specs.List.{onto_first}
use Rattle.std.proofs.lemmas.Bool.{and_parts}
use Rattle.bag_text.specs.declared.fault.TextFault.{TextFault}
use Rattle.bag_text.specs.declared.fault.TextFault.TheVariants.{Malformed, Memory}
use Rattle.bag_text.specs.Lines.{is_line_end, starts_with_line_feed, lines_of}
use Rattle.bag_text.specs.Declarations.{IsVersionLine, IsEncodingLine, IsDeclaration, HasEncoding}
use Rattle.bag_text.specs.Declarations.{IsDeclarationFault}
use Rattle.bag_text.specs.Fault.{IsOrMemory}
use Rattle.bag_text.specs.Readers.{version_in, encoding_in, with_encoding, second_line}
use Rattle.bag_text.specs.Readers.{with_version, declared_by, declaration_of}
use Rattle.bag_text.proofs.Lists.{none-from_not}
use Rattle.bag_text.proofs.FieldLaws.{version-line, line-version, encoding-line, line-encoding}

-- ---- lines

-- there is a first line
abbrev pub HasLine : List (List ℕ) → Type 0
HasLine lines = (first : List ℕ) × (others : List (List ℕ)) × (lines ≡ first ∷ others)

line_put : (byte : ℕ) (both end : Bool) (next : List (List ℕ)) → (both ≡ true → HasLine next)
    → HasLine (cond both next (cond end ([] ∷ next) (onto_first byte next)))
line_put byte true end next h = h refl
line_put byte false true next h = ([], next, refl)
line_put byte false false [] h = (byte ∷ [], [], refl)
line_put byte false false (line ∷ lines) h = (byte ∷ line, lines, refl)

lines_of-some : (byte : ℕ) (rest : List ℕ) → HasLine (lines_of (byte ∷ rest))
unfolding lines_of
lines_of-some byte [] =
    line_put byte (eqb byte 13 && false) (is_line_end byte) []
    (λ e. let bad : false ≡ true = (and_parts (eqb byte 13) false e).1 in absurd cc)
lines_of-some byte (next ∷ rest) =
    line_put byte (eqb byte 13 && starts_with_line_feed (next ∷ rest)) (is_line_end byte)
    (lines_of (next ∷ rest)) (λ e. lines_of-some next rest)

-- a text that isn't empty has a line
pub lines_of-more : (text : List ℕ) → false ≡ eqb (length text) 0 → HasLine (lines_of text)
lines_of-more [] h = absurd cc
lines_of-more (byte ∷ rest) h = lines_of-some byte rest

-- ---- what the lines say

abbrev pub Texts : Type 0
Texts = List ℕ × List ℕ

-- the lines say what the text declares
abbrev pub Declares : List (List ℕ) → Texts → Type 0
Declares lines said = (first : List ℕ) × (second : List ℕ) × (lines ≡ first ∷ second ∷ [])
    × IsVersionLine first said.0 × IsEncodingLine second said.1

pub declares-read : (lines : List (List ℕ)) (said : Texts) → declared_by lines ≡ Ok said
    → Declares lines said
declares-read [] said h = absurd cc
declares-read (first ∷ lines) said h = go (version_in first) refl lines h
  where
    reads : (version second : List ℕ) → IsVersionLine first version → (found : Option (List ℕ))
        → encoding_in second ≡ found → (others : List (List ℕ))
        → with_encoding version found others ≡ Ok said → Declares (first ∷ second ∷ others) said
    reads version second v (Some encoding) e [] k =
        let same : (version, encoding) ≡ said = cc in
        rw (← same) (first, second, refl, v, line-encoding second encoding e)
    reads version second v _ e _ k = absurd cc

    go : (found : Option (List ℕ)) → version_in first ≡ found → (lines : List (List ℕ))
        → with_version found lines ≡ Ok said → Declares (first ∷ lines) said
    go (Some version) e (second ∷ others) k =
        reads version second (line-version first version e) (encoding_in second) refl others k
    go _ e _ k = absurd cc

pub read-declares : (lines : List (List ℕ)) (said : Texts) → Declares lines said
    → declared_by lines ≡ Ok said
read-declares lines said h =
    rw (h.2, version-line h.0 said.0 h.3, encoding-line h.1 said.1 h.4) refl

-- ---- the first faulty line

pub fault-read : (lines : List (List ℕ)) (number : ℕ) → declared_by lines ≡ Err number
    → IsDeclarationFault lines number
fault-read [] number h = inl (sym cc, λ said. said)
fault-read (first ∷ lines) number h = go (version_in first) refl lines h
  where
    later : (version second : List ℕ) → IsVersionLine first version → (found : Option (List ℕ))
        → encoding_in second ≡ found → (others : List (List ℕ))
        → with_encoding version found others ≡ Err number
        → IsDeclarationFault (first ∷ second ∷ others) number
    later version second v None e others k =
        inr
        (inl
        (sym cc, (version, v), λ said. absurd (cc (e, encoding-line second said.0 said.1))))
    later version second v (Some encoding) e [] k = absurd cc
    later version second v (Some encoding) e (third ∷ others) k =
        inr (inr (sym cc, (version, v), (encoding, line-encoding second encoding e), omega arith))

    go : (found : Option (List ℕ)) → version_in first ≡ found → (lines : List (List ℕ))
        → with_version found lines ≡ Err number → IsDeclarationFault (first ∷ lines) number
    go None e lines k = inl (sym cc, λ said. absurd (cc (e, version-line first said.0 said.1)))
    go (Some version) e [] k =
        inr (inl (sym cc, (version, line-version first version e), λ said. said))
    go (Some version) e (second ∷ others) k =
        later version second (line-version first version e) (encoding_in second) refl others k

second_missing : (version first : List ℕ) (others : List (List ℕ))
    → ¬ (HasEncoding (first ∷ others)) → second_line version others ≡ Err 2
second_missing version first [] h = refl
second_missing version first (second ∷ others) h =
    rw (none-from_not (encoding_in second)
    (λ encoding e. h (encoding, line-encoding second encoding e))) refl

third_there : (version first : List ℕ) (others : List (List ℕ)) → HasEncoding (first ∷ others)
    → 2 < length (first ∷ others) → second_line version others ≡ Err 3
third_there version first [] h long = absurd h
third_there version first (second ∷ []) h long = absurd (omega arith)
third_there version first (second ∷ third ∷ others) h long = rw (encoding-line second h.0 h.1) refl

pub read-fault : (lines : List (List ℕ)) (number : ℕ) → IsDeclarationFault lines number
    → declared_by lines ≡ Err number
read-fault [] number (inl one) = rw one.0 refl
read-fault [] number (inr (inl two)) = absurd two.1
read-fault [] number (inr (inr three)) = absurd three.1
read-fault (first ∷ others) number (inl one) =
    let none =
    none-from_not (version_in first)
    (λ version e. one.1 (version, line-version first version e)) in
    rw (none, one.0) refl
read-fault (first ∷ others) number (inr (inl two)) =
    rw (version-line first two.1.0 two.1.1, two.0) (second_missing two.1.0 first others two.2)
read-fault (first ∷ others) number (inr (inr three)) =
    rw (version-line first three.1.0 three.1.1, three.0)
    (third_there three.1.0 first others three.2 three.3)

-- ---- what a call that reads so promises

pub is_found : {X : Type 0} (view : X → Texts) (r : Result X TextFault) (text : List ℕ)
    → IsOrMemory view r (declaration_of text)
    → IfOk r (λ x. IsDeclaration text (view x).0 (view x).1)
is_found view (Ok x) text h = declares-read (lines_of text) (view x) h
is_found view (Err fault) text h = tt

pub is_only : {X : Type 0} (view : X → Texts) (r : Result X TextFault)
    (text version encoding : List ℕ) → IsDeclaration text version encoding
    → IsOrMemory view r (declaration_of text) → IfErr r (λ fault. fault ≢ Memory)
    → IsOkAnd r (λ x. ((view x).0 ≡ version) × ((view x).1 ≡ encoding))
is_only view (Ok x) text version encoding d h m =
    let same : (version, encoding) ≡ view x =
    cc (read-declares (lines_of text) (version, encoding) d, h) in
    rw (← same) (refl, refl)
is_only view (Err Memory) text version encoding d h m = absurd (m refl)
is_only view (Err (Malformed line)) text version encoding d h m =
    absurd (cc (read-declares (lines_of text) (version, encoding) d, h))

pub is_malformed : {X : Type 0} (view : X → Texts) (r : Result X TextFault) (text : List ℕ)
    → IsOrMemory view r (declaration_of text) → IfErr r (λ fault. fault ≢ Memory)
    → IfErr r (λ fault. (line : ℕ) × (fault ≡ Malformed line)
    × IsDeclarationFault (lines_of text) line)
is_malformed view (Ok x) text h m = tt
is_malformed view (Err Memory) text h m = absurd (m refl)
is_malformed view (Err (Malformed line)) text h m = (line, refl, fault-read (lines_of text) line h)
