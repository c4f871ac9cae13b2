-- The words of a line `known`, and pieces of lines.
use Rattle.std.proofs.Common.{◌≡◌, ◌≢◌, ℕ, Bool, true, false, List, [], ◌∷◌, ◌++◌, cond, refl, ap}
use Rattle.std.proofs.Common.{sym, ◌∙◌, append_assoc, codes, arith}
use Rattle.std.specs.Prelude.{◌==◌}
use Rattle.std.specs.List.{All}
use Rattle.std.proofs.lemmas.Bool.{ne_eqb}
use Rattle.std.proofs.lemmas.List.Splits.{slice_split_none, slice_split_at}
use Rattle.tokens.specs.Escapes.{escaped_text}
use Rattle.tokens.proofs.EscapeLemmas.{All-escaped}
use Rattle.json_lines.specs.Json.{words_in}
use Rattle.json_lines.specs.Lines.{json_of, json_text, begun_after}

-- no byte is a space
pub unspaced : (word : List ℕ) → All (λ b. b ≢ 32) word → All (λ b. (b == 32) ≡ false) word
unspaced word h = λ k d lt. ne_eqb _ 32 (h k d lt)

pub escaped_unspaced : (name : List ℕ) → All (λ b. (b == 32) ≡ false) (escaped_text name)
escaped_unspaced name =
    λ k d lt. ne_eqb _ 32
    (λ same. let above = All-escaped name k d lt in omega (arith, same, above))

-- the words of the line
pub known_words : (name version bag : List ℕ) → All (λ b. b ≢ 32) version
    → All (λ b. b ≢ 32) bag
    → words_in (codes "known " ++ (escaped_text name ++ (32 ∷ (version ++ 32 ∷ bag))))
    ≡ codes "known" ∷ escaped_text name ∷ version ∷ bag ∷ []
known_words name version bag v b =
    let space = λ (b : ℕ). b == 32 in
    let last = slice_split_none space bag (unspaced bag b) in
    let third = slice_split_at space version 32 bag (unspaced version v) refl in
    let second =
    slice_split_at space (escaped_text name) 32 (version ++ 32 ∷ bag) (escaped_unspaced name)
    refl in
    rw (second, third, last) refl

pub text_pieces : (begun first second : List ℕ) → json_text begun (first ++ second)
    ≡ json_text begun first ++ json_text (begun_after begun first) second
text_pieces begun [] second = refl
text_pieces begun (b ∷ first) second =
    go (b == 10) (text_pieces [] first second) (text_pieces (begun ++ b ∷ []) first second)
  where
    go : (t : Bool)
        → json_text [] (first ++ second)
        ≡ json_text [] first ++ json_text (begun_after [] first) second
        → json_text (begun ++ b ∷ []) (first ++ second)
        ≡ json_text (begun ++ b ∷ []) first
        ++ json_text (begun_after (begun ++ b ∷ []) first) second
        → cond t (json_of begun ++ json_text [] (first ++ second))
        (json_text (begun ++ b ∷ []) (first ++ second))
        ≡ cond t (json_of begun ++ json_text [] first) (json_text (begun ++ b ∷ []) first)
        ++ json_text (cond t (begun_after [] first) (begun_after (begun ++ b ∷ []) first)) second
    go true ended more = ap (λ l. json_of begun ++ l) ended ∙ sym (append_assoc (json_of begun) _ _)
    go false ended more = more

pub begun_pieces : (begun first second : List ℕ) → begun_after begun (first ++ second)
    ≡ begun_after (begun_after begun first) second
begun_pieces begun [] second = refl
begun_pieces begun (b ∷ first) second =
    go (b == 10) (begun_pieces [] first second) (begun_pieces (begun ++ b ∷ []) first second)
  where
    go : (t : Bool)
        → begun_after [] (first ++ second) ≡ begun_after (begun_after [] first) second
        → begun_after (begun ++ b ∷ []) (first ++ second)
        ≡ begun_after (begun_after (begun ++ b ∷ []) first) second
        → cond t (begun_after [] (first ++ second))
        (begun_after (begun ++ b ∷ []) (first ++ second))
        ≡ begun_after (cond t (begun_after [] first) (begun_after (begun ++ b ∷ []) first)) second
    go true ended more = ended
    go false ended more = more
