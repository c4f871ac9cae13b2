-- Hex digits that are printed as a word are read as the same bytes again.
use Rattle.std.proofs.Common.{◌≡◌, ◌<◌, false, List, ℕ, [], ◌∷◌, length, Some, refl, arith}
use Rattle.std.specs.Prelude.{codes}
use Rattle.std.specs.Str.{bytes_eq}
use Rattle.std.proofs.lemmas.Bool.{and_right}
use Rattle.hex.specs.Hex.{encode_lower, encode_with, IsBytes}
use Rattle.hex.proofs.HexLemmas.{decode_of-encode_lower}
use Rattle.tokens.specs.Words.{bytes_of}
use Rattle.schedule.specs.Tokens.{hex_word}
use Rattle.schedule.proofs.WordLemmas.{hex_word-some}

-- hex digits are no `-`
not_dash : (bytes : List ℕ) → 0 < length bytes → bytes_eq (encode_lower bytes) (codes "-") ≡ false
unfolding encode_with
not_dash [] some = absurd (omega arith)
not_dash (b ∷ bs) some = and_right _ _ refl

-- bytes
pub bytes_of-hex_word : (bytes : List ℕ) → IsBytes bytes
    → bytes_of (hex_word bytes) ≡ Some bytes
unfolding bytes_of
bytes_of-hex_word [] fits = refl
bytes_of-hex_word (b ∷ bs) fits =
    let some : 0 < length (b ∷ bs) = omega arith in
    rw (hex_word-some (b ∷ bs) some, not_dash (b ∷ bs) some, decode_of-encode_lower (b ∷ bs) fits)
