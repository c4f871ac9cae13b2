-- Words with their escapes undone.
use Rattle.std.proofs.Common.{◌≡◌, ℕ, ◌<◌, true, false, List, [], ◌∷◌, length}
use Rattle.std.proofs.Common.{Option, Some, None, Result, Ok, Err, Vec, String, Global, refl, sym}
use Rattle.std.proofs.Common.{ap, ◌∙◌, inl, inr, arith}
use Rattle.std.specs.Prelude.{IsSome, IfSome, IsOk, IfOk}
use Rattle.std.specs.Option.{option_map}
use Rattle.std.specs.Result.{result_ok}
use Rattle.std.specs.String.{string_bytes, string_vec}
use Rattle.std.specs.Str.{IsUtf8, is_utf8}
use Rattle.std.proofs.lemmas.Bool.{cases_Bool, cond_both}
use Rattle.std.proofs.lemmas.Option.{cond_some}
use Rattle.std.proofs.lemmas.Str.{IsUtf8-string_bytes, IsUtf8-from_is_utf8, is_utf8-from_IsUtf8}
use Rattle.percent_encoding.specs.Percent.{percent_decode, is_escape}
use Rattle.tokens.specs.Words.{text_of}

-- no word is emptied by that
pub percent_decode-some : (word : List ℕ) → 0 < length word → 0 < length (percent_decode word)
unfolding percent_decode
percent_decode-some [] h = absurd (omega arith)
percent_decode-some (b ∷ []) h = omega arith
percent_decode-some (b ∷ c ∷ []) h = omega arith
percent_decode-some (b ∷ high ∷ low ∷ rest) h =
    cond_both (is_escape b high low) _ _ (λ (bytes : List ℕ). 0 < length bytes) (λ _. omega arith)
    (λ _. omega arith)

-- what a word spells that is no UTF-8, or is
pub text_of-not_utf8 : (word : List ℕ) → is_utf8 (percent_decode word) ≡ false → text_of word ≡ None
unfolding text_of
text_of-not_utf8 word h = rw h refl

pub text_of-utf8 : (word : List ℕ) → is_utf8 (percent_decode word) ≡ true
    → text_of word ≡ Some (percent_decode word)
unfolding text_of
text_of-utf8 word h = rw h refl

-- the text of a word has a byte
pub text_of-some : (word text : List ℕ) → 0 < length word → Some text ≡ text_of word
    → 0 < length text
unfolding text_of
text_of-some word text some spelled =
    let found = cond_some _ (percent_decode word) text (sym spelled) in
    rw (← found.1) (percent_decode-some word some)

-- decoded bytes as a `String`, if they are UTF-8
pub text_of-read : {E : Type 0} (word : List ℕ) (bytes : Vec ℕ Global)
    (text : Result (String Global) E) → bytes.items ≡ percent_decode word
    → IfOk text (λ t. string_vec t ≡ bytes) → (IsUtf8 bytes.items → IsOk text)
    → option_map string_bytes (result_ok text) ≡ text_of word
text_of-read word bytes (Ok text) are is takes =
    let whole : string_bytes text ≡ percent_decode word =
    ap (λ (v : Vec ℕ Global). v.items) is ∙ are in
    let utf8 =
    is_utf8-from_IsUtf8 (percent_decode word) (rw (← whole) (IsUtf8-string_bytes text)) in
    cc (whole, text_of-utf8 word utf8)
text_of-read word bytes (Err e) are is takes =
    elim (cases_Bool (is_utf8 (percent_decode word))) [
      | inl utf8 ↦ absurd (cc (takes (rw are (IsUtf8-from_is_utf8 (percent_decode word) utf8))))
      | inr not_utf8 ↦ sym (text_of-not_utf8 word not_utf8)
    ]

-- a value that is there, and is this
pub some_from_value : {X : Type 0} (found : Option X) (x : X) → IsSome found
    → IfSome found (λ y. y ≡ x) → found ≡ Some x
some_from_value (Some y) x some is = ap (λ z. Some z) is
some_from_value None x some is = absurd (cc some)
