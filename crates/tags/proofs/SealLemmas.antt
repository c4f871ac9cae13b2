-- What a right tag says.
use Rattle.std.proofs.Common.{◌≡◌, ℕ, ◌-◌, Bool, true, false, ◌&&◌, nat_le}
use Rattle.std.proofs.Common.{List, [], ◌∷◌, ◌++◌, length, Some, None, bytes_eq}
use Rattle.std.proofs.Common.{refl, sym, ap, ◌∙◌, arith, subst, if◌then◌else◌, length-append}
use Rattle.std.specs.List.{list_any, Any}
use Rattle.std.proofs.Math.Seq.{take-append_seam, drop-append_seam}
use Rattle.std.proofs.lemmas.List.{take-append-drop}
use Rattle.std.proofs.lemmas.List.Folds.{Any-from_list_any}
use Rattle.std.proofs.lemmas.Bool.Decides.{nat_tests}
use Rattle.std.proofs.lemmas.Slice.Eq.{bytes_eq-Decides}
use Rattle.sha2.proofs.Facts256.{length-sha256}
use Rattle.tags.specs.Hmac.{tag_len, tag_by}
use Rattle.tags.specs.Tags.{sealed, text_in, tag_in, is_sealed}
use Rattle.tags.specs.Rings.{Ring, keys_for, sealed_first, sealed_by, is_sealed_by, opened_by}

pub tag_length : (key text : List ℕ) → length (tag_by key text) ≡ 32
unfolding tag_by
tag_length key text = length-sha256 _

text_length : (key text : List ℕ) → length (sealed key text) - tag_len ≡ length text
text_length key text = omega (arith, length-append text (tag_by key text), tag_length key text)

pub text_in-sealed : (key text : List ℕ) → text_in (sealed key text) ≡ text
text_in-sealed key text = rw (text_length key text) (take-append_seam text (tag_by key text))

tag_in-sealed : (key text : List ℕ) → tag_in (sealed key text) ≡ tag_by key text
tag_in-sealed key text = rw (text_length key text) (drop-append_seam text (tag_by key text))

long_enough : (key text : List ℕ) → nat_le tag_len (length (sealed key text)) ≡ true
long_enough key text =
    grind (arith, nat_tests, length-append text (tag_by key text), tag_length key text)

-- a text with its tag is one
pub is_sealed-sealed : (key text : List ℕ) → is_sealed key (sealed key text) ≡ true
unfolding is_sealed
is_sealed-sealed key text =
    rw (long_enough key text, text_in-sealed key text, tag_in-sealed key text)
    ((bytes_eq-Decides (tag_by key text) (tag_by key text)).1 refl)

both : (a b : Bool) → (a && b) ≡ true → b ≡ true
both true b h = h
both false b h = absurd (cc h)

same_tag : (bytes tag : List ℕ) → bytes_eq (tag_in bytes) tag ≡ true
    → bytes ≡ text_in bytes ++ tag
same_tag bytes tag h =
    sym (take-append-drop (length bytes - tag_len) bytes)
    ∙ ap (λ found. text_in bytes ++ found) ((bytes_eq-Decides (tag_in bytes) tag).0 h)

-- and nothing else is
pub sealed_from : (key bytes : List ℕ) → is_sealed key bytes ≡ true
    → bytes ≡ sealed key (text_in bytes)
unfolding is_sealed
sealed_from key bytes h =
    same_tag bytes (tag_by key (text_in bytes))
    (both (nat_le tag_len (length bytes))
    (bytes_eq (tag_in bytes) (tag_by key (text_in bytes))) h)

-- what the first of the keys has sealed is opened
first_opened : (ring : Ring) (text bytes : List ℕ) (keys : List (List ℕ))
    → keys_for ring text ≡ keys → sealed_first keys text ≡ Some bytes
    → opened_by ring bytes ≡ Some text
unfolding opened_by is_sealed_by
first_opened ring text bytes [] is h = absurd (cc h)
first_opened ring text bytes (key ∷ keys) is h =
    rw (sym (some h), text_in-sealed key text, is, is_sealed-sealed key text) refl
  where
    some : Some (sealed key text) ≡ Some bytes → sealed key text ≡ bytes
    some h = cc h

pub opened_from_sealed : (ring : Ring) (text bytes : List ℕ) → sealed_by ring text ≡ Some bytes
    → opened_by ring bytes ≡ Some text
unfolding sealed_by
opened_from_sealed ring text bytes h = first_opened ring text bytes (keys_for ring text) refl h

-- one of the keys made the tag
by_one : (keys : List (List ℕ)) (bytes text : List ℕ) → text_in bytes ≡ text
    → list_any (λ key. is_sealed key bytes) keys ≡ true → Any (λ key. bytes ≡ sealed key text) keys
by_one keys bytes text is h =
    let (at, key, below, is_at, by) = Any-from_list_any (λ key. is_sealed key bytes) keys h in
    (at, key, below, is_at, rw (← is) (sealed_from key bytes by))

pub sealed_from_opened : (ring : Ring) (text bytes : List ℕ) → opened_by ring bytes ≡ Some text
    → Any (λ key. bytes ≡ sealed key text) (keys_for ring text)
unfolding opened_by is_sealed_by
sealed_from_opened ring text bytes h = go (is_sealed_by ring bytes) refl h
  where
    text_is : Some (text_in bytes) ≡ Some text → text_in bytes ≡ text
    text_is h = cc h

    go : (t : Bool) → is_sealed_by ring bytes ≡ t
        → (if t then Some (text_in bytes) else None) ≡ Some text
        → Any (λ key. bytes ≡ sealed key text) (keys_for ring text)
    go false is h = absurd (cc h)
    go true is h =
        by_one (keys_for ring text) bytes text (text_is h)
        (subst (λ t. list_any (λ key. is_sealed key bytes) (keys_for ring t) ≡ true) (text_is h) is)
