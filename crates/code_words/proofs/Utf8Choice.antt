-- What is chosen by whether bytes are UTF-8.
use Rattle.std.proofs.Common.{◌≡◌, ℕ, List}
use Rattle.std.specs.Prelude.{if◌then◌else◌}
use Rattle.std.specs.Str.{IsUtf8, is_utf8}
use Rattle.std.proofs.lemmas.Bool.{false_from_ne_true}
use Rattle.std.proofs.lemmas.Str.{is_utf8-from_IsUtf8, IsUtf8-from_is_utf8}

pub text_choice : {X : Type 0} (bytes : List ℕ) (text other : X) → IsUtf8 bytes
    → (if is_utf8 bytes then text else other) ≡ text
text_choice bytes text other is =
    rw (is_utf8-from_IsUtf8 bytes is)

pub other_choice : {X : Type 0} (bytes : List ℕ) (text other : X) → ¬ IsUtf8 bytes
    → (if is_utf8 bytes then text else other) ≡ other
other_choice bytes text other isnt =
    rw (false_from_ne_true (is_utf8 bytes) (λ is. isnt (IsUtf8-from_is_utf8 bytes is)))
