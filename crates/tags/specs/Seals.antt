-- What a right tag says.
use Rattle.std.specs.Prelude.{◌≡◌, ℕ, List, Any, Some}
use Rattle.tags.specs.Tags.{sealed}
use Rattle.tags.specs.Rings.{Ring, keys_for, sealed_by, opened_by}

-- what was sealed is opened
abbrev pub SealedAreOpened : Type 0
SealedAreOpened = (ring : Ring) (text bytes : List ℕ) → sealed_by ring text ≡ Some bytes
    → opened_by ring bytes ≡ Some text

-- what is opened is a datagram with its tag behind it, by one of the keys for the datagram
abbrev pub OpenedAreSealed : Type 0
OpenedAreSealed = (ring : Ring) (text bytes : List ℕ) → opened_by ring bytes ≡ Some text
    → Any (λ key. bytes ≡ sealed key text) (keys_for ring text)
