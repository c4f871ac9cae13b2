-- A version's Recover is handed on once in a pause, whoever sends it, and at whatever moments.
use Rattle.std.proofs.Common.{◌≡◌, ℕ, ◌-◌, ◌<◌, ◌≤◌, true, false, List, length, refl, arith, []}
use Rattle.std.proofs.Common.{◌∷◌}
use Rattle.std.proofs.lemmas.Bool.Decides.{nat_tests}
use Rattle.std.proofs.lemmas.List.{get_or-set_same}
use Rattle.udp_site.specs.declared.recoveries.Recoveries.{Recoveries}
use Rattle.udp_site.specs.Recoveries.{class_of, is_early, hands_on, none_handed_on}
use Rattle.udp_site.specs.Signs.{is_recover}

module _ (recoveries : Recoveries) (bytes : List ℕ) (now later pause : ℕ)
    (recovers : is_recover bytes ≡ true)
    (has_class : class_of bytes < length recoveries.handed_on) where
  -- one that was handed on is early until the pause is over
  pub handed_on_once : later - now < pause
      → is_early (hands_on recoveries now bytes) pause later bytes ≡ true
  handed_on_once soon =
      rw (recovers, get_or-set_same recoveries.handed_on (class_of bytes) now 0 has_class)
      (grind (arith, nat_tests))

  -- and not any more from then on
  pub handed_on_again : pause ≤ later - now
      → is_early (hands_on recoveries now bytes) pause later bytes ≡ false
  handed_on_again over =
      rw (recovers, get_or-set_same recoveries.handed_on (class_of bytes) now 0 has_class)
      (grind (arith, nat_tests))

-- what is of another kind is never early, and changes nothing
module _ (recoveries : Recoveries) (bytes : List ℕ) (now pause : ℕ)
    (other : is_recover bytes ≡ false) where
  pub others_pass : is_early recoveries pause now bytes ≡ false
  others_pass = rw other refl

  pub others_change_nothing : hands_on recoveries now bytes ≡ recoveries
  others_change_nothing = rw other refl

-- a port begins as if one had been handed on at the moment 0: the first waits for a pause
abbrev recover : List ℕ
recover = 0x42 ∷ 0x50 ∷ 2 ∷ 18 ∷ 7 ∷ []

pub first_is_early : is_early none_handed_on 1000000 999999 recover ≡ true
first_is_early = refl

pub first_after_a_pause : is_early none_handed_on 1000000 1000000 recover ≡ false
first_after_a_pause = refl

-- it has the class of its last byte, whatever its others are
pub class_is_the_last_byte : class_of recover ≡ 7
class_is_the_last_byte = refl
