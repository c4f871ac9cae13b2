-- The halves of a new federation's number.
use Rattle.std.proofs.Common.{◌≡◌, ℕ, zero, suc, ◌<◌, true, List, ◌++◌, take, drop, length, refl}
use Rattle.std.proofs.Common.{ap, ◌∙◌, arith, get_or, ◌/◌, inl, inr}
use Rattle.std.specs.Prelude.{All, ◌^◌}
use Rattle.std.specs.Int.{w32, w64, byte_at, bytes_high_first, to_be_bytes, from_be_bytes}
use Rattle.std.proofs.lemmas.Bool.{cases_lt, eq-eqb}
use Rattle.std.proofs.lemmas.List.{take_at, drop_at, length-append, length-take-le, get_or_past}
use Rattle.std.proofs.lemmas.List.Elements.{All-nil, All-cons, All-append, All-take, All-get_or}
use Rattle.std.proofs.lemmas.Nat.{mod_below, be_bytes_8}
use Rattle.sha2.specs.Sha256.{digest_bytes, final_hash, initial_hash_256, sha256}
use Rattle.sha2.proofs.Facts256.{length-sha256}
use Rattle.members_file.specs.Files.{MembersFile, weights_of}
use Rattle.members_file.specs.Numbers.{AreFourBytes, new_number, upper_half, lower_half, weighed}
use Rattle.members_file.specs.Numbers.{is_listed}

abbrev IsByte : ℕ → Type 0
IsByte b = b < 256

byte_at_is_byte : (i n : ℕ) → byte_at i n < 256
byte_at_is_byte zero n = mod_below n 256 (omega arith)
byte_at_is_byte (suc i) n = mod_below (n / 256 ^ suc i) 256 (omega arith)

high_are_bytes : (k n : ℕ) → All IsByte (bytes_high_first k n)
high_are_bytes zero n = All-nil IsByte
high_are_bytes (suc k) n =
    All-cons IsByte (byte_at k n) (bytes_high_first k n) (byte_at_is_byte k n) (high_are_bytes k n)

digest_are_bytes : (h : List ℕ) (n : ℕ) → All IsByte (digest_bytes h n)
unfolding digest_bytes
digest_are_bytes h zero = All-nil IsByte
digest_are_bytes h (suc n) =
    All-append IsByte (digest_bytes h n) (to_be_bytes w32 (get_or h n 0)) (digest_are_bytes h n)
    (high_are_bytes 4 (get_or h n 0))

sha256_are_bytes : (m : List ℕ) → All IsByte (sha256 m)
unfolding sha256
sha256_are_bytes m = digest_are_bytes (final_hash initial_hash_256 m) 8

lower_are_four : (random weights : List ℕ) → AreFourBytes (lower_half random weights)
unfolding lower_half
lower_are_four random weights = (
  length-take-le 4 (sha256 (weighed random weights))
      (omega (arith, length-sha256 (weighed random weights))),
  All-take IsByte 4 (sha256 (weighed random weights)) (sha256_are_bytes (weighed random weights)),
)

-- a byte, whether it is there or not
byte_or_zero : (bytes : List ℕ) → All IsByte bytes → (i : ℕ) → get_or bytes i 0 < 256
byte_or_zero bytes all i =
    elim (cases_lt i (length bytes)) [
      | inl lt ↦ All-get_or IsByte bytes i 0 lt all
      | inr le ↦ rw (get_or_past bytes i 0 le) (omega arith)
    ]

-- the bytes of a new number are its two halves
halves : (random weights : List ℕ) → AreFourBytes random
    → to_be_bytes w64 (new_number random weights) ≡ random ++ lower_half random weights
unfolding new_number
halves random weights (count, bytes) =
    let lower = lower_half random weights in
    let of_lower = lower_are_four random weights in
    be_bytes_8 (random ++ lower) (from_be_bytes w64 (random ++ lower))
    (omega (arith, length-append random lower, of_lower.0))
    (byte_or_zero (random ++ lower) (All-append IsByte random lower bytes of_lower.1)) refl

pub upper_is : (random weights : List ℕ) → AreFourBytes random
    → upper_half (new_number random weights) ≡ random
unfolding upper_half
upper_is random weights four =
    ap (take 4) (halves random weights four) ∙ take_at random (lower_half random weights) 4 four.0

pub lower_is : (random weights : List ℕ) → AreFourBytes random
    → drop 4 (to_be_bytes w64 (new_number random weights)) ≡ lower_half random weights
lower_is random weights four =
    ap (drop 4) (halves random weights four) ∙ drop_at random (lower_half random weights) 4 four.0

pub new_is_listed : (random : List ℕ) (file : MembersFile) → AreFourBytes random
    → file.federation ≡ new_number random (weights_of file.sites) → is_listed file ≡ true
unfolding is_listed
new_is_listed random file four is =
    let upper : upper_half file.federation ≡ random = rw is (upper_is random _ four) in
    rw (upper, eq-eqb file.federation (new_number random (weights_of file.sites)) is)
