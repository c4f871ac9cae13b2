-- How a site stands, computed: what it counts, and the datagrams before their checksums.
use Rattle.std.proofs.Common.{◌≡◌, ℕ, List, [], ◌∷◌, ◌++◌, refl, None, false, length, replicate}
use Rattle.udp_site.specs.declared.status.Standing.{Standing}
use Rattle.udp_site.specs.Status.{STATUS, STATUS_REPLY, front, standing_bytes, asks_status}

-- 300 records, two bags that are known, one deposit that waits, and 70 ms alone
abbrev standing : Standing
standing = record {
  counts = record { records = 300; known = 2; pending = 1 };
  alone = 70;
}

pub question_is : front STATUS 7 0
    ≡ 0x42 ∷ 0x50 ∷ 2 ∷ 19 ∷ 0 ∷ 0 ∷ 0 ∷ 0 ∷ 0 ∷ 0 ∷ 0 ∷ 7 ∷ 0 ∷ []
question_is = refl

pub answer_is : front STATUS_REPLY 7 1 ++ standing_bytes standing
    ≡ 0x42 ∷ 0x50 ∷ 2 ∷ 34 ∷ 0 ∷ 0 ∷ 0 ∷ 0 ∷ 0 ∷ 0 ∷ 0 ∷ 7 ∷ 1
    ∷ 0 ∷ 0 ∷ 0 ∷ 0 ∷ 0 ∷ 0 ∷ 1 ∷ 44
    ∷ 0 ∷ 0 ∷ 0 ∷ 0 ∷ 0 ∷ 0 ∷ 0 ∷ 2
    ∷ 0 ∷ 0 ∷ 0 ∷ 0 ∷ 0 ∷ 0 ∷ 0 ∷ 1
    ∷ 0 ∷ 0 ∷ 0 ∷ 0 ∷ 0 ∷ 0 ∷ 0 ∷ 70 ∷ []
answer_is = refl

-- no answer is longer than its question
pub as_long : length (standing_bytes standing) ≡ length {A = ℕ} (replicate 32 0)
as_long = refl

-- a client's port answers nothing
pub no_client_answers : (bytes : List ℕ) → asks_status None bytes ≡ false
no_client_answers bytes = refl
