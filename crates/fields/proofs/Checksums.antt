-- Bytes with their checksum are read again, and only they.
use Rattle.std.proofs.Common.{◌≡◌, ℕ, true, false, cond, ltb, List, ◌++◌, length}
use Rattle.std.proofs.Common.{take, drop, Some, None, refl, sym, ap, ◌∙◌, arith}
use Rattle.std.proofs.Common.{length-append}
use Rattle.std.specs.Prelude.{bytes_eq}
use Rattle.std.proofs.lemmas.Bool.{le-ltb}
use Rattle.std.proofs.lemmas.Slice.Eq.{bytes_eq-Decides}
use Rattle.std.proofs.lemmas.List.{take_at, drop_at, take-append-drop}
use Rattle.sha2.specs.Sha256.{sha256, digest_bytes}
use Rattle.fields.specs.Checksums.{checksum, with_checksum, before_checksum, without_checksum}
use Rattle.fields.proofs.Bytes.{some_is, past_test, in_test}

pub checksum_size : (bytes : List ℕ) → length (checksum bytes) ≡ 8
unfolding checksum sha256 digest_bytes
checksum_size bytes = refl

-- what is written is read
pub without_again : (front : List ℕ) → without_checksum (with_checksum front) ≡ Some front
unfolding without_checksum
without_again front =
    let bytes = with_checksum front in
    let sum = checksum front in
    let size : before_checksum bytes ≡ length front =
    omega (arith, length-append front sum, checksum_size front) in
    let long : ltb (length bytes) 8 ≡ false =
    le-ltb _ _ (omega (arith, length-append front sum, checksum_size front)) in
    let first : take (before_checksum bytes) bytes ≡ front =
    take_at front sum (before_checksum bytes) (sym size) in
    let last : drop (before_checksum bytes) bytes ≡ sum =
    drop_at front sum (before_checksum bytes) (sym size) in
    let same : bytes_eq sum sum ≡ true = (bytes_eq-Decides sum sum).1 refl in
    rw (long, first, last, same) refl

-- and only what is written
pub without_taken : (front bytes : List ℕ) → without_checksum bytes ≡ Some front
    → bytes ≡ with_checksum front
unfolding without_checksum
without_taken front bytes e =
    let n = before_checksum bytes in
    let read = take n bytes in
    let test = bytes_eq (drop n bytes) (checksum read) in
    let long = past_test (ltb (length bytes) 8) (cond test (Some read) None) front e in
    let same = in_test test (Some read) front long.1 in
    let sum : drop n bytes ≡ checksum read =
    (bytes_eq-Decides (drop n bytes) (checksum read)).0 same.0 in
    sym (take-append-drop n bytes) ∙ ap (λ (x : List ℕ). read ++ x) sum
    ∙ ap with_checksum (some_is read front same.1)
