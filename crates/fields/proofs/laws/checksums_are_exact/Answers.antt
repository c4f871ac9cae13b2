use Rattle.std.proofs.Common.{subst, sym, Some}
use Rattle.std.specs.Prelude.{◌≡◌, List, ℕ}
use Rattle.fields.specs.Checksums.{without_checksum}
use Rattle.fields.proofs.Checksums.{checksum_size, without_again, without_taken}
use Rattle.fields.proofs.laws.checksums_are_exact.Goals as goal

pub returns-clause-law : goal.returns-clause-law
returns-clause-law c = λ front bytes. (
  without_taken front bytes,
  λ e. subst (λ (x : List ℕ). without_checksum x ≡ Some front) (sym e) (without_again front),
)

pub returns-clause-length : goal.returns-clause-length
returns-clause-length c = checksum_size
