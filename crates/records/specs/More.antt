-- Records that follow a header of the second layout, or other records.
use Rattle.std.specs.Prelude.{◌≡◌, ◌+◌, ℕ, List, ◌++◌, length}
use Rattle.records.specs.declared.layout.Layout.TheVariants.{Second}
use Rattle.records.specs.declared.more_records.MoreRecords.{MoreRecords}
use Rattle.records.specs.Layout.{all_encoded}
use Rattle.records.specs.Records.{AreRecords}
use Rattle.records.specs.inner.Steps.{Follows}

-- The bytes begin with these records. What follows them is nothing or a record cut short; or else
-- they are damaged from there on.
pub record BeginsWith (bytes : List ℕ) (more : MoreRecords) : Type 0 where
  pub rest : List ℕ
  pub are_records : AreRecords more.records.items
  pub bytes_are : bytes ≡ all_encoded Second more.records.items ++ rest
  pub end_is : more.end + length rest ≡ length bytes
  pub follows : Follows Second rest more.is_damaged
