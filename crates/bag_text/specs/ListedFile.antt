-- What a manifest says of one file.
use Rattle.std.specs.Prelude.{ℕ, List}

-- a digest, and the path of the file that it is of
pub record ListedFile : Type 0 where
  pub digest : List ℕ
  pub path : List ℕ
