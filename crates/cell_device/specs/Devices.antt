-- What is known of the device on which a cell lies.
use Rattle.std.specs.Prelude.{ℕ, List, Option}
use Rattle.cell_device.specs.declared.fuse.FuseState.{FuseState}
use Rattle.cell_device.specs.Images.{Image}

pub record Device : Type 1 where
  -- its bytes, where they are known
  pub image : Option Image
  -- what becomes of the calls to come, where that is known
  pub fuse : Option FuseState
  -- the moment, as a number that doesn't fall
  pub moment : ℕ
  -- what a crash at some moment from that one on may have left, during a call or between two
  pub left_since : ℕ → List ℕ → Type 0
  -- how often it has failed
  pub failures : ℕ
