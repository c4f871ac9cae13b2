-- Where the last whole record or header ends in a cell of this many bytes with this ending.
use Rattle.std.specs.Prelude.{◌-◌, ℕ}
use Rattle.ledger.specs.declared.ending.Ending.{Ending}
use Rattle.ledger.specs.declared.ending.Ending.TheVariants.{Whole, Torn, Damaged}

abbrev pub text_end : Ending → (len : ℕ) → ℕ
text_end Whole len = len
text_end (Torn count) len = len - count
text_end (Damaged place) len = place
