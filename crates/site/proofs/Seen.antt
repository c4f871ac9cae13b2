-- What the code reads of the records, as a clause sees them.
use Rattle.std.proofs.Common.{◌≡◌, List, Result, Ok, Err}
use Rattle.std.specs.Prelude.{IsErrAnd}
use Rattle.records.specs.declared.record.Record.{Record}
use Rattle.site.specs.Sites.{OpenSite}

-- a word of the records of the site in the code's variables is that of the site that is seen
pub as_seen : {C X : Type 0} (word : List Record → X) {inside now : OpenSite C} {found : X}
    → inside ≡ now → found ≡ word inside.book.records → found ≡ word now.book.records
as_seen word seen is = rw (← seen) is

-- the result of a `?`
pub error_of : {T E : Type 0} (r : Result T E) (e : E) → IsErrAnd r (λ x. x ≡ e) → r ≡ Err e
error_of (Ok x) e is = absurd is
error_of (Err x) e is = cc
