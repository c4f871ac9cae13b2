-- What is so of the tables that a clause sees is so of those in the code's variables.
use Rattle.std.proofs.Common.{◌≡◌, List, sym, subst}
use Rattle.records.specs.declared.owner.Owner.{Owner}
use Rattle.records.specs.declared.record.Record.{Record}
use Rattle.proposer.specs.VolatileStates.{VolatileState}
use Rattle.proposer.specs.UnderWay.{UnderWay}
use Rattle.site.specs.Contents.{Contents, IsOf, Represents}

pub is_inside : {inside now : Contents} → inside ≡ now → (owner : Owner) (records : List Record)
    → IsOf now owner records → IsOf inside owner records
is_inside seen owner records of =
    subst (λ (t : Contents). IsOf t owner records) (sym seen) of

pub was_inside : {inside now : Contents} → inside ≡ now → (records : List Record)
    (volatile : VolatileState) (under : UnderWay) → Represents now records volatile under
    → Represents inside records volatile under
was_inside seen records volatile under stands =
    subst (λ (t : Contents). Represents t records volatile under) (sym seen) stands
