use Rattle.std.proofs.Common.{◌≡◌, ◌-◌, suc, arith, slice_index, refl}
use Rattle.std.proofs.Math.Numerals.{add-one}
use Rattle.std.proofs.lemmas.List.Sums.{sum_by_push}
use Rattle.fed_types.specs.Sites.{sites_to}
use Rattle.fed_types.proofs.members.total_of.Goals as goal

pub loop-weight-init : goal.loop-weight-init
unfolding sites_to
loop-weight-init c = (refl, omega arith)

pub loop-weight-preserved : goal.loop-weight-preserved
unfolding sites_to
loop-weight-preserved c =
    let back : suc c.loop-weight.weight-index - 1 ≡ c.loop-weight.weight-index = omega arith in (
      rw (
        add-one,
        sum_by_push (λ site. slice_index c.args.weights.now (site - 1))
            (sites_to c.loop-weight.weight-index) (suc c.loop-weight.weight-index),
        back,
        c.from-total.ensures,
        c.loop-weight.invariant.0,
      ),
      omega (
        arith,
        c.loop-weight.invariant.1,
        c.from-total.ensures,
        c.type_inv.weights c.loop-weight.weight-index,
      ),
    )
