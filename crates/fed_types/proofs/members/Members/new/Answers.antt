use Rattle.std.proofs.Common.{ℕ, arith, ◌<◌}
use Rattle.std.proofs.lemmas.List.{length-replicate, get_or-replicate}
use Rattle.fed_types.proofs.Weights.{ones}
use Rattle.fed_types.proofs.members.Members.new.Goals as goal

pub returns-clause-ok : goal.returns-clause-ok
returns-clause-ok c =
    let same = ones c.from.result c.args.count c.from.ensures (omega arith) in
    let ok = rw (same, length-replicate {A = ℕ} c.args.count 1) at c.weighted.ensures.ok in
    let no_zero = λ (i : ℕ) (l : i < c.args.count). get_or-replicate {A = ℕ} c.args.count i 1 0 l in
    (λ e. (ok.0 e).0, λ h. ok.1 (h, λ z. omega (arith, no_zero z.0 z.1, z.2)))

pub returns-clause-value : goal.returns-clause-value
returns-clause-value c =
    rw (ones c.from.result c.args.count c.from.ensures (omega arith)) at c.weighted.ensures.value

pub returns-clause-bad_count : goal.returns-clause-bad_count
returns-clause-bad_count c =
    let same = ones c.from.result c.args.count c.from.ensures (omega arith) in
    rw (same, length-replicate {A = ℕ} c.args.count 1) at c.weighted.ensures.bad_count
