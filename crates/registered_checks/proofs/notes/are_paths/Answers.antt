use Rattle.std.proofs.Common.{List, ℕ, Bor, string_bytes, sym}
use Rattle.registered_checks.proofs.Paths.{same_next, as_many, other_here}
use Rattle.registered_checks.proofs.notes.are_paths.Goals as goal

pub loop-i-preserved : goal.loop-i-preserved
loop-i-preserved c =
    same_next string_bytes (λ (path : Bor (List ℕ)). path.now) c.args.noted.now c.args.paths.now
    c.loop-i.i c.index-noted-i.result _ c.as_str.result.now
    c.if-noted-paths.false c.loop-i-test.true c.index-noted-i.is
    c.as_str.ensures.value c.if-ne.ensures c.loop-i.invariant

-- there are more paths, or fewer
pub returns-then-noted-paths : goal.returns-then-noted-paths
returns-then-noted-paths c = (
  λ is. absurd (cc is),
  λ same. absurd (c.if-noted-paths.true
      (as_many string_bytes (λ (path : Bor (List ℕ)). path.now) c.args.noted.now c.args.paths.now
      same)),
)

-- one of them is another
pub returns-then-ne : goal.returns-then-ne
returns-then-ne c = (
  λ is. absurd (cc is),
  λ same. absurd (other_here string_bytes (λ (path : Bor (List ℕ)). path.now) c.args.noted.now
      c.args.paths.now c.loop-i.i c.index-noted-i.result _ c.as_str.result.now
      c.if-noted-paths.false c.loop-i-test.true c.index-noted-i.is
      c.as_str.ensures.value (sym c.if-ne.ensures) same),
)
