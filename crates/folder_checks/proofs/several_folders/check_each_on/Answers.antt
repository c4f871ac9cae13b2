use Rattle.std.proofs.Common.{◌≡◌, ℕ, List, Bor, map, get_or, Err, refl, sym, ap, ◌∙◌, ◌&&◌, nat_eq}
use Rattle.folder_checks.proofs.Several.{IsNext, before_all, map_next, one_more, stopped}
use Rattle.folder_checks.proofs.several_folders.check_each_on.Goals.{After-check_named_on}
use Rattle.folder_checks.proofs.several_folders.check_each_on.Goals.{then-all_valid, else-all_valid}
use Rattle.folder_checks.proofs.several_folders.check_each_on.Given.{Over}
use Rattle.folder_checks.proofs.several_folders.check_each_on.Goals as goal

pub loop-path-init : goal.loop-path-init
loop-path-init g c = (
  refl,
  refl,
  refl,
  before_all c.args.report (g.F.Folders.gives c.args.folders.now)
      (g.F.Folders.fails_at c.args.folders.now) (g.W.CountedWrite.contents c.args.output.now),
)

-- the folders before have their lines
next : (g : Over) (c : After-check_named_on g) (other : Bor (List ℕ)) → IsNext c.args.report
    (g.F.Folders.gives c.args.folders.now) (g.F.Folders.gives c.loop-path.folders)
    (g.F.Folders.fails_at c.args.folders.now) (g.F.Folders.fails_at c.loop-path.folders)
    (map (λ path. path.now) c.args.paths.now) c.loop-path.path-index
    (get_or c.args.paths.now c.loop-path.path-index other).now c.loop-path.all_valid
    (g.W.CountedWrite.contents c.args.output.now) (g.W.CountedWrite.contents c.loop-path.output)
next g c other = record {
  next = map_next (λ path. path.now) c.args.paths.now c.loop-path.path-index other
      c.loop-path-test.true;
  same = c.loop-path.invariant.0;
  same_place = c.loop-path.invariant.1;
  so_far = c.loop-path.invariant.3;
}

pub loop-path-preserved : goal.loop-path-preserved
loop-path-preserved g c =
    let valid : c.if-all_valid.all_valid
    ≡ (c.loop-path.all_valid && nat_eq c.in_ok-status.status 0) =
    elim c.if-all_valid.branch [
      | then-all_valid w ↦ w.all_valid-is
          ∙ sym (ap (λ v. v && nat_eq c.in_ok-status.status 0) w.if-all_valid.true)
      | else-all_valid w ↦ w.all_valid-is ∙ (w.if-all_valid.false
          ∙ sym (ap (λ v. v && nat_eq c.in_ok-status.status 0) w.if-all_valid.false))
    ] in (
      c.in_ok-status.ensures.kept ∙ c.loop-path.invariant.0,
      c.in_ok-status.ensures.place ∙ c.loop-path.invariant.1,
      c.in_ok-status.ensures.cause.same (λ is. absurd (cc is)) ∙ c.loop-path.invariant.2,
      one_more (next g (goal.at.loop-path-preserved g c).After-check_named_on _)
          (g.W.CountedWrite.contents c.check_named_on.new.output)
          c.in_ok-status.status c.if-all_valid.all_valid c.in_ok-status.ensures.ok valid,
    )

pub returns-in_err-status-clause-output : goal.returns-in_err-status-clause-output
returns-in_err-status-clause-output g c = λ is.
    stopped (next g (goal.at.returns-in_err-status-clause-output g c).After-check_named_on _)
    (g.W.CountedWrite.contents c.check_named_on.new.output)
    (c.in_err-status.ensures.output (ap (λ e. Err e) c.in_err-status.ensures.fault))
