use Rattle.std.proofs.Common.{◌≡◌, ℕ, List, Bor, map, get_or, Err, refl, sym, ap, ◌∙◌, ◌&&◌, nat_eq}
use Rattle.folder_checks.specs.Forms.{IsForm}
use Rattle.folder_checks.proofs.Names.{IsNext, before_all, one_more, stopped}
use Rattle.folder_checks.proofs.Several.{map_next}
use Rattle.folder_checks.proofs.named_folders.check_names_on.Goals.{After-check_name_on}
use Rattle.folder_checks.proofs.named_folders.check_names_on.Goals.{then-all_valid, else-all_valid}
use Rattle.folder_checks.proofs.named_folders.check_names_on.Given.{Over}
use Rattle.folder_checks.proofs.named_folders.check_names_on.Goals as goal

pub loop-name-init : goal.loop-name-init
loop-name-init g c = (
  refl,
  refl,
  refl,
  before_all (IsForm c.args.form) (g.F.Folders.gives c.args.folders.now)
      (g.F.Folders.fails_at c.args.folders.now) (g.W.CountedWrite.contents c.args.output.now),
)

-- the folders before have their lines
next : (g : Over) (c : After-check_name_on g) (other : Bor (List ℕ))
    → IsNext (IsForm c.args.form)
    (g.F.Folders.gives c.args.folders.now) (g.F.Folders.gives c.loop-name.folders)
    (g.F.Folders.fails_at c.args.folders.now) (g.F.Folders.fails_at c.loop-name.folders)
    (map (λ name. name.now) c.args.names.now) c.loop-name.name-index
    (get_or c.args.names.now c.loop-name.name-index other).now c.loop-name.all_valid
    (g.W.CountedWrite.contents c.args.output.now) (g.W.CountedWrite.contents c.loop-name.output)
next g c other = record {
  next = map_next (λ name. name.now) c.args.names.now c.loop-name.name-index other
      c.loop-name-test.true;
  same = c.loop-name.invariant.0;
  same_place = c.loop-name.invariant.1;
  so_far = c.loop-name.invariant.3;
}

pub loop-name-preserved : goal.loop-name-preserved
loop-name-preserved g c =
    let valid : c.if-all_valid.all_valid
    ≡ (c.loop-name.all_valid && nat_eq c.in_ok-status.status 0) =
    elim c.if-all_valid.branch [
      | then-all_valid w ↦ w.all_valid-is
          ∙ sym (ap (λ v. v && nat_eq c.in_ok-status.status 0) w.if-all_valid.true)
      | else-all_valid w ↦ w.all_valid-is ∙ (w.if-all_valid.false
          ∙ sym (ap (λ v. v && nat_eq c.in_ok-status.status 0) w.if-all_valid.false))
    ] in (
      c.in_ok-status.ensures.kept ∙ c.loop-name.invariant.0,
      c.in_ok-status.ensures.place ∙ c.loop-name.invariant.1,
      c.in_ok-status.ensures.cause.same (λ is. absurd (cc is)) ∙ c.loop-name.invariant.2,
      one_more (next g (goal.at.loop-name-preserved g c).After-check_name_on _)
          (g.W.CountedWrite.contents c.check_name_on.new.output)
          c.in_ok-status.status c.if-all_valid.all_valid c.in_ok-status.ensures.ok valid,
    )

pub returns-in_err-status-clause-output : goal.returns-in_err-status-clause-output
returns-in_err-status-clause-output g c = λ is.
    stopped (next g (goal.at.returns-in_err-status-clause-output g c).After-check_name_on _)
    (g.W.CountedWrite.contents c.check_name_on.new.output)
    (c.in_err-status.ensures.output (ap (λ e. Err e) c.in_err-status.ensures.fault))
