use Rattle.std.proofs.Common.{◌≡◌, ℕ, List, Option, Result, Err, take, inr, refl}
use Rattle.std.proofs.Common.{subst}
use Rattle.std.specs.Result.{IfOk, OnErr}
use Rattle.std.specs.Io.KnownBytes.{Appends}
use Rattle.bag_tree.specs.declared.fault.TreeFault.{TreeFault}
use Rattle.bag_tree.specs.Facts.{TreeFacts}
use Rattle.outcomes.specs.declared.fault.ProgramFault.{ProgramFault}
use Rattle.outcomes.specs.declared.fault.ProgramFault.TheVariants.{Output}
use Rattle.folder_checks.specs.declared.form.Form.{Form}
use Rattle.folder_checks.specs.declared.form.Form.TheVariants.{Lines, Json}
use Rattle.folder_checks.specs.Forms.{IsForm, without_memory}
use Rattle.folder_checks.proofs.Names.{no_room, no_room_stopped}
use Rattle.folder_checks.proofs.named_folders.check_name_on.Goals as goal

-- a check may end so
may_lack : (form : Form) (place : Option (List ℕ))
    (gives : List ℕ → Result TreeFacts TreeFault) (name : List ℕ)
    → IsForm form place gives name (without_memory form)
may_lack (Lines report) place gives name = inr refl
may_lack (Json report) place gives name = inr refl

-- what is written then, with its status
written : (form : Form) (result : Result ℕ ProgramFault) (old new : Option (List ℕ))
    (text : List ℕ) → text ≡ (without_memory form).text
    → IfOk result (λ given. (given ≡ 1) × Appends old new text)
    → IfOk result (λ given. (given ≡ (without_memory form).status)
    × Appends old new (without_memory form).text)
written (Lines report) result old new text is wrote =
    subst (λ t. IfOk result (λ given. (given ≡ 1) × Appends old new t)) is wrote
written (Json report) result old new text is wrote =
    subst (λ t. IfOk result (λ given. (given ≡ 1) × Appends old new t)) is wrote

pub returns-in-Err-clause-ok : goal.returns-in-Err-clause-ok
returns-in-Err-clause-ok g c =
    no_room (IsForm c.args.form) (without_memory c.args.form) (may_lack c.args.form)
    (g.F.Folders.gives c.args.folders.now) (g.F.Folders.fails_at c.args.folders.now)
    c.args.name.now c.write_bytes-in-Err.result (g.W.CountedWrite.contents c.args.output.now)
    (g.W.CountedWrite.contents c.write_bytes-in-Err.new.output)
    (written c.args.form _ _ _ _ c.memory_line.ensures c.write_bytes-in-Err.ensures.ok)

pub returns-in-Err-clause-output : goal.returns-in-Err-clause-output
returns-in-Err-clause-output g c =
    no_room_stopped (IsForm c.args.form) (without_memory c.args.form) (may_lack c.args.form)
    (g.F.Folders.gives c.args.folders.now) (g.F.Folders.fails_at c.args.folders.now)
    c.args.name.now c.write_bytes-in-Err.result (g.W.CountedWrite.contents c.args.output.now)
    (g.W.CountedWrite.contents c.write_bytes-in-Err.new.output)
    (subst (λ text. OnErr c.write_bytes-in-Err.result
    ((c.write_bytes-in-Err.result ≡ Err Output) × ((n : ℕ)
    × Appends (g.W.CountedWrite.contents c.args.output.now)
    (g.W.CountedWrite.contents c.write_bytes-in-Err.new.output) (take n text))))
    c.memory_line.ensures c.write_bytes-in-Err.ensures.err)
