use Rattle.std.proofs.Common.{◌≡◌, ℕ, List, Some, None, cond, subst, sym, ◌∙◌}
use Rattle.std.specs.Option.{option_or}
use Rattle.std.specs.Str.{bytes_eq}
use Rattle.bag_check.proofs.Keyed.{at_text, at_text-put, at_text-put_back}
use Rattle.bag_check.proofs.files_by_path.put.Goals as goal

pub returns-in_ok-insert : goal.returns-in_ok-insert
returns-in_ok-insert c =
    let P : List ℕ → Type 0 = λ path. (q : List ℕ)
    → at_text q c.insert-in-Some.new.self ≡ option_or (at_text q c.args.by_path.now)
    (cond (bytes_eq path q) (Some c.args.file.now) None) in
    subst P c.path-path.ensures
    (at_text-put_back c.path-path.result.now c.args.file c.in-Some.first c.args.by_path.now
    c.insert.new.self c.insert-in-Some.new.self c.in_ok-first.ensures.updates
    c.in_ok-insert.ensures.updates (sym c.in-Some.is ∙ c.in_ok-first.ensures.old))

pub returns-in_default : goal.returns-in_default
returns-in_default c =
    let P : List ℕ → Type 0 = λ path. (q : List ℕ)
    → at_text q c.insert.new.self ≡ option_or (at_text q c.args.by_path.now)
    (cond (bytes_eq path q) (Some c.args.file.now) None) in
    subst P c.path-path.ensures
    (at_text-put c.path-path.result.now c.args.file c.args.by_path.now c.insert.new.self
    c.in_ok-first.ensures.updates (sym c.in_ok-first.ensures.old ∙ c.in_default.is))
