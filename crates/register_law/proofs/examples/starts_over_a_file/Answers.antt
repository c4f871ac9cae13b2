use Rattle.std.proofs.Common.{◌∙◌, ap, List, ℕ, Some}
use Rattle.cell_device.specs.Images.{at_rest}
use Rattle.register_law.proofs.NewFiles.{begins}
use Rattle.register_law.proofs.examples.starts_over_a_file.Goals as goal

pub returns-in-Ok-open : goal.returns-in-Ok-open
returns-in-Ok-open c = record {
  begins =
      begins _ c.args.owner c.in-Ok.cell c.in-Ok-open.site c.requires.member
      (c.in-Ok.ensures.same.image ∙ c.new-file.ensures.image
      ∙ ap (λ (bytes : List ℕ). Some (at_rest bytes)) c.new.ensures.items)
      c.in-Ok-open.ensures.opened;
}
