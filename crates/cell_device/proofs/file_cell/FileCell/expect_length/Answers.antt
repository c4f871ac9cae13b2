use Rattle.std.proofs.Common.{◌∙◌, subst, sym, arith}
use Rattle.cell_device.specs.Files.{IsSame}
use Rattle.cell_device.proofs.Files.{unknown, then_same}
use Rattle.cell_device.proofs.file_cell.FileCell.expect_length.Goals as goal

pub returns-in-Ok-2-clause-same : goal.returns-in-Ok-2-clause-same
returns-in-Ok-2-clause-same g c =
    let old = g.F.CellFile.about c.args.self.now.file in
    let still = c.in-Ok-2.ensures.still in
    let none = still.same.image
    ∙ unknown c.in-Ok-2.length c.args.self.now.given old.image
    (c.in-Ok-2.ensures.length (c.args.self.now.sound c.requires))
    (c.args.self.now.given_is c.requires) (λ e. omega (arith, c.if-length-self-2.true, e)) in
    rw c.fail.ensures.file (then_same old (g.F.CellFile.about c.length.new.self)
    (g.F.CellFile.about c.condemn.new.self) still.same (c.condemn.ensures.still none).same)
