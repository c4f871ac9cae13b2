use Rattle.std.proofs.Common.{◌∙◌}
use Rattle.cell_device.proofs.Files.{sure_at_rest, length_same}
use Rattle.cell_device.proofs.file_cell.FileCell.over.Goals as goal

pub invariant_of-result : goal.invariant_of-result
invariant_of-result g c =
    let old = (g.F.CellFile.about c.args.file).image in
    let new = (g.F.CellFile.about c.length.new.self).image in
    let same = c.in-Ok.ensures.still.same.image in
    let len = c.in-Ok.ensures.length c.requires.sound in record {
      sound = λ e. c.in-Ok.ensures.still.trust_is ∙ c.requires.sound;
      owed = λ e. absurd (cc e);
      sure_is = λ e. sure_at_rest c.in-Ok.given old new c.requires.rest same len;
      given_is = λ e. length_same c.in-Ok.given old new same len;
      seen_is = λ e. absurd (cc e);
    }
