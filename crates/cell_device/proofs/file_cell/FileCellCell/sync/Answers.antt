use Rattle.cell_device.proofs.Files.{synced}
use Rattle.cell_device.proofs.file_cell.FileCellCell.sync.Goals as goal

pub invariant_of-self : goal.invariant_of-self
invariant_of-self g c =
    let cell = c.expect_length.new.self in
    let sound = c.in_ok-expect_length.ensures.sound in
    let both = synced cell.given (g.F.CellFile.about cell.file).image
    (g.F.CellFile.about c.sync.new.self).image (cell.given_is sound)
    c.in-Ok.ensures.does.image in record {
      sound = λ e. c.in-Ok.ensures.does.trust_is;
      owed = λ e. absurd (cc (e, sound));
      sure_is = λ e. both.0;
      given_is = λ e. both.1;
      seen_is = λ e. absurd (cc (e, sound));
    }
