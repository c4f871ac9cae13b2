use Rattle.std.proofs.Common.{◌∙◌, sym, subst}
use Rattle.cell_device.specs.Images.{AllowsAppend, with_bytes}
use Rattle.cell_device.proofs.Files.{appended, not_appended, length_appended, changed_device}
use Rattle.cell_device.proofs.file_cell.FileCellCell.append.Goals as goal

pub invariant_of-self : goal.invariant_of-self
invariant_of-self g c =
    let cell = c.expect_length.new.self in
    let sound = c.in_ok-expect_length.ensures.sound in
    let old = (g.F.CellFile.about cell.file).image in
    let new = (g.F.CellFile.about c.append.new.self).image in
    let allows : AllowsAppend old = subst AllowsAppend
    (sym (c.in_ok-expect_length.ensures.same.image ∙ c.in_ok-begin.ensures.same.image))
    c.requires in
    record {
      sound = λ e. c.in-Ok.ensures.does.trust_is;
      owed = λ e. absurd (cc (e, sound));
      sure_is = λ e. appended cell.sure old (g.met.F.CellFile.seen_now cell.file)
          (cell.sure_is (λ l. absurd (cc (l, sound)))) c.args.bytes.now new allows
          c.in-Ok.ensures.does.image;
      given_is = λ e. length_appended cell.given c.in-Some.given c.args.bytes.now old new
          (cell.given_is sound) c.in-Some.ensures.1 c.in-Ok.ensures.does.image;
      seen_is = λ e. absurd (cc (e, sound));
    }

pub invariant_of-self-in-Err-Device : goal.invariant_of-self-in-Err-Device
invariant_of-self-in-Err-Device g c =
    let cell = c.expect_length.new.self in
    let sound = c.in_ok-expect_length.ensures.sound in
    let old = (g.F.CellFile.about cell.file).image in
    let new = (g.F.CellFile.about c.append.new.self).image in
    let allows : AllowsAppend old = subst AllowsAppend
    (sym (c.in_ok-expect_length.ensures.same.image ∙ c.in_ok-begin.ensures.same.image))
    c.requires in
    let does = changed_device (with_bytes c.args.bytes.now) (g.F.CellFile.about cell.file)
    (g.F.CellFile.about c.append.new.self) c.append.result c.append.ensures.does
    (cc (c.in-Err-Device.is, c.in-Err-Device.field-0-is)) in
    let both = not_appended cell.sure old (g.met.F.CellFile.seen_now cell.file)
    (cell.sure_is (λ l. absurd (cc (l, sound)))) c.args.bytes.now new allows does.image in record {
      sound = λ e. absurd (cc e);
      owed = λ e trust. absurd (cc (trust, does.trust_is));
      sure_is = λ e. both.0;
      given_is = λ e. absurd (cc e);
      seen_is = λ e. both.1;
    }
