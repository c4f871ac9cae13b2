use Rattle.std.proofs.Common.{ap, sym, ◌∙◌}
use Rattle.std.specs.Prelude.{option_map}
use Rattle.cell_file.proofs.SyncedTexts.{some_said, none_said}
use Rattle.cell_file.proofs.synced_text.synced_in.Goals as goal

pub returns-in-Some : goal.returns-in-Some
returns-in-Some c = λ length fits.
    some_said c.args.bytes.now c.in-Some.front.now c.length_in.result length
    (sym c.without_checksum.ensures ∙ ap (option_map (λ x. x.now)) c.in-Some.is)
    (c.length_in.ensures length fits)

pub returns-in-None : goal.returns-in-None
returns-in-None c = λ length fits.
    none_said c.args.bytes.now length
    (sym c.without_checksum.ensures ∙ ap (option_map (λ x. x.now)) c.in-None.is)
