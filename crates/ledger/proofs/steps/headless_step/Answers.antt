use Rattle.std.proofs.Common.{refl}
use Rattle.ledger.specs.declared.ending.Ending.TheVariants.{Damaged}
use Rattle.ledger.specs.declared.part.LastPart.{LastPart}
use Rattle.ledger.proofs.Headerless.{damaged_headless}
use Rattle.ledger.proofs.steps.headless_step.Goals as goal

pub returns : goal.returns
returns c =
    let last : LastPart = record { part = c.new.result; ending = Damaged 0 } in (
      (0, refl),
      λ more. damaged_headless c.args.bytes.now more c.if-bytes-lt-LONGEST_HEADER.false c.requires
          last c.new.ensures refl,
    )
