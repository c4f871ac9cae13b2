use Rattle.std.proofs.Common.{ℕ, List, [], append-nil, subst}
use Rattle.ledger.specs.declared.part.Parts.{Parts}
use Rattle.ledger.specs.Parts.{nothing, and_part, Tells, IsWhole}
use Rattle.cell_file.proofs.text_end.ending_of.Goals as goal

pub returns-in-Last : goal.returns-in-Last
returns-in-Last c =
    let bytes = c.args.bytes.now in
    let last = c.in-Last.last in
    let tells = subst (λ (parts : Parts). Tells c.take.new.self bytes nothing parts) c.in-Last.is
    (c.in_ok-last.ensures [] nothing c.new-reader.ensures) in (
      and_part nothing last.part,
      subst (λ (l : List ℕ). IsWhole l (and_part nothing last.part) last.ending)
          (append-nil bytes) (tells.1 []).1,
    )
