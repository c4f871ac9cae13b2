use Rattle.ledger.proofs.Readings.{says_end, found_damage}
use Rattle.ledger.proofs.read.find_damage.Goals as goal
use Rattle.ledger.proofs.read.find_damage.Goals.{in-Ok, in-Err}

pub returns : goal.returns
returns c =
    let owner = c.args.owner.now in
    let bytes = c.args.bytes.now in
    elim c.match-read_journal.branch [
      | in-Ok w ↦ rw w.result-is (says_end owner bytes _ c.requires.headed w.in-Ok.ensures.said)
      | in-Err w ↦
          rw w.result-is
          (found_damage owner bytes w.in-Err.fault _ c.requires.headed w.in-Err.ensures.said
          w.damage_in.ensures)
    ]
