use Rattle.ledger.proofs.CellContents.{tells, damage_told}
use Rattle.ledger.proofs.read.contents_of.Goals as goal

pub returns-in-None : goal.returns-in-None
returns-in-None c =
    let owner = c.args.owner.now in
    let bytes = c.args.bytes.now in
    let e = rw c.in-None.is at c.in_ok-find_damage.ensures in
    tells owner bytes c.requires e c.text_contents.result c.text_contents.ensures

pub returns-in_ok-text-in-Some : goal.returns-in_ok-text-in-Some
returns-in_ok-text-in-Some c =
    let owner = c.args.owner.now in
    let bytes = c.args.bytes.now in
    let d = rw c.in-Some.is at c.in_ok-find_damage.ensures in
    damage_told owner bytes c.in-Some.place d c.requires c.in_ok-text-in-Some.text
    c.in_ok-text-in-Some.ensures
