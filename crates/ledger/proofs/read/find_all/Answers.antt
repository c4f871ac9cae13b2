use Rattle.std.proofs.Common.{arith}
use Rattle.ledger.proofs.TextEnds.{header_fits, headed_long, first_found}
use Rattle.ledger.proofs.read.find_all.Goals as goal

pub found_after-requires : goal.found_after-requires
found_after-requires c =
    let owner = c.args.owner.now in
    let bytes = c.args.bytes.now in
    let h = rw c.in-Some.is at c.in_ok-named.ensures in
    omega (arith, header_fits owner c.in-Some.named bytes h, c.header_size.ensures)

pub returns-in-Some : goal.returns-in-Some
returns-in-Some c =
    let owner = c.args.owner.now in
    let bytes = c.args.bytes.now in
    let h = rw c.in-Some.is at c.in_ok-named.ensures in
    first_found owner bytes c.header_size.result c.in-Some.named c.found_after.result h
    c.header_size.ensures c.found_after.ensures

pub find_second-requires-clause-long : goal.find_second-requires-clause-long
find_second-requires-clause-long c =
    headed_long c.args.owner.now c.args.bytes.now c.requires.headed
