use Rattle.std.proofs.Common.{◌≡◌, ◌<◌, ◌-◌, arith}
use Rattle.std.proofs.lemmas.Nat.{and_mask}
use Rattle.std.proofs.lemmas.Nat.Bits.{ones_shr}
use Rattle.fed_types.proofs.Numbers.{number_is}
use Rattle.fed_types.proofs.voters.Voters.number_to.Goals as goal

pub returns : goal.returns
returns c =
    let most : c.args.count < 64 = omega (arith, c.requires.1) in
    let back : 64 - (64 - c.args.count) ≡ c.args.count = omega arith in
    rw (← c.self.view_is, ones_shr 64 (64 - c.args.count) (omega arith), back, and_mask)
    (number_is c.self.inside.word c.args.count most)
