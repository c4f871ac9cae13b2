use Rattle.std.proofs.Common.{◌+◌, drop, arith}
use Rattle.std.proofs.lemmas.List.{length-drop}
use Rattle.records.proofs.Walk.{from_is}
use Rattle.ledger.proofs.TextEnds.{header_fits, second_found, none_found}
use Rattle.ledger.proofs.read.find_second.Goals as goal

pub found_after-requires : goal.found_after-requires
found_after-requires c =
    let place = 13 + c.pass_sizes-place.result in
    let h = rw (c.in-Some.is, from_is c.args.bytes.now place) at c.in_ok-named.ensures in
    omega (
      arith,
      header_fits c.args.owner.now c.in-Some.named (drop place c.args.bytes.now) h,
      length-drop place c.args.bytes.now,
      c.header_size.ensures,
    )

pub returns-in-Some : goal.returns-in-Some
returns-in-Some c =
    let bytes = c.args.bytes.now in
    let pass = c.pass_sizes-place.result in
    let h = rw (c.in-Some.is, from_is bytes (13 + pass)) at c.in_ok-named.ensures in
    let passes = rw (from_is bytes 13) at c.pass_sizes-place.ensures.passed in
    second_found c.args.owner.now bytes pass passes c.header_size.result c.in-Some.named
    c.found_after.result c.requires.not_second h c.header_size.ensures c.found_after.ensures

pub returns-in-None : goal.returns-in-None
returns-in-None c =
    let bytes = c.args.bytes.now in
    let pass = c.pass_sizes-place.result in
    let none = rw (c.in-None.is, from_is bytes (13 + pass)) at c.in_ok-named.ensures in
    let passes = rw (from_is bytes 13) at c.pass_sizes-place.ensures.passed in
    none_found c.args.owner.now bytes pass passes c.requires.headed c.requires.not_second none
    (omega (
      arith,
      c.requires.long,
      c.pass_sizes-place.ensures.in_range,
      length-drop 13 bytes,
    ))
