use Rattle.std.proofs.Common.{◌≡◌, ◌+◌, length, ap, arith, length-append}
use Rattle.std.specs.Prelude.{vec_len}
use Rattle.fields.specs.Checksums.{checksum}
use Rattle.dgram.specs.Encoding.{message_bytes}
use Rattle.dgram.proofs.Appends.{appended_items, puts_both}
use Rattle.dgram.proofs.encoder.put_datagram.Goals as goal

pub returns : goal.returns
returns c =
    let old = c.args.out.now in
    let mid = c.put_message.new.out in
    let new = c.put_checksum.new.out in
    let a = message_bytes c.args.federation c.args.message.now in
    let first = c.in_ok-put_message.ensures.appended in
    let lens : vec_len mid ≡ vec_len old + length a =
    omega (arith, old.ok, mid.ok, ap length first, length-append old.items a) in
    let from : c.len-from.result ≡ length old.items = omega (arith, c.len-from.ensures, old.ok) in
    puts_both old mid new a first c.put_message.ensures.room lens c.put_checksum.result (checksum a)
    (rw (appended_items mid.items old.items a c.len-from.result first from)
    at c.put_checksum.ensures)
