use Rattle.std.specs.Prelude.{vec_len, vec_capacity}
use Rattle.dgram.specs.Numbers.{LONGEST_DATAGRAM}
use Rattle.dgram.specs.Encoding.{datagram_of}
use Rattle.dgram.proofs.Appends.{has_room}
use Rattle.dgram.proofs.Lengths.{no_longer}
use Rattle.dgram.proofs.encoder.encode.Goals as goal

pub returns-then-is_err-clause-room : goal.returns-then-is_err-clause-room
returns-then-is_err-clause-room c = λ room.
    has_room c.put_datagram-put.result (vec_capacity c.args.out.now) (vec_len c.args.out.now)
    LONGEST_DATAGRAM (datagram_of c.args.federation c.args.message.now)
    c.put_datagram-put.ensures.full
    (no_longer c.args.federation c.args.message.now c.messages_are_well_formed.ensures) room
