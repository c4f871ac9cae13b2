use Rattle.std.proofs.Common.{rules, slice_index_or, bit_xor}
use Rattle.std.proofs.lemmas.List.Edits.{map_over_more}
use Rattle.tags.proofs.key_block.padded.Goals as goal

pub bytes-preserved : goal.bytes-preserved
bytes-preserved c =
    map_over_more (λ byte. bit_xor byte c.args.pad) c.args.block.now c.bytes.bytes c.bytes.place
    (slice_index_or c.bytes.bytes c.bytes.place 0) (search rules) c.bytes.invariant (search rules)
