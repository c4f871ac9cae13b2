use Rattle.std.proofs.Common.{◌≡◌, ◌++◌, take, drop}
use Rattle.tags.specs.Hmac.{padded}
use Rattle.tags.proofs.key_block.padded.Given as goal

abbrev pub invariant-bytes : goal.invariant-bytes
invariant-bytes l = l.bytes ≡ padded l.pad (take l.place l.block) ++ drop l.place l.block
