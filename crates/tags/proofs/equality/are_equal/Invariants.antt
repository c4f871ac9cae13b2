use Rattle.std.proofs.Common.{◌≡◌, length, bytes_eq, ◌&&◌}
use Rattle.tags.proofs.equality.are_equal.Given as goal

abbrev pub invariant-loop-byte : goal.invariant-loop-byte
invariant-loop-byte l =
    (length l.byte-iterator.a.rest.now ≡ length l.byte-iterator.b.rest.now)
    × (bytes_eq l.one l.other
    ≡ (l.same && bytes_eq l.byte-iterator.a.rest.now l.byte-iterator.b.rest.now))
