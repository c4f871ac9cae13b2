use Rattle.std.proofs.Common.{◌≡◌, ◌+◌, ℕ, suc, take, arith, append_assoc}
use Rattle.std.specs.List.{flat_map}
use Rattle.std.specs.String.{string_bytes}
use Rattle.ledger.specs.inner.Rows.{listed_in, slot_at, text_if}
use Rattle.ledger.proofs.VersionLines.{text_next}
use Rattle.ledger.proofs.version_line.push_versions.Goals as goal

pub loop-place-preserved : goal.loop-place-preserved
loop-place-preserved c =
    let versions = c.args.versions.now in
    let f = listed_in c.args.wanted versions.rows in
    let n : ℕ = c.loop-place.place in
    let next : n + 1 ≡ suc n = omega arith in
    rw (next, text_next f versions.slots n, c.in_ok-push_at.ensures, c.loop-place.invariant)
    (append_assoc (string_bytes c.args.text.now) (flat_map f (take n versions.slots))
    (text_if f (slot_at versions n)))
