use Rattle.std.proofs.Common.{◌≡◌, ℕ, ◌+◌, min, List, ap, arith}
use Rattle.cell_device.specs.Images.{Image}
use Rattle.cell_device.specs.inner.Mediums.{medium_image}
use Rattle.cell_device.proofs.Changes.{failed_is}
use Rattle.cell_device.proofs.medium.Medium.fail.Goals as goal

pub returns-clause-bytes : goal.returns-clause-bytes
returns-clause-bytes c =
    let m = c.args.self.now in
    let old = medium_image m in
    let with_seen = λ (bytes : List ℕ).
    (let i : Image = record { synced = old.synced; newest = old.newest; seen = bytes } in i) in
    let n : c.min-self.result ≡ min (m.least + c.args.kept) m.most =
    omega (arith, c.min-self.ensures, c.saturating_add.ensures) in
    ap with_seen (failed_is m c.args.kept _ n)
