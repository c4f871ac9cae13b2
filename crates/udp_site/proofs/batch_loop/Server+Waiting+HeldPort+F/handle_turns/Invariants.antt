use Rattle.std.specs.Prelude.{◌≤◌, ◌+◌, ◌-◌, take, map, length}
use Rattle.site.specs.Batches.{no_cell}
use Rattle.book.specs.declared.waiting.Waiting.{Waiting}
use Rattle.udp_site.specs.Traffic.{taken}
use Rattle.udp_site.specs.Turns.{Serving, turn_of}
use Rattle.udp_site.specs.inner.Batched.{TakesAll}
use Rattle.udp_site.specs.inner.HeldPosts.{posts_held}
use Rattle.udp_site.specs.inner.Servers.{Keeps}
use Rattle.udp_site.specs.inner.SlotRecords.{AreSettled}
use Rattle.udp_site.proofs.batch_loop.Server+Waiting+HeldPort+F.handle_turns.Given as goal

-- the turns so far were taken
abbrev pub invariant-loop-place : goal.invariant-loop-place
invariant-loop-place g l = record {
  keeps : Keeps (λ port. 0) g.F.Folders.gives l.fn.self l.self;
  within : l.place - l.from ≤ length l.batch - l.from;
  count : l.self.progress.idle ≤ l.fn.self.progress.idle + (l.place - l.from);
  settled : (s : Serving Waiting)
      → TakesAll
      (turn_of no_cell l.fn.self.addresses.now (g.F.Folders.gives l.fn.self.folders.now))
      (map taken (take l.from l.batch)) s l.fn.self.site.now (posts_held l.fn.self.port.now)
      l.fn.self.lines.now.items l.fn.self.progress.idle l.fn.self.progress.tried
      → AreSettled l.fn.self.site.now.book.records l.fn.self.progress.settled
      → AreSettled l.self.site.now.book.records l.self.progress.settled;
  takes : (s : Serving Waiting)
      → TakesAll
      (turn_of no_cell l.fn.self.addresses.now (g.F.Folders.gives l.fn.self.folders.now))
      (map taken (take l.from l.batch)) s l.fn.self.site.now (posts_held l.fn.self.port.now)
      l.fn.self.lines.now.items l.fn.self.progress.idle l.fn.self.progress.tried
      → AreSettled l.fn.self.site.now.book.records l.fn.self.progress.settled
      → TakesAll
      (turn_of no_cell l.fn.self.addresses.now (g.F.Folders.gives l.fn.self.folders.now))
      (map taken (take l.place l.batch)) s l.self.site.now (posts_held l.self.port.now)
      l.self.lines.now.items l.self.progress.idle l.self.progress.tried;
}
