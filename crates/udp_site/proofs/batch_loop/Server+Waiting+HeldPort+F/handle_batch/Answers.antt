use Rattle.std.proofs.Common.{rules, arith, ap, ◌≡◌, map, take, length, refl, []}
use Rattle.book.specs.declared.waiting.Waiting.{Waiting}
use Rattle.site.specs.Batches.{no_cell}
use Rattle.udp_site.specs.Traffic.{taken}
use Rattle.udp_site.specs.Turns.{Serving, turn_of}
use Rattle.udp_site.specs.inner.Batched.{TakesAll}
use Rattle.udp_site.specs.inner.HeldPosts.{posts_held}
use Rattle.udp_site.specs.inner.Servers.{Stands}
use Rattle.std.proofs.lemmas.Result.{on_ok_weaker}
use Rattle.udp_site.proofs.Handed.{is_err}
use Rattle.udp_site.proofs.Intake.{first_taken, no_fewer}
use Rattle.udp_site.proofs.batch_loop.Server+Waiting+HeldPort+F.handle_batch.Given.{Over}
use Rattle.udp_site.proofs.batch_loop.Server+Waiting+HeldPort+F.handle_batch.Goals.{After-handle_turns}
use Rattle.udp_site.proofs.batch_loop.Server+Waiting+HeldPort+F.handle_batch.Goals.{After-handle_turns-2}
use Rattle.udp_site.proofs.batch_loop.Server+Waiting+HeldPort+F.handle_batch.Goals as goal

-- no turn was taken when the first began
begun : (g : Over) (c : After-handle_turns g) (s : Serving Waiting)
    → Stands s c.args.self.now.site.now c.args.self.now.progress
    → TakesAll
    (turn_of no_cell c.args.self.now.addresses.now (g.F.Folders.gives c.args.self.now.folders.now))
    (map taken (take 0 c.deref.result.now)) s c.args.self.now.site.now
    (posts_held c.args.self.now.port.now) c.clear.new.self.items c.args.self.now.progress.idle
    c.args.self.now.progress.tried
begun g c s here = (
  [],
  s,
  refl,
  refl,
  here.there,
  here.idle,
  here.tried,
  here.serves,
  c.requires.empty,
  c.clear.ensures.items,
)

-- they were taken when the next one began
begun_again : (g : Over) (c : After-handle_turns-2 g) (s : Serving Waiting)
    → TakesAll
    (turn_of no_cell c.args.self.now.addresses.now (g.F.Folders.gives c.args.self.now.folders.now))
    (map taken c.args.batch.now.items) s c.handle_turns.new.self.site.now
    (posts_held c.handle_turns.new.self.port.now) c.handle_turns.new.self.lines.now.items
    c.handle_turns.new.self.progress.idle c.handle_turns.new.self.progress.tried
    → TakesAll
    (turn_of no_cell c.handle_turns.new.self.addresses.now
    (g.F.Folders.gives c.handle_turns.new.self.folders.now))
    (map taken (take c.len-so_far.result c.deref-2.result.now)) s c.handle_turns.new.self.site.now
    (posts_held c.handle_turns.new.self.port.now) c.handle_turns.new.self.lines.now.items
    c.handle_turns.new.self.progress.idle c.handle_turns.new.self.progress.tried
begun_again g c s before =
    let kept = c.in_ok-handle_turns.ensures.keeps in
    let count : c.len-so_far.result ≡ length c.args.batch.now.items = search rules in
    let first = first_taken _ _ _ _ _ c.take_more.ensures.joined in
    rw (kept.addresses, kept.kept, c.deref-2.ensures.value, count, ← first) before

pub returns-in_err-handle_turns-clause-takes : goal.returns-in_err-handle_turns-clause-takes
returns-in_err-handle_turns-clause-takes g c s here =
    let at_call = (goal.at.returns-in_err-handle_turns-clause-takes g c).After-handle_turns in
    rw (is_err _ _ c.from_residual.ensures.1)
    (rw c.deref.ensures.value at
    (c.in_err-handle_turns.ensures.takes s (begun g at_call s here) here.settled))

pub returns-then-is_some-clause-takes : goal.returns-then-is_some-clause-takes
returns-then-is_some-clause-takes g c s here =
    let at_call = (goal.at.returns-then-is_some-clause-takes g c).After-handle_turns in
    rw c.deref.ensures.value at
    (c.in_ok-handle_turns.ensures.takes s (begun g at_call s here) here.settled)

pub returns-then-is_some-clause-settled : goal.returns-then-is_some-clause-settled
returns-then-is_some-clause-settled g c s here =
    let at_call = (goal.at.returns-then-is_some-clause-settled g c).After-handle_turns in
    c.in_ok-handle_turns.ensures.settled s (begun g at_call s here) here.settled

pub returns-then-len-gt1-clause-takes : goal.returns-then-len-gt1-clause-takes
returns-then-len-gt1-clause-takes g c s here =
    let at_call = (goal.at.returns-then-len-gt1-clause-takes g c).After-handle_turns in
    rw c.deref.ensures.value at
    (c.in_ok-handle_turns.ensures.takes s (begun g at_call s here) here.settled)

pub returns-then-len-gt1-clause-settled : goal.returns-then-len-gt1-clause-settled
returns-then-len-gt1-clause-settled g c s here =
    let at_call = (goal.at.returns-then-len-gt1-clause-settled g c).After-handle_turns in
    c.in_ok-handle_turns.ensures.settled s (begun g at_call s here) here.settled

pub returns-then-untried-eq0-clause-takes : goal.returns-then-untried-eq0-clause-takes
returns-then-untried-eq0-clause-takes g c s here =
    let at_call = (goal.at.returns-then-untried-eq0-clause-takes g c).After-handle_turns in
    rw c.deref.ensures.value at
    (c.in_ok-handle_turns.ensures.takes s (begun g at_call s here) here.settled)

pub returns-then-untried-eq0-clause-settled : goal.returns-then-untried-eq0-clause-settled
returns-then-untried-eq0-clause-settled g c s here =
    let at_call = (goal.at.returns-then-untried-eq0-clause-settled g c).After-handle_turns in
    c.in_ok-handle_turns.ensures.settled s (begun g at_call s here) here.settled

pub returns-clause-takes : goal.returns-clause-takes
returns-clause-takes g c s here =
    let at_first = (goal.at.returns-clause-takes g c).After-handle_turns in
    let at_call = (goal.at.returns-clause-takes g c).After-handle_turns-2 in
    let begins = begun g at_first s here in
    let kept = c.in_ok-handle_turns.ensures.keeps in
    let before =
    rw c.deref.ensures.value at (c.in_ok-handle_turns.ensures.takes s begins here.settled) in
    rw (kept.addresses, kept.kept, c.deref-2.ensures.value) at
    (c.handle_turns-2.ensures.takes s (begun_again g at_call s before)
    (c.in_ok-handle_turns.ensures.settled s begins here.settled))

pub returns-clause-idle : goal.returns-clause-idle
returns-clause-idle g c =
    let count : length c.args.batch.now.items ≡ c.len-so_far.result = search rules in
    omega (
      arith,
      c.handle_turns.ensures.count,
      c.handle_turns-2.ensures.count,
      ap length c.deref.ensures.value,
      ap length c.deref-2.ensures.value,
      count,
      no_fewer (g.P.Port.traffic c.awaits_turns.new.self)
          (g.P.Port.traffic c.take_more.new.port) c.args.batch.now.items
          c.take_more.new.batch.items c.take_more.result c.take_more.ensures.joined,
    )

pub returns-clause-settled : goal.returns-clause-settled
returns-clause-settled g c =
    let at_first = (goal.at.returns-clause-settled g c).After-handle_turns in
    let at_call = (goal.at.returns-clause-settled g c).After-handle_turns-2 in
    on_ok_weaker c.handle_turns-2.result
    (λ so_far s here.
    let begins = begun g at_first s here in
    let before =
    rw c.deref.ensures.value at (c.in_ok-handle_turns.ensures.takes s begins here.settled) in
    so_far s (begun_again g at_call s before)
    (c.in_ok-handle_turns.ensures.settled s begins here.settled)) c.handle_turns-2.ensures.settled
