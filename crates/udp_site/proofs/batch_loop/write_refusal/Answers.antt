use Rattle.std.proofs.Common.{rules, ◌≡◌}
use Rattle.udp_site.proofs.Told.{line_written}
use Rattle.udp_site.proofs.batch_loop.write_refusal.Goals as goal

pub returns : goal.returns
returns g c =
    let number : c.number-2.result ≡ c.args.site.now.book.owner.site = search rules in
    line_written _ _ c.args.site.now c.args.fault _ _ c.clear.ensures.items
    (rw number at c.in_ok-push_refused.ensures) _
    (rw c.deref.ensures.value at c.write_lines.ensures.whole)
    (rw c.deref.ensures.value at c.write_lines.ensures.part)
