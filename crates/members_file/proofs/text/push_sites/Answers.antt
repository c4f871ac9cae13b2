use Rattle.std.proofs.Common.{string_bytes}
use Rattle.members_file.proofs.Written.{one_more, all_done}
use Rattle.members_file.proofs.text.push_sites.Goals as goal

pub loop-place-preserved : goal.loop-place-preserved
loop-place-preserved c =
    one_more c.args.weights c.args.sites.now c.loop-place.place (string_bytes c.args.text.now)
    (string_bytes c.loop-place.text) c.loop-place.invariant c.index-sites-place.result
    (string_bytes c.push_site.new.text) c.loop-place-test.true
    (rw (← c.index-sites-place.is) c.in_ok-push_site.ensures)

pub returns : goal.returns
returns c =
    all_done c.args.weights c.args.sites.now c.loop-place.place (string_bytes c.args.text.now)
    (string_bytes c.loop-place.text) c.loop-place.invariant c.loop-place-test.false
