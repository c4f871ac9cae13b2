use Rattle.bag_folders.proofs.NamedDigests.{bare_more}
use Rattle.bag_folders.proofs.first_look.bare_facts.Goals as goal

pub loop-file-preserved : goal.loop-file-preserved
loop-file-preserved g c =
    rw c.in_ok-push.ensures.items
    (bare_more c.loop-file.files.items _ c.in_ok-bare_fact.field-0 c.loop-file.invariant
    c.in_ok-bare_fact.ensures.digests)
