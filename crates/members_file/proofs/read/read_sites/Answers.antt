use Rattle.members_file.proofs.ReadLemmas.{BeginsSites-more, HasSites-from, HasSites-end}
use Rattle.members_file.proofs.read.read_sites.Goals as goal
use Rattle.members_file.proofs.read.read_sites.Goals.{
  in-Some+in_ok-site+in_default-2,
  in_default,
}

pub loop-line-preserved : goal.loop-line-preserved
loop-line-preserved c =
    rw c.in_ok-push.ensures.items
    (BeginsSites-more c.loop-line.invariant c.in-Some.ensures.value
    (rw (← c.deref.ensures.value, ← c.in_ok-site.ensures) c.in-Some-2.is))

pub returns : goal.returns
returns c =
    elim c.match-first_line.branch [
      | in-Some+in_ok-site+in_default-2 w ↦
          HasSites-from c.loop-line.invariant w.in-Some.ensures.value
          (rw (← w.deref.ensures.value, ← w.in_ok-site.ensures) w.in_default-2.is)
      | in_default w ↦ HasSites-end c.loop-line.invariant w.in_default.ensures.value
    ]
