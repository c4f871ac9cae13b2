use Rattle.std.proofs.Common.{refl}
use Rattle.proposer.proofs.Tables.{rooms_put, rooms_same, row_stays, row_changed}
use Rattle.proposer.specs.inner.Rows.{IssuesWaiting}
use Rattle.proposer.proofs.proposer.issue_in.Goals as goal

pub returns-in-Some : goal.returns-in-Some
returns-in-Some c =
    let put = (c.get_mut.follows.holds c.issued.new.self).0 in
    record {
      issued = row_changed IssuesWaiting _ _ _ _ _ c.in-Some.ensures.value put c.issued.ensures;
      rooms = rooms_put _ _ _ _ _ c.in-Some.ensures.value put;
    }

pub returns-in-None : goal.returns-in-None
returns-in-None c = record {
  issued = row_stays IssuesWaiting _ _ _ c.in-None.ensures.value c.get_mut.follows.holds-at-none
      (record { used = refl; floor = refl; begun = refl; current = refl });
  rooms = rooms_same _ _ c.get_mut.follows.holds-at-none;
}
