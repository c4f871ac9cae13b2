use Rattle.std.proofs.Common.{[]}
use Rattle.site.specs.Contents.{deposits_of}
use Rattle.site.proofs.tables.Tables.new.Goals as goal

pub returns-clause-of : goal.returns-clause-of
unfolding deposits_of
returns-clause-of c = record {
  deposits = c.new.ensures;
  acceptor = c.new-2.ensures;
  learner = ([], c.new-4.ensures.stands);
  proposer_members = c.new-3.ensures.whose.0;
  proposer_site = c.new-3.ensures.whose.1;
  learner_members = c.new-4.ensures.members;
}

pub returns-clause-stands : goal.returns-clause-stands
returns-clause-stands c = record {
  proposer = c.new-3.ensures.stands;
  learner = c.new-4.ensures.stands;
}
