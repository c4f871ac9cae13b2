use Rattle.std.proofs.Common.{◌∙◌}
use Rattle.std.proofs.lemmas.Result.{IfOk-weaker}
use Rattle.sim_stations.specs.Calls.{input_of}
use Rattle.sim_stations.proofs.Came.{with_fuse}
use Rattle.sim_stations.proofs.Returns.{fails_in}
use Rattle.sim_stations.proofs.fates.fails_in.Goals as goal

pub returns : goal.returns
returns c =
    let set = c.set_fuse.ensures in
    let taken = c.set_fuse-2.ensures in
    IfOk-weaker c.told_of.result _ _
    (λ told tells. fails_in c.args.site.now c.set_fuse.new.self c.make-answer.new.site
    c.set_fuse-2.new.self c.args.device c.args.how c.args.kept
    (λ owner. input_of owner.members.federation c.args.call.now) told c.make-answer.result
    (rw (set.fuse, c.fuse_in.ensures)) taken.fuse (record {
      front = with_fuse set.medium set.records set.tables;
      back = with_fuse taken.medium taken.records taken.tables;
      answer = c.make-answer.ensures.answer;
      needs = c.make-answer.ensures.needs_open;
      untouched = c.make-answer.ensures.untouched;
      tells = rw (c.number-number.ensures.value ∙ c.number.ensures)
          at (tells c.args.site.now.book.owner.members.federation);
    }))
    c.told_of.ensures
