use Rattle.std.proofs.Common.{refl, ◌∙◌}
use Rattle.std.proofs.lemmas.Result.{IfOk-weaker}
use Rattle.sim_stations.specs.Calls.{input_of}
use Rattle.sim_stations.proofs.Came.{with_fuse}
use Rattle.sim_stations.proofs.Returns.{goes_on}
use Rattle.sim_stations.proofs.fates.goes_on.Goals as goal

pub returns : goal.returns
returns c = IfOk-weaker c.told_of.result _ _
    (λ told tells. goes_on c.args.site.now c.make.new.site
    (λ owner. input_of owner.members.federation c.args.call.now) told c.make.result (record {
      front = with_fuse refl (refl, refl, refl) refl;
      back = with_fuse refl (refl, refl, refl) refl;
      answer = c.make.ensures.answer;
      needs = c.make.ensures.needs_open;
      untouched = c.make.ensures.untouched;
      tells = rw (c.number-number.ensures.value ∙ c.number.ensures)
          at (tells c.args.site.now.book.owner.members.federation);
    }))
    c.told_of.ensures
