use Rattle.site.proofs.Inside.{is_inside}
use Rattle.site.proofs.tables.Tables.told.Goals as goal

pub returns : goal.returns
returns c owner records of =
    let learner = (is_inside c.self.view_is owner records of).learner in
    c.told.ensures records learner.0 learner.1
