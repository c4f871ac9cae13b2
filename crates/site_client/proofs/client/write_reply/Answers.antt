use Rattle.std.proofs.Common.{sym, ap, subst, ◌∙◌, Result, Option, Ok}
use Rattle.outcomes.specs.declared.program_output.ProgramOutput.{ProgramOutput}
use Rattle.std.specs.declared.alloc.AllocError.{AllocError}
use Rattle.site_client.specs.Answers.{IsWritten, no_answer}
use Rattle.site_client.specs.inner.Written.{outcome_to}
use Rattle.site_client.proofs.Written.{written}
use Rattle.site_client.proofs.client.write_reply.Goals as goal

pub returns-in-Ok-None : goal.returns-in-Ok-None
returns-in-Ok-None g c =
    let old = g.W.Write.contents c.args.output.now in
    let new = g.W.Write.contents c.write_output-in-Ok-None.new.output in
    subst (λ (answer : Result (Option ProgramOutput) AllocError). IsWritten old new
    c.write_output-in-Ok-None.result (outcome_to answer))
    (sym (c.in-Ok-None.is ∙ ap (λ (o : Option ProgramOutput). Ok o) c.in-Ok-None.field-0-is))
    (written no_answer old new c.write_output-in-Ok-None.result
    c.write_output-in-Ok-None.ensures.ok c.write_output-in-Ok-None.ensures.err)
