use Rattle.bag_text.proofs.DeclarationLaws.{is_found, is_only, is_malformed}
use Rattle.bag_text.proofs.parse_declaration.declaration.Goals as goal

pub returns-clause-found : goal.returns-clause-found
returns-clause-found c =
    is_found (λ read. (read.version.now, read.encoding.now)) c.declared.result c.args.text.now
    c.declared.ensures.exact

pub returns-clause-only : goal.returns-clause-only
returns-clause-only c =
    λ version encoding d. is_only (λ read. (read.version.now, read.encoding.now)) c.declared.result
    c.args.text.now version encoding d c.declared.ensures.exact c.declared.ensures.memory

pub returns-clause-malformed : goal.returns-clause-malformed
returns-clause-malformed c =
    is_malformed (λ read. (read.version.now, read.encoding.now)) c.declared.result c.args.text.now
    c.declared.ensures.exact c.declared.ensures.memory
