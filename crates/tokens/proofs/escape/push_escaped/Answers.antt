use Rattle.tokens.proofs.EscapeLemmas.{escaped_text-is}
use Rattle.tokens.proofs.Utf8Lemmas.{IsByte-from_utf8}
use Rattle.tokens.proofs.escape.push_escaped.Goals as goal

pub returns-clause-ok : goal.returns-clause-ok
returns-clause-ok c =
    rw (
      escaped_text-is c.args.name.now (IsByte-from_utf8 c.args.name.now c.utf8.name),
      ← c.utf8_percent_encode.ensures.text,
    )
    c.append_to.ensures.ok
