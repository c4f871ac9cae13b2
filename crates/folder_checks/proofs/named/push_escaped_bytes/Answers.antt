use Rattle.std.proofs.Common.{sym, ◌∙◌, arith}
use Rattle.std.proofs.lemmas.List.Elements.{All-from_get_or}
use Rattle.percent_encoding.proofs.PercentLemmas.{IsByte}
use Rattle.tokens.proofs.EscapeLemmas.{escaped_text-is}
use Rattle.folder_checks.proofs.named.push_escaped_bytes.Goals as goal

pub returns : goal.returns
returns c =
    let bytes = All-from_get_or IsByte c.args.name.now 0
    (λ i within. omega (arith, c.type_inv.name i)) in
    rw (escaped_text-is c.args.name.now bytes ∙ sym c.percent_encode.ensures.text)
    c.append_to.ensures.ok
