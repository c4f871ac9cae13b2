use Rattle.std.proofs.Common.{refl, ◌∙◌}
use Rattle.tokens.proofs.TextLemmas.{text_of-read}
use Rattle.tokens.proofs.text.parse_text.Goals as goal

pub returns : goal.returns
returns c =
    rw c.ok.ensures.value
    (text_of-read c.args.word.now c.append_to.new.out c.from_utf8.result
    (c.in_ok-append_to.ensures.ok
    ∙ rw (c.new-bytes.ensures.items, c.percent_decode.ensures.bytes) refl) c.from_utf8.ensures.ok
    c.from_utf8.ensures.succeeds)
