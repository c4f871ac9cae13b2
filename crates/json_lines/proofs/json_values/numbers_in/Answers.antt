use Rattle.json_lines.proofs.Values.{all_numbers}
use Rattle.json_lines.proofs.json_values.numbers_in.Goals as goal

pub returns : goal.returns
returns c =
    all_numbers c.args.words.now c.loop-word.word-index _ c.loop-word-test.false
    c.loop-word.invariant
