use Rattle.json_lines.proofs.LineText.{part_written}
use Rattle.json_lines.proofs.printed_bytes.no_memory.Goals as goal

pub returns : goal.returns
returns g c =
    let part =
    part_written (g.W.Write.contents c.args.output.now) (g.W.Write.contents c.write_all.new.output)
    c.as_bytes.result.now c.write_all.result c.write_all.ensures.ok c.write_all.ensures.err in
    rw c.as_bytes.ensures.value at part
