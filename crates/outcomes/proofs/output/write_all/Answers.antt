use Rattle.std.proofs.Common.{◌-◌, length, take, drop, subst, sym, arith}
use Rattle.std.proofs.lemmas.List.{length-take, length-drop}
use Rattle.std.specs.Io.KnownBytes.{Appends}
use Rattle.outcomes.proofs.KnownBytes.{Appends-more, Appends-kept}
use Rattle.outcomes.proofs.output.write_all.Goals as goal
use Rattle.outcomes.proofs.output.write_all.Goals.{in-Ok-write, in-Err-write+else-ne}

pub writes-preserved : goal.writes-preserved
writes-preserved g c =
    let text = c.args.text.now in
    let contents = g.W.Write.contents in
    elim c.match-write.branch [
      | in-Ok-write w ↦ record {
        within =
            omega (
              arith,
              length-take (length text - c.writes.written) (drop c.writes.written text),
              length-drop c.writes.written text,
              w.in-Ok-write.ensures.bound,
            );
        front =
            subst (λ n. Appends (contents c.args.output.now) (contents c.write.new.self)
            (take n text)) (sym w.written-is)
            (Appends-more (contents c.args.output.now) (contents c.writes.output)
            (contents c.write.new.self) text c.writes.written w.in-Ok-write.count
            c.writes.invariant.front w.in-Ok-write.ensures.bytes);
      }
      | in-Err-write+else-ne w ↦ record {
        within = omega arith;
        front =
            subst (λ n. Appends (contents c.args.output.now) (contents c.write.new.self)
            (take n text)) (sym w.written-is)
            (Appends-kept (contents c.args.output.now) (contents c.writes.output)
            (contents c.write.new.self) (take c.writes.written text) c.writes.invariant.front
            w.in-Err-write.ensures.bytes);
      }
    ]
