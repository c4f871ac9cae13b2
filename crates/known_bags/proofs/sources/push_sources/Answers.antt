use Rattle.known_bags.proofs.Files.{next_path, fails_at_path}
use Rattle.known_bags.proofs.Kept.{kept_more}
use Rattle.known_bags.proofs.sources.push_sources.Goals as goal

pub returns-in_err-push_source : goal.returns-in_err-push_source
returns-in_err-push_source g c = record {
  known = fails_at_path (g.S.SourceFiles.bytes_at c.args.files.now) c.args.paths.now
      c.loop-path.path-index _ c.loop-path-test.true c.args.bags.now.items c.loop-path.bags.items
      c.push_source.new.bags.items c.in_err-push_source.field-0.0 c.from_residual.result
      c.loop-path.invariant.known c.in_err-push_source.ensures.known c.from_residual.ensures.1;
  kept = kept_more c.args.bags.now.items c.loop-path.bags.items c.push_source.new.bags.items
      c.loop-path.invariant.kept c.push_source.ensures.kept;
}

pub loop-path-preserved : goal.loop-path-preserved
loop-path-preserved g c = record {
  known = next_path (g.S.SourceFiles.bytes_at c.args.files.now) c.args.paths.now
      c.loop-path.path-index _ c.loop-path-test.true c.args.bags.now.items c.loop-path.bags.items
      c.push_source.new.bags.items c.loop-path.invariant.known c.in_ok-push_source.ensures.known;
  kept = kept_more c.args.bags.now.items c.loop-path.bags.items c.push_source.new.bags.items
      c.loop-path.invariant.kept c.push_source.ensures.kept;
}
