use Rattle.std.proofs.Common.{rules, take}
use Rattle.bag_folders.specs.Pieces.{IsReadFault}
use Rattle.bag_tree.specs.declared.fault.TreeFault.TheVariants.{TextTooLong}
use Rattle.bag_folders.proofs.Taken.{taken_end, taken_facts, taken_fits, hashed_more, taken_kept}
use Rattle.bag_folders.proofs.Taken.{refused_too_long, refused_as, passed_on, passed_on_as}
use Rattle.bag_folders.proofs.read_file.hash_reader.Goals as goal
use Rattle.bag_folders.proofs.read_file.hash_reader.Goals.{in-Ok+in_ok-feed-in-Ok, in-Err+else-ne}

pub returns-in-Ok-eq0-clause-facts : goal.returns-in-Ok-eq0-clause-facts
returns-in-Ok-eq0-clause-facts g c =
    taken_facts c.reads.hashing c.args.wanted c.args.path.now _ _ c.finish.result
    c.reads.invariant.0 c.reads.invariant.1
    c.finish.ensures
    (taken_end c.reads.hashing.file c.args.path.now _ _ _ c.in-Ok-eq0.field-0 c.read.new.buf
    c.reads.invariant.0 c.in-Ok-eq0.field-0-test (search rules) c.in-Ok-eq0.ensures.bytes)

pub returns-in-Ok-eq0-clause-fits : goal.returns-in-Ok-eq0-clause-fits
returns-in-Ok-eq0-clause-fits g c =
    taken_fits c.reads.hashing.file c.args.path.now _ _ c.reads.invariant.0
    (taken_end c.reads.hashing.file c.args.path.now _ _ _ c.in-Ok-eq0.field-0 c.read.new.buf
    c.reads.invariant.0 c.in-Ok-eq0.field-0-test (search rules) c.in-Ok-eq0.ensures.bytes)

pub returns-in_err-feed-in-Ok-clause-too_long : goal.returns-in_err-feed-in-Ok-clause-too_long
returns-in_err-feed-in-Ok-clause-too_long g c = λ is.
    refused_too_long c.reads.hashing.file c.args.path.now
    (take c.in-Ok.count c.read.new.buf) _ _ _ c.in_err-feed-in-Ok.field-0.0 c.reads.invariant.0
    c.in-Ok.ensures.bytes.0 c.in_err-feed-in-Ok.ensures.refused
    (passed_on_as c.from_residual-in_err-feed-in-Ok.result c.in_err-feed-in-Ok.field-0.0 TextTooLong
    c.from_residual-in_err-feed-in-Ok.ensures.1 is)

pub returns-in_err-feed-in-Ok-clause-faults : goal.returns-in_err-feed-in-Ok-clause-faults
returns-in_err-feed-in-Ok-clause-faults g c =
    passed_on c.from_residual-in_err-feed-in-Ok.result c.in_err-feed-in-Ok.field-0.0 IsReadFault
    c.from_residual-in_err-feed-in-Ok.ensures.1
    (refused_as c.reads.hashing.file.path _ c.in_err-feed-in-Ok.field-0.0
    c.in_err-feed-in-Ok.ensures.refused)

pub reads-preserved : goal.reads-preserved
reads-preserved g c = elim c.match-read.branch [
  | in-Ok+in_ok-feed-in-Ok w ↦ rw w.hashing-is
      (hashed_more c.reads.hashing _ c.args.wanted c.args.path.now _ _ _
      (take w.in-Ok.count c.read.new.buf) c.reads.invariant w.in-Ok.ensures.bytes.0
      w.in_ok-feed-in-Ok.ensures.ok w.in_ok-feed-in-Ok.ensures.refused)
  | in-Err+else-ne w ↦ rw w.hashing-is (
    taken_kept c.reads.hashing.file c.args.path.now _ _ _ c.reads.invariant.0
        w.in-Err.ensures.bytes,
    c.reads.invariant.1,
  )
]
