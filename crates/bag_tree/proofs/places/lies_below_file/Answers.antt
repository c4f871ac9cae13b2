use Rattle.std.proofs.Common.{◌≡◌, ◌∙◌, length, take, ap, sym, false, arith}
use Rattle.std.specs.List.{list_any}
use Rattle.bag_tree.specs.Tree.{File}
use Rattle.bag_tree.specs.inner.Places.{is_at}
use Rattle.bag_tree.proofs.Below.{below_at, below_parts, next_folder}
use Rattle.bag_tree.proofs.PlaceLaws.{from_start, none_below, none_deeper, some_below}
use Rattle.bag_tree.proofs.places.lies_below_file.Goals as goal
use Rattle.bag_tree.proofs.places.lies_below_file.Goals.{then-bytes-end-eq47+else-part_count-gt-DEEPEST_PATH+else-has_file}
use Rattle.bag_tree.proofs.places.lies_below_file.Goals.{else-bytes-end-eq47}

pub returns-then-part_count-gt-DEEPEST_PATH : goal.returns-then-part_count-gt-DEEPEST_PATH
returns-then-part_count-gt-DEEPEST_PATH c =
    let path = c.args.path.now in
    let end = c.loop-end.end in
    let count =
    rw (c.as_bytes.ensures.value, c.range-folder.ensures.value, from_start path end) at
    c.part_count.ensures in
    sym
    (none_deeper c.args.files.now path end
    (omega (arith, count, c.if-part_count-gt-DEEPEST_PATH.true)) c.requires.deepest
    c.loop-end.invariant)

pub returns-then-has_file : goal.returns-then-has_file
returns-then-has_file c =
    let path = c.args.path.now in
    let end = c.loop-end.end in
    let is = c.as_bytes-bytes.ensures.value in
    let size = ap length is in
    sym
    (some_below c.args.files.now (take end path) path
    (below_at path end (omega (arith, c.loop-end-test.true, size))
    (rw is at c.if-bytes-end-eq47.true))
    (rw (c.range-folder.ensures.value, from_start path end) at
    (sym c.has_file.ensures ∙ c.if-has_file.true)))

pub loop-end-preserved : goal.loop-end-preserved
loop-end-preserved c =
    next_folder
    {P = λ folder. list_any (λ (file : File). is_at folder file.path) c.args.files.now ≡ false}
    c.args.path.now c.loop-end.end c.loop-end.invariant
    (λ here. elim c.if-bytes-end-eq47.branch [
      | then-bytes-end-eq47+else-part_count-gt-DEEPEST_PATH+else-has_file w ↦
          rw (w.range-folder.ensures.value, from_start c.args.path.now c.loop-end.end) at
          (sym w.has_file.ensures ∙ w.if-has_file.false)
      | else-bytes-end-eq47 w ↦
          absurd (w.if-bytes-end-eq47.false (rw c.as_bytes-bytes.ensures.value here))
    ])

pub returns : goal.returns
returns c =
    sym
    (none_below c.args.files.now c.args.path.now
    (λ folder below.
    let parts = below_parts folder c.args.path.now below in
    let size = ap length c.as_bytes-bytes.ensures.value in
    c.loop-end.invariant folder (omega (arith, parts.0, c.loop-end-test.false, size)) below))
