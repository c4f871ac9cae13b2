use Rattle.std.proofs.Common.{length}
use Rattle.std.specs.BTreeMap.{get_by_text}
use Rattle.bag_tree.specs.Path.{is_below}
use Rattle.bag_tree.proofs.Below.{next_folder}
use Rattle.bag_tree.proofs.PlaceLaws.{Leads, from_start, keeps}
use Rattle.bag_tree.proofs.places.lead_folders.Goals as goal
use Rattle.bag_tree.proofs.places.lead_folders.Goals.{then-bytes-end-eq47+in_ok-lead_folder}
use Rattle.bag_tree.proofs.places.lead_folders.Goals.{else-bytes-end-eq47}

pub loop-end-preserved : goal.loop-end-preserved
loop-end-preserved c = elim c.if-bytes-end-eq47.branch [
  | then-bytes-end-eq47+in_ok-lead_folder w ↦
      let new = w.lead_folder.new.by_folder in
      let added =
      next_folder {P = Leads is_below c.args.files.now new} c.args.path.now c.loop-end.end
      (λ folder short below.
      keeps (get_by_text new folder) (get_by_text c.loop-end.by_folder folder)
      (length c.args.files.now) (w.lead_folder.ensures.others folder)
      (c.loop-end.invariant.added folder short below))
      (λ here. rw (w.range.ensures.value, from_start c.args.path.now c.loop-end.end) at
      w.in_ok-lead_folder.ensures.added) in
      record {
        each = rw w.by_folder-is w.lead_folder.ensures.each;
        added = rw w.by_folder-is added;
      }
  | else-bytes-end-eq47 w ↦
      let added =
      next_folder {P = Leads is_below c.args.files.now c.loop-end.by_folder} c.args.path.now
      c.loop-end.end c.loop-end.invariant.added
      (λ here. absurd (w.if-bytes-end-eq47.false (rw c.as_bytes-bytes.ensures.value here))) in
      record {
        each = rw w.by_folder-is c.loop-end.invariant.each;
        added = rw w.by_folder-is added;
      }
]
