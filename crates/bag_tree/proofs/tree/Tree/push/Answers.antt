use Rattle.std.proofs.Common.{◌∙◌, ◌++◌, ◌∷◌, [], sym, ap}
use Rattle.bag_tree.specs.Path.{is_below}
use Rattle.bag_tree.specs.inner.Places.{is_at}
use Rattle.bag_tree.proofs.PlaceLaws.{none_at, file_added, path_added, still_none_deep}
use Rattle.bag_tree.proofs.tree.Tree.push.Goals as goal

pub lead_path-requires-clause-new : goal.lead_path-requires-clause-new
lead_path-requires-clause-new c =
    none_at c.args.self.now.files c.as_slice-files.result.now c.args.path.now
    (c.as_slice-files.ensures.value ∙ ap (λ tree. tree.files) c.self.view_is) c.requires.placed

pub invariant_of-self-2 : goal.invariant_of-self-2
invariant_of-self-2 c =
    let files = c.as_slice-files.result.now in
    let file = c.in_ok-file.file in
    let path = c.args.path.now in
    let all = c.in_ok-push.ensures.items
    ∙ ap (λ l. l ++ file ∷ []) (sym c.as_slice-files.ensures.value) in
    let named = ap (λ f. f.path) c.in_ok-file.ensures in (
      file_added is_at files c.push.new.self.items file c.lead_path.new.by_path path all named
          c.lead_path.ensures.each
          (path_added files c.lead_path.new.by_path path c.in_ok-lead_path.ensures.added),
      file_added is_below files c.push.new.self.items file c.lead_folders.new.by_folder path all
          named c.lead_folders.ensures.each c.in_ok-lead_folders.ensures.added,
      still_none_deep files c.push.new.self.items file path all named
          (rw c.as_slice-files.ensures.value c.self.invariant.2) c.requires.deepest,
    )
