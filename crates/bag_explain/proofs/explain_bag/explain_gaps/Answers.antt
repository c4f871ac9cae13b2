use Rattle.std.proofs.Common.{◌∙◌}
use Rattle.bag_explain.proofs.Explained.{gaps_explained}
use Rattle.bag_explain.proofs.explain_bag.explain_gaps.Goals as goal

pub returns : goal.returns
returns c =
    gaps_explained c.args.facts.now _ _ _ _ _ _ (c.in_ok-files.ensures ∙ c.files.ensures)
    c.payload_exists.ensures (c.as_slice.ensures.value ∙ c.in_ok-listings.ensures)
    c.new-text.ensures.bytes c.in_ok-push_tag_files.ensures c.in_ok-push_gaps.ensures
