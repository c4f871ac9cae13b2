use Rattle.bag_text.proofs.ManifestLaws.{is_found, is_only, is_malformed}
use Rattle.bag_text.proofs.parse_manifest.manifest.Goals as goal

pub returns-clause-found : goal.returns-clause-found
returns-clause-found c =
    is_found (λ entries. entries.items) c.entries_in.result c.args.algorithm c.args.text.now
    c.entries_in.ensures

pub returns-clause-only : goal.returns-clause-only
returns-clause-only c =
    λ files m. is_only (λ entries. entries.items) c.entries_in.result c.args.algorithm
    c.args.text.now files m c.entries_in.ensures

pub returns-clause-malformed : goal.returns-clause-malformed
returns-clause-malformed c =
    λ line e. is_malformed (λ entries. entries.items) c.entries_in.result c.args.algorithm
    c.args.text.now line e c.entries_in.ensures
