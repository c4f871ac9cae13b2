use Rattle.site.specs.Contents.{deposits_of, slot_at}
use Rattle.site.proofs.Seen.{as_seen}
use Rattle.site.proofs.member_site.Site.deposited.Goals as goal

pub returns : goal.returns
returns g c =
    as_seen (λ records. slot_at (deposits_of records) c.args.place) c.self.view_is
    (c.deposited.ensures _ _ c.self.invariant.of)
