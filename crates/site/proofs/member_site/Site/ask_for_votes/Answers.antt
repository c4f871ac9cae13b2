use Rattle.std.proofs.Common.{None, refl}
use Rattle.dgram.specs.declared.body.Body.TheVariants as bodies
use Rattle.site.specs.inner.Concluded.{all_datagrams}
use Rattle.site.proofs.HeardMessages.{stays_in_order, says_so}
use Rattle.site.proofs.member_site.Site.ask_for_votes.Goals as goal

pub invariant_of-self : goal.invariant_of-self
invariant_of-self g c =
    stays_in_order c.self.inside.book c.self.inside.tables c.issued.new.self c.issued.ensures.of
    (λ volatile under stands. (_, (_, c.issued.ensures.heard _ volatile under stands)))
    c.self.invariant

pub returns : goal.returns
returns g c =
    rw (← c.self.view_is) (record {
      book = refl;
      heard = c.issued.ensures.heard c.self.inside.book.records;
      same = tt;
      faults = tt;
      says = λ a e. says_so (record { line = None; sends = c.in_ok-sends.sends }) a None
          (all_datagrams (record { book = c.self.inside.book; tables = c.self.inside.tables })
          c.args.slot (bodies.Accept c.args.vote)) e
          (refl, rw (← c.self.view_is) at c.in_ok-sends.ensures);
    })
