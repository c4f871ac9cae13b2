use Rattle.std.proofs.Common.{refl}
use Rattle.ledger.proofs.Headers.{too_few, no_site, of_nobody, old_begins}
use Rattle.ledger.proofs.named.owner_of.Goals as goal

pub returns-then-bytes-lt-FRONT : goal.returns-then-bytes-lt-FRONT
returns-then-bytes-lt-FRONT c = too_few c.args.bytes.now c.if-bytes-lt-FRONT.true

pub returns-in_default : goal.returns-in_default
returns-in_default c = no_site c.args.bytes.now c.in_default.ensures

pub returns-then-has_old_magic : goal.returns-then-has_old_magic
returns-then-has_old_magic c = record {
  headed = old_begins c.in-Some.owner c.args.bytes.now c.if-bytes-lt-FRONT.false
      (c.if-has_old_magic.ensures.0 refl) c.in-Some.ensures.0;
  federation = c.in-Some.ensures.3;
  single = c.in-Some.ensures.2;
  site = c.in-Some.ensures.1;
}

pub returns-in-None : goal.returns-in-None
returns-in-None c =
    let owner = c.in-Some.owner in
    let bytes = c.args.bytes.now in
    of_nobody owner bytes c.in-Some.ensures.0
    (λ is. let t = c.has_old_magic.ensures.1 is in absurd (cc (t, c.if-has_old_magic.false)))
    (rw c.in-None.is at c.in_ok-header_members.ensures)
