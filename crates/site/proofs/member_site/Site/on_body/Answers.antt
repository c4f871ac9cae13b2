use Rattle.std.proofs.Common.{inl, inr, refl}
use Rattle.site.proofs.HeardMessages.{drops_request}
use Rattle.site.proofs.member_site.Site.on_body.Goals as goal

pub returns-in-Deposit : goal.returns-in-Deposit
returns-in-Deposit g c =
    drops_request g.C.Cell.device c.args.self.now c.args.self.now c.args.message.slot
    c.args.message.body
    (elim c.in-Deposit.is [
      | inl w ↦ rw w.1 tt
      | inr more ↦ elim more [
        | inl w ↦ rw w tt
        | inr rest ↦ elim rest [
          | inl w ↦ rw w tt
          | inr replies ↦ elim replies [
            | inl w ↦ rw w.2 tt
            | inr w ↦ rw w.2 tt
          ]
        ]
      ]
    ])
    c.dropped.result c.dropped.ensures refl
