-- What comes of what was asked; and that something can come of every request.
use Rattle.std.proofs.Common.{◌≡◌, ℕ, List, [], ◌∷◌, Option, Some, None, Result, Ok, Err, refl, inr}
use Rattle.std.proofs.Common.{IfSome}
use Rattle.fed_types.specs.Slots.{SlotName}
use Rattle.cell_device.specs.Devices.{Device}
use Rattle.bag_tree.specs.declared.fault.TreeFault.{TreeFault}
use Rattle.bag_tree.specs.declared.fault.TreeFault.TheVariants as trees
use Rattle.bag_tree.specs.Facts.{TreeFacts}
use Rattle.bag_tree.specs.Fault.{IsOrMemory}
use Rattle.dgram.specs.declared.body.Body.{Body}
use Rattle.dgram.specs.declared.body.Body.TheVariants as bodies
use Rattle.dgram.specs.declared.message.Message.{Message}
use Rattle.site.specs.declared.fault.SiteFault.TheVariants as faults
use Rattle.site.specs.Calls as calls
use Rattle.site.specs.Sites.{effect}
use Rattle.lines.specs.declared.notice.Notice.TheVariants.{Refused}
use Rattle.udp_site.specs.Requests.{Request, request_by, request_in}
use Rattle.udp_site.specs.Turns.{Serving, Done, IsServing, Asks, comes_of, number, asked, answer_to}
use Rattle.udp_site.specs.Turns.{takes_tree}
use Rattle.udp_site.proofs.Called.{could_be_called}
use Rattle.site.proofs.Refused.{out_of_memory}
use Rattle.udp_site.proofs.Proposals.{could_recover}

-- the members can be asked, one after another: memory may run out for each
pub could_ask : {C : Type 0} (addresses : List ℕ) (s : Serving C) (slot : SlotName) (others : List
    ℕ)
    → (done : Done) × Asks addresses s slot others done
could_ask addresses s slot [] = (record { posts = []; notices = [] }, refl)
could_ask addresses s slot (member ∷ others) =
    let rest = could_ask addresses s slot others in (
      record { posts = rest.0.posts; notices = Refused (number s) faults.Memory ∷ rest.0.notices },
      (rest.0, rest.1, inr refl),
    )

module _ {C : Type 0} (device : C → Device) (addresses : List ℕ)
    (gives : Option (List ℕ → Result TreeFacts TreeFault)) (old : Serving C) where
  known_or_not : (known : Option (List ℕ → Result TreeFacts TreeFault)) (path : List ℕ)
      → IfSome known (λ answer. IsOrMemory {T = TreeFacts} (Err trees.Memory) (answer path))
  known_or_not None path = tt
  known_or_not (Some answer) path = tt

  -- something comes of what came in, and it leaves the site as it was
  pub could_come : IsServing old → (port : ℕ) (message : Option Message)
      → (done : Done) × comes_of device addresses gives old (request_in port message) done old
  could_come serves port None = (_, (refl, refl))
  could_come serves port (Some m) = by_body m.body
    where
      by : Request → Type 0
      by request = (done : Done) × comes_of device addresses gives old request done old

      by_body : (b : Body) → by (request_by port m b)
      by_body (bodies.Deposit path) = (_, (Err trees.Memory, known_or_not gives path, (refl, refl)))
      by_body bodies.Query =
          let asks = could_ask addresses old m.slot (asked old (answer_to old m.slot)) in
          (_, (asks.0, asks.1, refl, refl))
      by_body bodies.Recover =
          let call = could_recover device old m.slot serves in (_, (_, call.1, call.2, refl))
      by_body (bodies.DepositReply from answer) = (_, (refl, refl))
      by_body (bodies.QueryReply from answer) = (_, (refl, refl))
      by_body b =
          let call = could_be_called device old (calls.Arrives (Some m)) (λ fault. Unit {0})
          (λ opened. (
            faults.Memory,
            out_of_memory device old.site old.volatile
                (effect old.site old.volatile (calls.Arrives (Some m))) (serves opened),
            tt,
          )) in
          (_, (_, call.1, refl))

  -- no datagram is an idle turn
  abbrev pub SameRound : Serving C → Type 0
  SameRound next = (next.idle ≡ old.idle) × (next.tried ≡ old.tried)

  pub same_round : (port : ℕ) (message : Option Message) (done : Done) (next : Serving C)
      → comes_of device addresses gives old (request_in port message) done next → SameRound next
  same_round port None done next (is, same) = (rw same, rw same)
  same_round port (Some m) done next comes = by_body m.body comes
    where
      reads : (read : Result TreeFacts TreeFault)
          → takes_tree device old port m.slot read done next → SameRound next
      reads (Err fault) (is, same) = (rw same, rw same)
      reads (Ok facts) (result, called, is) = (called.idle, called.tried)

      by_body : (b : Body) → comes_of device addresses gives old (request_by port m b) done next
          → SameRound next
      by_body (bodies.Deposit path) (read, known, takes) = reads read takes
      by_body bodies.Query (asks, were, is, same) = (rw same, rw same)
      by_body bodies.Recover (result, called, refuses, is) = (called.idle, called.tried)
      by_body (bodies.DepositReply from answer) (is, same) = (rw same, rw same)
      by_body (bodies.QueryReply from answer) (is, same) = (rw same, rw same)
      by_body b comes = (comes.1.idle, comes.1.tried)
