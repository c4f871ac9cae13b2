-- What well-formed records and messages make a well-formed effect.
use Rattle.std.proofs.Common.{ℕ, ◌≡◌, subst, List, [], ◌∷◌, Option, None, Some}
use Rattle.std.specs.Option.{IfSome}
use Rattle.fed_types.specs.Lists.{Has}
use Rattle.fed_types.specs.Sites.{IsSiteNumber}
use Rattle.fed_types.specs.Slots.{SlotName}
use Rattle.fed_types.specs.Values.{IsSlot}
use Rattle.fed_types.specs.Laws.Lists.{has_one, has_none, has_map}
use Rattle.records.specs.declared.entry.Entry.{Entry}
use Rattle.records.specs.Records.{IsEntry, IsRecord}
use Rattle.dgram.specs.declared.body.Body.{Body}
use Rattle.dgram.specs.Messages.{IsBody}
use Rattle.proposer.specs.VolatileStates.{VolatileState}
use Rattle.site.specs.Effects.{Effect, Send, to_each, record_of, commits_and_sends}
use Rattle.world_law.specs.WellFormed.{AreMessages, IsSend}

-- what an effect commits, sends and has heard is well-formed
pub record IsWellFormedEffect (e : Effect) : Type 0 where
  pub commits : IfSome e.commits IsRecord
  pub sends : (d : Send) → Has d e.sends → IsSend d
  pub heard : AreMessages e.volatile.heard

-- ---- what is committed and sent

record_is : (slot : SlotName) → IsSlot slot → (o : Option Entry) → IfSome o IsEntry
    → IfSome (record_of slot o) IsRecord
record_is slot is_slot None h = tt
record_is slot is_slot (Some e) h = (is_slot, h)

-- numbers of sites
abbrev pub AreSites : List ℕ → Type 0
AreSites sites = (k : ℕ) → Has k sites → IsSiteNumber k

pub one_site : (site : ℕ) → IsSiteNumber site → AreSites (site ∷ [])
one_site site is_site k h = subst IsSiteNumber (has_one h) is_site

each_is : (slot : SlotName) → IsSlot slot → (body : Body) → IsBody body → (sites : List ℕ)
    → AreSites sites → (d : Send) → Has d (to_each slot body sites) → IsSend d
unfolding to_each
each_is slot is_slot body is_body sites are_sites d h =
    let f = has_map
    (λ (k : ℕ). record { to = k; message = record { slot = slot; body = body } }) sites h in
    subst IsSend f.2 (are_sites f.0 f.1, (is_slot, is_body))

pub sends_are : (slot : SlotName) → IsSlot slot → (o : Option Entry) → IfSome o IsEntry
    → (body : Body) → IsBody body → (sites : List ℕ) → AreSites sites
    → (volatile : VolatileState) → AreMessages volatile.heard
    → IsWellFormedEffect (commits_and_sends slot o body sites volatile)
sends_are slot is_slot o is_entry body is_body sites are_sites volatile heard = record {
  commits = record_is slot is_slot o is_entry;
  sends = each_is slot is_slot body is_body sites are_sites;
  heard = heard;
}

-- what sends nothing
pub says_is : (e : Effect) → e.sends ≡ [] → IfSome e.commits IsRecord → AreMessages e.volatile.heard
    → IsWellFormedEffect e
says_is e none commits heard = record {
  commits = commits;
  sends = λ d h. absurd (has_none (rw none at h));
  heard = heard;
}
