-- A query of a client: how it comes out.
use Rattle.std.proofs.Common.{◌≡◌, ℕ, Bool, true, false, if◌then◌else◌, List, [], ◌∷◌, ◌++◌, Option}
use Rattle.std.proofs.Common.{Result, Ok, Err, refl, append_assoc, IsOk}
use Rattle.fed_types.specs.declared.bag_id.BagId.{BagId}
use Rattle.fed_types.specs.Sites.{Membership}
use Rattle.fed_types.specs.Slots.{SlotName}
use Rattle.site.specs.declared.answer.Reply.{Reply}
use Rattle.site.specs.declared.fault.SiteFault.{SiteFault}
use Rattle.site.specs.declared.fault.SiteFault.TheVariants as sites
use Rattle.site.specs.Calls.{reply_of}
use Rattle.site.specs.Sites.{OpenSite}
use Rattle.lines.specs.declared.line.Line.{Line}
use Rattle.std.specs.declared.alloc.AllocError.{AllocError}
use Rattle.udp_site.specs.Traffic.{Post, Move, Grows, all_handed}
use Rattle.lines.specs.Notices.{reply_notice}
use Rattle.udp_site.specs.Turns.{Serving, Done, IsServing, asked, answer_to, members, number}
use Rattle.udp_site.specs.Turns.{queries, query_replies}
use Rattle.udp_site.specs.inner.Outcomes.{ComesTo, AsksFor, Notes}
use Rattle.udp_site.proofs.Handed.{Part, grows_by_posts, part_of_posts, then_part_of_posts}
use Rattle.udp_site.proofs.Requested.{could_ask}
use Rattle.udp_site.proofs.Same.{same_federation, same_number}

-- what a query answers, by whether the site needs opening
pub is_answer : (needs_opening : Bool) (known wanted : Result (Reply BagId) SiteFault)
    → (needs_opening ≡ false → known ≡ wanted)
    → (needs_opening ≡ true → known ≡ Err sites.NeedsOpen)
    → known ≡ (if needs_opening then Err sites.NeedsOpen else wanted)
is_answer true known wanted opened shut = shut refl
is_answer false known wanted opened shut = opened refl

-- a site that answers needs no opening
pub is_open : (needs_opening : Bool) (known : Result (Reply BagId) SiteFault)
    → (needs_opening ≡ true → known ≡ Err sites.NeedsOpen) → IsOk known → needs_opening ≡ false
is_open true known shut ok = absurd (cc (rw (shut refl) at ok))
is_open false known shut ok = refl

pub known_is : {C : Type 0} (old : Serving C) {start : OpenSite C} → old.site ≡ start
    → (slot : SlotName) → {known : Result (Reply BagId) SiteFault}
    → (start.book.needs_opening ≡ false → known ≡ Ok (reply_of slot start.book.records))
    → (start.book.needs_opening ≡ true → known ≡ Err sites.NeedsOpen)
    → known ≡ answer_to old slot
known_is old there slot opened shut = rw there (is_answer _ _ _ opened shut)

-- the reply that the client gets
abbrev pub client_reply : {C : Type 0} → Serving C → (port : ℕ) → SlotName → List Post
client_reply s port slot =
    query_replies (members s).federation (number s) port slot (answer_to s slot)

-- it is the reply that the code hands out
pub query_replied : {C : Type 0} (old : Serving C) {start : OpenSite C} → old.site ≡ start
    → {m : Membership} {f n : ℕ} → f ≡ m.federation → m ≡ start.book.owner.members
    → n ≡ start.book.owner.site → (port : ℕ) (slot : SlotName)
    → {known : Result (Reply BagId) SiteFault} → known ≡ answer_to old slot
    → query_replies f n port slot known ≡ client_reply old port slot
query_replied old there named whose numbered port slot is =
    rw (same_federation old there named whose, same_number old there refl numbered, is)

module _ {C : Type 0} (addresses : List ℕ) (old : Serving C) (port : ℕ) (slot : SlotName)
    (site : OpenSite C) (there : old.site ≡ site) (serves : IsServing old) where
  abbrev done_with : Done → Done
  done_with asks = record {
    posts = client_reply old port slot ++ asks.posts;
    notices = reply_notice (number old) slot (answer_to old slot) ∷ asks.notices;
  }

  -- the reply was handed out, and then the members were asked
  pub answered : (a b c : Option (List Move)) (l m n : List Line)
      → Grows a b (all_handed (client_reply old port slot))
      → Notes l m (reply_notice (number old) slot (answer_to old slot) ∷ [])
      → (r : Result (Unit {0}) AllocError)
      → AsksFor addresses old slot (asked old (answer_to old slot)) b c m n r
      → ComesTo (queries addresses old port slot) a c l n site r
  answered a b c l m n replied said (Ok whole) (asks, were, handed, notes) = (
    done_with asks,
    old,
    (asks, were, refl, refl),
    there,
    serves,
    grows_by_posts _ _ _ _ _ replied handed,
    rw (notes, said, append_assoc),
  )
  answered a b c l m n replied said (Err e) (asks, were, count, handed) =
      let part = then_part_of_posts _ _ _ _ _ replied (count, handed) in
      (done_with asks, old, (asks, were, refl, refl), there, part.0, part.1)

  -- memory ran out before they were asked
  pub unanswered : (a b : Option (List Move)) (l m : List Line) (fault : AllocError)
      → Part a b (all_handed (client_reply old port slot))
      → ComesTo (queries addresses old port slot) a b l m site (Err fault)
  unanswered a b l m fault part =
      let asks = could_ask addresses old slot (asked old (answer_to old slot)) in
      let part = part_of_posts _ _ (client_reply old port slot) asks.0.posts part in
      (done_with asks.0, old, (asks.0, asks.1, refl, refl), there, part.0, part.1)
