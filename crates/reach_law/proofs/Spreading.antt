-- A site that knows a bag is asked by the others that run.
use Rattle.std.proofs.Common.{ℕ, ◌≡◌, ◌≤◌, ◌+◌, refl, sym, ap, ◌∙◌, List, [], ◌∷◌, length, Option}
use Rattle.std.proofs.Common.{None, Some, arith}
use Rattle.fed_types.specs.declared.bag_id.BagId.{BagId}
use Rattle.fed_types.specs.Lists.{Has, here}
use Rattle.fed_types.specs.Quorums.{QuorumSystem}
use Rattle.fed_types.specs.Slots.{SlotName}
use Rattle.records.specs.declared.entry.Entry.TheVariants as entry
use Rattle.records.specs.declared.record.Record.{Record}
use Rattle.records.specs.SlotStates.{known_of}
use Rattle.dgram.specs.declared.body.Body.TheVariants.{Ask, Known}
use Rattle.proposer.specs.VolatileStates.{VolatileState, hears}
use Rattle.site.specs.Arrivals.{on_body}
use Rattle.site.specs.declared.answer.Line.TheVariants as site_lines
use Rattle.site.specs.Effects.{Effect, Send, to_each, commits_and_says}
use Rattle.world_law.specs.Networks.{Network}
use Rattle.reach_law.proofs.Words.{known_stays, known_now, about, to_each_has}
use Rattle.reach_law.proofs.Leads.{IsUp, Took, took_stay, took_up, took_later, took_new, spent}
use Rattle.reach_law.proofs.Leads.{Leads, leads_more, leads_now, each, answered_leads, ask_leads}
use Rattle.reach_law.proofs.Discovering.{sending}
use Rattle.reach_law.specs.Running.{AreMembers, records_at, volatile_at}

abbrev pub KnowsAt : SlotName → ℕ → Network → Type 0
KnowsAt slot n w = (bag : BagId) × (known_of slot (records_at w n) ≡ Some bag)

pub took_known : {w : Network} {n : ℕ} {commits : Option Record}
    {volatile : VolatileState} {sends : List Send} {x : Network} (slot : SlotName) (k : ℕ)
    → Took w n commits volatile sends x → KnowsAt slot k w → KnowsAt slot k x
took_known {w} {n} {commits} slot k t f = (
  f.0,
  took_stay (λ (rs : List Record). known_of slot rs ≡ Some f.0) t
      (λ e. known_stays slot (records_at w n) f.0 e commits) k f.1,
)

module _ (q : QuorumSystem) (running : List ℕ) (slot : SlotName) (before : ℕ)
    (members : AreMembers q running) (p : ℕ) (runs : Has p running) where
  pub record Spreading (w : Network) : Type 0 where
    pub up : (n : ℕ) → Has n running → IsUp w n
    pub later : before ≤ length w.sent
    pub knows : KnowsAt slot p w

  spreading_stays : {w : Network} {n : ℕ} {commits : Option Record}
      {volatile : VolatileState} {sends : List Send} {x : Network}
      → Took w n commits volatile sends x → Spreading w → Spreading x
  spreading_stays t s = record {
    up = λ m h. took_up t m (s.up m h);
    later = took_later t before s.later;
    knows = took_known slot p t s.knows;
  }

  visit : (n : ℕ) → Has n running → (w : Network) → Spreading w → (k : ℕ)
      → ((y : Network) → Spreading y → KnowsAt slot n y
      → ((m : ℕ) → Has m running → KnowsAt slot m w → KnowsAt slot m y)
      → Leads q running slot before y k)
      → Leads q running slot before w (3 + k)
  unfolding on_body
  visit n h w s k next = go (known_of slot (records_at w n)) refl
    where
      told : (x y : Network) → Spreading x → (bag : BagId)
          → ((m : ℕ) → Has m running → KnowsAt slot m w → KnowsAt slot m x)
          → Took x p None (hears (volatile_at x p) (about slot (Ask n)))
          (to_each slot (Known p bag) (n ∷ [])) y
          → (o : Option BagId) → known_of slot (records_at y n) ≡ o → (e : Effect)
          × (on_body q n (records_at y n) (volatile_at y n)
          (hears (volatile_at y n) (about slot (Known p bag))) slot (Known p bag) ≡ e)
          × ((z : Network) → Took y n e.commits e.volatile e.sends z
          → Leads q running slot before z k)
      told x y s bag stays t (Some old) e = (
        sending [] (hears (volatile_at y n) (about slot (Known p bag))),
        rw e refl,
        λ z u.
            next z (spreading_stays u (spreading_stays t s))
            (took_known slot n u (old, e))
            (λ m h f. took_known slot m u (took_known slot m t (stays m h f))),
      )
      told x y s bag stays t None e = (
        commits_and_says slot (Some (entry.Known bag)) (site_lines.Known slot bag)
            (hears (volatile_at y n) (about slot (Known p bag))),
        rw e refl,
        λ z u.
            next z (spreading_stays u (spreading_stays t s))
            (bag, ap (known_of slot) u.records ∙ known_now slot (records_at y n) bag e)
            (λ m h f. took_known slot m u (took_known slot m t (stays m h f))),
      )

      asked : (x : Network) → Spreading x
          → ((m : ℕ) → Has m running → KnowsAt slot m w → KnowsAt slot m x)
          → (t : Took w n None (volatile_at w n) (to_each slot (Ask n) (p ∷ [])) x)
          → Leads q running slot before x (2 + k)
      asked x s' stays t =
          answered_leads q running slot before members x p n (Ask n) (Known p s'.knows.0) None
          (n ∷ []) k runs h (s'.up p runs) (s'.up n h) s'.later
          (took_new t before _ s.later (to_each_has slot (Ask n) (p ∷ []) p (here refl)))
          refl refl (here refl)
          (rw s'.knows.1 refl)
          (λ y u. told x y s' s'.knows.0 stays u (known_of slot (records_at y n)) refl)

      other : known_of slot (records_at w n) ≡ None → n ≡ p → ⊥
      other e same = absurd (cc (sym (rw same at e) ∙ s.knows.1))

      go : (o : Option BagId) → known_of slot (records_at w n) ≡ o
          → Leads q running slot before w (3 + k)
      go (Some bag) e =
          leads_more q running slot before w k (3 + k) (omega arith)
          (next w s (bag, e) (λ m h f. f))
      go None e =
          leads_more q running slot before w (1 + (2 + k)) (3 + k) (omega arith)
          (ask_leads q running slot before members w n p (2 + k) h runs (s.up n h) e (other e)
          (λ x t. asked x (spreading_stays t s) (λ m h f. took_known slot m t f) t))

  pub spreads : (w : Network) → Spreading w → Leads q running slot before w (spent 3 running 0)
  spreads w s =
      each q running slot before Spreading (KnowsAt slot) 3 visit running (λ n h. h) w s 0
      (λ y s' knows stays.
      leads_now q running slot before y (λ n h. rw (knows n h).1 refl))
