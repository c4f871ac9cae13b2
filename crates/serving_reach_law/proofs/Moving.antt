-- A federation in turns, and a network in events, in which the members have the same on record and
-- have heard the same; and of each datagram that was sent in the one its bytes were handed out in
-- the other.
use Rattle.std.proofs.Common.{ℕ, ◌≡◌, ◌≤◌, inl, inr, refl, sym, ap, subst, ◌∙◌, Bool, true, false}
use Rattle.std.proofs.Common.{cond, List, [], ◌∷◌, ◌++◌, length, drop, append-nil, length-append}
use Rattle.std.proofs.Common.{arith}
use Rattle.std.specs.Bool.{◌==◌}
use Rattle.std.specs.Option.{option_to_list}
use Rattle.std.proofs.lemmas.Bool.Decides.{Decides-eqb}
use Rattle.fed_types.specs.Lists.{Has, here}
use Rattle.fed_types.specs.Quorums.{quorums_of}
use Rattle.fed_types.specs.Sites.{Membership, members_of}
use Rattle.fed_types.specs.Laws.Lists.{has_cases, has_none, has_one, is_in_decides}
use Rattle.records.specs.declared.record.Record.{Record}
use Rattle.dgram.specs.Encoding.{datagram_of}
use Rattle.dgram.specs.Messages.{IsMessage}
use Rattle.proposer.specs.VolatileStates.{VolatileState}
use Rattle.schedule.specs.declared.fate.Fate.TheVariants.{Whole}
use Rattle.site.specs.Calls.{Input, effect_of}
use Rattle.site.specs.Effects.{Effect, Send}
use Rattle.world_law.specs.Networks.{Mode, Up, volatile_in, SiteState, Network, takes}
use Rattle.world_law.specs.Networks as networks
use Rattle.reach_law.proofs.Leads.{IsUp, went, takes_whole}
use Rattle.udp_site.specs.Traffic.{Post}
use Rattle.serving_law.specs.Federations.{Member, Federation, becomes}
use Rattle.serving_law.proofs.Calls.{any_slot}
use Rattle.serving_law.proofs.Spoken.{IsSiteBody}
use Rattle.serving_reach_law.specs.Acts.{IsFor}
use Rattle.serving_reach_law.specs.Reach.{site_of}
use Rattle.serving_reach_law.proofs.Words.{drop_left}

-- a site with these records, in this mode
abbrev pub a_site : List Record → Mode → SiteState
a_site records mode = record { records = records; mode = mode }

module _ {C : Type 0} (members : Membership) (addresses : List ℕ) (before : ℕ) where
  -- these bytes were handed out since, for the member that the message is sent to
  pub record Out (f : Federation C) (d : Send) : Type 0 where
    pub is : IsMessage d.message
    pub speaks : IsSiteBody d.message.body
    pub handed : Has d.to (members_of members) → IsFor members addresses (drop before f.handed) d.to
        (datagram_of members.federation d.message)

  pub record Mirrors (f : Federation C) (w : Network) : Type 0 where
    pub sites : (n : ℕ) → w.sites n ≡ site_of (f.members n)
    pub within : before ≤ length f.handed
    pub out : (d : Send) → Has d w.sent → Out f d

  out_stays : (f : Federation C) (d : Send) → Out f d → (n : ℕ) (now : Member C)
      (posts : List Post) → Out (becomes f n now posts) d
  out_stays f d o n now posts = record {
    is = o.is;
    speaks = o.speaks;
    handed = λ member.
        let h = o.handed member in
        (h.0, h.1, drop_left before f.handed posts h.2);
  }

  -- one site moves in both
  pub moves : (f : Federation C) (w : Network) → Mirrors f w → (n : ℕ) (now : Member C)
      (posts : List Post) (records : List Record) (mode : Mode) (sends : List Send)
      → site_of now ≡ a_site records mode
      → ((d : Send) → Has d sends → Out (becomes f n now posts) d)
      → Mirrors (becomes f n now posts) (went w n records mode sends)
  moves f w m n now posts records mode sends same news = record {
    sites = λ k. at k (k == n);
    within = let within = m.within in omega (arith, within, length-append f.handed posts);
    out = λ d h. elim (has_cases w.sent sends h) [
      | inl old ↦ out_stays f d (m.out d old) n now posts
      | inr new ↦ news d new
    ];
  }
    where
      at : (k : ℕ) (t : Bool)
          → cond t (a_site records mode) (w.sites k) ≡ site_of (cond t now (f.members k))
      at k true = sym same
      at k false = m.sites k

  -- in the network a site moves, but nothing changes
  pub moves_not : (f : Federation C) (w : Network) → Mirrors f w → (n : ℕ)
      (records : List Record) (mode : Mode)
      → w.sites n ≡ a_site records mode → Mirrors f (went w n (records ++ []) mode [])
  moves_not f w m n records mode is = record {
    sites = λ k. at k (k == n) refl;
    within = m.within;
    out = λ d h. elim (has_cases w.sent [] h) [
      | inl old ↦ m.out d old
      | inr new ↦ absurd (has_none new)
    ];
  }
    where
      at : (k : ℕ) (t : Bool) → (k == n) ≡ t
          → cond t (a_site (records ++ []) mode) (w.sites k) ≡ site_of (f.members k)
      at k true e =
          subst (λ (j : ℕ). a_site (records ++ []) mode ≡ site_of (f.members j))
          (sym ((Decides-eqb k n).0 e))
          (ap (λ (rs : List Record). a_site rs mode) (append-nil records) ∙ sym is ∙ m.sites n)
      at k false e = m.sites k

-- ---- what an input brings about in the network

module _ (members : Membership) (w : Network) (n : ℕ) (member : Has n (members_of members)) where
  -- at a site that is down
  pub takes_nothing : (input : Input) (records : List Record)
      → w.sites n ≡ a_site records networks.Down
      → (takes (quorums_of members) w n input Whole).network ≡ w
  takes_nothing input records is = rw ((is_in_decides (members_of members) n).1 member, is) refl

  -- at one that is up
  pub takes_up : (input : Input) (records : List Record) (volatile : VolatileState)
      → w.sites n ≡ a_site records (Up volatile) → (e : Effect)
      → effect_of (quorums_of members) n records volatile input ≡ e
      → (takes (quorums_of members) w n input Whole).network
      ≡ went w n (records ++ option_to_list e.commits) (Up e.volatile) e.sends
  takes_up input records volatile is e comes =
      takes_whole (quorums_of members) (n ∷ []) any_slot 0 each w n input e (here refl) up
      (ap (λ (s : SiteState).
      effect_of (quorums_of members) n s.records (volatile_in s.mode) input) is
      ∙ comes)
      ∙ ap (λ (s : SiteState).
      went w n (s.records ++ option_to_list e.commits) (Up e.volatile) e.sends) is
    where
      each : (k : ℕ) → Has k (n ∷ []) → Has k (members_of members)
      each k h = rw (← has_one h) member

      up : IsUp w n
      up = rw is refl
