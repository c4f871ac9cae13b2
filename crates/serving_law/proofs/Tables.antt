-- The tables of a site whose records and messages are all of one slot: a row of that slot, in those
-- of the proposer and of the learner.
use Rattle.std.proofs.Common.{ℕ, ◌≡◌, refl, sym, Bool, true, false, List, [], ◌∷◌, map, filter_map}
use Rattle.std.proofs.Common.{None, Some}
use Rattle.fed_types.specs.declared.vote.Vote.{Vote}
use Rattle.fed_types.specs.Lists.{is_in}
use Rattle.fed_types.specs.Sites.{Membership}
use Rattle.fed_types.specs.Slots.{SlotName, same_slot}
use Rattle.fed_types.specs.Laws.Slots.{same_slot_equivalence, same_slot_decides}
use Rattle.records.specs.declared.entry.Entry.{Entry}
use Rattle.records.specs.declared.record.Record.{Record}
use Rattle.records.specs.SlotStates.{entries, known_of, used_of, round_in}
use Rattle.dgram.specs.declared.body.Body.{Body}
use Rattle.dgram.specs.declared.message.Message.{Message}
use Rattle.dgram.specs.Heard.{bodies_of, floor_of, voters_for, body_in}
use Rattle.learner.specs.LearnerStates as ledgers
use Rattle.learner.specs.declared.row.Row.{Row as heard_row}
use Rattle.proposer.specs.declared.row.Row.{Row as own_row}
use Rattle.proposer.specs.Rows.{Knows, row_of}
use Rattle.proposer.specs.VolatileStates.{VolatileState}
use Rattle.proposer.specs.UnderWay.{nothing}
use Rattle.slot_table.specs.Rows.{row_at}
use Rattle.site.specs.Contents.{Contents, Represents}

-- what a site has for a slot: its own row, and what it has heard
pub record Rows : Type 0 where
  pub own : own_row
  pub heard : heard_row

module _ (slot : SlotName) where
  -- records, and messages, of the slot
  abbrev pub records_of : List Entry → List Record
  records_of entries = map (λ e. record { slot = slot; body = e }) entries

  abbrev pub heard_of : List Body → List Message
  heard_of bodies = map (λ b. record { slot = slot; body = b }) bodies

  abbrev pub tables : Membership → (site : ℕ) → Rows → Contents
  tables members site rows = record {
    deposits = [];
    spare = 0;
    depositing = [];
    acceptor = [];
    proposer = record { members = members; site = site; rows = (slot, rows.own) ∷ [] };
    learner = record { members = members; rows = (slot, rows.heard) ∷ [] };
  }

  no_entries : (s : SlotName) → same_slot slot s ≡ false → (es : List Entry)
      → entries s (records_of es) ≡ []
  no_entries s f [] = refl
  no_entries s f (e ∷ es) = rw f (no_entries s f es)

  no_bodies : (s : SlotName) → same_slot slot s ≡ false → (bs : List Body)
      → filter_map (body_in s) (heard_of bs) ≡ []
  no_bodies s f [] = refl
  no_bodies s f (b ∷ bs) = rw f (no_bodies s f bs)

  none_used : (s : SlotName) → same_slot slot s ≡ false → (es : List Entry)
      → used_of s (records_of es) ≡ 0
  unfolding used_of
  none_used s f es = rw (no_entries s f es) refl

  none_known : (s : SlotName) → same_slot slot s ≡ false → (es : List Entry)
      → known_of s (records_of es) ≡ None
  unfolding known_of
  none_known s f es = rw (no_entries s f es) refl

  none_heard : (s : SlotName) → same_slot slot s ≡ false → (bs : List Body)
      → bodies_of s (heard_of bs) ≡ []
  unfolding bodies_of
  none_heard s f bs = no_bodies s f bs

  no_floor : floor_of [] ≡ 0
  unfolding floor_of
  no_floor = refl

  no_voters : (vote : Vote) → voters_for vote [] ≡ []
  unfolding voters_for
  no_voters vote = refl

  -- a table of one row
  pub itself : same_slot slot slot ≡ true
  itself = (same_slot_decides slot slot).1 refl

  -- after one record that issues no ballot
  pub used_by_none : (e : Entry) → round_in e ≡ None → used_of slot (records_of (e ∷ [])) ≡ 0
  unfolding used_of
  used_by_none e none = rw (itself, none) refl

  the_row : {R : Type 0} (row : R) → row_at ((slot, row) ∷ []) slot ≡ Some row
  the_row row = rw itself refl

  no_row : {R : Type 0} (row : R) (s : SlotName) → same_slot slot s ≡ false
      → row_at ((slot, row) ∷ []) s ≡ None
  no_row row s f = rw (same_slot_equivalence.symm s slot, f) refl

  module _ (members : Membership) (site : ℕ) (es : List Entry) (bs : List Body)
      (volatile : VolatileState) (heard : volatile.heard ≡ heard_of bs)
      (elsewhere : (s : SlotName) → same_slot slot s ≡ false → volatile.current s ≡ None)
      (rows : Rows)
      (knows : Knows slot (records_of es) volatile.heard (volatile.current slot) None None rows.own)
      (known : ledgers.known_in (Some rows.heard) ≡ known_of slot (records_of es))
      (votes : known_of slot (records_of es) ≡ None → (vote : Vote) (n : ℕ)
      → is_in (ledgers.counted_in (Some rows.heard) vote) n
      ≡ is_in (voters_for vote (bodies_of slot volatile.heard)) n) where
    abbrev KnowsOf : SlotName → Type 0
    KnowsOf s =
        Knows s (records_of es) volatile.heard (volatile.current s) None None
        (row_of ((slot, rows.own) ∷ []) s)

    proposer_at : (s : SlotName) (t : Bool) → same_slot slot s ≡ t → KnowsOf s
    proposer_at s true e = rw (← (same_slot_decides slot s).0 e, the_row rows.own) knows
    proposer_at s false e =
        rw (no_row rows.own s e) (record {
          used = sym (none_used s e es);
          floor = rw (heard, none_heard s e bs, no_floor) refl;
          begun = refl;
          current = rw (elsewhere s e) tt;
          waiting = refl;
        })

    known_at : (s : SlotName) (t : Bool) → same_slot slot s ≡ t
        → ledgers.known_in (row_at ((slot, rows.heard) ∷ []) s) ≡ known_of s (records_of es)
    known_at s true e = rw (← (same_slot_decides slot s).0 e, the_row rows.heard) known
    known_at s false e = rw (no_row rows.heard s e, none_known s e es) refl

    abbrev Counts : SlotName → Vote → ℕ → Type 0
    Counts s vote n =
        is_in (ledgers.counted_in (row_at ((slot, rows.heard) ∷ []) s) vote) n
        ≡ is_in (voters_for vote (bodies_of s volatile.heard)) n

    votes_at : (s : SlotName) (t : Bool) → same_slot slot s ≡ t
        → known_of s (records_of es) ≡ None → (vote : Vote) (n : ℕ) → Counts s vote n
    votes_at s true e none vote n =
        let here : slot ≡ s = (same_slot_decides slot s).0 e in
        let none_here = rw (← here) at none in
        rw (← here, the_row rows.heard) (votes none_here vote n)
    votes_at s false e none vote n =
        rw (no_row rows.heard s e, heard, none_heard s e bs, no_voters vote) refl

    pub stands : Represents (tables members site rows) (records_of es) volatile nothing
    stands = record {
      proposer = λ s. proposer_at s (same_slot slot s) refl;
      learner = record {
        known = λ s. known_at s (same_slot slot s) refl;
        votes = λ s none vote n. votes_at s (same_slot slot s) refl none vote n;
      };
    }
