-- What a learner represents after one more record.
use Rattle.std.proofs.Common.{◌≡◌, ℕ, Bool, true, false, cond, List, [], ◌∷◌, ◌++◌}
use Rattle.std.proofs.Common.{Option, Some, None, refl, sym, ap, ◌∙◌}
use Rattle.fed_types.specs.declared.bag_id.BagId.{BagId}
use Rattle.fed_types.specs.declared.vote.Vote.{Vote}
use Rattle.fed_types.specs.Laws.Slots.{same_slot_decides}
use Rattle.fed_types.specs.Lists.{is_in}
use Rattle.fed_types.specs.Slots.{SlotName, same_slot}
use Rattle.records.specs.declared.entry.Entry.{Entry}
use Rattle.records.specs.declared.entry.Entry.TheVariants as entry
use Rattle.records.specs.declared.record.Record.{Record}
use Rattle.records.specs.SlotStates.{known_of, earlier, with_one, if_some, known_in as bag_in}
use Rattle.records.proofs.SlotStates.{known-push}
use Rattle.dgram.specs.declared.message.Message.{Message}
use Rattle.dgram.specs.Heard.{bodies_of, voters_for}
use Rattle.slot_table.specs.Rows.{Rows, row_at, IsWith}
use Rattle.learner.specs.declared.row.Row.{Row}
use Rattle.learner.specs.declared.row.Row.TheVariants as rows
use Rattle.learner.specs.inner.Counts.{first_known}
use Rattle.learner.specs.LearnerStates.{known_in, counted_in, Represents}

module _ (old : Rows Row) (records : List Record) (heard : List Message) (r : Record)
    (stands : Represents old records heard) where
  push : (s : SlotName) → known_of s (records ++ r ∷ [])
      ≡ with_one earlier (known_of s records)
      (if_some bag_in (cond (same_slot r.slot s) (Some r.body) None))
  push s = known-push s records r

  -- a record that is no Known settles nothing
  pub noted_other : bag_in r.body ≡ None → Represents old (records ++ r ∷ []) heard
  noted_other other = record {
    known = λ s. stands.known s ∙ sym (same s);
    votes = λ s none v n. stands.votes s (sym (same s) ∙ none) v n;
  }
    where
      says_none : (t : Bool) → if_some bag_in (cond t (Some r.body) None) ≡ None
      says_none true = other
      says_none false = refl

      same : (s : SlotName) → known_of s (records ++ r ∷ []) ≡ known_of s records
      same s = push s ∙ ap (with_one earlier (known_of s records)) (says_none (same_slot r.slot s))

  -- a Known settles its slot
  pub noted_known : (new : Rows Row) (bag : BagId) → r.body ≡ entry.Known bag
      → IsWith old new r.slot (rows.Known (first_known (known_in (row_at old r.slot)) bag))
      → Represents new (records ++ r ∷ []) heard
  noted_known new bag is put = record {
    known = λ s. ap known_in (put s) ∙ known s (same_slot r.slot s) refl ∙ sym (push s);
    votes = λ s none v n. ap (λ found. is_in (counted_in found v) n) (put s)
        ∙ votes s (same_slot r.slot s) refl none v n;
  }
    where
      settled : Row
      settled = rows.Known (first_known (known_in (row_at old r.slot)) bag)

      first_of : (o : Option BagId) → Some (first_known o bag) ≡ earlier o bag
      first_of None = refl
      first_of (Some known) = refl

      says_bag : if_some bag_in (Some r.body) ≡ Some bag
      says_bag = ap bag_in is

      known : (s : SlotName) (t : Bool) → same_slot r.slot s ≡ t
          → known_in (cond t (Some settled) (row_at old s))
          ≡ with_one earlier (known_of s records) (if_some bag_in (cond t (Some r.body) None))
      known s true e =
          ap (λ (k : SlotName). Some (first_known (known_in (row_at old k)) bag))
          ((same_slot_decides r.slot s).0 e)
          ∙ ap (λ (o : Option BagId). Some (first_known o bag)) (stands.known s)
          ∙ first_of (known_of s records)
          ∙ ap (with_one earlier (known_of s records)) (sym says_bag)
      known s false e = stands.known s

      not_none : (o : Option BagId) → with_one earlier o (if_some bag_in (Some r.body)) ≡ None → ⊥
      not_none o e = go o (ap (with_one earlier o) (sym says_bag) ∙ e)
        where
          go : (o : Option BagId) → earlier o bag ≡ None → ⊥
          go None e = absurd (cc e)
          go (Some known) e = absurd (cc e)

      votes : (s : SlotName) (t : Bool) → same_slot r.slot s ≡ t
          → known_of s (records ++ r ∷ []) ≡ None → (v : Vote) (n : ℕ)
          → is_in (counted_in (cond t (Some settled) (row_at old s)) v) n
          ≡ is_in (voters_for v (bodies_of s heard)) n
      votes s true e none v n = absurd (not_none (known_of s records)
          (ap (λ (u : Bool). with_one earlier (known_of s records)
          (if_some bag_in (cond u (Some r.body) None))) (sym e) ∙ sym (push s) ∙ none))
      votes s false e none v n = stands.votes s
          (sym (ap (λ (u : Bool). with_one earlier (known_of s records)
          (if_some bag_in (cond u (Some r.body) None))) e) ∙ sym (push s) ∙ none) v n

-- what a record says that is no Known
pub says_none : (e : Entry) → ((bag : BagId) → e ≡ entry.Known bag → ⊥) → bag_in e ≡ None
says_none (entry.Known bag) other = absurd (other bag refl)
says_none (entry.Deposit bag) other = refl
says_none (entry.Round round) other = refl
says_none (entry.Promise ballot) other = refl
says_none (entry.Vote vote) other = refl
