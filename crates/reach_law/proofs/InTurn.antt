-- A deposit that waits is proposed in turn.
use Rattle.std.proofs.Common.{ℕ, zero, suc, ◌≡◌, ◌≤◌, ◌<◌, ◌+◌, ◌-◌, ◌⊎◌, Bool, true, false, cond}
use Rattle.std.proofs.Common.{inl, inr, refl, sym, ap, ◌∙◌, List, length, Option, None, Some, arith}
use Rattle.std.specs.List.{find, range_with_len}
use Rattle.std.proofs.lemmas.Bool.{cases_eq, cases_lt}
use Rattle.records.specs.declared.record.Record.{Record}
use Rattle.udp_site.specs.Rounds.{waits, next_waiting}
use Rattle.udp_site.proofs.WaitingDeposits.{next_of_two, waits_within}
use Rattle.reach_law.specs.InTurn.{AreProposingTurns, Waits, IsProposedInTurn}
use Rattle.reach_law.proofs.Words.{some_same}

module _ (test : ℕ → Bool) where
  -- where one of some numbers passes, the first that does is no later
  record Found (from last : ℕ) (o : Option ℕ) : Type 0 where
    first : ℕ
    is : o ≡ Some first
    passes : test first ≡ true
    least : from ≤ first
    most : first ≤ last

  -- the first number, or what is found of the later ones
  choice : (from count : ℕ) (t : Bool) → test from ≡ t → find test (range_with_len from (suc count))
      ≡ cond t (Some from) (find test (range_with_len (from + 1) count))
  choice from count t e = rw e refl

  at_once : (from count last : ℕ) → from ≤ last → test from ≡ true
      → Found from last (find test (range_with_len from (suc count)))
  at_once from count last low e = record {
    first = from;
    is = choice from count true e;
    passes = e;
    least = omega arith;
    most = low;
  }

  found_choice : (from count last : ℕ) → from ≤ last → test last ≡ true
      → (from + 1 ≤ last
      → Found (from + 1) last (find test (range_with_len (from + 1) count)))
      → (t : Bool) → test from ≡ t → (from ≡ last) ⊎ (from ≡ last → ⊥)
      → Found from last (find test (range_with_len from (suc count)))
  found_choice from count last low is rest true e c = at_once from count last low e
  found_choice from count last low is rest false e (inl same) =
      at_once from count last low (ap test same ∙ is)
  found_choice from count last low is rest false e (inr differ) =
      let f = rest (omega (arith, low, differ)) in
      record {
        first = f.first;
        is = choice from count false e ∙ f.is;
        passes = f.passes;
        least = let least = f.least in omega (arith, least);
        most = f.most;
      }

  found : (from count last : ℕ) → from ≤ last → last < from + count → test last ≡ true
      → Found from last (find test (range_with_len from count))
  found from zero last low high is = absurd (omega arith)
  found from (suc count) last low high is =
      found_choice from count last low is
      (λ l. found (from + 1) count last l (omega (arith, high)) is)
      (test from) refl (cases_eq from last)

  -- what is found is one of them, and passes
  range_choice : (from count n : ℕ)
      → (find test (range_with_len (from + 1) count) ≡ Some n
      → (from + 1 ≤ n) × (test n ≡ true))
      → (t : Bool) → test from ≡ t
      → cond t (Some from) (find test (range_with_len (from + 1) count)) ≡ Some n
      → (from ≤ n) × (test n ≡ true)
  range_choice from count n rest true e f =
      let same : from ≡ n = some_same f in (omega (arith, same), ap test (sym same) ∙ e)
  range_choice from count n rest false e f =
      let r = rest f in let l : from + 1 ≤ n = r.0 in (omega (arith, l), r.1)

  in_range : (from count n : ℕ) → find test (range_with_len from count) ≡ Some n
      → (from ≤ n) × (test n ≡ true)
  in_range from zero n e = absurd (cc e)
  in_range from (suc count) n e =
      range_choice from count n (λ f. in_range (from + 1) count n f) (test from) refl e

-- Where the deposit at a place waits, some place is next: from where the search begins on and no
-- later, if it begins no later; else one from there on, or one that is no later.
record Next (rs : List Record) (from place : ℕ) : Type 0 where
  next : ℕ
  is : next_waiting rs from ≡ Some next
  passes : waits rs next ≡ true
  where_it_is : ((from ≤ place) × (from ≤ next) × (next ≤ place))
      ⊎ ((place < from) × ((from ≤ next) ⊎ (next ≤ place)))

next_is : (rs : List Record) (from place : ℕ) → waits rs place ≡ true → Next rs from place
next_is rs from place is = go (cases_lt place from)
  where
    within : place < length rs
    within = waits_within rs place is

    second : place < from → Found (waits rs) 0 place (find (waits rs) (range_with_len 0 (from - 0)))
    second less = found (waits rs) 0 (from - 0) place (omega arith) (omega (arith, less)) is

    wraps : place < from → (o : Option ℕ)
        → find (waits rs) (range_with_len from (length rs - from)) ≡ o → Next rs from place
    wraps less (Some n) e =
        let r = in_range (waits rs) from (length rs - from) n e in
        record {
          next = n;
          is = rw (next_of_two rs from, e) refl;
          passes = r.1;
          where_it_is = inr (less, inl r.0);
        }
    wraps less None e =
        let f = second less in
        record {
          next = f.first;
          is = rw (next_of_two rs from, e) f.is;
          passes = f.passes;
          where_it_is = inr (less, inr f.most);
        }

    go : (place < from) ⊎ (from ≤ place) → Next rs from place
    go (inl less) = wraps less (find (waits rs) (range_with_len from (length rs - from))) refl
    go (inr low) =
        let l : place < length rs = within in
        let f : Found (waits rs) from place
        (find (waits rs) (range_with_len from (length rs - from))) =
        found (waits rs) from (length rs - from) place low (omega (arith, low, l)) is in
        record {
          next = f.first;
          is = rw (next_of_two rs from, f.is) refl;
          passes = f.passes;
          where_it_is = inl (low, f.least, f.most);
        }

module _ (records : ℕ → List Record) (tried : ℕ → ℕ) (place most : ℕ)
    (turns : AreProposingTurns records tried) (w : Waits records place most) where
  -- so many proposals suffice, going round from this place on
  abbrev Suffice : ℕ → ℕ → Type 0
  Suffice from fuel =
      ((from ≤ place) × (place ≤ from + fuel))
      ⊎ ((place < from) × ((most - from) + place ≤ fuel))

  abbrev Proposed : ℕ → ℕ → Type 0
  Proposed turn fuel =
      (later : ℕ) × (later ≤ turn + fuel)
      × (next_waiting (records later) (tried later) ≡ Some place)

  abbrev NextAt : ℕ → Type 0
  NextAt turn = Next (records turn) (tried turn) place

  moves : (turn fuel : ℕ) (x : NextAt turn) → (x.next ≡ place → ⊥)
      → Suffice (tried turn) (suc fuel) → Suffice (tried (suc turn)) fuel
  moves turn fuel x differ h =
      rw (turns turn x.next x.is) (elim x.where_it_is [
        | inl a ↦ elim h [
          | inl b ↦ inl (omega (arith, a, b, differ), omega (arith, a, b, differ))
          | inr b ↦ absurd (omega (arith, a, b))
        ]
        | inr a ↦ elim h [
          | inl b ↦ absurd (omega (arith, a, b))
          | inr b ↦ elim a.1 [
            | inl up ↦
                let l = w.within turn x.next x.passes in
                let c : place < tried turn = a.0 in
                let d : (most - tried turn) + place ≤ suc fuel = b.1 in
                inr (omega (arith, up, c), omega (arith, up, l, d))
            | inr down ↦
                let d : (most - tried turn) + place ≤ suc fuel = b.1 in
                inl (omega (arith, down, differ), omega (arith, down, differ, d))
          ]
        ]
      ])

  ends : (turn : ℕ) (x : NextAt turn) → (x.next ≡ place → ⊥) → Suffice (tried turn) 0 → ⊥
  ends turn x differ h =
      elim x.where_it_is [
        | inl a ↦ elim h [
          | inl b ↦ omega (arith, a, b, differ)
          | inr b ↦ omega (arith, a, b)
        ]
        | inr a ↦ elim h [
          | inl b ↦ omega (arith, a, b)
          | inr b ↦ elim a.1 [
            | inl up ↦
                let l = w.within turn x.next x.passes in
                let d : (most - tried turn) + place ≤ 0 = b.1 in omega (arith, up, l, d)
            | inr down ↦
                let d : (most - tried turn) + place ≤ 0 = b.1 in omega (arith, down, differ, d)
          ]
        ]
      ]

  in_time : (fuel turn : ℕ) → Suffice (tried turn) fuel → Proposed turn fuel
  in_time zero turn h =
      let x = next_is (records turn) (tried turn) place (w.waits_on turn) in
      elim (cases_eq x.next place) [
        | inl same ↦ (turn, omega arith, x.is ∙ ap Some same)
        | inr differ ↦ absurd (ends turn x differ h)
      ]
  in_time (suc fuel) turn h =
      let x = next_is (records turn) (tried turn) place (w.waits_on turn) in
      elim (cases_eq x.next place) [
        | inl same ↦ (turn, omega arith, x.is ∙ ap Some same)
        | inr differ ↦
            let r = in_time fuel (suc turn) (moves turn fuel x differ h) in
            let l : r.0 ≤ suc turn + fuel = r.1 in
            (r.0, omega (arith, l), r.2)
      ]

  pub proposed_in_turn : IsProposedInTurn records tried place most
  proposed_in_turn =
      let low : place < most = w.within 0 place (w.waits_on 0) in
      let r = in_time (most - 1) 0 (elim (cases_lt place (tried 0)) [
        | inl less ↦ inr (less, omega (arith, low, less))
        | inr more ↦ inl (more, omega (arith, low))
      ]) in
      let l : r.0 ≤ 0 + (most - 1) = r.1 in
      (r.0, omega (arith, l, low), r.2)
