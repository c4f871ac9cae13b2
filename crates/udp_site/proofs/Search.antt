-- A search for the deposit to propose, which leaves out those that are settled.
use Rattle.std.proofs.Common.{◌≡◌, ℕ, zero, suc, ◌+◌, ◌-◌, ◌<◌, ◌≤◌, ◌⊎◌, inl, inr, Bool, true}
use Rattle.std.proofs.Common.{false, cond, is_some, List, length, Option, Some, None, arith, refl}
use Rattle.std.proofs.Common.{is_none, max, find}
use Rattle.std.specs.List.{range_with_len}
use Rattle.std.proofs.Math.Nat.{le-max_left, max-le}
use Rattle.std.proofs.lemmas.Bool.{cases_lt}
use Rattle.fed_types.specs.declared.bag_id.BagId.{BagId}
use Rattle.fed_types.specs.Slots.{SlotName}
use Rattle.records.specs.declared.record.Record.{Record}
use Rattle.records.specs.SlotStates.{known_of}
use Rattle.site.specs.Contents.{deposits_of, slot_at}
use Rattle.udp_site.specs.Rounds.{waits_at, waits, next_waiting}
use Rattle.udp_site.specs.inner.SlotRecords.{known_at, is_settled, AreSettled, IsFirst}
use Rattle.udp_site.proofs.WaitingDeposits.{next_of_two, waits_within}

-- ---- the first of some numbers

module _ (test : ℕ → Bool) where
  none_of : (from count : ℕ)
      → ((place : ℕ) → from ≤ place → place < from + count → test place ≡ false)
      → find test (range_with_len from count) ≡ None
  none_of from zero isnt = refl
  none_of from (suc count) isnt =
      rw (isnt from (omega arith) (omega arith))
      (none_of (from + 1) count (λ place least most. isnt place (omega arith) (omega arith)))

  first_of : (from count first : ℕ) → from ≤ first → first < from + count
      → test first ≡ true
      → ((place : ℕ) → from ≤ place → place < first → test place ≡ false)
      → find test (range_with_len from count) ≡ Some first
  first_of from zero first least most is isnt = absurd (omega arith)
  first_of from (suc count) first least most is isnt =
      go (cases_lt from first)
      (λ (less : from < first). first_of (from + 1) count first (omega arith) (omega arith) is
      (λ place at_least before. isnt place (omega arith) before))
    where
      go : (from < first) ⊎ (first ≤ from)
          → (from < first → find test (range_with_len (from + 1) count) ≡ Some first)
          → cond (test from) (Some from) (find test (range_with_len (from + 1) count)) ≡ Some first
      go (inl less) later = rw (isnt from (omega arith) less) (later less)
      go (inr no_less) later =
          let same : from ≡ first = omega (arith, no_less, least) in rw (same, is)

-- ---- the deposit to propose

-- a deposit with a known bag doesn't wait
known_waits_no : (rs : List Record) (slot : Option SlotName) → known_at rs slot ≡ true
    → waits_at rs slot ≡ false
known_waits_no rs None is = absurd (cc is)
known_waits_no rs (Some slot) is = isnt (known_of slot rs) is
  where
    isnt : (known : Option BagId) → is_some known ≡ true → is_none known ≡ false
    isnt None e = absurd (cc e)
    isnt (Some bag) e = refl

settled_waits_no : (rs : List Record) (place : ℕ) → is_settled rs place ≡ true
    → waits rs place ≡ false
settled_waits_no rs place is = known_waits_no rs (slot_at (deposits_of rs) place) is

-- the search starts where neither what was tried nor what is settled comes
module _ (rs : List Record) (from settled start : ℕ) (are : AreSettled rs settled)
    (is_start : start ≡ max from settled) where
  after_from : from ≤ start
  after_from = rw is_start (le-max_left from settled)

  no_more : (place : ℕ) → from ≤ place → settled ≤ place → start ≤ place
  no_more place late later = rw is_start (max-le late later)

  -- none of these waits, where none waits from the start of the search on
  none_waits : (place : ℕ) → from ≤ place
      → ((later : ℕ) → start ≤ later → later ≤ place → waits rs later ≡ false)
      → waits rs place ≡ false
  none_waits place least isnt = go (cases_lt place settled)
    where
      go : (place < settled) ⊎ (settled ≤ place) → waits rs place ≡ false
      go (inl before) = settled_waits_no rs place (are place before)
      go (inr after) = isnt place (no_more place least after) (omega arith)

  -- what is found from the start of the search on is next
  pub found_first : (place : ℕ) → IsFirst (waits rs) start (Some place)
      → next_waiting rs from ≡ Some place
  found_first place (least, is, isnt) =
      rw (
        next_of_two rs from,
        first_of (waits rs) from (length rs - from) place (omega (arith, least, after_from))
            (omega (arith, waits_within rs place is, least, after_from)) is
            (λ earlier at_least before. none_waits earlier at_least
            (λ later begun end. isnt later begun (omega (arith, end, before)))),
      )

  -- else what is found of those that aren't settled
  pub found_again : (o : Option ℕ) → IsFirst (waits rs) start None → IsFirst (waits rs) settled o
      → next_waiting rs from ≡ o
  found_again o none again =
      rw (
        next_of_two rs from,
        none_of (waits rs) from (length rs - from) (λ place least most.
            none_waits place least (λ later begun end. none later begun)),
      ) (of_those o again)
    where
      unsettled : (first : ℕ)
          → ((place : ℕ) → settled ≤ place → place < first → waits rs place ≡ false)
          → (place : ℕ) → place < first → waits rs place ≡ false
      unsettled first isnt place before = go (cases_lt place settled)
        where
          go : (place < settled) ⊎ (settled ≤ place) → waits rs place ≡ false
          go (inl early) = settled_waits_no rs place (are place early)
          go (inr late) = isnt place late before

      of_those : (x : Option ℕ) → IsFirst (waits rs) settled x
          → find (waits rs) (range_with_len 0 (from - 0)) ≡ x
      of_those None isnt =
          none_of (waits rs) 0 (from - 0) (λ place least most.
          unsettled (place + 1) (λ p late before. isnt p late) place (omega arith))
      of_those (Some place) (late, is, isnt) = go (cases_lt place from)
        where
          go : (place < from) ⊎ (from ≤ place)
              → find (waits rs) (range_with_len 0 (from - 0)) ≡ Some place
          go (inl before) =
              first_of (waits rs) 0 (from - 0) place (omega arith) (omega (arith, before)) is
              (λ earlier least less. unsettled place isnt earlier less)
          go (inr past) = absurd (cc (is, none place (no_more place past late)))

-- ---- the steps of the search

-- no deposit past the records waits
pub none_past : (rs : List Record) (from end : ℕ)
    → ((place : ℕ) → from ≤ place → place < end → waits rs place ≡ false) → length rs ≤ end
    → (place : ℕ) → from ≤ place → waits rs place ≡ false
none_past rs from end before all place least = go (waits rs place) refl
  where
    go : (b : Bool) → waits rs place ≡ b → waits rs place ≡ false
    go false is = is
    go true is = before place least (omega (arith, waits_within rs place is, all))

-- what is settled before one place, and from there up to another, is so before that
pub settled_on : (rs : List Record) (from to : ℕ) → AreSettled rs from
    → ((place : ℕ) → from ≤ place → place < to → is_settled rs place ≡ true) → AreSettled rs to
settled_on rs from to are more place before = go (cases_lt place from)
  where
    go : (place < from) ⊎ (from ≤ place) → is_settled rs place ≡ true
    go (inl early) = are place early
    go (inr late) = more place late before
