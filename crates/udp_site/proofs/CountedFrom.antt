-- How many deposits that wait come from a place on.
use Rattle.std.proofs.Common.{◌≡◌, ◌≤◌, ◌<◌, ◌⊎◌, inl, inr, ℕ, zero, suc, ◌+◌, ◌-◌, Bool, true}
use Rattle.std.proofs.Common.{false, List, length, Some, None, refl, sym, ap, ◌∙◌, arith}
use Rattle.std.proofs.lemmas.Bool.{cases_lt}
use Rattle.records.specs.declared.record.Record.{Record}
use Rattle.udp_site.specs.Rounds.{waits}
use Rattle.udp_site.specs.Status.{waiting_before, waiting_from}
use Rattle.udp_site.specs.inner.SlotRecords.{IsFirst}
use Rattle.udp_site.proofs.Counted.{step, one_more, none_more}
use Rattle.udp_site.proofs.WaitingDeposits.{waits_within}

same_place : (n : ℕ) → n ≡ n + 0
same_place n = omega (arith)

next_place : (m n : ℕ) → m + n + 1 ≡ m + suc n
next_place m n = omega (arith)

there : (m n : ℕ) → m ≤ n → m + (n - m) ≡ n
there m n le = omega (arith, le)

module _ (records : List Record) where
  abbrev counted : ℕ → ℕ
  counted place = waiting_before records place

  -- as many, where none waits in between
  none_between : (from count : ℕ)
      → ((place : ℕ) → from ≤ place → place < from + count → waits records place ≡ false)
      → counted from ≡ counted (from + count)
  none_between from zero isnt = ap counted (same_place from)
  none_between from (suc count) isnt =
      none_more records (from + count) (counted from)
      (none_between from count (λ place least before. isnt place least (omega (arith, before))))
      (sym (isnt (from + count) (omega arith) (omega arith)))
      ∙ ap counted (next_place from count)

  no_less : (from count : ℕ) → counted from ≤ counted (from + count)
  no_less from zero = omega (arith, ap counted (same_place from))
  no_less from (suc count) =
      omega (
        arith,
        no_less from count,
        step records (from + count),
        ap counted (next_place from count),
      )

  none_past : (place : ℕ) → length records ≤ place → waits records place ≡ false
  none_past place past = go (waits records place) refl
    where
      go : (b : Bool) → waits records place ≡ b → waits records place ≡ false
      go false is = is
      go true is = absurd (omega (arith, waits_within records place is, past))

  past_all : (next : ℕ) → length records ≤ next → counted (length records) ≡ counted next
  past_all next past =
      none_between (length records) (next - length records)
      (λ place least most. none_past place least)
      ∙ ap counted (there (length records) next past)

  -- all were counted, where none waits from there on
  all_after : (next : ℕ) → IsFirst (waits records) next None
      → counted next ≡ counted (length records)
  all_after next none = go (cases_lt next (length records))
    where
      go : (next < length records) ⊎ (length records ≤ next)
          → counted next ≡ counted (length records)
      go (inl before) =
          none_between next (length records - next) (λ place least most. none place least)
          ∙ ap counted (there next (length records) (omega (arith, before)))
      go (inr past) = sym (past_all next past)

  no_more_than_all : (next : ℕ) → counted next ≤ counted (length records)
  no_more_than_all next = go (cases_lt next (length records))
    where
      go : (next < length records) ⊎ (length records ≤ next)
          → counted next ≤ counted (length records)
      go (inl before) =
          rw (← there next (length records) (omega (arith, before)))
          (no_less next (length records - next))
      go (inr past) = omega (arith, past_all next past)

  -- ---- the steps of the count

  -- one more, where the first that waits is there
  pub one_more_from : (from next count first : ℕ)
      → waiting_before records from + count ≡ waiting_before records next
      → IsFirst (waits records) next (Some first)
      → waiting_before records from + (count + 1) ≡ waiting_before records (first + 1)
  one_more_from from next count first so_far (least, is, isnt) =
      omega (
        arith,
        so_far,
        one_more records first (counted next)
            (none_between next (first - next) (λ place late before. isnt place late
            (omega (arith, before, least)))
            ∙ ap counted (there next first least)) (sym is),
      )

  -- all that there are
  pub all_from : (from next count : ℕ)
      → waiting_before records from + count ≡ waiting_before records next
      → IsFirst (waits records) next None → count < 32 → count ≡ waiting_from records from
  all_from from next count so_far none less =
      omega (arith, so_far, all_after next none, less)

  -- as many as are counted at most
  pub most_from : (from next : ℕ)
      → waiting_before records from + 32 ≡ waiting_before records next
      → 32 ≡ waiting_from records from
  most_from from next so_far = omega (arith, so_far, no_more_than_all next)
