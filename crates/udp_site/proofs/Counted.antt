-- What a site counts, place by place.
use Rattle.std.proofs.Common.{◌≡◌, ◌≤◌, ℕ, suc, ◌+◌, true, false, List, length, ap, arith}
use Rattle.std.proofs.Common.{if◌then◌else◌}
use Rattle.records.specs.declared.record.Record.{Record}
use Rattle.udp_site.specs.Rounds.{waits}
use Rattle.udp_site.specs.Status.{waiting_before}

one_above : (n : ℕ) → n + 1 ≡ suc n
one_above n = omega (arith)

no_more : (n : ℕ) → n ≡ n + 0
no_more n = omega (arith)

module _ (records : List Record) (place : ℕ) where
  pub step : waiting_before records (place + 1)
      ≡ waiting_before records place + (if waits records place then 1 else 0)
  unfolding waiting_before
  step = ap (waiting_before records) (one_above place)

  -- the deposit at this place waits
  pub one_more : (count : ℕ) → count ≡ waiting_before records place → true ≡ waits records place
      → count + 1 ≡ waiting_before records (place + 1)
  one_more count so_far is = rw (so_far, step, ← is)

  -- none does
  pub none_more : (count : ℕ) → count ≡ waiting_before records place
      → false ≡ waits records place → count ≡ waiting_before records (place + 1)
  none_more count so_far is = rw (so_far, step, ← is) (no_more (waiting_before records place))

-- all places were looked at
pub all_places : (records items : List Record) (place count : ℕ) → items ≡ records
    → count ≡ waiting_before records place → place ≤ length items → length items ≤ place
    → count ≡ waiting_before records (length records)
all_places records items place count same so_far within past =
    let end : place ≡ length items = omega arith in rw (so_far, end, same)
