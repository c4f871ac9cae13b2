-- The least number that nothing has named.
use Rattle.std.proofs.Common.{◌≡◌, ℕ, zero, suc, ◌+◌, ◌<◌, ◌≤◌, Bool, true, false, not, List, []}
use Rattle.std.proofs.Common.{◌∷◌, length, Some, None, refl, sym, arith, inl, inr}
use Rattle.std.specs.List.{find}
use Rattle.std.proofs.lemmas.List.Folds.{find-append}
use Rattle.std.proofs.lemmas.Bool.Decides.{eqb_tells}
use Rattle.fed_types.specs.Lists.{is_in}
use Rattle.sim_stations.specs.DatagramNumbers.{Sending, Represents, IsLast, next_unnamed}
use Rattle.world_law.specs.Worlds.{numbers_to}

-- every number up to this one passes
abbrev pub AllPass : (ℕ → Bool) → ℕ → Type 0
AllPass test last = (k : ℕ) → 1 ≤ k → k ≤ last → test k ≡ true

-- then none of them is found that doesn't
pub find_none : (test : ℕ → Bool) (count last : ℕ) → count ≤ last → AllPass test last
    → find (λ k. not (test k)) (numbers_to count) ≡ None
unfolding numbers_to
find_none test zero last within all = refl
find_none test (suc n) last within all =
    rw (find-append (λ k. not (test k)) (numbers_to n) (suc n ∷ []))
    (rw (find_none test n last (omega arith) all, all (suc n) (omega arith) within))

-- the next one, which doesn't, is the first
pub find_next : (test : ℕ → Bool) (count last : ℕ) → last < count → AllPass test last
    → test (last + 1) ≡ false
    → find (λ k. not (test k)) (numbers_to count) ≡ Some (last + 1)
unfolding numbers_to
find_next test zero last within all not_it = absurd (omega arith)
find_next test (suc n) last within all not_it =
    rw (find-append (λ k. not (test k)) (numbers_to n) (suc n ∷ []))
    (elim (eqb_tells last n) [
      | inl same ↦
          let next : suc n ≡ last + 1 = omega (arith, same.1) in
          rw (find_none test n last (omega (arith, same.1)) all, next, not_it)
      | inr other ↦ rw (find_next test n last (omega (arith, other.1)) all not_it)
    ])

-- The next number, or none, where each number up to this one was named. The table is seen as what
-- is sent.
module _ {T : Type 0} (table sending : Sending T) (marks : List Bool) (named : List ℕ)
    (count last : ℕ) (seen : table ≡ sending) (same : marks ≡ table.marks)
    (many : count ≡ length table.sent) (last_is : IsLast marks table.others count last)
    (stands : Represents sending named) where
  all_sent : count ≡ length sending.sent
  all_sent = rw seen at many

  is : IsLast sending.marks sending.others count last
  is = rw (same, seen) at last_is

  pub next_found : last < count → Some (last + 1) ≡ next_unnamed named (length sending.sent)
  next_found less =
      rw (← all_sent)
      (sym (find_next (is_in named) count last less
      (λ k one within. rw stands at (is.0 k one within)) (rw stands at (is.1 less))))

  pub next_none : count ≤ last → None ≡ next_unnamed named (length sending.sent)
  next_none all =
      rw (← all_sent)
      (sym (find_none (is_in named) count last all
      (λ k one within. rw stands at (is.0 k one within))))
