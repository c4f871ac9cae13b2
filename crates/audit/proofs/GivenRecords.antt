-- One more record that is given.
use Rattle.std.proofs.Common.{◌≡◌, ◌⊎◌, ℕ, ◌==◌, inl, inr, refl, ap, List, [], ◌∷◌, ◌++◌, Some}
use Rattle.std.proofs.Common.{eq-eqb}
use Rattle.std.proofs.lemmas.Bool.{eqb-true, cases_Bool}
use Rattle.fed_types.specs.Lists.{here}
use Rattle.fed_types.specs.Slots.{SlotName}
use Rattle.fed_types.specs.Laws.Lists.{has_cases, has_one, has_left, has_right, has_filter_map}
use Rattle.fed_types.specs.Laws.Lists.{filter_map_has}
use Rattle.records.specs.declared.entry.Entry.{Entry}
use Rattle.records.specs.declared.record.Record.{Record}
use Rattle.records.specs.Bounds.{HasEntry}
use Rattle.audit.specs.Evidence.{SiteRecord, record_at, records_at}

-- a site's record, by the test of its number
pub at_site : (n : ℕ) (s : SiteRecord) (r : Record) → record_at n s ≡ Some r
    → (s.site ≡ n) × (s.kept ≡ r)
at_site n s r is = elim (cases_Bool (s.site == n)) [
  | inl e ↦ (eqb-true s.site n e, cc (rw e at is))
  | inr e ↦ absurd (cc (rw e at is))
]

-- an entry of a site's is on record, by what was given
abbrev pub Given : List SiteRecord → ℕ → SlotName → Entry → Type 0
Given given n slot e = HasEntry slot (records_at given n) e

-- what was given, and a site's entry of a version
abbrev pub more : List SiteRecord → ℕ → SlotName → Entry → List SiteRecord
more given n slot e = given ++ record { site = n; kept = record { slot = slot; body = e } } ∷ []

module _ (given : List SiteRecord) (n : ℕ) (slot : SlotName) (e : Entry) where
  -- an entry was given before, or it is the new one
  pub old_or_new : (m : ℕ) (s : SlotName) (f : Entry) → Given (more given n slot e) m s f
      → Given given m s f ⊎ ((n ≡ m) × (slot ≡ s) × (e ≡ f))
  old_or_new m s f h =
      let p = has_filter_map (record_at m) _ (more given n slot e) h in
      elim (has_cases given _ p.1) [
        | inl old ↦ inl (filter_map_has (record_at m) p.0 _ given old p.2)
        | inr new ↦
            let it = at_site m _ _ (rw (← has_one new) at p.2) in
            inr (it.0, ap (λ (r : Record). r.slot) it.1, ap (λ (r : Record). r.body) it.1)
      ]

  -- those given before stay
  pub keeps : (m : ℕ) (s : SlotName) (f : Entry) → Given given m s f
      → Given (more given n slot e) m s f
  keeps m s f h =
      let p = has_filter_map (record_at m) _ given h in
      filter_map_has (record_at m) p.0 _ _ (has_left _ p.1) p.2

  -- and the new one is there
  pub newest : Given (more given n slot e) n slot e
  newest = filter_map_has (record_at n) _ _ _ (has_right given (here refl)) (rw (eq-eqb n n refl))
