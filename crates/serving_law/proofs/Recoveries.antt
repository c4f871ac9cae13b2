-- What a call leaves of a site's records, in its book and in its cell.
use Rattle.std.proofs.Common.{◌≡◌, ◌⊎◌, inl, inr, refl, sym, ◌∙◌, true, false, ℕ, List, [], ◌∷◌}
use Rattle.std.proofs.Common.{◌++◌, append-nil, Option, None, Some}
use Rattle.std.specs.Prelude.{Result, Ok, Err, IsSome}
use Rattle.std.specs.Option.{option_to_list}
use Rattle.cell_device.specs.Devices.{Device}
use Rattle.cell_device.specs.Images.{Image, IfKnown, MayLeave}
use Rattle.records.specs.declared.owner.Owner.{Owner}
use Rattle.records.specs.declared.record.Record.{Record}
use Rattle.records.specs.Journals.{DecodesTo}
use Rattle.records.proofs.OneReading.{same_records_said}
use Rattle.book.specs.declared.fault.CommitFault.TheVariants as commits
use Rattle.book.specs.Committed.{SaysWithOrWithout, Commits}
use Rattle.book.specs.OpenBooks.{OpenBook, RecoversTo}
use Rattle.site.specs.declared.answer.Answer.{Answer}
use Rattle.site.specs.declared.fault.SiteFault.{SiteFault}
use Rattle.site.specs.declared.fault.SiteFault.TheVariants as faults
use Rattle.site.specs.Answered.{Keeps}
use Rattle.serving_law.specs.Rules.{MayRecoverTo}

-- a cell recovers to the records from before, or to those with the call's
abbrev pub Recovered : (before : List Record) → Option Record → List Record → Type 0
Recovered before o records =
    (records ≡ before) ⊎ ((r : Record) × (o ≡ Some r) × (records ≡ before ++ r ∷ []))

module _ {C : Type 0} (device : C → Device) (owner : Owner) where
  -- an open book has these records, with one more if there is one, and so has its cell
  pub record IsKept (before : List Record) (o : Option Record) (new : OpenBook C) : Type 0 where
    pub records : new.records ≡ before ++ option_to_list o
    pub opened : new.needs_opening ≡ false
    pub whose : new.owner ≡ owner
    pub recovers : RecoversTo owner new.records (device new.cell).image

  -- the book before a call
  module _ (old : OpenBook C) (whose : old.owner ≡ owner) (opened : old.needs_opening ≡ false)
      (recovers : RecoversTo owner old.records (device old.cell).image) where
    pub as_it_was : IsKept old.records None old
    as_it_was = record {
      records = sym (append-nil old.records);
      opened = opened;
      whose = whose;
      recovers = recovers;
    }

    as_before : (new : OpenBook C) → new ≡ old → IsKept old.records None new
    as_before new e = rw e as_it_was

    unchanged : (r : Record) (new : OpenBook C) → Commits device old r (Err commits.Memory) new
        → IsKept old.records None new
    unchanged r new c =
        let u = c.memory refl in
        record {
          records = u.records ∙ sym (append-nil old.records);
          opened = u.opened ∙ opened;
          whose = c.whose ∙ whose;
          recovers = rw (u.bytes, u.records) recovers;
        }

    -- after an answer
    pub kept_ok : (o : Option Record) (answer : Answer) (new : OpenBook C)
        → Keeps device o (Ok answer) old new → IsKept old.records o new
    kept_ok None answer new e = as_before new e
    kept_ok (Some r) answer new (inl p) = absurd (cc p.0)
    kept_ok (Some r) answer new (inr c) = record {
      records = c.committed.0;
      opened = c.committed.1;
      whose = c.whose ∙ whose;
      recovers = rw (c.whose, whose) at c.recovers;
    }

    -- after a refusal, but where the device failed
    pub kept_err : (o : Option Record) (fault : SiteFault) (new : OpenBook C)
        → Keeps device o (Err fault) old new
        → IsKept old.records None new ⊎ (fault ≡ faults.Device) ⊎ (fault ≡ faults.NeedsOpen)
    kept_err None fault new e = inl (as_before new e)
    kept_err (Some r) fault new (inl p) = inl (as_before new p.1)
    kept_err (Some r) faults.Device new (inr c) = inr (inl refl)
    kept_err (Some r) faults.NeedsOpen new (inr c) = inr (inr refl)
    kept_err (Some r) _ new (inr c) = inl (unchanged r new c)

    -- where the device failed, the book needs opening
    pub device_needs : (o : Option Record) (new : OpenBook C) → IsSome o
        → Keeps device o (Err faults.Device) old new → new.needs_opening ≡ true
    device_needs None new some k = absurd (cc some)
    device_needs (Some r) new some (inl p) = absurd (cc p.0)
    device_needs (Some r) new some (inr c) = (c.device_failed refl).1

    -- ---- crashes

    module _ (only_now : (cell : C) (bytes : List ℕ)
        → (device cell).left_since (device cell).moment bytes
        → MayLeave (device cell).image bytes) where
      pub recovered_now : (records : List Record)
          → MayRecoverTo owner (device old.cell) (device old.cell) records → records ≡ old.records
      recovered_now records m =
          go (device old.cell).image m.told recovers (only_now old.cell m.bytes m.left)
        where
          go : (o : Option Image) → IsSome o → RecoversTo owner old.records o
              → MayLeave o m.bytes → records ≡ old.records
          go None some rec leaves = absurd (cc some)
          go (Some i) some rec leaves =
              same_records_said owner records old.records m.bytes m.says (rec.1 m.bytes leaves)

      -- a crash since the call began, where the book is as it was
      as_was : (new : OpenBook C) (records : List Record) → new ≡ old
          → MayRecoverTo owner (device old.cell) (device new.cell) records → records ≡ old.records
      as_was new records e m = recovered_now records (rw e at m)

      -- and where a record was to be committed
      with_or_without : (r : Record) (bytes : List ℕ) (records : List Record)
          → DecodesTo owner bytes (Ok records) → (o : Option Image) → IsSome o
          → IfKnown o (λ i. SaysWithOrWithout old.owner old.records r bytes)
          → Recovered old.records (Some r) records
      with_or_without r bytes records says None some h = absurd (cc some)
      with_or_without r bytes records says (Some i) some h =
          go (rw whose at h)
        where
          go : SaysWithOrWithout owner old.records r bytes → Recovered old.records (Some r) records
          go (inl without) = inl (same_records_said owner records old.records bytes says without)
          go (inr with) =
              inr (r, refl, same_records_said owner records (old.records ++ r ∷ []) bytes says with)

      pub recovered_within : (o : Option Record) (result : Result Answer SiteFault)
          (new : OpenBook C) → Keeps device o result old new → (records : List Record)
          → MayRecoverTo owner (device old.cell) (device new.cell) records
          → Recovered old.records o records
      recovered_within None result new e records m = inl (as_was new records e m)
      recovered_within (Some r) result new (inl p) records m = inl (as_was new records p.1 m)
      recovered_within (Some r) result new (inr c) records m =
          with_or_without r m.bytes records m.says (device old.cell).image m.told
          (c.any_moment.each m.bytes m.left)
