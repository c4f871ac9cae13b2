-- Records of which the last are set apart.
use Rattle.std.proofs.Common.{◌≡◌, ◌-◌, ◌+◌, ℕ, List, [], ◌∷◌, ◌++◌, length, take, refl, ap}
use Rattle.std.proofs.Common.{append_assoc, arith}
use Rattle.std.specs.Prelude.{max}
use Rattle.std.proofs.lemmas.List.{length-append}
use Rattle.std.proofs.Math.Seq.{take-append-add}
use Rattle.records.specs.declared.record.Record.{Record}
use Rattle.audit_command.specs.CellReadings.{sure_of}
use Rattle.audit_command.specs.inner.Standings.{IsSplit}

-- of no records none is sure
pub nothing_sure : {unsure : ℕ} {records sure last : List Record} → records ≡ []
    → IsSplit unsure records sure last → sure ≡ []
nothing_sure {sure = []} none split = refl
nothing_sure {sure = r ∷ sure} none split = absurd (cc (none, split.parts_are))

-- those that are set apart, and so many of the last, are the sure ones
pub split_is : (first : ℕ) {unsure : ℕ} {records sure last : List Record}
    → IsSplit unsure records sure last
    → sure ++ take (first - length sure) last ≡ sure_of first unsure records
split_is first {unsure} {records} {sure} {last} split =
    let count : length sure + (first - length sure) ≡ max first (length records - unsure) =
    omega (arith, split.length_is) in
    rw (← take-append-add sure last (first - length sure), ← split.parts_are, count)

-- with the next records some more of them are sure
pub split_on : {unsure : ℕ} {records sure last more left : List Record} (next : List Record)
    → IsSplit unsure records sure last → IsSplit unsure (last ++ next) more left
    → IsSplit unsure (records ++ next) (sure ++ more) left
split_on next first second = record {
  parts_are = rw first.parts_are (simp append_assoc (rw second.parts_are));
  length_is = omega (arith, ap length first.parts_are, length-append {A = Record});
}
