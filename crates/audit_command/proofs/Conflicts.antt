-- The line of a version for which two bags are named.
use Rattle.std.proofs.Common.{◌≡◌, ℕ, ◌≤◌, Bool, cond, List, [], ◌∷◌, ◌++◌, refl, sym, ◌∙◌}
use Rattle.std.proofs.Common.{inl, inr, append_assoc, arith}
use Rattle.std.proofs.lemmas.Bool.{cases_Bool, or_cases}
use Rattle.std.proofs.lemmas.Bool.Decides.{nat_tests}
use Rattle.std.proofs.lemmas.List.Elements.{All-head, All-tail}
use Rattle.std.specs.Prelude.{◌≢◌, ◌&&◌, ◌==◌, true, map}
use Rattle.std.specs.List.{All, list_any, flat_map}
use Rattle.fed_types.specs.declared.bag_id.BagId.{BagId}
use Rattle.fed_types.specs.Laws.Lists.{fold_keeps, has_cases, has_left, has_map, has_none, has_one}
use Rattle.fed_types.specs.Laws.Lists.{has_right, map_has}
use Rattle.fed_types.specs.Laws.Slots.{same_slot_decides}
use Rattle.fed_types.specs.Lists.{Has, here, there}
use Rattle.fed_types.specs.Quorums.{quorums_of}
use Rattle.fed_types.specs.Sites.{Membership}
use Rattle.fed_types.specs.Slots.{SlotName, same_slot}
use Rattle.outcomes.specs.Outcomes.{Outcome}
use Rattle.records.specs.declared.record.Record.{Record}
use Rattle.ledger.specs.Versions.{with_slot, slots_of}
use Rattle.audit.specs.declared.finding.Finding.TheVariants.{Conflict}
use Rattle.audit.specs.Evidence.{SiteRecord}
use Rattle.audit.specs.Findings.{IsFinding}
use Rattle.audit.specs.Laws.{IsNamed, NameTwo}
use Rattle.audit.proofs.Found.{two_found}
use Rattle.audit_command.specs.declared.version.Version.{Version}
use Rattle.audit_command.specs.Audits.{IsAudit, all_used}
use Rattle.audit_command.specs.CellReadings.{Reading, all_given}
use Rattle.audit_command.specs.Conflicts.{HasLine, SaysConflict}
use Rattle.audit_command.specs.Files.{Files}
use Rattle.audit_command.specs.Lines.{use_line, reading_line, version_line, counts_line, audit_text}
use Rattle.audit_command.specs.Versions.{is_conflict, count_of}

-- ---- the versions that records name

-- the test finds what is there
found_slot : (slot : SlotName) (slots : List SlotName) → list_any (same_slot slot) slots ≡ true
    → Has slot slots
found_slot slot [] is = absurd (cc is)
found_slot slot (one ∷ slots) is =
    elim (or_cases (same_slot slot one) (list_any (same_slot slot) slots) is) [
      | inl same ↦ here (sym ((same_slot_decides slot one).0 same))
      | inr others ↦ there (found_slot slot slots others)
    ]

-- a version that is there stays
kept_slot : (slot : SlotName) (slots : List SlotName) (r : Record) → Has slot slots
    → Has slot (with_slot slots r)
kept_slot slot slots r has = elim (cases_Bool (list_any (same_slot r.slot) slots)) [
  | inl old ↦ rw old has
  | inr new ↦ rw new (has_left (r.slot ∷ []) has)
]

-- and that of a record comes
its_slot : (slots : List SlotName) (r : Record) → Has r.slot (with_slot slots r)
its_slot slots r = elim (cases_Bool (list_any (same_slot r.slot) slots)) [
  | inl old ↦ rw old (found_slot r.slot slots old)
  | inr new ↦ rw new (has_right slots (here refl))
]

named_slot : (records : List Record) (r : Record) → Has r records → Has r.slot (slots_of records)
unfolding slots_of
named_slot records =
    fold_keeps with_slot (λ records slots. (r : Record) → Has r records → Has r.slot slots)
    (λ records one slots named r has. elim (has_cases records (one ∷ []) has) [
      | inl old ↦ kept_slot r.slot slots one (named r old)
      | inr new ↦ rw (← has_one new) (its_slot slots one)
    ])
    [] records (λ r has. absurd (has_none has))

-- ---- the version among those that are told

all_has : {X : Type 0} (P : X → Type 0) (x : X) (xs : List X) → All P xs → Has x xs → P x
all_has P x [] all has = absurd (has_none has)
all_has P x (y ∷ ys) all (here is) = rw is at (All-head P y ys all)
all_has P x (y ∷ ys) all (there more) = all_has P x ys (All-tail P y ys all) more

line_of : (v : Version) (versions : List Version) → Has v versions
    → HasLine (flat_map version_line versions) (version_line v)
line_of v [] has = absurd (has_none has)
line_of v (w ∷ versions) (here is) = ([], flat_map version_line versions, rw is)
line_of v (w ∷ versions) (there more) =
    let it = line_of v versions more in
    (version_line w ++ it.0, it.1, rw (it.2, append_assoc))

counted : (v : Version) (versions : List Version) → Has v versions → is_conflict v.finding ≡ true
    → 1 ≤ count_of is_conflict versions
counted v [] has conflict = absurd (has_none has)
counted v (w ∷ versions) (here is) conflict = rw (is, conflict) (omega arith)
counted v (w ∷ versions) (there more) conflict = elim (cases_Bool (is_conflict w.finding)) [
  | inl one ↦ rw one (omega arith)
  | inr none ↦ rw none (counted v versions more conflict)
]

status_1 : (used : Bool) (n : ℕ) → 1 ≤ n → ◌≡◌ {A = ℕ} (cond (used && n == 0) 0 1) 1
status_1 used n some = grind (arith, nat_tests)

text_has : (readings : List Reading) (versions : List Version) (line : List ℕ)
    → HasLine (flat_map version_line versions) line
    → HasLine (audit_text readings versions) line
unfolding audit_text
text_has readings versions line (before, after, is) = (
  flat_map use_line readings ++ (flat_map reading_line readings ++ before),
  after ++ counts_line versions,
  rw is (simp append_assoc),
)

-- ---- the answer

module _ (members : Membership) (files : Files) (paths : List (List ℕ)) (outcome : Outcome)
    (audit : IsAudit members files paths outcome) (s : SiteRecord) where
  abbrev given : List SiteRecord
  given = all_given audit.readings

  abbrev Says : Type 0
  Says = SaysConflict (quorums_of members) given s.kept.slot outcome

  says : (w : Version) → Has w audit.versions → w.slot ≡ s.kept.slot
      → (a : BagId) × (b : BagId) × (w.finding ≡ Conflict a b)
      × NameTwo (quorums_of members) given s.kept.slot a b
      → Says
  says w has its (a, b, is, named) = (
    a,
    b,
    named,
    rw (audit.text_is, ← its, ← is) (text_has audit.readings audit.versions (version_line w)
        (line_of w audit.versions has)),
    audit.status_is
        ∙ status_1 (all_used audit.readings) (count_of is_conflict audit.versions)
        (counted w audit.versions has (rw is)),
  )

  pub said : (u v : BagId) → Has s given → IsNamed (quorums_of members) given s.kept.slot u
      → IsNamed (quorums_of members) given s.kept.slot v → u ≢ v → Says
  said u v has one two other =
      let w = has_map (λ (w : Version). w.slot) audit.versions
      (rw audit.are_versions.slots
      (named_slot (map (λ s. s.kept) given) s.kept (map_has (λ s. s.kept) has))) in
      let found = all_has
      (λ (w : Version). IsFinding (quorums_of members) given w.slot w.finding) w.0
      audit.versions audit.are_versions.findings w.1 in
      says w.0 w.1 w.2
      (two_found (quorums_of members) given s.kept.slot u v w.0.finding one two other
      (rw w.2 at found))
