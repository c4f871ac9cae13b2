-- Where the text of a cell ends, and which members it names.
use Rattle.std.proofs.Common.{◌≡◌, ℕ, ◌+◌, ◌≤◌, List, ◌++◌, length, drop, true, false, refl, sym}
use Rattle.std.proofs.Common.{ap, ◌∙◌, arith, inl, inr, append_assoc, length-append}
use Rattle.std.proofs.lemmas.List.{drop_at, drop-drop, length-drop}
use Rattle.fed_types.specs.Sites.{Membership}
use Rattle.records.specs.declared.layout.Layout.{Layout}
use Rattle.records.specs.declared.layout.Layout.TheVariants.{First, Second}
use Rattle.records.specs.declared.owner.Owner.{Owner}
use Rattle.records.specs.declared.record.Record.{Record}
use Rattle.records.specs.Layout.{all_encoded, header_of, old_header}
use Rattle.records.specs.Records.{AreRecords}
use Rattle.records.specs.Starts.{Start, Old, New, Carried}
use Rattle.records.specs.Journals.{HasHeader, Reaches, IsEnd}
use Rattle.records.proofs.Apart.{header_size, old_header_size, same_weights}
use Rattle.records.proofs.Texts.{end_is_past, old_or_new}
use Rattle.ledger.specs.declared.read.Found.{Found}
use Rattle.ledger.specs.Cells.{IsHeaded, NamesWeights}
use Rattle.ledger.specs.inner.Found.{IsAllAfter, IsAllFound}
use Rattle.ledger.specs.inner.Named.{IsHeadedBy, HasHeaderOf}
use Rattle.ledger.specs.inner.Sizes.{Stops}
use Rattle.ledger.proofs.Headers.{has_of}
use Rattle.records.proofs.OneReading.{headed_names, text_headed as headed}
use Rattle.ledger.proofs.Passages.{end_stops, header_stops}

-- ---- the parts of texts

-- a cell that is such a text and a rest, from its header on
abbrev IsInParts : Owner → List ℕ → Start → List Record → List ℕ → Type 0
IsInParts owner bytes Old rs rest = bytes ≡ old_header owner ++ (all_encoded First rs ++ rest)
IsInParts owner bytes (New ws) rs rest =
    bytes ≡ header_of owner ws ++ (all_encoded Second rs ++ rest)
IsInParts owner bytes (Carried os ws) rs rest =
    bytes ≡ old_header owner ++ (all_encoded First os
    ++ (header_of owner ws ++ (all_encoded Second rs ++ rest)))

in_parts : (owner : Owner) (bytes : List ℕ) (start : Start) (rs : List Record) (rest : List ℕ)
    → Reaches owner bytes start rs rest → IsInParts owner bytes start rs rest
in_parts owner bytes Old rs rest r = r.bytes_are ∙ simp append_assoc
in_parts owner bytes (New ws) rs rest r = r.bytes_are ∙ simp append_assoc
in_parts owner bytes (Carried os ws) rs rest r = r.bytes_are ∙ simp append_assoc

-- one of the second layout alone begins with its header
new_has : (owner : Owner) (bytes ws : List ℕ) (rs : List Record) (rest : List ℕ)
    → Reaches owner bytes (New ws) rs rest → HasHeader owner bytes
new_has owner bytes ws rs rest r =
    (ws, all_encoded Second rs ++ rest, r.is_start, in_parts owner bytes (New ws) rs rest r)

-- a cell begins with a header
pub text_headed : (owner : Owner) (bytes : List ℕ) (start : Start) (rs : List Record)
    (rest : List ℕ) → Reaches owner bytes start rs rest → IsHeaded owner bytes
text_headed owner bytes start rs rest r = rw r.bytes_are (headed owner start rs rest r.is_start)

pub headed_long : (owner : Owner) (bytes : List ℕ) → IsHeaded owner bytes → 13 ≤ length bytes
headed_long owner bytes headed = elim (headed_names owner bytes headed) [
  | inl old ↦ old.0
  | inr new ↦ omega (arith, new.0)
]

pub header_fits : (owner : Owner) (m : Membership) (bytes : List ℕ) → HasHeaderOf owner m bytes
    → 14 + length m.weights ≤ length bytes
header_fits owner m bytes h =
    omega (
      arith,
      ap length h.bytes_are,
      length-append (header_of owner m.weights) (drop (14 + length m.weights) bytes),
      header_size owner m.weights,
    )

-- ---- records of the second layout, from a place on

-- what passing them by their sizes answers
abbrev pub Passes : List ℕ → ℕ → Type 0
Passes bytes pass =
    (l : Layout) (rs : List Record) (rest : List ℕ) → AreRecords rs
    → bytes ≡ all_encoded l rs ++ rest → Stops rest → pass ≡ length (all_encoded l rs)

pub passed_end : (bytes : List ℕ) (place pass : ℕ) → place ≤ length bytes
    → Passes (drop place bytes) pass → (rs : List Record) (rest : List ℕ) → AreRecords rs
    → drop place bytes ≡ all_encoded Second rs ++ rest → Stops rest
    → place + pass + length rest ≡ length bytes
passed_end bytes place pass within passes rs rest are is stops =
    omega (
      arith,
      within,
      passes Second rs rest are is stops,
      ap length is,
      length-drop place bytes,
      length-append (all_encoded Second rs) rest,
    )

-- what is found after a header that is known
module _ (owner : Owner) (bytes : List ℕ) (at size : ℕ) (m : Membership) (found : Found)
    (h : HasHeaderOf owner m (drop at bytes)) (is_size : size ≡ 14 + length m.weights)
    (after : IsAllAfter bytes m (at + size) found) where
  after_header : (ws : List ℕ) (rs : List Record) (rest : List ℕ) → AreRecords rs → Stops rest
      → drop at bytes ≡ header_of owner ws ++ (all_encoded Second rs ++ rest)
      → ((found.members.weights ≡ ws) × (found.named ≡ true))
      × (found.end + length rest ≡ length bytes)
  after_header ws rs rest are stops is =
      let x = all_encoded Second rs ++ rest in
      let n = 14 + length m.weights in
      let same = same_weights owner m.weights ws (drop n (drop at bytes)) x
      (sym h.bytes_are ∙ is) in
      let behind : drop (at + size) bytes ≡ x =
      rw (is_size, ← drop-drop n at bytes) same.1 in (
        (rw after.members_are same.0, after.named),
        after.end_is rs rest are behind stops,
      )

-- ---- a header at the beginning

pub first_found : (owner : Owner) (bytes : List ℕ) (size : ℕ) (m : Membership) (found : Found)
    → HasHeaderOf owner m bytes → size ≡ 14 + length m.weights → IsAllAfter bytes m size found
    → IsAllFound owner bytes found
first_found owner bytes size m found h is_size after = record {
  federation = rw after.members_are h.federation;
  in_range = after.in_range;
  all = by;
}
  where
    here : IsAllAfter bytes m (0 + size) found
    here = let zero : 0 + size ≡ size = omega arith in rw zero after

    not_old : (x : List ℕ) → bytes ≡ old_header owner ++ x → ⊥
    not_old x is = old_or_new owner m.weights x (drop (14 + length m.weights) bytes)
        (sym is ∙ h.bytes_are)

    by : (start : Start) (rs : List Record) (rest : List ℕ) → Reaches owner bytes start rs rest
        → IsEnd owner start rest
        → NamesWeights start found.members.weights found.named
        × (found.end + length rest ≡ length bytes)
    by Old rs rest r ends =
        absurd (not_old _ (in_parts owner bytes Old rs rest r))
    by (New ws) rs rest r ends =
        after_header owner bytes 0 size m found h is_size here ws rs rest r.are_records
        (end_stops owner (New ws) rest ends) (in_parts owner bytes (New ws) rs rest r)
    by (Carried os ws) rs rest r ends =
        absurd (not_old _ (in_parts owner bytes (Carried os ws) rs rest r))

-- ---- records of the first layout, and perhaps a header after them

module _ (owner : Owner) (bytes : List ℕ) (pass : ℕ) (passes : Passes (drop 13 bytes) pass) where
  after_old : (rs : List Record) (x : List ℕ) → AreRecords rs → Stops x
      → bytes ≡ old_header owner ++ (all_encoded First rs ++ x) → drop (13 + pass) bytes ≡ x
  after_old rs x are stops is =
      let e : drop 13 bytes ≡ all_encoded First rs ++ x = ap (drop 13) is
      ∙ drop_at (old_header owner) (all_encoded First rs ++ x) 13 (old_header_size owner) in
      rw (← drop-drop pass 13 bytes, e)
      (drop_at (all_encoded First rs) x pass (sym (passes First rs x are e stops)))

  old_sum : (rs : List Record) (x : List ℕ) → AreRecords rs → Stops x
      → bytes ≡ old_header owner ++ (all_encoded First rs ++ x)
      → 13 + pass + length x ≡ length bytes
  old_sum rs x are stops is =
      let e : drop 13 bytes ≡ all_encoded First rs ++ x = ap (drop 13) is
      ∙ drop_at (old_header owner) (all_encoded First rs ++ x) 13 (old_header_size owner) in
      omega (
        arith,
        passes First rs x are e stops,
        ap length is,
        length-append (old_header owner) (all_encoded First rs ++ x),
        length-append (all_encoded First rs) x,
        old_header_size owner,
      )

  -- where a header was found after them
  pub second_found : (size : ℕ) (m : Membership) (found : Found) → ¬ HasHeader owner bytes
      → HasHeaderOf owner m (drop (13 + pass) bytes) → size ≡ 14 + length m.weights
      → IsAllAfter bytes m (13 + pass + size) found → IsAllFound owner bytes found
  second_found size m found not_new h is_size after = record {
    federation = rw after.members_are h.federation;
    in_range = after.in_range;
    all = by;
  }
    where
      by : (start : Start) (rs : List Record) (rest : List ℕ) → Reaches owner bytes start rs rest
          → IsEnd owner start rest
          → NamesWeights start found.members.weights found.named
          × (found.end + length rest ≡ length bytes)
      by Old rs rest r ends =
          let here : drop (13 + pass) bytes ≡ rest =
          after_old rs rest r.are_records (end_stops owner Old rest ends)
          (in_parts owner bytes Old rs rest r) in
          absurd ((end_is_past owner Old rest ends).no_second
          (rw here at (has_of owner m (drop (13 + pass) bytes) h)))
      by (New ws) rs rest r ends = absurd (not_new (new_has owner bytes ws rs rest r))
      by (Carried os ws) rs rest r ends =
          let x = all_encoded Second rs ++ rest in
          after_header owner bytes (13 + pass) size m found h is_size after ws rs rest
          r.are_records (end_stops owner (Carried os ws) rest ends)
          (after_old os (header_of owner ws ++ x) r.is_start.0 (header_stops owner ws x)
          (in_parts owner bytes (Carried os ws) rs rest r))

  -- where none was
  pub none_found : IsHeadedBy owner bytes → ¬ HasHeader owner bytes
      → ¬ HasHeader owner (drop (13 + pass) bytes) → 13 + pass ≤ length bytes
      → IsAllFound owner bytes
      (record { members = owner.members; named = false; end = 13 + pass })
  none_found headed not_new none within = record {
    federation = refl;
    in_range = within;
    all = by;
  }
    where
      by : (start : Start) (rs : List Record) (rest : List ℕ) → Reaches owner bytes start rs rest
          → IsEnd owner start rest
          → NamesWeights start owner.members.weights false
          × (13 + pass + length rest ≡ length bytes)
      by Old rs rest r ends = (
        (headed.single, refl),
        old_sum rs rest r.are_records (end_stops owner Old rest ends)
            (in_parts owner bytes Old rs rest r),
      )
      by (New ws) rs rest r ends = absurd (not_new (new_has owner bytes ws rs rest r))
      by (Carried os ws) rs rest r ends =
          let x = all_encoded Second rs ++ rest in
          absurd (none (
            ws,
            x,
            r.is_start.1,
            after_old os (header_of owner ws ++ x) r.is_start.0 (header_stops owner ws x)
                (in_parts owner bytes (Carried os ws) rs rest r),
          ))
