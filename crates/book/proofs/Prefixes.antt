-- Records after a text: a crash leaves a prefix of them.
use Rattle.std.proofs.Common.{◌≡◌, inl, inr, ℕ, suc, ◌+◌, ◌-◌, ◌≤◌, List, [], ◌∷◌, ◌++◌, length}
use Rattle.std.proofs.Common.{take, drop, Ok, refl, sym, ap, ◌∙◌, arith, length-append}
use Rattle.std.proofs.lemmas.Bool.Decides.{leb_tells}
use Rattle.std.proofs.lemmas.List.{append-nil, take-append-le, take-append-drop}
use Rattle.std.proofs.lemmas.List.{append_assoc, length-take}
use Rattle.cell_device.specs.Images.{Image, Leaves, at_rest, keeps}
use Rattle.records.specs.declared.owner.Owner.{Owner}
use Rattle.records.specs.declared.record.Record.{Record}
use Rattle.records.specs.Journals.{DecodesTo}
use Rattle.records.specs.Layout.{record_bytes}
use Rattle.records.specs.Records.{AreRecords}
use Rattle.records.specs.Texts.{IsTextOf}
use Rattle.records.proofs.OneReading.{same_records_said}
use Rattle.records.proofs.Texts.{text_says, text_longer, text_atomic}
use Rattle.book.specs.Batches.{all_bytes, in_first, SaysFirst, with_records, all_but, IsInUseBy}
use Rattle.book.proofs.AtRest.{keeps_appended}
use Rattle.std.proofs.Math.Seq.{take-append-add, take-nil}

-- a text, and the bytes of more records, are a text of all
pub texts_longer : (owner : Owner) (records new : List Record) (text : List ℕ)
    → IsTextOf owner records text → AreRecords new
    → IsTextOf owner (records ++ new) (text ++ all_bytes new)
texts_longer owner records [] text is fine = rw (append-nil records, append-nil text) is
texts_longer owner records (r ∷ rs) text is fine =
    let longer = text_longer owner records text r is fine.0 in
    let all = texts_longer owner (records ++ r ∷ []) rs (text ++ record_bytes r) longer fine.1 in
    rw (append_assoc records (r ∷ []) rs, append_assoc text (record_bytes r) (all_bytes rs)) at all

-- the first k of their bytes say those that are whole in them
pub texts_atomic : (owner : Owner) (records new : List Record) (text : List ℕ) (k : ℕ)
    → IsTextOf owner records text → AreRecords new
    → DecodesTo owner (text ++ take k (all_bytes new)) (Ok (records ++ in_first k new))
unfolding in_first
texts_atomic owner records [] text k is fine =
    rw (take-nil k, append-nil records, append-nil text) (text_says owner records text is)
texts_atomic owner records (r ∷ rs) text k is fine =
    elim (leb_tells (length (record_bytes r)) k) [
      | inl t ↦
          let n = length (record_bytes r) in
          let past : n + (k - n) ≡ k = omega (arith, t.1) in
          let bytes : take k (record_bytes r ++ all_bytes rs)
          ≡ record_bytes r ++ take (k - n) (all_bytes rs) =
          rw past at (take-append-add (record_bytes r) (all_bytes rs) (k - n)) in
          let longer = text_longer owner records text r is fine.0 in
          let said = texts_atomic owner (records ++ r ∷ []) rs (text ++ record_bytes r) (k - n)
          longer fine.1 in
          rw (bytes, t.0)
          (rw (
            append_assoc records (r ∷ []) (in_first (k - n) rs),
            append_assoc text (record_bytes r) (take (k - n) (all_bytes rs)),
          ) at said)
      | inr f ↦
          let bytes : take k (record_bytes r ++ all_bytes rs) ≡ take k (record_bytes r) =
          take-append-le k (record_bytes r) (all_bytes rs) (omega (arith, f.1)) in
          rw (bytes, f.0) (rw f.0 at (text_atomic owner records text r k is fine.0))
    ]

-- those are a prefix
in_first_is : (k : ℕ) (new : List Record) → (n : ℕ) × (in_first k new ≡ take n new)
unfolding in_first
in_first_is k [] = (0, refl)
in_first_is k (r ∷ rs) = elim (leb_tells (length (record_bytes r)) k) [
  | inl t ↦
      let rest = in_first_is (k - length (record_bytes r)) rs in (suc rest.0, rw (t.0, rest.1) refl)
  | inr f ↦ (0, rw f.0 refl)
]

pub says_first : (owner : Owner) (records new : List Record) (text : List ℕ) (k : ℕ)
    → IsTextOf owner records text → AreRecords new
    → SaysFirst owner records new (text ++ take k (all_bytes new))
says_first owner records new text k is fine =
    let first = in_first_is k new in
    (first.0, rw first.1 at (texts_atomic owner records new text k is fine))

-- ---- appends with no sync between them

made : List ℕ → List ℕ → Image
made synced bytes = record { synced = synced; newest = bytes; seen = bytes }

appended : (synced bytes : List ℕ) (new : List Record)
    → with_records new (made synced bytes) ≡ made synced (bytes ++ all_bytes new)
unfolding with_records made
appended synced bytes [] = ap (made synced) (sym (append-nil bytes))
appended synced bytes (r ∷ rs) =
    rw (appended synced (bytes ++ record_bytes r) rs, append_assoc) refl

-- what a crash leaves then
leaves_first : (text left : List ℕ) (new : List Record)
    → Leaves (with_records new (at_rest text)) left
    → (k : ℕ) × (left ≡ text ++ take k (all_bytes new))
unfolding made
leaves_first text left new (k, is) = (
  k,
  is ∙ ap (λ (i : Image). keeps k i.synced i.newest) (appended text text new)
      ∙ keeps_appended k text (all_bytes new),
)

pub prefix_left : (owner : Owner) (records new : List Record) (text left : List ℕ)
    → IsTextOf owner records text → AreRecords new → Leaves (with_records new (at_rest text)) left
    → SaysFirst owner records new left
prefix_left owner records new text left is fine left_so =
    let first = leaves_first text left new left_so in
    rw first.1 (says_first owner records new text first.0 is fine)

-- ---- what a reader may count

found_is : (owner : Owner) (records new : List Record) (text bytes : List ℕ) (found : List Record)
    → IsTextOf owner records text → AreRecords new
    → Leaves (with_records new (at_rest text)) bytes → DecodesTo owner bytes (Ok found)
    → (n : ℕ) × (found ≡ records ++ take n new)
found_is owner records new text bytes found is fine left says =
    let first = prefix_left owner records new text bytes is fine left in (
      first.0,
      same_records_said owner found (records ++ take first.0 new) bytes says first.1,
    )

pub all_but_these : (n : ℕ) (owner : Owner) (i : Image) (seen left : List ℕ)
    (found kept : List Record) → IsInUseBy n owner i → Leaves i seen → Leaves i left
    → DecodesTo owner seen (Ok found) → DecodesTo owner left (Ok kept)
    → (others : List Record) × (kept ≡ all_but n found ++ others)
all_but_these n owner i seen left found kept (records, text, new, is, fine, few, image) a b says
    keeps =
    let one = found_is owner records new text seen found is fine (rw image at a) says in
    let other = found_is owner records new text left kept is fine (rw image at b) keeps in
    let m = length found - n in
    let within : m ≤ length records = omega (
      arith,
      few,
      ap length one.1,
      length-append records (take one.0 new),
      length-take one.0 new,
    ) in
    let first : all_but n found ≡ take m records =
    ap (λ (l : List Record). take m l) one.1 ∙ take-append-le m records (take one.0 new) within in
    let rest = take other.0 new in (
      drop m records ++ rest,
      cc (
        other.1,
        first,
        append_assoc (take m records) (drop m records) rest,
        take-append-drop {A = Record} m records,
      ),
    )
