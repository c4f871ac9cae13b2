-- What is settled stays so, while the records go on.
use Rattle.std.proofs.Common.{◌≡◌, ℕ, ◌<◌, true, is_some, List, [], ◌∷◌, ◌++◌, length, Option, Some}
use Rattle.std.proofs.Common.{None, arith, refl, ap, ◌∙◌, fold, slice_get, option_map}
use Rattle.std.proofs.lemmas.List.{length-append, get_or_append_left}
use Rattle.std.proofs.lemmas.Option.{slice_get_within, slice_get-get_or, get_or_from_slice_get}
use Rattle.std.proofs.lemmas.List.Folds.{list_any-append}
use Rattle.std.proofs.lemmas.List.Sums.{fold-append}
use Rattle.fed_types.specs.declared.bag_id.BagId.{BagId}
use Rattle.fed_types.specs.Slots.{SlotName}
use Rattle.records.specs.declared.record.Record.{Record}
use Rattle.records.specs.SlotStates.{known_of, deposit_in}
use Rattle.slot_table.specs.Rows.{Rows, row_at}
use Rattle.site.specs.Contents.{deposits_of, with_deposit, with_bag, unless_there}
use Rattle.udp_site.specs.inner.SlotRecords.{says_known, known_at, is_settled, AreSettled}
use Rattle.udp_site.proofs.WaitingDeposits.{known_by_any}

slice_get-append : {X : Type 0} (xs ys : List X) (i : ℕ) (x : X) → slice_get xs i ≡ Some x
    → slice_get (xs ++ ys) i ≡ Some x
slice_get-append {X} xs ys i x is =
    let less : i < length xs = slice_get_within xs i x is in
    slice_get-get_or (xs ++ ys) i x (omega (arith, less, length-append xs ys))
    ∙ ap (λ (y : X). Some y)
    (get_or_append_left xs ys x i less ∙ get_or_from_slice_get xs i x x is)

-- a deposit keeps its place
unless_there_keeps : (rows : Rows BagId) (slot : SlotName) (bag : BagId) (own : Option BagId)
    (i : ℕ) (row : SlotName × BagId) → slice_get rows i ≡ Some row
    → slice_get (unless_there rows slot bag own) i ≡ Some row
unless_there_keeps rows slot bag None i row is = slice_get-append rows ((slot, bag) ∷ []) i row is
unless_there_keeps rows slot bag (Some own) i row is = is

with_bag_keeps : (rows : Rows BagId) (slot : SlotName) (bag : Option BagId) (i : ℕ)
    (row : SlotName × BagId) → slice_get rows i ≡ Some row
    → slice_get (with_bag rows slot bag) i ≡ Some row
with_bag_keeps rows slot None i row is = is
with_bag_keeps rows slot (Some bag) i row is =
    unless_there_keeps rows slot bag (row_at rows slot) i row is

keeps_place : (rows : Rows BagId) (more : List Record) (i : ℕ) (row : SlotName × BagId)
    → slice_get rows i ≡ Some row → slice_get (fold with_deposit rows more) i ≡ Some row
keeps_place rows [] i row is = is
keeps_place rows (r ∷ more) i row is =
    keeps_place (with_deposit rows r) more i row
    (with_bag_keeps rows r.slot (deposit_in r.body) i row is)

still_there : (rs more : List Record) (i : ℕ) (row : SlotName × BagId)
    → slice_get (deposits_of rs) i ≡ Some row → slice_get (deposits_of (rs ++ more)) i ≡ Some row
unfolding deposits_of
still_there rs more i row is =
    rw (fold-append with_deposit [] rs more) (keeps_place (deposits_of rs) more i row is)

-- a known bag stays known
still_known : (rs more : List Record) (slot : SlotName) → is_some (known_of slot rs) ≡ true
    → is_some (known_of slot (rs ++ more)) ≡ true
still_known rs more slot is =
    rw (
      known_by_any slot (rs ++ more),
      list_any-append (says_known slot) rs more,
      ← known_by_any slot rs,
      is,
    )

still_settled : (rs more : List Record) (place : ℕ) → is_settled rs place ≡ true
    → is_settled (rs ++ more) place ≡ true
still_settled rs more place is = go (slice_get (deposits_of rs) place) refl is
  where
    go : (o : Option (SlotName × BagId)) → slice_get (deposits_of rs) place ≡ o
        → known_at rs (option_map (λ (row : SlotName × BagId). row.0) o) ≡ true
        → is_settled (rs ++ more) place ≡ true
    go None e h = absurd (cc h)
    go (Some row) e h = rw (still_there rs more place row e) (still_known rs more row.0 h)

pub are_still_settled : (rs more : List Record) (before : ℕ) → AreSettled rs before
    → AreSettled (rs ++ more) before
are_still_settled rs more before are place less = still_settled rs more place (are place less)
