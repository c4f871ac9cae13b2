-- The deposits that records say, in their order.
use Rattle.std.proofs.Common.{◌≡◌, Bool, true, false, cond, List, [], ◌∷◌, ◌++◌}
use Rattle.std.proofs.Common.{Option, Some, None, refl, sym, ap, ◌∙◌, append-nil, append_assoc}
use Rattle.std.proofs.lemmas.List.Sums.{fold-append}
use Rattle.std.specs.Prelude.{fold}
use Rattle.fed_types.specs.declared.bag_id.BagId.{BagId}
use Rattle.fed_types.specs.Laws.Slots.{same_slot_decides}
use Rattle.fed_types.specs.Slots.{SlotName, same_slot}
use Rattle.records.specs.declared.entry.Entry.{Entry}
use Rattle.records.specs.declared.entry.Entry.TheVariants as entry
use Rattle.records.specs.declared.record.Record.{Record}
use Rattle.records.specs.SlotStates.{deposit_in, deposit_of, earlier, with_one, if_some}
use Rattle.records.proofs.SlotStates.{deposit-push}
use Rattle.slot_table.specs.Rows.{Rows, row_at, row_or, IsWith}
use Rattle.site.specs.Contents.{unless_there, with_bag, with_deposit, deposits_of}
use Rattle.site.specs.inner.Kept.{AreSame}

-- one record more
pub deposits-push : (records : List Record) (r : Record)
    → deposits_of (records ++ r ∷ []) ≡ with_deposit (deposits_of records) r
unfolding deposits_of
deposits-push records r = fold-append with_deposit [] records (r ∷ [])

-- what a record says that is no Deposit
pub says_no_deposit : (e : Entry) → ((bag : BagId) → e ≡ entry.Deposit bag → ⊥)
    → deposit_in e ≡ None
says_no_deposit (entry.Deposit bag) other = absurd (other bag refl)
says_no_deposit (entry.Round round) other = refl
says_no_deposit (entry.Promise ballot) other = refl
says_no_deposit (entry.Vote vote) other = refl
says_no_deposit (entry.Known bag) other = refl

-- ---- the deposit of one slot

-- one more at the end
row_at-push : (rows : Rows BagId) (slot s : SlotName) (bag : BagId)
    → row_at (rows ++ (slot, bag) ∷ []) s
    ≡ with_one earlier (row_at rows s) (cond (same_slot s slot) (Some bag) None)
row_at-push [] slot s bag = go (same_slot s slot)
  where
    go : (t : Bool) → cond t (Some bag) None ≡ with_one earlier None (cond t (Some bag) None)
    go true = refl
    go false = refl
row_at-push (e ∷ rows) slot s bag =
    ap (λ (o : Option BagId). cond (same_slot s e.0) (Some e.1) o) (row_at-push rows slot s bag)
    ∙ go (same_slot s e.0) (cond (same_slot s slot) (Some bag) None)
  where
    go : (t : Bool) (o : Option BagId)
        → cond t (Some e.1) (with_one earlier (row_at rows s) o)
        ≡ with_one earlier (cond t (Some e.1) (row_at rows s)) o
    go true None = refl
    go true (Some b) = refl
    go false o = refl

-- the test of two slots doesn't ask which is first
same_either : (a b : SlotName) → same_slot a b ≡ same_slot b a
same_either a b = go (same_slot a b) (same_slot b a) refl refl
  where
    go : (t u : Bool) → same_slot a b ≡ t → same_slot b a ≡ u → t ≡ u
    go true true e f = refl
    go false false e f = refl
    go true false e f = sym ((same_slot_decides b a).1 (sym ((same_slot_decides a b).0 e))) ∙ f
    go false true e f = sym e ∙ (same_slot_decides a b).1 (sym ((same_slot_decides b a).0 f))

-- the deposit of a slot that had none, by slot too
pub kept_push : (in_order : Rows BagId) (old new : Rows (Option BagId)) (slot : SlotName)
    (bag : BagId) → AreSame in_order old → row_at in_order slot ≡ None
    → IsWith old new slot (Some bag) → AreSame (in_order ++ (slot, bag) ∷ []) new
kept_push in_order old new slot bag same none put s =
    ap (row_or None) (put s) ∙ go (same_slot slot s) refl
    ∙ sym (row_at-push in_order slot s bag
    ∙ ap (λ (t : Bool). with_one earlier (row_at in_order s) (cond t (Some bag) None))
    (same_either s slot))
  where
    go : (t : Bool) → same_slot slot s ≡ t
        → row_or None (cond t (Some (Some bag)) (row_at old s))
        ≡ with_one earlier (row_at in_order s) (cond t (Some bag) None)
    go true e =
        sym (ap (λ (o : Option BagId). with_one earlier o (Some bag))
        (ap (row_at in_order) (sym ((same_slot_decides slot s).0 e)) ∙ none))
    go false e = same s

-- what one record makes of a slot's deposit
bag_step : (rows : Rows BagId) (slot s : SlotName) (bag : BagId) (o : Option BagId)
    → row_at rows slot ≡ o
    → row_at (unless_there rows slot bag o) s
    ≡ with_one earlier (row_at rows s) (cond (same_slot slot s) (Some bag) None)
bag_step rows slot s bag None e =
    row_at-push rows slot s bag
    ∙ ap (λ (t : Bool). with_one earlier (row_at rows s) (cond t (Some bag) None))
    (same_either s slot)
bag_step rows slot s bag (Some own) e = go (same_slot slot s) refl
  where
    go : (t : Bool) → same_slot slot s ≡ t
        → row_at rows s ≡ with_one earlier (row_at rows s) (cond t (Some bag) None)
    go true f =
        let here : row_at rows s ≡ Some own =
        ap (row_at rows) (sym ((same_slot_decides slot s).0 f)) ∙ e in
        here ∙ sym (ap (λ (x : Option BagId). earlier x bag) here)
    go false f = refl

record_step : (rows : Rows BagId) (slot s : SlotName) (body : Entry) (said : Option BagId)
    → deposit_in body ≡ said
    → row_at (with_bag rows slot said) s
    ≡ with_one earlier (row_at rows s)
    (if_some deposit_in (cond (same_slot slot s) (Some body) None))
record_step rows slot s body None e = go (same_slot slot s)
  where
    go : (t : Bool) → row_at rows s
        ≡ with_one earlier (row_at rows s) (if_some deposit_in (cond t (Some body) None))
    go true = ap (with_one earlier (row_at rows s)) (sym e)
    go false = refl
record_step rows slot s body (Some bag) e =
    bag_step rows slot s bag (row_at rows slot) refl ∙ go (same_slot slot s)
  where
    go : (t : Bool) → with_one earlier (row_at rows s) (cond t (Some bag) None)
        ≡ with_one earlier (row_at rows s) (if_some deposit_in (cond t (Some body) None))
    go true = ap (with_one earlier (row_at rows s)) (sym e)
    go false = refl

-- so it goes on from what earlier records say
deposit_from : (s : SlotName) (rest before : List Record) (rows : Rows BagId)
    → row_at rows s ≡ deposit_of s before
    → row_at (fold with_deposit rows rest) s ≡ deposit_of s (before ++ rest)
deposit_from s [] before rows is = is ∙ ap (deposit_of s) (sym (append-nil before))
deposit_from s (r ∷ rest) before rows is =
    deposit_from s rest (before ++ r ∷ []) (with_deposit rows r)
    (record_step rows r.slot s r.body (deposit_in r.body) refl
    ∙ ap (λ (o : Option BagId). with_one earlier o
    (if_some deposit_in (cond (same_slot r.slot s) (Some r.body) None))) is
    ∙ sym (deposit-push s before r))
    ∙ ap (deposit_of s) (append_assoc before (r ∷ []) rest)

-- the deposit of a slot is the one that the records say
pub deposit_at : (s : SlotName) (records : List Record)
    → row_at (deposits_of records) s ≡ deposit_of s records
unfolding deposits_of deposit_of
deposit_at s records = deposit_from s records [] [] refl
