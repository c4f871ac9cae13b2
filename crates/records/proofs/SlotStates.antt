-- What one more record makes of each word.
use Rattle.std.proofs.Common.{◌≡◌, max, List, [], ◌∷◌, ◌++◌, Option, Some, None, refl, sym}
use Rattle.std.specs.Prelude.{fold, filter_map}
use Rattle.std.specs.List.{cons_option}
use Rattle.fed_types.specs.Slots.{SlotName}
use Rattle.records.specs.declared.entry.Entry.{Entry}
use Rattle.records.specs.declared.record.Record.{Record}
use Rattle.records.specs.SlotStates.{entry_of, entries, higher, earlier, first, with_one, if_some}
use Rattle.records.specs.SlotStates.{said_in, ballot_in, vote_in, round_in, deposit_in, known_in}
use Rattle.records.specs.SlotStates.{promised_of, vote_of, used_of, deposit_of, known_of}

-- what is said of a slot, of one kind
abbrev pub all_said : {X : Type 0} → (Entry → Option X) → SlotName → List Record → List X
all_said kind slot rs = filter_map kind (entries slot rs)

module _ {A X : Type 0} (step : A → X → A) where
  -- of what one record says, and what others say
  fold_cons : (a : A) (o : Option X) (xs : List X)
      → fold step a (cons_option o xs) ≡ fold step (with_one step a o) xs
  fold_cons a None xs = refl
  fold_cons a (Some x) xs = refl

  said_cons : (kind : Entry → Option X) (o : Option Entry) (es : List Entry) (a : A)
      → fold step a (filter_map kind (cons_option o es))
      ≡ fold step (with_one step a (if_some kind o)) (filter_map kind es)
  said_cons kind None es a = refl
  said_cons kind (Some e) es a = fold_cons a (kind e) (filter_map kind es)

  pub fold-push : (kind : Entry → Option X) (slot : SlotName) (rs : List Record) (r : Record)
      (a : A) → fold step a (all_said kind slot (rs ++ r ∷ []))
      ≡ with_one step (fold step a (all_said kind slot rs)) (said_in kind slot r)
  fold-push kind slot [] r a = said_cons kind (entry_of slot r) [] a
  fold-push kind slot (s ∷ rs) r a = rw (
    said_cons kind (entry_of slot s) (entries slot (rs ++ r ∷ [])) a,
    said_cons kind (entry_of slot s) (entries slot rs) a,
  ) (fold-push kind slot rs r (with_one step a (said_in kind slot s)))

-- the first of a list is what the first of two gives, from the left
keeps_first : {X : Type 0} (x : X) (xs : List X) → fold earlier (Some x) xs ≡ Some x
keeps_first x [] = refl
keeps_first x (y ∷ xs) = keeps_first x xs

first_is : {X : Type 0} (xs : List X) → first xs ≡ fold earlier None xs
first_is [] = refl
first_is (x ∷ xs) = sym (keeps_first x xs)

first-push : {X : Type 0} (kind : Entry → Option X) (slot : SlotName) (rs : List Record)
    (r : Record) → first (all_said kind slot (rs ++ r ∷ []))
    ≡ with_one earlier (first (all_said kind slot rs)) (said_in kind slot r)
first-push kind slot rs r =
    rw (first_is (all_said kind slot (rs ++ r ∷ [])), first_is (all_said kind slot rs))
    (fold-push earlier kind slot rs r None)

pub promised-push : (slot : SlotName) (rs : List Record) (r : Record)
    → promised_of slot (rs ++ r ∷ [])
    ≡ with_one (higher (λ b. b)) (promised_of slot rs) (said_in ballot_in slot r)
unfolding promised_of
promised-push slot rs r = fold-push (higher (λ b. b)) ballot_in slot rs r None

pub vote-push : (slot : SlotName) (rs : List Record) (r : Record)
    → vote_of slot (rs ++ r ∷ [])
    ≡ with_one (higher (λ v. v.ballot)) (vote_of slot rs) (said_in vote_in slot r)
unfolding vote_of
vote-push slot rs r = fold-push (higher (λ v. v.ballot)) vote_in slot rs r None

pub used-push : (slot : SlotName) (rs : List Record) (r : Record)
    → used_of slot (rs ++ r ∷ []) ≡ with_one max (used_of slot rs) (said_in round_in slot r)
unfolding used_of
used-push slot rs r = fold-push max round_in slot rs r 0

pub deposit-push : (slot : SlotName) (rs : List Record) (r : Record)
    → deposit_of slot (rs ++ r ∷ [])
    ≡ with_one earlier (deposit_of slot rs) (said_in deposit_in slot r)
unfolding deposit_of
deposit-push slot rs r = first-push deposit_in slot rs r

pub known-push : (slot : SlotName) (rs : List Record) (r : Record)
    → known_of slot (rs ++ r ∷ []) ≡ with_one earlier (known_of slot rs) (said_in known_in slot r)
unfolding known_of
known-push slot rs r = first-push known_in slot rs r
