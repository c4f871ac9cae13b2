-- Whether a bag is known for a slot, and which deposits wait.
use Rattle.std.proofs.Common.{◌||◌, ◌≡◌, ℕ, ◌+◌, ◌-◌, ◌<◌, ◌≤◌, Bool, true, false, is_some, List}
use Rattle.std.proofs.Common.{[], ◌∷◌, length, Option, Some, None, arith, Result, Ok, Err, refl}
use Rattle.std.proofs.Common.{subst, filter_map, fold, slice_get, find, option_map}
use Rattle.std.specs.List.{cons_option, list_any, range_with_len}
use Rattle.std.specs.Option.{option_or}
use Rattle.std.proofs.lemmas.List.Folds.{find-append}
use Rattle.std.proofs.lemmas.List.{length-append}
use Rattle.std.proofs.lemmas.Option.{slice_get_within}
use Rattle.fed_types.specs.declared.bag_id.BagId.{BagId}
use Rattle.fed_types.specs.Slots.{SlotName}
use Rattle.records.specs.declared.entry.Entry.{Entry}
use Rattle.records.specs.declared.record.Record.{Record}
use Rattle.records.specs.SlotStates.{entry_of, entries, first, if_some, known_in, known_of}
use Rattle.records.specs.SlotStates.{deposit_of, deposit_in}
use Rattle.slot_table.specs.Rows.{Rows, row_at}
use Rattle.site.specs.Contents.{deposits_of, with_deposit, with_bag, unless_there}
use Rattle.site.specs.Calls.{reply_of, reply_by}
use Rattle.site.specs.declared.answer.Reply.{Reply}
use Rattle.site.specs.declared.answer.Reply.TheVariants as replies
use Rattle.site.specs.declared.fault.SiteFault.{SiteFault}
use Rattle.site.specs.declared.fault.SiteFault.TheVariants as faults
use Rattle.udp_site.specs.inner.SlotRecords.{known_at, is_settled, says_known}
use Rattle.udp_site.specs.Rounds.{waits_at, waits, next_waiting}

first_there : (o : Option BagId) (bags : List BagId) (b : Bool) → is_some (first bags) ≡ b
    → is_some (first (cons_option o bags)) ≡ is_some o || b
first_there None bags b e = e
first_there (Some bag) bags b e = refl

known_there : (o : Option Entry) (es : List Entry) (b : Bool)
    → is_some (first (filter_map known_in es)) ≡ b
    → is_some (first (filter_map known_in (cons_option o es))) ≡ is_some (if_some known_in o) || b
known_there None es b e = e
known_there (Some entry) es b e = first_there (known_in entry) (filter_map known_in es) b e

-- a bag is known where some record says so
pub known_by_any : (slot : SlotName) (rs : List Record)
    → is_some (known_of slot rs) ≡ list_any (says_known slot) rs
unfolding known_of
known_by_any slot [] = refl
known_by_any slot (r ∷ rs) =
    known_there (entry_of slot r) (entries slot rs) (list_any (says_known slot) rs)
    (known_by_any slot rs)

-- the reply is that a bag is known
abbrev pub is_known : Reply BagId → Bool
is_known (replies.Known bag) = true
is_known reply = false

known_by : (known own : Option BagId) → is_known (reply_by known own) ≡ is_some known
known_by (Some bag) own = refl
known_by None (Some own) = refl
known_by None None = refl

known_by_reply : (slot : SlotName) (rs : List Record)
    → is_known (reply_of slot rs) ≡ is_some (known_of slot rs)
unfolding reply_of
known_by_reply slot rs = known_by (known_of slot rs) (deposit_of slot rs)

-- what a query replies says whether a bag is known
pub known_as_replied : (slot : SlotName) (rs : List Record) (shut : Bool)
    (result : Result (Reply BagId) SiteFault) (reply : Reply BagId)
    → (shut ≡ false → result ≡ Ok (reply_of slot rs))
    → (shut ≡ true → result ≡ Err faults.NeedsOpen) → result ≡ Ok reply
    → is_known reply ≡ is_some (known_of slot rs)
known_as_replied slot rs true result reply replied needs_open is =
    absurd (cc (is, needs_open refl))
known_as_replied slot rs false result reply replied needs_open is =
    let same : reply ≡ reply_of slot rs = cc (is, replied refl) in
    rw same (known_by_reply slot rs)

-- the first that waits of the places from this one on, else of those before it
pub next_of_two : (rs : List Record) (from : ℕ)
    → next_waiting rs from
    ≡ option_or (find (waits rs) (range_with_len from (length rs - from)))
    (find (waits rs) (range_with_len 0 (from - 0)))
unfolding next_waiting
next_of_two rs from =
    subst (λ (n : ℕ). next_waiting rs from
    ≡ option_or (find (waits rs) (range_with_len from (length rs - from)))
    (find (waits rs) (range_with_len 0 n))) (omega arith)
    (find-append (waits rs) (range_with_len from (length rs - from)) (range_with_len 0 from))

-- ---- a deposit has a record

unless_there_at_most : (rows : Rows BagId) (slot : SlotName) (bag : BagId) (own : Option BagId)
    → length (unless_there rows slot bag own) ≤ length rows + 1
unless_there_at_most rows slot bag None =
    omega (arith, length-append rows ((slot, bag) ∷ []))
unless_there_at_most rows slot bag (Some own) = omega arith

one_more_at_most : (rows : Rows BagId) (slot : SlotName) (bag : Option BagId)
    → length (with_bag rows slot bag) ≤ length rows + 1
one_more_at_most rows slot None = omega arith
one_more_at_most rows slot (Some bag) = unless_there_at_most rows slot bag (row_at rows slot)

at_most : (rows : Rows BagId) (rs : List Record)
    → length (fold with_deposit rows rs) ≤ length rows + length rs
at_most rows [] = omega arith
at_most rows (r ∷ rs) =
    omega (
      arith,
      at_most (with_deposit rows r) rs,
      one_more_at_most rows r.slot (deposit_in r.body),
    )

-- no more deposits than records are there
deposits_within : (rs : List Record) → length (deposits_of rs) ≤ length rs
unfolding deposits_of
deposits_within rs = omega (arith, at_most [] rs)

pub waits_within : (rs : List Record) (place : ℕ) → waits rs place ≡ true → place < length rs
waits_within rs place is = go (slice_get (deposits_of rs) place) refl is
  where
    go : (o : Option (SlotName × BagId)) → slice_get (deposits_of rs) place ≡ o
        → waits_at rs (option_map (λ (row : SlotName × BagId). row.0) o) ≡ true
        → place < length rs
    go None e h = absurd (cc h)
    go (Some row) e h =
        omega (arith, slice_get_within (deposits_of rs) place row e, deposits_within rs)

-- past all records no deposit stands, so none is settled there
pub past_all : (rs : List Record) (place : ℕ) → length rs ≤ place → is_settled rs place ≡ false
past_all rs place past = go (slice_get (deposits_of rs) place) refl
  where
    go : (o : Option (SlotName × BagId)) → slice_get (deposits_of rs) place ≡ o
        → known_at rs (option_map (λ (row : SlotName × BagId). row.0) o) ≡ false
    go None e = refl
    go (Some row) e =
        absurd (omega (
          arith,
          slice_get_within (deposits_of rs) place row e,
          deposits_within rs,
          past,
        ))
