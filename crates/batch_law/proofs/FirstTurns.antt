-- The first so many new records of a batch are those of its first turns.
use Rattle.std.proofs.Common.{◌≡◌, inl, inr, ℕ, zero, suc, false, List, [], ◌∷◌, ◌++◌, take, Option}
use Rattle.std.proofs.Common.{Result, refl, sym, ◌∙◌, append-nil, append_assoc}
use Rattle.std.proofs.Math.Seq.{take-nil}
use Rattle.std.proofs.lemmas.List.{append_cancel_left}
use Rattle.bag_tree.specs.declared.fault.TreeFault.{TreeFault}
use Rattle.bag_tree.specs.Facts.{TreeFacts}
use Rattle.records.specs.declared.record.Record.{Record}
use Rattle.book.specs.declared.waiting.Waiting.{Waiting}
use Rattle.site.specs.Batches.{no_cell}
use Rattle.site.proofs.Batched.{Grows}
use Rattle.udp_site.specs.Requests.{request_of}
use Rattle.udp_site.specs.Turns.{Serving, members, turn_of}
use Rattle.udp_site.specs.Served.{Turned}
use Rattle.udp_site.specs.BatchTurns.{Follow}
use Rattle.udp_site.proofs.WaitingTurns.{followed, followed_by}
use Rattle.batch_law.proofs.OneRecord.{OneMore, turned}

module _ (addresses : List ℕ) (gives : Option (List ℕ → Result TreeFacts TreeFault)) where
  abbrev Leads : (old : Serving Waiting) → List Turned → (next : Serving Waiting) → Type 0
  Leads old turns next = Follow (turn_of no_cell addresses gives) old turns next

  -- these turns come first, and make the first k of the new records
  abbrev pub Firsts : (old next : Serving Waiting) → List Turned → (k : ℕ) → Type 0
  Firsts old next turns k =
      (first : List Turned) × (later : List Turned) × (first ++ later ≡ turns)
      × (mid : Serving Waiting) × Leads old first mid
      × ((new : List Record) → next.site.book.records ≡ old.site.book.records ++ new
      → mid.site.book.records ≡ old.site.book.records ++ take k new)

  pub firsts : (turns : List Turned) (old next : Serving Waiting) (k : ℕ)
      → old.site.book.needs_opening ≡ false → Leads old turns next → Firsts old next turns k
  firsts [] old next k opened follow = (
    [],
    [],
    refl,
    old,
    refl,
    λ new are.
        let none : new ≡ [] = append_cancel_left old.site.book.records new []
        (cc (are, follow, append-nil old.site.book.records)) in
        rw (none, take-nil, append-nil),
  )
  firsts (turn ∷ turns) old next k opened (mid, comes, follow) =
      go (λ m. firsts turns mid next m open_mid follow) k
      (turned addresses gives old mid turn.done opened
      (request_of (members old).federation turn.took) comes)
    where
      first_grows : Grows old.site.book mid.site.book
      first_grows =
          followed_by addresses gives old old mid [] turn opened refl comes

      open_mid : mid.site.book.needs_opening ≡ false
      open_mid = first_grows.opened ∙ opened

      later_grows : Grows mid.site.book next.site.book
      later_grows = followed addresses gives mid next turns open_mid follow

      go : ((m : ℕ) → Firsts mid next turns m) → (n : ℕ)
          → OneMore old.site.book.records mid.site.book.records
          → Firsts old next (turn ∷ turns) n
      go those n (inl same) =
          let rest = those n in (
            turn ∷ rest.0,
            rest.1,
            cc rest.2,
            rest.3,
            (mid, comes, rest.4),
            λ new are. rw (← same) (rest.5 new (rw same are)),
          )
      go those zero (inr one) = (
        [],
        turn ∷ turns,
        refl,
        old,
        refl,
        λ new are. sym (append-nil old.site.book.records),
      )
      go those (suc n) (inr (r, is)) =
          let rest = those n in (
            turn ∷ rest.0,
            rest.1,
            cc rest.2,
            rest.3,
            (mid, comes, rest.4),
            λ new are.
                let more = later_grows.more in
                let xs = old.site.book.records in
                let new_is : r ∷ more ≡ new = append_cancel_left xs (r ∷ more) new
                (cc (are, later_grows.records, is, append_assoc xs (r ∷ []) more)) in
                rw (← new_is)
                (cc (
                  rest.5 more later_grows.records,
                  is,
                  append_assoc xs (r ∷ []) (take n more),
                )),
          )
