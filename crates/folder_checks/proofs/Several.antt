-- Texts with a name before each line, and checks of several folders, one after another.
use Rattle.std.proofs.Common.{◌≡◌, ℕ, ◌+◌, ◌<◌, ◌≤◌, Bool, ◌&&◌, true, List, [], ◌∷◌, ◌++◌}
use Rattle.std.proofs.Common.{length, take, drop, map, get_or, nat_eq, Option, None, Some}
use Rattle.std.proofs.Common.{Result, Ok, Err, IfSome, inr}
use Rattle.std.proofs.Common.{refl, sym, ap, ◌∙◌, subst, append_assoc, append-nil}
use Rattle.std.specs.Result.{IfOk, OnErr, IsErrOf}
use Rattle.std.specs.Io.KnownBytes.{Appends}
use Rattle.std.proofs.Math.Bool.{and-true}
use Rattle.std.proofs.Math.Seq.{take-append-add}
use Rattle.std.proofs.lemmas.List.{take_more, length-map, get_or-map}
use Rattle.std.proofs.lemmas.List.{at_drop_more, at_drop_all}
use Rattle.std.proofs.lemmas.List.Folds.{list_all-append}
use Rattle.std.proofs.lemmas.Grind.{flat_map-append}
use Rattle.outcomes.proofs.KnownBytes.{Appends-trans}
use Rattle.bag_tree.specs.declared.fault.TreeFault.{TreeFault}
use Rattle.bag_tree.specs.Facts.{TreeFacts}
use Rattle.folder_checks.specs.declared.report.Report.{Report}
use Rattle.outcomes.specs.Outcomes.{Outcome, Writes, WritesPrefix, no_memory}
use Rattle.outcomes.specs.declared.fault.ProgramFault.{ProgramFault}
use Rattle.outcomes.specs.declared.fault.ProgramFault.TheVariants as ProgramFaults
use Rattle.folder_checks.specs.Reports.{name_where, named_from, IsReport, AreReports}
use Rattle.folder_checks.specs.Reports.{all_valid, all_of, ReportsAll}

-- what is left of a text, with the name where its first line begins
named_next : (name : List ℕ) (begins : Bool) (text : List ℕ) (i : ℕ) → i < length text
    → named_from name begins (drop i text)
    ≡ name_where begins name ++ get_or text i 0
    ∷ named_from name (nat_eq (get_or text i 0) 10) (drop (i + 1) text)
unfolding named_from
named_next name begins text i within = at_drop_more (named_from name begins) text i 0 within

-- a byte more was written, after the name where a line begins
pub byte_named : (name : List ℕ) (begins : Bool) (text : List ℕ) (i : ℕ)
    (whole before between after : List ℕ) → i < length text
    → before ++ named_from name begins (drop i text) ≡ whole
    → between ≡ before ++ name_where begins name → after ≡ between ++ get_or text i 0 ∷ []
    → after ++ named_from name (nat_eq (get_or text i 0) 10) (drop (i + 1) text) ≡ whole
byte_named name begins text i whole before between after within is first second =
    let byte = get_or text i 0 in
    let rest = named_from name (nat_eq byte 10) (drop (i + 1) text) in
    ap (λ b. b ++ rest) (second ∙ ap (λ b. b ++ byte ∷ []) first)
    ∙ (append_assoc (before ++ name_where begins name) (byte ∷ []) rest
    ∙ (append_assoc before (name_where begins name) (byte ∷ rest)
    ∙ (ap (λ t. before ++ t) (sym (named_next name begins text i within)) ∙ is)))

-- no byte is left
pub all_named : (name : List ℕ) (begins : Bool) (text : List ℕ) (i : ℕ) (whole bytes : List ℕ)
    → length text ≤ i → bytes ++ named_from name begins (drop i text) ≡ whole → bytes ≡ whole
unfolding named_from
all_named name begins text i whole bytes past is =
    sym (append-nil bytes)
    ∙ (ap (λ t. bytes ++ t) (sym (at_drop_all (named_from name begins) text i past)) ∙ is)

-- one folder more
pub AreReports-more : (report : Report) (gives : List ℕ → Result TreeFacts TreeFault)
    (place : Option (List ℕ)) (paths : List (List ℕ)) (path : List ℕ) (outcomes : List Outcome)
    (outcome : Outcome) → AreReports report gives place paths outcomes
    → IsReport report (gives path) place path outcome
    → AreReports report gives place (paths ++ path ∷ []) (outcomes ++ outcome ∷ [])
unfolding AreReports
AreReports-more report gives place [] path [] outcome are is = (is, tt)
AreReports-more report gives place [] path (o ∷ os) outcome are is = absurd are
AreReports-more report gives place (p ∷ ps) path [] outcome are is = absurd are
AreReports-more report gives place (p ∷ ps) path (o ∷ os) outcome are is =
    (are.0, AreReports-more report gives place ps path os outcome are.1 is)

-- the folders of these paths have their lines, and it is known whether all are valid
abbrev pub HaveReports : Report → (List ℕ → Result TreeFacts TreeFault) → Option (List ℕ)
    → List (List ℕ) → Bool → Option (List ℕ) → Option (List ℕ) → Type 0
HaveReports report gives place paths valid old new =
    (outcomes : List Outcome) × AreReports report gives place paths outcomes
    × (valid ≡ all_valid outcomes) × Appends old new (all_of outcomes).text

module _ (report : Report) (gives : List ℕ → Result TreeFacts TreeFault) (place : Option (List ℕ))
  where
    pub none_have : (old : Option (List ℕ)) → HaveReports report gives place [] true old old
    unfolding AreReports
    none_have None = ([], tt, refl, tt)
    none_have (Some bytes) = ([], tt, refl, sym (append-nil bytes))

    valid_more : (outcomes : List Outcome) (outcome : Outcome) (valid : Bool) (status : ℕ)
        → valid ≡ all_valid outcomes → status ≡ outcome.status
        → (valid && nat_eq status 0) ≡ all_valid (outcomes ++ outcome ∷ [])
    valid_more outcomes outcome valid status are is =
        ap (λ v. v && nat_eq status 0) are
        ∙ (ap (λ s. all_valid outcomes && nat_eq s 0) is
        ∙ (ap (λ v. all_valid outcomes && v) (sym (and-true (nat_eq outcome.status 0)))
        ∙ sym (list_all-append (λ o. nat_eq o.status 0) outcomes (outcome ∷ []))))

    text_more : (outcomes : List Outcome) (outcome : Outcome)
        → (all_of outcomes).text ++ outcome.text ≡ (all_of (outcomes ++ outcome ∷ [])).text
    text_more outcomes outcome =
        sym (flat_map-append (λ o. o.text) outcomes (outcome ∷ [])
        ∙ ap (λ t. (all_of outcomes).text ++ t) (append-nil outcome.text))

    pub one_has : (paths : List (List ℕ)) (path : List ℕ) (outcome : Outcome) (valid : Bool)
        (status : ℕ) (old between new : Option (List ℕ))
        → HaveReports report gives place paths valid old between
        → IsReport report (gives path) place path outcome → Writes between new status outcome
        → HaveReports report gives place (paths ++ path ∷ []) (valid && nat_eq status 0) old new
    one_has paths path outcome valid status old between new (outcomes, are, all, text) is
        (same, more) = (
          outcomes ++ outcome ∷ [],
          AreReports-more report gives place paths path outcomes outcome are is,
          valid_more outcomes outcome valid status all same,
          subst (Appends old new) (text_more outcomes outcome)
              (Appends-trans old between new (all_of outcomes).text outcome.text text more),
        )

-- one path more
pub map_next : {X : Type 0} (f : X → List ℕ) (xs : List X) (i : ℕ) (d : X) → i < length xs
    → take (i + 1) (map f xs) ≡ take i (map f xs) ++ f (get_or xs i d) ∷ []
map_next f xs i d within =
    take_more (map f xs) i (f d) (subst (λ n. i < n) (sym (length-map xs f)) within)
    ∙ ap (λ path. take i (map f xs) ++ path ∷ []) (get_or-map f xs i d (f d) within)

-- an outcome of a folder, and how far a writer took it
abbrev pub HasReport : Report → Option (List ℕ → Result TreeFacts TreeFault) → Option (List ℕ)
    → List ℕ → (Outcome → Type 0) → Type 0
HasReport report known place path P = IfSome known
    (λ gives. (outcome : Outcome) × IsReport report (gives path) place path outcome × P outcome)

module _ (report : Report) (known : Option (List ℕ → Result TreeFacts TreeFault))
    (place : Option (List ℕ)) where
  pub before_all : (old : Option (List ℕ))
      → IfSome known (λ gives. HaveReports report gives place [] true old old)
  before_all old = go known
    where
      go : (known : Option (List ℕ → Result TreeFacts TreeFault))
          → IfSome known (λ gives. HaveReports report gives place [] true old old)
      go None = tt
      go (Some gives) = none_have report gives place old

  -- there was no room for a folder's lines
  pub no_room : (path : List ℕ) (result : Result ℕ ProgramFault) (old new : Option (List ℕ))
      → IfOk result (λ given. (given ≡ 1) × Appends old new no_memory.text)
      → IfOk result (λ status. HasReport report known place path (Writes old new status))
  no_room path (Err fault) old new is = tt
  no_room path (Ok status) old new is = go known
    where
      go : (known : Option (List ℕ → Result TreeFacts TreeFault))
          → HasReport report known place path (Writes old new status)
      go None = tt
      go (Some gives) = (no_memory, inr refl, is)

  pub no_room_stopped : (path : List ℕ) (result : Result ℕ ProgramFault)
      (old new : Option (List ℕ)) → OnErr result ((result ≡ Err ProgramFaults.Output)
      × ((n : ℕ) × Appends old new (take n no_memory.text)))
      → IsErrOf result ProgramFaults.Output
      → HasReport report known place path (WritesPrefix old new)
  no_room_stopped path result old new stops is = go known
    where
      written : (n : ℕ) × Appends old new (take n no_memory.text)
      written = (subst (λ r. OnErr r ((result ≡ Err ProgramFaults.Output)
          × ((n : ℕ) × Appends old new (take n no_memory.text)))) is stops).1

      go : (known : Option (List ℕ → Result TreeFacts TreeFault))
          → HasReport report known place path (WritesPrefix old new)
      go None = tt
      go (Some gives) = (no_memory, inr refl, written)

-- the first of these paths have their lines, and this path is next; what is known of reads, and
-- where they fail, is as it was
pub record IsNext (report : Report) (known now : Option (List ℕ → Result TreeFacts TreeFault))
    (place at : Option (List ℕ)) (paths : List (List ℕ)) (i : ℕ) (path : List ℕ) (valid : Bool)
    (old between : Option (List ℕ)) : Type 0 where
  pub next : take (i + 1) paths ≡ take i paths ++ path ∷ []
  pub same : now ≡ known
  pub same_place : at ≡ place
  pub so_far : IfSome known
      (λ gives. HaveReports report gives place (take i paths) valid old between)

module _ {report : Report} {known now : Option (List ℕ → Result TreeFacts TreeFault)}
    {place at : Option (List ℕ)} {paths : List (List ℕ)} {i : ℕ} {path : List ℕ} {valid : Bool}
    {old between : Option (List ℕ)}
    (is : IsNext report known now place at paths i path valid old between)
    (new : Option (List ℕ)) where
  moved : (P : Outcome → Type 0) → HasReport report now at path P
      → HasReport report known place path P
  moved P has =
      subst (λ k. HasReport report k place path P) is.same
      (subst (λ p. HasReport report now p path P) is.same_place has)

  -- one folder more has its lines
  pub one_more : (status : ℕ) (are : Bool)
      → HasReport report now at path (Writes between new status)
      → are ≡ (valid && nat_eq status 0)
      → IfSome known (λ gives. HaveReports report gives place (take (i + 1) paths) are old new)
  one_more status are has all = go known is.so_far (moved (Writes between new status) has)
    where
      go : (known : Option (List ℕ → Result TreeFacts TreeFault))
          → IfSome known
          (λ gives. HaveReports report gives place (take i paths) valid old between)
          → HasReport report known place path (Writes between new status)
          → IfSome known (λ gives. HaveReports report gives place (take (i + 1) paths) are old new)
      go None before one = tt
      go (Some gives) before (outcome, is_one, writes) =
          subst (λ v. HaveReports report gives place (take (i + 1) paths) v old new) (sym all)
          (subst (λ ps. HaveReports report gives place ps (valid && nat_eq status 0) old new)
          (sym is.next)
          (one_has report gives place (take i paths) path outcome valid status old between new
          before is_one writes))

  -- a writer took a part of one folder's lines
  pub stopped : HasReport report now at path (WritesPrefix between new)
      → IfSome known (λ gives. (count : ℕ)
      × ReportsAll report gives place (take count paths) (WritesPrefix old new))
  stopped has = go known is.so_far (moved (WritesPrefix between new) has)
    where
      go : (known : Option (List ℕ → Result TreeFacts TreeFault))
          → IfSome known
          (λ gives. HaveReports report gives place (take i paths) valid old between)
          → HasReport report known place path (WritesPrefix between new)
          → IfSome known (λ gives. (count : ℕ)
          × ReportsAll report gives place (take count paths) (WritesPrefix old new))
      go None before one = tt
      go (Some gives) (outcomes, are, all, text) (outcome, is_one, part) =
          let front = (all_of outcomes).text in
          let more = text_more report gives place outcomes outcome in (
            i + 1,
            (
              outcomes ++ outcome ∷ [],
              subst (λ ps. AreReports report gives place ps (outcomes ++ outcome ∷ []))
                  (sym is.next)
                  (AreReports-more report gives place (take i paths) path outcomes outcome are
                  is_one),
              (
                length front + part.0,
                subst (Appends old new)
                    (sym (take-append-add front outcome.text part.0)
                    ∙ ap (take (length front + part.0)) more)
                    (Appends-trans old between new front (take part.0 outcome.text) text part.1),
              ),
            ),
          )
