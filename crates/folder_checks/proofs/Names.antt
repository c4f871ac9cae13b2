-- Checks of folders by their names, one after another.
use Rattle.std.proofs.Common.{◌≡◌, ℕ, ◌+◌, ◌<◌, Bool, ◌&&◌, true, false, List, [], ◌∷◌, ◌++◌}
use Rattle.std.proofs.Common.{codes, arith}
use Rattle.std.specs.Prelude.{◌==◌}
use Rattle.std.specs.List.{slice_split}
use Rattle.std.specs.Str.{IsUtf8, is_utf8}
use Rattle.std.proofs.lemmas.Str.{IsUtf8-from_is_utf8, is_utf8-from_IsUtf8}
use Rattle.std.proofs.Common.{length, take, nat_eq, Option, None, Some}
use Rattle.std.proofs.Common.{Result, Ok, Err, IfSome, inr}
use Rattle.std.proofs.Common.{refl, sym, ap, ◌∙◌, subst, append-nil}
use Rattle.std.specs.Result.{IfOk, OnErr, IsErrOf}
use Rattle.std.specs.Io.KnownBytes.{Appends}
use Rattle.std.proofs.Math.Bool.{and-true}
use Rattle.std.proofs.Math.Seq.{take-append-add}
use Rattle.std.proofs.lemmas.List.Folds.{list_all-append}
use Rattle.std.proofs.lemmas.Grind.{flat_map-append}
use Rattle.outcomes.proofs.KnownBytes.{Appends-trans}
use Rattle.bag_tree.specs.declared.fault.TreeFault.{TreeFault}
use Rattle.bag_tree.specs.declared.fault.TreeFault.TheVariants.{Listing}
use Rattle.bag_tree.specs.Facts.{TreeFacts}
use Rattle.std.specs.String.{string_bytes}
use Rattle.std.specs.declared.alloc.AllocError.{AllocError}
use Rattle.outcomes.specs.Outcomes.{Outcome, Writes, WritesPrefix}
use Rattle.outcomes.specs.declared.program_output.ProgramOutput.{ProgramOutput}
use Rattle.outcomes.specs.declared.fault.ProgramFault.{ProgramFault}
use Rattle.outcomes.specs.declared.fault.ProgramFault.TheVariants as ProgramFaults
use Rattle.folder_checks.specs.declared.report.Report.{Report}
use Rattle.folder_checks.specs.declared.report.Detail.TheVariants.{Brief}
use Rattle.folder_checks.specs.declared.report.Question.{Question}
use Rattle.folder_checks.specs.declared.report.Question.TheVariants.{Validity, Completeness}
use Rattle.folder_checks.specs.declared.verdict.Verdict.TheVariants.{Unread}
use Rattle.folder_checks.specs.Verdicts.{outcome_of_verdict}
use Rattle.folder_checks.specs.Reports.{all_valid, all_of, TellsFor, TellsBy}
use Rattle.folder_checks.specs.Names.{AreOf, EndsAll, names_of, without_end, read_of, place_of}

-- what reads of folders give
abbrev pub Given : Type 0
Given = List ℕ → Result TreeFacts TreeFault

-- a list of no bytes has no names
pub no_names : (end : ℕ) (bytes : List ℕ) → length bytes ≡ 0 → [] ≡ names_of end bytes
unfolding names_of
no_names end [] none = refl
no_names end (byte ∷ bytes) none = absurd (omega (arith, none))

-- any other list is split
pub some_names : (end : ℕ) (bytes : List ℕ) → 0 < length bytes
    → names_of end bytes ≡ slice_split (λ b. b == end) (without_end end bytes)
unfolding names_of
some_names end [] some = absurd (omega (arith, some))
some_names end (byte ∷ bytes) some = refl

-- what is so of a folder whose name is UTF-8
pub of_text : {X : Type 0} (P : Result TreeFacts TreeFault → Option (List ℕ) → X → Type 0)
    (known : Option Given) (place : Option (List ℕ)) (path name : List ℕ)
    (r : Result X AllocError) → path ≡ name → IsUtf8 name
    → IfOk r (λ x. IfSome known (λ gives. P (gives path) place x))
    → IfOk r (λ x. IfSome known (λ gives. P (read_of gives name) (place_of place name) x))
of_text P known place path name r same utf8 is =
    rw (is_utf8-from_IsUtf8 name utf8)
    (subst (λ n. IfOk r (λ x. IfSome known (λ gives. P (gives n) place x))) same is)

pub not_text : (name : List ℕ) → ¬ IsUtf8 name → is_utf8 name ≡ false
not_text name not = go (is_utf8 name) refl
  where
    go : (t : Bool) → is_utf8 name ≡ t → is_utf8 name ≡ false
    go true is = absurd (not (IsUtf8-from_is_utf8 name is))
    go false is = is

-- what is so of one whose name isn't
pub of_bytes : {X : Type 0} (P : Result TreeFacts TreeFault → Option (List ℕ) → X → Type 0)
    (known : Option Given) (place : Option (List ℕ)) (name : List ℕ) (r : Result X AllocError)
    → ¬ IsUtf8 name → IfOk r (λ x. P (Err Listing) (Some (codes ".")) x)
    → IfOk r (λ x. IfSome known (λ gives. P (read_of gives name) (place_of place name) x))
of_bytes P known place name (Err e) not is = tt
of_bytes P None place name (Ok x) not is = tt
of_bytes P (Some gives) place name (Ok x) not is = rw (not_text name not) is

-- the answer is one of these
abbrev pub Tells : Report → Result TreeFacts TreeFault → Option (List ℕ) → ProgramOutput → Type 0
Tells report read place a =
    TellsFor report read place
    (λ outcome. (a.status ≡ outcome.status) × (string_bytes a.text ≡ outcome.text))

-- the brief answer for a folder that can't be listed
pub unlisted_brief : (question : Question) (place : Option (List ℕ))
    (r : Result ProgramOutput AllocError)
    → IfOk r (λ a. a.status ≡ (outcome_of_verdict (Unread Listing)).status)
    → IfOk r (λ a. string_bytes a.text ≡ (outcome_of_verdict (Unread Listing)).text)
    → IfOk r (λ a. TellsBy Brief question (Err Listing) place
    (λ outcome. (a.status ≡ outcome.status) × (string_bytes a.text ≡ outcome.text)))
unlisted_brief question place (Err e) status text = tt
unlisted_brief Validity place (Ok a) status text = (Unread Listing, refl, (status, text))
unlisted_brief Completeness place (Ok a) status text = (Unread Listing, refl, (status, text))

-- with which outcomes the check of the folder of a name may end, by where reads fail and what they
-- give
abbrev pub Ends : Type 1
Ends = Option (List ℕ) → Given → List ℕ → Outcome → Type 0

-- one folder more
AreOf-more : (Is : List ℕ → Outcome → Type 0) (names : List (List ℕ)) (name : List ℕ)
    (outcomes : List Outcome) (outcome : Outcome) → AreOf Is names outcomes → Is name outcome
    → AreOf Is (names ++ name ∷ []) (outcomes ++ outcome ∷ [])
unfolding AreOf
AreOf-more Is [] name [] outcome are is = (is, tt)
AreOf-more Is [] name (o ∷ os) outcome are is = absurd are
AreOf-more Is (n ∷ ns) name [] outcome are is = absurd are
AreOf-more Is (n ∷ ns) name (o ∷ os) outcome are is =
    (are.0, AreOf-more Is ns name os outcome are.1 is)

-- the folders of these names have their lines, and it is known whether all are valid
abbrev pub HaveAll : (List ℕ → Outcome → Type 0) → List (List ℕ) → Bool → Option (List ℕ)
    → Option (List ℕ) → Type 0
HaveAll Is names valid old new =
    (outcomes : List Outcome) × AreOf Is names outcomes × (valid ≡ all_valid outcomes)
    × Appends old new (all_of outcomes).text

valid_more : (outcomes : List Outcome) (outcome : Outcome) (valid : Bool) (status : ℕ)
    → valid ≡ all_valid outcomes → status ≡ outcome.status
    → (valid && nat_eq status 0) ≡ all_valid (outcomes ++ outcome ∷ [])
valid_more outcomes outcome valid status are is =
    ap (λ v. v && nat_eq status 0) are
    ∙ (ap (λ s. all_valid outcomes && nat_eq s 0) is
    ∙ (ap (λ v. all_valid outcomes && v) (sym (and-true (nat_eq outcome.status 0)))
    ∙ sym (list_all-append (λ o. nat_eq o.status 0) outcomes (outcome ∷ []))))

text_more : (outcomes : List Outcome) (outcome : Outcome)
    → (all_of outcomes).text ++ outcome.text ≡ (all_of (outcomes ++ outcome ∷ [])).text
text_more outcomes outcome =
    sym (flat_map-append (λ o. o.text) outcomes (outcome ∷ [])
    ∙ ap (λ t. (all_of outcomes).text ++ t) (append-nil outcome.text))

none_have : (Is : List ℕ → Outcome → Type 0) (old : Option (List ℕ)) → HaveAll Is [] true old old
unfolding AreOf
none_have Is None = ([], tt, refl, tt)
none_have Is (Some bytes) = ([], tt, refl, sym (append-nil bytes))

one_has : (Is : List ℕ → Outcome → Type 0) (names : List (List ℕ)) (name : List ℕ)
    (outcome : Outcome) (valid : Bool) (status : ℕ) (old between new : Option (List ℕ))
    → HaveAll Is names valid old between → Is name outcome → Writes between new status outcome
    → HaveAll Is (names ++ name ∷ []) (valid && nat_eq status 0) old new
one_has Is names name outcome valid status old between new (outcomes, are, all, text) is
    (same, more) = (
      outcomes ++ outcome ∷ [],
      AreOf-more Is names name outcomes outcome are is,
      valid_more outcomes outcome valid status all same,
      subst (Appends old new) (text_more outcomes outcome)
          (Appends-trans old between new (all_of outcomes).text outcome.text text more),
    )

-- an outcome of a folder, and how far a writer took it
abbrev pub HasOne : Ends → Option Given → Option (List ℕ) → List ℕ → (Outcome → Type 0) → Type 0
HasOne Is known place name P =
    IfSome known (λ gives. (outcome : Outcome) × Is place gives name outcome × P outcome)

-- there was no room for a folder's lines, and this is written in their place
module _ (Is : Ends) (none : Outcome)
    (may : (place : Option (List ℕ)) (gives : Given) (name : List ℕ) → Is place gives name none)
    (known : Option Given) (place : Option (List ℕ)) (name : List ℕ) where
  pub no_room : (result : Result ℕ ProgramFault) (old new : Option (List ℕ))
      → IfOk result (λ given. (given ≡ none.status) × Appends old new none.text)
      → IfOk result (λ status. HasOne Is known place name (Writes old new status))
  no_room (Err fault) old new is = tt
  no_room (Ok status) old new is = go known
    where
      go : (known : Option Given) → HasOne Is known place name (Writes old new status)
      go None = tt
      go (Some gives) = (none, may place gives name, is)

  pub no_room_stopped : (result : Result ℕ ProgramFault) (old new : Option (List ℕ))
      → OnErr result ((result ≡ Err ProgramFaults.Output)
      × ((n : ℕ) × Appends old new (take n none.text)))
      → IsErrOf result ProgramFaults.Output
      → HasOne Is known place name (WritesPrefix old new)
  no_room_stopped result old new stops is = go known
    where
      written : (n : ℕ) × Appends old new (take n none.text)
      written = (subst (λ r. OnErr r ((result ≡ Err ProgramFaults.Output)
          × ((n : ℕ) × Appends old new (take n none.text)))) is stops).1

      go : (known : Option Given) → HasOne Is known place name (WritesPrefix old new)
      go None = tt
      go (Some gives) = (none, may place gives name, written)

pub before_all : (Is : Ends) (known : Option Given) (place old : Option (List ℕ))
    → IfSome known (λ gives. HaveAll (Is place gives) [] true old old)
before_all Is None place old = tt
before_all Is (Some gives) place old = none_have (Is place gives) old

-- the folders of the first of these names have their lines, and this name is next; what is known of
-- reads, and where they fail, is as it was
pub record IsNext (Is : Ends) (known now : Option Given) (place at : Option (List ℕ))
    (names : List (List ℕ)) (i : ℕ) (name : List ℕ) (valid : Bool)
    (old between : Option (List ℕ)) : Type 0 where
  pub next : take (i + 1) names ≡ take i names ++ name ∷ []
  pub same : now ≡ known
  pub same_place : at ≡ place
  pub so_far : IfSome known (λ gives. HaveAll (Is place gives) (take i names) valid old between)

module _ {Is : Ends} {known now : Option Given} {place at : Option (List ℕ)}
    {names : List (List ℕ)} {i : ℕ} {name : List ℕ} {valid : Bool}
    {old between : Option (List ℕ)}
    (is : IsNext Is known now place at names i name valid old between)
    (new : Option (List ℕ)) where
  moved : (P : Outcome → Type 0) → HasOne Is now at name P → HasOne Is known place name P
  moved P has =
      subst (λ k. HasOne Is k place name P) is.same
      (subst (λ p. HasOne Is now p name P) is.same_place has)

  -- one folder more has its lines
  pub one_more : (status : ℕ) (are : Bool) → HasOne Is now at name (Writes between new status)
      → are ≡ (valid && nat_eq status 0)
      → IfSome known (λ gives. HaveAll (Is place gives) (take (i + 1) names) are old new)
  one_more status are has all = go known is.so_far (moved (Writes between new status) has)
    where
      go : (known : Option Given)
          → IfSome known (λ gives. HaveAll (Is place gives) (take i names) valid old between)
          → HasOne Is known place name (Writes between new status)
          → IfSome known (λ gives. HaveAll (Is place gives) (take (i + 1) names) are old new)
      go None before one = tt
      go (Some gives) before (outcome, is_one, writes) =
          subst (λ v. HaveAll (Is place gives) (take (i + 1) names) v old new) (sym all)
          (subst (λ ns. HaveAll (Is place gives) ns (valid && nat_eq status 0) old new)
          (sym is.next)
          (one_has (Is place gives) (take i names) name outcome valid status old between new
          before is_one writes))

  -- a writer took a part of one folder's lines
  pub stopped : HasOne Is now at name (WritesPrefix between new)
      → IfSome known (λ gives. (count : ℕ)
      × EndsAll (Is place gives) (take count names) (WritesPrefix old new))
  stopped has = go known is.so_far (moved (WritesPrefix between new) has)
    where
      go : (known : Option Given)
          → IfSome known (λ gives. HaveAll (Is place gives) (take i names) valid old between)
          → HasOne Is known place name (WritesPrefix between new)
          → IfSome known (λ gives. (count : ℕ)
          × EndsAll (Is place gives) (take count names) (WritesPrefix old new))
      go None before one = tt
      go (Some gives) (outcomes, are, all, text) (outcome, is_one, part) =
          let front = (all_of outcomes).text in (
            i + 1,
            (
              outcomes ++ outcome ∷ [],
              subst (λ ns. AreOf (Is place gives) ns (outcomes ++ outcome ∷ [])) (sym is.next)
                  (AreOf-more (Is place gives) (take i names) name outcomes outcome are is_one),
              (
                length front + part.0,
                subst (Appends old new)
                    (sym (take-append-add front outcome.text part.0)
                    ∙ ap (take (length front + part.0)) (text_more outcomes outcome))
                    (Appends-trans old between new front (take part.0 outcome.text) text part.1),
              ),
            ),
          )
