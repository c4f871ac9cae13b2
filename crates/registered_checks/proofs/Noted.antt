-- Bags of folders that are noted while the folders are read.
use Rattle.std.proofs.Common.{◌≡◌, ◌≢◌, ℕ, List, [], ◌∷◌, ◌++◌, Option, None, Some, Result, Ok, Err}
use Rattle.std.proofs.Common.{IfSome, OnOk, is_err, false, refl, sym, ap, ◌∙◌, subst}
use Rattle.std.specs.Prelude.{option_map}
use Rattle.std.specs.Option.{ForSome, option_to_list}
use Rattle.std.specs.List.{cons_option}
use Rattle.std.proofs.lemmas.List.Elements.{filter_map-append}
use Rattle.bag_tree.specs.Facts.{TreeFacts}
use Rattle.bag_tree.specs.Fault.{IsOrMemory}
use Rattle.bag_tree.specs.declared.fault.TreeFault.{TreeFault}
use Rattle.bag_tree.specs.declared.fault.TreeFault.TheVariants as faults
use Rattle.registered_checks.specs.Held.{Given, Held, held_by, bag_in, held_at, held_of}
use Rattle.registered_checks.specs.inner.Notes.{AreHeld}

pub none_held : (gives : Option Given) → ForSome gives (λ gives. AreHeld gives [] [])
unfolding held_of
none_held gives = λ known is. refl

-- a read that didn't run out of memory gives what it has to
given : (read wanted : Result TreeFacts TreeFault) → read ≢ Err faults.Memory
    → IsOrMemory read wanted → wanted ≡ read
given (Ok facts) wanted lasts is = is
given (Err faults.Memory) wanted lasts is = absurd (lasts refl)
given (Err faults.Listing) wanted lasts is = is
given (Err faults.NotAFile) wanted lasts is = is
given (Err faults.TooDeep) wanted lasts is = is
given (Err faults.TooMany) wanted lasts is = is
given (Err faults.TextTooLong) wanted lasts is = is
given (Err faults.Device) wanted lasts is = is
given (Err faults.BadPath) wanted lasts is = is

single : {Y : Type 0} (o : Option Y) → option_to_list o ≡ cons_option o []
single None = refl
single (Some y) = refl

-- one folder more
more_held : (gives : Given) (path : List ℕ) (read : Result TreeFacts TreeFault)
    (paths : List (List ℕ)) (held : List Held) → gives path ≡ read → AreHeld gives paths held
    → AreHeld gives (paths ++ path ∷ [])
    (held ++ option_to_list (option_map (held_by path) (bag_in read)))
unfolding held_of
more_held gives path read paths held is are =
    let one : Result TreeFacts TreeFault → List Held =
    λ r. option_to_list (option_map (held_by path) (bag_in r)) in
    ap (λ h. h ++ one read) are
    ∙ ap (λ r. held_of gives paths ++ one r) (sym is)
    ∙ ap (λ l. held_of gives paths ++ l) (single (held_at gives path))
    ∙ sym (filter_map-append (held_at gives) paths (path ∷ []))

-- the folder of a path was read, and noted
pub read_noted : {T E : Type 0} (noted : Result T E) (old new : Option Given) (path : List ℕ)
    (read : Result TreeFacts TreeFault) (paths more : List (List ℕ)) (held grown : List Held)
    → is_err noted ≡ false → ForSome old (λ gives. AreHeld gives paths held) → new ≡ old
    → IfSome old (λ gives. IsOrMemory read (gives path)) → OnOk noted (read ≢ Err faults.Memory)
    → OnOk noted (more ≡ paths ++ path ∷ [])
    → OnOk noted (grown ≡ held ++ option_to_list (option_map (held_by path) (bag_in read)))
    → ForSome new (λ gives. AreHeld gives more grown)
read_noted (Err e) old new path read paths more held grown done are kept reads lasts paths_are
    held_are = absurd (cc done)
read_noted (Ok u) old new path read paths more held grown done are kept reads lasts paths_are
    held_are =
    λ gives is.
    let known : old ≡ Some gives = sym kept ∙ is in
    let wanted : IsOrMemory read (gives path) =
    subst (λ o. IfSome o (λ gives. IsOrMemory read (gives path))) known reads in
    held_are
    ∙ (more_held gives path read paths held (given read (gives path) lasts wanted) (are gives known)
    ∙ ap (held_of gives) (sym paths_are))
