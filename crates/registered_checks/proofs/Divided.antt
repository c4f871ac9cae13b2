-- Bytes that are divided by lines, one more at a time.
use Rattle.std.proofs.Common.{◌≡◌, ℕ, List, [], ◌∷◌, ◌++◌, Option}
use Rattle.std.proofs.Common.{sym, ap, subst, ◌∙◌}
use Rattle.std.specs.Io.KnownBytes.{Appends}
use Rattle.std.specs.List.{flat_map}
use Rattle.std.proofs.lemmas.Grind.{flat_map-append}
use Rattle.std.proofs.lemmas.List.{append-nil, append_assoc}
use Rattle.std.proofs.lemmas.List.Elements.{All-append, All-cons, All-nil}
use Rattle.std.proofs.KnownBytes.{Appends-nil, Appends-trans}
use Rattle.registered_checks.specs.Deposits.{IsWithinLine, Outputs, Divides, deposit_line}
use Rattle.registered_checks.specs.Deposits.{ended, listed_by, unlisted_by}

-- a list of which more was made by one more element
one_more : {X : Type 0} (f : X → List ℕ) (xs : List X) (x : X)
    → flat_map f (xs ++ x ∷ []) ≡ flat_map f xs ++ f x
one_more f xs x = flat_map-append f xs (x ∷ []) ∙ ap (λ t. flat_map f xs ++ t) (append-nil (f x))

-- known bytes grow by those of one more line
more_known : {X : Type 0} (f : X → List ℕ) (xs : List X) (x : X) (a b c : Option (List ℕ))
    → Appends a b (flat_map f xs) → Appends b c (f x) → Appends a c (flat_map f (xs ++ x ∷ []))
more_known f xs x a b c first then =
    subst (λ t. Appends a c t) (sym (one_more f xs x))
    (Appends-trans a b c (flat_map f xs) (f x) first then)

-- no byte was divided yet
pub none_divided : (before : Outputs) → IsWithinLine before.begun → Divides before [] before
none_divided before within =
    record {
      lines = [];
      joined = append-nil before.begun;
      within = All-nil _;
      begun = within;
      listed = Appends-nil before.list;
      unlisted = Appends-nil before.errors;
    }

-- a line ends, and comes to its output
pub ends : (before after next : Outputs) (bytes : List ℕ) → Divides before bytes after
    → next.begun ≡ []
    → Appends after.list next.list (listed_by (deposit_line after.begun))
    → Appends after.errors next.errors (unlisted_by after.begun (deposit_line after.begun))
    → Divides before (bytes ++ 10 ∷ []) next
ends before after next bytes divides empty lists says =
    record {
      lines = divides.lines ++ after.begun ∷ [];
      joined =
          sym (append_assoc before.begun bytes (10 ∷ []))
          ∙ (ap (λ t. t ++ 10 ∷ []) divides.joined
          ∙ (append_assoc (flat_map ended divides.lines) after.begun (10 ∷ [])
          ∙ (sym (one_more ended divides.lines after.begun)
          ∙ (sym (append-nil (flat_map ended (divides.lines ++ after.begun ∷ [])))
          ∙ ap (λ t. flat_map ended (divides.lines ++ after.begun ∷ []) ++ t) (sym empty)))));
      within = All-append IsWithinLine divides.lines (after.begun ∷ []) divides.within
          (All-cons IsWithinLine after.begun [] divides.begun (All-nil _));
      begun = subst IsWithinLine (sym empty) (All-nil _);
      listed = more_known (λ line. listed_by (deposit_line line)) divides.lines after.begun
          before.list after.list next.list divides.listed lists;
      unlisted = more_known (λ line. unlisted_by line (deposit_line line)) divides.lines after.begun
          before.errors after.errors next.errors divides.unlisted says;
    }
