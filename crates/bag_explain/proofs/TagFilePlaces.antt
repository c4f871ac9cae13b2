-- The places of the faults that need no manifest to be read.
use Rattle.std.proofs.Common.{◌≡◌, ℕ, Bool, true, List, [], ◌∷◌, Option, Some, None, Result, Ok}
use Rattle.std.proofs.Common.{Err, refl, sym, subst, inl}
use Rattle.std.specs.Prelude.{◌↔◌, codes}
use Rattle.std.specs.List.{flat_map}
use Rattle.bag_text.specs.Readers.{declaration_of}
use Rattle.bag_tree.specs.Facts.{TreeFacts}
use Rattle.bag_check.specs.declared.fault.BagFault.TheVariants.{UnknownAlgorithm}
use Rattle.bag_check.specs.Manifests.{is_unknown}
use Rattle.bag_explain.specs.Places.{Place, at_file, at_line}
use Rattle.bag_explain.specs.Places.{when, faulty_line, faulty_lines, unknown_at}
use Rattle.bag_explain.specs.Wrong.{IsWrongAt}
use Rattle.bag_explain.proofs.Members.{In, in_one, contained_in, in_contained, in_some, some_in}
use Rattle.bag_explain.proofs.Members.{in_when, when_in}

-- ---- the one place of a fault

pub one_place : (test : Bool) (here place : Place)
    → In place (when test (here ∷ [])) ↔ ((test ≡ true) × (place ≡ here))
one_place test here place = (
  λ h. let (passed, is) = in_when test here place h in (passed, sym is),
  λ h. rw (h.1) (when_in test here h.0),
)

-- ---- the line of the declaration

abbrev pub IsFaultyLine : Option (List ℕ) → Place → Type 0
IsFaultyLine declaration place =
    (text : List ℕ) × (line : ℕ) × (declaration ≡ Some text) × (declaration_of text ≡ Err line)
    × (place ≡ at_line (codes "bagit.txt") line)

pub declared_line : (declaration : Option (List ℕ)) (place : Place)
    → In place (faulty_lines declaration) → IsFaultyLine declaration place
declared_line None place h = absurd h
declared_line (Some text) place h = go (declaration_of text) refl h
  where
    go : (read : Result (List ℕ × List ℕ) ℕ) → declaration_of text ≡ read
        → In place (faulty_line read) → IsFaultyLine (Some text) place
    go (Ok declared) e h = absurd h
    go (Err line) e h =
        (text, line, refl, e, sym (in_one (at_line (codes "bagit.txt") line) place h))

pub line_declared : (declaration : Option (List ℕ)) (place : Place) → IsFaultyLine declaration place
    → In place (faulty_lines declaration)
line_declared declaration place (text, line, e, read, is) =
    rw (e, read) (inl (sym is))

module _ (facts : TreeFacts) where
  -- ---- a manifest of an algorithm that isn't read

  pub unknown_is : (place : Place) → In place (flat_map unknown_at facts.files)
      → IsWrongAt UnknownAlgorithm facts place
  unfolding IsWrongAt
  unknown_is place h =
      let (file, there, here) = in_some unknown_at facts.files place h in
      let (unknown, is) = in_when (is_unknown file) (at_file file.path) place here in
      subst (IsWrongAt UnknownAlgorithm facts) is
      (file, in_contained facts.files file there, refl, unknown)

  pub is_unknown_there : (place : Place) → IsWrongAt UnknownAlgorithm facts place
      → In place (flat_map unknown_at facts.files)
  unfolding IsWrongAt
  is_unknown_there (at_file path) (file, there, same, unknown) =
      some_in unknown_at facts.files file (at_file path) (contained_in facts.files file there)
      (subst (λ (p : List ℕ). In (at_file p) (unknown_at file)) same
      (when_in (is_unknown file) (at_file file.path) unknown))
  is_unknown_there place h = absurd h
