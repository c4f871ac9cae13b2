-- The names of manifests, by their tests.
use Rattle.std.proofs.Common.{◌≡◌, ℕ, ◌<◌, true, false, ◌==◌, not, List, [], ◌∷◌, ◌++◌, get_or}
use Rattle.std.proofs.Common.{drop, length, refl, sym, ap, ◌∙◌, arith, append_assoc, inl, inr}
use Rattle.std.specs.Prelude.{Decides, codes}
use Rattle.std.specs.List.{list_any, onto_first, starts_with, ends_with}
use Rattle.std.specs.Str.{bytes_eq}
use Rattle.std.proofs.lemmas.Bool.{or_parts, and_parts, and_from, true≢false, false_from_ne_true}
use Rattle.std.proofs.lemmas.Bool.{eqb-true, eq-eqb, cases_Bool, cond_both, not-true}
use Rattle.std.proofs.lemmas.Bool.{not_from_false}
use Rattle.std.proofs.lemmas.List.Folds.{Any-from_list_any}
use Rattle.std.proofs.lemmas.Slice.Eq.{bytes_eq-Decides, starts_is, ends_is}
use Rattle.bag_tree.specs.Path.{slash, parts_of, is_text_named}
use Rattle.bag_check.specs.declared.manifests.Kind.{Kind}
use Rattle.bag_check.specs.declared.manifests.Kind.TheVariants.{Payload, Tag}
use Rattle.bag_check.specs.Manifests.{algorithms, kinds, prefix_of, manifest_name, is_manifest}
use Rattle.bag_check.specs.Manifests.{is_known_of_kind, is_known_manifest}
use Rattle.bag_check.specs.Valid.{IsManifestName, IsReadManifestName}
use Rattle.bag_check.proofs.Sets.{any_contains, any_one, in_kinds, in_algorithms}

same_byte : (a b : ℕ) → Decides (a == b) (a ≡ b)
same_byte a b = (eqb-true a b, eq-eqb a b)

-- ---- a path without a slash has one part

long : (parts : List (List ℕ)) (b : ℕ) → 0 < length parts → (0 < length (onto_first b parts))
    × (length (onto_first b parts) ≡ length parts)
long [] b some = absurd (omega arith)
long (part ∷ parts) b some = (omega arith, refl)

some_part : (path : List ℕ) → 0 < length (parts_of path)
some_part [] = omega arith
some_part (b ∷ path) =
    cond_both (b == slash) _ _ (λ (parts : List (List ℕ)). 0 < length parts) (λ _. omega arith)
    (λ _. (long (parts_of path) b (some_part path)).0)

one_part : (path : List ℕ) → (length (parts_of path) == 1) ≡ not (list_any (λ b. b == slash) path)
one_part [] = refl
one_part (b ∷ path) =
    let some = some_part path in
    elim (cases_Bool (b == slash)) [
      | inl is ↦
          rw is (false_from_ne_true (length ([] ∷ parts_of path) == 1)
          (λ e. let one = eqb-true (length ([] ∷ parts_of path)) 1 e in omega arith))
      | inr isnt ↦ rw (isnt, (long (parts_of path) b some).1) (one_part path)
    ]

-- ---- the front, a name, and `.txt`

-- where a text begins with bytes that are no full stop, and ends with `.txt`, there is a name
-- between them
between : (front rest begin : List ℕ) → list_any (λ b. b == 46) front ≡ false
    → front ++ rest ≡ begin ++ codes ".txt" → (name : List ℕ) × (rest ≡ name ++ codes ".txt")
between [] rest begin plain e = (begin, e)
between (a ∷ front) rest [] plain e =
    absurd
    (true≢false (sym (eq-eqb a 46 (ap (λ (l : List ℕ). get_or l 0 0) e))
    ∙ (or_parts (a == 46) (list_any (λ b. b == 46) front) plain).0))
between (a ∷ front) rest (b ∷ begin) plain e =
    between front rest begin (or_parts (a == 46) (list_any (λ b. b == 46) front) plain).1
    (ap (λ (l : List ℕ). drop 1 l) e)

plain : (kind : Kind) → list_any (λ b. b == 46) (prefix_of kind) ≡ false
plain Payload = refl
plain Tag = refl

named : (kind : Kind) (path : List ℕ) → is_text_named (prefix_of kind) path ≡ true → (name : List ℕ)
    × (path ≡ prefix_of kind ++ (name ++ codes ".txt"))
named kind path h =
    let both =
    and_parts (starts_with (λ a b. a == b) path (prefix_of kind))
    (ends_with (λ a b. a == b) path (codes ".txt")) h in
    let starts = (starts_is same_byte path (prefix_of kind) _ refl).0 both.0 in
    let ends = (ends_is same_byte path (codes ".txt") _ refl).0 both.1 in
    let found =
    between (prefix_of kind) (drop (length (prefix_of kind)) path) _ (plain kind)
    (sym starts ∙ ends) in
    (found.0, starts ∙ ap (λ r. prefix_of kind ++ r) found.1)

named_from : (kind : Kind) (path name : List ℕ) → path ≡ prefix_of kind ++ (name ++ codes ".txt")
    → is_text_named (prefix_of kind) path ≡ true
named_from kind path name e =
    and_from (starts_with (λ a b. a == b) path (prefix_of kind))
    (ends_with (λ a b. a == b) path (codes ".txt"))
    ((starts_is same_byte path (prefix_of kind) _ refl).1 (name ++ codes ".txt") e)
    ((ends_is same_byte path (codes ".txt") _ refl).1 (prefix_of kind ++ name)
    (e ∙ sym (append_assoc (prefix_of kind) name (codes ".txt"))))

-- the path is a manifest's, by the test and by the fact
pub manifest_decides : (path : List ℕ) → Decides (is_manifest path) (IsManifestName path)
unfolding is_manifest
manifest_decides path = (
  λ h.
      let both =
      and_parts (length (parts_of path) == 1)
      (list_any (λ kind. is_text_named (prefix_of kind) path) kinds) h in
      let found = Any-from_list_any (λ kind. is_text_named (prefix_of kind) path) kinds both.1 in
      let text = named found.1 path found.4 in
      let flat : list_any (λ b. b == slash) path ≡ false =
      not-true (list_any (λ b. b == slash) path) (sym (one_part path) ∙ both.0) in (
        found.1,
        text.0,
        text.1,
        λ inside. true≢false
            (sym ((any_contains (λ a b. a == b) same_byte path slash).1 inside) ∙ flat),
      ),
  λ is.
      let flat : list_any (λ b. b == slash) path ≡ false =
      false_from_ne_true (list_any (λ b. b == slash) path)
      (λ inside. is.3 ((any_contains (λ a b. a == b) same_byte path slash).0 inside)) in
      and_from (length (parts_of path) == 1)
      (list_any (λ kind. is_text_named (prefix_of kind) path) kinds)
      (one_part path ∙ not_from_false (list_any (λ b. b == slash) path) flat)
      (any_one (λ kind. is_text_named (prefix_of kind) path) kinds is.0 (in_kinds is.0)
      (named_from is.0 path is.1 is.2)),
)

-- the path is that of a manifest of one of the four algorithms, by the test and by the fact
pub known_decides : (path : List ℕ) → Decides (is_known_manifest path) (IsReadManifestName path)
unfolding is_known_manifest is_known_of_kind
known_decides path = (
  λ h.
      let kind = Any-from_list_any (λ k. is_known_of_kind k path) kinds h in
      let algorithm =
      Any-from_list_any (λ a. bytes_eq path (manifest_name kind.1 a)) algorithms kind.4 in (
        kind.1,
        algorithm.1,
        (bytes_eq-Decides path (manifest_name kind.1 algorithm.1)).0 algorithm.4,
      ),
  λ is.
      any_one (λ k. is_known_of_kind k path) kinds is.0 (in_kinds is.0)
      (any_one (λ a. bytes_eq path (manifest_name is.0 a)) algorithms is.1 (in_algorithms is.1)
      ((bytes_eq-Decides path (manifest_name is.0 is.1)).1 is.2)),
)
