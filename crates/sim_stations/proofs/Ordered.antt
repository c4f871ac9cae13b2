-- What ordered maps and sets say is what lists say in which each is looked for.
use Rattle.std.specs.Prelude.{◌≡◌, ℕ, Bool, List, nat_eq, true}
use Rattle.std.proofs.Common.{Some, cond, ap, subst, arith}
use Rattle.std.proofs.Math.Path.{fun_ext}
use Rattle.std.proofs.lemmas.Bool.Decides.{nat_tests}
use Rattle.std.proofs.lemmas.Map.Text.{is_eq-slice_cmp}
use Rattle.std.specs.Cmp.Lexicographic.{slice_cmp}
use Rattle.std.specs.List.{list_any}
use Rattle.std.specs.Map.{lookup}
use Rattle.std.specs.Ordering.{eq_by_cmp, is_eq, nat_cmp}
use Rattle.std.specs.declared.cmp.Ordering.{Ordering}
use Rattle.fed_types.specs.Bags.{same_bag}
use Rattle.fed_types.specs.declared.bag_id.BagId.{BagId}

-- the new entries are the old ones, but for one key
abbrev Puts : {K X : Type 0} (same : K → K → Bool) → (old new : List (K × X)) → K → X → Type 0
Puts {K} same old new key x =
    (k : K) → lookup (same k) new ≡ cond (same key k) (Some x) (lookup (same k) old)

-- ---- bags

-- their order: by their bytes
abbrev bag_cmp : BagId → BagId → Ordering
bag_cmp a b = slice_cmp nat_cmp a.0 b.0

same_by_order : eq_by_cmp bag_cmp ≡ same_bag
same_by_order = fun_ext (λ a. fun_ext (λ b. is_eq-slice_cmp a.0 b.0))

module _ {X : Type 0} where
  -- a look-up
  pub found_by_order : (entries : List (BagId × X)) (bag : BagId)
      → lookup (eq_by_cmp bag_cmp bag) entries ≡ lookup (same_bag bag) entries
  found_by_order entries bag =
      ap (λ (same : BagId → BagId → Bool). lookup (same bag) entries) same_by_order

  -- a change of one entry
  pub with_by_order : (old new : List (BagId × X)) (bag : BagId) (x : X)
      → Puts (eq_by_cmp bag_cmp) old new bag x → Puts same_bag old new bag x
  with_by_order old new bag x =
      subst (λ (same : BagId → BagId → Bool). Puts same old new bag x) same_by_order

-- ---- numbers

same_number : (a b : ℕ) → is_eq (nat_cmp a b) ≡ nat_eq a b
same_number a b = grind (arith, nat_tests)

number_by_order : eq_by_cmp nat_cmp ≡ nat_eq
number_by_order = fun_ext (λ a. fun_ext (λ b. same_number a b))

module _ {X : Type 0} where
  -- a look-up of what a number has
  pub at_by_order : (entries : List (ℕ × X)) (number : ℕ)
      → lookup (eq_by_cmp nat_cmp number) entries ≡ lookup (nat_eq number) entries
  at_by_order entries number =
      ap (λ (same : ℕ → ℕ → Bool). lookup (same number) entries) number_by_order

  -- one number has something else
  pub put_by_order : (old new : List (ℕ × X)) (number : ℕ) (x : X)
      → Puts (eq_by_cmp nat_cmp) old new number x → Puts nat_eq old new number x
  put_by_order old new number x =
      subst (λ (same : ℕ → ℕ → Bool). Puts same old new number x) number_by_order

-- a look-up
pub has_by_order : (numbers : List ℕ) (number : ℕ)
    → list_any (eq_by_cmp nat_cmp number) numbers ≡ list_any (nat_eq number) numbers
has_by_order numbers number =
    ap (λ (same : ℕ → ℕ → Bool). list_any (same number) numbers) number_by_order

-- one more
pub more_by_order : (old new : List ℕ) (number : ℕ)
    → ((k : ℕ) → list_any (eq_by_cmp nat_cmp k) new
    ≡ cond (eq_by_cmp nat_cmp number k) true (list_any (eq_by_cmp nat_cmp k) old))
    → (k : ℕ) → list_any (nat_eq k) new ≡ cond (nat_eq number k) true (list_any (nat_eq k) old)
more_by_order old new number =
    subst (λ (same : ℕ → ℕ → Bool).
    (k : ℕ) → list_any (same k) new ≡ cond (same number k) true (list_any (same k) old))
    number_by_order
