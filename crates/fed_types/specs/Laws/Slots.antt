-- The laws of `==` of slots, and of their order.
use Rattle.std.specs.Prelude.{◌≡◌, ℕ, List, Bool, true, ◌==◌, ◌&&◌, ◌++◌, bytes_eq, Decides, refl}
use Rattle.std.proofs.Common.{arith, ap, sym, ◌∙◌, eq-eqb}
use Rattle.std.proofs.Math.Path.{fun_ext}
use Rattle.std.specs.declared.cmp.Ordering.{Ordering}
use Rattle.std.specs.declared.cmp.Ordering.TheVariants.{Less, Equal, Greater}
use Rattle.std.specs.Cmp.{IsPartialEquivalence, IsEquivalence, partial_equiv_from_equiv}
use Rattle.std.specs.Cmp.{IsTotalOrder, IsPartialOrder, partial_order_from_agreeing_total}
use Rattle.std.specs.Cmp.Lexicographic.{slice_cmp}
use Rattle.std.specs.Ordering.{as_partial_cmp, eq_by_cmp, is_eq, nat_cmp, ordering_then}
use Rattle.std.specs.Hash as fed
use Rattle.std.proofs.lemmas.Bool.{and_parts, and_from, eqb-true}
use Rattle.std.proofs.lemmas.Bool.Decides.{nat_tests}
use Rattle.std.proofs.lemmas.Cmp.{and_equiv, on_equiv, nat_eq_equiv, nat_list_eq_equiv}
use Rattle.std.proofs.lemmas.Cmp.{then_total, on_total, nat_cmp_total, nat_list_cmp_total}
use Rattle.std.proofs.lemmas.Map.Text.{is_eq-slice_cmp}
use Rattle.std.proofs.lemmas.Slice.Eq.{bytes_eq-Decides}
use Rattle.fed_types.specs.Slots.{SlotName, same_slot, slot_cmp, slot_name}

-- `==` of slots is an equivalence
pub same_slot_equivalence : IsEquivalence same_slot
unfolding same_slot
same_slot_equivalence =
    and_equiv (on_equiv (λ s. s.version) nat_eq_equiv) (on_equiv (λ s. s.object) nat_list_eq_equiv)

-- what `PartialEq` asks of the test
pub same_slot_laws : IsPartialEquivalence same_slot
same_slot_laws = partial_equiv_from_equiv same_slot_equivalence

-- a slot by its parts
built : (object object' : List ℕ) (version version' : ℕ) → object ≡ object' → version ≡ version'
    → slot_name object version ≡ slot_name object' version'
built object object' version version' e f = cc

-- the test passes exactly where the two slots are equal
pub same_slot_decides : (a b : SlotName) → Decides (same_slot a b) (a ≡ b)
unfolding same_slot
same_slot_decides a b = (
  λ e. let parts = and_parts (a.version == b.version) (bytes_eq a.object b.object) e in
      built a.object b.object a.version b.version
      ((bytes_eq-Decides a.object b.object).0 parts.1) (eqb-true a.version b.version parts.0),
  λ e. and_from (a.version == b.version) (bytes_eq a.object b.object)
      (eq-eqb a.version b.version (ap (λ s. s.version) e))
      ((bytes_eq-Decides a.object b.object).1 (ap (λ s. s.object) e)),
)

-- equal slots make the same writes to a hasher
pub same_slot_hash : (a b : SlotName) → same_slot a b ≡ true
    → fed.str a.object ++ fed.u32 a.version ≡ fed.str b.object ++ fed.u32 b.version
same_slot_hash a b e =
    ap (λ (s : SlotName). fed.str s.object ++ fed.u32 s.version) ((same_slot_decides a b).0 e)

-- the order is total
pub slot_cmp_total : IsTotalOrder slot_cmp
unfolding slot_cmp
slot_cmp_total =
    then_total (on_total (λ s. s.object) nat_list_cmp_total)
    (on_total (λ s. s.version) nat_cmp_total)

-- two answers in turn are one of equality where both are
both_equal : (o p : Ordering) → is_eq p && is_eq o ≡ is_eq (ordering_then o p)
both_equal Less Less = refl
both_equal Less Equal = refl
both_equal Less Greater = refl
both_equal Equal Less = refl
both_equal Equal Equal = refl
both_equal Equal Greater = refl
both_equal Greater Less = refl
both_equal Greater Equal = refl
both_equal Greater Greater = refl

same_number : (a b : ℕ) → (a == b) ≡ is_eq (nat_cmp a b)
same_number a b = grind (arith, nat_tests)

-- slots are equal exactly where the order answers so
pub slot_eq_ties : (a b : SlotName) → same_slot a b ≡ is_eq (slot_cmp a b)
unfolding same_slot slot_cmp
slot_eq_ties a b =
    ap (λ (t : Bool). t && bytes_eq a.object b.object) (same_number a.version b.version)
    ∙ ap (λ (t : Bool). is_eq (nat_cmp a.version b.version) && t)
    (sym (is_eq-slice_cmp a.object b.object))
    ∙ both_equal (slice_cmp nat_cmp a.object b.object) (nat_cmp a.version b.version)

-- so what an ordered table asks of two slots is whether they are the same
pub same_by_order : eq_by_cmp slot_cmp ≡ same_slot
same_by_order = fun_ext (λ a. fun_ext (λ b. sym (slot_eq_ties a b)))

-- `partial_cmp` answers what the order does
pub slot_cmp_partial : IsPartialOrder same_slot (as_partial_cmp slot_cmp)
slot_cmp_partial =
    partial_order_from_agreeing_total slot_cmp slot_cmp_total (λ a b. refl) slot_eq_ties
