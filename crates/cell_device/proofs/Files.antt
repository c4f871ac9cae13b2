-- What every crash keeps of a file, and how many bytes a read gives, after a call.
use Rattle.std.proofs.Common.{◌≡◌, inl, inr, ℕ, ◌+◌, ◌≤◌, ◌<◌, min, List, ◌++◌, length, take}
use Rattle.std.proofs.Common.{Option, Some, None, Result, Err, refl, sym, ◌∙◌, ap, subst, arith}
use Rattle.std.proofs.Common.{length-append, length-take}
use Rattle.std.specs.Prelude.{option_map, ◌≢◌}
use Rattle.std.specs.Option.{ForSome}
use Rattle.std.proofs.lemmas.Bool.{cases_lt}
use Rattle.cell_device.specs.Images.{Image, Leaves, AllowsAppend, AllowsCut, keeps}
use Rattle.cell_device.specs.Images.{at_rest, with_bytes, cut_to, all_synced, same_image}
use Rattle.cell_device.specs.Files.{FileState, HasLength, IsSame, IsSure, sure_of, spoilt}
use Rattle.cell_device.specs.Files.{IsChanged, Changes, Syncs}
use Rattle.cell_device.specs.declared.fault.CellFault.{CellFault}
use Rattle.cell_device.specs.declared.fault.CellFault.TheVariants as faults
use Rattle.cell_device.specs.declared.fault.FileFault.{FileFault}
use Rattle.cell_device.specs.declared.fault.FileFault.TheVariants as file_faults
use Rattle.cell_device.specs.declared.trust.Trust.TheVariants.{Spoilt}
use Rattle.cell_device.specs.inner.Laws.{keeps_grown, keeps_shrunk}

-- ---- of one image

grown : (k : ℕ) (synced newest : List ℕ) → length synced ≤ length newest
    → length (keeps k synced newest) ≡ min (length synced + k) (length newest)
grown k synced newest le =
    ap (λ (l : List ℕ). length l) (keeps_grown k synced newest le)
    ∙ length-take (length synced + k) newest

shrunk : (k : ℕ) (synced newest : List ℕ) → length newest < length synced
    → length (keeps k synced newest) ≡ min (length newest + k) (length synced)
shrunk k synced newest lt =
    ap (λ (l : List ℕ). length l) (keeps_shrunk k synced newest lt)
    ∙ length-take (length newest + k) synced

-- the shorter of the two
sure_is_min : (synced newest : List ℕ)
    → length (keeps 0 synced newest) ≡ min (length synced) (length newest)
sure_is_min synced newest = elim (cases_lt (length newest) (length synced)) [
  | inl lt ↦ shrunk 0 synced newest lt ∙ omega (arith, lt)
  | inr le ↦ grown 0 synced newest le ∙ omega (arith, le)
]

sure_synced : (i : Image) → sure_of (all_synced i) ≡ length i.seen
sure_synced i = omega (arith, sure_is_min i.seen i.seen)

sure_appended : (bytes : List ℕ) (i : Image) → Leaves i i.seen → length i.synced ≤ length i.newest
    → sure_of (with_bytes bytes i) ≡ sure_of i
sure_appended bytes i leaves le =
    omega (
      arith,
      sure_is_min i.synced i.newest,
      sure_is_min i.synced (i.seen ++ bytes),
      length-append i.seen bytes,
      ap (λ (l : List ℕ). length l) leaves.1,
      grown leaves.0 i.synced i.newest le,
    )

sure_cut : (len : ℕ) (i : Image) → Leaves i i.seen → i.synced ≡ i.newest
    → len ≤ length i.seen → sure_of (cut_to len i) ≡ min (sure_of i) len
sure_cut len i leaves same le =
    let as_long : length i.synced ≡ length i.newest = ap (λ (l : List ℕ). length l) same in
    omega (
      arith,
      as_long,
      sure_is_min i.synced i.newest,
      sure_is_min i.synced (take len i.seen),
      length-take len i.seen,
      ap (λ (l : List ℕ). length l) leaves.1,
      grown leaves.0 i.synced i.newest (omega (arith, as_long)),
    )

-- ---- of one that is known or isn't

-- what is so of each image that the old one becomes
became : (P : Image → Type 0) (what : Image → Image) (old new : Option Image)
    → new ≡ option_map what old → ((i : Image) → old ≡ Some i → P (what i)) → ForSome new P
became P what None new is each = λ j e. absurd (cc (is, e))
became P what (Some i) new is each = λ j e. subst P (same (what i) j new is e) (each i refl)
  where
    same : (a b : Image) (o : Option Image) → o ≡ Some a → o ≡ Some b → a ≡ b
    same a b o is e = cc (is, e)

-- the same, and then the same again
pub then_same : (a b c : FileState) → IsSame a b → IsSame b c → IsSame a c
then_same a b c first second = record {
  image = second.image ∙ first.image;
  moment = second.moment ∙ first.moment;
  nothing_else = λ t bytes left. first.nothing_else t bytes (second.nothing_else t bytes left);
  nothing_less = λ t bytes left. second.nothing_less t bytes (first.nothing_less t bytes left);
}

-- no image has two lengths
pub unknown : (n m : ℕ) (image : Option Image) → HasLength n image → HasLength m image → n ≢ m
    → image ≡ None
unknown n m None one other differ = refl
unknown n m (Some i) one other differ = absurd (differ (one i refl ∙ sym (other i refl)))

-- at rest every byte is sure
pub sure_at_rest : (n : ℕ) (old new : Option Image) → ForSome old (λ i. i ≡ at_rest i.seen)
    → new ≡ old → HasLength n old → IsSure n new
sure_at_rest n old new rest same len = λ i e.
    let was : old ≡ Some i = sym same ∙ e in
    len i was ∙ sym (sure_synced i) ∙ sym (ap (λ (j : Image). sure_of j) (rest i was))

pub length_same : (n : ℕ) (old new : Option Image) → new ≡ old → HasLength n old → HasLength n new
length_same n old new same len = subst (HasLength n) (sym same) len

-- after a change that failed a read gives what every crash keeps
pub failed_sure : (n : ℕ) (tried : Image → Image) (old new : Option Image)
    → ((i : Image) → old ≡ Some i → n ≡ sure_of (tried i))
    → new ≡ option_map (spoilt tried) old → IsSure n new × HasLength n new
failed_sure n tried old new each is = (
  became (λ (i : Image). n ≡ sure_of i) (spoilt tried) old new is each,
  became (λ (i : Image). n ≡ length i.seen) (spoilt tried) old new is each,
)

module _ (n : ℕ) (old : Option Image) (leaves : (i : Image) → old ≡ Some i → Leaves i i.seen)
    (sure : IsSure n old)
  where
    each_appended : (bytes : List ℕ) → AllowsAppend old → (i : Image) → old ≡ Some i
        → n ≡ sure_of (with_bytes bytes i)
    each_appended bytes allows i e =
        sure i e ∙ sym (sure_appended bytes i (leaves i e) (subst AllowsAppend e allows))

    pub appended : (bytes : List ℕ) (new : Option Image) → AllowsAppend old
        → new ≡ option_map (with_bytes bytes) old → IsSure n new
    appended bytes new allows is =
        became (λ (i : Image). n ≡ sure_of i) (with_bytes bytes) old new is
        (each_appended bytes allows)

    pub not_appended : (bytes : List ℕ) (new : Option Image) → AllowsAppend old
        → new ≡ option_map (spoilt (with_bytes bytes)) old → IsSure n new × HasLength n new
    not_appended bytes new allows is =
        failed_sure n (with_bytes bytes) old new (each_appended bytes allows) is

    each_cut : (len : ℕ) → AllowsCut len old → (i : Image) → old ≡ Some i
        → min n len ≡ sure_of (cut_to len i)
    each_cut len allows i e =
        let allowed = subst (AllowsCut len) e allows in
        ap (λ (m : ℕ). min m len) (sure i e)
        ∙ sym (sure_cut len i (leaves i e) allowed.0 allowed.1)

    pub sure_after_cut : (len : ℕ) (new : Option Image) → AllowsCut len old
        → new ≡ option_map (cut_to len) old → IsSure (min n len) new
    sure_after_cut len new allows is =
        became (λ (i : Image). min n len ≡ sure_of i) (cut_to len) old new is
        (each_cut len allows)

    pub not_cut : (len : ℕ) (new : Option Image) → AllowsCut len old
        → new ≡ option_map (spoilt (cut_to len)) old
        → IsSure (min n len) new × HasLength (min n len) new
    not_cut len new allows is =
        failed_sure (min n len) (cut_to len) old new (each_cut len allows) is

    pub not_synced : (new : Option Image) → new ≡ option_map (spoilt same_image) old
        → IsSure n new × HasLength n new
    not_synced new is = failed_sure n same_image old new sure is

pub length_appended : (n m : ℕ) (bytes : List ℕ) (old new : Option Image) → HasLength n old
    → m ≡ n + length bytes → new ≡ option_map (with_bytes bytes) old → HasLength m new
length_appended n m bytes old new len more is =
    became (λ (i : Image). m ≡ length i.seen) (with_bytes bytes) old new is
    (λ i e. omega (arith, more, len i e, length-append i.seen bytes))

pub length_cut : (n len : ℕ) (old new : Option Image) → HasLength n old
    → new ≡ option_map (cut_to len) old → HasLength (min n len) new
length_cut n len old new has is =
    became (λ (i : Image). min n len ≡ length i.seen) (cut_to len) old new is
    (λ i e. omega (arith, length-take len i.seen, has i e))

pub synced : (n : ℕ) (old new : Option Image) → HasLength n old
    → new ≡ option_map all_synced old → IsSure n new × HasLength n new
synced n old new len is = (
  became (λ (i : Image). n ≡ sure_of i) all_synced old new is
      (λ i e. len i e ∙ sym (sure_synced i)),
  became (λ (i : Image). n ≡ length i.seen) all_synced old new is len,
)

-- ---- what was done, by its fault

pub changed_device : (what : Image → Image) (old new : FileState) (r : Result (Unit {0}) CellFault)
    → Changes what old new r → r ≡ Err faults.Device → IsChanged (spoilt what) Spoilt old new
changed_device what old new r does is =
    subst (λ (x : Result (Unit {0}) CellFault). Changes what old new x) is does

pub synced_device : (old new : FileState) (r : Result (Unit {0}) FileFault) → Syncs old new r
    → r ≡ Err file_faults.Device → IsChanged (spoilt same_image) Spoilt old new
synced_device old new r does is =
    subst (λ (x : Result (Unit {0}) FileFault). Syncs old new x) is does
