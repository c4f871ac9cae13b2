-- Maps and sets whose keys are texts, one key on.
use Rattle.std.proofs.Common.{◌≡◌, ℕ, ◌+◌, ◌<◌, Bool, true, false, ◌||◌, cond, List, [], ◌∷◌, ◌++◌}
use Rattle.std.proofs.Common.{length, take, get_or, Option, Some, None, refl, sym, ap, ◌∙◌}
use Rattle.std.specs.Borrow.{Bor}
use Rattle.std.specs.BTreeMap as tree
use Rattle.std.specs.BTreeSet as sorted
use Rattle.std.specs.BTreeMap.{BTreeMap}
use Rattle.std.specs.BTreeSet.{BTreeSet}
use Rattle.std.specs.Cmp.Lexicographic.{slice_cmp}
use Rattle.std.specs.Ordering.{nat_cmp, is_eq}
use Rattle.std.specs.Option.{option_copied, option_or}
use Rattle.std.specs.Str.{bytes_eq}
use Rattle.std.proofs.lemmas.Bool.{cond_both}
use Rattle.std.proofs.lemmas.Map.Text.{is_eq-slice_cmp, btree_map_updates_str}
use Rattle.std.proofs.lemmas.Slice.Eq.{bytes_eq-Decides}
use Rattle.std.proofs.lemmas.List.{take_more}
use Rattle.std.proofs.lemmas.List.Folds.{find-append}
use Rattle.bag_tree.specs.Facts.{FileFact}
use Rattle.bag_check.specs.Manifests.{file_at}

-- what the map has at a text, and whether the set has it
abbrev pub at_text : List ℕ → BTreeMap (Bor (List ℕ)) (Bor FileFact) → Option FileFact
at_text q m = option_copied (tree.get_by (λ k. slice_cmp nat_cmp q k.now) m)

abbrev pub has_text : List ℕ → BTreeSet (Bor (List ℕ)) → Bool
has_text q s = sorted.contains_by (λ k. slice_cmp nat_cmp q k.now) s

-- a key that was put in is found beside what was
pub has_text-inserted : (w : Bor (List ℕ)) (s n : BTreeSet (Bor (List ℕ)))
    → sorted.UpdatesBy (λ x y. slice_cmp nat_cmp x.now y.now)
    (λ k. slice_cmp nat_cmp w.now k.now) s n true
    → (q : List ℕ) → has_text q n ≡ (bytes_eq w.now q || has_text q s)
has_text-inserted w s n h q =
    h.0 (record { ref_ptr = (0, 0); now = q })
    ∙ cond_both (is_eq (slice_cmp nat_cmp w.now q)) true (has_text q s)
    (λ t. t ≡ (bytes_eq w.now q || has_text q s))
    (λ is. rw (sym (is_eq-slice_cmp w.now q) ∙ is) refl)
    (λ isnt. rw (sym (is_eq-slice_cmp w.now q) ∙ isnt) refl)

or_none : (o : Option FileFact) → option_or o None ≡ o
or_none None = refl
or_none (Some file) = refl

-- the call put the file in the place of this path
abbrev Puts : List ℕ → Bor FileFact → (m n : BTreeMap (Bor (List ℕ)) (Bor FileFact)) → Type 0
Puts path file m n =
    tree.UpdatesBy (λ x y. slice_cmp nat_cmp x.now y.now) (λ k. slice_cmp nat_cmp path k.now) m n
    (Some file)

-- a file that was put in at a path where there was none
pub at_text-put : (path : List ℕ) (file : Bor FileFact)
    (m n : BTreeMap (Bor (List ℕ)) (Bor FileFact))
    → Puts path file m n
    → tree.get_by (λ k. slice_cmp nat_cmp path k.now) m ≡ None
    → (q : List ℕ) → at_text q n ≡ option_or (at_text q m)
    (cond (bytes_eq path q) (Some file.now) None)
at_text-put path file m n h absent q =
    ap option_copied (btree_map_updates_str path m n (Some file) h q) ∙ go (bytes_eq path q) refl
  where
    go : (b : Bool) → bytes_eq path q ≡ b
        → option_copied (cond b (Some file) (tree.get_by (λ k. slice_cmp nat_cmp q k.now) m))
        ≡ option_or (at_text q m) (cond b (Some file.now) None)
    go true e = rw (rw ((bytes_eq-Decides path q).0 e) at absent) refl
    go false e = sym (or_none (at_text q m))

-- a file that took the place of the first one of its path, which was then put back
pub at_text-put_back : (path : List ℕ) (file first : Bor FileFact)
    (m n r : BTreeMap (Bor (List ℕ)) (Bor FileFact))
    → Puts path file m n → Puts path first n r
    → Some first ≡ tree.get_by (λ k. slice_cmp nat_cmp path k.now) m
    → (q : List ℕ) → at_text q r ≡ option_or (at_text q m)
    (cond (bytes_eq path q) (Some file.now) None)
at_text-put_back path file first m n r put back was q =
    ap option_copied (btree_map_updates_str path n r (Some first) back q)
    ∙ go (bytes_eq path q) refl
  where
    some_or : (o : Option (Bor FileFact)) (other : Option FileFact) → Some first ≡ o
        → Some first.now ≡ option_or (option_copied o) other
    some_or o other h = rw (← h) refl

    go : (b : Bool) → bytes_eq path q ≡ b
        → option_copied (cond b (Some first) (tree.get_by (λ k. slice_cmp nat_cmp q k.now) n))
        ≡ option_or (at_text q m) (cond b (Some file.now) None)
    go true e =
        some_or (tree.get_by (λ k. slice_cmp nat_cmp q k.now) m) (Some file.now)
        (rw ((bytes_eq-Decides path q).0 e) at was)
    go false e =
        ap option_copied
        (btree_map_updates_str path m n (Some file) put q
        ∙ ap (λ b. cond b (Some file) (tree.get_by (λ k. slice_cmp nat_cmp q k.now) m)) e)
        ∙ sym (or_none (at_text q m))

-- the first file of a path, one file on
pub file_at_next : (q : List ℕ) (files : List FileFact) (place : ℕ) (file : FileFact)
    → place < length files → file ≡ get_or files place file
    → option_or (file_at q (take place files)) (cond (bytes_eq file.path q) (Some file) None)
    ≡ file_at q (take (place + 1) files)
file_at_next q files place file within is =
    sym
    (ap (file_at q) (take_more files place file within
    ∙ ap (λ f. take place files ++ f ∷ []) (sym is))
    ∙ find-append (λ (f : FileFact). bytes_eq f.path q) (take place files) (file ∷ []))
