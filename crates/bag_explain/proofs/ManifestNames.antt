-- The manifests of a tree have a name each.
use Rattle.std.proofs.Common.{◌≡◌, ◌≢◌, ℕ, false, List, Option, Some, None, refl}
use Rattle.std.proofs.Common.{sym, ap, ◌∙◌, inl, inr, arith}
use Rattle.std.specs.Str.{bytes_eq}
use Rattle.std.proofs.lemmas.Slice.Eq.{bytes_eq-Decides}
use Rattle.bag_text.specs.declared.algorithm.Algorithm.{Algorithm}
use Rattle.bag_text.specs.declared.algorithm.Algorithm.TheVariants.{Md5, Sha1, Sha256, Sha512}
use Rattle.bag_tree.specs.Facts.{FileFact}
use Rattle.bag_check.specs.declared.manifests.Kind.{Kind}
use Rattle.bag_check.specs.declared.manifests.Kind.TheVariants.{Payload, Tag}
use Rattle.bag_check.specs.Manifests.{Manifest, kinds, algorithms, manifest_name, manifest_in}
use Rattle.bag_check.specs.Manifests.{text_at, manifest_at, manifests_of_kind, manifests_of}
use Rattle.bag_explain.proofs.Members.{In, in_some}
use Rattle.bag_explain.proofs.Pairs.{Pairs, pairs_each}

-- ---- a name says the kind and the algorithm

differ : (p q : List ℕ) → bytes_eq p q ≡ false → p ≢ q
differ p q other same = absurd (cc (sym other ∙ (bytes_eq-Decides p q).1 same))

kind_named : (k l : Kind) (a b : Algorithm) → manifest_name k a ≡ manifest_name l b → k ≡ l
unfolding manifest_name
kind_named Payload Payload a b h = refl
kind_named Tag Tag a b h = refl
kind_named k l a b h = absurd (differ (manifest_name k a) (manifest_name l b) refl h)

algorithm_named : (k : Kind) (a b : Algorithm) → manifest_name k a ≡ manifest_name k b → a ≡ b
unfolding manifest_name
algorithm_named k Md5 Md5 h = refl
algorithm_named k Sha1 Sha1 h = refl
algorithm_named k Sha256 Sha256 h = refl
algorithm_named k Sha512 Sha512 h = refl
algorithm_named Payload a b h =
    absurd (differ (manifest_name Payload a) (manifest_name Payload b) refl h)
algorithm_named Tag a b h = absurd (differ (manifest_name Tag a) (manifest_name Tag b) refl h)

-- ---- each kind once, and each algorithm

kinds_once : Pairs (λ (k l : Kind). k ≢ l) kinds
kinds_once = ((λ l h same. grind arith), ((λ l h. absurd h), tt))

algorithms_once : Pairs (λ (a b : Algorithm). a ≢ b) algorithms
algorithms_once = (
  λ b h same. grind arith,
  ((λ b h same. grind arith), ((λ b h same. grind arith), ((λ b h. absurd h), tt))),
)

-- ---- the manifests among the files

abbrev pub name_in : Manifest → List ℕ
name_in manifest = manifest_name manifest.kind manifest.algorithm

abbrev pub AreOther : Manifest → Manifest → Type 0
AreOther a b = name_in a ≢ name_in b

is_of : (k : Kind) (a : Algorithm) (text : Option (List ℕ)) (manifest : Manifest)
    → In manifest (manifest_in k a text) → (k ≡ manifest.kind) × (a ≡ manifest.algorithm)
is_of k a None manifest h = absurd h
is_of k a (Some text) manifest (inl e) =
    (ap (λ (m : Manifest). m.kind) e, ap (λ (m : Manifest). m.algorithm) e)
is_of k a (Some text) manifest (inr h) = absurd h

at_most_one : (k : Kind) (a : Algorithm) (text : Option (List ℕ))
    → Pairs AreOther (manifest_in k a text)
at_most_one k a None = tt
at_most_one k a (Some text) = ((λ y h. absurd h), tt)

module _ (files : List FileFact) where
  of_both : (k : Kind) (a : Algorithm) (manifest : Manifest) → In manifest (manifest_at k a files)
      → (k ≡ manifest.kind) × (a ≡ manifest.algorithm)
  unfolding manifest_at
  of_both k a manifest h = is_of k a (text_at (manifest_name k a) files) manifest h

  one_at : (k : Kind) (a : Algorithm) → Pairs AreOther (manifest_at k a files)
  unfolding manifest_at
  one_at k a = at_most_one k a (text_at (manifest_name k a) files)

  of_kind : (k : Kind) (manifest : Manifest) → In manifest (manifests_of_kind k files)
      → k ≡ manifest.kind
  unfolding manifests_of_kind
  of_kind k manifest h =
      let (a, there, here) = in_some (λ a. manifest_at k a files) algorithms manifest h in
      (of_both k a manifest here).0

  kind_once : (k : Kind) → Pairs AreOther (manifests_of_kind k files)
  unfolding manifests_of_kind
  kind_once k =
      pairs_each (λ (a b : Algorithm). a ≢ b) AreOther (λ a. manifest_at k a files) (one_at k) other
      algorithms algorithms_once
    where
      other : (a b : Algorithm) → a ≢ b → (x y : Manifest) → In x (manifest_at k a files)
          → In y (manifest_at k b files) → AreOther x y
      other a b ne x y h j same =
          let (kx, ax) = of_both k a x h in
          let (ky, ay) = of_both k b y j in
          ne (algorithm_named k a b cc)

  -- no two have one name
  pub manifests_once : Pairs AreOther (manifests_of files)
  unfolding manifests_of
  manifests_once =
      pairs_each (λ (k l : Kind). k ≢ l) AreOther (λ k. manifests_of_kind k files) kind_once other
      kinds kinds_once
    where
      other : (k l : Kind) → k ≢ l → (x y : Manifest) → In x (manifests_of_kind k files)
          → In y (manifests_of_kind l files) → AreOther x y
      other k l ne x y h j same =
          ne (cc (
            of_kind k x h,
            kind_named x.kind y.kind x.algorithm y.algorithm same,
            of_kind l y j,
          ))
