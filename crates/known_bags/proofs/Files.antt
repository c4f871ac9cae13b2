-- What files give, one after the other.
use Rattle.std.proofs.Common.{◌≡◌, ℕ, ◌+◌, ◌<◌, List, [], ◌∷◌, ◌++◌, length, take, drop, get_or}
use Rattle.std.proofs.Common.{map}
use Rattle.std.proofs.Common.{Result, Ok, Err, Bor, refl, inl, inr, subst, sym, ap, ◌∙◌}
use Rattle.std.proofs.Common.{take-append-drop}
use Rattle.std.proofs.lemmas.List.{map_more, map-append, drop_more}
use Rattle.std.specs.Prelude.{IsErrAnd}
use Rattle.known_bags.specs.declared.known_bag.KnownBag.{KnownBag}
use Rattle.known_bags.specs.declared.sources.SourceFault.{SourceFault}
use Rattle.known_bags.specs.Sources.{Files, IsOfFile, AreOfFiles}

-- these files, and then others
pub joined : (files : Files) (done paths : List (List ℕ)) (old mid new : List KnownBag)
    (result : Result (Unit {0}) SourceFault) → AreOfFiles files done old mid (Ok tt)
    → AreOfFiles files paths mid new result → AreOfFiles files (done ++ paths) old new result
joined files [] paths old mid new result (same, ok) more =
    subst (λ (bags : List KnownBag). AreOfFiles files paths bags new result) same more
joined files (path ∷ done) paths old mid new result (inl (next, is, were)) more =
    inl (next, is, joined files done paths next mid new result were more)
joined files (path ∷ done) paths old mid new result (inr (err, is)) more = absurd (cc err)

-- the next one gives this
pub next_file : (files : Files) (done : List (List ℕ)) (path : List ℕ)
    (old mid new : List KnownBag) → AreOfFiles files done old mid (Ok tt)
    → IsOfFile (files path) mid new (Ok tt) → AreOfFiles files (done ++ path ∷ []) old new (Ok tt)
next_file files done path old mid new were is =
    joined files done (path ∷ []) old mid new (Ok tt) were (inl (new, is, (refl, refl)))

-- the next one is no source: no other is read
pub fails_at : (files : Files) (done : List (List ℕ)) (path : List ℕ) (paths : List (List ℕ))
    (old mid new : List KnownBag) (fault : SourceFault) → AreOfFiles files done old mid (Ok tt)
    → IsOfFile (files path) mid new (Err fault)
    → AreOfFiles files (done ++ path ∷ paths) old new (Err fault)
fails_at files done path paths old mid new fault were is =
    joined files done (path ∷ paths) old mid new (Err fault) were (inr (refl, is))

-- ---- of paths behind a loan

abbrev pub names : List (Bor (List ℕ)) → List (List ℕ)
names all = map (λ path. path.now) all

module _ (files : Files) (paths : List (Bor (List ℕ))) (i : ℕ) (d : Bor (List ℕ))
    (more : i < length paths) (old mid new : List KnownBag) where
  pub next_path : AreOfFiles files (names (take i paths)) old mid (Ok tt)
      → IsOfFile (files (get_or paths i d).now) mid new (Ok tt)
      → AreOfFiles files (names (take (i + 1) paths)) old new (Ok tt)
  next_path were is =
      subst (λ (done : List (List ℕ)). AreOfFiles files done old new (Ok tt))
      (sym (map_more (λ (path : Bor (List ℕ)). path.now) paths i d more))
      (next_file files (names (take i paths)) (get_or paths i d).now old mid new were is)

  all_names : names (take i paths) ++ (get_or paths i d).now ∷ names (drop (i + 1) paths)
      ≡ names paths
  all_names =
      sym (map-append (λ (path : Bor (List ℕ)). path.now) (take i paths)
      (get_or paths i d ∷ drop (i + 1) paths))
      ∙ ap (λ (rest : List (Bor (List ℕ))). names (take i paths ++ rest))
      (sym (drop_more paths i d more))
      ∙ ap names (take-append-drop i paths)

  pub fails_at_path : (fault : SourceFault) (result : Result (Unit {0}) SourceFault)
      → AreOfFiles files (names (take i paths)) old mid (Ok tt)
      → IsOfFile (files (get_or paths i d).now) mid new (Err fault)
      → IsErrAnd result (λ e. e ≡ fault) → AreOfFiles files (names paths) old new result
  fails_at_path fault (Ok u) were is so = absurd so
  fails_at_path fault (Err e) were is so =
      subst (λ (all : List (List ℕ)). AreOfFiles files all old new (Err e)) all_names
      (fails_at files (names (take i paths)) (get_or paths i d).now (names (drop (i + 1) paths))
      old mid new e were
      (subst (λ (f : SourceFault). IsOfFile (files (get_or paths i d).now) mid new (Err f))
      (sym so) is))
