-- Maps that lead from paths to files: what a look-up finds, one entry more, and one file more.
use Rattle.std.proofs.Common.{get_or, ◌≡◌, ◌⊎◌, inl, inr, ℕ, zero, suc, ◌-◌, ◌<◌, ◌≤◌, ◌==◌}
use Rattle.std.proofs.Common.{ltb, Bool, true, false, ◌||◌, cond, List, [], ◌∷◌, ◌++◌, length, take}
use Rattle.std.proofs.Common.{drop, String, Option, Some, None, refl, sym, ap, ◌∙◌, arith}
use Rattle.std.specs.BTreeMap as tree
use Rattle.std.specs.BTreeMap.{BTreeMap, get_by_text}
use Rattle.std.specs.Cmp.Lexicographic.{slice_cmp}
use Rattle.std.specs.List.{list_any, slice_get, slice_range, count_by}
use Rattle.std.specs.Ordering.{nat_cmp}
use Rattle.std.specs.Str.{bytes_eq}
use Rattle.std.specs.String.{string_bytes, string_cmp}
use Rattle.std.proofs.Math.Bool.{or-true, or-false}
use Rattle.std.proofs.lemmas.Bool.{cases_Bool, cases_eq, cases_lt, lt-ltb, or_parts}
use Rattle.std.proofs.lemmas.List.{take-append-drop, length-append, take-take}
use Rattle.std.proofs.lemmas.List.Sums.{sum_by-append}
use Rattle.std.proofs.lemmas.List.Folds.{list_any-append}
use Rattle.std.proofs.lemmas.Map.Text.{btree_map_updates_text}
use Rattle.std.proofs.lemmas.Option.{slice_get_past, slice_get_read}
use Rattle.std.proofs.lemmas.Slice.Eq.{bytes_eq-Decides}
use Rattle.bag_tree.specs.Tree.{File, clash, deepest_path}
use Rattle.bag_tree.specs.Path.{is_below, parts_of, slash}
use Rattle.bag_tree.proofs.Below.{below_parts}
use Rattle.std.proofs.lemmas.List.Splits.{length-slice_split}
use Rattle.bag_tree.specs.inner.Places.{FindsEach, is_at, is_too_deep, leads}

module _ {Y : Type 0} (fits : List ℕ → List ℕ → Bool) (files : List File)
    (places : BTreeMap (String Y) ℕ) (h : FindsEach fits files places) where
  -- ---- what a look-up finds

  pub found_nothing : (path : List ℕ) → None ≡ get_by_text places path
      → false ≡ list_any (λ file. fits path file.path) files
  found_nothing path e = rw (h path, ← e) refl

  pub found_no_file : (path : List ℕ) (place : ℕ) → Some place ≡ get_by_text places path
      → length files ≤ place → false ≡ list_any (λ file. fits path file.path) files
  found_no_file path place e past = rw (h path, ← e, slice_get_past files place past) refl

  pub found_file : (path : List ℕ) (place : ℕ) (file : File) → Some place ≡ get_by_text places path
      → place < length files → file ≡ get_or files place file
      → fits path file.path ≡ list_any (λ file. fits path file.path) files
  found_file path place file e within is =
      rw (h path, ← e, slice_get_read files (length files) place file refl within is) refl

  -- ---- one entry more, which leads to the file that is added next

  pub one_more : (key : List ℕ) (new : BTreeMap (String Y) ℕ)
      → tree.UpdatesBy string_cmp (λ k. slice_cmp nat_cmp key (string_bytes k)) places new
      (Some (length files))
      → list_any (λ file. fits key file.path) files ≡ false → FindsEach fits files new
  one_more key new updates none path =
      let now = btree_map_updates_text key places new (Some (length files)) updates path in
      elim (cases_Bool (bytes_eq key path)) [
        | inl same ↦
            let is = (bytes_eq-Decides key path).0 same in
            rw (now, same, slice_get_past files (length files) (omega arith)) (rw is at none)
        | inr other ↦ rw (now, other) (h path)
      ]

-- what the map has elsewhere stays
pub others_stay : {Y : Type 0} (key : List ℕ) (places new : BTreeMap (String Y) ℕ) (place : ℕ)
    → tree.UpdatesBy string_cmp (λ k. slice_cmp nat_cmp key (string_bytes k)) places new
    (Some place)
    → (path : List ℕ)
    → (get_by_text new path ≡ Some place) ⊎ (get_by_text new path ≡ get_by_text places path)
others_stay key places new place updates path =
    let now = btree_map_updates_text key places new (Some place) updates path in
    elim (cases_Bool (bytes_eq key path)) [
      | inl same ↦ inl (rw same at now)
      | inr other ↦ inr (rw other at now)
    ]

-- ---- one file more

get_before : (files more : List File) (place : ℕ) → place < length files
    → slice_get (files ++ more) place ≡ slice_get files place
get_before [] more place h = absurd (omega arith)
get_before (file ∷ files) more zero h = refl
get_before (file ∷ files) more (suc place) h = get_before files more place (omega arith)

get_last : (files : List File) (file : File)
    → slice_get (files ++ file ∷ []) (length files) ≡ Some file
get_last [] file = refl
get_last (first ∷ files) file = get_last files file

module _ (test : File → Bool) (files : List File) (file : File) where
  -- a place that led to such a file still does
  leads_still : (found : Option ℕ) → leads test files found ≡ true
      → leads test (files ++ file ∷ []) found ≡ true
  leads_still None h = absurd (cc h)
  leads_still (Some place) h =
      elim (cases_lt place (length files)) [
        | inl within ↦ rw (get_before files (file ∷ []) place within) h
        | inr past ↦ absurd (cc (rw (slice_get_past files place past) at h))
      ]

  -- a file that doesn't pass changes nothing
  leads_same : test file ≡ false → (found : Option ℕ)
      → leads test (files ++ file ∷ []) found ≡ leads test files found
  leads_same not None = refl
  leads_same not (Some place) =
      elim (cases_lt place (length files)) [
        | inl within ↦ rw (get_before files (file ∷ []) place within) refl
        | inr past ↦
            elim (cases_eq place (length files)) [
              | inl last ↦
                  rw (last, get_last files file, slice_get_past files (length files) (omega arith))
                  not
              | inr beyond ↦
                  rw (
                    slice_get_past files place past,
                    slice_get_past (files ++ file ∷ []) place
                        (omega (arith, length-append files (file ∷ []), past, beyond)),
                  )
                  refl
            ]
      ]

-- the map leads from the path to the next file, or to one that is there
abbrev pub Leads : {Y : Type 0} → (List ℕ → List ℕ → Bool) → List File → BTreeMap (String Y) ℕ
    → List ℕ → Type 0
Leads fits files places path =
    (get_by_text places path ≡ Some (length files))
    ⊎ (list_any (λ file. fits path file.path) files ≡ true)

-- ---- folders of a path, and files

-- no file has the path of a folder that a path lies in, so that the path lies below no file
pub none_below : (files : List File) (path : List ℕ)
    → ((folder : List ℕ) → is_below folder path ≡ true
    → list_any (λ file. is_at folder file.path) files ≡ false)
    → list_any (λ file. is_below file.path path) files ≡ false
none_below [] path h = refl
none_below (file ∷ files) path h = elim (cases_Bool (is_below file.path path)) [
  | inl below ↦
      let none : is_at file.path file.path ≡ false = (or_parts _ _ (h file.path below)).0 in
      absurd (cc (none, (bytes_eq-Decides file.path file.path).1 refl))
  | inr other ↦
      rw other (none_below files path (λ folder below. (or_parts _ _ (h folder below)).1))
]

-- a file has the path of a folder that the path lies in
pub some_below : (files : List File) (folder path : List ℕ) → is_below folder path ≡ true
    → list_any (λ file. is_at folder file.path) files ≡ true
    → list_any (λ file. is_below file.path path) files ≡ true
some_below [] folder path below h = absurd (cc h)
some_below (file ∷ files) folder path below h = elim (cases_Bool (is_at folder file.path)) [
  | inl same ↦ rw ((bytes_eq-Decides file.path folder).0 same, below) refl
  | inr other ↦
      rw (some_below files folder path below (rw other at h)) (or-true (is_below file.path path))
]

-- the text before a place
pub from_start : (path : List ℕ) (end : ℕ) → slice_range path 0 end ≡ take end path
from_start path end =
    let same : end - 0 ≡ end = omega arith in rw same refl

-- an entry that came meanwhile is one for the new file
pub keeps : {L : Type 0} (now before : Option ℕ) (place : ℕ)
    → (now ≡ Some place) ⊎ (now ≡ before) → (before ≡ Some place) ⊎ L → (now ≡ Some place) ⊎ L
keeps now before place (inl new) h = inl new
keeps now before place (inr same) (inl new) = inl (same ∙ new)
keeps now before place (inr same) (inr other) = inr other

-- a path clashes with a file that has it, lies below it, or has it below itself
regrouped : (at below above ats belows aboves : Bool)
    → (((at || above) || below) || ((ats || belows) || aboves))
    ≡ (((at || ats) || (below || belows)) || (above || aboves))
regrouped true below above ats belows aboves = refl
regrouped false below true ats belows aboves = sym (or-true (ats || (below || belows)))
regrouped false true false ats belows aboves = sym (ap (λ t. t || aboves) (or-true ats))
regrouped false false false ats belows aboves = refl

pub clashes : (files : List File) (path : List ℕ)
    → list_any (λ file. clash file.path path) files
    ≡ ((list_any (λ file. is_at path file.path) files
    || list_any (λ file. is_below path file.path) files)
    || list_any (λ file. is_below file.path path) files)
clashes [] path = refl
clashes (file ∷ files) path =
    rw (clashes files path)
    (regrouped (is_at path file.path) (is_below path file.path) (is_below file.path path)
    (list_any (λ (f : File). is_at path f.path) files)
    (list_any (λ (f : File). is_below path f.path) files)
    (list_any (λ (f : File). is_below f.path path) files))

pub has_clash : (files found : List File) (path : List ℕ) (at below above : Bool) → found ≡ files
    → at ≡ list_any (λ file. is_at path file.path) found
    → below ≡ list_any (λ file. is_below path file.path) found
    → above ≡ list_any (λ file. is_below file.path path) found
    → ((at || below) || above) ≡ list_any (λ file. clash file.path path) files
has_clash files found path at below above same a b c =
    rw (a, b, c, same) (sym (clashes files path))

-- a path that clashes with no file is none of a file
pub none_at : (files found : List File) (path : List ℕ) → found ≡ files
    → list_any (λ file. clash file.path path) files ≡ false
    → list_any (λ file. is_at path file.path) found ≡ false
none_at files found path same h =
    rw same (or_parts _ _ (or_parts _ _ (sym (clashes files path) ∙ h)).0).0

-- ---- a file that was added

pub file_added : {Y : Type 0} (fits : List ℕ → List ℕ → Bool) (files all : List File) (file : File)
    (places : BTreeMap (String Y) ℕ) (path : List ℕ) → all ≡ files ++ file ∷ []
    → file.path ≡ path → FindsEach fits files places
    → ((key : List ℕ) → fits key path ≡ true → Leads fits files places key)
    → FindsEach fits all places
file_added fits files all file places path is named h added key =
    let test : File → Bool = λ f. fits key f.path in
    let found = get_by_text places key in
    rw is
    (list_any-append test files (file ∷ [])
    ∙ elim (cases_Bool (fits key file.path)) [
      | inl fit ↦
          elim (added key (rw (← named) fit)) [
            | inl new ↦ rw (new, get_last files file, fit) (or-true (list_any test files))
            | inr old ↦ rw old (sym (leads_still test files file found (sym (h key) ∙ old)))
          ]
      | inr unfit ↦
          rw (unfit, or-false (list_any test files))
          (h key ∙ sym (leads_same test files file unfit found))
    ])

pub path_added : {Y : Type 0} (files : List File) (places : BTreeMap (String Y) ℕ) (path : List ℕ)
    → get_by_text places path ≡ Some (length files) → (key : List ℕ) → is_at key path ≡ true
    → Leads is_at files places key
path_added files places path h key e = inl (rw (← (bytes_eq-Decides path key).0 e) h)

-- ---- paths of many parts

-- a longer beginning of a path has no fewer parts
deeper : (folder : List ℕ) (end : ℕ)
    → length (parts_of (take end folder)) ≤ length (parts_of folder)
deeper folder end =
    let front = length-slice_split (λ b. b == slash) (take end folder) in
    let all = length-slice_split (λ b. b == slash) folder in
    let split = ap (count_by (λ b. b == slash)) (sym (take-append-drop end folder))
    ∙ sum_by-append (λ b. cond (b == slash) 1 0) (take end folder) (drop end folder) in
    omega (arith, front, all, split)

none_so_deep : (files : List File) (folder : List ℕ) → deepest_path < length (parts_of folder)
    → list_any is_too_deep files ≡ false → list_any (λ file. is_at folder file.path) files ≡ false
none_so_deep [] folder deep h = refl
none_so_deep (file ∷ files) folder deep h =
    let parts = or_parts (is_too_deep file) (list_any is_too_deep files) h in
    elim (cases_Bool (is_at folder file.path)) [
      | inl same ↦
          let is = (bytes_eq-Decides file.path folder).0 same in
          let long : ltb deepest_path (length (parts_of file.path)) ≡ true =
          rw is (lt-ltb deepest_path (length (parts_of folder)) deep) in
          absurd (cc (long, parts.0))
      | inr other ↦ rw other (none_so_deep files folder deep parts.1)
    ]

-- where a folder of the path has that many parts, no folder from there on is a file
pub none_deeper : (files : List File) (path : List ℕ) (end : ℕ)
    → deepest_path < length (parts_of (take end path)) → list_any is_too_deep files ≡ false
    → ((folder : List ℕ) → length folder < end → is_below folder path ≡ true
    → list_any (λ file. is_at folder file.path) files ≡ false)
    → list_any (λ file. is_below file.path path) files ≡ false
none_deeper files path end deep h before =
    none_below files path
    (λ folder below.
    elim (cases_lt (length folder) end) [
      | inl less ↦ before folder less below
      | inr past ↦
          let parts = below_parts folder path below in
          let more = deeper folder end in
          let front : take end folder ≡ take end path =
          ap (take end) parts.1 ∙ take-take end (length folder) path past in
          let same : length (parts_of (take end folder)) ≡ length (parts_of (take end path)) =
          rw front refl in
          none_so_deep files folder (omega (arith, deep, more, same)) h
    ])

-- a file of no more parts was added
pub still_none_deep : (files all : List File) (file : File) (path : List ℕ)
    → all ≡ files ++ file ∷ [] → file.path ≡ path → list_any is_too_deep files ≡ false
    → ltb deepest_path (length (parts_of path)) ≡ false → list_any is_too_deep all ≡ false
still_none_deep files all file path is named none short =
    let last : is_too_deep file ≡ false = rw named short in
    rw (is, list_any-append is_too_deep files (file ∷ []), none, last) refl
