-- The first fault of a tree, as it is looked for.
use Rattle.std.proofs.Common.{◌≡◌, ℕ, Bool, true, false, cond, not, List, [], ◌∷◌, Option, Some}
use Rattle.std.proofs.Common.{None, Result, Ok, Err, refl, sym, ap, ◌∙◌, inl, inr}
use Rattle.std.specs.Prelude.{codes, is_some, is_err, unwrap_or}
use Rattle.std.specs.List.{list_any, flat_map}
use Rattle.std.specs.Result.{IsErrAnd}
use Rattle.std.specs.Option.{option_or, option_map}
use Rattle.std.proofs.lemmas.List.Folds.{list_any-append}
use Rattle.std.proofs.Math.Bool.{or-false}
use Rattle.bag_text.specs.ListedFile.{ListedFile}
use Rattle.bag_text.specs.Readers.{declaration_of}
use Rattle.bag_tree.specs.Facts.{FileFact, TreeFacts}
use Rattle.sha2.specs.Sha512.{sha512}
use Rattle.fed_types.specs.declared.bag_id.BagId.{BagId}
use Rattle.fed_types.specs.Faults.{IsOrFault}
use Rattle.bag_check.specs.declared.fault.BagFault.{BagFault}
use Rattle.bag_check.specs.declared.fault.BagFault.TheVariants.{NoDeclaration, BadDeclaration}
use Rattle.bag_check.specs.declared.fault.BagFault.TheVariants.{UnsupportedVersion}
use Rattle.bag_check.specs.declared.fault.BagFault.TheVariants.{UnsupportedEncoding, MalformedLine}
use Rattle.bag_check.specs.declared.fault.BagFault.TheVariants.{Memory}
use Rattle.bag_check.specs.Manifests.{is_unknown, Manifest, file_at, has_file, text_at}
use Rattle.bag_check.specs.Manifests.{sha512_manifest, manifests_of, passes, entries}
use Rattle.bag_check.specs.Check.{is_bad_declaration, declares_other, fails, is_supported_version}
use Rattle.bag_check.specs.Check.{is_supported_encoding, is_astray, repeats, is_unlisted, is_wrong}
use Rattle.bag_check.specs.Check.{if_payload, holds, first_fault, answer, identity_of, check_of}
use Rattle.bag_check.specs.Check.{is_missing}
use Rattle.bag_check.specs.inner.Order.{fault_of_declared, fault_of_declaration, fault_of_names}
use Rattle.bag_check.specs.inner.Order.{fault_of_tag_files, Listed, listed_in, listings}
use Rattle.bag_check.specs.inner.Order.{some_malformed, Reads, FailsToRead, has_astray, has_repeat}
use Rattle.bag_check.specs.inner.Order.{has_missing, has_unlisted, has_wrong, fault_of_listings}

or_cond : (t : Bool) (a b c : Option BagFault)
    → option_or (cond t a b) c ≡ cond t (option_or a c) (option_or b c)
or_cond true a b c = refl
or_cond false a b c = refl

-- ---- what `bagit.txt` declares

declared : (read : Result (List ℕ × List ℕ) ℕ) (rest : Option BagFault)
    → cond (is_err read) (Some BadDeclaration)
    (cond (fails (λ version encoding. is_supported_version version) read) (Some UnsupportedVersion)
    (cond (fails (λ version encoding. is_supported_encoding encoding) read)
    (Some UnsupportedEncoding) rest))
    ≡ option_or (fault_of_declared read) rest
declared (Err line) rest = refl
declared (Ok (version, encoding)) rest = rw (or_cond, or_cond) refl

declaration : (file : Option FileFact) (rest : Option BagFault)
    → cond (not (is_some file)) (Some NoDeclaration)
    (cond (is_bad_declaration (option_map (λ f. unwrap_or f.text []) file)) (Some BadDeclaration)
    (cond (declares_other (λ version encoding. is_supported_version version)
    (option_map (λ f. unwrap_or f.text []) file)) (Some UnsupportedVersion)
    (cond (declares_other (λ version encoding. is_supported_encoding encoding)
    (option_map (λ f. unwrap_or f.text []) file)) (Some UnsupportedEncoding) rest)))
    ≡ option_or (fault_of_declaration (option_map (λ f. unwrap_or f.text []) file)) rest
declaration None rest = refl
declaration (Some file) rest = declared (declaration_of (unwrap_or file.text [])) rest

-- ---- what the manifests list

-- a test of what each manifest lists that has no malformed line
pub of_listings : (test : Manifest → List ListedFile → Bool) (asked : Listed → Bool)
    → ((manifest : Manifest) (files : List ListedFile)
    → test manifest files
    ≡ asked (record { kind = manifest.kind; algorithm = manifest.algorithm; files = files }))
    → (manifests : List Manifest) → list_any
    (λ manifest. passes (test manifest) (entries manifest)) manifests
    ≡ list_any asked (listings manifests)
unfolding listings
of_listings test asked same [] = refl
of_listings test asked same (manifest ∷ manifests) =
    rw (go (entries manifest), of_listings test asked same manifests)
    (sym (list_any-append asked (listed_in manifest.kind manifest.algorithm (entries manifest))
    (flat_map (λ (m : Manifest). listed_in m.kind m.algorithm (entries m)) manifests)))
  where
    go : (read : Result (List ListedFile) ℕ)
        → passes (test manifest) read ≡ list_any asked
        (listed_in manifest.kind manifest.algorithm read)
    go (Ok files) = same manifest files
        ∙ sym
        (or-false
        (asked (record { kind = manifest.kind; algorithm = manifest.algorithm; files = files })))
    go (Err line) = refl

-- ---- all faults

-- the first fault from the manifests on
abbrev pub later_steps : TreeFacts → Option BagFault
later_steps facts =
    cond (some_malformed (manifests_of facts.files)) (Some MalformedLine)
    (fault_of_listings facts.files (listings (manifests_of facts.files)))

or_assoc : (a b c : Option BagFault) → option_or a (option_or b c) ≡ option_or (option_or a b) c
or_assoc None b c = refl
or_assoc (Some fault) b c = refl

pub first_fault-steps : (facts : TreeFacts)
    → first_fault facts ≡ option_or (fault_of_tag_files facts.files facts.payload)
    (later_steps facts)
unfolding holds fault_of_tag_files fault_of_names is_unknown some_malformed fault_of_listings
first_fault-steps facts =
    let all = manifests_of facts.files in
    rw (
      ← or_assoc (fault_of_declaration (text_at (codes "bagit.txt") facts.files))
          (fault_of_names facts.files facts.payload) (later_steps facts),
      or_cond (has_file (codes "fetch.txt") facts.files),
      or_cond (not facts.payload),
      or_cond (not (has_file sha512_manifest facts.files)),
      or_cond (list_any is_unknown facts.files),
      ← of_listings (λ m. list_any (is_astray m.kind)) has_astray (λ m es. refl) all,
      ← of_listings (λ m es. if_payload m.kind (repeats es)) has_repeat (λ m es. refl) all,
      ← of_listings (λ m. list_any (is_missing facts.files)) (has_missing facts.files)
          (λ m es. refl) all,
      ← of_listings (λ m es. if_payload m.kind (list_any (is_unlisted es) facts.files))
          (has_unlisted facts.files) (λ m es. refl) all,
      ← of_listings (λ m. list_any (is_wrong m.algorithm facts.files)) (has_wrong facts.files)
          (λ m es. refl) all,
    ) (declaration (file_at (codes "bagit.txt") facts.files) _)

-- ---- which fault is found where each test is known

-- an answer of the first fault
found_fault : (facts : TreeFacts) (fault : BagFault) → first_fault facts ≡ Some fault
    → IsOrFault Memory (Err fault) (check_of facts)
unfolding check_of
found_fault facts fault h = inl (sym (ap (answer facts) h))

-- an error that a `?` hands on
pub handed_on_as : (wanted answer : Result BagId BagFault) (fault : BagFault)
    → IsErrAnd answer (λ other. other ≡ fault) → IsOrFault Memory (Err fault) wanted
    → IsOrFault Memory answer wanted
handed_on_as wanted (Ok bag) fault is h = absurd is
handed_on_as wanted (Err other) fault is h = rw is h

module _ (facts : TreeFacts) (files : List FileFact) (payload : Bool) (same : files ≡ facts.files)
    (exists : payload ≡ facts.payload) where
  pub faulty_tag_files : (fault : BagFault) → Some fault ≡ fault_of_tag_files files payload
      → IsOrFault Memory (Err fault) (check_of facts)
  faulty_tag_files fault h =
      let found : fault_of_tag_files facts.files facts.payload ≡ Some fault = cc in
      found_fault facts fault
      (first_fault-steps facts ∙ ap (λ o. option_or o (later_steps facts)) found)

  module _ (sound : None ≡ fault_of_tag_files files payload) where
    past : (fault : Option BagFault) → later_steps facts ≡ fault → first_fault facts ≡ fault
    past fault h =
        let none : fault_of_tag_files facts.files facts.payload ≡ None = cc in
        first_fault-steps facts ∙ (ap (λ o. option_or o (later_steps facts)) none ∙ h)

    pub not_read : (fault : BagFault) → FailsToRead (manifests_of files) fault
        → IsOrFault Memory (Err fault) (check_of facts)
    not_read Memory h = inr refl
    not_read MalformedLine h =
        let malformed = rw same at h in
        found_fault facts MalformedLine (past (Some MalformedLine) (rw malformed refl))
    not_read fault h = absurd h

    -- the fault of what the manifests list, or that there is none
    module _ (found slice : List Listed) (reads : Reads (manifests_of files) [] found)
        (sliced : slice ≡ found) where
      listed : (fault : Option BagFault) → fault ≡ fault_of_listings files slice
          → first_fault facts ≡ fault
      listed fault h =
          let there : Reads (manifests_of facts.files) [] found = rw (← same) reads in
          let listing : fault_of_listings facts.files (listings (manifests_of facts.files))
          ≡ fault = cc there.1 in
          past fault
          (ap (λ t. cond t (Some MalformedLine)
          (fault_of_listings facts.files (listings (manifests_of facts.files)))) there.0 ∙ listing)

      pub faulty_listing : (fault : BagFault) → Some fault ≡ fault_of_listings files slice
          → IsOrFault Memory (Err fault) (check_of facts)
      faulty_listing fault h = found_fault facts fault (listed (Some fault) h)

      -- the identity where no fault is found
      pub sound_listing : (bag : BagId) → None ≡ fault_of_listings files slice
          → bag ≡ record { 0 = sha512 (unwrap_or (text_at sha512_manifest files) []) }
          → check_of facts ≡ Ok bag
      unfolding check_of
      sound_listing bag h is =
          let identity : identity_of facts ≡ bag = rw (← same) (sym is) in
          ap (answer facts) (listed None h) ∙ ap Ok identity
