-- What a manifest lists, one entry on.
use Rattle.std.proofs.Common.{◌≡◌, ℕ, ◌+◌, ◌<◌, ◌≤◌, Bool, true, false, not, ◌||◌, List, [], ◌∷◌}
use Rattle.std.proofs.Common.{◌++◌, length, take, get_or, refl, sym, ap, ◌∙◌, append_assoc}
use Rattle.std.proofs.Common.{append-nil}
use Rattle.std.specs.List.{flat_map}
use Rattle.std.specs.Str.{bytes_eq}
use Rattle.std.proofs.lemmas.Grind.{flat_map-append}
use Rattle.std.proofs.lemmas.List.{take_more, take_all}
use Rattle.std.proofs.Math.Bool.{or-false}
use Rattle.bag_text.specs.ListedFile.{ListedFile}
use Rattle.bag_check.specs.declared.fault.BagFault.TheVariants.{DuplicateEntry}
use Rattle.bag_check.specs.Manifests.{is_listed}
use Rattle.bag_check.specs.Check.{repeats}
use Rattle.bag_check.proofs.Repeats.{listed-more, repeats-snoc}
use Rattle.bag_explain.specs.Lines.{NumberedFile}
use Rattle.bag_explain.specs.Listings.{NumberedListing}
use Rattle.bag_explain.specs.Places.{when, files_in, repeated_after, repeated_at}
use Rattle.bag_explain.specs.Findings.{printed_places, has_some}
use Rattle.bag_explain.proofs.FaultLines.{after_both, printed-append}

files_in-append : (a b : List NumberedFile) → files_in (a ++ b) ≡ files_in a ++ files_in b
files_in-append [] b = refl
files_in-append (entry ∷ a) b = ap (λ t. entry.file ∷ t) (files_in-append a b)

-- one entry more
pub repeated_after-snoc : (before : List ListedFile) (entries : List NumberedFile)
    (entry : NumberedFile)
    → repeated_after before (entries ++ entry ∷ []) ≡ repeated_after before entries
    ++ when (is_listed entry.file.path (before ++ files_in entries)) (entry ∷ [])
unfolding repeated_after
repeated_after-snoc before [] entry = simp append-nil
repeated_after-snoc before (first ∷ entries) entry =
    rw (
      repeated_after-snoc (before ++ first.file ∷ []) entries entry,
      append_assoc before (first.file ∷ []) (files_in entries),
      append_assoc,
    )

module _ (entries : List NumberedFile) (place : ℕ) (entry : NumberedFile)
    (within : place < length entries) (is : entry ≡ get_or entries place entry) where
  next : take (place + 1) entries ≡ take place entries ++ entry ∷ []
  next = rw (take_more entries place entry within, ← is)

  pub listed_next : (q : List ℕ)
      → is_listed q (files_in (take (place + 1) entries))
      ≡ (bytes_eq entry.file.path q || is_listed q (files_in (take place entries)))
  listed_next q =
      rw (next, files_in-append (take place entries) (entry ∷ []))
      (listed-more q (files_in (take place entries)) entry.file)

  repeated_next : repeated_after [] (take (place + 1) entries)
      ≡ repeated_after [] (take place entries)
      ++ when (is_listed entry.file.path (files_in (take place entries))) (entry ∷ [])
  repeated_next = rw next (repeated_after-snoc [] (take place entries) entry)

places_when : (listing : NumberedListing) (entry : NumberedFile) (test : Bool)
    → flat_map (repeated_at listing) (when test (entry ∷ []))
    ≡ when test (repeated_at listing entry)
places_when listing entry true = refl
places_when listing entry false = refl

-- a negation, of what is another negation
pub by_negation : (added there listed : Bool) → added ≡ not there → there ≡ listed
    → not added ≡ listed
by_negation added true listed e h = ap not e ∙ h
by_negation added false listed e h = ap not e ∙ h

module _ (listing : NumberedListing) (items : List NumberedFile) (place : ℕ)
    (same : items ≡ listing.files) (start before : List ℕ)
    (so_far : before ≡ start ++ printed_places DuplicateEntry (flat_map (repeated_at listing)
    (repeated_after [] (take place listing.files)))) where
  pub repeated_more : (entry : NumberedFile) (after : List ℕ) (test : Bool) → place < length items
      → entry ≡ get_or items place entry
      → test ≡ is_listed entry.file.path (files_in (take place listing.files))
      → after ≡ before ++ printed_places DuplicateEntry (when test (repeated_at listing entry))
      → after ≡ start ++ printed_places DuplicateEntry (flat_map (repeated_at listing)
      (repeated_after [] (take (place + 1) listing.files)))
  repeated_more entry after test within is listed now =
      let upto = repeated_after [] (take place listing.files) in
      let listed_before = is_listed entry.file.path (files_in (take place listing.files)) in
      let here = when listed_before (entry ∷ []) in
      rw (
        repeated_next listing.files place entry (rw same at within) (rw same at is),
        flat_map-append (repeated_at listing) upto here,
        printed-append DuplicateEntry (flat_map (repeated_at listing) upto)
            (flat_map (repeated_at listing) here),
        places_when listing entry listed_before,
        ← listed,
      )
      (after_both start (printed_places DuplicateEntry (flat_map (repeated_at listing) upto))
      (printed_places DuplicateEntry (when test (repeated_at listing entry))) before after so_far
      now)

  pub repeated_all : length items ≤ place
      → before ≡ start ++ printed_places DuplicateEntry (flat_map (repeated_at listing)
      (repeated_after [] listing.files))
  repeated_all past = rw (take_all place listing.files (rw same at past)) at so_far

-- ---- a path is listed twice where an entry is repeated

once_more : (a t h : Bool) (e : NumberedFile) (others : List NumberedFile) → has_some others ≡ h
    → ((a || t) || h) ≡ (a || has_some (when t (e ∷ []) ++ others))
once_more true t h e others same = refl
once_more false true h e others same = refl
once_more false false h e others same = sym same

pub repeats_after : (before : List ListedFile) (entries : List NumberedFile)
    → repeats (before ++ files_in entries)
    ≡ (repeats before || has_some (repeated_after before entries))
unfolding repeated_after
repeats_after before [] = rw (append-nil, or-false)
repeats_after before (entry ∷ entries) =
    let more = before ++ entry.file ∷ [] in
    rw (
      ← append_assoc before (entry.file ∷ []) (files_in entries),
      repeats_after more entries,
      repeats-snoc before entry.file,
    )
    (once_more (repeats before) (is_listed entry.file.path before)
    (has_some (repeated_after more entries)) entry (repeated_after more entries) refl)
