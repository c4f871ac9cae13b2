-- A disk of which all is known: a site's book is opened on it, and commits a record.
use Rattle.std.proofs.Common.{ℕ, zero, suc, ◌≡◌, ◌⊎◌, ◌≤◌, inl, inr, refl, sym, ap, ◌∙◌, false}
use Rattle.std.proofs.Common.{List, [], ◌∷◌, ◌++◌, Some, arith, length, length-append}
use Rattle.std.specs.Prelude.{Ok}
use Rattle.std.proofs.lemmas.Bool.{cases_lt}
use Rattle.std.proofs.lemmas.List.{append-nil, take_all, take-append-le}
use Rattle.fed_types.specs.Sites.{AreWeights}
use Rattle.cell_device.specs.Images.{Leaves, at_rest}
use Rattle.records.specs.declared.owner.Owner.{Owner}
use Rattle.records.specs.declared.record.Record.{Record}
use Rattle.records.specs.Journals.{DecodesTo}
use Rattle.records.specs.Layout.{header_bytes, all_encoded}
use Rattle.records.specs.Records.{IsRecord, AreRecords}
use Rattle.records.specs.Starts.{New}
use Rattle.records.specs.Texts.{IsTextOf}
use Rattle.records.proofs.Texts.{text_says, nothing_says, whole-push}
use Rattle.records.proofs.OneReading.{one_saying}
use Rattle.book.specs.Opened.{said_as_answer, Opens}
use Rattle.book.specs.OpenBooks.{OpenBook, LeavesText, RecoversTo}
use Rattle.book.proofs.AtRest.{keeps_same}
use Rattle.book.specs.Committed.{Commits}
use Rattle.serving_law.specs.Disks.{Disk, Blank, Holds, journal, bytes_at, bytes_on, device}
use Rattle.serving_law.specs.Disks.{moment_of, left_on, AreLikeCells}

-- of bytes at rest a crash leaves all
at_rest_leaves : (bytes c : List ℕ) → Leaves (at_rest bytes) c → c ≡ bytes
at_rest_leaves bytes c l = l.1 ∙ keeps_same l.0 bytes

-- a book over a disk
abbrev pub book : Owner → Disk → List Record → OpenBook Disk
book owner disk records =
    record { cell = disk; records = records; needs_opening = false; owner = owner }

abbrev pub holds : Owner → List Record → OpenBook Disk
holds owner records = book owner (Holds owner records) records

of_none : (owner : Owner) (records : List Record) → records ≡ []
    → journal owner records ≡ header_bytes owner
unfolding all_encoded
of_none owner [] e = append-nil (header_bytes owner)
of_none owner (r ∷ records) e = absurd (cc e)

-- all of its bytes represent now
at_end : (owner : Owner) (records : List Record) (k : ℕ) → suc (length records) ≤ k
    → bytes_at (Holds owner records) k ≡ journal owner records
at_end owner records zero le = absurd (omega (arith, le))
at_end owner records (suc j) le = rw (take_all j records (omega (arith, le))) refl

-- what is there now was there at this moment
is_now : (disk : Disk) → bytes_at disk (moment_of disk) ≡ bytes_on disk
is_now Blank = refl
is_now (Holds owner records) = at_end owner records (suc (length records)) (omega arith)

pub are_like_cells : AreLikeCells
are_like_cells = record {
  seen_now = λ disk i e.
      let same : at_rest (bytes_on disk) ≡ i = cc in
      rw (← same) (0, sym (keeps_same 0 (bytes_on disk)));
  counts_now = λ disk t bytes le left. (
    moment_of disk,
    le,
    omega arith,
    at_rest_leaves (bytes_on disk) bytes left ∙ sym (is_now disk),
  );
  only_now = λ disk bytes left. (
    0,
    let one : left.0 ≡ moment_of disk = omega (arith, left.1, left.2) in
        cc (left.3, one, is_now disk, keeps_same 0 (bytes_on disk)),
  );
}

-- what was there before a record was added
at_before : (owner : Owner) (records : List Record) (r : Record) (k : ℕ)
    → k ≤ suc (length records)
    → bytes_at (Holds owner (records ++ r ∷ [])) k ≡ bytes_at (Holds owner records) k
at_before owner records r zero le = refl
at_before owner records r (suc j) le =
    rw (take-append-le j records (r ∷ []) (omega (arith, le))) refl

module _ (owner : Owner) (are_weights : AreWeights owner.members.weights) where
  pub text : (records : List Record) → AreRecords records
      → IsTextOf owner records (journal owner records)
  unfolding IsTextOf
  text records are = record {
    start = New owner.members.weights;
    records = records;
    is_start = are_weights;
    current = refl;
    are_records = are;
    all_are = refl;
    bytes_are = refl;
    of_none = of_none owner records;
  }

  pub says : (records : List Record) → AreRecords records
      → DecodesTo owner (journal owner records) (Ok records)
  says records are = text_says owner records (journal owner records) (text records are)

  leaves_text : (records : List Record) → AreRecords records
      → LeavesText owner records (Some (at_rest (journal owner records)))
  leaves_text records are = (text records are, λ c l. at_rest_leaves (journal owner records) c l)

  recovers : (records : List Record) → AreRecords records
      → RecoversTo owner records (Some (at_rest (journal owner records)))
  recovers records are = (
    says records are,
    λ c l. rw (at_rest_leaves (journal owner records) c l) (says records are),
  )

  -- ---- a disk is opened: a new one,

  pub opens_new : Opens device owner Blank (Ok (holds owner []))
  opens_new = record {
    records = nothing_says owner;
    only = λ said says.
        inl (ap said_as_answer (one_saying owner [] (Ok []) said (nothing_says owner) says));
    refused = tt;
    durable = leaves_text [] tt;
    recovers = recovers [] tt;
    any_moment = record {
      later = omega arith;
      each = λ c left. inr (alike c left.0 left.2 left.3);
      before = λ t c within left. inr (inr (alike c left.0 left.2 left.3));
    };
    seen_err = tt;
    cause = record { later = omega arith; failed = λ e. absurd (cc e); same = λ other. refl };
    clear = λ e. absurd (cc e);
    whose = (refl, refl);
  }
    where
      alike : (c : List ℕ) (k : ℕ) → k ≤ 1 → c ≡ bytes_at (Holds owner []) k
          → (records : List Record) × DecodesTo owner [] (Ok records) × DecodesTo owner c
          (Ok records)
      alike c zero le e = ([], nothing_says owner, rw e (nothing_says owner))
      alike c (suc j) le e =
          ([], nothing_says owner, rw (e, at_end owner [] (suc j) (omega arith)) (says [] tt))

  -- and one that has the owner's journal

  pub opens_again : (records : List Record) → AreRecords records
      → Opens device owner (Holds owner records) (Ok (holds owner records))
  opens_again records are = record {
    records = says records are;
    only = λ said its.
        inl (ap said_as_answer
        (one_saying owner (journal owner records) (Ok records) said (says records are) its));
    refused = tt;
    durable = leaves_text records are;
    recovers = recovers records are;
    any_moment = record {
      later = omega arith;
      each = λ c left. inr (
        records,
        says records are,
        rw (left.3, at_end owner records left.0 left.1) (says records are),
      );
      before = λ t c within left. inl left;
    };
    seen_err = tt;
    cause = record { later = omega arith; failed = λ e. absurd (cc e); same = λ other. refl };
    clear = λ e. absurd (cc e);
    whose = (refl, refl);
  }

  -- ---- a record is committed

  module _ (records : List Record) (are : AreRecords records) (r : Record) (is : IsRecord r) where
    abbrev pub more : List Record
    more = records ++ r ∷ []

    with_or_without : (c : List ℕ) (k : ℕ) → suc (length records) ≤ k
        → c ≡ bytes_at (Holds owner more) k
        → DecodesTo owner c (Ok records) ⊎ DecodesTo owner c (Ok more)
    with_or_without c k ge e = elim (cases_lt k (suc (suc (length records)))) [
      | inl lt ↦
          inl (rw (e, at_before owner records r k (omega arith), at_end owner records k ge)
          (says records are))
      | inr le ↦
          inr (rw (e, at_end owner more k (omega (arith, le, length-append records (r ∷ []))))
          (says more (whole-push records r are is)))
    ]

    since_then : (t : ℕ) (c : List ℕ) → t ≤ suc (length records)
        → left_on (Holds owner more) t c → left_on (Holds owner records) t c
        ⊎ (DecodesTo owner c (Ok records) ⊎ DecodesTo owner c (Ok more))
    since_then t c within left = elim (cases_lt left.0 (suc (suc (length records)))) [
      | inl lt ↦
          inl (left.0, left.1, omega arith, left.3 ∙ at_before owner records r left.0 (omega arith))
      | inr le ↦ inr (with_or_without c left.0 (omega arith) left.3)
    ]

    pub commits : Commits device (holds owner records) r (Ok tt) (holds owner more)
    commits = record {
      committed = (refl, refl);
      durable = leaves_text more (whole-push records r are is);
      recovers = recovers more (whole-push records r are is);
      device_failed = λ e. absurd (cc e);
      memory = λ e. absurd (cc e);
      any_moment = record {
        later = omega (arith, length-append records (r ∷ []));
        each = λ c left. with_or_without c left.0 left.1 left.3;
        before = since_then;
      };
      cause = record { later = omega arith; failed = λ e. absurd (cc e); same = λ other. refl };
      fuse = λ f e. absurd (cc e);
      calls = λ f e. absurd (cc e);
      whose = refl;
    }
