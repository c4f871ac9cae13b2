-- A device that keeps all that was ever on it: a site's book is opened on it, and commits a record.
use Rattle.std.proofs.Common.{ℕ, suc, ◌≡◌, ◌⊎◌, ◌≤◌, inl, inr, refl, sym, ap, subst, ◌∙◌, false}
use Rattle.std.proofs.Common.{List, [], ◌∷◌, ◌++◌, length, Some, arith}
use Rattle.std.specs.Prelude.{Ok}
use Rattle.fed_types.specs.Sites.{AreWeights}
use Rattle.cell_device.specs.Images.{Image, Leaves, at_rest}
use Rattle.records.specs.declared.owner.Owner.{Owner}
use Rattle.records.specs.declared.record.Record.{Record}
use Rattle.records.specs.Journals.{DecodesTo}
use Rattle.records.specs.Records.{IsRecord, AreRecords}
use Rattle.records.proofs.OneReading.{one_saying}
use Rattle.records.proofs.Texts.{whole-push}
use Rattle.book.specs.Committed.{Commits}
use Rattle.book.specs.OpenBooks.{OpenBook, LeavesText, RecoversTo}
use Rattle.book.specs.Opened.{Opens, said_as_answer}
use Rattle.book.proofs.AtRest.{keeps_same}
use Rattle.serving_law.specs.Disks.{journal}
use Rattle.serving_law.proofs.DiskJournals.{text, says}
use Rattle.serving_reach_law.specs.Tapes.{Tape, bytes_on, left_on, device, AreLikeCells}

-- of bytes at rest a crash leaves all
at_rest_leaves : (bytes c : List ℕ) → Leaves (at_rest bytes) c → c ≡ bytes
at_rest_leaves bytes c l = l.1 ∙ keeps_same l.0 bytes

rests : (bytes : List ℕ) → Leaves (at_rest bytes) bytes
rests bytes = (0, sym (keeps_same 0 bytes))

-- there is no later moment than this one
no_later : (tape : Tape) (since : ℕ) (c : List ℕ) → left_on tape since c → since ≤ length tape
no_later [] since c left = left.0
no_later (latest ∷ earlier) since c (inl now) = now.0
no_later (latest ∷ earlier) since c (inr before) = omega (arith, no_later earlier since c before)

-- what is there now was there at this moment, and nothing else
is_now : (tape : Tape) (since : ℕ) → since ≤ length tape → left_on tape since (bytes_on tape)
is_now [] since l = (l, refl)
is_now (latest ∷ earlier) since l = inl (l, refl)

only_then : (tape : Tape) (c : List ℕ) → left_on tape (length tape) c → c ≡ bytes_on tape
only_then [] c left = left.1
only_then (latest ∷ earlier) c (inl now) = now.1
only_then (latest ∷ earlier) c (inr before) =
    absurd (omega (arith, no_later earlier (suc (length earlier)) c before))

pub are_like_cells : AreLikeCells
are_like_cells = record {
  seen_now = λ tape i e.
      subst (λ (j : Image). Leaves j j.seen) (some_is (at_rest (bytes_on tape)) i e)
      (rests (bytes_on tape));
  counts_now = λ tape t bytes l left.
      rw (at_rest_leaves (bytes_on tape) bytes left) (is_now tape t l);
  only_now = λ tape bytes left. rw (only_then tape bytes left) (rests (bytes_on tape));
}
  where
    some_is : (i j : Image) → Some i ≡ Some j → i ≡ j
    some_is i j e = cc

pub only_now : (tape : Tape) (c : List ℕ) → (device tape).left_since (device tape).moment c
    → Leaves (at_rest (bytes_on tape)) c
only_now tape c left = are_like_cells.only_now tape c left

module _ (owner : Owner) (are_weights : AreWeights owner.members.weights) where
  leaves_text : (records : List Record) → AreRecords records
      → LeavesText owner records (Some (at_rest (journal owner records)))
  leaves_text records are =
      (text owner are_weights records are, λ c l. at_rest_leaves (journal owner records) c l)

  recovers : (records : List Record) → AreRecords records
      → RecoversTo owner records (Some (at_rest (journal owner records)))
  recovers records are = (
    says owner are_weights records are,
    λ c l. rw (at_rest_leaves (journal owner records) c l) (says owner are_weights records are),
  )

  -- ---- it is opened

  abbrev pub with_journal : List Record → Tape
  with_journal records = journal owner records ∷ []

  abbrev pub a_book : Tape → List Record → OpenBook Tape
  a_book tape records =
      record { cell = tape; records = records; needs_opening = false; owner = owner }

  pub opens : (records : List Record) → AreRecords records
      → Opens device owner (with_journal records) (Ok (a_book (with_journal records) records))
  opens records are = record {
    records = says owner are_weights records are;
    only = λ said its.
        inl (ap said_as_answer
        (one_saying owner (journal owner records) (Ok records) said
        (says owner are_weights records are) its));
    refused = tt;
    durable = leaves_text records are;
    recovers = recovers records are;
    any_moment = record {
      later = omega arith;
      each = λ c left. inr (
        records,
        says owner are_weights records are,
        rw (only_then (with_journal records) c left) (says owner are_weights records are),
      );
      before = λ t c within left. inl left;
    };
    seen_err = tt;
    cause = record { later = omega arith; failed = λ e. absurd (cc e); same = λ other. refl };
    clear = λ e. absurd (cc e);
    whose = (refl, refl);
  }

  -- ---- a record is committed, to whatever is on it

  module _ (tape : Tape) (records : List Record) (are : AreRecords records)
      (told : RecoversTo owner records (device tape).image) (r : Record) (is : IsRecord r) where
    abbrev pub more : List Record
    more = records ++ r ∷ []

    abbrev pub then : Tape
    then = journal owner more ∷ tape

    abbrev SaysEither : List ℕ → Type 0
    SaysEither c = DecodesTo owner c (Ok records) ⊎ DecodesTo owner c (Ok more)

    are_more : AreRecords more
    are_more = whole-push records r are is

    says_more : (c : List ℕ) → c ≡ journal owner more → SaysEither c
    says_more c e = inr (rw e (says owner are_weights more are_more))

    since_now : (c : List ℕ) → left_on then (length tape) c → SaysEither c
    since_now c (inl now) = says_more c now.1
    since_now c (inr before) = inl (rw (only_then tape c before) told.0)

    since_then : (t : ℕ) (c : List ℕ) → t ≤ length tape → left_on then t c
        → left_on tape t c ⊎ SaysEither c
    since_then t c within (inl now) = inr (says_more c now.1)
    since_then t c within (inr before) = inl before

    pub commits : Commits device (a_book tape records) r (Ok tt) (a_book then more)
    commits = record {
      committed = (refl, refl);
      durable = leaves_text more are_more;
      recovers = recovers more are_more;
      device_failed = λ e. absurd (cc e);
      memory = λ e. absurd (cc e);
      any_moment = record { later = omega arith; each = since_now; before = since_then };
      cause = record { later = omega arith; failed = λ e. absurd (cc e); same = λ other. refl };
      fuse = λ f e. absurd (cc e);
      calls = λ f e. absurd (cc e);
      whose = refl;
    }
