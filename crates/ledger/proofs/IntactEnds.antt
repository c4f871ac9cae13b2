-- Where the text of a cell ends that isn't damaged.
use Rattle.std.proofs.Common.{◌≡◌, ◌+◌, ℕ, List, length, sym, ap, ◌∙◌, arith, inl, inr}
use Rattle.std.proofs.lemmas.Nat.{from_be_bytes-to_be_bytes_8}
use Rattle.std.specs.Int.{w64, from_be_bytes}
use Rattle.records.specs.declared.owner.Owner.{Owner}
use Rattle.records.specs.Journals.{IsEnd}
use Rattle.ledger.specs.declared.ending.Ending.{Ending}
use Rattle.ledger.specs.declared.ending.Ending.TheVariants.{Whole, Torn, Damaged}
use Rattle.ledger.specs.declared.read.Found.{Found}
use Rattle.ledger.specs.Cells.{HasNoOwner, Said, IsSaid, EndsWith, EndsAt}
use Rattle.ledger.specs.inner.Found.{IsAllFound}
use Rattle.ledger.specs.inner.Named.{IsHeadedBy}
use Rattle.records.proofs.OneReading.{headed_owner}
use Rattle.ledger.proofs.SameOwners.{reaches_of, end_of}
use Rattle.ledger.proofs.TextEnds.{text_headed}

module _ (bytes : List ℕ) (said : Said) (is : IsSaid bytes said) where
  -- a cell that says something begins with a header
  pub not_headless : HasNoOwner bytes → (end : ℕ) → EndsAt said.ending (length bytes) end
  not_headless none end =
      absurd (none said.owner is.owner_is.1
      (text_headed said.owner bytes is.start is.records is.rest is.reaches))

  module _ (owner : Owner) (found : Found) (h : IsHeadedBy owner bytes)
      (all : IsAllFound owner bytes found) where
    federation_is : said.owner.members.federation ≡ owner.members.federation
    federation_is =
        let its = headed_owner said.owner bytes
        (text_headed said.owner bytes is.start is.records is.rest is.reaches) in
        let ours = headed_owner owner bytes h.headed in
        sym (from_be_bytes-to_be_bytes_8 said.owner.members.federation is.owner_is.0.0)
        ∙ ap (from_be_bytes w64) (sym its.0 ∙ ours.0)
        ∙ from_be_bytes-to_be_bytes_8 owner.members.federation h.federation

    site_is : said.owner.site ≡ owner.site
    site_is =
        let its = headed_owner said.owner bytes
        (text_headed said.owner bytes is.start is.records is.rest is.reaches) in
        let ours = headed_owner owner bytes h.headed in
        sym its.1 ∙ ours.1

    end_is : IsEnd said.owner is.start is.rest → found.end + length is.rest ≡ length bytes
    end_is ends =
        (all.all is.start is.records is.rest
        (reaches_of said.owner owner federation_is site_is bytes is.start is.records is.rest
        is.reaches)
        (end_of said.owner owner federation_is site_is is.start is.rest ends)).1

    found_ends : (ending : Ending) → EndsWith said.owner bytes is.start is.rest ending
        → EndsAt ending (length bytes) found.end
    found_ends Whole none = omega (arith, end_is (inl none), ap length none)
    found_ends (Torn count) (torn, some, count_is) = omega (arith, end_is (inr torn), count_is)
    found_ends (Damaged place) damage = tt

    -- where it was found
    pub intact : EndsAt said.ending (length bytes) found.end
    intact = found_ends said.ending is.ends
