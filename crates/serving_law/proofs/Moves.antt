-- A network in which one site moves: it adds a record, has a mode, and sends.
use Rattle.std.proofs.Common.{ℕ, ◌≡◌, ◌≢◌, inl, inr, refl, List, ◌++◌, Option}
use Rattle.std.specs.Option.{IfSome, option_to_list}
use Rattle.fed_types.specs.Lists.{Has}
use Rattle.fed_types.specs.Laws.Lists.{has_cases}
use Rattle.records.specs.declared.record.Record.{Record}
use Rattle.records.specs.Records.{IsRecord, AreRecords}
use Rattle.site.specs.Effects.{Send}
use Rattle.lines.specs.declared.notice.Notice.{Notice}
use Rattle.world_law.specs.Networks.{Mode, volatile_in, SiteState, Network, SiteOutcome}
use Rattle.world_law.specs.WellFormed.{AreMessages, IsSend, IsWellFormed}
use Rattle.world_law.proofs.Step.{moved, site_cases}
use Rattle.world_law.proofs.WellFormedWords.{all_with}

module _ (w : Network) (n : ℕ) (kept : Option Record) (mode : Mode) (sends : List Send)
    (notice : Option Notice) where
  abbrev pub now : SiteState
  now = record { records = (w.sites n).records ++ option_to_list kept; mode = mode }

  abbrev out : SiteOutcome
  out = record { site = now; sends = sends; notice = notice }

  abbrev x : Network
  x = (moved w n kept mode sends notice).network

  pub moved_site : x.sites n ≡ now
  moved_site = site_cases (λ s. s ≡ now) w n n out (λ e. refl) (λ f. absurd (f refl))

  pub others_stay : (k : ℕ) → k ≢ n → x.sites k ≡ w.sites k
  others_stay k other =
      site_cases (λ s. s ≡ w.sites k) w n k out (λ e. absurd (other e)) (λ f. refl)

  -- it stays well-formed where what is new is
  pub moved_formed : IsWellFormed w → IfSome kept IsRecord → AreMessages (volatile_in mode).heard
      → ((d : Send) → Has d sends → IsSend d) → IsWellFormed x
  moved_formed inv is_kept heard each = record {
    sent = λ d h. elim (has_cases w.sent sends h) [
      | inl old ↦ inv.sent d old
      | inr new ↦ each d new
    ];
    records = λ k.
        site_cases (λ s. AreRecords s.records) w n k out
        (λ e. all_with IsRecord (w.sites n).records kept (inv.records n) is_kept)
        (λ f. inv.records k);
    heard = λ k.
        site_cases (λ s. AreMessages (volatile_in s.mode).heard) w n k out (λ e. heard)
        (λ f. inv.heard k);
  }
