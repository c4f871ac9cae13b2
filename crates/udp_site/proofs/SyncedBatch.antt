-- A batch whose turns were taken: its records are synced, or not; and what is told of it.
use Rattle.std.proofs.Common.{inl, inr, refl, ap, ◌∙◌, ◌≡◌, ◌↔◌, ◌⊎◌, ℕ, Bool, true, false, List}
use Rattle.std.proofs.Common.{[], ◌∷◌, length, Result, Ok, Err, IsErrOf, OnOk, OnErr, IfErr}
use Rattle.std.proofs.Common.{flat_map}
use Rattle.std.proofs.Math.Seq.{take-length}
use Rattle.std.proofs.lemmas.Grind.{flat_map-append}
use Rattle.cell_device.specs.Devices.{Device}
use Rattle.book.specs.declared.fault.CommitFault.{CommitFault}
use Rattle.book.specs.declared.fault.CommitFault.TheVariants as commits
use Rattle.book.specs.declared.waiting.Waiting.{Waiting}
use Rattle.book.specs.Batches.{BatchCell, Syncs, synced_book, waiting}
use Rattle.book.specs.OpenBooks.{OpenBook}
use Rattle.site.specs.Batches.{done_of}
use Rattle.site.specs.declared.fault.SiteFault.TheVariants as sites
use Rattle.site.specs.Sites.{OpenSite}
use Rattle.lines.specs.declared.line.Line.{Line}
use Rattle.lines.specs.Texts.{line_text}
use Rattle.udp_site.specs.declared.fault.ServeFault.{ServeFault}
use Rattle.udp_site.specs.declared.fault.ServeFault.TheVariants as faults
use Rattle.udp_site.specs.Traffic.{Post, Taken, Grows, all_handed}
use Rattle.udp_site.specs.Turns.{Serving}
use Rattle.udp_site.specs.Served.{Rule, Outside, Turned, by_identity, notice_text}
use Rattle.udp_site.specs.BatchTurns.{IsSynced, posts_of, text_of_all, refusal_of, refusals}
use Rattle.udp_site.specs.BatchTurns.{refusal_text}
use Rattle.udp_site.specs.inner.Batched.{TakesAll, ServesBatch, Fails, GrowsPart, AppendsPart}
use Rattle.udp_site.proofs.Growth.{Appends-none}
use Rattle.udp_site.proofs.Printed.{text_is}
use Rattle.udp_site.proofs.TurnEnds.{AllOf, PartOf}

-- ---- the sync

-- a sync, as the site tells of it
pub synced_so : {C T : Type 0} (device : C → Device) (held now : BatchCell C)
    (book : OpenBook Waiting) (result : Result T CommitFault)
    → (held.needs_opening ≡ false
    → Syncs device (synced_book held book) (waiting held book) (done_of result)
    (synced_book now book))
    → (IsErrOf result commits.NeedsOpen ↔ (held.needs_opening ≡ true))
    → (IsErrOf result commits.NeedsOpen → now ≡ held)
    → IsSynced device held book (done_of result) now
synced_so device held now book result syncs needs_open untouched = record {
  syncs = syncs;
  needs_open = λ shut. (ap done_of (needs_open.1 shut), untouched (needs_open.1 shut));
}

-- after a failure of the device it needs opening
failed_needs_opening : {C : Type 0} (device : C → Device) (held now : BatchCell C)
    (book : OpenBook Waiting) → IsSynced device held book (Err commits.Device) now
    → now.needs_opening ≡ true
failed_needs_opening device held now book is = go held.needs_opening refl
  where
    go : (shut : Bool) → held.needs_opening ≡ shut → now.needs_opening ≡ true
    go true shut = absurd (cc (is.needs_open shut).0)
    go false opened = ((is.syncs opened).device_failed refl).1

-- ---- the text

-- the text of all notices is that of each turn's
texts_of : (turns : List Turned)
    → flat_map notice_text (flat_map (λ turn. turn.done.notices) turns) ≡ text_of_all turns
texts_of [] = refl
texts_of (turn ∷ turns) =
    rw (
      flat_map-append notice_text turn.done.notices (flat_map (λ t. t.done.notices) turns),
      texts_of turns,
    )

-- ---- what is told

module _ {C : Type 0} (device : C → Device) (rule : Rule Waiting) (took : List Taken)
    (before after : Outside) (s : Serving Waiting) (held now : BatchCell C)
    (site : OpenSite Waiting) (idle tried : ℕ) where
  abbrev Is : Result (Unit {0}) ServeFault → Type 0
  Is result = ServesBatch device rule took before after s held now site idle tried result

  module _ (posted : List Post) (said : List Line)
      (taken : TakesAll rule took s site posted said idle tried) where
    -- it was synced, and all was handed out
    module _ (is : IsSynced device held site.book (Ok tt) now)
        (grows : Grows before.traffic after.traffic (all_handed posted)) where
      moved : Grows before.traffic after.traffic (all_handed (posts_of taken.0))
      moved = rw taken.8 at grows

      text : flat_map (line_text by_identity) said ≡ text_of_all taken.0
      text =
          text_is [] said (flat_map (λ turn. turn.done.notices) taken.0) refl taken.9
          ∙ texts_of taken.0

      -- the lines were written, or that failed
      pub written_so : (result : Result (Unit {0}) ServeFault)
          → OnOk result (AllOf before after said) → OnErr result (PartOf before after said)
          → IfErr result (λ f. f ≡ faults.Memory → after.written ≡ before.written)
          → IfErr result (λ f. (f ≡ faults.Output) ⊎ (f ≡ faults.Memory))
          → Is result
      written_so (Ok x) written part none which = (
        taken.0,
        taken.1,
        taken.2,
        taken.3,
        taken.4,
        taken.5,
        taken.6,
        taken.7,
        is,
        (moved, rw text at written),
      )
      written_so (Err fault) all (count, written) none (inl output) =
          rw output (
            count,
            (taken.0, taken.1, taken.2, taken.3, taken.4, is, (moved, rw text at written)),
          )
      written_so (Err fault) all part none (inr memory) =
          rw memory
          (inr (inr (
            length (all_handed (posts_of taken.0)),
            (
              taken.0,
              taken.1,
              taken.2,
              taken.3,
              taken.4,
              is,
              (rw take-length moved, rw (none memory) (Appends-none before.written)),
            ),
          )))

    -- the sync failed for this, and that was told, or a part of it
    fails : (fault : CommitFault) → IsSynced device held site.book (Err fault) now
        → GrowsPart before.traffic after.traffic
        (all_handed (refusals site (refusal_of fault) took))
        → AppendsPart before.written after.written (refusal_text site (refusal_of fault))
        → Fails device rule took before after s held now site fault
    fails fault is handed written = (
      handed.0,
      written.0,
      (taken.0, taken.1, taken.2, taken.3, taken.4, is, (handed.1, written.1)),
    )

    -- its device failed
    pub device_failed : IsSynced device held site.book (Err commits.Device) now
        → GrowsPart before.traffic after.traffic (all_handed (refusals site sites.Device took))
        → AppendsPart before.written after.written (refusal_text site sites.Device)
        → Is (Err faults.Cell)
    device_failed is handed written = (
      failed_needs_opening device held now site.book is,
      inl (fails commits.Device is handed written),
    )

    -- it needed opening
    pub needed_opening : IsSynced device held site.book (Err commits.NeedsOpen) now
        → now.needs_opening ≡ true
        → GrowsPart before.traffic after.traffic (all_handed (refusals site sites.NeedsOpen took))
        → AppendsPart before.written after.written (refusal_text site sites.NeedsOpen)
        → Is (Err faults.Cell)
    needed_opening is shut handed written =
        (shut, inr (fails commits.NeedsOpen is handed written))
