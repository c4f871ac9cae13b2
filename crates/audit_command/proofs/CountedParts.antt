-- What is counted of a cell, part by part.
use Rattle.std.proofs.Common.{◌≡◌, ◌⊎◌, ℕ, List, [], ◌++◌, length, take, Option, None, Some}
use Rattle.std.proofs.Common.{ap, refl, ◌∙◌, inl, inr, append_assoc, true}
use Rattle.std.proofs.lemmas.List.{map-append, length-append}
use Rattle.std.specs.Prelude.{IsSome}
use Rattle.std.specs.Option.{option_or}
use Rattle.fed_types.specs.Sites.{Membership}
use Rattle.records.specs.declared.owner.Owner.{Owner}
use Rattle.records.specs.declared.record.Record.{Record}
use Rattle.ledger.specs.declared.cell_reader.CellReader.{CellReader}
use Rattle.ledger.specs.declared.ending.Ending.{Ending}
use Rattle.ledger.specs.declared.part.Head.{Head}
use Rattle.ledger.specs.declared.part.LastPart.{LastPart}
use Rattle.ledger.specs.declared.part.Part.{Part}
use Rattle.ledger.specs.Cells.{Said, IsSaid}
use Rattle.ledger.specs.Parts.{Told, nothing, and_part, told_of, Fits, HasTold, HasToldBy, IsWhole}
use Rattle.ledger.specs.Parts.{IsDamaged, TellsLast}
use Rattle.audit.specs.Evidence.{SiteRecord}
use Rattle.audit_command.specs.declared.cell_defect.CellDefect.{CellDefect}
use Rattle.audit_command.specs.declared.cell_reading.CellReading.{CellReading}
use Rattle.audit_command.specs.declared.evidence.Evidence.{Evidence}
use Rattle.audit_command.specs.declared.standing.Standing.{Standing}
use Rattle.audit_command.specs.declared.standing.Standing.TheVariants.{Unknown, Member, Foreign}
use Rattle.audit_command.specs.declared.mark.Mark.{Mark}
use Rattle.audit_command.specs.declared.sync_rule.SyncRule.{SyncRule}
use Rattle.audit_command.specs.CellReadings.{IsMembers, IsReadingOf, AreSynced, head_of, sure_of}
use Rattle.audit_command.specs.inner.Gathered.{IsEvidence}
use Rattle.audit_command.specs.inner.Standings.{IsStanding, IsStandingAfter, HasStanding, IsSplit}
use Rattle.audit_command.specs.inner.Standings.{counted_as, fault_of, CountsTold, HasCounted}
use Rattle.audit_command.specs.inner.Standings.{IsCounted, IsLastCounted, IsPartCounted}
use Rattle.audit_command.specs.inner.Standings.{IsPartTaken, Adds}
use Rattle.audit_command.specs.inner.Marks.{IsMark, more_synced}
use Rattle.audit_command.proofs.Marks.{EndsAtMark, mark_counted, end_counted_on}
use Rattle.audit_command.proofs.SplitRecords.{split_on, split_is, nothing_sure}

-- ---- records are told of a cell alone whose head is

abbrev IsSound : Told → Type 0
IsSound told = (told ≡ nothing) ⊎ IsSome told.head

sound_so_far : (o : Option Owner) (passed : ℕ) (kept taken : List ℕ) (told : Told)
    → HasToldBy o passed kept taken told → IsSound told
sound_so_far None passed kept taken told h = inl h.1
sound_so_far (Some owner) passed kept taken told h = inr (rw h.head_is)

all_told : (bytes : List ℕ) (told : Told) (ending : Ending) → IsWhole bytes told ending
    → IsSound told
all_told bytes told ending (inl (said, is, e, t)) = inr (rw t)
all_told bytes told ending (inr (none, ends, t)) = inl t

-- that head names the weights, while more may come
abbrev IsNamed : Told → Type 0
IsNamed told = (head : Head) → told.head ≡ Some head → head.names_weights ≡ true

named_so_far : (o : Option Owner) (passed : ℕ) (kept taken : List ℕ) (told : Told)
    → HasToldBy o passed kept taken told → IsNamed told
named_so_far None passed kept taken told h head is = absurd (cc (h.1, is))
named_so_far (Some owner) passed kept taken told h head is = cc (h.head_is, is)

-- ---- one more part

none_counted : (standing : Standing) → counted_as standing [] ≡ []
none_counted (Member site) = refl
none_counted _ = refl

pub more_counted : (standing : Standing) (records more : List Record)
    → counted_as standing (records ++ more)
    ≡ counted_as standing records ++ counted_as standing more
more_counted (Member site) records more =
    map-append (λ r. record { site = site; kept = r }) records more
more_counted _ records more = refl

-- whose a cell is whose header names the weights doesn't depend on its records
still_members : (members : Membership) (head : Head) (records more : List Record)
    → head.names_weights ≡ true → IsMembers members head records → IsMembers members head more
still_members members head records more named (federation, site, weights) =
    (federation, site, rw named (rw named at weights))

-- whose it is by its first part
by_first : (members : Membership) (head : Head) (records : List Record) (standing : Standing)
    → IsStanding members head records standing
    → HasStanding members (record { head = Some head; records = records }) standing
by_first members head records Unknown h = absurd h
by_first members head records _ h = (head, refl, h)

module _ (members : Membership) (told : Told) (records sure : List Record)
    (none_sure : told ≡ nothing → sure ≡ []) where
  abbrev joined : Option Head → Told
  joined head = record {
    head = option_or told.head head;
    records = told.records ++ records;
  }

  -- whose it is now; of what was counted before it makes no difference
  abbrev IsJoined : (before after : Standing) → Option Head → Type 0
  IsJoined before after head =
      HasStanding members (joined head) after × (counted_as before sure ≡ counted_as after sure)

  -- without a head the standing stays
  headless : (before : Standing) → HasStanding members told before → IsNamed told
      → IsSound (joined None) → IsJoined before before None
  headless Unknown none named (inl still) = (still, refl)
  headless Unknown none named (inr some) = absurd (cc (rw none at some))
  headless (Member site) (head, is, (its, of)) named sound =
      let still = still_members members head told.records (told.records ++ records)
      (named head is) its in
      ((head, rw is, (still, of)), refl)
  headless Foreign (head, is, not) named sound =
      let back = still_members members head (told.records ++ records) told.records
      (named head is) in
      ((head, rw is, λ its. not (back its)), refl)

  -- nothing was told before the head
  next_part : (before after : Standing) (head : Option Head) → HasStanding members told before
      → IsNamed told → (told ≡ nothing) ⊎ (head ≡ None) → IsSound (joined head)
      → IsStandingAfter members before head records after → IsJoined before after head
  next_part before after None h named fits sound same = rw same (headless before h named sound)
  next_part before after (Some head) h named (inl none) sound standing =
      rw (none, none_sure none)
      (by_first members head records after standing, cc (none_counted before, none_counted after))
  next_part before after (Some head) h named (inr e) sound standing = absurd (cc e)

-- ---- all of a cell

module _ (members : Membership) (rule : SyncRule) (bytes : List ℕ) (n : ℕ)
    (synced : AreSynced rule.synced bytes n) where
  read_said : (said : Said) (standing : Standing) → IsSaid bytes said
      → HasStanding members (told_of said) standing
      → IsReadingOf members rule bytes (fault_of standing said.ending)
      (counted_as standing (sure_of n rule.most_unsynced said.records))
  read_said said Unknown is none = absurd (cc (ap (λ (t : Told). t.head) none))
  read_said said (Member site) is (head, same, h) =
      let here : head ≡ head_of said = cc in
      let its = rw here at h in
      inr (said, n, is, synced, inl (its.0, refl, rw its.1))
  read_said said Foreign is (head, same, not) =
      let here : head ≡ head_of said = cc in
      inr (said, n, is, synced, inr (rw here at not, refl, refl))

  read_whole : (all : Told) (ending : Ending) (standing : Standing) → IsWhole bytes all ending
      → HasStanding members all standing
      → IsReadingOf members rule bytes (fault_of standing ending)
      (counted_as standing (sure_of n rule.most_unsynced all.records))
  read_whole all ending standing (inl (said, is, e, t)) h =
      rw (← e, t) (read_said said standing is (rw t at h))
  read_whole all ending Unknown (inr (no_owner, ends, t)) none = inl (no_owner, (refl, refl))
  read_whole all ending _ (inr (no_owner, ends, t)) (head, its, h) = absurd (cc (t, its))

-- ---- a part was counted

-- after which the reader is this one, and the mark, before, this one
module _ {members : Membership} {rule : SyncRule} {old : Evidence} {taken : List ℕ}
    {given : List SiteRecord} {before : CellReading} {told : Told} {sure : List Record}
    (had : CountsTold members rule before old taken given told sure) (new : Evidence)
    (reader : CellReader) (mark : Mark) (after : CellReading) where
  abbrev between : CellReading
  between = record {
    reader = reader;
    standing = before.standing;
    last = before.last;
    mark = mark;
  }

  -- what is told, and sure, with this part
  abbrev now_told : Part → Told
  now_told part = and_part told part

  record IsTakenWith (part : Part) (more : List Record) : Type 0 where
    standing_is : HasStanding members (now_told part) after.standing
    same : counted_as before.standing sure ≡ counted_as after.standing sure
    unsure_is : after.last.unsure ≡ rule.most_unsynced
    split : IsSplit rule.most_unsynced (now_told part).records (sure ++ more)
        after.last.records.items

  with_part : (part : Part) (more : List Record) → Fits told part → IsSound (now_told part)
      → IsPartTaken members between after part more → IsTakenWith part more
  with_part part more fits sound h =
      let is = next_part members told part.records.items sure
      (λ none. nothing_sure (rw none) had.split) before.standing after.standing part.head
      had.standing_is (named_so_far before.reader.owner _ _ _ told had.told_is) fits sound
      h.standing_is in
      record {
        standing_is = is.0;
        same = is.1;
        unsure_is = h.unsure_is ∙ had.unsure_is;
        split = split_on part.records.items had.split (rw had.unsure_is at h.split);
      }

  -- those that were counted before, and these
  counted_with : (more : List Record)
      → counted_as before.standing sure ≡ counted_as after.standing sure
      → Adds old new (counted_as after.standing more)
      → IsEvidence members new (given ++ counted_as after.standing (sure ++ more))
  counted_with more same adds =
      rw (more_counted, ← append_assoc, ← same) (adds members _ had.counted)

  pub part_counted : (bytes : List ℕ) (part : Part)
      → IsMark rule.synced bytes (length sure) mark
      → Fits told part × HasTold reader bytes (and_part told part)
      → (more : List Record) × IsPartCounted members old new between after part more
      → HasCounted members rule after new bytes given
  part_counted bytes part marked tells (more, (h, adds)) =
      let sound = sound_so_far reader.owner _ _ _ (now_told part) tells.1 in
      let is = with_part part more tells.0 sound h in (
        now_told part,
        sure ++ more,
        record {
          told_is = rw h.reader_is tells.1;
          standing_is = is.standing_is;
          unsure_is = is.unsure_is;
          split = is.split;
          mark_is = rw (length-append sure more, h.mark_is)
              (mark_counted rule.synced bytes (length sure) (length more) mark marked);
          counted = counted_with more is.same adds;
        },
      )

  -- and the last one, where the cell ends
  pub last_counted : (bytes : List ℕ) (last : LastPart) (fault : Option CellDefect)
      → EndsAtMark rule.synced bytes (length sure) mark
      → TellsLast bytes told last
      → IsLastCounted members old new between after last fault
      → IsCounted members rule new bytes given fault
  last_counted bytes last fault marked tells (more, h, adds, is_fault) =
      let all = now_told last.part in
      let is = with_part last.part more tells.0 (all_told bytes all last.ending tells.1) h in
      let ends : EndsAtMark rule.synced bytes (length (sure ++ more)) after.mark =
      rw (length-append sure more, h.mark_is)
      (end_counted_on rule.synced bytes (length sure) (length more) mark marked) in
      let synced = take (more_synced after.mark) after.last.records.items in
      let counted : sure ++ (more ++ synced) ≡ sure_of ends.0 rule.most_unsynced all.records =
      rw (← append_assoc, ends.2) (split_is ends.0 is.split) in (
        counted_as after.standing (sure ++ (more ++ synced)),
        rw (is_fault, counted) (read_whole members rule bytes ends.0 ends.1 all last.ending
            after.standing tells.1 is.standing_is),
        counted_with (more ++ synced) is.same adds,
      )

-- of a damaged cell something is amiss
pub damage_amiss : (standing : Standing) (ending : Ending) → IsDamaged ending
    → IsSome (fault_of standing ending)
damage_amiss (Member site) ending (place, is) = rw is
damage_amiss _ ending damaged = refl
