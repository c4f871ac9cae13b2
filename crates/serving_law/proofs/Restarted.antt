-- A site is killed, and started again, and reports.
use Rattle.std.proofs.Common.{ℕ, ◌≡◌, ◌≤◌, inl, refl, List, [], ◌∷◌, ◌++◌, arith}
use Rattle.fed_types.specs.declared.bag_id.BagId.{BagId}
use Rattle.fed_types.specs.Lists.{here, there}
use Rattle.cell_device.specs.Images.{at_rest}
use Rattle.records.specs.declared.owner.Owner.{Owner}
use Rattle.records.specs.declared.record.Record.{Record}
use Rattle.records.specs.Records.{AreRecords}
use Rattle.lines.specs.declared.notice.Notice.TheVariants.{Learned}
use Rattle.site.specs.Sites.{OpenSite}
use Rattle.udp_site.specs.Turns.{Serving}
use Rattle.serving_law.specs.Disks.{Disk, Holds, journal, bytes_at, device}
use Rattle.serving_law.specs.Examples.{Request}
use Rattle.serving_law.specs.ExamplesAgreed.{three, a}
use Rattle.serving_law.specs.ExamplesRestarted.{Restarts, RestartedSitesReport}
use Rattle.serving_law.specs.ExamplesShown.{hands_out}
use Rattle.serving_law.specs.Federations.{Serves, Down, Federation, Happening, Turns, Dies, Ends}
use Rattle.serving_law.specs.Federations.{Starts, new_federation, after, after_all}
use Rattle.serving_law.specs.Reports.{Prints, Registers}
use Rattle.serving_law.specs.Rules.{MayAll}
use Rattle.serving_law.proofs.Agreed.{has_deposit, deposit_step, propose_step, proposes, started}
use Rattle.serving_law.proofs.Agreed.{none_heard, member, starts, ends, is_asked, is_idle, hears}
use Rattle.serving_law.proofs.Agreed.{turns, may, prints}
use Rattle.serving_law.proofs.AgreedMessages.{is_slot, is_bag, is_d, is_r, is_p, is_v, is_k}
use Rattle.serving_law.proofs.AgreedMessages.{deposited, proposed, promised, voted, known}
use Rattle.serving_law.proofs.AgreedTurns.{Asked1, Asked2, Promised1, Promised2, Votes1, Votes2}
use Rattle.serving_law.proofs.AgreedTurns.{Hears11, Hears12}
use Rattle.serving_law.proofs.Agreement.{three_are, r, step_of, next_of}
use Rattle.serving_law.proofs.DiskCalls.{owner}
use Rattle.serving_law.proofs.DiskJournals.{holds, says, opens_again}
use Rattle.serving_law.proofs.Shown.{replies_are_reports}
use Rattle.serving_law.proofs.Tables.{Rows, tables}

abbrev pub one : Owner
one = owner three three_are 1

-- ---- a disk with these records

-- it is opened, and its site has heard nothing
abbrev pub again : Rows → List Record → OpenSite Disk
again rows records = record { book = holds one records; tables = tables a three 1 rows }

module _ (bag : BagId) (request : Request 7 a bag) where
  pub starts_again : (rows : Rows) (records : List Record) → AreRecords records
      → (f : Federation Disk) (later : List (Happening Disk)) → f.members 1 ≡ Down records
      → MayAll device three (after f (Starts 1 (Holds one records) (again rows records))) later
      → MayAll device three f (Starts 1 (Holds one records) (again rows records) ∷ later)
  unfolding MayAll
  starts_again rows records are f later down rest = (
    (
      member bag request 1 (omega arith) (omega arith),
      (
        records,
        down,
        record {
          image = at_rest (journal one records);
          told = refl;
          says = says one three_are.1 records are;
        },
      ),
      opens_again one three_are.1 records are,
    ),
    rest,
  )

  -- ---- it is killed as it proposes

  abbrev first : List Record
  first = r (deposited bag) ∷ []

  dies : (k : ℕ) → 2 ≤ k → k ≤ 3
      → journal one first ≡ bytes_at (Holds one (r (deposited bag) ∷ r (proposed bag) ∷ [])) k
      → (f : Federation Disk) (later : List (Happening Disk))
      → f.members 1 ≡ Serves (has_deposit bag request)
      → MayAll device three (after f (Dies 1 (propose_step bag request) first)) later
      → MayAll device three f (Dies 1 (propose_step bag request) first ∷ later)
  unfolding MayAll
  dies k from to is f later serving rest = (
    (
      has_deposit bag request,
      (member bag request 1 (omega arith) (omega arith), serving),
      record { may_come = tt; comes = proposes bag request },
      record {
        told = refl;
        bytes = journal one first;
        left = (k, from, to, is);
        says = says one three_are.1 first (is_d bag request, tt);
      },
    ),
    rest,
  )

  -- ---- it ends

  abbrev pub five : List Record
  five = r (deposited bag) ∷ r (proposed bag) ∷ r (promised bag) ∷ r (voted bag) ∷ r (known bag)
      ∷ []

  are_last : AreRecords (r (promised bag) ∷ r (voted bag) ∷ r (known bag) ∷ [])
  are_last = (is_p bag request, (is_v bag request, (is_k bag request, tt)))

  pub are_five : AreRecords five
  are_five = (is_d bag request, (is_r bag request, are_last))

  abbrev knows : Serving Disk
  knows = next_of (hears bag request Hears12)

  ends_then : (k : ℕ) → 6 ≤ k → k ≤ 6 → journal one five ≡ bytes_at (Holds one five) k
      → (f : Federation Disk) (later : List (Happening Disk)) → f.members 1 ≡ Serves knows
      → MayAll device three (after f (Ends 1 five)) later
      → MayAll device three f (Ends 1 five ∷ later)
  unfolding MayAll
  ends_then k from to is f later serving rest = (
    (
      knows,
      (member bag request 1 (omega arith) (omega arith), serving),
      record {
        told = refl;
        bytes = journal one five;
        left = (k, from, to, is);
        says = says one three_are.1 five are_five;
      },
    ),
    rest,
  )

  -- ---- the history

  abbrev pub its_rows : Rows
  its_rows = none_heard bag request

  abbrev turn_of : Happening Disk
  turn_of = Turns 1 (deposit_step bag request) 1 0

  abbrev meanwhile : List (Happening Disk)
  meanwhile =
      Turns 1 (propose_step bag request) 3 0 ∷ turns bag request Asked1 1 0
      ∷ turns bag request Asked2 1 0 ∷ turns bag request Promised1 0 0
      ∷ turns bag request Promised2 3 0 ∷ turns bag request Votes1 3 0
      ∷ turns bag request Votes2 3 0 ∷ turns bag request Hears11 0 0 ∷ []

  abbrev history : List (Happening Disk)
  history =
      started bag request 1 ∷ started bag request 2 ∷ turn_of
      ∷ Dies 1 (propose_step bag request) first ∷ Starts 1 (Holds one first) (again its_rows first)
      ∷ meanwhile ++ turns bag request Hears12 0 1 ∷ Ends 1 five
      ∷ Starts 1 (Holds one five) (again its_rows five) ∷ []

  happens : MayAll device three new_federation history
  unfolding new_federation after_all
  happens =
      starts bag request 1 (omega arith) (omega arith) _ _ refl (
      starts bag request 2 (omega arith) (omega arith) _ _ refl (
      is_asked bag request _ _ refl (
      dies 2 (omega arith) (omega arith) refl _ _ refl (
      starts_again its_rows first (is_d bag request, tt) _ _ refl (
      is_idle bag request _ _ refl (
      may bag request Asked1 1 1 0 _ _ (omega arith) (omega arith) refl refl (
      may bag request Asked2 2 1 0 _ _ (omega arith) (omega arith) refl refl (
      may bag request Promised1 4 0 0 _ _ (omega arith) (omega arith) refl refl (
      may bag request Promised2 5 3 0 _ _ (omega arith) (omega arith) refl refl (
      may bag request Votes1 6 3 0 _ _ (omega arith) (omega arith) refl refl (
      may bag request Votes2 7 3 0 _ _ (omega arith) (omega arith) refl refl (
      may bag request Hears11 9 0 0 _ _ (omega arith) (omega arith) refl refl (
      may bag request Hears12 12 0 1 _ _ (omega arith) (omega arith) refl refl (
      ends_then 6 (omega arith) (omega arith) refl _ _ refl (
      starts_again its_rows five are_five _ _ refl (ends bag request _))))))))))))))))

  -- ---- what it says

  registers : Registers 7 (hands_out (deposit_step bag request)) 1 a bag
  registers =
      (replies_are_reports 7 (deposit_step bag request) a bag (is_slot bag request)
      (is_bag bag request)).registered (request.address, [], refl)

  printed : Prints (turns bag request Hears12 0 1) (Learned 1 a bag)
  printed = prints bag request 1 (step_of (hears bag request Hears12)) refl

  pub restarts : Restarts bag
  restarts = record {
    before = started bag request 1 ∷ started bag request 2 ∷ [];
    asked = deposit_step bag request;
    proposing = propose_step bag request;
    cell = Holds one first;
    site = again its_rows first;
    meanwhile = meanwhile;
    learning = step_of (hears bag request Hears12);
    left = five;
    last_cell = Holds one five;
    last_site = again its_rows five;
    happens = happens;
    registers = registers;
    would_ask = there (here refl);
    reports = inl (Learned 1 a bag, printed, refl);
    says_known = inl printed;
  }

pub restarted_sites_report : RestartedSitesReport
restarted_sites_report bag request = restarts bag request
