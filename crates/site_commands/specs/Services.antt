-- What a process that is to serve a site does with its cell, its port and its output: it opens the
-- site, parts it from its cell, and calls `serve_batches`, once or again and again.
use Rattle.std.specs.Prelude.{◌≡◌, ◌⊎◌, ◌<◌, ℕ, true, false, List, [], ◌∷◌, ◌++◌, length, codes}
use Rattle.std.specs.Prelude.{Option, Result, Ok, Err}
use Rattle.std.specs.Fmt.{decimal}
use Rattle.fed_types.specs.Lists.{is_in}
use Rattle.fed_types.specs.Sites.{members_of}
use Rattle.fed_types.specs.Values.{IsMembership}
use Rattle.cell_device.specs.Devices.{Device}
use Rattle.records.specs.declared.owner.Owner.{Owner}
use Rattle.book.specs.declared.fault.OpenFault.{OpenFault}
use Rattle.book.specs.declared.waiting.Waiting.{Waiting}
use Rattle.book.specs.Batches.{BatchCell}
use Rattle.book.specs.Faults.{open_number}
use Rattle.book.specs.Opened.{Opens}
use Rattle.proposer.specs.VolatileStates.{new_volatile}
use Rattle.site.specs.Sites.{OpenSite, Represents}
use Rattle.outcomes.specs.declared.fault.ProgramFault.{ProgramFault}
use Rattle.outcomes.specs.declared.fault.ProgramFault.TheVariants.{Output}
use Rattle.outcomes.specs.Outcomes.{Outcome}
use Rattle.udp_site.specs.declared.fault.ServeFault.{ServeFault}
use Rattle.udp_site.specs.declared.fault.ServeFault.TheVariants as faults
use Rattle.udp_site.specs.Faults.{serve_number}
use Rattle.udp_site.specs.Served.{Rule, Outside}
use Rattle.udp_site.specs.BatchTurns.{Batch, Batching, ServesBatches, begins_with}
use Rattle.site_commands.specs.declared.site_arguments.Turns.{Turns}
use Rattle.site_commands.specs.declared.site_arguments.Turns.TheVariants as turns
use Rattle.site_client.specs.Answers.{IsTold, not_a_member}

-- ---- calls of `serve_batches`

-- a call is for so many turns
abbrev pub turns_in : Turns → ℕ
turns_in (turns.Count count) = count
turns_in turns.Forever = 4294967295

-- and there are so many calls at most
abbrev pub most_calls : Turns → ℕ
most_calls (turns.Count count) = 1
most_calls turns.Forever = 18446744073709551615

-- the next call goes on where one ended that was Ok, but that idle turns are counted anew; nothing
-- was taken in for it
abbrev pub goes_on_from : {C : Type 0} → Batching C → Batching C
goes_on_from end = begins_with end.serving.site end.held end.serving.volatile

module _ {C : Type 0} (device : C → Device) (rule : Rule Waiting) (wanted : ℕ) where
  -- The site has served by these calls, all of which were Ok, each of these batches.
  abbrev pub GoesOn : (before after : Outside) → (start end : Batching C) → List (List Batch)
      → Type 0
  GoesOn before after start end [] = (end ≡ start) × (after ≡ before)
  GoesOn before after start end (batches ∷ calls) =
      (mid : Batching C) × (between : Outside)
      × ServesBatches device rule before between start mid wanted batches (Ok tt)
      × GoesOn between after (goes_on_from mid) end calls

  -- and by one more, which a fault ended
  abbrev pub EndsBy : ServeFault → (before after : Outside) → (start end : Batching C)
      → List (List Batch) → Type 0
  EndsBy fault before after start end calls =
      (mid : Batching C) × (between : Outside) × GoesOn before between start mid calls
      × (batches : List Batch)
      × ServesBatches device rule between after mid end wanted batches (Err fault)

  -- Ok: by all calls that there are. Else by fewer, and then one that a fault ended.
  abbrev pub ServesOn : (most : ℕ) → (before after : Outside) → (start end : Batching C)
      → List (List Batch) → Result (Unit {0}) ServeFault → Type 0
  ServesOn most before after start end calls (Ok served) =
      (length calls ≡ most) × GoesOn before after start end calls
  ServesOn most before after start end calls (Err fault) =
      (length calls < most) × EndsBy fault before after start end calls

-- ---- the last line

abbrev pub unopened : OpenFault → Outcome
unopened fault = record {
  status = 1;
  text = codes "open " ++ decimal (open_number fault) ++ 10 ∷ [];
}

abbrev pub stopped : ServeFault → Outcome
stopped fault = record {
  status = 1;
  text = codes "stopped " ++ decimal (serve_number fault) ++ 10 ∷ [];
}

-- after serving: why it stopped, but where nothing can be written
abbrev pub IsConcluded : (old new : Option (List ℕ)) → Result (Unit {0}) ServeFault
    → Result ℕ ProgramFault → Type 0
IsConcluded old new (Ok served) answer = (new ≡ old) × (answer ≡ Ok 0)
IsConcluded old new (Err faults.Output) answer = (new ≡ old) × (answer ≡ Err Output)
IsConcluded old new (Err fault) answer = IsTold old new answer (stopped fault)

-- A site that began so has served by these calls; and then the last line was written, if there is
-- one.
pub record ServedBy {C : Type 0} (device : C → Device) (rule : Rule Waiting) (how : Turns)
    (before after : Outside) (start : Batching C) (answer : Result ℕ ProgramFault) : Type 0 where
  pub end : Batching C
  pub calls : List (List Batch)
  pub result : Result (Unit {0}) ServeFault
  pub ended : Outside
  pub serves : ServesOn device rule (turns_in how) (most_calls how) before ended start end calls
      result
  pub still : after.traffic ≡ ended.traffic
  pub concluded : IsConcluded ended.written after.written result answer

-- An opened site is parted from its cell: this site, whose records wait, and has heard nothing; and
-- this cell, which holds them all. There is no call on the cell.
pub record IsParted {C : Type 0} (opened : OpenSite C) (site : OpenSite Waiting)
    (held : BatchCell C) : Type 0 where
  pub records : site.book.records ≡ opened.book.records
  pub owner : site.book.owner ≡ opened.book.owner
  pub waits : site.book.needs_opening ≡ false
  pub represents : Represents site new_volatile
  pub cell : held.cell ≡ opened.book.cell
  pub synced : held.synced ≡ length opened.book.records
  pub needs_opening : held.needs_opening ≡ opened.book.needs_opening

-- ---- a process

module _ {C : Type 0} (device : C → Device) (rule : Rule Waiting) (owner : Owner) (how : Turns)
    (cell : C) (before after : Outside) (answer : Result ℕ ProgramFault) where
  -- no member has the number: nothing is opened
  pub record IsNoMember : Type 0 where
    pub none : is_in (members_of owner.members) owner.site ≡ false
    pub still : after.traffic ≡ before.traffic
    pub told : IsTold before.written after.written answer not_a_member

  -- the site wasn't opened over the cell, which is left
  pub record IsUnopened : Type 0 where
    pub fault : OpenFault
    pub left : C
    pub refused : Opens device owner cell (Err (left, fault))
    pub still : after.traffic ≡ before.traffic
    pub told : IsTold before.written after.written answer (unopened fault)

  -- the site was opened over the cell, parted from it, and has served
  pub record HasServed : Type 0 where
    pub member : is_in (members_of owner.members) owner.site ≡ true
    pub membership : IsMembership owner.members
    pub opened : OpenSite C
    pub opens : Opens device owner cell (Ok opened.book)
    pub site : OpenSite Waiting
    pub held : BatchCell C
    pub parted : IsParted opened site held
    pub served : ServedBy device rule how before after (begins_with site held new_volatile) answer

  abbrev pub OpensAndServes : Type 0
  OpensAndServes = IsNoMember ⊎ (IsUnopened ⊎ HasServed)
