-- A turn in which nothing came.
use Rattle.std.proofs.Common.{Err, ◌≡◌, ◌≢◌, ℕ, ◌+◌, ◌%◌, ◌==◌, true, false, List, [], Option, Some}
use Rattle.std.proofs.Common.{None, Result, Ok, refl, sym, ◌∙◌, append-nil, arith}
use Rattle.std.proofs.lemmas.Bool.Decides.{nat_tests}
use Rattle.cell_device.specs.Devices.{Device}
use Rattle.fed_types.specs.Slots.{SlotName}
use Rattle.site.specs.Contents.{deposits_of, slot_at}
use Rattle.site.specs.Sites.{OpenSite}
use Rattle.lines.specs.declared.line.Line.{Line}
use Rattle.std.specs.declared.alloc.AllocError.{AllocError}
use Rattle.udp_site.specs.declared.idle_turns.IdleProgress.{IdleProgress}
use Rattle.udp_site.specs.Rounds.{next_waiting}
use Rattle.udp_site.specs.Traffic.{Move}
use Rattle.udp_site.specs.Turns.{Serving, Done, IsServing, number, one_more_idle, tries, proposing}
use Rattle.udp_site.specs.Turns.{proposes, proposes_next, idles}
use Rattle.udp_site.specs.inner.Outcomes.{ComesTo, at}
use Rattle.udp_site.specs.inner.Servers.{Stands}
use Rattle.udp_site.proofs.Handed.{grows_by_no_posts}
use Rattle.udp_site.proofs.Growth.{Grows-none}
use Rattle.udp_site.proofs.Proposals.{could_propose}
use Rattle.udp_site.proofs.Said.{comes_too}

abbrev pub nothing : Done
nothing = record { posts = []; notices = [] }

isnt_zero : (n : ℕ) → n ≢ 0 → (n == 0) ≡ false
isnt_zero n h = grind (arith, nat_tests)

is_zero : (n : ℕ) → n ≡ 0 → (n == 0) ≡ true
is_zero n h = grind (arith, nat_tests)

module _ {C : Type 0} (device : C → Device) (addresses : List ℕ) {old : Serving C}
    {start : OpenSite C} {progress : IdleProgress} (stands : Stands old start progress)
    {from : ℕ} (from_is : from ≡ start.book.owner.site) where
  abbrev idle : ℕ
  idle = progress.idle

  abbrev tried : ℕ
  tried = progress.tried

  count_is : (idle + 1) % from ≡ (old.idle + 1) % number old
  count_is = rw (stands.idle, stands.there, from_is)

  next_is : (o : Option ℕ) → o ≡ next_waiting start.book.records tried
      → next_waiting old.site.book.records old.tried ≡ o
  next_is o is = rw (stands.there, stands.tried) (sym is)

  not_its_turn : (idle + 1) % from ≢ 0 → idles device addresses old nothing (one_more_idle old)
  not_its_turn e =
      rw (isnt_zero ((old.idle + 1) % number old) (rw count_is at e)) (refl, refl)

  its_turn : (idle + 1) % from ≡ 0 → (done : Done) (next : Serving C)
      → proposes_next device addresses (one_more_idle old) done next
      → idles device addresses old done next
  its_turn e done next so = rw (is_zero ((old.idle + 1) % number old) (sym count_is ∙ e)) so

  none_waits : None ≡ next_waiting start.book.records tried
      → proposes_next device addresses (one_more_idle old) nothing (one_more_idle old)
  none_waits is = rw (next_is None is) (refl, refl)

  proposes_at : (place : ℕ) (slot : Option SlotName)
      → Some place ≡ next_waiting start.book.records tried
      → slot ≡ slot_at (deposits_of start.book.records) place
      → (done : Done) (next : Serving C)
      → proposes device addresses (one_more_idle old) (Some place) slot done next
      → proposes_next device addresses (one_more_idle old) done next
  proposes_at place slot is there_is done next so =
      let slot_is : slot_at (deposits_of old.site.book.records) place ≡ slot =
      rw stands.there (sym there_is) in
      rw (next_is (Some place) is, slot_is) so

  -- nothing comes of it but the count
  module _ (traffic : Option (List Move)) (lines : List Line) where
    abbrev Counts : Type 0
    Counts =
        ComesTo (at (idle + 1) tried (idles device addresses old)) traffic traffic lines lines start
        (Ok tt)

    counts : idles device addresses old nothing (one_more_idle old) → Counts
    counts so = (
      nothing,
      one_more_idle old,
      (so, rw stands.idle, stands.tried),
      stands.there,
      stands.serves,
      grows_by_no_posts traffic,
      rw append-nil,
    )

    pub not_yet : (idle + 1) % from ≢ 0 → Counts
    not_yet e = counts (not_its_turn e)

    pub none_to_propose : (idle + 1) % from ≡ 0 → None ≡ next_waiting start.book.records tried
        → Counts
    none_to_propose e is = counts (its_turn e nothing (one_more_idle old) (none_waits is))

    pub no_slot : (idle + 1) % from ≡ 0 → (place : ℕ)
        → Some place ≡ next_waiting start.book.records tried
        → None ≡ slot_at (deposits_of start.book.records) place → Counts
    no_slot e place is none =
        counts (its_turn e nothing (one_more_idle old)
        (proposes_at place None is none nothing (one_more_idle old) (refl, refl)))

  -- the deposit at a place is proposed
  module _ (e : (idle + 1) % from ≡ 0) (place : ℕ)
      (is : Some place ≡ next_waiting start.book.records tried) (slot : SlotName)
      (slot_there : Some slot ≡ slot_at (deposits_of start.book.records) place) where
    abbrev tried_now : Serving C
    tried_now = tries (one_more_idle old) place

    idles_so : (done : Done) (next : Serving C) → proposing device addresses tried_now slot done
        next
        → at (idle + 1) (place + 1) (idles device addresses old) done next
    idles_so done next (result, called, refuses, done_is) = (
      its_turn e done next
          (proposes_at place (Some slot) is slot_there done next
          (result, called, refuses, done_is)),
      rw (called.idle, stands.idle),
      called.tried,
    )

    pub proposal_comes : (a b : Option (List Move)) (before after : List Line) (site : OpenSite C)
        → (r : Result (Unit {0}) AllocError)
        → ((s : Serving C) → s.site ≡ start → IsServing s
        → ComesTo (proposing device addresses s slot) a b before after site r)
        → ComesTo (at (idle + 1) (place + 1) (idles device addresses old)) a b before after site r
    proposal_comes a b before after site r came =
        comes_too (proposing device addresses tried_now slot)
        (at (idle + 1) (place + 1) (idles device addresses old)) idles_so a b before after site r
        (came tried_now stands.there stands.serves)

    -- memory ran out before the call
    pub no_memory : (a : Option (List Move)) (lines : List Line) (fault : AllocError)
        → ComesTo (at (idle + 1) (place + 1) (idles device addresses old)) a a lines lines start
        (Err fault)
    no_memory a lines fault =
        let call = could_propose device tried_now slot stands.serves in (
          _,
          tried_now,
          idles_so _ tried_now (_, call.1, call.2, refl),
          stands.there,
          0,
          Grows-none a,
        )
