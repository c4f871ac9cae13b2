-- How long a port waits. Waits are milliseconds, and moments are microseconds of its clock.
use Rattle.std.specs.Prelude.{ℕ, ◌+◌, ◌-◌, ◌*◌, ◌/◌, ◌==◌, ◌||◌, ◌&&◌, nat_lt, Bool, true, false}
use Rattle.std.specs.Prelude.{not}
use Rattle.std.specs.Prelude.{min, max, if◌then◌else◌, List, Option, Some, None}
use Rattle.udp_site.specs.declared.contacts.Contacts.{Contacts}
use Rattle.udp_site.specs.declared.waits.Waits.{Waits}
use Rattle.udp_site.specs.declared.pace.Pace.{Pace}
use Rattle.udp_site.specs.declared.movement.Sign.{Sign}
use Rattle.udp_site.specs.declared.movement.Sign.TheVariants as signs
use Rattle.udp_site.specs.declared.movement.Signal.{Signal}
use Rattle.udp_site.specs.Contacts.{is_connected, notes, notes_answer, awaits, is_late}
use Rattle.udp_site.specs.Signs.{is_prepare, is_accept, is_registered, is_pending}

-- A port begins with its first wait, as after an idle turn and a proposal at the moment 0. That of
-- a site has contacts, and that of a client has none.
abbrev pub begins : Waits → Option Contacts → Pace
begins waits contacts = record {
  waits = waits;
  wait = waits.first;
  answer_wait = waits.first;
  idle_at = 0;
  round_at = 0;
  under_way = 0;
  together = false;
  prompt = 0;
  due = waits.prompt;
  asked = 0;
  proposed_at = 0;
  connected_at = 0;
  contacts = contacts;
}

-- twice as long, up to the most that it may wait
abbrev pub longer : Pace → (wait : ℕ) → ℕ
longer pace wait = min (2 * wait) (max pace.waits.first pace.waits.most)

-- the most turns that are prompt: nothing is taken in meanwhile
abbrev pub most_prompt : ℕ
most_prompt = 1000

-- the most proposals that a site makes without waiting for votes
abbrev pub most_together : ℕ
most_together = 32

-- a quorum was heard lately: within ten seconds, or little longer
abbrev pub hears_quorum : Option Contacts → (now : ℕ) → Bool
hears_quorum None now = false
hears_quorum (Some contacts) now = is_connected contacts now

-- Whether the next turn is idle at once: it is a prompt one, and the site doesn't outbid itself by
-- it, since no proposal is under way. While no quorum is heard there are no more than it needs for
-- one proposal; else there are as many as it needs for all.
abbrev pub is_prompt : Pace → (now : ℕ) → Bool
is_prompt pace now =
    not (pace.prompt == 0) && (pace.under_way == 0
    && (hears_quorum pace.contacts now || not (pace.due == 0)))

-- how many microseconds are between two ballots that clients bring: a second, or as long as it
-- waits for answers
abbrev pub pause : Pace → ℕ
pause pace = 1000 * max 1000 pace.answer_wait

-- Prompt turns are for deposits that weren't proposed yet. Where no other turn was idle for so
-- long, as under load, there are as many more as one proposal needs: one that was made before, and
-- may be lost, is made again.
abbrev pub goes_round : Pace → (now : ℕ) → Bool
goes_round pace now = not (nat_lt (now - pace.round_at) (pause pace))

-- how many prompt turns are left after one at this moment
abbrev pub prompt_after : Pace → (now : ℕ) → ℕ
prompt_after pace now =
    if is_prompt pace now && goes_round pace now
    then min (pace.prompt + pace.waits.prompt) most_prompt - 1 else pace.prompt - 1

-- Nothing came. The wait stays as it is, as long as the site may have something to propose, which
-- it does once in as many idle turns as its number is. Where as many came without a proposal it has
-- nothing, and rests: it waits twice as long after each that isn't prompt.
abbrev pub idles : Pace → (now : ℕ) → Pace
idles pace now = record pace {
  wait =
      if pace.due == 0 && not (is_prompt pace now) then longer pace pace.wait else pace.wait;
  idle_at = now;
  connected_at = if hears_quorum pace.contacts now then now else pace.connected_at;
  together = false;
  round_at = if is_prompt pace now && not (goes_round pace now) then pace.round_at else now;
  prompt = prompt_after pace now;
  due = pace.due - 1;
  asked = pace.asked - 1;
}

-- Something comes. Where that moves something it waits for its first wait again; and where a
-- proposal has got votes, or a bag is known, one less is under way, and answers aren't late.
abbrev pub hears : Pace → Sign → Pace
hears pace signs.Still = pace
hears pace signs.Moves = record pace { wait = pace.waits.first }
hears pace signs.Decides = record pace {
  wait = pace.waits.first;
  answer_wait = pace.waits.first;
  under_way = pace.under_way - 1;
}

-- a site is heard
abbrev pub meets : Option Contacts → (now site : ℕ) → Option Contacts
meets None now site = None
meets (Some contacts) now site = Some (notes contacts now site)

-- a site is heard, if one says something
abbrev pub listens : Pace → (now : ℕ) → Option ℕ → Pace
listens pace now None = pace
listens pace now (Some site) = record pace { contacts = meets pace.contacts now site }

-- something comes, which may answer a proposal that is under way
abbrev pub answered : Option Contacts → (sender : Option ℕ) → Option Contacts
answered None sender = None
answered (Some contacts) sender = Some (notes_answer contacts sender)

abbrev pub arrives : Pace → (sender : Option ℕ) → Pace
arrives pace sender =
    if pace.under_way == 0 then pace else record pace { contacts = answered pace.contacts sender }

-- something comes, which a site may have said
abbrev pub takes : Pace → (now : ℕ) → Signal → Pace
takes pace now signal =
    hears (listens (arrives pace signal.sender) now signal.sender) signal.sign

-- The answers to a proposal that is under way are late, as where disks are slow: the next proposal
-- outbids it, and would be outbid in its turn if that came as soon.
abbrev pub answers_late : Pace → Bool
answers_late pace = not (pace.under_way == 0) && elim pace.contacts [
  | None ↦ false
  | Some contacts ↦ is_late contacts
]

-- a site that proposes awaits answers
abbrev pub awaiting : Option Contacts → Option Contacts
awaiting None = None
awaiting (Some contacts) = Some (awaits contacts)

-- The site proposes, in its last idle turn, or recovers, since then. After each of these it waits
-- twice as long; for answers it does so where those to the one before were late. One is under way
-- now, and no question is open. What is handed out next is made together with it.
abbrev pub proposes_first : Pace → Pace
proposes_first pace = record pace {
  wait = longer pace pace.wait;
  answer_wait = if answers_late pace then longer pace pace.answer_wait else pace.answer_wait;
  under_way = 1;
  together = true;
  due = pace.waits.prompt;
  asked = 0;
  proposed_at = pace.idle_at;
  contacts = awaiting pace.contacts;
}

-- It proposes another version together with that: one more is under way, and that is all.
abbrev pub proposes_more : Pace → Pace
proposes_more pace = record pace { under_way = min (pace.under_way + 1) most_together }

-- The proposals of a batch are handed out together: no turn is idle between them, and no batch
-- ends.
abbrev pub proposes : Pace → Pace
proposes pace =
    if pace.together && not (pace.under_way == 0)
    then proposes_more pace else proposes_first pace

-- A deposit is registered. It waits for its first wait again, though answers may be late as before;
-- and the turns that a site needs to propose it are prompt, besides those that are still. A deposit
-- that is there already is registered once more: it costs no more than one of a new version would.
abbrev pub registers : Pace → Pace
registers pace = record pace {
  wait = pace.waits.first;
  prompt = min (pace.prompt + pace.waits.prompt) most_prompt;
  due = pace.waits.prompt;
}

-- The turns of a batch were taken, or the batch ends. So many of the site's deposits wait, as far
-- as they are known, that weren't proposed in this round: the turns that it needs for these are
-- prompt, and no others are.
abbrev pub awaits_turns : Pace → (deposits : ℕ) → Pace
awaits_turns pace deposits = record pace {
  together = false;
  prompt = min (min deposits most_together * pace.waits.prompt) most_prompt;
}

-- a client asks for a bag that is pending: the site should propose
abbrev pub is_asked : Pace → Pace
is_asked pace = record pace { asked = pace.waits.prompt }

-- A datagram is handed out. With the Prepare that it says to itself the site proposes; with an
-- Accept its proposal has got the promises of a quorum, and something moves; with `registered` it
-- answers a deposit, and with `pending` a question.
abbrev pub hands : Pace → (own to : ℕ) → List ℕ → Pace
hands pace own to bytes =
    if is_prepare bytes && own == to
    then proposes pace
    else (if is_accept bytes
    then hears pace signs.Moves
    else (if is_registered bytes
    then registers pace
    else (if is_pending bytes then is_asked pace else pace)))

-- While a quorum is heard it waits for half a second at most, or for its first wait where that is
-- longer; but no less than it waits for answers.
abbrev pub wait_at : Pace → (now : ℕ) → ℕ
wait_at pace now =
    if hears_quorum pace.contacts now
    then max pace.answer_wait (min pace.wait (max pace.waits.first 500)) else pace.wait

-- How long after an idle turn the next one comes, whatever else does: at once where it is prompt;
-- else ten first waits, 250 ms at least, and its wait. First waits, and not those that have grown:
-- site N proposes in each N-th idle turn, and where clients ask all the time site 3 would else wait
-- for 10, 20 and 40 waits.
abbrev pub between : Pace → (now : ℕ) → ℕ
between pace now =
    if is_prompt pace now
    then 0 else max (wait_at pace now) (max (10 * pace.waits.first) 250)

-- for how many of them no question makes a turn idle
abbrev pub pause_left : Pace → (now : ℕ) → ℕ
pause_left pace now = pause pace - (now - pace.proposed_at)

-- for how many microseconds a turn waits still, whatever comes
abbrev pub at_most : Pace → (now : ℕ) → ℕ
at_most pace now =
    if pace.asked == 0
    then 1000 * between pace now - (now - pace.idle_at)
    else min (1000 * between pace now - (now - pace.idle_at)) (pause_left pace now)

-- for how many microseconds a turn that began then waits still; with 0 it is idle
abbrev pub left : Pace → (began now : ℕ) → ℕ
left pace began now = min (1000 * wait_at pace now - (now - began)) (at_most pace now)

-- For how many milliseconds the site has heard no quorum, by its idle turns: since the last one in
-- which it heard one, or since it began. While it hears one there are none.
abbrev pub alone_for : Pace → (now : ℕ) → ℕ
alone_for pace now =
    if hears_quorum pace.contacts now then 0 else max 1 ((now - pace.connected_at) / 1000)
