-- Three sites that serve agree: their turns, one by one.
use Rattle.std.proofs.Common.{ℕ, zero, suc, ◌≡◌, ◌<◌, ◌^◌, refl, List, [], ◌∷◌, length, Option}
use Rattle.std.proofs.Common.{Some, arith}
use Rattle.std.specs.Prelude.{slice_index_or}
use Rattle.fed_types.specs.Lists.{Has}
use Rattle.fed_types.specs.Quorums.{quorums_of}
use Rattle.fed_types.specs.Sites.{IsWeight, members_of}
use Rattle.fed_types.specs.Values.{IsMembership}
use Rattle.records.specs.declared.entry.Entry.{Entry}
use Rattle.records.specs.declared.record.Record.{Record}
use Rattle.records.specs.Records.{AreRecords}
use Rattle.dgram.specs.declared.body.Body.{Body}
use Rattle.dgram.specs.declared.message.Message.{Message}
use Rattle.dgram.specs.Encoding.{datagram_of}
use Rattle.dgram.specs.Messages.{IsMessage}
use Rattle.proposer.specs.Proposals.{Current}
use Rattle.proposer.specs.UnderWay.{nothing}
use Rattle.site.specs.declared.answer.Answer.{Answer}
use Rattle.site.specs.declared.answer.Line.{Line}
use Rattle.site.specs.Calls as calls
use Rattle.site.specs.Calls.{effect_of}
use Rattle.site.specs.Effects.{Effect, Send}
use Rattle.site.specs.Contents.{Represents}
use Rattle.udp_site.specs.Requests as requests
use Rattle.udp_site.specs.Turns.{Serving}
use Rattle.serving_law.specs.Disks.{Disk, device}
use Rattle.serving_law.specs.ExamplesAgreed.{three, a}
use Rattle.serving_law.specs.Federations.{Serves, Federation, Step, Turns}
use Rattle.serving_law.specs.Rules.{AreBytes, Takes, May}
use Rattle.serving_law.proofs.Answers.{AreMessages, seals, answer_of}
use Rattle.serving_law.proofs.Tables.{Rows, records_of, tables}
use Rattle.serving_law.proofs.Sites.{volatile_of}
use Rattle.serving_law.proofs.DiskCalls.{serving, kept, IsKept, said, called, heard_step, hears}

each_weight : (k d : ℕ) → k < 3 → IsWeight (slice_index_or (1 ∷ 1 ∷ 1 ∷ []) k d)
each_weight zero d lt = (omega arith, omega arith)
each_weight (suc zero) d lt = (omega arith, omega arith)
each_weight (suc (suc zero)) d lt = (omega arith, omega arith)
each_weight (suc (suc (suc k))) d lt = absurd (omega (arith, lt))

pub three_are : IsMembership three
three_are = (omega arith, ((omega arith, omega arith), each_weight))

-- the port of a site is its number
abbrev pub addresses : List ℕ
addresses = 1 ∷ 2 ∷ 3 ∷ []

abbrev pub m : Body → Message
m body = record { slot = a; body = body }

abbrev pub r : Entry → Record
r said = record { slot = a; body = said }

abbrev pub to_site : ℕ → Body → Send
to_site site body = record { to = site; message = m body }

abbrev pub to_all : Body → List Send
to_all body = to_site 1 body ∷ to_site 2 body ∷ to_site 3 body ∷ []

-- What a site is between two turns: what it has on record and has heard, and its rows.
pub record State : Type 0 where
  pub es : List Entry
  pub bs : List Body
  pub current : Option Current
  pub rows : Rows
  pub turns : ℕ

abbrev pub serves : (site : ℕ) → State → Serving Disk
serves n s =
    serving three three_are n (records_of a s.es) (tables a three n s.rows)
    (volatile_of s.bs s.current) s.turns s.turns

-- A turn in which a message comes: the site as it was, the message, what comes of it, and the site
-- as it is then.
pub record Hearing : Type 0 where
  pub n : ℕ
  pub old : State
  pub body : Body
  pub commits : Option Record
  pub sends : List Send
  pub line : Option Line
  pub bs : List Body
  pub rows : Rows
  pub ms : AreMessages sends
  pub few : length (seals 7 sends ms) < 2 ^ 63

abbrev pub comes_to : Hearing → Effect
comes_to h = record {
  commits = h.commits;
  sends = h.sends;
  says = said h.line;
  volatile = volatile_of h.bs h.old.current;
}

abbrev pub next_of : Hearing → Serving Disk
next_of h =
    serving three three_are h.n (kept (records_of a h.old.es) h.commits) (tables a three h.n h.rows)
    (volatile_of h.bs h.old.current) h.old.turns h.old.turns

abbrev pub answer_in : Hearing → Answer
answer_in h = answer_of h.line (seals 7 h.sends h.ms) h.few

abbrev pub step_of : Hearing → Step Disk
step_of h = heard_step three three_are h.n addresses (m h.body) (answer_in h) (next_of h)

-- the rules say that it comes to this
abbrev pub Answers : Hearing → Type 0
Answers h =
    effect_of (quorums_of three) h.n (records_of a h.old.es)
    (volatile_of h.old.bs h.old.current) (calls.Arrives (Some (m h.body))) ≡ comes_to h

-- and the rows then represent what is on record and was heard
abbrev pub Stands : Hearing → Type 0
Stands h =
    Represents (tables a three h.n h.rows) (kept (records_of a h.old.es) h.commits)
    (volatile_of h.bs h.old.current) nothing

-- what is on record, comes and is recorded is well-formed
pub record Fits (h : Hearing) : Type 0 where
  pub are : AreRecords (records_of a h.old.es)
  pub is : IsMessage (m h.body)
  pub says : requests.request_by 0 (m h.body) h.body ≡ requests.Says (m h.body)
  pub fits : AreBytes (datagram_of 7 (m h.body))
  pub keep : IsKept h.commits

module _ (h : Hearing) (fits : Fits h) (answers : Answers h) (stands : Stands h)
    (f : Federation Disk) (port : ℕ) (handed : Has (port, datagram_of 7 (m h.body)) f.handed) where
  pub takes : Takes device three f (serves h.n h.old) (step_of h)
  takes = record {
    may_come = (fits.fits, λ message e is. (port, handed));
    comes =
        hears three three_are h.n addresses (records_of a h.old.es) (tables a three h.n h.old.rows)
        (volatile_of h.old.bs h.old.current) h.old.turns h.old.turns (next_of h) (m h.body) fits.is
        fits.says (answer_in h) (called three three_are h.n (records_of a h.old.es) fits.are
        (tables a three h.n h.old.rows) (tables a three h.n h.rows)
        (volatile_of h.old.bs h.old.current) h.old.turns h.old.turns
        (calls.Arrives (Some (m h.body))) (comes_to h) h.line answers refl fits.keep h.ms h.few
        nothing stands);
  }

  pub may_turn : Has h.n (members_of three) → f.members h.n ≡ Serves (serves h.n h.old)
      → (count written : ℕ) → May device three f (Turns h.n (step_of h) count written)
  may_turn member is_serving count written = (serves h.n h.old, (member, is_serving), takes, refl)
