-- Which sites a port has heard lately, and since the last proposal, itself among them. Time is cut
-- into spans of ten seconds, and lately is the span of a moment and the one before it: so what was
-- heard within ten seconds was heard lately, and nothing that is twenty seconds old. Moments are
-- microseconds of the port's clock.
use Rattle.std.specs.Prelude.{ℕ, ◌-◌, ◌/◌, ◌==◌, if◌then◌else◌, Bool, true, List, []}
use Rattle.std.specs.Prelude.{Option, Some, None}
use Rattle.fed_types.specs.Quorums.{quorums_of}
use Rattle.fed_types.specs.Sites.{Membership}
use Rattle.fed_types.specs.Voters.{with_voter}
use Rattle.udp_site.specs.declared.contacts.Contacts.{Contacts}

-- the length of a span
abbrev pub SPAN : ℕ
SPAN = 10000000

-- the number of a moment's span
abbrev pub span_of : ℕ → ℕ
span_of now = now / SPAN

-- a site that has heard nobody but itself
abbrev pub alone : ℕ → List ℕ
alone own = with_voter [] own

abbrev pub nobody_heard : Membership → ℕ → Contacts
nobody_heard members own = record {
  members = members;
  own = own;
  span = 0;
  current = alone own;
  recent = alone own;
  since = None;
}

-- how many spans ago a site was heard last
abbrev pub age : Contacts → (now : ℕ) → ℕ
age contacts now = span_of now - contacts.span

-- the sites that were heard in the span of this moment
abbrev pub heard_now : Contacts → (now : ℕ) → List ℕ
heard_now contacts now = if age contacts now == 0 then contacts.current else alone contacts.own

-- those that were heard lately
abbrev pub heard_lately : Contacts → (now : ℕ) → List ℕ
heard_lately contacts now =
    if age contacts now == 0
    then contacts.recent
    else (if age contacts now == 1 then contacts.current else alone contacts.own)

-- these sites are a quorum, by their weights
abbrev pub are_quorum : Contacts → List ℕ → Bool
are_quorum contacts sites = (quorums_of contacts.members).is_quorum sites

-- a quorum was heard lately
abbrev pub is_connected : Contacts → (now : ℕ) → Bool
is_connected contacts now = are_quorum contacts (heard_lately contacts now)

-- enough was heard in the span of this moment: who else is heard in it changes nothing
abbrev pub is_enough : Contacts → (now : ℕ) → Bool
is_enough contacts now = are_quorum contacts (heard_now contacts now)

-- a site is heard
abbrev pub notes : Contacts → (now site : ℕ) → Contacts
notes contacts now site =
    if is_enough contacts now
    then contacts
    else record contacts {
      span = span_of now;
      current = with_voter (heard_now contacts now) site;
      recent = with_voter (heard_lately contacts now) site;
    }

-- the site proposes: nothing has come since then
abbrev pub awaits : Contacts → Contacts
awaits contacts = record contacts { since = None }

-- those that were heard since the last proposal
abbrev pub heard_since : Contacts → List ℕ
heard_since contacts = elim contacts.since [
  | None ↦ alone contacts.own
  | Some sites ↦ sites
]

-- something comes, which a site may have said
abbrev pub notes_answer : Contacts → (sender : Option ℕ) → Contacts
notes_answer contacts None = record contacts { since = Some (heard_since contacts) }
notes_answer contacts (Some site) =
    record contacts { since = Some (with_voter (heard_since contacts) site) }

-- A quorum was heard since the last proposal; or nothing has come, not even what the site said to
-- itself, since it was busy. Where it is cut off neither is so.
abbrev pub is_late : Contacts → Bool
is_late contacts = elim contacts.since [
  | None ↦ true
  | Some sites ↦ are_quorum contacts sites
]
