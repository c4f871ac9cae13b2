-- When a client has a site recover the version that it asks for, and which one. A bag may be
-- chosen, and known to none that runs: then a site that has voted for it has to propose it once
-- more.
use Rattle.std.specs.Prelude.{ℕ, ◌+◌, ◌-◌, ◌%◌, min, nat_lt, List, length, Option, None, slice_get}
use Rattle.std.specs.Prelude.{if◌then◌else◌}
use Rattle.std.specs.Option.{option_map}
use Rattle.dgram.specs.declared.body.Body.TheVariants.{Recover}
use Rattle.dgram.specs.Encoding.{datagram_of}
use Rattle.udp_site.specs.Traffic.{Post}
use Rattle.site_client.specs.Replies.{Question}

-- So many questions about a version come before its first Recover, and each later one brings one:
-- their pauses add up to more than a second, in which most versions are decided, and each pause
-- after them takes a second. So of a version one Recover is sent a second in all, to one site.
abbrev pub PATIENCE : ℕ
PATIENCE = 9

-- The port of the site that is asked to recover, after a question: that of the site that is asked
-- itself, with the next question that of the next site, and after the last site that of the first.
abbrev pub recovery_port : Question → Option ℕ
recovery_port q =
    if nat_lt q.asked PATIENCE
    then None else slice_get q.addresses ((q.to - 1 + (q.asked - PATIENCE)) % length q.addresses)

-- the datagram that says so
unfoldable pub recovery_datagram : Question → List ℕ
recovery_datagram q = datagram_of q.federation (record { slot = q.slot; body = Recover })

abbrev pub recovery_of : Question → Option Post
recovery_of q = option_map (λ port. (port, recovery_datagram q)) (recovery_port q)

-- the same question where so many came before
abbrev pub question_at : Question → (asked : ℕ) → Question
question_at q asked = record q { asked = asked }

-- the next question about the same
abbrev pub next_question : Question → Question
next_question q = question_at q (min (q.asked + 1) 4294967295)
