-- Datagrams as they are handed out.
use Rattle.std.specs.Prelude.{ℕ, List}
use Rattle.dgram.specs.Encoding.{datagram_of}
use Rattle.site.specs.declared.answer.Outgoing.{Outgoing}
use Rattle.site.specs.Effects.{Send}

-- the site that it goes to, and its bytes
abbrev pub datagram : ℕ → Send → ℕ × List ℕ
datagram federation send = (send.to, datagram_of federation send.message)

abbrev pub handed_out : Outgoing → ℕ × List ℕ
handed_out sealed = (sealed.to, sealed.bytes.items)
