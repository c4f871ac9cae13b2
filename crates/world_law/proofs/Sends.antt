-- What was sent, as bytes.
use Rattle.std.proofs.Common.{ℕ, zero, suc, ◌≡◌, refl, List, [], ◌∷◌, get_or, Some}
use Rattle.std.specs.List.{slice_get}
use Rattle.fed_types.specs.Lists.{Has, here, there}
use Rattle.dgram.specs.declared.message.Message.{Message}
use Rattle.dgram.specs.Decoded.{message_of}
use Rattle.dgram.specs.Encoding.{body_from, from_byte, datagram_of}
use Rattle.dgram.specs.Messages.{IsMessage}
use Rattle.dgram.specs.Numbers.{FRONT}
use Rattle.dgram.proofs.MessageOf.{message_of-again}
use Rattle.site.specs.Effects.{Send}
use Rattle.world_law.specs.Networks.{datagram_at}

-- a datagram is read as the message that was sent
pub datagram_is_read : (federation : ℕ) (m : Message) → IsMessage m
    → message_of federation (datagram_of federation m) ≡ Some m
datagram_is_read = message_of-again

-- the byte after the front is the sender's
pub sender_byte : (federation : ℕ) (m : Message)
    → get_or (datagram_of federation m) FRONT 0 ≡ from_byte (body_from m.body)
sender_byte federation m = refl

find : {X : Type 0} (xs : List X) (k : ℕ) (x : X) → slice_get xs k ≡ Some x → Has x xs
find [] k x e = absurd (cc e)
find (y ∷ ys) zero x e = let f : y ≡ x = cc in here f
find (y ∷ ys) (suc k) x e = there (find ys k x e)

-- the datagram of a number was sent
pub at_number : (k : ℕ) (sent : List Send) (d : Send) → datagram_at k sent ≡ Some d → Has d sent
at_number zero sent d e = absurd (cc e)
at_number (suc k) sent d e = find sent k d e
