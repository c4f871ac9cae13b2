-- Answers of a site's call, made of what it says and sends.
use Rattle.std.proofs.Common.{ℕ, ◌≡◌, ◌<◌, ◌^◌, refl, List, [], ◌∷◌, Option, length, map, arith}
use Rattle.std.specs.List.{AllByRecursion}
use denote.RawPtr.{null_ptr}
use Rattle.dgram.specs.declared.message.Message.{Message}
use Rattle.dgram.specs.Encoding.{datagram_of}
use Rattle.dgram.specs.Messages.{IsMessage}
use Rattle.dgram.proofs.Lengths.{no_longer}
use Rattle.site.specs.declared.answer.Answer.{Answer}
use Rattle.site.specs.declared.answer.Line.{Line}
use Rattle.site.specs.declared.answer.Outgoing.{Outgoing}
use Rattle.site.specs.Datagrams.{handed_out, datagram}
use Rattle.site.specs.Effects.{Send}

pub short : (federation : ℕ) (m : Message) → IsMessage m
    → length (datagram_of federation m) < 2 ^ 63
short federation m is = omega (arith, no_longer federation m is)

-- a message for a site
abbrev pub seal : (federation to : ℕ) (m : Message) → IsMessage m → Outgoing
seal federation to m is = record {
  to = to;
  bytes = record {
    ptr = null_ptr;
    len = length (datagram_of federation m);
    cap = length (datagram_of federation m);
    alloc = record { memory = record { seal = tt } };
    items = datagram_of federation m;
    ok = (refl, omega arith);
    small = short federation m is;
  };
}

abbrev pub AreMessages : List Send → Type 0
AreMessages sends = AllByRecursion (λ (s : Send). IsMessage s.message) sends

abbrev pub seals : (federation : ℕ) (sends : List Send) → AreMessages sends → List Outgoing
seals federation [] are = []
seals federation (s ∷ sends) are =
    seal federation s.to s.message are.0 ∷ seals federation sends are.1

pub seals_are : (federation : ℕ) (sends : List Send) (are : AreMessages sends)
    → map handed_out (seals federation sends are) ≡ map (datagram federation) sends
seals_are federation [] are = refl
seals_are federation (s ∷ sends) are = rw (seals_are federation sends are.1) refl

abbrev pub answer_of : Option Line → (sends : List Outgoing) → length sends < 2 ^ 63 → Answer
answer_of line sends few = record {
  line = line;
  sends = record {
    ptr = null_ptr;
    len = length sends;
    cap = length sends;
    alloc = record { memory = record { seal = tt } };
    items = sends;
    ok = (refl, omega arith);
    small = few;
  };
}
