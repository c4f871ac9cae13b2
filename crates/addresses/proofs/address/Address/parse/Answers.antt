use Rattle.std.proofs.Common.{◌≡◌, ◌<◌, true, sym, ◌∙◌}
use Rattle.std.specs.Str.{bytes_eq}
use Rattle.addresses.specs.Texts.{ADDRESSES, is_listable, of_socket, text_of}
use Rattle.std.proofs.lemmas.Bool.{false≢true}
use Rattle.addresses.proofs.TextLemmas.{has_address, no_address, other_text}
use Rattle.addresses.proofs.address.Address.parse.Goals as goal
use Rattle.addresses.proofs.address.Address.parse.Goals.{
  else-is_listable-via-then-is_listable+else-eq,
  else-is_listable-via-else-is_listable,
}

pub returns-in_default : goal.returns-in_default
returns-in_default c =
    sym (no_address c.args.text.now c.in_default.field-0 c.parse_ascii.result c.in_default.is
    c.parse_ascii.ensures)

pub returns-then-eq : goal.returns-then-eq
returns-then-eq c =
    let value : c.of_socket-address.result ≡ of_socket c.in-Ok.socket =
    c.of_socket-address.ensures.value in
    let fits : of_socket c.in-Ok.socket < ADDRESSES =
    rw (← value) c.of_socket-address.ensures.in_range in
    let listable : is_listable (of_socket c.in-Ok.socket) ≡ true =
    rw (← value) (sym c.is_listable.ensures ∙ c.if-is_listable.true) in
    let written : c.as_bytes.result.now ≡ text_of (of_socket c.in-Ok.socket) =
    rw (← value) (c.as_bytes.ensures.value ∙ c.in_ok-written.ensures.ok) in
    let same : bytes_eq (text_of (of_socket c.in-Ok.socket)) c.args.text.now ≡ true =
    rw (← written) (sym c.eq.ensures ∙ c.if-eq.true) in
    rw value (sym (has_address c.args.text.now c.in-Ok.socket fits listable same))

pub returns : goal.returns
returns c =
    let value : c.of_socket-address.result ≡ of_socket c.in-Ok.socket =
    c.of_socket-address.ensures.value in
    sym (other_text c.args.text.now c.in-Ok.socket c.in-Ok.ensures (λ listable.
    elim c.else-is_listable.branch [
      | else-is_listable-via-then-is_listable+else-eq w ↦
          let written : w.as_bytes.result.now ≡ text_of (of_socket c.in-Ok.socket) =
          rw (← value) (w.as_bytes.ensures.value ∙ c.in_ok-written.ensures.ok) in
          rw (← written) (sym w.eq.ensures ∙ w.if-eq.false)
      | else-is_listable-via-else-is_listable w ↦
          absurd (false≢true (sym w.if-is_listable.false ∙ c.is_listable.ensures
          ∙ rw value listable))
    ]))
