use Rattle.std.proofs.Common.{◌≡◌, ◌+◌, ◌-◌, ◌∙◌, length, drop, arith, ap, refl}
use Rattle.std.proofs.lemmas.List.{length-take, length-drop}
use Rattle.fed_types.specs.Sites.{Membership}
use Rattle.records.specs.Layout.{header_of}
use Rattle.records.proofs.Found.{short_has_none}
use Rattle.ledger.proofs.Headers.{their_weights, fit, too_short, header_under, size_of}
use Rattle.ledger.proofs.Headers.{begun, begins}
use Rattle.ledger.proofs.named.header_members.Goals as goal

pub returns-then-bytes-le-FRONT : goal.returns-then-bytes-le-FRONT
returns-then-bytes-le-FRONT c =
    short_has_none c.args.owner.now c.args.bytes.now c.if-bytes-le-FRONT.true

pub returns-then-bytes-end : goal.returns-then-bytes-end
returns-then-bytes-end c =
    too_short c.args.owner.now c.args.bytes.now c.from.result c.from.ensures c.if-bytes-end.true

pub returns-in_default : goal.returns-in_default
returns-in_default c = λ has.
    let ok = c.in_default.ensures.ok.1
    (fit c.args.owner.now c.args.bytes.now c.from.result c.from.ensures has) in absurd (cc ok)

-- the header that is compared is this federation's and site's
its : (c : goal.After-as_slice)
    → c.as_slice.result.now ≡ header_of c.args.owner.now c.in-Ok.members.weights
its c = c.as_slice.ensures.value ∙ c.in_ok-header.ensures.bytes
    ∙ header_under c.args.owner.now c.in-Ok.members
    (rw c.in-Ok.ensures.value c.federation.ensures)

pub begins_with-requires : goal.begins_with-requires
begins_with-requires c =
    let n = c.from.result in
    let bytes = c.args.bytes.now in
    omega (
      arith,
      size_of c.args.owner.now bytes c.as_slice.result.now c.in-Ok.members.weights (its c),
      ap (λ (m : Membership). length m.weights) c.in-Ok.ensures.value,
      length-take (14 + n - 14) (drop 14 bytes),
      length-drop 14 bytes,
      c.if-bytes-end.false,
    )

pub returns-then-begins_with : goal.returns-then-begins_with
returns-then-begins_with c = record {
  weights = c.in_ok-header.ensures.sound;
  federation = rw c.in-Ok.ensures.value c.federation.ensures;
  bytes_are = begun c.args.owner.now c.args.bytes.now c.as_slice.result.now c.in-Ok.members.weights
      (c.as_slice.ensures.value ∙ c.in_ok-header.ensures.bytes
      ∙ header_under c.args.owner.now c.in-Ok.members
      (rw c.in-Ok.ensures.value c.federation.ensures))
      (c.if-begins_with.ensures.0 refl);
}

pub returns : goal.returns
returns c = λ has.
    let owner = c.args.owner.now in
    let bytes = c.args.bytes.now in
    let same : c.in-Ok.members.weights ≡ has.0 = rw c.in-Ok.ensures.value
    (their_weights owner bytes c.from.result c.from.ensures has.0 has.1 has.3) in
    let is : c.as_slice.result.now ≡ header_of owner has.0 =
    c.as_slice.ensures.value ∙ c.in_ok-header.ensures.bytes
    ∙ header_under owner c.in-Ok.members (rw c.in-Ok.ensures.value c.federation.ensures)
    ∙ ap (header_of owner) same in
    let t = c.begins_with.ensures.1
    (begins owner bytes c.as_slice.result.now has.0 is has.1 has.3) in
    absurd (cc (t, c.if-begins_with.false))
