use Rattle.std.proofs.Common.{◌≡◌, ℕ, ◌-◌, Bool, true, false, if◌then◌else◌, List, [], length, take}
use Rattle.std.proofs.Common.{Some, None, arith, sym, ap, ◌∙◌, unwrap_or}
use Rattle.std.proofs.lemmas.List.{length-take-le}
use Rattle.tags.specs.Hmac.{tag_len}
use Rattle.tags.specs.Tags.{text_in}
use Rattle.tags.specs.Rings.{Ring, is_sealed_by, opened_by}
use Rattle.udp_site.proofs.seals.opened.Goals as goal

-- What is opened is the beginning of what came.
is_part : (ring : Ring) (text bytes : List ℕ) → opened_by ring bytes ≡ Some text
    → text_in bytes ≡ text
unfolding opened_by
is_part ring text bytes h = go (is_sealed_by ring bytes) h
  where
    go : (t : Bool) → (if t then Some (text_in bytes) else None) ≡ Some text → text_in bytes ≡ text
    go false h = absurd (cc h)
    go true h = cc h

part_length : (bytes : List ℕ) → length (text_in bytes) ≡ length bytes - tag_len
part_length bytes = length-take-le (length bytes - tag_len) bytes (grind (arith))

begins : (text bytes : List ℕ) → text_in bytes ≡ text → take (length text) bytes ≡ text
begins text bytes is =
    ap (λ n. take n bytes) (ap length (sym is) ∙ part_length bytes) ∙ is

pub returns-in-Some-clause-part : goal.returns-in-Some-clause-part
returns-in-Some-clause-part c =
    begins c.in-Some.text.now c.args.bytes.now
    (is_part c.args.ring.now c.in-Some.text.now c.args.bytes.now (sym c.in-Some.ensures))
    ∙ ap (λ opened. unwrap_or opened []) c.in-Some.ensures

pub returns-in-Some-clause-within : goal.returns-in-Some-clause-within
returns-in-Some-clause-within c =
    grind (
      arith,
      part_length c.args.bytes.now,
      ap length (is_part c.args.ring.now c.in-Some.text.now c.args.bytes.now
          (sym c.in-Some.ensures)),
    )
