use Rattle.std.proofs.Common.{true, [], ◌∷◌, ◌++◌, sym, ap, ◌∙◌, append_assoc, append-nil}
use Rattle.folder_checks.proofs.Several.{byte_named, all_named}
use Rattle.folder_checks.specs.Reports.{name_where, named_from}
use Rattle.folder_checks.proofs.named.with_name.Goals.{else-begins}
use Rattle.folder_checks.proofs.named.with_name.Goals.{then-begins+in_ok-extend_from_slice+in_ok-push}
use Rattle.folder_checks.proofs.named.with_name.Goals as goal

pub loop-byte-preserved : goal.loop-byte-preserved
loop-byte-preserved c =
    byte_named c.args.name.now c.loop-byte.begins c.args.text.now c.loop-byte.byte-index
    (named_from c.args.name.now true c.args.text.now) c.loop-byte.bytes.items
    c.if-begins.bytes.items c.push-in-loop-byte.new.self.items c.loop-byte-test.true
    c.loop-byte.invariant
    (elim c.if-begins.branch [
      | then-begins+in_ok-extend_from_slice+in_ok-push w ↦
          ap (λ b. b.items) w.bytes-is
          ∙ (w.in_ok-push.ensures.items
          ∙ (ap (λ t. t ++ 32 ∷ []) w.in_ok-extend_from_slice.ensures.items
          ∙ (append_assoc c.loop-byte.bytes.items c.args.name.now (32 ∷ [])
          ∙ sym
          (ap (λ b. c.loop-byte.bytes.items ++ name_where b c.args.name.now) w.if-begins.true))))
      | else-begins w ↦
          ap (λ b. b.items) w.bytes-is
          ∙ sym
          (ap (λ b. c.loop-byte.bytes.items ++ name_where b c.args.name.now) w.if-begins.false
          ∙ append-nil c.loop-byte.bytes.items)
    ])
    c.in_ok-push-2.ensures.items

pub returns : goal.returns
returns c =
    all_named c.args.name.now c.loop-byte.begins c.args.text.now c.loop-byte.byte-index
    (named_from c.args.name.now true c.args.text.now) c.loop-byte.bytes.items
    c.loop-byte-test.false c.loop-byte.invariant
