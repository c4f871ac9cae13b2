use Rattle.std.proofs.Common.{refl, arith}
use Rattle.dgram.proofs.Whole.{is_found, ok_only, ok_malformed, Faulted, answer_of, err_only}
use Rattle.dgram.proofs.Whole.{err_memory, err_malformed}
use Rattle.dgram.proofs.MessageOf.{message_of-is, no_message, short_message, err_message}
use Rattle.dgram.proofs.decoder.decode.Goals.{After-from_residual}
use Rattle.dgram.proofs.decoder.decode.Goals as goal

pub returns-then-bytes-lt-FRONT-clause-message : goal.returns-then-bytes-lt-FRONT-clause-message
returns-then-bytes-lt-FRONT-clause-message c =
    no_message c.args.federation c.args.bytes.now (λ i. omega (arith, c.type_inv.bytes i))
    (short_message c.args.federation c.args.bytes.now c.if-bytes-lt-FRONT.true)

pub returns-then-not-is_ours-clause-message : goal.returns-then-not-is_ours-clause-message
returns-then-not-is_ours-clause-message c =
    no_message c.args.federation c.args.bytes.now (λ i. omega (arith, c.type_inv.bytes i))
    (λ m d. absurd (cc (c.if-not-is_ours.ensures.1 (rw d.1 (refl, refl)))))

-- reading ended in a fault
fails : (c : After-from_residual)
    → Faulted c.args.federation c.args.bytes.now c.in_err-read_datagram.field-0.0
    c.from_residual.result
fails c =
    record {
      fits = λ i. omega (arith, c.type_inv.bytes i);
      long = c.if-bytes-lt-FRONT.false;
      ours = c.if-not-is_ours.ensures.0 refl;
      gives = c.in_err-read_datagram.ensures.gives;
      memory = λ e. c.in_err-read_datagram.ensures.memory (rw e);
      answer = answer_of _ _ c.from_residual.ensures.1;
    }

pub returns-in_err-read_datagram-clause-message : goal.returns-in_err-read_datagram-clause-message
returns-in_err-read_datagram-clause-message c =
    err_message c.args.federation c.args.bytes.now _ _
    (fails (goal.at.returns-in_err-read_datagram-clause-message c).After-from_residual)

pub returns-in_err-read_datagram-clause-only : goal.returns-in_err-read_datagram-clause-only
returns-in_err-read_datagram-clause-only c =
    err_only c.args.federation c.args.bytes.now _ _
    (fails (goal.at.returns-in_err-read_datagram-clause-only c).After-from_residual)

pub returns-in_err-read_datagram-clause-malformed :
    goal.returns-in_err-read_datagram-clause-malformed
returns-in_err-read_datagram-clause-malformed c =
    err_malformed c.args.federation c.args.bytes.now _ _
    (fails (goal.at.returns-in_err-read_datagram-clause-malformed c).After-from_residual)

pub returns-in_err-read_datagram-clause-memory : goal.returns-in_err-read_datagram-clause-memory
returns-in_err-read_datagram-clause-memory c =
    err_memory c.args.federation c.args.bytes.now _ _
    (fails (goal.at.returns-in_err-read_datagram-clause-memory c).After-from_residual)

pub returns-clause-found : goal.returns-clause-found
returns-clause-found c =
    is_found c.args.federation c.args.bytes.now c.in_ok-read_datagram.field-0
    (λ i. omega (arith, c.type_inv.bytes i)) c.if-bytes-lt-FRONT.false
    (c.if-not-is_ours.ensures.0 refl) c.in_ok-read_datagram.ensures.gives

pub returns-clause-only : goal.returns-clause-only
returns-clause-only c =
    ok_only c.args.federation c.args.bytes.now c.in_ok-read_datagram.field-0
    c.in_ok-read_datagram.ensures.gives

pub returns-clause-malformed : goal.returns-clause-malformed
returns-clause-malformed c =
    ok_malformed c.args.federation c.args.bytes.now c.in_ok-read_datagram.field-0
    c.if-bytes-lt-FRONT.false (returns-clause-found c)

pub returns-clause-message : goal.returns-clause-message
returns-clause-message c =
    (message_of-is c.args.federation c.args.bytes.now (λ i. omega (arith, c.type_inv.bytes i))
    c.in_ok-read_datagram.field-0).0 (returns-clause-found c)
