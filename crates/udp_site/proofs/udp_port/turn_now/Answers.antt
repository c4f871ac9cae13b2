use Rattle.std.proofs.Common.{sym, subst, ◌∙◌, ℕ, List, IfSome, Option}
use Rattle.udp_site.specs.declared.paced_socket.End.{End}
use Rattle.udp_site.specs.inner.Paced.{EndsWait}
use Rattle.udp_site.proofs.Buffers.{all_read}
use Rattle.udp_site.proofs.udp_port.turn_now.Goals as goal

pub turn_of-requires : goal.turn_of-requires
turn_of-requires g c =
    let was = c.args.socket.now in
    let bytes = c.in_ok-bytes.bytes in
    record {
      ends =
          subst (λ (buffer : List ℕ). EndsWait was.pace was.recoveries buffer c.in-Some.end)
          (sym (all_read bytes.len c.look_for.new.buffer bytes.items
          (c.look_for.auto.buffer ∙ c.deref_mut.ensures.len)))
          (subst (λ (got : Option End). IfSome got (EndsWait was.pace was.recoveries
          c.look_for.new.buffer)) c.in-Some.is c.in_ok-end.ensures.ends);
    }
