use Rattle.std.specs.Prelude.{◌≡◌}
use Rattle.udp_site.proofs.paced_socket.PacedSocket.wait_for.Given as goal

abbrev pub invariant-loop : goal.invariant-loop
invariant-loop g l = l.own.address ≡ l.fn.own.address
