use Rattle.std.proofs.Common.{◌≡◌, sym, ◌∙◌}
use Rattle.addresses.specs.Addresses.{host_of, port_of}
use Rattle.addresses.proofs.SocketLemmas.{host_is, port_is, socket_v4, socket_v6}
use Rattle.addresses.proofs.address.Address.to_socket.Goals as goal
use Rattle.addresses.proofs.address.Address.to_socket.Goals.{then-is_ipv4, else-is_ipv4}

pub returns : goal.returns
returns c =
    let host : host_of c.args.self ≡ c.self.inside.host =
    rw (← c.self.view_is)
    (host_is c.self.inside.host c.self.inside.port c.self.invariant.1) in
    let port : port_of c.args.self ≡ c.self.inside.port =
    rw (← c.self.view_is)
    (port_is c.self.inside.host c.self.inside.port c.self.invariant.1) in
    elim c.if-is_ipv4.branch [
      | then-is_ipv4 w ↦
          socket_v4 c.new.result w.from_bits.result c.args.self
          (sym c.is_ipv4.ensures ∙ w.if-is_ipv4.true) (rw host w.from_bits.ensures)
          (c.new.ensures.ip ∙ w.host-is) (c.new.ensures.port ∙ sym port)
      | else-is_ipv4 w ↦
          socket_v6 c.new.result w.from_bits-else-is_ipv4.result c.args.self
          (sym c.is_ipv4.ensures ∙ w.if-is_ipv4.false) (rw host w.from_bits-else-is_ipv4.ensures)
          (c.new.ensures.ip ∙ w.host-is) (c.new.ensures.port ∙ sym port) c.new.ensures.flowinfo
          c.new.ensures.scope_id
    ]
