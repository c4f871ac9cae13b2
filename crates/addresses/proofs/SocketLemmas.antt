-- An address and the socket that std has of it.
use Rattle.std.proofs.Common.{◌≡◌, ℕ, ◌%◌, ◌^◌, true, false}
use Rattle.std.proofs.Common.{arith}
use Rattle.std.specs.Int.{w32, w128, to_be_bytes}
use Rattle.std.specs.declared.net.ipv4_addr.Ipv4Addr.{Ipv4Addr}
use Rattle.std.specs.declared.net.ipv6_addr.Ipv6Addr.{Ipv6Addr}
use Rattle.std.specs.declared.net.ip_addr.IpAddr.TheVariants as Ip
use Rattle.std.specs.declared.net.socket_addr.SocketAddr.{SocketAddr}
use Rattle.std.specs.declared.net.socket_addr.SocketAddr.TheVariants.{V4, V6}
use Rattle.std.specs.Net.Addr.{IsIpv4OfBits, IsIpv6OfBits}
use Rattle.std.specs.Net.Addr.{ipv4_octets, ipv6_segments, segments_of}
use Rattle.std.specs.Net.Socket.{socket_ip, socket_port, socket_flowinfo, socket_scope_id}
use Rattle.std.specs.Net.Socket.{v4_ip, v6_ip}
use Rattle.addresses.specs.Addresses.{IsPort, address_of, host_of, port_of}
use Rattle.addresses.specs.Texts.{is_ipv4, socket_of}

-- ---- from an address to its socket

-- the host and the port of an address
pub host_is : (host port : ℕ) → IsPort port → host_of (address_of host port) ≡ host
host_is host port fits = omega (arith, fits)

pub port_is : (host port : ℕ) → IsPort port → port_of (address_of host port) ≡ port
port_is host port fits = omega (arith, fits)

-- the socket of a host of IPv4
pub socket_v4 : (s : SocketAddr) (ip : Ipv4Addr) (a : ℕ) → is_ipv4 a ≡ true
    → IsIpv4OfBits ip (host_of a % 2 ^ 32) → socket_ip s ≡ Ip.V4 ip → socket_port s ≡ port_of a
    → s ≡ socket_of a
unfolding socket_of IsIpv4OfBits
socket_v4 (V6 s) ip a mapped bits has port = absurd (cc has)
socket_v4 (V4 s) ip a mapped bits has port =
    let same : v4_ip s ≡ ip = cc in
    let octets : ipv4_octets (v4_ip s) ≡ to_be_bytes w32 (host_of a % 2 ^ 32) = rw same bits in
    rw mapped (λ i. V4 (record { ip = record { octets = octets i }; port = port i }))

-- that of a host of IPv6
pub socket_v6 : (s : SocketAddr) (ip : Ipv6Addr) (a : ℕ) → is_ipv4 a ≡ false
    → IsIpv6OfBits ip (host_of a) → socket_ip s ≡ Ip.V6 ip → socket_port s ≡ port_of a
    → socket_flowinfo s ≡ 0 → socket_scope_id s ≡ 0 → s ≡ socket_of a
unfolding socket_of IsIpv6OfBits
socket_v6 (V4 s) ip a other bits has port flow scope = absurd (cc has)
socket_v6 (V6 s) ip a other bits has port flow scope =
    let same : v6_ip s ≡ ip = cc in
    let segments : ipv6_segments (v6_ip s) ≡ segments_of (to_be_bytes w128 (host_of a)) =
    rw same bits in
    rw other (λ i. V6 (record {
      ip = record { segments = segments i };
      port = port i;
      flowinfo = flow i;
      scope_id = scope i;
    }))
