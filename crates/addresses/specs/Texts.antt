-- The one text of an address, and which addresses a members file may list.
use Rattle.std.specs.Prelude.{◌≡◌, ℕ, zero, suc, ◌+◌, ◌/◌, ◌%◌, ◌^◌, ◌<◌}
use Rattle.std.specs.Prelude.{Bool, true, ◌==◌, ◌&&◌, ◌||◌, not, if◌then◌else◌}
use Rattle.std.specs.Prelude.{List, Option, Some, None}
use Rattle.std.specs.Str.{bytes_eq}
use Rattle.std.specs.Int.{w32, w128, to_be_bytes}
use Rattle.std.specs.declared.net.socket_addr.SocketAddr.{SocketAddr}
use Rattle.std.specs.declared.net.socket_addr.SocketAddr.TheVariants.{V4, V6}
use Rattle.std.specs.Net.Addr.{ipv4_bits, ipv6_bits, segments_of}
use Rattle.std.specs.Net.Socket.{v4_ip, v4_port, v6_ip, v6_port}
use Rattle.std.specs.Net.Text.{socket_text}
use Rattle.addresses.specs.Addresses.{address_of, host_of, port_of}

-- how many addresses there are
abbrev pub ADDRESSES : ℕ
ADDRESSES = 2 ^ 144

-- 0.0.0.0, as it is mapped; the other hosts of IPv4 come after it
abbrev pub MAPPED : ℕ
MAPPED = 0xffff00000000

-- whether the host is of IPv4
abbrev pub is_ipv4 : ℕ → Bool
is_ipv4 address = host_of address / 2 ^ 32 == 0xffff

-- The address as std has it: of IPv4 by the four last bytes of the host, of IPv6 by its eight
-- segments of two bytes, with no flow and no zone.
unfoldable pub socket_of : ℕ → SocketAddr
socket_of address =
    if is_ipv4 address
    then V4 (record {
      ip = record { octets = to_be_bytes w32 (host_of address % 2 ^ 32) };
      port = port_of address;
    })
    else V6 (record {
      ip = record { segments = segments_of (to_be_bytes w128 (host_of address)) };
      port = port_of address;
      flowinfo = 0;
      scope_id = 0;
    })

-- and the address that it is, whatever its flow and its zone
unfoldable pub of_socket : SocketAddr → ℕ
of_socket (V4 a) = address_of (MAPPED + ipv4_bits (v4_ip a)) (v4_port a)
of_socket (V6 a) = address_of (ipv6_bits (v6_ip a)) (v6_port a)

-- The text of an address, as std's `Display` writes it: `a.b.c.d:port`, or `[host]:port` with the
-- host in the form that RFC 5952 recommends (section 4).
unfoldable pub text_of : ℕ → List ℕ
text_of address = socket_text (socket_of address)

-- `::` or 0.0.0.0 (RFC 4291, 2.5.2; RFC 1122, 3.2.1.3)
abbrev pub is_unspecified : ℕ → Bool
is_unspecified host = host == 0 || host == MAPPED

-- ff00::/8 or 224.0.0.0/4 (RFC 4291, 2.7; RFC 1112, 4)
abbrev pub is_multicast : ℕ → Bool
is_multicast host =
    host / 2 ^ 120 == 0xff || (host / 2 ^ 32 == 0xffff && host / 2 ^ 28 % 2 ^ 4 == 0b1110)

-- 255.255.255.255 (RFC 1122, 3.2.1.3)
abbrev pub is_broadcast : ℕ → Bool
is_broadcast host = host == MAPPED + 0xffffffff

-- whether a members file may list an address: it is a port of one host
unfoldable pub is_listable : ℕ → Bool
is_listable address =
    not (port_of address == 0) && not (is_unspecified (host_of address))
    && not (is_multicast (host_of address)) && not (is_broadcast (host_of address))

-- the text is that of an address that may be listed
pub record IsTextOf (text : List ℕ) (address : ℕ) : Type 0 where
  pub in_range : address < ADDRESSES
  pub listable : is_listable address ≡ true
  pub written : text ≡ text_of address

-- the address below this one whose text this is, if one that may be listed is
unfoldable pub address_below : ℕ → List ℕ → Option ℕ
address_below zero text = None
address_below (suc address) text =
    if is_listable address && bytes_eq text (text_of address)
    then Some address
    else address_below address text

-- the same of all addresses
unfoldable pub address_in : List ℕ → Option ℕ
address_in text = address_below ADDRESSES text
