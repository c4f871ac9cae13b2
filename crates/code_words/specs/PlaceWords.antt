-- Why a word is neither a port nor an address that a members file takes.
use Rattle.std.specs.Prelude.{◌≡◌, ℕ, ◌/◌, ◌^◌, ◌==◌, Bool, true, false, not, ◌&&◌}
use Rattle.std.specs.Prelude.{if◌then◌else◌, List, [], ◌∷◌, ◌++◌, codes, Option, None, Some}
use Rattle.std.specs.Char.{is_ascii_alphabetic}
use Rattle.std.specs.Fmt.{decimal}
use Rattle.std.specs.List.{list_any, before_last, after_last}
use Rattle.std.specs.Net.Addr.{ipv4_bits, ipv6_bits}
use Rattle.std.specs.Net.Grammar.{IsIpText, IsSocketText}
use Rattle.std.specs.Net.Socket.{v6_scope_id, socket_ip}
use Rattle.std.specs.Net.Text.{ip_text}
use Rattle.std.specs.Str.Parse.{without_leading_plus}
use Rattle.std.specs.declared.net.ip_addr.IpAddr.{IpAddr}
use Rattle.std.specs.declared.net.ip_addr.IpAddr.TheVariants as host
use Rattle.std.specs.declared.net.ipv6_addr.Ipv6Addr.{Ipv6Addr}
use Rattle.std.specs.declared.net.socket_addr.SocketAddr.{SocketAddr}
use Rattle.std.specs.declared.net.socket_addr.SocketAddr.TheVariants as socket
use Rattle.addresses.specs.Addresses.{port_of}
use Rattle.addresses.specs.Texts.{is_ipv4, is_listable, of_socket, socket_of, text_of}
use Rattle.tokens.specs.Words.{number_in}
use Rattle.code_words.specs.FileKinds.{begins}
use Rattle.code_words.specs.Words.{found_text}

-- ---- an address and a port

-- the zone of an address of IPv6
abbrev pub has_zone : SocketAddr → Bool
has_zone (socket.V4 a) = false
has_zone (socket.V6 a) = not (v6_scope_id a == 0)

-- it stands as an address of IPv4
abbrev pub is_v4 : SocketAddr → Bool
is_v4 (socket.V4 a) = true
is_v4 (socket.V6 a) = false

-- `::` or 0.0.0.0
abbrev pub is_unspecified : IpAddr → Bool
is_unspecified (host.V4 a) = ipv4_bits a == 0
is_unspecified (host.V6 a) = ipv6_bits a == 0

-- 224.0.0.0/4 or ff00::/8
abbrev pub is_multicast : IpAddr → Bool
is_multicast (host.V4 a) = ipv4_bits a / 2 ^ 28 == 0b1110
is_multicast (host.V6 a) = ipv6_bits a / 2 ^ 120 == 0xff

-- of which kind a host's address is that isn't one host's
abbrev pub host_kind_words : IpAddr → List ℕ
host_kind_words host =
    if is_unspecified host then codes " has the unspecified address, which is no host's"
    else if is_multicast host then codes " has a multicast address, which is no one host's"
    else codes " has the broadcast address, which is no one host's"

-- the form of an address that may be listed
abbrev pub form_words : (socket : SocketAddr) → (address : ℕ) → List ℕ
form_words socket address =
    if is_ipv4 address && not (is_v4 socket)
    then codes " is an address of IPv4, mapped; write " ++ text_of address
    else codes " isn't in the one form of this address; write " ++ text_of address

-- why an address can't be taken as it stands
abbrev pub address_words : (socket : SocketAddr) → (address : ℕ) → List ℕ
address_words socket address =
    if port_of address == 0 then codes " has port 0; a port is 1 to 65535"
    else if is_listable address then form_words socket address
    else host_kind_words (socket_ip (socket_of address))

unfoldable pub socket_words : SocketAddr → List ℕ
socket_words socket =
    if has_zone socket
    then codes " has a zone, which says nothing at another machine; leave it out"
    else address_words socket (of_socket socket)

-- ---- a host without a port

-- a port's number, as it stands after the last colon
abbrev pub port_in : List ℕ → Option ℕ
port_in word =
    number_in 0 65535 (without_leading_plus (after_last (λ byte. byte == 58) word))

-- the word may be meant as this host, a colon, and this port
abbrev pub IsHostAndPort : (word : List ℕ) → IpAddr × ℕ → Type 0
IsHostAndPort word meant =
    (list_any (λ byte. byte == 58) word ≡ true)
    × IsIpText (before_last (λ byte. byte == 58) word) meant.0 × (port_in word ≡ Some meant.1)

-- what it may be meant as, if anything
abbrev pub IsMeantBy : (word : List ℕ) → Option (IpAddr × ℕ) → Type 0
IsMeantBy word (Some meant) = IsHostAndPort word meant
IsMeantBy word None = (meant : IpAddr × ℕ) → ¬ IsHostAndPort word meant

-- how the address of a host of IPv6 is written with a port
abbrev pub ipv6_words : Ipv6Addr → (meant : Option (IpAddr × ℕ)) → List ℕ
ipv6_words a None = codes " has no port; write [" ++ (ip_text (host.V6 a) ++ codes "]:PORT")
ipv6_words a (Some meant) =
    codes " isn't in brackets; write [" ++ (ip_text meant.0 ++ (codes "]:" ++ (decimal meant.1
    ++ (codes ", or [" ++ (ip_text (host.V6 a) ++ codes "]:PORT if all of it is the host")))))

-- and that of any host
abbrev pub host_words : IpAddr → (meant : Option (IpAddr × ℕ)) → List ℕ
host_words (host.V4 a) meant =
    codes " has no port; write " ++ (ip_text (host.V4 a) ++ codes ":PORT")
host_words (host.V6 a) meant = ipv6_words a meant

-- ---- any other word

-- it seems to be a host's name: an address of IPv6 is in brackets
abbrev pub is_name : List ℕ → Bool
is_name word = not (begins word (codes "[")) && list_any is_ascii_alphabetic word

-- it has this byte
abbrev pub has : ℕ → List ℕ → Bool
has byte word = list_any (λ it. it == byte) word

abbrev pub other_words : List ℕ → List ℕ
other_words word =
    if not (has 58 word) && not (has 46 word) then codes " isn't a port, 1 to 65535"
    else if is_name word
    then codes " names a host, and a name may lead elsewhere tomorrow; give its address"
    else codes " isn't an address and a port, as 192.0.2.1:4001 or [2001:db8::1]:4001"

-- ---- words

-- the word is no address with a port
abbrev pub IsNoSocket : List ℕ → Type 0
IsNoSocket word = (socket : SocketAddr) → ¬ IsSocketText word socket

-- these words say why the word is no place
pub data IsReason : (word words : List ℕ) → Type 0 where
  by_socket : (word words : List ℕ) (socket : SocketAddr) → IsSocketText word socket
      → words ≡ socket_words socket → IsReason word words
  by_host : (word words : List ℕ) (host : IpAddr) (meant : Option (IpAddr × ℕ))
      → IsNoSocket word → IsIpText word host → IsMeantBy word meant
      → words ≡ host_words host meant → IsReason word words
  by_neither : (word words : List ℕ) → IsNoSocket word
      → ((host : IpAddr) → ¬ IsIpText word host) → words ≡ other_words word
      → IsReason word words

-- the word as it is shown, and then why it is no place
abbrev pub AppendsReason : (word old new : List ℕ) → Type 0
AppendsReason word old new =
    (words : List ℕ) × IsReason word words × (new ≡ old ++ (found_text (word ∷ []) ++ words))
