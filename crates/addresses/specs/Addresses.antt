-- Addresses as numbers.
use Rattle.std.specs.Prelude.{ℕ, Bool, ◌==◌, ◌+◌, ◌*◌, ◌/◌, ◌%◌, ◌^◌, ◌<◌}

-- how many ports a host has (RFC 768: a field of two bytes)
abbrev pub PORTS : ℕ
PORTS = 65536

-- a host's address is of 16 bytes, and a port of two
abbrev pub IsHost : ℕ → Type 0
IsHost host = host < 2 ^ 128

abbrev pub IsPort : ℕ → Type 0
IsPort port = port < PORTS

-- An address and a port as one number: the 16 bytes of the host's address of IPv6 (RFC 4291), and
-- then the two of the port. A host of IPv4 is the IPv4-mapped one, `::ffff:a.b.c.d` (2.5.5.2).
abbrev pub address_of : (host port : ℕ) → ℕ
address_of host port = host * PORTS + port

-- the host, and the port
abbrev pub host_of : ℕ → ℕ
host_of address = address / PORTS

abbrev pub port_of : ℕ → ℕ
port_of address = address % PORTS

-- 127.0.0.1, as it is mapped: 0xffff, and four bytes
abbrev pub THIS_MACHINE : ℕ
THIS_MACHINE = 0xffff7f000001

-- a port of this machine
abbrev pub at_port : (port : ℕ) → ℕ
at_port port = address_of THIS_MACHINE port

-- the host is this machine
abbrev pub is_on_this_machine : ℕ → Bool
is_on_this_machine address = host_of address == THIS_MACHINE
