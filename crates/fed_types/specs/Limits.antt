-- The limits, as numbers. The code has its own constants and types, which `limits_law` and the
-- contracts of the types hold to these.
use Rattle.std.specs.Prelude.{ℕ, ◌-◌, ◌^◌}

-- the bits of a federation's number, a field of eight bytes
abbrev pub federation_bits : ℕ
federation_bits = 64

-- the greatest number of a federation; the least is 0
abbrev pub greatest_federation : ℕ
greatest_federation = 2 ^ federation_bits - 1

-- the greatest number of a site, so that a set of sites is a word of 64 bits; the least is 1
abbrev pub greatest_site : ℕ
greatest_site = 63

-- the most members of a federation: as many as there are numbers of sites; the fewest is 1
abbrev pub most_members : ℕ
most_members = 63

-- the greatest weight of a member, so that a weight is a byte; the least is 1
abbrev pub greatest_weight : ℕ
greatest_weight = 255

-- the most bytes of an object's name, so that its length is a byte; the fewest is 1
abbrev pub longest_object : ℕ
longest_object = 200

-- the bits of a ballot's round, a field of four bytes
abbrev pub round_bits : ℕ
round_bits = 32

-- the greatest round of a ballot; the least is 1
abbrev pub greatest_round : ℕ
greatest_round = 2 ^ round_bits - 1

-- the bits of an object's version, a field of four bytes
abbrev pub version_bits : ℕ
version_bits = 32

-- the greatest version of an object; the least is 1
abbrev pub greatest_version : ℕ
greatest_version = 2 ^ version_bits - 1

-- the bytes of a bag's identity: those of a SHA-512 (FIPS 180-4)
abbrev pub bag_len : ℕ
bag_len = 64
