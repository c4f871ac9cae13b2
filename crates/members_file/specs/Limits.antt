-- The ranges of the numbers in a members file, beside those that `fed_types` gives the number of a
-- federation and the weight of a member.
use Rattle.std.specs.Prelude.{ℕ}
use Rattle.fed_types.specs.Limits.{most_members}

-- the most sites of a members file: as many as a federation may have; the fewest is 1
abbrev pub most_sites : ℕ
most_sites = most_members

-- the greatest port (RFC 768: a field of two bytes); the least is 1
abbrev pub greatest_port : ℕ
greatest_port = 65535
