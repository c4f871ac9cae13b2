-- The ranges of the numbers in a schedule, beside those that `fed_types` gives members, objects and
-- versions.
use Rattle.std.specs.Prelude.{ℕ}

-- S is 0 to this, which fits a byte: whether it is a member is checked when the schedule runs
abbrev pub greatest_site : ℕ
greatest_site = 255

-- T is 1 to this, which fits four bytes: more trees than a schedule has lines to declare
abbrev pub greatest_tree : ℕ
greatest_tree = 4294967295

-- K, J and the N of `pump` are 0 to this, which fits four bytes: the number of a datagram or of a
-- pump's turns, and how many bytes are kept or datagrams sent
abbrev pub greatest_amount : ℕ
greatest_amount = 4294967295
