-- How often a port hands a client's Recover on to its site: once in a pause for each version.
-- Moments are microseconds of its clock.
use Rattle.std.specs.Prelude.{ℕ, ◌-◌, ◌&&◌, nat_lt, Bool, List, length, get_or, set, replicate}
use Rattle.std.specs.Prelude.{if◌then◌else◌}
use Rattle.udp_site.specs.declared.recoveries.Recoveries.{Recoveries}
use Rattle.udp_site.specs.Signs.{is_recover}

-- Versions fall into so many classes, of which each has a limit of its own. Those of one class
-- share it: so each version has it, and those that share it wait for each other at most.
abbrev pub CLASSES : ℕ
CLASSES = 256

-- The class of a datagram is its last byte, which is one of its checksum: whoever sends a Recover
-- of a version sends the same bytes, and few other versions have the same last one.
abbrev pub class_of : List ℕ → ℕ
class_of bytes = get_or bytes (length bytes - 1) 0

-- a port begins as if one of each class had been handed on at the moment 0
abbrev pub none_handed_on : Recoveries
none_handed_on = record { handed_on = replicate CLASSES 0 }

-- when the last one of its class was handed on
abbrev pub last_of : Recoveries → List ℕ → ℕ
last_of recoveries bytes = get_or recoveries.handed_on (class_of bytes) 0

-- It is a Recover, and fewer microseconds than the pause have passed since that moment. Then it
-- isn't handed on: the port waits on as if nothing had come.
abbrev pub is_early : Recoveries → (pause now : ℕ) → List ℕ → Bool
is_early recoveries pause now bytes =
    is_recover bytes && nat_lt (now - last_of recoveries bytes) pause

-- a datagram is handed on
abbrev pub hands_on : Recoveries → (now : ℕ) → List ℕ → Recoveries
hands_on recoveries now bytes =
    if is_recover bytes
    then record { handed_on = set recoveries.handed_on (class_of bytes) now }
    else recoveries
