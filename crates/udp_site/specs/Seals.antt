-- What a port with keys hands on of what comes.
use Rattle.std.specs.Prelude.{ℕ, List, [], Option, Some, None, unwrap_or}
use Rattle.tags.specs.Rings.{Ring, opened_by}

-- What is handed on of what came: all of it, or with keys what is before a right tag. Where the tag
-- isn't right, it is a datagram of no bytes.
abbrev pub handed_on : Option Ring → List ℕ → List ℕ
handed_on None bytes = bytes
handed_on (Some ring) bytes = unwrap_or (opened_by ring bytes) []
