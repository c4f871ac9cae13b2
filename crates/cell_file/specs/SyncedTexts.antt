-- The file beside a cell, by which its site says how many of the cell's first bytes are synced. For
-- a cell at PATH it is PATH.synced. Its layout is a number of 64 bits, big-endian, and the checksum
-- of these 8 bytes, as a record has one: 16 bytes in all. docs/FORMATS.md has it.
use Rattle.std.specs.Prelude.{ℕ, List, ◌++◌, codes}
use Rattle.std.specs.Int.{w64, to_be_bytes}
use Rattle.fields.specs.Checksums.{with_checksum}

-- the path of the file beside the cell of this path
abbrev pub path_beside : List ℕ → List ℕ
path_beside path = path ++ codes ".synced"

-- the bytes of the file that says this length
abbrev pub synced_text : ℕ → List ℕ
synced_text length = with_checksum (to_be_bytes w64 length)
