-- A name or a path as one word of a line: percent-encoded (URL Standard, 1.3), so that no space, no
-- control and no end of a line is in it.
use Rattle.std.specs.Prelude.{ℕ, ◌+◌, ◌-◌, ◌/◌, ◌%◌, nat_le, nat_lt}
use Rattle.std.specs.Prelude.{Bool, ◌||◌, ◌==◌, if◌then◌else◌, List, [], ◌∷◌}
use Rattle.std.specs.List.{flat_map}

-- the bytes that are escaped: 00 to 20, which are controls and the space, 25, the percent sign, and
-- 7F and all above it
abbrev pub is_escaped : ℕ → Bool
is_escaped byte = nat_le byte 0x20 || byte == 0x25 || nat_le 0x7F byte

-- the hex digit of this value: 0 to 9, and A to F as capitals
abbrev pub capital_digit : ℕ → ℕ
capital_digit value = if nat_lt value 10 then 0x30 + value else 0x41 + (value - 10)

-- the percent sign and the byte's two hex digits
abbrev pub escape_of : ℕ → List ℕ
escape_of byte = 0x25 ∷ capital_digit (byte / 16) ∷ capital_digit (byte % 16) ∷ []

abbrev pub printed_byte : ℕ → List ℕ
printed_byte byte = if is_escaped byte then escape_of byte else byte ∷ []

-- the bytes of a text, each as it is or escaped
unfoldable pub escaped_text : List ℕ → List ℕ
escaped_text text = flat_map printed_byte text
