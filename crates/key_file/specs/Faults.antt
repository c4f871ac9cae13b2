-- What is read of a key file.
use Rattle.std.specs.Prelude.{◌≡◌, ⊤, ℕ, List, Ok, Err}
use Rattle.tags.specs.Rings.{Ring}
use Rattle.key_file.specs.declared.key_fault.KeyFault.{KeyFault}
use Rattle.key_file.specs.declared.key_fault.KeyFault.TheVariants.{Line, Memory}
use Rattle.key_file.specs.declared.key_line.KeyLine.{KeyLine}
use Rattle.key_file.specs.Files.{keys_in, ring_with}

-- the text says these keys
abbrev pub IsTextOf : List ℕ → List KeyLine → Type 0
IsTextOf text keys = keys_in text ≡ Ok keys

-- the ring of the keys that the text says
abbrev pub IsRingOf : List ℕ → Ring → Type 0
IsRingOf text ring = (keys : List KeyLine) × IsTextOf text keys × (ring ≡ ring_with keys)

-- the fault is the text's own, or it is that memory ran out
abbrev pub IsFaultOf : List ℕ → KeyFault → Type 0
IsFaultOf text (Line number) = keys_in text ≡ Err number
IsFaultOf text Memory = ⊤
