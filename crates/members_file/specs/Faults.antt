-- Why a text is no members file.
use Rattle.std.specs.Prelude.{ℕ, List, ⊤}
use Rattle.members_file.specs.declared.members_fault.MembersFault.{MembersFault}
use Rattle.members_file.specs.declared.members_fault.MembersFault.TheVariants.{Line, Memory}
use Rattle.members_file.specs.Files.{HasFault}

-- the fault is the text's own, or it is that memory ran out
abbrev pub IsFaultOf : List ℕ → MembersFault → Type 0
IsFaultOf text (Line number) = HasFault text number
IsFaultOf text Memory = ⊤
