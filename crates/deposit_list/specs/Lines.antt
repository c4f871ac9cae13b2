-- What is said of a deposit.
use Rattle.std.specs.Prelude.{ℕ, List, [], ◌∷◌, ◌++◌, codes}
use Rattle.std.specs.Fmt.{decimal}
use Rattle.fed_types.specs.Slots.{SlotName}
use Rattle.lines.specs.declared.notice.Notice.TheVariants as notices
use Rattle.site_client.specs.Answers.{said}
use Rattle.tokens.specs.Written.{slot_text}
use Rattle.catch_up.specs.Lines.{known_line, open_line}
use Rattle.deposit_list.specs.declared.entry.Entry.{Entry}
use Rattle.deposit_list.specs.declared.standing.Standing.{Standing}
use Rattle.deposit_list.specs.declared.standing.Standing.TheVariants.{Unsent, Unanswered}
use Rattle.deposit_list.specs.declared.standing.Standing.TheVariants.{Registered, Refused, Known}

-- `refused N CODE OBJ V`
unfoldable pub refused_line : (site code : ℕ) → SlotName → List ℕ
refused_line site code slot =
    codes "refused " ++ (decimal site ++ (32 ∷ (decimal code ++ (32 ∷ (slot_text slot ++ 10 ∷ [])))))

-- by how it stands with this site: `open OBJ V`, `registered N OBJ V HEX`, `refused N CODE OBJ V`,
-- `known OBJ V HEX` or `other OBJ V HEX HEX`
abbrev pub line_by : (site : ℕ) → SlotName → Standing → List ℕ
line_by site slot Unsent = open_line slot
line_by site slot Unanswered = open_line slot
line_by site slot (Registered bag) = (said (notices.Registered site slot bag)).text
line_by site slot (Refused code) = refused_line site code slot
line_by site slot (Known known bag) = known_line slot known bag

abbrev pub entry_line : (site : ℕ) → Entry → List ℕ
entry_line site entry = line_by site entry.deposit.now.slot entry.standing
