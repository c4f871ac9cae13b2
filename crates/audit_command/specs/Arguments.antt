-- What the arguments of the command ask for.
use Rattle.std.specs.Prelude.{◌≡◌, ℕ, Bool, true, false, List, [], map, codes, Option, Some, None}
use Rattle.std.specs.Prelude.{option_map}
use Rattle.clap.specs.declared.parser.matches.Found.{Found}
use Rattle.clap.specs.Matches.{first_value, matched_of, one_text, raw_values}
use Rattle.audit_command.specs.declared.arguments.AuditTask.{AuditTask}

-- the values that there are, if there are any
abbrev pub all_of : Option (List (List ℕ)) → List (List ℕ)
all_of None = []
all_of (Some values) = values

-- the values of an argument
abbrev pub values_of : Found → (name : List ℕ) → List (List ℕ)
values_of found name = all_of (option_map raw_values (matched_of found name))

-- whether a flag is given
pub record IsFlag (found : Found) (name : List ℕ) (flag : Bool) : Type 0 where
  pub absent : one_text found name ≡ None → flag ≡ false
  pub yes : one_text found name ≡ Some (codes "true") → flag ≡ true
  pub no : one_text found name ≡ Some (codes "false") → flag ≡ false

-- these cells, by the list of these members, in JSON or not, and in words or not
pub record IsTaskOf (found : Found) (task : AuditTask) : Type 0 where
  pub members : first_value found (codes "members") ≡ Some task.members.now
  pub cells : map (λ path. path.now) task.cells.items ≡ values_of found (codes "CELL")
  pub json : IsFlag found (codes "json") task.json
  pub words : IsFlag found (codes "words") task.words

-- what they ask for: nothing, if they name no members
abbrev pub IsTaskIn : Found → Option AuditTask → Type 0
IsTaskIn found None = first_value found (codes "members") ≡ None
IsTaskIn found (Some task) = IsTaskOf found task
