-- The grammar of lines: the tokens of each command, in order.
use Rattle.std.specs.Prelude.{◌≡◌, ℕ, List, [], ◌∷◌, ◌++◌, map, replicate, codes, ◌⊎◌}
use Rattle.fed_types.specs.Limits.{greatest_federation, most_members, greatest_weight}
use Rattle.fed_types.specs.Limits.{greatest_version}
use Rattle.fed_types.specs.Sites.{Membership, count_of}
use Rattle.fed_types.specs.Slots.{SlotName}
use Rattle.schedule.specs.declared.call.Call.{Call}
use Rattle.schedule.specs.declared.call.Call.TheVariants.{Deposit, Propose, Recover, Deliver, Ask}
use Rattle.schedule.specs.declared.command.Command.{Command}
use Rattle.schedule.specs.declared.command.Command.TheVariants as commands
use Rattle.schedule.specs.declared.fate.DeviceCall.{DeviceCall}
use Rattle.schedule.specs.declared.fate.DeviceCall.TheVariants.{Append, Sync}
use Rattle.schedule.specs.declared.fate.Fate.{Fate}
use Rattle.schedule.specs.declared.fate.Fate.TheVariants.{Whole, StopsIn, StopsAfter, FailsIn}
use Rattle.schedule.specs.Limits.{greatest_site, greatest_tree, greatest_amount}
use Rattle.schedule.specs.Tokens.{Token, Keyword, Number, Text, Object, Hex, AreWordsFor}

-- S, TO
abbrev pub site_token : ℕ → Token
site_token s = Number 0 greatest_site s

-- T
abbrev pub tree_token : ℕ → Token
tree_token t = Number 1 greatest_tree t

-- K, J, and the N of `pump`
abbrev pub amount_token : ℕ → Token
amount_token n = Number 0 greatest_amount n

-- OBJ V
abbrev pub slot_tokens : SlotName → List Token
slot_tokens slot = Object slot.object ∷ Number 1 greatest_version slot.version ∷ []

-- `1` for the append, `2` for the sync
abbrev pub device_token : DeviceCall → Token
device_token Append = Keyword (codes "1")
device_token Sync = Keyword (codes "2")

-- nothing, `stop 1 K` or `stop 2 K`, `stop 3 J`, `fail 1 K` or `fail 2 K`
abbrev pub fate_tokens : Fate → List Token
fate_tokens Whole = []
fate_tokens (StopsIn device kept) =
    Keyword (codes "stop") ∷ device_token device ∷ amount_token kept ∷ []
fate_tokens (StopsAfter sent) =
    Keyword (codes "stop") ∷ Keyword (codes "3") ∷ amount_token sent ∷ []
fate_tokens (FailsIn device kept) =
    Keyword (codes "fail") ∷ device_token device ∷ amount_token kept ∷ []

-- `deposit S T OBJ V`, `propose S OBJ V`, `recover S OBJ V`, `deliver K`, `ask S TO OBJ V`
abbrev pub call_tokens : Call → List Token
call_tokens (Deposit s t slot) =
    Keyword (codes "deposit") ∷ site_token s ∷ tree_token t ∷ slot_tokens slot
call_tokens (Propose s slot) = Keyword (codes "propose") ∷ site_token s ∷ slot_tokens slot
call_tokens (Recover s slot) = Keyword (codes "recover") ∷ site_token s ∷ slot_tokens slot
call_tokens (Deliver k) = Keyword (codes "deliver") ∷ amount_token k ∷ []
call_tokens (Ask s to slot) =
    Keyword (codes "ask") ∷ site_token s ∷ site_token to ∷ slot_tokens slot

-- `tree T`, `folder T`, `file T PATH HEX`, a call and its fate, `query S OBJ V`, `raw S HEX`,
-- `pump N`, `stop S`, `start S`
abbrev pub command_tokens : Command → List Token
command_tokens (commands.Tree t) = Keyword (codes "tree") ∷ tree_token t ∷ []
command_tokens (commands.Folder t) = Keyword (codes "folder") ∷ tree_token t ∷ []
command_tokens (commands.File t path content) =
    Keyword (codes "file") ∷ tree_token t ∷ Text path ∷ Hex content ∷ []
command_tokens (commands.Call call fate) = call_tokens call ++ fate_tokens fate
command_tokens (commands.Query s slot) =
    Keyword (codes "query") ∷ site_token s ∷ slot_tokens slot
command_tokens (commands.Raw s bytes) =
    Keyword (codes "raw") ∷ site_token s ∷ Hex bytes ∷ []
command_tokens (commands.Pump turns) = Keyword (codes "pump") ∷ amount_token turns ∷ []
command_tokens (commands.Stop s) = Keyword (codes "stop") ∷ site_token s ∷ []
command_tokens (commands.Start s) = Keyword (codes "start") ∷ site_token s ∷ []

-- `federation F N`, and these weights after it
abbrev pub federation_tokens : Membership → List ℕ → List Token
federation_tokens m weights =
    Keyword (codes "federation")
    ∷ Number 0 greatest_federation m.federation
    ∷ Number 1 most_members (count_of m)
    ∷ map (λ w. Number 1 greatest_weight w) weights

-- the words name the members: the weight of each comes last, or no weight if each is 1
abbrev pub AreWordsForMembers : List (List ℕ) → Membership → Type 0
AreWordsForMembers words m =
    AreWordsFor words (federation_tokens m m.weights)
    ⊎ (AreWordsFor words (federation_tokens m []) × (m.weights ≡ replicate (count_of m) 1))
