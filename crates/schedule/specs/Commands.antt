-- The commands, each by its words: the function that reads a line. `Lines` has the grammar as a
-- table, and `commands_law` says that the two agree.
use Rattle.std.specs.Prelude.{ℕ, List, [], ◌∷◌, length, replicate, codes}
use Rattle.std.specs.Prelude.{◌==◌, if◌then◌else◌, Option, Some, None}
use Rattle.std.specs.Option.{option_map}
use Rattle.std.specs.Str.{bytes_eq}
use Rattle.fed_types.specs.Limits.{greatest_federation, most_members, greatest_weight}
use Rattle.fed_types.specs.Sites.{Membership, membership_of}
use Rattle.schedule.specs.declared.call.Call.{Call}
use Rattle.schedule.specs.declared.call.Call.TheVariants.{Deposit, Propose, Recover, Deliver, Ask}
use Rattle.schedule.specs.declared.command.Command.{Command}
use Rattle.schedule.specs.declared.command.Command.TheVariants as commands
use Rattle.schedule.specs.declared.fate.DeviceCall.{DeviceCall}
use Rattle.schedule.specs.declared.fate.DeviceCall.TheVariants.{Append, Sync}
use Rattle.schedule.specs.declared.fate.Fate.{Fate}
use Rattle.schedule.specs.declared.fate.Fate.TheVariants.{Whole, StopsIn, StopsAfter, FailsIn}
use Rattle.schedule.specs.Limits.{greatest_site, greatest_tree, greatest_amount}
use Rattle.tokens.specs.Slots.{slot_of}
use Rattle.tokens.specs.Words.{◌>>=◌, number_in, text_of, bytes_of}

-- S
abbrev pub site_of : List ℕ → Option ℕ
site_of word = number_in 0 greatest_site word

-- T
abbrev pub tree_of : List ℕ → Option ℕ
tree_of word = number_in 1 greatest_tree word

-- K, J, and the N of `pump`
abbrev pub amount_of : List ℕ → Option ℕ
amount_of word = number_in 0 greatest_amount word

-- W1 .. WN: the weight of each word, in order
unfoldable pub weights_in : List (List ℕ) → Option (List ℕ)
weights_in [] = Some []
weights_in (word ∷ words) = do
  w ← number_in 1 greatest_weight word
  ws ← weights_in words
  Some (w ∷ ws)

-- the weights of n members: 1 for each if no word names one, else each has a word of its own
unfoldable pub weights_of : ℕ → List (List ℕ) → Option (List ℕ)
weights_of n words =
    if length words == 0 then Some (replicate n 1)
    else if length words == n then weights_in words
    else None

-- `federation F N` or `federation F N W1 .. WN`
unfoldable pub federation_of : List (List ℕ) → Option Membership
federation_of (name ∷ federation ∷ count ∷ weights) =
    if bytes_eq name (codes "federation")
    then (do
      f ← number_in 0 greatest_federation federation
      n ← number_in 1 most_members count
      option_map (membership_of f) (weights_of n weights))
    else None
federation_of words = None

-- what the only word says: the T, N or S of `tree T`, `folder T`, `pump N`, `stop S`, `start S`
unfoldable pub only : (List ℕ → Option ℕ) → List (List ℕ) → Option ℕ
only read (word ∷ []) = read word
only read words = None

-- `file T PATH HEX`
unfoldable pub file_command : List (List ℕ) → Option Command
file_command (tree ∷ path ∷ content ∷ []) = do
  t ← tree_of tree
  p ← text_of path
  c ← bytes_of content
  Some (commands.File t p c)
file_command words = None

-- `1` is the append, `2` the sync
abbrev pub device_of : List ℕ → Option DeviceCall
device_of word =
    if bytes_eq word (codes "1") then Some Append
    else if bytes_eq word (codes "2") then Some Sync
    else None

-- `stop 1 K`, `stop 2 K` or `stop 3 J`, by its words after the first
unfoldable pub stop_of : List ℕ → List ℕ → Option Fate
stop_of at number =
    if bytes_eq at (codes "3")
    then (do
      sent ← amount_of number
      Some (StopsAfter sent))
    else (do
      device ← device_of at
      kept ← amount_of number
      Some (StopsIn device kept))

-- `fail 1 K` or `fail 2 K`, by its words after the first
unfoldable pub fail_of : List ℕ → List ℕ → Option Fate
fail_of at number = do
  device ← device_of at
  kept ← amount_of number
  Some (FailsIn device kept)

-- the fate of a call, by the words that follow the call's own: if there are none, nothing happens
-- to the site
unfoldable pub fate_of : List (List ℕ) → Option Fate
fate_of [] = Some Whole
fate_of (what ∷ at ∷ number ∷ []) =
    if bytes_eq what (codes "stop") then stop_of at number
    else if bytes_eq what (codes "fail") then fail_of at number
    else None
fate_of words = None

-- the command of a call and of the fate that these words name
unfoldable pub call_command : Call → List (List ℕ) → Option Command
call_command call words = do
  fate ← fate_of words
  Some (commands.Call call fate)

-- `deposit S T OBJ V`, and a fate
unfoldable pub deposit_command : List (List ℕ) → Option Command
deposit_command (site ∷ tree ∷ object ∷ version ∷ fate) = do
  s ← site_of site
  t ← tree_of tree
  slot ← slot_of object version
  call_command (Deposit s t slot) fate
deposit_command words = None

-- `propose S OBJ V`, and a fate
unfoldable pub propose_command : List (List ℕ) → Option Command
propose_command (site ∷ object ∷ version ∷ fate) = do
  s ← site_of site
  slot ← slot_of object version
  call_command (Propose s slot) fate
propose_command words = None

-- `recover S OBJ V`, and a fate
unfoldable pub recover_command : List (List ℕ) → Option Command
recover_command (site ∷ object ∷ version ∷ fate) = do
  s ← site_of site
  slot ← slot_of object version
  call_command (Recover s slot) fate
recover_command words = None

-- `deliver K`, and a fate
unfoldable pub deliver_command : List (List ℕ) → Option Command
deliver_command (datagram ∷ fate) = do
  k ← amount_of datagram
  call_command (Deliver k) fate
deliver_command words = None

-- `ask S TO OBJ V`, and a fate
unfoldable pub ask_command : List (List ℕ) → Option Command
ask_command (site ∷ to ∷ object ∷ version ∷ fate) = do
  s ← site_of site
  other ← site_of to
  slot ← slot_of object version
  call_command (Ask s other slot) fate
ask_command words = None

-- `query S OBJ V`
unfoldable pub query_command : List (List ℕ) → Option Command
query_command (site ∷ object ∷ version ∷ []) = do
  s ← site_of site
  slot ← slot_of object version
  Some (commands.Query s slot)
query_command words = None

-- `raw S HEX`
unfoldable pub raw_command : List (List ℕ) → Option Command
raw_command (site ∷ bytes ∷ []) = do
  s ← site_of site
  b ← bytes_of bytes
  Some (commands.Raw s b)
raw_command words = None

-- the command of these words, if they are one's
unfoldable pub command_of : List (List ℕ) → Option Command
command_of [] = None
command_of (name ∷ arguments) =
    if bytes_eq name (codes "tree")
    then option_map (λ t. commands.Tree t) (only tree_of arguments)
    else if bytes_eq name (codes "folder")
    then option_map (λ t. commands.Folder t) (only tree_of arguments)
    else if bytes_eq name (codes "file") then file_command arguments
    else if bytes_eq name (codes "deposit") then deposit_command arguments
    else if bytes_eq name (codes "propose") then propose_command arguments
    else if bytes_eq name (codes "recover") then recover_command arguments
    else if bytes_eq name (codes "deliver") then deliver_command arguments
    else if bytes_eq name (codes "ask") then ask_command arguments
    else if bytes_eq name (codes "query") then query_command arguments
    else if bytes_eq name (codes "raw") then raw_command arguments
    else if bytes_eq name (codes "pump")
    then option_map (λ n. commands.Pump n) (only amount_of arguments)
    else if bytes_eq name (codes "stop")
    then option_map (λ s. commands.Stop s) (only site_of arguments)
    else if bytes_eq name (codes "start")
    then option_map (λ s. commands.Start s) (only site_of arguments)
    else None
