-- The words that the grammar has for a command are those that are read as the command.
use Rattle.std.proofs.Common.{◌≡◌, ℕ, List, [], ◌∷◌, ◌++◌, Option, Some, None, refl, subst, cond}
use Rattle.std.specs.Prelude.{codes}
use Rattle.std.specs.Option.{option_map}
use Rattle.std.specs.Str.{bytes_eq}
use Rattle.std.proofs.lemmas.Option.{same_Some}
use Rattle.fed_types.specs.Limits.{greatest_version}
use Rattle.fed_types.specs.Slots.{SlotName}
use Rattle.schedule.specs.declared.call.Call.{Call}
use Rattle.schedule.specs.declared.call.Call.TheVariants.{Deposit, Propose, Recover, Deliver, Ask}
use Rattle.schedule.specs.declared.command.Command.{Command}
use Rattle.schedule.specs.declared.command.Command.TheVariants as commands
use Rattle.schedule.specs.declared.fate.Fate.{Fate}
use Rattle.tokens.specs.Slots.{slot_of}
use Rattle.schedule.specs.Commands.{site_of, tree_of, amount_of, call_command, only, file_command}
use Rattle.schedule.specs.Commands.{deposit_command, propose_command, recover_command}
use Rattle.schedule.specs.Commands.{deliver_command, ask_command, query_command, raw_command}
use Rattle.schedule.specs.Commands.{command_of}
use Rattle.schedule.specs.Limits.{greatest_site, greatest_tree}
use Rattle.schedule.specs.Lines.{site_token, tree_token, slot_tokens, call_tokens, fate_tokens}
use Rattle.schedule.specs.Lines.{command_tokens}
use Rattle.schedule.specs.Tokens.{Token, Number, Object, IsWordFor, AreWordsFor}
use Rattle.tokens.proofs.GrammarLemmas.{number_in-from, IsNumeral-number_in}
use Rattle.schedule.proofs.FateLemmas.{amount-from, amount-says, fate_of-from, fate_of-says}
use Rattle.tokens.proofs.StepLemmas.{bind_some}
use Rattle.schedule.proofs.TokenLemmas.{text_of-from, IsTextFor-text_of, object_of-from}
use Rattle.schedule.proofs.TokenLemmas.{IsObject-object_of, bytes_of-from, IsHexFor-bytes_of}
use Rattle.schedule.proofs.TokenLemmas.{mapped, same_words, by_keyword, of_each, of_each_and}
use Rattle.schedule.proofs.TokenLemmas.{OfEach, OfEachAnd}

-- ---- from the grammar

site-from : (word : List ℕ) (s : ℕ) → IsWordFor word (site_token s) → site_of word ≡ Some s
site-from word s is = number_in-from 0 greatest_site word s is

tree-from : (word : List ℕ) (t : ℕ) → IsWordFor word (tree_token t) → tree_of word ≡ Some t
tree-from word t is = number_in-from 1 greatest_tree word t is

slot-from : (object version : List ℕ) (slot : SlotName) → IsWordFor object (Object slot.object)
    → IsWordFor version (Number 1 greatest_version slot.version)
    → slot_of object version ≡ Some slot
unfolding slot_of
slot-from object version slot name number =
    let v = number_in-from 1 greatest_version version slot.version number in
    rw (object_of-from object slot.object name, v)

-- a call and its fate
call-from : (call : Call) (fate : Fate) (words : List (List ℕ))
    → AreWordsFor words (fate_tokens fate)
    → call_command call words ≡ Some (commands.Call call fate)
unfolding call_command
call-from call fate words are = rw (fate_of-from words fate are)

-- the fact that the words are read as the command
abbrev IsRead : Command → List (List ℕ) → Type 0
IsRead command words = command_of words ≡ Some command

each_of-call : (call : Call) (fate : Fate)
    → OfEachAnd (call_tokens call) (fate_tokens fate) (IsRead (commands.Call call fate))
unfolding command_of deposit_command propose_command recover_command deliver_command ask_command
each_of-call (Deposit s t slot) fate =
    λ name is site s_is tree t_is object o_is version v_is rest rest_are.
    rw (is, site-from site s s_is, tree-from tree t t_is)
    (rw (slot-from object version slot o_is v_is)
    (call-from (Deposit s t slot) fate rest rest_are))
each_of-call (Propose s slot) fate =
    λ name is site s_is object o_is version v_is rest rest_are.
    rw (is, site-from site s s_is, slot-from object version slot o_is v_is)
    (call-from (Propose s slot) fate rest rest_are)
each_of-call (Recover s slot) fate =
    λ name is site s_is object o_is version v_is rest rest_are.
    rw (is, site-from site s s_is, slot-from object version slot o_is v_is)
    (call-from (Recover s slot) fate rest rest_are)
each_of-call (Deliver k) fate =
    λ name is datagram k_is rest rest_are.
    rw (is, amount-from datagram k k_is) (call-from (Deliver k) fate rest rest_are)
each_of-call (Ask s to slot) fate =
    λ name is site s_is other to_is object o_is version v_is rest rest_are.
    rw (is, site-from site s s_is, site-from other to to_is)
    (rw (slot-from object version slot o_is v_is) (call-from (Ask s to slot) fate rest rest_are))

from_each : (command : Command) → OfEach (command_tokens command) (IsRead command)
    → (words : List (List ℕ)) → AreWordsFor words (command_tokens command)
    → IsRead command words
from_each command read words are =
    of_each (command_tokens command) (IsRead command) read words are

pub command_of-from : (words : List (List ℕ)) (command : Command)
    → AreWordsFor words (command_tokens command) → command_of words ≡ Some command
unfolding command_of only file_command query_command raw_command
command_of-from words (commands.Tree t) are =
    from_each (commands.Tree t) (λ name is tree t_is. rw (is, tree-from tree t t_is)) words are
command_of-from words (commands.Folder t) are =
    from_each (commands.Folder t) (λ name is tree t_is. rw (is, tree-from tree t t_is)) words are
command_of-from words (commands.File t path content) are =
    from_each (commands.File t path content) (λ name is tree t_is text p_is hex c_is.
    rw (is, tree-from tree t t_is)
    (rw (text_of-from text path p_is, bytes_of-from hex content c_is))) words are
command_of-from words (commands.Call call fate) are =
    of_each_and (call_tokens call) (fate_tokens fate) (IsRead (commands.Call call fate))
    (each_of-call call fate) words are
command_of-from words (commands.Query s slot) are =
    from_each (commands.Query s slot) (λ name is site s_is object o_is version v_is.
    rw (is, site-from site s s_is, slot-from object version slot o_is v_is)) words are
command_of-from words (commands.Raw s bytes) are =
    from_each (commands.Raw s bytes) (λ name is site s_is hex b_is.
    rw (is, site-from site s s_is, bytes_of-from hex bytes b_is)) words are
command_of-from words (commands.Pump n) are =
    from_each (commands.Pump n) (λ name is turns n_is. rw (is, amount-from turns n n_is)) words are
command_of-from words (commands.Stop s) are =
    from_each (commands.Stop s) (λ name is site s_is. rw (is, site-from site s s_is)) words are
command_of-from words (commands.Start s) are =
    from_each (commands.Start s) (λ name is site s_is. rw (is, site-from site s s_is)) words are

-- ---- into the grammar

site-says : (word : List ℕ) (s : ℕ) → site_of word ≡ Some s → IsWordFor word (site_token s)
site-says word s is = IsNumeral-number_in 0 greatest_site word s is

tree-says : (word : List ℕ) (t : ℕ) → tree_of word ≡ Some t → IsWordFor word (tree_token t)
tree-says word t is = IsNumeral-number_in 1 greatest_tree word t is

slot-says : (object version : List ℕ) (slot : SlotName) → slot_of object version ≡ Some slot
    → AreWordsFor (object ∷ version ∷ []) (slot_tokens slot)
unfolding slot_of
slot-says object version slot is =
    let o = bind_some _ _ slot is in
    let v = bind_some _ _ slot o.2 in
    subst (λ (found : SlotName). AreWordsFor (object ∷ version ∷ []) (slot_tokens found))
    (same_Some _ slot v.2) (
      IsObject-object_of object o.0 o.1,
      (IsNumeral-number_in 1 greatest_version version v.0 v.1, tt),
    )

-- the words of a call, and then those of a fate
AreWordsFor-append : (a b : List (List ℕ)) (c d : List Token) → AreWordsFor a c → AreWordsFor b d
    → AreWordsFor (a ++ b) (c ++ d)
AreWordsFor-append [] b [] d first second = second
AreWordsFor-append (word ∷ a) b (token ∷ c) d first second =
    (first.0, AreWordsFor-append a b c d first.1 second)
AreWordsFor-append _ b _ d first second = absurd first

call-says : (own fate_words : List (List ℕ)) (call : Call) (command : Command)
    → call_command call fate_words ≡ Some command → AreWordsFor own (call_tokens call)
    → AreWordsFor (own ++ fate_words) (command_tokens command)
unfolding call_command
call-says own fate_words call command is are =
    let f = bind_some _ _ command is in
    same_words command_tokens (own ++ fate_words) (commands.Call call f.0) command f.2
    (AreWordsFor-append own fate_words (call_tokens call) (fate_tokens f.0) are
    (fate_of-says fate_words f.0 f.1))

-- the words that are read as a command after this keyword are the command's
abbrev Says : List ℕ → (List (List ℕ) → Option Command) → Type 0
Says keyword read = (words : List (List ℕ)) (command : Command) → read words ≡ Some command
    → AreWordsFor (keyword ∷ words) (command_tokens command)

-- a command whose only word is read, as the grammar says
only-says : (keyword : List ℕ) (read : List ℕ → Option ℕ) (make : ℕ → Command)
    → ((word : List ℕ) (n : ℕ) → read word ≡ Some n
    → AreWordsFor (keyword ∷ word ∷ []) (command_tokens (make n)))
    → Says keyword (λ words. option_map make (only read words))
unfolding only
only-says keyword read make says (word ∷ []) command is =
    let n = mapped make (read word) command is in
    rw (← n.2) (says word n.0 n.1)
only-says keyword read make says _ command is = absurd (cc is)

file_command-says : Says (codes "file") file_command
unfolding file_command
file_command-says (tree ∷ path ∷ content ∷ []) command is =
    let t = bind_some _ _ command is in
    let p = bind_some _ _ command t.2 in
    let b = bind_some _ _ command p.2 in
    let bytes = IsHexFor-bytes_of content b.0 b.1 in
    same_words command_tokens (codes "file" ∷ tree ∷ path ∷ content ∷ [])
    (commands.File t.0 p.0 b.0) command b.2
    (refl, (tree-says tree t.0 t.1, (IsTextFor-text_of path p.0 p.1, (bytes, tt))))
file_command-says words command is = absurd (cc is)

deposit_command-says : Says (codes "deposit") deposit_command
unfolding deposit_command
deposit_command-says (site ∷ tree ∷ object ∷ version ∷ fate) command is =
    let s = bind_some _ _ command is in
    let t = bind_some _ _ command s.2 in
    let slot = bind_some _ _ command t.2 in
    let of_slot = slot-says object version slot.0 slot.1 in
    call-says (codes "deposit" ∷ site ∷ tree ∷ object ∷ version ∷ []) fate
    (Deposit s.0 t.0 slot.0) command slot.2
    (refl, (site-says site s.0 s.1, (tree-says tree t.0 t.1, of_slot)))
deposit_command-says words command is = absurd (cc is)

propose_command-says : Says (codes "propose") propose_command
unfolding propose_command
propose_command-says (site ∷ object ∷ version ∷ fate) command is =
    let s = bind_some _ _ command is in
    let slot = bind_some _ _ command s.2 in
    call-says (codes "propose" ∷ site ∷ object ∷ version ∷ []) fate (Propose s.0 slot.0) command
    slot.2 (refl, (site-says site s.0 s.1, slot-says object version slot.0 slot.1))
propose_command-says words command is = absurd (cc is)

recover_command-says : Says (codes "recover") recover_command
unfolding recover_command
recover_command-says (site ∷ object ∷ version ∷ fate) command is =
    let s = bind_some _ _ command is in
    let slot = bind_some _ _ command s.2 in
    call-says (codes "recover" ∷ site ∷ object ∷ version ∷ []) fate (Recover s.0 slot.0) command
    slot.2 (refl, (site-says site s.0 s.1, slot-says object version slot.0 slot.1))
recover_command-says words command is = absurd (cc is)

deliver_command-says : Says (codes "deliver") deliver_command
unfolding deliver_command
deliver_command-says (datagram ∷ fate) command is =
    let k = bind_some _ _ command is in
    call-says (codes "deliver" ∷ datagram ∷ []) fate (Deliver k.0) command k.2
    (refl, (amount-says datagram k.0 k.1, tt))
deliver_command-says words command is = absurd (cc is)

ask_command-says : Says (codes "ask") ask_command
unfolding ask_command
ask_command-says (site ∷ to ∷ object ∷ version ∷ fate) command is =
    let s = bind_some _ _ command is in
    let other = bind_some _ _ command s.2 in
    let slot = bind_some _ _ command other.2 in
    let of_slot = slot-says object version slot.0 slot.1 in
    call-says (codes "ask" ∷ site ∷ to ∷ object ∷ version ∷ []) fate
    (Ask s.0 other.0 slot.0) command slot.2
    (refl, (site-says site s.0 s.1, (site-says to other.0 other.1, of_slot)))
ask_command-says words command is = absurd (cc is)

query_command-says : Says (codes "query") query_command
unfolding query_command
query_command-says (site ∷ object ∷ version ∷ []) command is =
    let s = bind_some _ _ command is in
    let slot = bind_some _ _ command s.2 in
    same_words command_tokens (codes "query" ∷ site ∷ object ∷ version ∷ [])
    (commands.Query s.0 slot.0) command slot.2
    (refl, (site-says site s.0 s.1, slot-says object version slot.0 slot.1))
query_command-says words command is = absurd (cc is)

raw_command-says : Says (codes "raw") raw_command
unfolding raw_command
raw_command-says (site ∷ bytes ∷ []) command is =
    let s = bind_some _ _ command is in
    let b = bind_some _ _ command s.2 in
    same_words command_tokens (codes "raw" ∷ site ∷ bytes ∷ []) (commands.Raw s.0 b.0) command b.2
    (refl, (site-says site s.0 s.1, (IsHexFor-bytes_of bytes b.0 b.1, tt)))
raw_command-says words command is = absurd (cc is)

-- one of these names, or another
named : (keyword : List ℕ) (read : List (List ℕ) → Option Command) (other : Option Command)
    (name : List ℕ) (arguments : List (List ℕ)) (command : Command) → Says keyword read
    → (other ≡ Some command → AreWordsFor (name ∷ arguments) (command_tokens command))
    → cond (bytes_eq name keyword) (read arguments) other ≡ Some command
    → AreWordsFor (name ∷ arguments) (command_tokens command)
named keyword read other name arguments command says =
    by_keyword (λ n. AreWordsFor (n ∷ arguments) (command_tokens command)) keyword name
    (read arguments) other command (says arguments command)

pub command_of-says : (words : List (List ℕ)) (command : Command)
    → command_of words ≡ Some command → AreWordsFor words (command_tokens command)
unfolding command_of
command_of-says [] command is = absurd (cc is)
command_of-says (name ∷ words) command is =
    named (codes "tree") _ _ name words command
    (only-says (codes "tree") tree_of (λ t. commands.Tree t)
    (λ word t says. (refl, (tree-says word t says, tt))))
    (named (codes "folder") _ _ name words command
    (only-says (codes "folder") tree_of (λ t. commands.Folder t)
    (λ word t says. (refl, (tree-says word t says, tt))))
    (named (codes "file") file_command _ name words command file_command-says
    (named (codes "deposit") deposit_command _ name words command deposit_command-says
    (named (codes "propose") propose_command _ name words command propose_command-says
    (named (codes "recover") recover_command _ name words command recover_command-says
    (named (codes "deliver") deliver_command _ name words command deliver_command-says
    (named (codes "ask") ask_command _ name words command ask_command-says
    (named (codes "query") query_command _ name words command query_command-says
    (named (codes "raw") raw_command _ name words command raw_command-says
    (named (codes "pump") _ _ name words command
    (only-says (codes "pump") amount_of (λ n. commands.Pump n)
    (λ word n says. (refl, (amount-says word n says, tt))))
    (named (codes "stop") _ _ name words command
    (only-says (codes "stop") site_of (λ s. commands.Stop s)
    (λ word s says. (refl, (site-says word s says, tt))))
    (named (codes "start") _ None name words command
    (only-says (codes "start") site_of (λ s. commands.Start s)
    (λ word s says. (refl, (site-says word s says, tt))))
    (λ none. absurd (cc none)))))))))))))) is
