-- The text of a run: a line for each event that says something, and one for each datagram that was
-- sent, where these are asked for.
use Rattle.std.specs.Prelude.{ℕ, Bool, true, if◌then◌else◌, List, [], ◌∷◌, ◌++◌, codes}
use Rattle.std.specs.List.{flat_map, join_with_byte}
use Rattle.std.specs.Fmt.{decimal}
use Rattle.hex.specs.Hex.{encode_lower}
use Rattle.fed_types.specs.Slots.{SlotName}
use Rattle.tokens.specs.Escapes.{escaped_text}
use Rattle.bag_check.specs.Fault as bag_faults
use Rattle.site.specs.declared.answer.Reply.{Reply}
use Rattle.site.specs.declared.answer.Reply.TheVariants as replies
use Rattle.site.specs.declared.fault.SiteFault.{SiteFault}
use Rattle.site.specs.declared.fault.SiteFault.TheVariants.{InvalidBag}
use Rattle.site.specs.Faults as site_faults
use Rattle.lines.specs.declared.line.Line.{Line}
use Rattle.lines.specs.declared.line.Line.TheVariants.{Registered, Known, Replied, Refused}
use Rattle.lines.specs.declared.line.Line.TheVariants.{Dropped, Skip, Down, Up, Sent}
use Rattle.lines.specs.declared.line.NamedBag.{NamedBag}
use Rattle.lines.specs.declared.line.Reason.{Reason}
use Rattle.lines.specs.declared.line.Reason.TheVariants as reasons
use Rattle.lines.specs.declared.print_line.Options.{Options}

-- a bag by its tree, as `#3`, or by the 128 hex digits of its identity
abbrev pub bag_word : Options → NamedBag → List ℕ
bag_word options named =
    if options.identities then encode_lower named.bag.0 else 35 ∷ decimal named.tree

-- a site, a slot's object and its version, and then further words
abbrev pub slot_words : ℕ → SlotName → List (List ℕ) → List (List ℕ)
slot_words site slot words =
    decimal site ∷ escaped_text slot.object ∷ decimal slot.version ∷ words

abbrev pub reply_words : Options → Reply NamedBag → List (List ℕ)
reply_words options (replies.Known bag) = codes "known" ∷ bag_word options bag ∷ []
reply_words options (replies.Pending bag) = codes "pending" ∷ bag_word options bag ∷ []
reply_words options replies.Nothing = codes "nothing" ∷ []

-- the fault's number; after 10 comes that of the bag's fault
abbrev pub fault_words : SiteFault → List (List ℕ)
fault_words (InvalidBag fault) = codes "10" ∷ decimal (bag_faults.number_of fault) ∷ []
fault_words fault = decimal (site_faults.number_of fault) ∷ []

abbrev pub reason_word : Reason → List ℕ
reason_word reasons.Site = codes "site"
reason_word reasons.Tree = codes "tree"
reason_word reasons.Path = codes "path"
reason_word reasons.Datagram = codes "datagram"
reason_word reasons.Formed = codes "formed"
reason_word reasons.Down = codes "down"
reason_word reasons.Up = codes "up"

-- the words of a line
abbrev pub words_of : Options → Line → List (List ℕ)
words_of options (Registered site slot bag) =
    codes "registered" ∷ slot_words site slot (bag_word options bag ∷ [])
words_of options (Known site slot bag) =
    codes "known" ∷ slot_words site slot (bag_word options bag ∷ [])
words_of options (Replied site slot reply) =
    codes "reply" ∷ slot_words site slot (reply_words options reply)
words_of options (Refused site fault) = codes "refused" ∷ decimal site ∷ fault_words fault
words_of options (Dropped site) = codes "dropped" ∷ decimal site ∷ []
words_of options (Skip number reason) =
    codes "skip" ∷ decimal number ∷ reason_word reason ∷ []
words_of options (Down site) = codes "down" ∷ decimal site ∷ []
words_of options (Up site records) = codes "up" ∷ decimal site ∷ decimal records ∷ []
words_of options (Sent number from to bytes) =
    codes "sent" ∷ decimal number ∷ decimal from ∷ decimal to ∷ encode_lower bytes ∷ []

-- a line: its words with one space between them, and its end
abbrev pub line_text : Options → Line → List ℕ
line_text options line = join_with_byte 32 (words_of options line) ++ 10 ∷ []

-- a datagram's line is printed only where `sent` asks for it
abbrev pub is_printed : Options → Line → Bool
is_printed options (Sent number from to bytes) = options.sent
is_printed options _ = true

abbrev pub printed_line : Options → Line → List ℕ
printed_line options line = if is_printed options line then line_text options line else []

-- the text of the lines
unfoldable pub text_of : Options → List Line → List ℕ
text_of options lines = flat_map (printed_line options) lines
