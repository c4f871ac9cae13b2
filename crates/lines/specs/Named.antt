-- The line of what is said: each bag by its identity, and by the tree that held it first.
use Rattle.std.specs.Prelude.{ℕ, if◌then◌else◌, List, [], ◌∷◌, Option, Some, None}
use Rattle.fed_types.specs.declared.bag_id.BagId.{BagId}
use Rattle.fed_types.specs.Bags.{same_bag}
use Rattle.site.specs.declared.answer.Reply.{Reply}
use Rattle.site.specs.declared.answer.Reply.TheVariants as replies
use Rattle.lines.specs.declared.line.Line.{Line}
use Rattle.lines.specs.declared.line.Line.TheVariants as lines
use Rattle.lines.specs.declared.line.NamedBag.{NamedBag}
use Rattle.lines.specs.declared.notice.Notice.{Notice}
use Rattle.lines.specs.declared.notice.Notice.TheVariants.{Registered, Learned, Replied, Refused}
use Rattle.lines.specs.declared.notice.Notice.TheVariants.{Dropped}
use Rattle.lines.specs.declared.notice.Notice.TheVariants.{GoesDown, ComesUp}
use Rattle.lines.specs.Notices.{bag_in}

-- a valid bag that was deposited, and the number of the tree that held it then
pub record SeenBag : Type 0 where
  pub bag : BagId
  pub tree : ℕ

-- the tree in which a bag was seen first, and 0 where none has held it
unfoldable pub first_tree : BagId → List SeenBag → ℕ
first_tree bag [] = 0
first_tree bag (seen ∷ others) = if same_bag seen.bag bag then seen.tree else first_tree bag others

-- a bag as a line names it: by its identity, and by the tree of the earliest deposit of it that
-- wasn't skipped, whatever the site answered
abbrev pub named_bag : List SeenBag → BagId → NamedBag
named_bag seen bag = record { bag = bag; tree = first_tree bag seen }

-- the tree in which a bag was seen first, and 0 where there is none
abbrev pub tree_of : List SeenBag → Option BagId → ℕ
tree_of seen None = 0
tree_of seen (Some bag) = first_tree bag seen

-- that of the bag that a notice names
abbrev pub tree_in : List SeenBag → Notice → ℕ
tree_in seen notice = tree_of seen (bag_in notice)

abbrev pub named_reply : List SeenBag → Reply BagId → Reply NamedBag
named_reply seen (replies.Known bag) = replies.Known (named_bag seen bag)
named_reply seen (replies.Pending bag) = replies.Pending (named_bag seen bag)
named_reply seen replies.Nothing = replies.Nothing

abbrev pub line_of : List SeenBag → Notice → Line
line_of seen (Registered site slot bag) = lines.Registered site slot (named_bag seen bag)
line_of seen (Learned site slot bag) = lines.Known site slot (named_bag seen bag)
line_of seen (Replied site slot reply) = lines.Replied site slot (named_reply seen reply)
line_of seen (Refused site fault) = lines.Refused site fault
line_of seen (Dropped site) = lines.Dropped site
line_of seen (GoesDown site) = lines.Down site
line_of seen (ComesUp site records) = lines.Up site records
