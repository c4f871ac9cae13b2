use Rattle.std.proofs.Common.{◌≡◌, ◌++◌, map}
use Rattle.fed_types.specs.Sites.{members_of}
use Rattle.site.specs.Datagrams.{handed_out}
use Rattle.site.proofs.Sent.{sent}
use Rattle.site.proofs.datagrams.to_all.Given as goal

-- those that were made, and those for the sites that are left
abbrev pub invariant-loop-to : goal.invariant-loop-to
invariant-loop-to l =
    (goal.iterator-loop-to).can_next l.to-iterator
    × (goal.iterator-loop-to).is_finite l.to-iterator
    × (map handed_out l.sends.items ++ sent l.fn.members.federation l.message l.to-iterator
    ≡ sent l.fn.members.federation l.message (members_of l.fn.members))
