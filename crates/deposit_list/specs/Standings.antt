-- How a deposit stands with a site, by the site's replies.
use Rattle.std.specs.Prelude.{◌+◌, Bool, true, false, Option, Some, None}
use Rattle.fed_types.specs.declared.bag_id.BagId.{BagId}
use Rattle.fed_types.specs.Bags.{same_bag}
use Rattle.dgram.specs.declared.answers.DepositAnswer.{DepositAnswer}
use Rattle.dgram.specs.declared.answers.DepositAnswer.TheVariants as deposit
use Rattle.dgram.specs.declared.answers.QueryAnswer.{QueryAnswer}
use Rattle.dgram.specs.declared.answers.QueryAnswer.TheVariants as query
use Rattle.site_client.specs.declared.reply.ClientReply.{ClientReply}
use Rattle.site_client.specs.declared.reply.ClientReply.TheVariants.{ToDeposit, ToQuery}
use Rattle.deposit_list.specs.declared.aim.Aim.{Aim}
use Rattle.deposit_list.specs.declared.aim.Aim.TheVariants as aims
use Rattle.deposit_list.specs.declared.standing.Standing.{Standing}
use Rattle.deposit_list.specs.declared.standing.Standing.TheVariants.{Unsent, Unanswered}
use Rattle.deposit_list.specs.declared.standing.Standing.TheVariants.{Registered, Refused, Known}

-- by the answer to it: the bag is registered, or it is refused; the codes of a folder's and a bag's
-- faults follow after 20 and 40
abbrev pub by_deposit : DepositAnswer → Standing
by_deposit (deposit.Registered bag) = Registered bag
by_deposit (deposit.OtherDeposit bag) = Refused 11
by_deposit (deposit.OtherKnown bag) = Refused 12
by_deposit deposit.Device = Refused 13
by_deposit deposit.Memory = Refused 14
by_deposit deposit.NeedsOpen = Refused 15
by_deposit (deposit.Tree fault) = Refused (20 + fault)
by_deposit (deposit.Bag fault) = Refused (40 + fault)

-- it was sent, and nothing came of it
abbrev pub unanswered : Standing → Standing
unanswered Unsent = Unanswered
unanswered standing = standing

-- where the site knows this bag
abbrev pub where_known : Standing → BagId → Standing
where_known (Registered bag) known = Known known bag
where_known standing known = Unsent

-- where it has a deposit, or doesn't say
abbrev pub where_pending : Standing → Standing
where_pending (Registered bag) = Registered bag
where_pending standing = Unsent

-- By the answer to a query. Where the site answers and hasn't said that it has registered the
-- deposit, or says that it has nothing, it has to be sent again: also to a site that has to be
-- opened again, which then refuses it.
abbrev pub by_query : Standing → QueryAnswer → Standing
by_query standing (query.Known known) = where_known standing known
by_query standing (query.Pending own) = where_pending standing
by_query standing query.NeedsOpen = where_pending standing
by_query standing query.Nothing = Unsent

-- by a reply, or by none
abbrev pub after : Standing → Option ClientReply → Standing
after standing None = unanswered standing
after standing (Some (ToDeposit answer)) = by_deposit answer
after standing (Some (ToQuery answer)) = by_query standing answer

-- nothing else is to be waited for: it is refused, or a bag is known
abbrev pub is_settled : Standing → Bool
is_settled (Refused code) = true
is_settled (Known known bag) = true
is_settled standing = false

abbrev pub is_registered : Standing → Bool
is_registered (Registered bag) = true
is_registered standing = false

-- the bag that was deposited is known
abbrev pub is_known : Standing → Bool
is_known (Known known bag) = same_bag known bag
is_known standing = false

-- what was to come of it has come
abbrev pub is_reached : Aim → Standing → Bool
is_reached aims.Registered standing = is_registered standing
is_reached (aims.Known seconds) standing = is_known standing
