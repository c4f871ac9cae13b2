-- The canonical encoding of each message, field by field. Numbers are big-endian.
use Rattle.std.specs.Prelude.{ℕ, ◌+◌, List, [], ◌∷◌, ◌++◌, length, Option, Some, None}
use Rattle.std.specs.Int.{w16, w64, to_be_bytes}
use Rattle.fed_types.specs.declared.bag_id.BagId.{BagId}
use Rattle.fed_types.specs.declared.vote.Vote.{Vote}
use Rattle.fields.specs.Checksums.{with_checksum}
use Rattle.fields.specs.Encoding.{ballot_bytes, bag_bytes, vote_bytes, slot_bytes}
use Rattle.dgram.specs.Numbers.{MAGIC, LAYOUT, NO_SITE, NO_BAG, NO_PRIOR, PRIOR, PREPARE, PROMISE}
use Rattle.dgram.specs.Numbers.{ACCEPT, ACCEPTED, REFUSED, ASK, KNOWN, DEPOSIT, QUERY, RECOVER}
use Rattle.dgram.specs.Numbers.{DEPOSIT_REPLY, QUERY_REPLY, REGISTERED, OTHER_DEPOSIT, OTHER_KNOWN}
use Rattle.dgram.specs.Numbers.{DEVICE, MEMORY, NEEDS_OPEN, BEFORE_TREE_FAULTS, BEFORE_BAG_FAULTS}
use Rattle.dgram.specs.Numbers.{IS_KNOWN, IS_PENDING, IS_NOTHING}
use Rattle.dgram.specs.declared.answers.DepositAnswer.{DepositAnswer}
use Rattle.dgram.specs.declared.answers.DepositAnswer.TheVariants as deposit
use Rattle.dgram.specs.declared.answers.QueryAnswer.{QueryAnswer}
use Rattle.dgram.specs.declared.answers.QueryAnswer.TheVariants as query
use Rattle.dgram.specs.declared.body.Body.{Body}
use Rattle.dgram.specs.declared.body.Body.TheVariants.{Prepare, Promise, Accept, Accepted, Refused}
use Rattle.dgram.specs.declared.body.Body.TheVariants.{Ask, Known, Deposit, Query, Recover}
use Rattle.dgram.specs.declared.body.Body.TheVariants.{DepositReply, QueryReply}
use Rattle.dgram.specs.declared.message.Message.{Message}

-- the byte of each kind
abbrev pub kind_of : Body → ℕ
kind_of (Prepare ballot) = PREPARE
kind_of (Promise from ballot prior) = PROMISE
kind_of (Accept vote) = ACCEPT
kind_of (Accepted from vote) = ACCEPTED
kind_of (Refused from asked standing) = REFUSED
kind_of (Ask from) = ASK
kind_of (Known from bag) = KNOWN
kind_of (Deposit path) = DEPOSIT
kind_of Query = QUERY
kind_of Recover = RECOVER
kind_of (DepositReply from answer) = DEPOSIT_REPLY
kind_of (QueryReply from answer) = QUERY_REPLY

-- the site that says it: a Prepare and an Accept come from their ballot's site
abbrev pub body_from : Body → Option ℕ
body_from (Prepare ballot) = Some ballot.site
body_from (Promise from ballot prior) = Some from
body_from (Accept vote) = Some vote.ballot.site
body_from (Accepted from vote) = Some from
body_from (Refused from asked standing) = Some from
body_from (Ask from) = Some from
body_from (Known from bag) = Some from
body_from (Deposit path) = None
body_from Query = None
body_from Recover = None
body_from (DepositReply from answer) = Some from
body_from (QueryReply from answer) = Some from

-- the sender's byte
abbrev pub from_byte : Option ℕ → ℕ
from_byte None = NO_SITE
from_byte (Some site) = site

-- a flag, and the prior vote where there is one
abbrev pub prior_bytes : Option Vote → List ℕ
prior_bytes None = NO_PRIOR ∷ []
prior_bytes (Some v) = PRIOR ∷ vote_bytes v

-- length in two bytes, path
abbrev pub path_bytes : List ℕ → List ℕ
path_bytes path = to_be_bytes w16 (length path) ++ path

-- the code of an answer to a deposit, and its bag: zeros where none is named
abbrev pub deposit_code : DepositAnswer → ℕ
deposit_code (deposit.Registered bag) = REGISTERED
deposit_code (deposit.OtherDeposit bag) = OTHER_DEPOSIT
deposit_code (deposit.OtherKnown bag) = OTHER_KNOWN
deposit_code deposit.Device = DEVICE
deposit_code deposit.Memory = MEMORY
deposit_code deposit.NeedsOpen = NEEDS_OPEN
deposit_code (deposit.Tree fault) = BEFORE_TREE_FAULTS + fault
deposit_code (deposit.Bag fault) = BEFORE_BAG_FAULTS + fault

abbrev pub no_bag : BagId
no_bag = record { 0 = NO_BAG }

abbrev pub deposit_bag : DepositAnswer → BagId
deposit_bag (deposit.Registered bag) = bag
deposit_bag (deposit.OtherDeposit bag) = bag
deposit_bag (deposit.OtherKnown bag) = bag
deposit_bag deposit.Device = no_bag
deposit_bag deposit.Memory = no_bag
deposit_bag deposit.NeedsOpen = no_bag
deposit_bag (deposit.Tree fault) = no_bag
deposit_bag (deposit.Bag fault) = no_bag

-- the same of an answer to a query
abbrev pub query_code : QueryAnswer → ℕ
query_code (query.Known bag) = IS_KNOWN
query_code (query.Pending bag) = IS_PENDING
query_code query.Nothing = IS_NOTHING
query_code query.NeedsOpen = NEEDS_OPEN

abbrev pub query_bag : QueryAnswer → BagId
query_bag (query.Known bag) = bag
query_bag (query.Pending bag) = bag
query_bag query.Nothing = no_bag
query_bag query.NeedsOpen = no_bag

-- code, bag
abbrev pub reply_bytes : ℕ → BagId → List ℕ
reply_bytes code bag = code ∷ bag_bytes bag

abbrev pub body_bytes : Body → List ℕ
body_bytes (Prepare ballot) = ballot_bytes ballot
body_bytes (Promise from ballot prior) = ballot_bytes ballot ++ prior_bytes prior
body_bytes (Accept vote) = vote_bytes vote
body_bytes (Accepted from vote) = vote_bytes vote
body_bytes (Refused from asked standing) = ballot_bytes asked ++ ballot_bytes standing
body_bytes (Ask from) = []
body_bytes (Known from bag) = bag_bytes bag
body_bytes (Deposit path) = path_bytes path
body_bytes Query = []
body_bytes Recover = []
body_bytes (DepositReply from answer) = reply_bytes (deposit_code answer) (deposit_bag answer)
body_bytes (QueryReply from answer) = reply_bytes (query_code answer) (query_bag answer)

-- magic, layout, kind, federation
abbrev pub front_bytes : ℕ → ℕ → List ℕ
front_bytes federation kind = (MAGIC ++ LAYOUT ∷ kind ∷ []) ++ to_be_bytes w64 federation

-- front, sender
abbrev pub start_bytes : ℕ → Body → List ℕ
start_bytes federation b = front_bytes federation (kind_of b) ++ from_byte (body_from b) ∷ []

-- what precedes the checksum of a message of a federation: start, slot, body
abbrev pub message_bytes : ℕ → Message → List ℕ
message_bytes federation m =
    start_bytes federation m.body ++ (slot_bytes m.slot ++ body_bytes m.body)

-- its datagram: these bytes, and their checksum
abbrev pub datagram_of : ℕ → Message → List ℕ
datagram_of federation m = with_checksum (message_bytes federation m)
