-- Replies to clients are well-formed, and a bag that one calls known was chosen.
use Rattle.std.proofs.Common.{ℕ, ◌≡◌, refl, arith, List, length, Option, None, Some}
use Rattle.std.specs.Prelude.{Ok}
use Rattle.std.specs.Option.{IfSome}
use Rattle.sha2.specs.Sha512.{sha512, digest_bytes}
use Rattle.fed_types.specs.declared.bag_id.BagId.{BagId}
use Rattle.fed_types.specs.Slots.{SlotName}
use Rattle.fed_types.specs.Values.{IsBag}
use Rattle.bag_tree.specs.declared.fault.TreeFault.{TreeFault}
use Rattle.bag_tree.specs.declared.fault.TreeFault.TheVariants as trees
use Rattle.bag_tree.specs.Facts.{TreeFacts}
use Rattle.bag_check.specs.declared.fault.BagFault.{BagFault}
use Rattle.bag_check.specs.declared.fault.BagFault.TheVariants as bags
use Rattle.bag_check.specs.Check.{check_of, identity_of, first_fault, answer}
use Rattle.records.specs.declared.entry.Entry.TheVariants as entry
use Rattle.records.specs.declared.record.Record.{Record}
use Rattle.records.specs.Bounds.{HasEntry}
use Rattle.records.specs.Records.{AreRecords}
use Rattle.records.specs.SlotStates.{deposit_of, known_of}
use Rattle.records.proofs.Bounds.{known_among}
use Rattle.dgram.specs.Messages.{IsDepositAnswer, IsQueryAnswer}
use Rattle.site.specs.declared.answer.Reply.TheVariants as replies
use Rattle.site.specs.Calls.{reply_of, reply_by}
use Rattle.udp_site.specs.Replies.{tree_answer, query_answer, bag_answer}
use Rattle.world_law.proofs.WellFormedWords.{deposit_is, known_is}

-- ---- bags

pub sixty_four : (bytes : List ℕ) → length (sha512 bytes) ≡ 64
unfolding sha512 digest_bytes
sixty_four bytes = refl

-- the bag that a check finds has all its bytes
pub checked_is : (facts : TreeFacts) (bag : BagId) → check_of facts ≡ Ok bag → IsBag bag
unfolding check_of
checked_is facts bag = go (first_fault facts)
  where
    go : (o : Option BagFault) → answer facts o ≡ Ok bag → IsBag bag
    go None e = let same : identity_of facts ≡ bag = cc in rw (← same) (sixty_four _)
    go (Some fault) e = absurd (cc e)

-- ---- answers to deposits

pub tree_answer_is : (fault : TreeFault) → IfSome (tree_answer fault) IsDepositAnswer
tree_answer_is trees.Memory = tt
tree_answer_is trees.BadPath = tt
tree_answer_is _ = (omega arith, omega arith)

pub bag_answer_is : (fault : BagFault) → IfSome (bag_answer fault) IsDepositAnswer
bag_answer_is bags.Memory = tt
bag_answer_is fault = (omega arith, omega arith)

-- ---- answers to queries

pub query_answer_is : (slot : SlotName) (records : List Record) → AreRecords records
    → IsQueryAnswer (query_answer (Ok (reply_of slot records)))
unfolding reply_of
query_answer_is slot records are =
    go (known_of slot records) (deposit_of slot records) (known_is slot records are)
    (deposit_is slot records are)
  where
    go : (known own : Option BagId) → IfSome known IsBag → IfSome own IsBag
        → IsQueryAnswer (query_answer (Ok (reply_by known own)))
    go (Some bag) own h k = h
    go None (Some bag) h k = k
    go None None h k = tt

-- what is replied as known is on record
pub replied_is_known : (slot : SlotName) (records : List Record) (bag : BagId)
    → reply_of slot records ≡ replies.Known bag → HasEntry slot records (entry.Known bag)
unfolding reply_of
replied_is_known slot records bag =
    go (known_of slot records) refl (deposit_of slot records)
  where
    go : (known : Option BagId) → known_of slot records ≡ known → (own : Option BagId)
        → reply_by known own ≡ replies.Known bag → HasEntry slot records (entry.Known bag)
    go (Some known) e own f =
        let same : known ≡ bag = cc in rw (← same) (known_among slot records known e)
    go None e (Some own) f = absurd (cc f)
    go None e None f = absurd (cc f)
