-- What three sites that agree record and send is well-formed.
use Rattle.std.proofs.Common.{ℕ, ◌<◌, List, [], ◌∷◌, ◌++◌, None, arith}
use Rattle.fed_types.specs.declared.bag_id.BagId.{BagId}
use Rattle.fed_types.specs.declared.vote.Vote.{Vote}
use Rattle.fed_types.specs.Values.{IsSlot, IsBag, IsBallot, IsVote}
use Rattle.fields.specs.Encoding.{slot_bytes}
use Rattle.records.specs.declared.entry.Entry.{Entry}
use Rattle.records.specs.declared.entry.Entry.TheVariants as entry
use Rattle.records.specs.Records.{IsRecord}
use Rattle.dgram.specs.declared.body.Body.TheVariants.{Prepare, Promise, Accept, Accepted}
use Rattle.dgram.specs.Encoding.{datagram_of, body_bytes}
use Rattle.dgram.specs.Messages.{IsMessage}
use Rattle.udp_site.specs.Traffic.{From}
use Rattle.serving_law.specs.Examples.{Request}
use Rattle.serving_law.specs.ExamplesAgreed.{three, a, ballot, vote}
use Rattle.serving_law.specs.Rules.{AreBytes, MayCome}
use Rattle.serving_law.proofs.Agreement.{m, r}
use Rattle.serving_law.proofs.DatagramBytes.{Bytes, joined, of_number, of_message, of_bag}
use Rattle.serving_law.proofs.Replies.{checked_is}
use Rattle.serving_law.proofs.Requests.{deposit_is_slot}
use Rattle.std.specs.Int.{bytes_high_first}

module _ (bag : BagId) where
  abbrev pub deposited : Entry
  deposited = entry.Deposit bag

  abbrev pub proposed : Entry
  proposed = entry.Round 1

  abbrev pub promised : Entry
  promised = entry.Promise ballot

  abbrev pub voted : Entry
  voted = entry.Vote (vote bag)

  abbrev pub known : Entry
  known = entry.Known bag

module _ (bag : BagId) (request : Request 7 a bag) where
  abbrev v : Vote
  v = vote bag

  pub come : MayCome three [] (From request.address request.bytes)
  come = (request.are_bytes, λ message e is. absurd (cc request.asked))

  -- ---- what is written and sent is well-formed

  pub is_slot : IsSlot a
  is_slot =
      deposit_is_slot three [] (From request.address request.bytes) come request.address a
      request.path request.asked

  pub is_bag : IsBag bag
  is_bag = checked_is request.facts bag request.checked

  pub is_ballot : IsBallot ballot
  is_ballot = (omega arith, omega arith, (omega arith, omega arith))

  pub is_vote : IsVote v
  is_vote = (is_ballot, is_bag)

  slot_fits : Bytes (slot_bytes a)
  slot_fits = (omega arith, (omega arith, of_number 4 1))

  ballot_fits : (rest : List ℕ) → Bytes rest → Bytes (body_bytes (Prepare ballot) ++ rest)
  ballot_fits rest fits =
      joined (body_bytes (Prepare ballot)) rest
      (joined (bytes_high_first 4 1) (1 ∷ []) (of_number 4 1) (omega arith, tt)) fits

  bag_fits : Bytes bag.0
  bag_fits = of_bag request.facts bag request.checked

  pub prepare_fits : AreBytes (datagram_of 7 (m (Prepare ballot)))
  prepare_fits = of_message 7 (m (Prepare ballot)) (omega arith) (omega arith) slot_fits
      (joined (bytes_high_first 4 1) (1 ∷ []) (of_number 4 1) (omega arith, tt))

  pub promise_fits : (n : ℕ) → n < 256 → AreBytes (datagram_of 7 (m (Promise n ballot None)))
  promise_fits n lt =
      of_message 7 (m (Promise n ballot None)) (omega arith) lt slot_fits
      (ballot_fits (0 ∷ []) (omega arith, tt))

  pub accept_fits : AreBytes (datagram_of 7 (m (Accept v)))
  accept_fits =
      of_message 7 (m (Accept v)) (omega arith) (omega arith) slot_fits (ballot_fits bag.0 bag_fits)

  pub accepted_fits : (n : ℕ) → n < 256 → AreBytes (datagram_of 7 (m (Accepted n v)))
  accepted_fits n lt =
      of_message 7 (m (Accepted n v)) (omega arith) lt slot_fits (ballot_fits bag.0 bag_fits)

  pub is_prepare : IsMessage (m (Prepare ballot))
  is_prepare = (is_slot, is_ballot)

  pub is_promise_1 : IsMessage (m (Promise 1 ballot None))
  is_promise_1 = (is_slot, ((omega arith, omega arith), is_ballot, tt))

  pub is_promise_2 : IsMessage (m (Promise 2 ballot None))
  is_promise_2 = (is_slot, ((omega arith, omega arith), is_ballot, tt))

  pub is_accept : IsMessage (m (Accept v))
  is_accept = (is_slot, is_vote)

  pub is_accepted_1 : IsMessage (m (Accepted 1 v))
  is_accepted_1 = (is_slot, ((omega arith, omega arith), is_vote))

  pub is_accepted_2 : IsMessage (m (Accepted 2 v))
  is_accepted_2 = (is_slot, ((omega arith, omega arith), is_vote))

  pub is_d : IsRecord (r (deposited bag))
  is_d = (is_slot, is_bag)

  pub is_r : IsRecord (r (proposed bag))
  is_r = (is_slot, (omega arith, omega arith))

  pub is_p : IsRecord (r (promised bag))
  is_p = (is_slot, is_ballot)

  pub is_v : IsRecord (r (voted bag))
  is_v = (is_slot, is_vote)

  pub is_k : IsRecord (r (known bag))
  is_k = (is_slot, is_bag)
