-- What each kind of datagram is a sign of, and whom a client's question has a site ask, case by
-- case.
use Rattle.std.proofs.Common.{◌≡◌, ℕ, List, [], refl, Option, None, Some, Ok, Err}
use Rattle.fed_types.specs.declared.bag_id.BagId.{BagId}
use Rattle.fed_types.specs.declared.ballot.Ballot.{Ballot}
use Rattle.fed_types.specs.declared.vote.Vote.{Vote}
use Rattle.fed_types.specs.Slots.{SlotName}
use Rattle.dgram.specs.declared.answers.DepositAnswer.{DepositAnswer}
use Rattle.dgram.specs.declared.answers.QueryAnswer.{QueryAnswer}
use Rattle.dgram.specs.declared.body.Body.{Body}
use Rattle.dgram.specs.declared.body.Body.TheVariants.{Prepare, Promise, Accept, Accepted, Refused}
use Rattle.dgram.specs.declared.body.Body.TheVariants.{Ask, Known, Deposit, Query, Recover}
use Rattle.dgram.specs.declared.body.Body.TheVariants.{DepositReply, QueryReply}
use Rattle.site.specs.declared.answer.Reply.TheVariants as replies
use Rattle.site.specs.declared.fault.SiteFault.{SiteFault}
use Rattle.udp_site.specs.declared.movement.Sign.TheVariants.{Still, Moves, Decides}
use Rattle.udp_site.specs.declared.movement.Signal.{Signal}
use Rattle.udp_site.specs.Signs.{sign_by, own_sign_by, signal_at}
use Rattle.udp_site.specs.Turns.{Serving, asked, others}

module _ (site : ℕ) (ballot standing : Ballot) (vote : Vote) (bag : BagId) where
  -- What moves something: a proposal has its promises, or votes, or a bag is known.
  pub accept_moves : sign_by (Accept vote) ≡ Moves
  accept_moves = refl

  pub vote_decides : sign_by (Accepted site vote) ≡ Decides
  vote_decides = refl

  pub known_decides : sign_by (Known site bag) ≡ Decides
  known_decides = refl

  -- What moves nothing: a site without a majority would else write records as fast as others ask.
  pub prepare_is_still : sign_by (Prepare ballot) ≡ Still
  prepare_is_still = refl

  pub promise_is_still : (prior : Option Vote) → sign_by (Promise site ballot prior) ≡ Still
  promise_is_still prior = refl

  pub refusal_is_still : sign_by (Refused site ballot standing) ≡ Still
  refusal_is_still = refl

  pub ask_is_still : sign_by (Ask site) ≡ Still
  ask_is_still = refl

  pub query_is_still : sign_by Query ≡ Still
  query_is_still = refl

  pub recover_is_still : sign_by Recover ≡ Still
  recover_is_still = refl

  pub deposit_reply_is_still : (answer : DepositAnswer) → sign_by (DepositReply site answer) ≡ Still
  deposit_reply_is_still answer = refl

  pub query_reply_is_still : (answer : QueryAnswer) → sign_by (QueryReply site answer) ≡ Still
  query_reply_is_still answer = refl

  -- Nor does a deposit, before it is registered: the site may refuse it.
  pub deposit_is_still : (path : List ℕ) → sign_by (Deposit path) ≡ Still
  deposit_is_still path = refl

  -- What is no message of the federation moves nothing, and nobody is heard.
  pub noise_is_still : (own from : ℕ) → (signal_at own from None).sign ≡ Still
  noise_is_still own from = refl

  pub noise_is_nobody : (own from : ℕ) → (signal_at own from None).sender ≡ None
  noise_is_nobody own from = refl

  -- Of what a site says to itself its vote for a proposal of its own decides, and nothing else is
  -- a sign: neither its vote for that of another, nor its Accept, nor a bag that it knows.
  abbrev own_vote : (by : ℕ) → Vote
  own_vote by = record { ballot = record { round = 1; site = by }; bag = bag }

  pub own_vote_decides : own_sign_by (Accepted 2 (own_vote 2)) ≡ Decides
  own_vote_decides = refl

  pub vote_for_another_is_still : own_sign_by (Accepted 2 (own_vote 3)) ≡ Still
  vote_for_another_is_still = refl

  pub own_accept_is_still : own_sign_by (Accept vote) ≡ Still
  own_accept_is_still = refl

  pub own_known_is_still : own_sign_by (Known site bag) ≡ Still
  own_known_is_still = refl

  pub own_prepare_is_still : own_sign_by (Prepare ballot) ≡ Still
  own_prepare_is_still = refl

  pub own_refusal_is_still : own_sign_by (Refused site ballot standing) ≡ Still
  own_refusal_is_still = refl

  pub own_ask_is_still : own_sign_by (Ask site) ≡ Still
  own_ask_is_still = refl

  pub own_promise_is_still : (prior : Option Vote) → own_sign_by (Promise site ballot prior) ≡ Still
  own_promise_is_still prior = refl

  -- Who says something is heard; a client, and the site itself, is nobody. Whose word it is is told
  -- by the port: at 7002 the site's own vote for another's proposal is nothing, and else a vote.
  module _ (slot : SlotName) where
    abbrev at : (from : ℕ) → Body → Signal
    at from body = signal_at 7002 from (Some (record { slot = slot; body = body }))

    pub voter_is_heard : at 7001 (Accepted site vote)
        ≡ record { sign = Decides; sender = Some site }
    voter_is_heard = refl

    pub asking_site_is_heard : at 7001 (Ask site) ≡ record { sign = Still; sender = Some site }
    asking_site_is_heard = refl

    pub refusing_site_is_heard : at 7001 (Refused site ballot standing)
        ≡ record { sign = Still; sender = Some site }
    refusing_site_is_heard = refl

    pub promising_site_is_heard : (prior : Option Vote) → at 7001 (Promise site ballot prior)
        ≡ record { sign = Still; sender = Some site }
    promising_site_is_heard prior = refl

    pub proposing_site_is_heard : at 7001 (Prepare ballot)
        ≡ record { sign = Still; sender = Some ballot.site }
    proposing_site_is_heard = refl

    pub accepting_site_is_heard : at 7001 (Accept vote)
        ≡ record { sign = Moves; sender = Some vote.ballot.site }
    accepting_site_is_heard = refl

    pub knowing_site_is_heard : at 7001 (Known site bag)
        ≡ record { sign = Decides; sender = Some site }
    knowing_site_is_heard = refl

    -- so is a site that replies to a client, though that is no message between sites
    pub replying_site_is_heard : (answer : QueryAnswer) → at 7001 (QueryReply site answer)
        ≡ record { sign = Still; sender = Some site }
    replying_site_is_heard answer = refl

    pub registering_site_is_heard : (answer : DepositAnswer) → at 7001 (DepositReply site answer)
        ≡ record { sign = Still; sender = Some site }
    registering_site_is_heard answer = refl

    pub asking_client_is_nobody : at 40000 Query ≡ record { sign = Still; sender = None }
    asking_client_is_nobody = refl

    pub recovering_client_is_nobody : at 40000 Recover ≡ record { sign = Still; sender = None }
    recovering_client_is_nobody = refl

    pub depositing_client_is_nobody : (path : List ℕ) → at 40000 (Deposit path)
        ≡ record { sign = Still; sender = None }
    depositing_client_is_nobody path = refl

    pub itself_is_nobody : at 7002 (Accepted 2 (own_vote 3))
        ≡ record { sign = Still; sender = None }
    itself_is_nobody = refl

    pub itself_decides : at 7002 (Accepted 2 (own_vote 2))
        ≡ record { sign = Decides; sender = None }
    itself_decides = refl

  -- Asked by a client, a site asks all others, also where it has a deposit of its own; but not for
  -- a bag that it knows, nor where it needs opening.
  module _ {C : Type 0} (s : Serving C) where
    pub pending_asks : asked s (Ok (replies.Pending bag)) ≡ others s
    pending_asks = refl

    pub nothing_asks : asked s (Ok replies.Nothing) ≡ others s
    nothing_asks = refl

    pub known_asks_nobody : asked s (Ok (replies.Known bag)) ≡ []
    known_asks_nobody = refl

    pub refused_asks_nobody : (fault : SiteFault) → asked s (Err fault) ≡ []
    refused_asks_nobody fault = refl
