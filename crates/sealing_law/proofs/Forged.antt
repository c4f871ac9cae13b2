-- Three sites agree by sealed messages, sealed votes count, and a forged message is dropped.
use Rattle.std.proofs.Common.{◌≡◌, ◌-◌, true, ℕ, List, [], ◌∷◌, ◌++◌, length, take, drop, Option}
use Rattle.std.proofs.Common.{Some, None, refl, sym, ap, ◌∙◌, subst, arith, length-append}
use Rattle.std.proofs.Math.Seq.{take-append_seam, drop-append_seam}
use Rattle.std.specs.Prelude.{unwrap_or}
use Rattle.fed_types.specs.declared.bag_id.BagId.{BagId}
use Rattle.fed_types.specs.Lists.{Has, here}
use Rattle.fields.specs.Encoding.{slot_bytes}
use Rattle.dgram.specs.declared.body.Body.TheVariants.{Known}
use Rattle.tags.specs.Hmac.{tag_len, tag_by}
use Rattle.tags.specs.Tags.{sealed, text_in}
use Rattle.tags.specs.Rings.{Ring, is_between_sites, keys_for, sealed_by, opened_by}
use Rattle.tags.proofs.SealLemmas.{tag_length, opened_from_sealed}
use Rattle.udp_site.specs.Requests.{request_in}
use Rattle.udp_site.specs.Seals.{handed_on}
use Rattle.udp_site.specs.Served.{Turned}
use Rattle.udp_site.specs.Traffic.{Post, From}
use Rattle.serving_law.specs.Disks.{Disk, device}
use Rattle.serving_law.specs.Examples.{Request}
use Rattle.serving_law.specs.ExamplesAgreed.{three, a, says_vote}
use Rattle.serving_law.specs.ExamplesShown.{DropsBoth}
use Rattle.serving_law.specs.Federations.{Federation, new_federation, Happening, after}
use Rattle.serving_law.specs.Federations.{Turns, Fails, Dies, Ends, Renews, Starts}
use Rattle.serving_law.specs.Reports.{step_of}
use Rattle.serving_law.specs.Rules.{AreBytes, May, MayAll}
use Rattle.serving_law.proofs.DatagramBytes.{Bytes, of_bag, of_message, of_number}
use Rattle.serving_law.proofs.Agreed.{three_sites_agree, a_repeated_vote}
use Rattle.serving_law.proofs.Shown.{noise_is_dropped}
use Rattle.sealing_law.specs.Examples.{ThreeSitesAgreeWithKeys, says_known, IsNoTag}
use Rattle.sealing_law.specs.Examples.{DropsAForgery, AForgedKnownIsDropped}
use Rattle.sealing_law.specs.Examples.{two_keys, opened_vote, ASealedVoteCounts}
use Rattle.sealing_law.specs.Histories.{MayAllWithKeys}
use Rattle.sealing_law.specs.Sealing.{OnlySitesSeal, IsHandedOn}
use Rattle.sealing_law.proofs.HandedOn.{opened_is, appended, by_a_site, no_message}
use Rattle.sealing_law.proofs.WithKeys.{histories_may_have_keys}

pub three_sites_agree_with_keys : ThreeSitesAgreeWithKeys
three_sites_agree_with_keys ring site client bag a_site a_client request =
    let agree = three_sites_agree bag request in
    record {
      history = agree.history;
      happens = histories_may_have_keys device three (ring ∷ []) ring site client new_federation
          agree.history (here refl) a_site a_client agree.happens;
      one = agree.one;
      two = agree.two;
      three = agree.three;
    }

-- ---- sealed votes

module _ (site client : List ℕ) (bag : BagId) where
  vote_sealed : (from : ℕ) → sealed_by (two_keys site client) (says_vote 3 from bag).1
      ≡ Some (sealed site (says_vote 3 from bag).1)
  unfolding sealed_by keys_for is_between_sites
  vote_sealed from = refl

  vote_opened : (from : ℕ) → opened_vote site client from bag ≡ (says_vote 3 from bag).1
  vote_opened from =
      ap (λ o. unwrap_or o [])
      (opened_from_sealed (two_keys site client) (says_vote 3 from bag).1
      (sealed site (says_vote 3 from bag).1) (vote_sealed from))

pub a_sealed_vote_counts : ASealedVoteCounts
a_sealed_vote_counts site client bag request =
    let votes = a_repeated_vote bag request in
    record {
      votes = votes;
      happens = histories_may_have_keys device three (two_keys site client ∷ [])
          (two_keys site client) site client new_federation
          (votes.before ++ Turns 3 votes.first 0 0 ∷ Turns 3 votes.again 0 0
          ∷ Turns 3 votes.other 0 1 ∷ Turns 3 votes.late 0 0 ∷ [])
          (here refl) (here refl) (here refl) votes.happens;
      one = votes.one ∙ ap (λ d. From 0 d) (sym (vote_opened site client bag 1));
      two = votes.two ∙ ap (λ d. From 0 d) (sym (vote_opened site client bag 2));
    }

-- ---- a forged message

-- a text and as many bytes as a tag has are sealed by a key only where they are its tag
module _ (text tag key other : List ℕ) (long : length tag ≡ tag_len)
    (e : text ++ tag ≡ sealed key other)
  where
    lengths : length text ≡ length other
    lengths =
        omega (
          arith,
          ap length e,
          length-append text tag,
          length-append other (tag_by key other),
          tag_length key other,
          long,
        )

    pub same_text : text ≡ other
    same_text =
        sym (take-append_seam text tag)
        ∙ ap (λ bytes. take (length text) bytes) e
        ∙ ap (λ n. take n (sealed key other)) lengths
        ∙ take-append_seam other (tag_by key other)

    pub same_tag : tag ≡ tag_by key other
    same_tag =
        sym (drop-append_seam text tag)
        ∙ ap (λ bytes. drop (length text) bytes) e
        ∙ ap (λ n. drop n (sealed key other)) lengths
        ∙ drop-append_seam other (tag_by key other)

-- the first that may happen is that a site starts
none_yet : (h : Happening Disk) → May device three new_federation h
    → (step_of h ≡ None) × ((after new_federation h).handed ≡ [])
unfolding new_federation
none_yet (Turns n step handed written) (old, (has, serves), takes, on) = absurd (cc serves)
none_yet (Fails n step handed written records) (old, (has, serves), takes, on, left) =
    absurd (cc serves)
none_yet (Dies n step records) (old, (has, serves), takes, left) = absurd (cc serves)
none_yet (Ends n records) (old, (has, serves), left) = absurd (cc serves)
none_yet (Renews n) (old, (has, serves)) = absurd (cc serves)
none_yet (Starts n cell site) may = (refl, refl)

module _ (ring : Ring) (bag : BagId) (tag : List ℕ) (request : Request three.federation a bag)
    (none : IsNoTag ring (says_known bag) tag)
  where
    abbrev forged : List ℕ
    forged = says_known bag ++ tag

    is_between : is_between_sites (says_known bag) ≡ true
    unfolding is_between_sites
    is_between = refl

    -- no key of the sites has sealed it
    not_sealed : (key text : List ℕ) → Has key ring.sites → forged ≡ sealed key text → ⊥
    not_sealed key text has e =
        none.other key has
        (same_tag (says_known bag) tag key text none.long e
        ∙ ap (λ t. tag_by key t) (sym (same_text (says_known bag) tag key text none.long e)))

    believed : (handed : List Post) → OnlySitesSeal three ring handed 0 forged
    believed handed key text message has e says of = absurd (not_sealed key text has e)

    text_length : length forged - tag_len ≡ length (says_known bag)
    text_length = omega (arith, length-append (says_known bag) tag, none.long)

    text_is : text_in forged ≡ says_known bag
    text_is = rw text_length (take-append_seam (says_known bag) tag)

    nothing : handed_on (Some ring) forged ≡ []
    nothing = go (opened_by ring forged) refl
      where
        go : (o : Option (List ℕ)) → opened_by ring forged ≡ o → unwrap_or o [] ≡ []
        go None e = refl
        go (Some text) e =
            let same : says_known bag ≡ text = sym text_is ∙ opened_is ring forged text e in
            let (key, has, by) =
            by_a_site ring forged text (subst (λ t. is_between_sites t ≡ true) same is_between) e in
            absurd (not_sealed key text has by)

    dropped : DropsBoth [] bag
    dropped =
        noise_is_dropped [] bag (λ place. omega arith)
        (ap (request_in 0) (no_message three.federation)) request

    slot_fits : Bytes (slot_bytes a)
    slot_fits = (omega arith, (omega arith, of_number 4 1))

    fits : AreBytes forged
    fits =
        appended (says_known bag) tag
        (of_message three.federation (record { slot = a; body = Known 2 bag }) (omega arith)
        (omega arith) slot_fits (of_bag request.facts bag request.checked))
        none.bytes

    hears : (f : Federation Disk) → IsHandedOn three (ring ∷ []) f.handed dropped.noise.turn.took
    hears f =
        subst (λ (turn : Turned). IsHandedOn three (ring ∷ []) f.handed turn.took)
        (sym dropped.noise_is)
        (ring, here refl, forged, fits, believed f.handed, sym nothing)

    pub drops_a_forgery : DropsAForgery ring bag tag
    unfolding MayAll MayAllWithKeys
    drops_a_forgery = record {
      start = dropped.start;
      step = dropped.noise;
      unsent = (none_yet dropped.start dropped.happens.0).1;
      believed = believed [];
      nothing = nothing;
      dropped = dropped.noise_is;
      happens = (
        (
          rw (none_yet dropped.start dropped.happens.0).0 tt,
          λ comes. dropped.happens.0,
        ),
        ((hears (after new_federation dropped.start), λ comes. dropped.happens.1.0), tt),
      );
    }

pub a_forged_known_is_dropped : AForgedKnownIsDropped
a_forged_known_is_dropped ring bag tag request none = drops_a_forgery ring bag tag request none
