-- What a port with keys hands on may come; and what may come, a port with keys may hand on.
use Rattle.std.proofs.Common.{◌≡◌, ◌<◌, ◌-◌, true, false, ℕ, zero, suc, Bool, List, [], ◌∷◌, ◌++◌}
use Rattle.std.proofs.Common.{length, drop, Option, Some, None, refl, sym, ap, ◌∙◌}
use Rattle.std.proofs.Common.{subst, arith, inl, inr, if◌then◌else◌}
use Rattle.std.specs.Prelude.{unwrap_or, slice_index, slice_index_or}
use Rattle.std.specs.Int.{w32, to_be_bytes}
use Rattle.std.specs.List.{Any}
use Rattle.std.proofs.lemmas.Bool.{cases_lt}
use Rattle.std.proofs.lemmas.List.{take-append-drop, get_or_append_left, get_or-append_right}
use Rattle.sha2.specs.Sha256.{sha256, digest_bytes}
use Rattle.fed_types.specs.Lists.{Has, here, there}
use Rattle.fed_types.specs.Laws.Lists.{has_none}
use Rattle.fed_types.specs.Sites.{Membership}
use Rattle.fields.proofs.Bytes.{IsBytes-prefix}
use Rattle.dgram.specs.Decoded.{message_of}
use Rattle.dgram.specs.Encoding.{kind_of}
use Rattle.dgram.proofs.MessageOf.{message_of-found}
use Rattle.dgram.specs.declared.body.Body.{Body}
use Rattle.dgram.specs.declared.body.Body.TheVariants as bodies
use Rattle.dgram.specs.declared.message.Message.{Message}
use Rattle.tags.specs.Hmac.{tag_len, tag_by}
use Rattle.tags.specs.Tags.{sealed, text_in}
use Rattle.tags.specs.Rings.{Ring, is_between_sites, keys_for, sealed_first, sealed_by}
use Rattle.tags.specs.Rings.{is_sealed_by, opened_by}
use Rattle.tags.proofs.SealLemmas.{sealed_from_opened, opened_from_sealed, text_in-sealed}
use Rattle.udp_site.specs.Requests.{Says, request_by, request_in, request_of}
use Rattle.udp_site.specs.Signs.{kind_byte}
use Rattle.udp_site.specs.Traffic.{Post, Taken, Nothing, From}
use Rattle.serving_law.specs.Rules.{AreBytes, IsOfMember, WereHanded, MayCome}
use Rattle.serving_law.proofs.DatagramBytes.{Bytes, each_is, joined, of_number}
use Rattle.sealing_law.specs.Laws.{HandedOnMayCome}
use Rattle.sealing_law.specs.Sealing.{OnlySitesSeal, IsHandedOn}

-- ---- bytes

-- what is opened is the beginning of what came
pub opened_is : (ring : Ring) (bytes text : List ℕ) → opened_by ring bytes ≡ Some text
    → text_in bytes ≡ text
unfolding opened_by
opened_is ring bytes text e = go (is_sealed_by ring bytes) e
  where
    go : (t : Bool) → (if t then Some (text_in bytes) else None) ≡ Some text → text_in bytes ≡ text
    go true e = cc e
    go false e = absurd (cc e)

begins : (bytes text : List ℕ) → AreBytes bytes → text_in bytes ≡ text → AreBytes text
begins bytes text are is =
    subst AreBytes is
    (IsBytes-prefix (text_in bytes) (drop (length bytes - tag_len) bytes)
    (subst AreBytes (sym (take-append-drop (length bytes - tag_len) bytes)) are))

pub appended : (xs ys : List ℕ) → AreBytes xs → AreBytes ys → AreBytes (xs ++ ys)
appended xs ys are more place =
    elim (cases_lt place (length xs)) [
      | inl below ↦ rw (get_or_append_left xs ys 0 place below) (are place)
      | inr past ↦
          rw (get_or-append_right xs ys (length xs) place 0 refl past) (more (place - length xs))
    ]

digest_fits : (h : List ℕ) (n : ℕ) → Bytes (digest_bytes h n)
unfolding digest_bytes
digest_fits h zero = tt
digest_fits h (suc n) =
    joined (digest_bytes h n) (to_be_bytes w32 (slice_index h n)) (digest_fits h n)
    (of_number 4 (slice_index h n))

pub tag_fits : (key text : List ℕ) → AreBytes (tag_by key text)
unfolding tag_by sha256
tag_fits key text = each_is _ (digest_fits _ 8)

-- ---- who seals

has_at : (xs : List (List ℕ)) (k : ℕ) (x : List ℕ) → k < length xs → slice_index_or xs k x ≡ x
    → Has x xs
has_at [] k x below e = absurd (omega (arith, below))
has_at (y ∷ xs) zero x below e = here e
has_at (y ∷ xs) (suc k) x below e = there (has_at xs k x (omega (arith, below)) e)

-- a message between sites that is opened has a tag by a key of the sites
pub by_a_site : (ring : Ring) (bytes text : List ℕ) → is_between_sites text ≡ true
    → opened_by ring bytes ≡ Some text
    → (key : List ℕ) × Has key ring.sites × (bytes ≡ sealed key text)
unfolding keys_for
by_a_site ring bytes text between opened =
    let (k, key, below, at, by) = its in (key, has_at ring.sites k key below at, by)
  where
    its : Any (λ key. bytes ≡ sealed key text) ring.sites
    its =
        subst (λ t. Any (λ key. bytes ≡ sealed key text) (if t then ring.sites else ring.clients))
        between (sealed_from_opened ring text bytes opened)

-- what is said to a site is of a kind between sites
said_kind : (port : ℕ) (m message : Message) (body : Body) (text : List ℕ)
    → request_by port m body ≡ Says message → kind_byte text ≡ kind_of body
    → is_between_sites text ≡ true
unfolding is_between_sites
said_kind port m message (bodies.Prepare ballot) text says kind = rw kind refl
said_kind port m message (bodies.Promise from ballot prior) text says kind = rw kind refl
said_kind port m message (bodies.Accept vote) text says kind = rw kind refl
said_kind port m message (bodies.Accepted from vote) text says kind = rw kind refl
said_kind port m message (bodies.Refused from asked standing) text says kind = rw kind refl
said_kind port m message (bodies.Ask from) text says kind = rw kind refl
said_kind port m message (bodies.Known from bag) text says kind = rw kind refl
said_kind port m message (bodies.Deposit path) text says kind = absurd (cc says)
said_kind port m message bodies.Query text says kind = absurd (cc says)
said_kind port m message bodies.Recover text says kind = absurd (cc says)
said_kind port m message (bodies.DepositReply from answer) text says kind = absurd (cc says)
said_kind port m message (bodies.QueryReply from answer) text says kind = absurd (cc says)

said_is_between : (federation port : ℕ) (text : List ℕ) (message : Message) → AreBytes text
    → request_of federation (From port text) ≡ Says message → is_between_sites text ≡ true
said_is_between federation port text message are says = go (message_of federation text) refl says
  where
    go : (o : Option Message) → message_of federation text ≡ o → request_in port o ≡ Says message
        → is_between_sites text ≡ true
    go None e says = absurd (cc says)
    go (Some m) e says = said_kind port m message m.body text says
        (ap kind_byte (message_of-found federation text m are e).1)

-- ---- what is handed on may come

-- no bytes are no message
pub no_message : (federation : ℕ) → message_of federation [] ≡ None
unfolding message_of
no_message federation = refl

pub handed_on_may_come : HandedOnMayCome
handed_on_may_come members rings handed Nothing is = tt
handed_on_may_come members rings handed (From port datagram)
    (ring, has_ring, bytes, are, only, same) =
    subst (λ (d : List ℕ). MayCome members handed (From port d)) (sym same)
    (go (opened_by ring bytes) refl)
  where
    go : (o : Option (List ℕ)) → opened_by ring bytes ≡ o
        → MayCome members handed (From port (unwrap_or o []))
    go None e = (
      λ place. omega arith,
      λ message says of. absurd (cc (
        sym (ap (request_in port) (no_message members.federation)),
        says,
      )),
    )
    go (Some text) e = (text_are, handed_out)
      where
        text_are : AreBytes text
        text_are = begins bytes text are (opened_is ring bytes text e)

        handed_out : (message : Message)
            → request_of members.federation (From port text) ≡ Says message
            → IsOfMember members message → WereHanded handed text
        handed_out message says of =
            let between =
            said_is_between members.federation port text message text_are says in
            let (key, has, by) = by_a_site ring bytes text between e in
            only key text message has by says of

-- ---- what may come may be handed on

module _ (rings : List Ring) (ring : Ring) (site client : List ℕ) (has_ring : Has ring rings)
    (a_site : Has site ring.sites) (a_client : Has client ring.clients)
  where
    first_of : (keys : List (List ℕ)) (key text : List ℕ) → Has key keys
        → (first : List ℕ) × (sealed_first keys text ≡ Some (sealed first text))
    first_of [] key text has = absurd (has_none has)
    first_of (first ∷ keys) key text has = (first, refl)

    -- there is a key for each datagram
    sealed_with : (text : List ℕ) → (key : List ℕ) × (sealed_by ring text ≡ Some (sealed key text))
    unfolding sealed_by keys_for
    sealed_with text = go (is_between_sites text)
      where
        go : (t : Bool) → (key : List ℕ)
            × (sealed_first (if t then ring.sites else ring.clients) text ≡ Some (sealed key text))
        go true = first_of ring.sites site text a_site
        go false = first_of ring.clients client text a_client

    pub may_be_handed_on : (members : Membership) (handed : List Post) (taken : Taken)
        → MayCome members handed taken → IsHandedOn members rings handed taken
    may_be_handed_on members handed Nothing may = tt
    may_be_handed_on members handed (From port datagram) (are, may) =
        let (key, by) = sealed_with datagram in (
          ring,
          has_ring,
          sealed key datagram,
          appended datagram (tag_by key datagram) are (tag_fits key datagram),
          only key,
          sym (ap (λ o. unwrap_or o [])
              (opened_from_sealed ring datagram (sealed key datagram) by)),
        )
      where
        only : (key : List ℕ) → OnlySitesSeal members ring handed port (sealed key datagram)
        only key other text message has e says of =
            let same : datagram ≡ text =
            sym (text_in-sealed key datagram) ∙ ap (λ b. text_in b) e ∙ text_in-sealed other text in
            subst (λ t. WereHanded handed t) same
            (may message (subst (λ t. request_of members.federation (From port t) ≡ Says message)
            (sym same) says) of)
