-- Words on lists, on what is sent, and on what a message asks.
use Rattle.std.proofs.Common.{ℕ, zero, suc, ◌≡◌, ◌≤◌, ◌-◌, Bool, true, false, refl, sym, ap, subst}
use Rattle.std.proofs.Common.{◌∙◌, cond, List, [], ◌∷◌, ◌++◌, length, drop, map, Option, None, Some}
use Rattle.std.proofs.Common.{arith}
use Rattle.std.specs.List.{filter, flat_map}
use Rattle.std.specs.Option.{option_to_list}
use Rattle.std.specs.Prelude.{IsSome, slice_get}
use Rattle.fed_types.specs.Lists.{Has, here, there}
use Rattle.fed_types.specs.Laws.Lists.{has_none, has_left, has_right, has_map, map_has}
use Rattle.dgram.specs.declared.body.Body.{Body}
use Rattle.dgram.specs.declared.body.Body.TheVariants.{Prepare, Promise, Accept, Accepted, Refused}
use Rattle.dgram.specs.declared.body.Body.TheVariants.{Ask, Known, Deposit, Query, Recover}
use Rattle.dgram.specs.declared.body.Body.TheVariants.{DepositReply, QueryReply}
use Rattle.dgram.specs.declared.message.Message.{Message}
use Rattle.dgram.specs.Encoding.{datagram_of}
use Rattle.site.specs.declared.answer.Outgoing.{Outgoing}
use Rattle.site.specs.Datagrams.{handed_out, datagram}
use Rattle.site.specs.Effects.{Send}
use Rattle.world_law.specs.Networks.{datagram_at}
use Rattle.udp_site.specs.Requests.{Says, request_by}
use Rattle.udp_site.specs.Traffic.{Post}
use Rattle.udp_site.specs.Turns.{posts_to, outgoing_posts}
use Rattle.serving_law.proofs.Networks.{IsReplyBody}
use Rattle.serving_law.proofs.Spoken.{IsSiteBody}

-- ---- lists

-- what stands after the first so many stays there, and what is added does
pub drop_left : {X : Type 0} {x : X} (n : ℕ) (xs ys : List X) → Has x (drop n xs)
    → Has x (drop n (xs ++ ys))
drop_left zero xs ys h = has_left ys h
drop_left (suc n) [] ys h = absurd (has_none h)
drop_left (suc n) (x ∷ xs) ys h = drop_left n xs ys h

pub drop_right : {X : Type 0} {x : X} (n : ℕ) (xs ys : List X) → n ≤ length xs → Has x ys
    → Has x (drop n (xs ++ ys))
drop_right zero xs ys l h = has_right xs h
drop_right (suc n) [] ys l h = absurd (omega (arith, l))
drop_right (suc n) (x ∷ xs) ys l h = drop_right n xs ys (omega (arith, l)) h

pub flat_map_has : {X Y : Type 0} (f : X → List Y) (y : Y) (x : X) (xs : List X) → Has x xs
    → Has y (f x) → Has y (flat_map f xs)
flat_map_has f y x [] k h = absurd (has_none k)
flat_map_has f y x (z ∷ zs) (here e) h =
    has_left (flat_map f zs) (subst (λ w. Has y (f w)) (sym e) h)
flat_map_has f y x (z ∷ zs) (there k) h = has_right (f z) (flat_map_has f y x zs k h)

-- what passes a test, of a list
pub filter_has : {X : Type 0} (test : X → Bool) (x : X) (xs : List X) → Has x xs
    → test x ≡ true → Has x (filter test xs)
filter_has test x [] h passes = absurd (has_none h)
filter_has {X} test x (y ∷ ys) (here e) passes =
    subst (λ (t : Bool). Has x (cond t (y ∷ filter test ys) (filter test ys)))
    (sym (ap test e ∙ passes)) (here e)
filter_has test x (y ∷ ys) (there h) passes = go (test y) (filter_has test x ys h passes)
  where
    go : (t : Bool) → Has x (filter test ys) → Has x (cond t (y ∷ filter test ys) (filter test ys))
    go true rest = there rest
    go false rest = rest

at_has : {X : Type 0} (k : ℕ) (xs : List X) (x : X) → slice_get xs k ≡ Some x → Has x xs
at_has k [] x e = absurd (cc e)
at_has zero (y ∷ ys) x e = let f : y ≡ x = cc in here f
at_has (suc k) (y ∷ ys) x e = there (at_has k ys x e)

-- the datagram of a number was sent
pub sent_has : (number : ℕ) (sent : List Send) (d : Send) → datagram_at number sent ≡ Some d
    → Has d sent
sent_has zero sent d e = absurd (cc e)
sent_has (suc k) sent d e = at_has k sent d e

pub some_number : (o : Option ℕ) → IsSome o → (k : ℕ) × (o ≡ Some k)
some_number None h = absurd (cc h)
some_number (Some k) h = (k, refl)

-- ---- what is handed out

-- a datagram for a site goes to its port
pub post_has : (addresses : List ℕ) (site : ℕ) (bytes : List ℕ) (port : ℕ)
    → slice_get addresses (site - 1) ≡ Some port → Has (port, bytes) (posts_to addresses site bytes)
post_has addresses site bytes port e =
    subst (λ (o : Option ℕ).
    Has {X = Post} (port, bytes) (map (λ (p : ℕ). (p, bytes)) (option_to_list o))) (sym e)
    (here refl)

-- so does each that an answer sends
pub sent_is_posted : (federation : ℕ) (addresses : List ℕ) (items : List Outgoing) (sends : List
    Send)
    → map handed_out items ≡ map (datagram federation) sends → (d : Send) → Has d sends
    → (port : ℕ) → slice_get addresses (d.to - 1) ≡ Some port
    → Has (port, datagram_of federation d.message) (flat_map (outgoing_posts addresses) items)
sent_is_posted federation addresses items sends same d h port at =
    flat_map_has (outgoing_posts addresses) (port, datagram_of federation d.message) f.0 items f.1
    (subst (λ (p : ℕ × List ℕ).
    Has (port, datagram_of federation d.message) (posts_to addresses p.0 p.1)) (sym f.2)
    (post_has addresses d.to (datagram_of federation d.message) port at))
  where
    f : (o : Outgoing) × Has o items × (handed_out o ≡ datagram federation d)
    f =
        has_map handed_out items
        (subst (λ (xs : List (ℕ × List ℕ)). Has (datagram federation d) xs) (sym same)
        (map_has (datagram federation) h))

-- ---- what a message asks

pub site_says : (port : ℕ) (m : Message) (body : Body) → IsSiteBody body
    → request_by port m body ≡ Says m
site_says port m (Prepare ballot) is = refl
site_says port m (Promise from ballot prior) is = refl
site_says port m (Accept vote) is = refl
site_says port m (Accepted from vote) is = refl
site_says port m (Refused from asked standing) is = refl
site_says port m (Ask from) is = refl
site_says port m (Known from bag) is = refl
site_says port m (Deposit path) is = absurd is
site_says port m Query is = absurd is
site_says port m Recover is = absurd is
site_says port m (DepositReply from answer) is = absurd is
site_says port m (QueryReply from answer) is = absurd is

-- what a site says to another is no reply to a client
pub no_reply : (body : Body) → IsSiteBody body → IsReplyBody body → ⊥
no_reply (Prepare ballot) is reply = reply
no_reply (Promise from ballot prior) is reply = reply
no_reply (Accept vote) is reply = reply
no_reply (Accepted from vote) is reply = reply
no_reply (Refused from asked standing) is reply = reply
no_reply (Ask from) is reply = reply
no_reply (Known from bag) is reply = reply
no_reply (Deposit path) is reply = is
no_reply Query is reply = is
no_reply Recover is reply = is
no_reply (DepositReply from answer) is reply = is
no_reply (QueryReply from answer) is reply = is
