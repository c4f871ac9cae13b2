-- Who is asked, and what came of it, over all rounds.
use Rattle.std.proofs.Common.{◌≡◌, ℕ, ◌==◌, ◌&&◌, Bool, true, false, cond, inl, inr, ◌⊎◌, refl, sym}
use Rattle.std.proofs.Common.{ap, ◌∙◌, subst, List, [], ◌∷◌, ◌++◌, map, filter, Option, Some, None}
use Rattle.std.specs.Option.{option_map}
use Rattle.std.proofs.lemmas.Bool.{eqb-true}
use Rattle.fed_types.specs.Lists.{Has, here, there}
use Rattle.fed_types.specs.Laws.Lists.{has_none, has_map, has_left, has_right, has_cases}
use Rattle.udp_site.specs.declared.status.Standing.{Standing}
use Rattle.udp_site.specs.Status.{status_question}
use Rattle.udp_site.specs.Traffic.{Post, Move, Took, Failed, Handed, Nothing, From}
use Rattle.standings.specs.declared.polled.Heard.{Heard}
use Rattle.standings.specs.declared.polled.Polled.{Polled}
use Rattle.standings.specs.Answers.{standing_in}
use Rattle.standings.specs.Laws.{IsQuestion, NothingElseIsHandedOut, IsAnswered}
use Rattle.standings.specs.Laws.{WhatIsHeardWasAnswered, SitesStay, site_at}
use Rattle.standings.specs.Rounds.{is_open, asked, after, hears, AreHeard, IsRound, AreAsked}

module _ (federation : ℕ) where
  -- ---- a site, before some moves and after them

  record Goes (p q : Polled) (moves : List Move) : Type 0 where
    site : p.site ≡ q.site
    address : p.address ≡ q.address
    silent : q.heard ≡ None → p.heard ≡ None
    heard : (it : Heard) → q.heard ≡ Some it → (p ≡ q) ⊎ IsAnswered federation q moves it

  stays : (p : Polled) (moves : List Move) → Goes p p moves
  stays p moves = record {
    site = refl;
    address = refl;
    silent = λ none. none;
    heard = λ it is. inl refl;
  }

  more : (p : Polled) (it : Heard) (m n : List Move)
      → ((move : Move) → Has move m → Has move n) → IsAnswered federation p m it
      → IsAnswered federation p n it
  more p it m n all is = record { bytes = is.bytes; came = all _ is.came; says = is.says }

  goes_on : (p q r : Polled) (m n : List Move) → Goes p q m → Goes q r n → Goes p r (m ++ n)
  goes_on p q r m n g h = record {
    site = g.site ∙ h.site;
    address = g.address ∙ h.address;
    silent = λ none. g.silent (h.silent none);
    heard = λ it is. go it is (h.heard it is);
  }
    where
      go : (it : Heard) → r.heard ≡ Some it → (q ≡ r) ⊎ IsAnswered federation r n it
          → (p ≡ r) ⊎ IsAnswered federation r (m ++ n) it
      go it is (inr now) = inr (more r it n (m ++ n) (λ move h. has_right m h) now)
      go it is (inl same) = then (g.heard it (ap (λ (x : Polled). x.heard) same ∙ is))
        where
          then : (p ≡ q) ⊎ IsAnswered federation q m it
              → (p ≡ r) ⊎ IsAnswered federation r (m ++ n) it
          then (inl also) = inl (also ∙ same)
          then (inr old) =
              inr (more r it m (m ++ n) (λ move h. has_left n h)
              (subst (λ (x : Polled). IsAnswered federation x m it) same old))

  -- a datagram comes
  hears_one : (from : ℕ) (bytes : List ℕ) (millis : ℕ) (p : Polled)
      → Goes p (hears federation from bytes millis p) (Took (From from bytes) ∷ [])
  hears_one from bytes millis p = go (is_open p.heard && p.address == from) refl
    where
      answered : Polled
      answered = record p {
        heard = option_map (after millis) (standing_in federation p.site bytes);
      }

      none_yet : (o : Option Heard) (t : Bool) → (is_open o && t) ≡ true → o ≡ None
      none_yet None t e = refl
      none_yet (Some it) t e = absurd (cc e)

      is_from : (s t : Bool) → (s && t) ≡ true → t ≡ true
      is_from true t e = e
      is_from false t e = absurd (cc e)

      numbers : (o : Option Standing) (it : Heard) → option_map (after millis) o ≡ Some it
          → o ≡ Some it.standing
      numbers None it e = absurd (cc e)
      numbers (Some s) it e =
          let same : after millis s ≡ it = cc in ap (λ (h : Heard). Some h.standing) same

      go : (t : Bool) → (is_open p.heard && p.address == from) ≡ t
          → Goes p (cond t answered p) (Took (From from bytes) ∷ [])
      go false e = stays p (Took (From from bytes) ∷ [])
      go true e = record {
        site = refl;
        address = refl;
        silent = λ none. none_yet p.heard (p.address == from) e;
        heard = λ it is. inr (record {
          bytes = bytes;
          came =
              here (ap (λ (a : ℕ). Took (From a bytes))
              (sym (eqb-true p.address from (is_from (is_open p.heard) (p.address == from) e))));
          says = numbers (standing_in federation p.site bytes) it is;
        });
      }

  -- ---- each site after some moves was there before

  abbrev WasThere : List Polled → List Move → Polled → Type 0
  WasThere before moves q = (p : Polled) × Has p before × Goes p q moves

  wider : (before : List Polled) (m n : List Move) (q : Polled) → WasThere before n q
      → WasThere before (m ++ n) q
  wider before m n q (p, has, goes) = (p, has, goes_on p p q m n (stays p m) goes)

  heard_of : (before sites : List Polled) (moves : List Move)
      → AreHeard federation before moves sites → (q : Polled) → Has q sites
      → WasThere before moves q
  heard_of before sites [] is q h = (q, subst (λ (xs : List Polled). Has q xs) is h, stays q [])
  heard_of before sites (Took Nothing ∷ moves) are q h =
      wider before (Took Nothing ∷ []) moves q (heard_of before sites moves are q h)
  heard_of before sites (Took (From from bytes) ∷ moves) (millis, are) q h =
      let there_then = heard_of (map (hears federation from bytes millis) before) sites moves are q
      h
      in
      let was = has_map (hears federation from bytes millis) before there_then.1 in (
        was.0,
        was.1,
        goes_on was.0 there_then.0 q (Took (From from bytes) ∷ []) moves
            (subst (λ (x : Polled). Goes was.0 x (Took (From from bytes) ∷ [])) was.2
            (hears_one from bytes millis was.0))
            there_then.2,
      )
  heard_of before sites (Failed ∷ moves) are q h =
      wider before (Failed ∷ []) moves q (heard_of before sites moves are q h)
  heard_of before sites (Handed post ∷ moves) are q h = absurd are

  in_round : (before sites : List Polled) (moves : List Move)
      → IsRound federation before moves sites → (q : Polled) → Has q sites
      → WasThere before moves q
  in_round before sites moves (others, is, are) q h =
      subst (λ (m : List Move). WasThere before m q) (sym is)
      (wider before (asked federation before) others q (heard_of before sites others are q h))

  then_after : (before sites : List Polled) (m n : List Move)
      → ((p : Polled) → Has p sites → WasThere before m p) → (q : Polled) → WasThere sites n q
      → WasThere before (m ++ n) q
  then_after before sites m n first q (p, has, goes) =
      let f = first p has in (f.0, f.1, goes_on f.0 p q m n f.2 goes)

  asked_of : (sites heard : List Polled) (moves : List Move)
      → AreAsked federation sites moves heard → (q : Polled) → Has q heard
      → WasThere sites moves q
  asked_of sites heard moves (one, two, first, second, third, is, r, s, t) q h =
      subst (λ (m : List Move). WasThere sites m q) (sym is)
      (then_after sites one first (second ++ third) (in_round sites one first r) q
      (then_after one two second third (in_round one two second s) q
      (in_round two heard third t q h)))

  -- ---- what is handed out

  none_handed : (before sites : List Polled) (moves : List Move) (post : Post)
      → AreHeard federation before moves sites → Has (Handed post) moves → ⊥
  none_handed before sites [] post are h = has_none h
  none_handed before sites (Took Nothing ∷ moves) post are (here e) = absurd (cc e)
  none_handed before sites (Took Nothing ∷ moves) post are (there h) =
      none_handed before sites moves post are h
  none_handed before sites (Took (From from bytes) ∷ moves) post are (here e) = absurd (cc e)
  none_handed before sites (Took (From from bytes) ∷ moves) post (millis, are) (there h) =
      none_handed (map (hears federation from bytes millis) before) sites moves post are h
  none_handed before sites (Failed ∷ moves) post are (here e) = absurd (cc e)
  none_handed before sites (Failed ∷ moves) post are (there h) =
      none_handed before sites moves post are h
  none_handed before sites (Handed other ∷ moves) post are h = absurd are

  has_open : (p : Polled) (sites : List Polled)
      → Has p (filter (λ (x : Polled). is_open x.heard) sites)
      → Has p sites × (is_open p.heard ≡ true)
  has_open p [] h = absurd (has_none h)
  has_open p (q ∷ sites) h = go (is_open q.heard) refl (λ k. has_open p sites k) h
    where
      go : (t : Bool) → is_open q.heard ≡ t
          → (Has p (filter (λ (x : Polled). is_open x.heard) sites)
          → Has p sites × (is_open p.heard ≡ true))
          → Has p (cond t (q ∷ filter (λ (x : Polled). is_open x.heard) sites)
          (filter (λ (x : Polled). is_open x.heard) sites))
          → Has p (q ∷ sites) × (is_open p.heard ≡ true)
      go true e rest (here is) =
          (here is, subst (λ (x : Polled). is_open x.heard ≡ true) is e)
      go true e rest (there k) = let r = rest k in (there r.0, r.1)
      go false e rest k = let r = rest k in (there r.0, r.1)

  none_of : (o : Option Heard) → is_open o ≡ true → o ≡ None
  none_of None e = refl
  none_of (Some it) e = absurd (cc e)

  is_question : (sites : List Polled) (post : Post) → Has (Handed post) (asked federation sites)
      → IsQuestion federation sites post
  is_question sites post h =
      let from = has_map (λ (p : Polled). Handed (p.address, status_question federation))
      (filter (λ (p : Polled). is_open p.heard) sites) h in
      let passed = has_open from.0 sites from.1 in
      let same : post ≡ (from.0.address, status_question federation) =
      posts_same (from.0.address, status_question federation) from.2 in
      record {
        site = from.0;
        among = passed.0;
        silent = none_of from.0.heard passed.1;
        question = same;
      }
    where
      posts_same : (it : Post) → Handed it ≡ Handed post → post ≡ it
      posts_same it e = cc

  of_round : (before sites : List Polled) (moves : List Move)
      → IsRound federation before moves sites → (post : Post) → Has (Handed post) moves
      → IsQuestion federation before post
  of_round before sites moves (others, is, are) post h =
      elim (has_cases (asked federation before) others
      (subst (λ (m : List Move). Has (Handed post) m) is h)) [
        | inl handed ↦ is_question before post handed
        | inr other ↦ absurd (none_handed before sites others post are other)
      ]

  -- a question to a site that was there before is one of those before
  was_question : (before sites : List Polled) (m : List Move)
      → ((p : Polled) → Has p sites → WasThere before m p) → (post : Post)
      → IsQuestion federation sites post → IsQuestion federation before post
  was_question before sites m first post q =
      let f = first q.site q.among in
      record {
        site = f.0;
        among = f.1;
        silent = f.2.silent q.silent;
        question =
            q.question
            ∙ ap (λ (a : ℕ). (a, status_question federation)) (sym f.2.address);
      }

  handed_of : (sites heard : List Polled) (moves : List Move)
      → AreAsked federation sites moves heard → (post : Post) → Has (Handed post) moves
      → IsQuestion federation sites post
  handed_of sites heard moves (one, two, first, second, third, is, r, s, t) post h =
      elim (has_cases first (second ++ third)
      (subst (λ (m : List Move). Has (Handed post) m) is h)) [
        | inl in_first ↦ of_round sites one first r post in_first
        | inr later ↦ elim (has_cases second third later) [
          | inl in_second ↦ was_question sites one first (in_round sites one first r) post
              (of_round one two second s post in_second)
          | inr in_third ↦ was_question sites one first (in_round sites one first r) post
              (was_question one two second (in_round one two second s) post
              (of_round two heard third t post in_third))
        ]
      ]

  -- ---- the sites themselves

  same_site : (from : ℕ) (bytes : List ℕ) (millis : ℕ) (sites : List Polled)
      → map site_at (map (hears federation from bytes millis) sites) ≡ map site_at sites
  same_site from bytes millis [] = refl
  same_site from bytes millis (p ∷ sites) =
      let g = hears_one from bytes millis p in
      let rest = same_site from bytes millis sites in
      let at : site_at (hears federation from bytes millis p) ≡ site_at p = site_same p _ g in
      cons_both at rest
    where
      site_same : (p q : Polled) → Goes p q (Took (From from bytes) ∷ []) → site_at q ≡ site_at p
      site_same p q g =
          ap (λ (s : ℕ). (s, q.address)) (sym g.site) ∙ ap (λ (a : ℕ). (p.site, a)) (sym g.address)

      cons_both : {x y : ℕ × ℕ} {xs ys : List (ℕ × ℕ)} → x ≡ y → xs ≡ ys → (x ∷ xs) ≡ (y ∷ ys)
      cons_both e f = cc

  heard_sites : (before sites : List Polled) (moves : List Move)
      → AreHeard federation before moves sites → map site_at sites ≡ map site_at before
  heard_sites before sites [] is = ap (λ (xs : List Polled). map site_at xs) is
  heard_sites before sites (Took Nothing ∷ moves) are = heard_sites before sites moves are
  heard_sites before sites (Took (From from bytes) ∷ moves) (millis, are) =
      heard_sites (map (hears federation from bytes millis) before) sites moves are
      ∙ same_site from bytes millis before
  heard_sites before sites (Failed ∷ moves) are = heard_sites before sites moves are
  heard_sites before sites (Handed post ∷ moves) are = absurd are

pub nothing_else : NothingElseIsHandedOut
nothing_else federation sites heard moves post are h =
    handed_of federation sites heard moves are post h

pub was_answered : WhatIsHeardWasAnswered
was_answered federation sites heard moves p it are has is =
    let was = asked_of federation sites heard moves are p has in
    elim (was.2.heard it is) [
      | inl same ↦ inl (subst (λ (x : Polled). Has x sites) same was.1)
      | inr answered ↦ inr answered
    ]

pub sites_stay : SitesStay
sites_stay federation sites heard moves (one, two, first, second, third, is, r, s, t) =
    heard_sites federation two heard t.0 t.2
    ∙ (heard_sites federation one two s.0 s.2 ∙ heard_sites federation sites one r.0 r.2)
