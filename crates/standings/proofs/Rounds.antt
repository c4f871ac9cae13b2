-- Sites that are asked and heard, one after another.
use Rattle.std.proofs.Common.{◌≡◌, ℕ, ◌+◌, ◌<◌, Bool, true, false, List, [], ◌∷◌, ◌++◌, length, map}
use Rattle.std.proofs.Common.{take, drop, get_or, Option, Result, Ok, Err, refl, sym, ap}
use Rattle.std.proofs.Common.{subst, ◌∙◌, cond, arith}
use Rattle.std.proofs.Math.ListN.{set}
use Rattle.std.proofs.lemmas.List.{take_more_set, map_more, map-append, drop-set-lt}
use Rattle.std.proofs.lemmas.List.{get_or-drop, drop-drop}
use Rattle.std.proofs.lemmas.List.Elements.{filter-append}
use Rattle.std.specs.Prelude.{OnOk}
use Rattle.std.specs.declared.alloc.AllocError.{AllocError}
use Rattle.udp_site.specs.Traffic.{Move, Took, Failed, Handed, Nothing, From, Grows}
use Rattle.udp_site.specs.Status.{status_question}
use Rattle.udp_site.proofs.Growth.{Grows-trans, Grows-none}
use Rattle.standings.specs.declared.polled.Polled.{Polled}
use Rattle.standings.specs.Rounds.{is_open, asked, hears, AreHeard}
use Rattle.standings.specs.inner.{HaveListened, HasRound, HaveAsked}

-- ---- what is heard

module _ (federation : ℕ) where
  -- first in some moves, and then in others
  pub heard_both : (a b c : List Polled) (m n : List Move) → AreHeard federation a m b
      → AreHeard federation b n c → AreHeard federation a (m ++ n) c
  heard_both a b c [] n p q = subst (λ (s : List Polled). AreHeard federation s n c) p q
  heard_both a b c (Took Nothing ∷ m) n p q = heard_both a b c m n p q
  heard_both a b c (Took (From from bytes) ∷ m) n (millis, p) q =
      (millis, heard_both (map (hears federation from bytes millis) a) b c m n p q)
  heard_both a b c (Failed ∷ m) n p q = heard_both a b c m n p q
  heard_both a b c (Handed post ∷ m) n p q = absurd p

  pub listened_twice : (a b c : Option (List Move)) (r s t : List Polled)
      → HaveListened federation a b r s → HaveListened federation b c s t
      → HaveListened federation a c r t
  listened_twice a b c r s t (m, p, heard) (n, q, then) =
      (m ++ n, Grows-trans a b c m n p q, heard_both r s t m n heard then)

  -- a datagram came, which may be an answer
  pub listened_once : (a b : Option (List Move)) (r s : List Polled) (from : ℕ) (bytes : List ℕ)
      (millis : ℕ) → Grows a b (Took (From from bytes) ∷ [])
      → s ≡ map (hears federation from bytes millis) r → HaveListened federation a b r s
  listened_once a b r s from bytes millis grows is =
      (Took (From from bytes) ∷ [], grows, (millis, is))

-- ---- who is asked

module _ (federation : ℕ) where
  asked_both : (xs ys : List Polled)
      → asked federation (xs ++ ys) ≡ asked federation xs ++ asked federation ys
  asked_both xs ys =
      ap (map (λ p. Handed (p.address, status_question federation)))
      (filter-append (λ p. is_open p.heard) xs ys)
      ∙ map-append (λ p. Handed (p.address, status_question federation)) _ _

  asked_by : (p : Polled) (waits : Bool) → is_open p.heard ≡ waits
      → asked federation (p ∷ [])
      ≡ cond waits (Handed (p.address, status_question federation) ∷ []) []
  asked_by p true is =
      ap (λ (b : Bool). map (λ p. Handed (p.address, status_question federation))
      (cond b (p ∷ []) [])) is
  asked_by p false is =
      ap (λ (b : Bool). map (λ p. Handed (p.address, status_question federation))
      (cond b (p ∷ []) [])) is

  -- a site that has answered isn't asked
  pub not_asked : (p : Polled) (a : Option (List Move)) → is_open p.heard ≡ false
      → Grows a a (asked federation (p ∷ []))
  not_asked p a is = subst (Grows a a) (sym (asked_by p false is)) (Grows-none a)

  -- another is
  pub asks : (p : Polled) (a b : Option (List Move)) (question : List ℕ)
      → is_open p.heard ≡ true → question ≡ status_question federation
      → Grows a b (Handed (p.address, question) ∷ []) → Grows a b (asked federation (p ∷ []))
  asks p a b question is same grows =
      subst (Grows a b) (sym (asked_by p true is))
      (subst (λ (q : List ℕ). Grows a b (Handed (p.address, q) ∷ [])) same grows)

  -- ---- rounds

  pub round : (a b c : Option (List Move)) (r s : List Polled)
      → Grows a b (asked federation r) → HaveListened federation b c r s
      → HasRound federation a c r s
  round a b c r s p (others, q, heard) =
      (asked federation r ++ others, Grows-trans a b c _ _ p q, (others, refl, heard))

  pub rounds : (a b c d : Option (List Move)) (r s t u : List Polled)
      → HasRound federation a b r s → HasRound federation b c s t → HasRound federation c d t u
      → HaveAsked federation a d r u
  rounds a b c d r s t u (first, p, one) (second, q, two) (third, o, three) = (
    first ++ (second ++ third),
    Grows-trans a b d first (second ++ third) p (Grows-trans b c d second third q o),
    (s, t, first, second, third, refl, one, two, three),
  )

-- ---- a list in which each is changed in turn

module _ (old now : List Polled) (place : ℕ) (d : Polled) (drops : drop place now ≡ drop place old)
  where
    same_at : get_or now place d ≡ get_or old place d
    same_at =
        ap (λ (k : ℕ). get_or now k d) (omega arith)
        ∙ (sym (get_or-drop place now 0 d)
        ∙ (ap (λ (l : List Polled). get_or l 0 d) drops
        ∙ (get_or-drop place old 0 d ∙ ap (λ (k : ℕ). get_or old k d) (omega arith))))

    drop_next : drop (place + 1) now ≡ drop (place + 1) old
    drop_next = sym (drop-drop 1 place now) ∙ (ap (drop 1) drops ∙ drop-drop 1 place old)

    pub one_more : (f : Polled → Polled) (y : Polled) → place < length old → place < length now
        → y ≡ f (get_or now place d) → take place now ≡ map f (take place old)
        → (take (place + 1) (set now place y) ≡ map f (take (place + 1) old))
        × (drop (place + 1) (set now place y) ≡ drop (place + 1) old)
    one_more f y within within_now is so_far = (
      take_more_set now place y within_now
          ∙ (ap (λ (l : List Polled). l ++ y ∷ []) so_far
          ∙ (ap (λ (z : Polled). map f (take place old) ++ z ∷ []) (is ∙ ap f same_at)
          ∙ sym (map_more f old place d within))),
      drop-set-lt (place + 1) now place y (omega arith) ∙ drop_next,
    )

-- ---- results

pub ok_then : {A B : Type 0} (result : Result (Unit {0}) AllocError) → (A → B) → OnOk result A
    → OnOk result B
ok_then (Ok x) f a = f a
ok_then (Err e) f a = tt
