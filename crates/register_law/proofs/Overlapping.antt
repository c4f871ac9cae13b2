-- Accounts of members, put together in the order in which their happenings begin.
use Rattle.std.proofs.Common.{ℕ, ◌≡◌, inl, inr, refl, ◌==◌, Bool, true, false, cond, eq-eqb, List}
use Rattle.std.proofs.Common.{[], ◌∷◌, ◌++◌, Option, Some}
use Rattle.std.proofs.lemmas.Bool.{eqb-true}
use Rattle.std.specs.Prelude.{IfSome}
use Rattle.fed_types.specs.Lists.{Has, here, there}
use Rattle.fed_types.specs.Sites.{Membership}
use Rattle.fed_types.specs.Laws.Lists.{has_none, has_left, has_right, has_cases, has_one}
use Rattle.cell_device.specs.Devices.{Device}
use Rattle.udp_site.specs.Traffic.{Post, Taken, From}
use Rattle.serving_law.specs.Federations.{Federation, Happening, Turns, after}
use Rattle.serving_law.specs.Rules.{MayCome, MayAll}
use Rattle.register_law.specs.Overlaps.{member_at, taken_in, handed_out, own_after, at_member}
use Rattle.register_law.specs.Overlaps.{IsAccount, Moment, Begins, HandsOut, begun, AreInTime}
use Rattle.register_law.specs.Overlaps.{OverlapsAreHistories}

-- all of these were handed out
abbrev AreAmong : List Post → List Post → Type 0
AreAmong some all = (post : Post) → Has post some → Has post all

-- what may come where these were handed out may come where more were
more_may_come : (members : Membership) (some all : List Post) → AreAmong some all
    → (o : Option Taken)
    → IfSome o (MayCome members some) → IfSome o (MayCome members all)
more_may_come members some all among (Some (From port bytes)) (are_bytes, handed) =
    (are_bytes, λ message e is. let w = handed message e is in (w.0, among (w.0, bytes) w.1))
more_may_come members some all among _ may = tt

module _ {C : Type 0} (device : C → Device) (members : Membership) where
  -- ---- what a happening makes of a federation

  own_now : (f : Federation C) (h : Happening C) (n : ℕ)
      → (after f h).members n
      ≡ cond (n == member_at h) (own_after (f.members (member_at h)) h) (f.members n)
  own_now f (Turns n step handed written) k = refl
  own_now f _ k = refl

  handed_now : (f : Federation C) (h : Happening C)
      → (after f h).handed ≡ f.handed ++ handed_out h
  handed_now f (Turns n step handed written) = refl
  handed_now f _ = refl

  module _ (f : Federation C) (h : Happening C) where
    was_handed : AreAmong f.handed (after f h).handed
    was_handed post has = rw (handed_now f h) (has_left (handed_out h) has)

    is_handed : AreAmong (handed_out h) (after f h).handed
    is_handed post has = rw (handed_now f h) (has_right f.handed has)

    -- the member's account goes on after it, and the others' accounts stay
    goes_on : (history : List (Happening C)) (n : ℕ) (t : Bool) → (t ≡ true → n ≡ member_at h)
        → IsAccount device members (f.members n)
        (cond t (h ∷ at_member n history) (at_member n history))
        → IsAccount device members
        (cond t (own_after (f.members (member_at h)) h) (f.members n)) (at_member n history)
    unfolding IsAccount
    goes_on history n true same account = rw (← same refl) account.1
    goes_on history n false same account = account

  -- ---- all of them

  abbrev AreHanded : List (Happening C) → List Post → Type 0
  AreHanded earlier all = (h : Happening C) → Has h earlier → AreAmong (handed_out h) all

  one_more : (f : Federation C) (h : Happening C) (earlier : List (Happening C))
      → AreHanded earlier f.handed → AreHanded (h ∷ earlier) (after f h).handed
  one_more f h earlier out g (here is) post has = is_handed f h post (rw (← is) at has)
  one_more f h earlier out g (there k) post has = was_handed f h post (out g k post has)

  all_may : (moments : List (Moment C)) (handed : List Post) (earlier : List (Happening C))
      (f : Federation C)
      → ((n : ℕ) → IsAccount device members (f.members n) (at_member n (begun moments)))
      → AreAmong handed f.handed → AreHanded earlier f.handed
      → AreInTime members handed earlier moments
      → MayAll device members f (begun moments)
  unfolding MayAll IsAccount AreInTime at_member begun
  all_may [] handed earlier f accounts among out in_time = tt
  all_may (Begins h ∷ moments) handed earlier f accounts among out in_time =
      let its = rw (eq-eqb (member_at h) (member_at h) refl) at (accounts (member_at h)) in (
        its.0 f refl (more_may_come members handed f.handed among (taken_in h) in_time.0),
        all_may moments handed (h ∷ earlier) (after f h)
            (λ n. rw (own_now f h n)
            (goes_on f h (begun moments) n _ (eqb-true n (member_at h)) (accounts n)))
            (λ post has. was_handed f h post (among post has))
            (one_more f h earlier out)
            in_time.1,
      )
  all_may (HandsOut post ∷ moments) handed earlier f accounts among out in_time =
      all_may moments (handed ++ post ∷ []) earlier f accounts
      (λ p has. elim (has_cases handed (post ∷ []) has) [
        | inl old ↦ among p old
        | inr new ↦ out in_time.0.0 in_time.0.1 p (rw (has_one new) at in_time.0.2)
      ])
      out in_time.1

  pub overlaps_are_histories : OverlapsAreHistories device members
  overlaps_are_histories f moments accounts in_time =
      all_may moments f.handed [] f accounts (λ post has. has) (λ h has. absurd (has_none has))
      in_time
