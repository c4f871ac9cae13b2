-- Datagrams that arrive, all in the order of their numbers or those of some numbers: where each is
-- of the slot, and goes to one of those that run, nothing disturbs them, and each one arrives.
use Rattle.std.proofs.Common.{ℕ, zero, suc, ◌≡◌, ◌≤◌, ◌<◌, ◌+◌, Bool, true, false, ◌&&◌, cond, inl}
use Rattle.std.proofs.Common.{inr, refl, ap, subst, List, [], ◌∷◌, length, Option, None, Some}
use Rattle.std.proofs.Common.{arith}
use Rattle.std.specs.Prelude.{slice_get}
use Rattle.std.proofs.lemmas.Bool.{cases_eq, and_parts, false≢true}
use Rattle.std.proofs.lemmas.Option.{slice_get_within}
use Rattle.fed_types.specs.Lists.{Has, here, there, is_in}
use Rattle.fed_types.specs.Quorums.{QuorumSystem}
use Rattle.fed_types.specs.Slots.{SlotName, same_slot}
use Rattle.fed_types.specs.Laws.Lists.{is_in_decides, has_none}
use Rattle.fed_types.specs.Laws.Slots.{same_slot_decides}
use Rattle.schedule.specs.declared.fate.Fate.TheVariants.{Whole}
use Rattle.site.specs.Effects.{Send}
use Rattle.world_law.specs.Networks.{Network, Deliver, datagram_at, happens}
use Rattle.reach_law.specs.Examples.{arrivals, arrive}
use Rattle.reach_law.specs.Undisturbed.{Comes, AreUndisturbed}

-- ---- of two numbers, or of three, each

pub of_two : (P : ℕ → Type 0) (k m : ℕ) → P k → P m → (n : ℕ) → Has n (k ∷ m ∷ []) → P n
of_two P k m x y n (here e) = subst P e x
of_two P k m x y n (there (here e)) = subst P e y
of_two P k m x y n (there (there h)) = absurd (has_none h)

pub of_three : (P : ℕ → Type 0) → P 1 → P 2 → P 3 → (n : ℕ) → Has n (1 ∷ 2 ∷ 3 ∷ []) → P n
of_three P x y z n (here e) = subst P e x
of_three P x y z n (there h) = of_two P 2 3 y z n h

-- ---- datagrams

-- there is a datagram, of the slot, and it goes to one of those that run
abbrev is_of_it : (running : List ℕ) → SlotName → Option Send → Bool
is_of_it running slot None = false
is_of_it running slot (Some d) = same_slot d.message.slot slot && is_in running d.to

-- each that arrives is one
abbrev pub are_of_it :
    QuorumSystem → (running : List ℕ) → SlotName → Network → (before count : ℕ) → Bool
are_of_it q running slot w before zero = true
are_of_it q running slot w before (suc count) =
    is_of_it running slot (datagram_at (suc before) w.sent)
    && are_of_it q running slot (happens q w (Deliver (suc before) Whole)).network (suc before)
    count

comes : (running : List ℕ) (slot : SlotName) (first before : ℕ) (w : Network) → first ≤ before
    → (o : Option Send) → datagram_at (suc before) w.sent ≡ o → is_of_it running slot o ≡ true
    → Comes running slot first w (Deliver (suc before) Whole)
comes running slot first before w l None at passes = absurd (false≢true passes)
comes running slot first before w l (Some d) at passes =
    let both = and_parts (same_slot d.message.slot slot) (is_in running d.to) passes in
    record {
      number = suc before;
      since = omega (arith, l);
      is = refl;
      d = d;
      at = at;
      of_slot = (same_slot_decides d.message.slot slot).0 both.0;
      runs = (is_in_decides running d.to).0 both.1;
    }

pub undisturbed : (q : QuorumSystem) (running : List ℕ) (slot : SlotName) (first : ℕ) (w : Network)
    (before count : ℕ) → first ≤ before → are_of_it q running slot w before count ≡ true
    → AreUndisturbed q running slot first w (arrivals before count)
unfolding AreUndisturbed
undisturbed q running slot first w before zero l passes = tt
undisturbed q running slot first w before (suc count) l passes =
    let at = datagram_at (suc before) w.sent in
    let then = (happens q w (Deliver (suc before) Whole)).network in
    let both =
    and_parts (is_of_it running slot at) (are_of_it q running slot then (suc before) count)
    passes in (
      inl (comes running slot first before w l at refl both.0),
      undisturbed q running slot first then (suc before) count (omega (arith, l)) both.1,
    )

has_arrival : (count before number : ℕ) → before < number → number ≤ before + count
    → Has (Deliver number Whole) (arrivals before count)
has_arrival zero before number l most = absurd (omega (arith, l, most))
has_arrival (suc count) before number l most = elim (cases_eq (suc before) number) [
  | inl same ↦ here (ap (λ (k : ℕ). Deliver k Whole) same)
  | inr differ ↦
      there (has_arrival count (suc before) number (omega (arith, l, differ)) (omega (arith, most)))
]

-- where so many were sent, none is left out
pub has_each : (sent : List Send) (before count number : ℕ) (d : Send)
    → length sent ≡ before + count → before < number → datagram_at number sent ≡ Some d
    → Has (Deliver number Whole) (arrivals before count)
has_each sent before count zero d all l at = absurd (omega (arith, l))
has_each sent before count (suc k) d all l at =
    has_arrival count before (suc k) l (omega (arith, all, slice_get_within sent k d at))

-- ---- datagrams of these numbers

-- each that arrives is of the slot, and goes to one of those that run
abbrev pub each_is_of_it :
    QuorumSystem → (running : List ℕ) → SlotName → Network → (numbers : List ℕ) → Bool
each_is_of_it q running slot w [] = true
each_is_of_it q running slot w (zero ∷ numbers) = false
each_is_of_it q running slot w (suc before ∷ numbers) =
    is_of_it running slot (datagram_at (suc before) w.sent)
    && each_is_of_it q running slot (happens q w (Deliver (suc before) Whole)).network numbers

pub undisturbed_each : (q : QuorumSystem) (running : List ℕ) (slot : SlotName) (w : Network)
    (numbers : List ℕ) → each_is_of_it q running slot w numbers ≡ true
    → AreUndisturbed q running slot 0 w (arrive numbers)
unfolding AreUndisturbed
undisturbed_each q running slot w [] passes = tt
undisturbed_each q running slot w (zero ∷ numbers) passes = absurd (false≢true passes)
undisturbed_each q running slot w (suc before ∷ numbers) passes =
    let at = datagram_at (suc before) w.sent in
    let then = (happens q w (Deliver (suc before) Whole)).network in
    let both =
    and_parts (is_of_it running slot at) (each_is_of_it q running slot then numbers) passes in (
      inl (comes running slot 0 before w (omega arith) at refl both.0),
      undisturbed_each q running slot then numbers both.1,
    )

-- each of the slot, to one of those that run, has one of these numbers, counted from `before` on
abbrev pub are_among : (running : List ℕ) → SlotName → (numbers : List ℕ) → (before : ℕ)
    → List Send → Bool
are_among running slot numbers before [] = true
are_among running slot numbers before (d ∷ sent) =
    cond (is_of_it running slot (Some d)) (is_in numbers (suc before)) true
    && are_among running slot numbers (suc before) sent

is_it : (running : List ℕ) (slot : SlotName) (d : Send) → d.message.slot ≡ slot → Has d.to running
    → is_of_it running slot (Some d) ≡ true
is_it running slot d same runs =
    rw ((same_slot_decides d.message.slot slot).1 same, (is_in_decides running d.to).1 runs) refl

has_number : (running : List ℕ) (slot : SlotName) (numbers : List ℕ) (before k : ℕ)
    (sent : List Send) (d : Send) → are_among running slot numbers before sent ≡ true
    → slice_get sent k ≡ Some d → d.message.slot ≡ slot → Has d.to running
    → Has (suc (before + k)) numbers
has_number running slot numbers before k [] d passes at same runs = absurd (cc at)
has_number running slot numbers before zero (x ∷ sent) d passes at same runs =
    let is : x ≡ d = cc in
    let both =
    and_parts (cond (is_of_it running slot (Some x)) (is_in numbers (suc before)) true)
    (are_among running slot numbers (suc before) sent) passes in
    let found : is_in numbers (suc before) ≡ true =
    rw (is, is_it running slot d same runs) at both.0 in
    subst (λ n. Has n numbers) (omega arith) ((is_in_decides numbers (suc before)).0 found)
has_number running slot numbers before (suc k) (x ∷ sent) d passes at same runs =
    let both =
    and_parts (cond (is_of_it running slot (Some x)) (is_in numbers (suc before)) true)
    (are_among running slot numbers (suc before) sent) passes in
    subst (λ n. Has n numbers) (omega arith)
    (has_number running slot numbers (suc before) k sent d both.1 at same runs)

arrives_too : (number : ℕ) (numbers : List ℕ) → Has number numbers
    → Has (Deliver number Whole) (arrive numbers)
arrives_too number [] h = absurd (has_none h)
arrives_too number (n ∷ numbers) (here e) = here (ap (λ (k : ℕ). Deliver k Whole) e)
arrives_too number (n ∷ numbers) (there h) = there (arrives_too number numbers h)

pub has_each_among : (running : List ℕ) (slot : SlotName) (numbers : List ℕ) (sent : List Send)
    (number : ℕ) (d : Send) → are_among running slot numbers 0 sent ≡ true
    → datagram_at number sent ≡ Some d → d.message.slot ≡ slot → Has d.to running
    → Has (Deliver number Whole) (arrive numbers)
has_each_among running slot numbers sent zero d passes at same runs = absurd (cc at)
has_each_among running slot numbers sent (suc k) d passes at same runs =
    arrives_too (suc k) numbers
    (subst (λ n. Has n numbers) (omega arith)
    (has_number running slot numbers 0 k sent d passes at same runs))
