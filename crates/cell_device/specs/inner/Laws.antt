-- What a cell or a file in memory may leave now is one of the things that it may have left since.
use Rattle.std.specs.Prelude.{◌≡◌, ℕ, ◌+◌, ◌-◌, ◌≤◌, ◌<◌, Bool, true, false, if◌then◌else◌}
use Rattle.std.specs.Prelude.{List, [], ◌∷◌, length, take, reverse, Some}
use Rattle.std.proofs.Common.{zero, suc, inl, inr, sym, ◌∙◌, ap, subst, arith}
use Rattle.std.proofs.lemmas.List.{length-take-le, take-take}
use Rattle.std.proofs.lemmas.Bool.{cases_eq}
use Rattle.std.proofs.lemmas.Bool.Decides.{nat_tests}
use Rattle.cell_device.specs.declared.change.Change.{Change}
use Rattle.cell_device.specs.declared.medium.Medium.{Medium}
use Rattle.cell_device.specs.Images.{Image, keeps, Leaves, MayLeave}
use Rattle.cell_device.specs.inner.Undone.{State, Left, LeftWithin}
use Rattle.cell_device.specs.inner.Mediums.{state, medium_image, moment, left_since}

-- the two cases of `keeps`
pub keeps_grown : (k : ℕ) (synced newest : List ℕ) → length synced ≤ length newest
    → keeps k synced newest ≡ take (length synced + k) newest
unfolding keeps
keeps_grown k synced newest le = grind (arith, nat_tests)

pub keeps_shrunk : (k : ℕ) (synced newest : List ℕ) → length newest < length synced
    → keeps k synced newest ≡ take (length newest + k) synced
unfolding keeps
keeps_shrunk k synced newest lt = grind (arith, nat_tests)

-- a crash leaves the first bytes, whether the rest was appended or cut
pub keeps_first : (cut : Bool) (buffer : List ℕ) (least most k : ℕ) → least ≤ most
    → most ≤ length buffer → keeps k (take (if cut then most else least) buffer)
    (take (if cut then least else most) buffer) ≡ take (least + k) (take most buffer)
keeps_first false buffer least most k low high =
    let short : length (take least buffer) ≡ least = length-take-le least buffer (omega arith) in
    let long : length (take most buffer) ≡ most = length-take-le most buffer high in
    keeps_grown k (take least buffer) (take most buffer) (omega arith)
    ∙ ap (λ (n : ℕ). take (n + k) (take most buffer)) short
keeps_first true buffer least most k low high = elim (cases_eq least most) [
  | inl same ↦ keeps_grown k (take most buffer) (take least buffer)
      (omega (arith, short, long, same)) ∙ ap (λ (n : ℕ). take (n + k) (take least buffer)) long
      ∙ cc
  | inr other ↦ keeps_shrunk k (take most buffer) (take least buffer)
      (omega (arith, short, long, other)) ∙ ap (λ (n : ℕ). take (n + k) (take most buffer)) short
]
  where
    short : length (take least buffer) ≡ least
    short = length-take-le least buffer (omega arith)

    long : length (take most buffer) ≡ most
    long = length-take-le most buffer high

-- what a crash may leave, in the two words for it
left_first : (m : Medium) (c : List ℕ) → MayLeave (Some (medium_image m)) c → Left (state m) c
left_first m c (k, is) = (
  k,
  is ∙ keeps_first m.is_cut m.buffer.items m.least m.most k (omega arith)
      (omega arith),
)

first_left : (m : Medium) (c : List ℕ) → Left (state m) c → MayLeave (Some (medium_image m)) c
first_left m c (k, is) = (
  k,
  is ∙ sym (keeps_first m.is_cut m.buffer.items m.least m.most k
      (omega arith) (omega arith)),
)

-- this state is one of them, and without others the only one
here : (s : State) (changes : List Change) (n : ℕ) (c : List ℕ) → Left s c
    → LeftWithin s changes n c
here s [] n c left = left
here s (e ∷ changes) zero c left = left
here s (e ∷ changes) (suc n) c left = inl left

only_here : (s : State) (changes : List Change) (n : ℕ) (c : List ℕ) → n ≡ 0
    → LeftWithin s changes n c → Left s c
only_here s [] n c none left = left
only_here s (e ∷ changes) zero c none left = left
only_here s (e ∷ changes) (suc n) c none left = absurd (omega arith)

-- what a read gives is one of the things that it may leave
seen_first : (m : Medium) → Leaves (medium_image m) (medium_image m).seen
seen_first m =
    let k = m.seen - m.least in
    let is : m.least + k ≡ m.seen = omega arith in (
      k,
      sym (keeps_first m.is_cut m.buffer.items m.least m.most k (omega arith) (omega arith)
          ∙ ap (λ (n : ℕ). take n (take m.most m.buffer.items)) is
          ∙ take-take m.seen m.most m.buffer.items (omega arith)),
    )

pub seen_now_of : (m : Medium) (i : Image) → Some (medium_image m) ≡ Some i → Leaves i i.seen
seen_now_of m i known = subst (λ (j : Image). Leaves j j.seen) (some_is (medium_image m) i known)
    (seen_first m)
  where
    some_is : (a b : Image) → Some a ≡ Some b → a ≡ b
    some_is a b e = cc e

pub counts_now_of : (m : Medium) (t : ℕ) (c : List ℕ) → t ≤ moment m
    → MayLeave (Some (medium_image m)) c → left_since m t c
counts_now_of m t c le now = here (state m) (reverse m.changes.items) _ c (left_first m c now)

pub only_now_of : (m : Medium) (c : List ℕ) → left_since m (moment m) c
    → MayLeave (Some (medium_image m)) c
only_now_of m c left = first_left m c
    (only_here (state m) (reverse m.changes.items) _ c (omega arith) left)
