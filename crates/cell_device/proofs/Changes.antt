-- One more change, and what crashes may have left since.
use Rattle.std.proofs.Common.{◌≡◌, ◌⊎◌, inl, inr, ⊎_elim, ℕ, suc, ◌+◌, ◌-◌, ◌≤◌, min, List, [], ◌∷◌}
use Rattle.std.proofs.Common.{◌++◌, length, take, drop, reverse, Bool, if◌then◌else◌, Some, sym}
use Rattle.std.proofs.Common.{◌∙◌, ap, subst, arith}
use Rattle.std.proofs.lemmas.List.{reverse-append, length_push, take_min, take-take, take_at}
use Rattle.std.proofs.lemmas.List.{take-append-drop, length-take-le}
use Rattle.cell_device.specs.declared.change.Change.{Change}
use Rattle.cell_device.specs.declared.medium.Medium.{Medium}
use Rattle.cell_device.specs.Images.{Image, MayLeave, after_failure}
use Rattle.cell_device.specs.inner.Laws.{keeps_first}
use Rattle.cell_device.specs.inner.Mediums.{state, medium_image, moment, left_since}
use Rattle.cell_device.specs.Time.{Elapses}
use Rattle.cell_device.specs.inner.Undone.{State, before, Left, LeftWithin, LeftSince}

-- what a medium of these parts holds
abbrev image : List ℕ → ℕ → ℕ → ℕ → Bool → Image
image buffer least most seen cut = record {
  synced = take (if cut then most else least) buffer;
  newest = take (if cut then least else most) buffer;
  seen = take seen buffer;
}

module _ (s : State) (changes : List Change) (e : Change) (t : ℕ) (c : List ℕ)
    (le : t ≤ length changes) where
  newest_first : reverse (changes ++ e ∷ []) ≡ e ∷ reverse changes
  newest_first = reverse-append changes (e ∷ [])

  one_more : length (changes ++ e ∷ []) - t ≡ suc (length changes - t)
  one_more = omega (arith, length_push changes e)

  split : LeftSince s (changes ++ e ∷ []) t c → Left s c ⊎ LeftSince (before e s) changes t c
  split left =
      let turned : LeftWithin s (e ∷ reverse changes) (length (changes ++ e ∷ []) - t) c =
      subst (λ (l : List Change). LeftWithin s l (length (changes ++ e ∷ []) - t) c)
      newest_first left in
      subst (λ (n : ℕ). LeftWithin s (e ∷ reverse changes) n c) one_more turned

  join : Left s c ⊎ LeftSince (before e s) changes t c → LeftSince s (changes ++ e ∷ []) t c
  join left =
      let turned : LeftWithin s (e ∷ reverse changes) (length (changes ++ e ∷ []) - t) c =
      subst (λ (n : ℕ). LeftWithin s (e ∷ reverse changes) n c) (sym one_more) left in
      subst (λ (l : List Change). LeftWithin s l (length (changes ++ e ∷ []) - t) c)
      (sym newest_first) turned

-- one more change, which is undone to what was before it
pub goes_on : (old : Medium) (buffer : List ℕ) (least most seen : ℕ) (cut : Bool)
    (changes : List Change) (e : Change) → least ≤ most → most ≤ length buffer
    → changes ≡ old.changes.items ++ e ∷ []
    → before e (record { buffer = buffer; least = least; most = most }) ≡ state old
    → Elapses (moment old) (length changes) (left_since old)
    (LeftSince (record { buffer = buffer; least = least; most = most }) changes)
    (MayLeave (Some (image buffer least most seen cut)))
goes_on old buffer least most seen cut changes e low high pushed undone = record {
  later = rw pushed (omega (arith, length_push old.changes.items e));
  nothing_else = λ t c le left. ⊎_elim
      (λ now. inr (now.0, now.1 ∙ sym (keeps_first cut buffer least most now.0 low high)))
      (λ was. inl (subst (λ (s : State). LeftSince s old.changes.items t c) undone was))
      (split new old.changes.items e t c le (subst
      (λ (l : List Change). LeftSince new l t c) pushed left));
  nothing_less = λ t c le was. subst (λ (l : List Change). LeftSince new l t c) (sym pushed)
      (join new old.changes.items e t c le (inr
      (subst (λ (s : State). LeftSince s old.changes.items t c) (sym undone) was)));
}
  where
    new : State
    new = record { buffer = buffer; least = least; most = most }

-- of the bytes that no sync has kept, a read gives k
pub failed_is : (m : Medium) (k n : ℕ) → n ≡ min (m.least + k) m.most
    → take n m.buffer.items ≡ (after_failure k (medium_image m)).seen
failed_is m k n is =
    let long : length (take m.most m.buffer.items) ≡ m.most =
    length-take-le m.most m.buffer.items (omega arith) in
    ap (λ (j : ℕ). take j m.buffer.items) is
    ∙ sym (take-take (min (m.least + k) m.most) m.most m.buffer.items (omega arith))
    ∙ ap (λ (j : ℕ). take (min (m.least + k) j) (take m.most m.buffer.items)) (sym long)
    ∙ take_min (m.least + k) (take m.most m.buffer.items)
    ∙ sym (keeps_first m.is_cut m.buffer.items m.least m.most k (omega arith) (omega arith))

-- bytes put after the first n; with those that were there it is as it was
pub undo_append : (buffer bytes lost new : List ℕ) (n : ℕ) → n ≤ length buffer
    → new ≡ take n buffer ++ bytes → lost ≡ drop n buffer → take n new ++ lost ≡ buffer
undo_append buffer bytes lost new n le is rest =
    ap (λ (l : List ℕ). take n l ++ lost) is
    ∙ ap (λ (l : List ℕ). l ++ lost) (take_at (take n buffer) bytes n (length-take-le n buffer le))
    ∙ ap (λ (l : List ℕ). take n buffer ++ l) rest
    ∙ take-append-drop n buffer
