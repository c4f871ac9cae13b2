-- The lines of sites, written one after another.
use Rattle.std.proofs.Common.{◌≡◌, ℕ, zero, suc, ◌+◌, ◌<◌, ◌≤◌, List, [], ◌∷◌, ◌++◌, take, length}
use Rattle.std.proofs.Common.{append_assoc, append-nil, arith, get_or}
use Rattle.std.proofs.lemmas.List.{take_all}
use Rattle.std.proofs.Math.Nat.{add-zero}
use Rattle.std.proofs.Math.Numerals.{add-one}
use Rattle.members_file.specs.declared.listed_site.ListedSite.{ListedSite}
use Rattle.members_file.specs.declared.text.Weights.{Weights}
use Rattle.members_file.specs.Texts.{line_of, lines_from, lines_of}

-- the lines of some sites, and then the next one's
pub next_line : (w : Weights) (n : ℕ) (sites : List ListedSite) (i : ℕ) (d : ListedSite)
    → i < length sites
    → lines_from w n (take (suc i) sites)
    ≡ lines_from w n (take i sites) ++ line_of w (n + i) (get_or sites i d)
next_line w n [] i d within = absurd (omega arith)
next_line w n (s ∷ sites) zero d within = simp (add-zero, append-nil)
next_line w n (s ∷ sites) (suc i) d within =
    let same : n + 1 + i ≡ n + suc i = omega arith in
    rw (next_line w (n + 1) sites i d (omega arith), same, append_assoc)

-- a text, and the lines of the sites so far
module _ (w : Weights) (sites : List ListedSite) (i : ℕ) (start before : List ℕ)
    (so_far : before ≡ start ++ lines_from w 1 (take i sites)) where
  pub one_more : (d : ListedSite) (after : List ℕ) → i < length sites
      → after ≡ before ++ line_of w (i + 1) (get_or sites i d)
      → after ≡ start ++ lines_from w 1 (take (i + 1) sites)
  one_more d after within now =
      let same : 1 + i ≡ i + 1 = omega arith in
      let next = rw same at (next_line w 1 sites i d within) in
      rw (add-one, next, now, so_far, append_assoc)

  pub all_done : length sites ≤ i → before ≡ start ++ lines_of w sites
  unfolding lines_of
  all_done past = rw (← take_all i sites past) so_far
