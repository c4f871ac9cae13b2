-- What an ordered map says of votes is what a list says in which each is looked for.
use Rattle.std.specs.Prelude.{◌≡◌, List, Bool, ◌&&◌, bytes_eq, refl}
use Rattle.std.proofs.Common.{Option, Some, cond, sym, ap, subst, ◌∙◌}
use Rattle.std.proofs.Math.Path.{fun_ext}
use Rattle.std.proofs.lemmas.Map.Text.{is_eq-slice_cmp}
use Rattle.std.specs.Cmp.Lexicographic.{slice_cmp}
use Rattle.std.specs.Map.{lookup}
use Rattle.std.specs.Ordering.{eq_by_cmp, is_eq, nat_cmp, ordering_then}
use Rattle.std.specs.declared.cmp.Ordering.{Ordering}
use Rattle.std.specs.declared.cmp.Ordering.TheVariants.{Less, Equal, Greater}
use Rattle.fed_types.specs.Ballots.{ballot_cmp}
use Rattle.fed_types.specs.Bags.{same_bag}
use Rattle.fed_types.specs.Laws.Ballots.{ballot_eq_ties}
use Rattle.fed_types.specs.declared.vote.Vote.{Vote}
use Rattle.dgram.specs.Heard.{same_vote}

-- the order of votes: by ballot, and then by bag
abbrev pub vote_cmp : Vote → Vote → Ordering
vote_cmp a b = ordering_then (ballot_cmp a.ballot b.ballot) (slice_cmp nat_cmp a.bag.0 b.bag.0)

-- two answers in turn are one of equality where both are
pub both_equal : (o p : Ordering) → is_eq o && is_eq p ≡ is_eq (ordering_then o p)
both_equal Less p = refl
both_equal Equal p = refl
both_equal Greater p = refl

pub vote_eq_ties : (a b : Vote) → same_vote a b ≡ is_eq (vote_cmp a b)
vote_eq_ties a b =
    ap (λ (t : Bool). t && same_bag a.bag b.bag) (ballot_eq_ties a.ballot b.ballot)
    ∙ ap (λ (t : Bool). is_eq (ballot_cmp a.ballot b.ballot) && t)
    (sym (is_eq-slice_cmp a.bag.0 b.bag.0))
    ∙ both_equal (ballot_cmp a.ballot b.ballot) (slice_cmp nat_cmp a.bag.0 b.bag.0)

same_by_order : eq_by_cmp vote_cmp ≡ same_vote
same_by_order = fun_ext (λ a. fun_ext (λ b. sym (vote_eq_ties a b)))

module _ {X : Type 0} where
  -- a look-up
  pub found_by_order : (entries : List (Vote × X)) (vote : Vote)
      → lookup (eq_by_cmp vote_cmp vote) entries ≡ lookup (same_vote vote) entries
  found_by_order entries vote =
      ap (λ (same : Vote → Vote → Bool). lookup (same vote) entries) same_by_order

  -- a change of one entry
  pub with_by_order : (old new : List (Vote × X)) (vote : Vote) (x : X)
      → ((v : Vote) → lookup (eq_by_cmp vote_cmp v) new
      ≡ cond (eq_by_cmp vote_cmp vote v) (Some x) (lookup (eq_by_cmp vote_cmp v) old))
      → (v : Vote) → lookup (same_vote v) new
      ≡ cond (same_vote vote v) (Some x) (lookup (same_vote v) old)
  with_by_order old new vote x =
      subst (λ (same : Vote → Vote → Bool).
      (v : Vote) → lookup (same v) new
      ≡ cond (same vote v) (Some x) (lookup (same v) old)) same_by_order
