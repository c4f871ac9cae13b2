-- What is read of a text is in range: each part of it has a word.
use Rattle.std.proofs.Common.{◌≡◌, ℕ, zero, suc, ◌<◌, List, [], ◌∷◌, length, map, replicate, All}
use Rattle.std.proofs.Common.{Option, Some, None, Ok, sym, subst, inl, inr, arith}
use Rattle.std.specs.Prelude.{IfSome}
use Rattle.std.specs.List.{AllByRecursion}
use Rattle.std.proofs.lemmas.List.Elements.{All-nil, All-cons}
use Rattle.fed_types.specs.Limits.{greatest_weight}
use Rattle.fed_types.specs.Sites.{IsWeight, Membership, count_of}
use Rattle.fed_types.specs.Values.{IsMembership}
use Rattle.schedule.specs.declared.command.Command.{Command}
use Rattle.tokens.specs.Grammar.{HasWords, spaces, word}
use Rattle.schedule.specs.Lines.{command_tokens, federation_tokens}
use Rattle.schedule.specs.Plans.{Plan, plan_of}
use Rattle.schedule.specs.Schedules.{NamesMembers, Says, AllSay, IsCommand, IsPlan}
use Rattle.schedule.specs.Tokens.{Number, HasWord}
use Rattle.schedule.proofs.ScheduleLemmas.{IsTextOf-plan_of}
use Rattle.schedule.proofs.TokenLemmas.{HaveWords-from}

-- no word of a line is empty
words_some : (line : List ℕ) (words : List (List ℕ)) → HasWords line words
    → AllByRecursion (λ w. 0 < length w) words
words_some _ _ (spaces line n is) = tt
words_some _ _ (word line first rest others n is one ends more) =
    (one.0, words_some rest others more)

weights_fit : (weights : List ℕ)
    → AllByRecursion HasWord (map (λ w. Number 1 greatest_weight w) weights) → All IsWeight weights
weights_fit [] have = All-nil IsWeight
weights_fit (w ∷ weights) have = All-cons IsWeight w weights have.0 (weights_fit weights have.1)

ones_fit : (n : ℕ) → All IsWeight (replicate n 1)
ones_fit zero = All-nil IsWeight
ones_fit (suc n) = All-cons IsWeight 1 (replicate n 1) (omega arith, omega arith) (ones_fit n)

pub IsMembership-named : (line : List ℕ) (m : Membership) → NamesMembers line m → IsMembership m
IsMembership-named line m names =
    let some = words_some line names.0 names.1 in
    elim (names.2) [
      | inl named ↦
          let have = HaveWords-from names.0 (federation_tokens m m.weights) some named in
          (omega (arith, have.1.0), (have.1.1.0, weights_fit m.weights have.1.1.1))
      | inr ones ↦
          let have = HaveWords-from names.0 (federation_tokens m []) some ones.0 in
          let fit = subst (All IsWeight) (sym ones.1) (ones_fit (count_of m)) in
          (omega (arith, have.1.0), (have.1.1.0, fit))
    ]

said_fits : (line : List ℕ) (said : Option Command) → Says line said → IfSome said IsCommand
said_fits line None says = tt
said_fits line (Some command) says =
    HaveWords-from says.0 (command_tokens command) (words_some line says.0 says.1) says.2

all_fit : (ls : List (List ℕ)) (said : List (Option Command)) → AllSay ls said
    → AllByRecursion (λ x. IfSome x IsCommand) said
all_fit [] [] say = tt
all_fit (line ∷ ls) (x ∷ said) say = (said_fits line x say.0, all_fit ls said say.1)
all_fit _ _ say = absurd say

pub IsPlan-plan_of : (text : List ℕ) (plan : Plan) → plan_of text ≡ Ok plan → IsPlan plan
IsPlan-plan_of text plan is =
    let parts = IsTextOf-plan_of text plan is in
    record {
      members = IsMembership-named parts.first plan.members parts.members;
      lines = all_fit parts.later plan.lines parts.says;
    }
