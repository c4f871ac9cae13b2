-- The bags of a list, line by line, and those of records, one by one.
use Rattle.std.proofs.Common.{◌≡◌, ℕ, ◌+◌, ◌-◌, ◌≤◌, ◌<◌, List, [], ◌∷◌, ◌++◌, length, take, get_or}
use Rattle.std.proofs.Common.{Option, Some, None, Bool, true, false, refl, sym, ap, subst, ◌∙◌}
use Rattle.std.proofs.Common.{arith, append_assoc, append-nil, length-append}
use Rattle.std.proofs.lemmas.List.{take_at}
use Rattle.std.proofs.lemmas.List.Elements.{filter_map-append}
use Rattle.std.proofs.lemmas.List.Folds.{list_all-append}
use Rattle.std.proofs.Math.Seq.{get_or-append_seam}
use Rattle.std.specs.Option.{option_to_list}
use Rattle.std.specs.List.{cons_option}
use Rattle.std.specs.Prelude.{filter_map, ◌&&◌}
use Rattle.std.specs.Str.Lines.{lines}
use Rattle.records.specs.declared.record.Record.{Record}
use Rattle.known_bags.specs.declared.known_bag.KnownBag.{KnownBag}
use Rattle.known_bags.specs.Lists.{known_by, is_line, are_lines, ListKnows, HasOtherLine}
use Rattle.known_bags.specs.Sources as sources

single : {Y : Type 0} (o : Option Y) → cons_option o [] ≡ option_to_list o
single None = refl
single (Some y) = refl

-- what one thing more gives
one_more : {X Y : Type 0} (f : X → Option Y) (xs : List X) (x : X) (old mid new : List Y)
    → mid ≡ old ++ filter_map f xs → new ≡ mid ++ option_to_list (f x)
    → new ≡ old ++ filter_map f (xs ++ x ∷ [])
one_more f xs x old mid new was is =
    is ∙ ap (λ l. l ++ option_to_list (f x)) was
    ∙ append_assoc old (filter_map f xs) (option_to_list (f x))
    ∙ ap (λ l. old ++ (filter_map f xs ++ l)) (sym (single (f x)))
    ∙ ap (λ l. old ++ l) (sym (filter_map-append f xs (x ∷ [])))

-- ---- records

pub next_record : (records : List Record) (i : ℕ) (r : Record) (old mid new : List KnownBag)
    → take (i + 1) records ≡ take i records ++ r ∷ []
    → mid ≡ old ++ sources.known_of (take i records)
    → new ≡ mid ++ option_to_list (sources.known_by r)
    → new ≡ old ++ sources.known_of (take (i + 1) records)
unfolding sources.known_of
next_record records i r old mid new more was is =
    one_more sources.known_by (take i records) r old mid new was is
    ∙ ap (λ (l : List Record). old ++ filter_map sources.known_by l) (sym more)

-- ---- lines

-- these lines were read, and these bags found
pub record IsRead (text rest : List ℕ) (number : ℕ) (old new : List KnownBag) : Type 0 where
  pub done : List (List ℕ)
  pub lines_are : lines text ≡ done ++ lines rest
  pub number_is : number ≡ 1 + length done
  pub fine : are_lines done ≡ true
  pub bags_are : new ≡ old ++ filter_map known_by done
  pub short : number + length rest ≤ length text + 1

pub none_read : (text : List ℕ) (old : List KnownBag) → IsRead text text 1 old old
none_read text old = record {
  done = [];
  lines_are = refl;
  number_is = refl;
  fine = refl;
  bags_are = sym (append-nil old);
  short = omega arith;
}

both_fine : (done : List (List ℕ)) (line : List ℕ) → are_lines done ≡ true → is_line line ≡ true
    → are_lines (done ++ line ∷ []) ≡ true
both_fine done line fine is =
    list_all-append is_line done (line ∷ [])
    ∙ ap (λ (b : Bool). b && (is_line line && true)) fine
    ∙ ap (λ (b : Bool). b && true) is

pub next_line : (text rest line after : List ℕ) (number : ℕ) (old mid new : List KnownBag)
    → IsRead text rest number old mid → lines rest ≡ line ∷ lines after
    → length after < length rest → is_line line ≡ true
    → new ≡ mid ++ option_to_list (known_by line) → IsRead text after (number + 1) old new
next_line text rest line after number old mid new read first shorter is bags = record {
  done = read.done ++ line ∷ [];
  lines_are = read.lines_are ∙ ap (λ (l : List (List ℕ)). read.done ++ l) first
      ∙ sym (append_assoc read.done (line ∷ []) (lines after));
  number_is = omega (arith, read.number_is, length-append read.done (line ∷ []));
  fine = both_fine read.done line read.fine is;
  bags_are = one_more known_by read.done line old mid new read.bags_are bags;
  short = omega (arith, read.short, shorter);
}

pub all_read : (text rest : List ℕ) (number : ℕ) (old new : List KnownBag)
    → IsRead text rest number old new → lines rest ≡ []
    → (bags : List KnownBag) × ListKnows text bags × (new ≡ old ++ bags)
all_read text rest number old new read none =
    let all : lines text ≡ read.done = read.lines_are
    ∙ ap (λ (l : List (List ℕ)). read.done ++ l) none ∙ append-nil read.done in (
      filter_map known_by read.done,
      (
        subst (λ (l : List (List ℕ)). are_lines l ≡ true) (sym all) read.fine,
        ap (filter_map known_by) (sym all),
      ),
      read.bags_are,
    )

pub other_line : (text rest line after : List ℕ) (number : ℕ) (old mid : List KnownBag)
    → IsRead text rest number old mid → lines rest ≡ line ∷ lines after → is_line line ≡ false
    → HasOtherLine text number
other_line text rest line after number old mid read first other =
    let all : lines text ≡ read.done ++ line ∷ lines after =
    read.lines_are ∙ ap (λ (l : List (List ℕ)). read.done ++ l) first in
    let before : number - 1 ≡ length read.done = omega (arith, read.number_is) in (
      omega (arith, read.number_is),
      omega (
        arith,
        read.number_is,
        ap length all,
        length-append read.done (line ∷ lines after),
      ),
      ap are_lines (ap (take (number - 1)) all
          ∙ take_at read.done (line ∷ lines after) (number - 1) (sym before)) ∙ read.fine,
      ap is_line (ap (λ (l : List (List ℕ)). get_or l (number - 1) []) all
          ∙ ap (λ (n : ℕ). get_or (read.done ++ line ∷ lines after) n []) before
          ∙ get_or-append_seam read.done line (lines after) []) ∙ other,
    )
