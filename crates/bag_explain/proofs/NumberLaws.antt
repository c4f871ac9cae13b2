-- The numbers of a manifest's lines are theirs.
use Rattle.std.proofs.Common.{◌≡◌, ℕ, ◌+◌, Bool, true, false, List, [], ◌∷◌, ◌++◌, length, Option}
use Rattle.std.proofs.Common.{Some, None, refl, sym, ap, ◌∙◌, append_assoc}
use Rattle.std.specs.List.{AllByRecursion, list_all}
use Rattle.std.proofs.lemmas.List.{length-append}
use Rattle.bag_text.specs.declared.algorithm.Algorithm.{Algorithm}
use Rattle.bag_text.specs.ListedFile.{ListedFile}
use Rattle.bag_text.specs.Lines.{lines_of}
use Rattle.bag_text.specs.Blanks.{IsBlank, is_blank}
use Rattle.bag_text.specs.Manifests.{IsEntryLine}
use Rattle.bag_text.specs.Readers.{entries_of, file_in}
use Rattle.bag_text.proofs.EntryLaws.{file_in-entry, entry-file_in}
use Rattle.bag_explain.specs.Lines.{numbered, if_malformed, numbered_from, malformed_from}
use Rattle.bag_explain.specs.LineNumbers.{ListsAt, IsMalformedAt}
use Rattle.bag_explain.proofs.LineLaws.{has_end, Endless, endless, said, line_says}

pub all_append : {X : Type 0} (P : X → Type 0) (xs ys : List X) → AllByRecursion P xs
    → AllByRecursion P ys → AllByRecursion P (xs ++ ys)
all_append P [] ys none all = all
all_append P (x ∷ xs) ys (first, others) all = (first, all_append P xs ys others all)

-- the lines go on after one more
one_more : (before lines : List (List ℕ)) (line : List ℕ)
    → before ++ line ∷ lines ≡ (before ++ line ∷ []) ++ lines
one_more before lines line = sym (append_assoc before (line ∷ []) lines)

next_number : (before : List (List ℕ)) (line : List ℕ)
    → length (before ++ line ∷ []) + 1 ≡ (length before + 1) + 1
next_number before line = ap (λ (n : ℕ). n + 1) (length-append before (line ∷ []))

-- what holds of the numbers of each line holds of all: `at` gives what a line and its number say
each_line : {X : Type 0} (P : X → Type 0) (at : ℕ → List ℕ → List X)
    (from : ℕ → List (List ℕ) → List X)
    → ((number : ℕ) → from number [] ≡ [])
    → ((number : ℕ) (line : List ℕ) (lines : List (List ℕ))
    → from number (line ∷ lines) ≡ at number line ++ from (number + 1) lines)
    → (all before lines : List (List ℕ)) → all ≡ before ++ lines → Endless lines
    → ((b a : List (List ℕ)) (line : List ℕ) → all ≡ b ++ line ∷ a → has_end line ≡ false
    → AllByRecursion P (at (length b + 1) line))
    → AllByRecursion P (from (length before + 1) lines)
each_line P at from none more all before [] e h here = rw (none (length before + 1)) tt
each_line P at from none more all before (line ∷ lines) e (h, hs) here =
    let rest : AllByRecursion P (from (length (before ++ line ∷ []) + 1) lines) =
    each_line P at from none more all (before ++ line ∷ []) lines
    (e ∙ one_more before lines line) hs here in
    rw (more (length before + 1) line lines)
    (all_append P (at (length before + 1) line) (from ((length before + 1) + 1) lines)
    (here before lines line e h) (rw (next_number before line) at rest))

pub numbered_are : (algorithm : Algorithm) (text : List ℕ)
    → AllByRecursion (ListsAt algorithm (lines_of text)) (numbered_from algorithm 1 (lines_of text))
unfolding numbered_from
numbered_are algorithm text =
    each_line (ListsAt algorithm all) (λ number line. numbered number (entries_of algorithm line))
    (numbered_from algorithm) (λ number. refl) (λ number line lines. refl) all [] all refl
    (endless text) here
  where
    all : List (List ℕ)
    all = lines_of text

    go : (before after : List (List ℕ)) (line : List ℕ) → all ≡ before ++ line ∷ after
        → (blank : Bool) (file : Option ListedFile) → file_in algorithm line ≡ file
        → AllByRecursion (ListsAt algorithm all) (numbered (length before + 1) (said blank file))
    go before after line e true file h = tt
    go before after line e false None h = tt
    go before after line e false (Some file) h =
        ((line, (before, after, e, refl), entry-file_in algorithm line file h), tt)

    here : (before after : List (List ℕ)) (line : List ℕ) → all ≡ before ++ line ∷ after
        → has_end line ≡ false
        → AllByRecursion (ListsAt algorithm all)
        (numbered (length before + 1) (entries_of algorithm line))
    here before after line e h =
        rw (line_says algorithm line h)
        (go before after line e (list_all is_blank line) (file_in algorithm line) refl)

pub malformed_are : (algorithm : Algorithm) (text : List ℕ)
    → AllByRecursion (IsMalformedAt algorithm (lines_of text))
    (malformed_from algorithm 1 (lines_of text))
unfolding malformed_from
malformed_are algorithm text =
    each_line (IsMalformedAt algorithm all)
    (λ number line. if_malformed number (entries_of algorithm line)) (malformed_from algorithm)
    (λ number. refl) (λ number line lines. refl) all [] all refl (endless text) here
  where
    all : List (List ℕ)
    all = lines_of text

    not_blank : (line : List ℕ) → list_all is_blank line ≡ false → ¬ (IsBlank line)
    not_blank line h is = absurd (cc (h, is))

    no_file : (line : List ℕ) → file_in algorithm line ≡ None → (file : ListedFile)
        → ¬ (IsEntryLine algorithm line file)
    no_file line h file is = absurd (cc (sym h ∙ file_in-entry algorithm line file is))

    go : (before after : List (List ℕ)) (line : List ℕ) → all ≡ before ++ line ∷ after
        → (blank : Bool) (file : Option ListedFile) → list_all is_blank line ≡ blank
        → file_in algorithm line ≡ file
        → AllByRecursion (IsMalformedAt algorithm all)
        (if_malformed (length before + 1) (said blank file))
    go before after line e true file b h = tt
    go before after line e false None b h =
        ((line, (before, after, e, refl), not_blank line b, no_file line h), tt)
    go before after line e false (Some file) b h = tt

    here : (before after : List (List ℕ)) (line : List ℕ) → all ≡ before ++ line ∷ after
        → has_end line ≡ false
        → AllByRecursion (IsMalformedAt algorithm all)
        (if_malformed (length before + 1) (entries_of algorithm line))
    here before after line e h =
        rw (line_says algorithm line h)
        (go before after line e (list_all is_blank line) (file_in algorithm line) refl refl)
