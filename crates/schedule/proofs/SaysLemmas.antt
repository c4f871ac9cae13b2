-- What a line says by cases is what is read of it.
use Rattle.std.proofs.Common.{◌≡◌, ℕ, zero, suc, ◌<◌, Bool, true, false, not, ◌||◌, eqb, List, []}
use Rattle.std.proofs.Common.{◌∷◌, ◌++◌, length, get_or, Option, Some, None, refl, subst, inl, inr}
use Rattle.std.proofs.Common.{arith}
use Rattle.std.specs.Option.{option_map}
use Rattle.std.proofs.lemmas.Bool.{cases_Bool, eqb-true, ne_eqb, not-true}
use Rattle.std.proofs.lemmas.Option.{same_Some}
use Rattle.schedule.specs.declared.call.Call.TheVariants.{Deliver}
use Rattle.schedule.specs.declared.command.Command.{Command}
use Rattle.schedule.specs.declared.command.Command.TheVariants as commands
use Rattle.tokens.specs.Words.{words_of}
use Rattle.schedule.specs.Commands.{command_of}
use Rattle.tokens.specs.Grammar.{HasWords, spaces, word}
use Rattle.schedule.specs.Lines.{command_tokens}
use Rattle.schedule.specs.Plans.{is_skipped, later_line}
use Rattle.schedule.specs.Schedules.{IsSkipped, Says}
use Rattle.schedule.specs.Tokens.{Token, Keyword, AreWordsFor}
use Rattle.schedule.proofs.CommandLemmas.{command_of-from, command_of-says}
use Rattle.tokens.proofs.GrammarLemmas.{words_of-from, HasWords-words_of}

-- ---- skipped lines

pub is_skipped-from : (line : List ℕ) → IsSkipped line → is_skipped line ≡ true
is_skipped-from line (inl none) = rw (words_of-from line [] none)
is_skipped-from line (inr comment) =
    rw comment.1 (or_true (eqb (length (words_of (35 ∷ comment.0))) 0))
  where
    or_true : (test : Bool) → (test || true) ≡ true
    or_true true = refl
    or_true false = refl

-- a list whose length is 0
empty_from : (words : List (List ℕ)) → length words ≡ 0 → words ≡ []
empty_from [] is = refl
empty_from (w ∷ ws) is = absurd (omega arith)

begins_comment : (line : List ℕ) → eqb (get_or line 0 0) 35 ≡ true
    → (rest : List ℕ) × (line ≡ 35 ∷ rest)
begins_comment [] is = absurd (cc is)
begins_comment (b ∷ rest) is = (rest, rw (eqb-true b 35 is))

pub IsSkipped-is_skipped : (line : List ℕ) → is_skipped line ≡ true → IsSkipped line
IsSkipped-is_skipped line is = go (eqb (length (words_of line)) 0) refl is
  where
    go : (test : Bool) → eqb (length (words_of line)) 0 ≡ test
        → (test || eqb (get_or line 0 0) 35) ≡ true → IsSkipped line
    go true none is =
        inl (HasWords-words_of line []
        (empty_from (words_of line) (eqb-true (length (words_of line)) 0 none)))
    go false some is = inr (begins_comment line is)

-- ---- a line that has words isn't skipped, if the first word doesn't begin with `#`

-- the first word begins so
abbrev pub begins_line : List ℕ → Bool
begins_line w = not (eqb (get_or w 0 0) 35)

no_comment : (w rest : List ℕ) → 0 < length w → begins_line w ≡ true
    → eqb (get_or (w ++ rest) 0 0) 35 ≡ false
no_comment [] rest some begins = absurd (omega arith)
no_comment (b ∷ w) rest some begins = not-true (eqb b 35) begins

pub no_skip-words : (line w : List ℕ) (ws : List (List ℕ)) → HasWords line (w ∷ ws)
    → begins_line w ≡ true → is_skipped line ≡ false
no_skip-words line w ws has begins =
    let words : words_of line ≡ w ∷ ws = words_of-from line (w ∷ ws) has in
    let some : eqb (length (w ∷ ws)) 0 ≡ false = ne_eqb (length (w ∷ ws)) 0 (λ e. omega arith) in
    let first = first_byte line (w ∷ ws) has w ws refl begins in
    rw (words, some, first)
  where
    first_byte : (l : List ℕ) (all : List (List ℕ)) → HasWords l all → (v : List ℕ)
        (vs : List (List ℕ)) → all ≡ v ∷ vs → begins_line v ≡ true → eqb (get_or l 0 0) 35 ≡ false
    first_byte _ _ (spaces l n is) v vs same begins = absurd (cc same)
    first_byte _ _ (word l first rest others zero is one ends more) v vs same begins =
        let whole : first ≡ v = cc in
        rw is (no_comment first rest one.0 (rw whole begins))
    first_byte _ _ (word l first rest others (suc n) is one ends more) v vs same begins = rw is

-- the first token is a keyword that begins so
abbrev pub begins_tokens : List Token → Bool
begins_tokens (Keyword text ∷ tokens) = begins_line text
begins_tokens _ = false

pub no_skip-tokens : (line : List ℕ) (words : List (List ℕ)) (tokens : List Token)
    → HasWords line words → AreWordsFor words tokens → begins_tokens tokens ≡ true
    → is_skipped line ≡ false
no_skip-tokens line (w ∷ ws) (Keyword text ∷ tokens) has are begins =
    no_skip-words line w ws has
    (rw are.0 begins)
no_skip-tokens line [] (token ∷ tokens) has are begins = absurd are
no_skip-tokens line _ _ has are begins = absurd (cc begins)

pub begins_command : (command : Command) → begins_tokens (command_tokens command) ≡ true
begins_command (commands.Call (Deliver k) fate) = refl
begins_command (commands.Call _ fate) = refl
begins_command _ = refl

-- ---- a line after the federation's

pub later_line-from : (line : List ℕ) (said : Option Command) → Says line said
    → later_line line ≡ Some said
unfolding later_line
later_line-from line None says = rw (is_skipped-from line says)
later_line-from line (Some command) says =
    let goes_on =
    no_skip-tokens line says.0 (command_tokens command) says.1 says.2 (begins_command command) in
    rw (goes_on, words_of-from line says.0 says.1, command_of-from says.0 command says.2)

-- what was found
mapped : (found : Option Command) (said : Option Command)
    → option_map (λ command. Some command) found ≡ Some said
    → (command : Command) × (found ≡ Some command) × (said ≡ Some command)
mapped None said is = absurd (cc is)
mapped (Some command) said is = (command, refl, cc is)

pub Says-later_line : (line : List ℕ) (said : Option Command) → later_line line ≡ Some said
    → Says line said
unfolding later_line
Says-later_line line said is =
    elim (cases_Bool (is_skipped line)) [
      | inl skipped ↦
          let none : Some None ≡ Some said = rw skipped at is in
          subst (Says line) (same_Some None said none) (IsSkipped-is_skipped line skipped)
      | inr goes_on ↦
          let words = words_of line in
          let one = mapped (command_of words) said (rw goes_on at is) in
          let has = HasWords-words_of line words refl in
          rw one.2 (words, has, command_of-says words one.0 one.1)
    ]

pub says_nothing : (line : List ℕ) → later_line line ≡ None → (said : Option Command)
    → ¬ Says line said
says_nothing line none said says =
    cc (none, later_line-from line said says)

-- nothing was found
pub none_of : {X : Type 0} (found : Option X) → ((x : X) → ¬ (found ≡ Some x)) → found ≡ None
none_of None isnt = refl
none_of (Some x) isnt = absurd (isnt x refl)

pub nothing_said : (line : List ℕ) → ((said : Option Command) → ¬ Says line said)
    → later_line line ≡ None
nothing_said line none =
    none_of (later_line line) (λ said is. none said (Says-later_line line said is))
