-- The words that the grammar has for a fate are those that are read as the fate.
use Rattle.std.proofs.Common.{◌≡◌, ℕ, List, [], ◌∷◌, Some, refl}
use Rattle.std.specs.Prelude.{codes}
use Rattle.std.proofs.lemmas.Option.{same_Some}
use Rattle.schedule.specs.declared.fate.DeviceCall.{DeviceCall}
use Rattle.schedule.specs.declared.fate.DeviceCall.TheVariants.{Append, Sync}
use Rattle.schedule.specs.declared.fate.Fate.{Fate}
use Rattle.schedule.specs.declared.fate.Fate.TheVariants.{Whole, StopsIn, StopsAfter, FailsIn}
use Rattle.schedule.specs.Commands.{amount_of, device_of, stop_of, fail_of, fate_of}
use Rattle.schedule.specs.Limits.{greatest_amount}
use Rattle.schedule.specs.Lines.{device_token, amount_token, fate_tokens}
use Rattle.schedule.specs.Tokens.{IsWordFor, AreWordsFor}
use Rattle.tokens.proofs.GrammarLemmas.{number_in-from, IsNumeral-number_in}
use Rattle.tokens.proofs.StepLemmas.{bind_some}
use Rattle.schedule.proofs.TokenLemmas.{same_words, by_keyword, of_each, OfEach}

pub amount-from : (word : List ℕ) (n : ℕ)
    → IsWordFor word (amount_token n) → amount_of word ≡ Some n
amount-from word n is = number_in-from 0 greatest_amount word n is

-- the fact that the words are read as the fate
abbrev IsRead : Fate → List (List ℕ) → Type 0
IsRead fate words = fate_of words ≡ Some fate

each_of-fate : (fate : Fate) → OfEach (fate_tokens fate) (IsRead fate)
unfolding fate_of stop_of fail_of
each_of-fate Whole = refl
each_of-fate (StopsIn Append kept) =
    λ what is at at_is number n_is. rw (is, at_is, amount-from number kept n_is)
each_of-fate (StopsIn Sync kept) =
    λ what is at at_is number n_is. rw (is, at_is, amount-from number kept n_is)
each_of-fate (StopsAfter sent) =
    λ what is at at_is number n_is. rw (is, at_is, amount-from number sent n_is)
each_of-fate (FailsIn Append kept) =
    λ what is at at_is number n_is. rw (is, at_is, amount-from number kept n_is)
each_of-fate (FailsIn Sync kept) =
    λ what is at at_is number n_is. rw (is, at_is, amount-from number kept n_is)

pub fate_of-from : (words : List (List ℕ)) (fate : Fate) → AreWordsFor words (fate_tokens fate)
    → fate_of words ≡ Some fate
fate_of-from words fate are = of_each (fate_tokens fate) (IsRead fate) (each_of-fate fate) words are

-- ---- into the grammar

pub amount-says : (word : List ℕ) (n : ℕ)
    → amount_of word ≡ Some n → IsWordFor word (amount_token n)
amount-says word n is = IsNumeral-number_in 0 greatest_amount word n is

device-says : (word : List ℕ) (device : DeviceCall) → device_of word ≡ Some device
    → IsWordFor word (device_token device)
device-says word device =
    by_keyword (λ w. IsWordFor w (device_token device)) (codes "1") word _ _ device
    (λ append. rw (← (same_Some Append device append)) refl)
    (by_keyword (λ w. IsWordFor w (device_token device)) (codes "2") word _ _ device
    (λ sync. rw (← (same_Some Sync device sync)) refl) (λ none. absurd (cc none)))

stop_of-says : (at number : List ℕ) (fate : Fate) → stop_of at number ≡ Some fate
    → AreWordsFor (codes "stop" ∷ at ∷ number ∷ []) (fate_tokens fate)
unfolding stop_of
stop_of-says at number fate =
    by_keyword (λ a. AreWordsFor (codes "stop" ∷ a ∷ number ∷ []) (fate_tokens fate)) (codes "3") at
    _ _ fate
    (λ is.
    let n = bind_some _ _ fate is in
    same_words fate_tokens (codes "stop" ∷ codes "3" ∷ number ∷ []) (StopsAfter n.0) fate n.2
    (refl, (refl, (amount-says number n.0 n.1, tt))))
    (λ is.
    let d = bind_some _ _ fate is in
    let n = bind_some _ _ fate d.2 in
    same_words fate_tokens (codes "stop" ∷ at ∷ number ∷ []) (StopsIn d.0 n.0) fate n.2
    (refl, (device-says at d.0 d.1, (amount-says number n.0 n.1, tt))))

fail_of-says : (at number : List ℕ) (fate : Fate) → fail_of at number ≡ Some fate
    → AreWordsFor (codes "fail" ∷ at ∷ number ∷ []) (fate_tokens fate)
unfolding fail_of
fail_of-says at number fate is =
    let d = bind_some _ _ fate is in
    let n = bind_some _ _ fate d.2 in
    same_words fate_tokens (codes "fail" ∷ at ∷ number ∷ []) (FailsIn d.0 n.0) fate n.2
    (refl, (device-says at d.0 d.1, (amount-says number n.0 n.1, tt)))

pub fate_of-says : (words : List (List ℕ)) (fate : Fate) → fate_of words ≡ Some fate
    → AreWordsFor words (fate_tokens fate)
unfolding fate_of
fate_of-says [] fate is = same_words fate_tokens [] Whole fate is tt
fate_of-says (what ∷ at ∷ number ∷ []) fate is =
    by_keyword (λ w. AreWordsFor (w ∷ at ∷ number ∷ []) (fate_tokens fate)) (codes "stop") what
    _ _ fate (stop_of-says at number fate)
    (by_keyword (λ w. AreWordsFor (w ∷ at ∷ number ∷ []) (fate_tokens fate)) (codes "fail") what
    _ _ fate (fail_of-says at number fate) (λ none. absurd (cc none))) is
fate_of-says words fate is = absurd (cc is)
