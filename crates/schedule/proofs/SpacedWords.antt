-- Words with a space between them, in two parts.
use Rattle.std.proofs.Common.{◌≡◌, ℕ, List, [], ◌∷◌, ◌++◌, map, sym, ap, ◌∙◌, append_assoc}
use Rattle.std.specs.Prelude.{codes}
use Rattle.std.specs.List.{join_with_byte}
use Rattle.std.proofs.lemmas.List.{append-nil, map-append}
use Rattle.schedule.specs.declared.call.Call.{Call}
use Rattle.schedule.specs.declared.call.Call.TheVariants.{Deposit, Propose, Recover, Deliver, Ask}
use Rattle.schedule.specs.declared.command.Command.TheVariants as commands
use Rattle.schedule.specs.declared.fate.Fate.{Fate}
use Rattle.schedule.specs.Lines.{site_token, tree_token, amount_token, slot_tokens, call_tokens}
use Rattle.schedule.specs.Lines.{fate_tokens}
use Rattle.schedule.specs.Texts.{words_for, printed_command}
use Rattle.schedule.specs.Tokens.{Token, Keyword, printed_token}
use Rattle.schedule.specs.inner.Printed.{spaced_words}

-- a first word, and each other after a space
join-spaced : (first : List ℕ) (words : List (List ℕ))
    → join_with_byte 32 (first ∷ words) ≡ first ++ spaced_words words
join-spaced first [] = sym (append-nil first)
join-spaced first (word ∷ words) = rw (join-spaced word words)

join-append : (first : List ℕ) (words others : List (List ℕ))
    → join_with_byte 32 (first ∷ (words ++ others))
    ≡ join_with_byte 32 (first ∷ words) ++ spaced_words others
join-append first [] others = join-spaced first others
join-append first (word ∷ words) others =
    rw (join-append word words others, append_assoc)

-- the words of tokens, of which there is a first
join-tokens : (first : Token) (tokens others : List Token)
    → join_with_byte 32 (map printed_token (first ∷ (tokens ++ others)))
    ≡ join_with_byte 32 (map printed_token (first ∷ tokens))
    ++ spaced_words (map printed_token others)
join-tokens first tokens others =
    ap (λ (words : List (List ℕ)). join_with_byte 32 (printed_token first ∷ words))
    (map-append printed_token tokens others)
    ∙ join-append (printed_token first) (map printed_token tokens) (map printed_token others)

-- the words of a call, and those of its fate
pub join-call : (call : Call) (fate : Fate)
    → join_with_byte 32 (words_for (commands.Call call fate))
    ≡ join_with_byte 32 (map printed_token (call_tokens call))
    ++ spaced_words (map printed_token (fate_tokens fate))
join-call (Deposit s t slot) fate =
    join-tokens (Keyword (codes "deposit")) (site_token s ∷ tree_token t ∷ slot_tokens slot)
    (fate_tokens fate)
join-call (Propose s slot) fate =
    join-tokens (Keyword (codes "propose")) (site_token s ∷ slot_tokens slot) (fate_tokens fate)
join-call (Recover s slot) fate =
    join-tokens (Keyword (codes "recover")) (site_token s ∷ slot_tokens slot) (fate_tokens fate)
join-call (Deliver k) fate =
    join-tokens (Keyword (codes "deliver")) (amount_token k ∷ []) (fate_tokens fate)
join-call (Ask s to slot) fate =
    join-tokens (Keyword (codes "ask")) (site_token s ∷ site_token to ∷ slot_tokens slot)
    (fate_tokens fate)

-- the line of a call and its fate, from its parts
pub call_line-is : (call : Call) (fate : Fate) (text a b c : List ℕ)
    → a ≡ text ++ join_with_byte 32 (map printed_token (call_tokens call))
    → b ≡ a ++ spaced_words (map printed_token (fate_tokens fate)) → c ≡ b ++ 10 ∷ []
    → c ≡ text ++ printed_command (commands.Call call fate)
call_line-is call fate text a b c first second third =
    let own = join_with_byte 32 (map printed_token (call_tokens call)) in
    let ends = spaced_words (map printed_token (fate_tokens fate)) in
    rw (third, second, first)
    (append_assoc (text ++ own) ends (10 ∷ []) ∙ append_assoc text own (ends ++ 10 ∷ [])
    ∙ ap (λ (t : List ℕ). text ++ t) (sym (append_assoc own ends (10 ∷ [])))
    ∙ ap (λ (t : List ℕ). text ++ (t ++ 10 ∷ [])) (sym (join-call call fate)))
