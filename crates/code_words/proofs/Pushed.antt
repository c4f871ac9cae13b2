-- Texts that were appended one after another.
use Rattle.std.proofs.Common.{◌≡◌, ℕ, false, List, [], ◌++◌, drop, map, Bor, sym, append_assoc}
use Rattle.std.specs.Prelude.{Option, Some, None, is_some, unwrap_or, if◌then◌else◌, Result, Ok}
use Rattle.std.specs.Prelude.{Err, is_ok, OnOk}
use Rattle.std.proofs.lemmas.Bool.{true≢false}
use Rattle.std.proofs.lemmas.List.{drop-map}

pub two : (old mid new a b : List ℕ) → mid ≡ old ++ a → new ≡ mid ++ b → new ≡ old ++ (a ++ b)
two old mid new a b p q = rw (q, p, append_assoc)

-- where no fault was appended, what is said in its place was
pub of_no_fault : (old mid new said : List ℕ) (fault : Option (List ℕ)) → is_some fault ≡ false
    → mid ≡ old ++ unwrap_or fault [] → new ≡ mid ++ said → new ≡ old ++ unwrap_or fault said
of_no_fault old mid new said None is p q = two old mid new [] said p q
of_no_fault old mid new said (Some x) is p q = absurd (true≢false is)

-- the words from a place on
pub words_left : (place : ℕ) (words left : List (Bor (List ℕ))) → left ≡ drop place words
    → map (λ word. word.now) left ≡ drop place (map (λ word. word.now) words)
words_left place words left is =
    rw is (sym (drop-map (λ word. word.now) place words))

-- what was appended if all was
pub on_ok_pushed : {X E : Type 0} (result : Result X E) (old new a : List ℕ)
    → new ≡ (if is_ok result then old ++ a else old) → OnOk result (new ≡ old ++ a)
on_ok_pushed (Ok x) old new a p = p
on_ok_pushed (Err e) old new a p = tt
