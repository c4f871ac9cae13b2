-- What writes do to known bytes, one call after another.
use Rattle.std.proofs.Common.{◌≡◌, ℕ, ◌+◌, ◌-◌, List, ◌++◌, length, take, drop, Option, Some, None}
use Rattle.std.proofs.Common.{sym, ap, ◌∙◌, append_assoc, subst}
use Rattle.std.specs.Io.KnownBytes.{Appends, Keeps}
use Rattle.std.proofs.lemmas.List.{take_rest}
use Rattle.std.proofs.Math.Seq.{take-add}

pub Appends-trans : (a b c : Option (List ℕ)) (bs cs : List ℕ) → Appends a b bs → Appends b c cs
    → Appends a c (bs ++ cs)
Appends-trans None b c bs cs p q = tt
Appends-trans (Some x) None c bs cs p q = absurd p
Appends-trans (Some x) (Some y) None bs cs p q = absurd q
Appends-trans (Some x) (Some y) (Some z) bs cs p q =
    q ∙ (ap (λ l. l ++ cs) p ∙ append_assoc x bs cs)

pub Appends-kept : (a b c : Option (List ℕ)) (bs : List ℕ) → Appends a b bs → Keeps b c
    → Appends a c bs
Appends-kept None b c bs p q = tt
Appends-kept (Some x) None c bs p q = absurd p
Appends-kept (Some x) (Some y) None bs p q = absurd q
Appends-kept (Some x) (Some y) (Some z) bs p q = q ∙ p

-- a writer took the front of a text, and then more of it
pub Appends-more : (a b c : Option (List ℕ)) (text : List ℕ) (written count : ℕ)
    → Appends a b (take written text)
    → Appends b c (take count (take (length text - written) (drop written text)))
    → Appends a c (take (written + count) text)
Appends-more a b c text written count p q =
    let rest : take (length text - written) (drop written text) ≡ drop written text =
    take_rest text written in
    subst (Appends a c) (sym (take-add written count text))
    (Appends-trans a b c (take written text) (take count (drop written text)) p
    (subst (λ r. Appends b c (take count r)) rest q))
