-- What follows of a call that went well.
use Rattle.std.proofs.Common.{Result, Ok, Err}
use Rattle.std.specs.Prelude.{IfOk, OnOk, IsOk}

-- what follows of each result follows of an Ok
pub if_ok : {T E : Type 0} {P Q : T → Type 0} (r : Result T E) → IfOk r P
    → ((x : T) → P x → Q x) → IfOk r Q
if_ok (Ok x) p f = f x p
if_ok (Err e) p f = tt

pub on_ok : {T E P Q : Type 0} (r : Result T E) → OnOk r P → (P → Q) → OnOk r Q
on_ok (Ok x) p f = f p
on_ok (Err e) p f = tt

-- of a call that cannot fail
pub always : {T E P : Type 0} (r : Result T E) → IsOk r → OnOk r P → P
always (Ok x) ok p = p
always (Err e) ok p = absurd (cc ok)
