-- What follows of a call that succeeded.
use Rattle.std.proofs.Common.{Result, Ok, Err, OnOk}

pub both_ok : {X E A B G : Type 0} (r : Result X E) → OnOk r A → OnOk r B → (A → B → G)
    → OnOk r G
both_ok (Ok x) a b f = f a b
both_ok (Err e) a b f = tt
