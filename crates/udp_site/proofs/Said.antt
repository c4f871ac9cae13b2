-- How a turn comes out: whole, or broken off.
use Rattle.std.proofs.Common.{◌≡◌, List, Option, Result, Ok, Err, OnOk}
use Rattle.std.specs.declared.alloc.AllocError.{AllocError}
use Rattle.site.specs.Sites.{OpenSite}
use Rattle.lines.specs.declared.line.Line.{Line}
use Rattle.udp_site.specs.Traffic.{Move, Grows, all_handed}
use Rattle.udp_site.specs.Turns.{Serving, Coming, Done, IsServing}
use Rattle.udp_site.specs.inner.Outcomes.{ComesTo, Notes}
use Rattle.udp_site.proofs.Handed.{whole_part}

-- all of it was handed out, and what is said of it is added; or memory ran out for that
pub handed_and_said : {C : Type 0} (coming : Coming C) {done : Done} {next : Serving C}
    {site : OpenSite C} → coming done next → next.site ≡ site → IsServing next
    → (a b : Option (List Move)) → Grows a b (all_handed done.posts)
    → (old new : List Line) (r : Result (Unit {0}) AllocError) → OnOk r (Notes old new done.notices)
    → ComesTo coming a b old new site r
handed_and_said coming {done} {next} is there serves a b handed old new (Ok x) said =
    (done, next, is, there, serves, handed, said)
handed_and_said coming {done} {next} is there serves a b handed old new (Err e) said =
    let part = whole_part a b (all_handed done.posts) handed in
    (done, next, is, there, part.0, part.1)

-- what is said at success of all is said of this one
pub on_ok_at : {T : Type 0} (P : T → Type 0) (r : Result (Unit {0}) AllocError)
    → OnOk r ((x : T) → P x) → (x : T) → OnOk r (P x)
on_ok_at P (Ok whole) of_all x = of_all x
on_ok_at P (Err e) of_all x = tt

-- what comes so comes so too
pub comes_too : {C : Type 0} (coming other : Coming C)
    → ((done : Done) (next : Serving C) → coming done next → other done next)
    → (a b : Option (List Move)) (old new : List Line) (site : OpenSite C)
    → (r : Result (Unit {0}) AllocError)
    → ComesTo coming a b old new site r → ComesTo other a b old new site r
comes_too coming other so a b old new site (Ok whole) (done, next, is, at, serves, handed, said) =
    (done, next, so done next is, at, serves, handed, said)
comes_too coming other so a b old new site (Err e) (done, next, is, at, count, handed) =
    (done, next, so done next is, at, count, handed)
