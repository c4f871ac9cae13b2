-- What a part of a turn comes to, in the code's variables.
use Rattle.std.specs.Prelude.{◌≡◌, ℕ, List, [], ◌++◌, map, take, Option, Result, Ok, Err}
use Rattle.std.specs.declared.alloc.AllocError.{AllocError}
use Rattle.fed_types.specs.Slots.{SlotName}
use Rattle.site.specs.Sites.{OpenSite}
use Rattle.lines.specs.declared.line.Line.{Line}
use Rattle.lines.specs.declared.notice.Notice.{Notice}
use Rattle.lines.specs.Named.{line_of}
use Rattle.udp_site.specs.Traffic.{Post, Move, Grows, all_handed}
use Rattle.udp_site.specs.Turns.{Serving, Coming, Done, IsServing, Asks}

-- these datagrams were handed out; or memory ran out when the first of them were
abbrev pub Hands :
    {T : Type 0} → (before after : Option (List Move)) → List Post → Result T AllocError → Type 0
Hands before after posts (Ok handed) = Grows before after (all_handed posts)
Hands before after posts (Err e) =
    (count : ℕ) × Grows before after (take count (all_handed posts))

-- these notices are the last lines
abbrev pub Notes : (old new : List Line) → List Notice → Type 0
Notes old new notices = new ≡ old ++ map (line_of []) notices

-- it came so, whole; or memory ran out within it
abbrev pub ComesTo :
    {C : Type 0} → Coming C → (before after : Option (List Move)) → (old new : List Line)
    → OpenSite C → Result (Unit {0}) AllocError → Type 0
ComesTo {C} coming before after old new site (Ok whole) =
    (done : Done) × (next : Serving C) × coming done next × (next.site ≡ site) × IsServing next
    × Grows before after (all_handed done.posts)
    × Notes old new done.notices
ComesTo {C} coming before after old new site (Err e) =
    (done : Done) × (next : Serving C) × coming done next × (next.site ≡ site)
    × (count : ℕ) × Grows before after (take count (all_handed done.posts))

-- it came so, and these turns were idle, and this place is the next
abbrev pub at : {C : Type 0} → (idle tried : ℕ) → Coming C → Coming C
at idle tried coming done next = coming done next × (next.idle ≡ idle) × (next.tried ≡ tried)

-- these members were asked, with a line for each that wasn't; or memory ran out within
abbrev pub AsksFor :
    {C : Type 0} → List ℕ → Serving C → SlotName → List ℕ → (before after : Option (List Move))
    → (old new : List Line) → Result (Unit {0}) AllocError → Type 0
AsksFor addresses s slot asked before after old new (Ok whole) =
    (done : Done) × Asks addresses s slot asked done × Grows before after (all_handed done.posts)
    × Notes old new done.notices
AsksFor addresses s slot asked before after old new (Err e) =
    (done : Done) × Asks addresses s slot asked done
    × (count : ℕ) × Grows before after (take count (all_handed done.posts))
