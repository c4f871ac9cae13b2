-- The turns of a batch, one after another.
use Rattle.std.proofs.Common.{◌≡◌, ℕ, ◌+◌, ◌<◌, List, [], ◌∷◌, ◌++◌, length, map, take, drop}
use Rattle.std.proofs.Common.{get_or, Some, Ok, Err, refl}
use Rattle.std.proofs.lemmas.List.{flat_map_more, map-append, take-append-drop, take_more}
use Rattle.book.specs.declared.waiting.Waiting.{Waiting}
use Rattle.site.specs.Sites.{OpenSite}
use Rattle.lines.specs.declared.line.Line.{Line}
use Rattle.std.specs.declared.alloc.AllocError.{AllocError}
use Rattle.udp_site.specs.declared.turn.Turn.{Turn}
use Rattle.udp_site.specs.Traffic.{Post, Grows, all_handed, taken}
use Rattle.udp_site.specs.Turns.{Serving, Done}
use Rattle.udp_site.specs.Served.{Rule, Turned}
use Rattle.udp_site.specs.BatchTurns.{Follow, took_by}
use Rattle.udp_site.specs.inner.Batched.{TakesAll, TakesSome}
use Rattle.udp_site.specs.inner.Outcomes.{ComesTo, at}
use Rattle.udp_site.proofs.Handed.{handed_both}

-- datagrams that are handed out so are the same
same_handed : (xs ys : List Post) → all_handed xs ≡ all_handed ys → xs ≡ ys
unfolding all_handed
same_handed [] [] e = refl
same_handed [] (y ∷ ys) e = absurd (cc e)
same_handed (x ∷ xs) [] e = absurd (cc e)
same_handed (x ∷ xs) (y ∷ ys) e = cc (e, same_handed xs ys (cc e))

-- what is held grows by these
held_more : (old new more : List Post)
    → Grows (Some (all_handed old)) (Some (all_handed new)) (all_handed more) → new ≡ old ++ more
held_more old new more grows =
    same_handed new (old ++ more) (rw (handed_both old more) (cc grows))

module _ (rule : Rule Waiting) where
  follow_more : (start mid end : Serving Waiting) (turns : List Turned) (turn : Turned)
      → Follow rule start turns mid → rule mid turn.took turn.done end
      → Follow rule start (turns ++ turn ∷ []) end
  follow_more start mid end [] turn follow comes = (end, rw follow comes, refl)
  follow_more start mid end (first ∷ turns) turn (next, first_so, follow) comes =
      (next, first_so, follow_more next mid end turns turn follow comes)

  -- the turns so far are those that took the first so many of these, and the next one takes this
  module _ (s : Serving Waiting) (old new : OpenSite Waiting) (posted then : List Post)
      (said now : List Line) (idle tried idle_then tried_then : ℕ)
      (xs : List Turn) (place : ℕ) (x : Turn) (within : place < length xs)
      (is : x ≡ get_or xs place x)
      (so_far : TakesAll rule (map taken (take place xs)) s old posted said idle tried) where
    now_took : (done : Done) → took_by (so_far.0 ++ record { took = taken x; done = done } ∷ [])
        ≡ map taken (take (place + 1) xs)
    now_took done =
        rw (
          map-append (λ (turn : Turned). turn.took) so_far.0
              (record { took = taken x; done = done } ∷ []),
          so_far.2,
          take_more xs place x within,
          ← is,
          map-append taken (take place xs) (x ∷ []),
        )

    pub one_more_taken :
        ComesTo (at idle_then tried_then (rule so_far.1 (taken x))) (Some (all_handed posted))
        (Some (all_handed then)) said now new (Ok tt)
        → TakesAll rule (map taken (take (place + 1) xs)) s new then now idle_then tried_then
    one_more_taken (done, next, comes, site, serves, handed, notes) =
        let turn : Turned = record { took = taken x; done = done } in (
          so_far.0 ++ turn ∷ [],
          next,
          now_took done,
          follow_more s so_far.1 next so_far.0 turn so_far.3 comes.0,
          site,
          comes.1,
          comes.2,
          serves,
          rw (
            held_more posted then done.posts handed,
            so_far.8,
            ← flat_map_more (λ (t : Turned). t.done.posts) [] so_far.0 turn,
          ),
          rw (
            notes,
            so_far.9,
            ← flat_map_more (λ (t : Turned). t.done.notices) [] so_far.0 turn,
            map-append,
          ),
        )

    -- memory ran out within it
    pub broken_off : (fault : AllocError)
        → ComesTo (at idle_then tried_then (rule so_far.1 (taken x))) (Some (all_handed posted))
        (Some (all_handed then)) said now new (Err fault)
        → TakesSome rule (map taken xs) s new
    broken_off fault (done, next, comes, site, count, handed) = (
      so_far.0,
      so_far.1,
      so_far.3,
      record { took = taken x; done = done },
      next,
      comes.0,
      site,
      map taken (drop (place + 1) xs),
      rw (
        now_took done,
        ← map-append taken (take (place + 1) xs) (drop (place + 1) xs),
        take-append-drop (place + 1) xs,
      ),
    )
