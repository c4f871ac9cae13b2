-- What is shown outside: whole turns or batches, one after another.
use Rattle.std.proofs.Common.{ℕ, List, [], ◌∷◌, ◌++◌, flat_map, append-nil}
use Rattle.std.proofs.lemmas.List.{flat_map_more}
use Rattle.outcomes.proofs.KnownBytes.{Appends-trans}
use Rattle.udp_site.specs.Traffic.{Move}
use Rattle.udp_site.specs.Served.{Outside}
use Rattle.udp_site.specs.inner.OneTurn.{Adds}
use Rattle.udp_site.proofs.Growth.{Grows-trans, Grows-none, Appends-none}

-- nothing was done
pub none_added : (o : Outside) → Adds o o [] []
none_added o = (Grows-none o.traffic, Appends-none o.written)

module _ {X : Type 0} (moves_of : X → List Move) (text_of : X → List ℕ) where
  -- all moves of these were made, and all their text was written; and then these
  abbrev pub Shown : (before after : Outside) → List X → List Move → List ℕ → Type 0
  Shown before after xs moves text =
      Adds before after (flat_map moves_of xs ++ moves) (flat_map text_of xs ++ text)

  pub shown_more : (before mid after : Outside) (xs : List X) (moves : List Move) (text : List ℕ)
      → Shown before mid xs [] [] → Adds mid after moves text → Shown before after xs moves text
  shown_more before mid after xs moves text shown adds = (
    Grows-trans _ _ _ _ _ (rw append-nil at shown.0) adds.0,
    Appends-trans _ _ _ _ _ (rw append-nil at shown.1) adds.1,
  )

  -- one more is whole
  pub shown_whole : (before mid after : Outside) (xs : List X) (x : X) → Shown before mid xs [] []
      → Adds mid after (moves_of x) (text_of x) → Shown before after (xs ++ x ∷ []) [] []
  shown_whole before mid after xs x shown adds =
      let more = shown_more before mid after xs (moves_of x) (text_of x) shown adds in (
        rw (append-nil, ← flat_map_more moves_of [] xs x) more.0,
        rw (append-nil, ← flat_map_more text_of [] xs x) more.1,
      )
