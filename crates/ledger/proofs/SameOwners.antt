-- What bytes say of records is the same for owners of one federation and site, whatever the
-- weights.
use Rattle.std.proofs.Common.{◌≡◌, ℕ, List, [], ◌∷◌, ◌++◌, length, sym, ◌∙◌, inl, inr}
use Rattle.std.specs.Int.{w64, to_be_bytes}
use Rattle.records.specs.declared.owner.Owner.{Owner}
use Rattle.records.specs.declared.record.Record.{Record}
use Rattle.records.specs.declared.layout.Layout.TheVariants.{First}
use Rattle.records.specs.Numbers.{magic, old_magic}
use Rattle.records.specs.Layout.{all_encoded, header_of, old_header}
use Rattle.records.specs.Starts.{Start, Old, New, Carried, start_bytes}
use Rattle.records.specs.Journals.{HasHeader, IsHeaderPart, Reaches, IsTornHeader, IsEnd}
use Rattle.records.specs.Journals.{IsNoHeader, IsDamage}

module _ (a b : Owner) (f : a.members.federation ≡ b.members.federation) (s : a.site ≡ b.site) where
  same_old : old_header a ≡ old_header b
  unfolding old_header
  same_old = λ i. old_magic ++ (to_be_bytes w64 (f i) ++ s i ∷ [])

  same_header : (ws : List ℕ) → header_of a ws ≡ header_of b ws
  unfolding header_of
  same_header ws = λ i. magic ++ ((to_be_bytes w64 (f i) ++ s i ∷ []) ++ (length ws ∷ ws))

  same_start : (start : Start) → start_bytes a start ≡ start_bytes b start
  same_start Old = same_old
  same_start (New ws) = same_header ws
  same_start (Carried rs ws) =
      λ i. (same_old i ++ all_encoded First rs) ++ same_header ws i

  pub reaches_of : (bytes : List ℕ) (start : Start) (rs : List Record) (rest : List ℕ)
      → Reaches a bytes start rs rest → Reaches b bytes start rs rest
  reaches_of bytes start rs rest r = record {
    is_start = r.is_start;
    are_records = r.are_records;
    bytes_are = rw (← same_start start) r.bytes_are;
  }

  part_of : (x : List ℕ) → IsHeaderPart a x → IsHeaderPart b x
  part_of x (ws, rest, are, some, is) = (ws, rest, are, some, is ∙ same_header ws)

  has_of : (x : List ℕ) → HasHeader a x → HasHeader b x
  has_of x (ws, rest, are, is) = (ws, rest, are, rw (← same_header ws) is)

  torn_of : (start : Start) (x : List ℕ) → IsTornHeader a start x → IsTornHeader b start x
  torn_of Old x h = part_of x h
  torn_of _ x h = absurd h

  pub end_of : (start : Start) (x : List ℕ) → IsEnd a start x → IsEnd b start x
  end_of start x (inl none) = inl none
  end_of start x (inr (inl torn)) = inr (inl torn)
  end_of start x (inr (inr part)) = inr (inr (torn_of start x part))

no_header_of : (a b : Owner) → a.members.federation ≡ b.members.federation → a.site ≡ b.site
    → (start : Start) (x : List ℕ) → IsNoHeader a start x → IsNoHeader b start x
no_header_of a b f s Old x h =
    (λ p. h.0 (part_of b a (sym f) (sym s) x p), λ p. h.1 (has_of b a (sym f) (sym s) x p))
no_header_of a b f s _ x h = h

pub damage_of : (a b : Owner) → a.members.federation ≡ b.members.federation → a.site ≡ b.site
    → (start : Start) (x : List ℕ) → IsDamage a start x → IsDamage b start x
damage_of a b f s start x h = (h.0, no_header_of a b f s start x h.1)
