-- Whether bytes begin with a header, and whose it is.
use Rattle.std.proofs.Common.{◌≡◌, ℕ, ◌+◌, ◌-◌, ◌<◌, ◌≤◌, List, [], ◌∷◌, ◌++◌, length, take, drop}
use Rattle.std.proofs.Common.{get_or, refl, sym, ap, ◌∙◌, arith, inl, inr, length-append}
use Rattle.std.proofs.lemmas.List.{take_at, take-append-drop}
use Rattle.std.proofs.lemmas.List.Elements.{All-get_or}
use Rattle.std.specs.Int.{w64, to_be_bytes}
use Rattle.std.specs.List.{All, Contains}
use Rattle.std.specs.Prelude.{slice_index}
use Rattle.fed_types.specs.Sites.{CountFits, IsSiteNumber, IsWeight, Membership}
use Rattle.records.specs.declared.owner.Owner.{Owner}
use Rattle.records.specs.Numbers.{magic, old_magic}
use Rattle.records.specs.Layout.{header_bytes, header_of}
use Rattle.records.specs.Journals.{HasHeader, IsOfOwner}
use Rattle.records.proofs.Apart.{header_size, old_header_magic, header_count, header_weights}
use Rattle.records.proofs.FoundParts.{old_whole, short_unnamed}
use Rattle.ledger.specs.Cells.{IsHeaded}
use Rattle.ledger.specs.inner.Named.{HasHeaderOf}
use Rattle.records.proofs.OneReading.{headed_owner, headed_names}

-- ---- a header of the second layout, by the count of its members

no_zero : (ws : List ℕ) → All IsWeight ws → ¬ Contains {X = ℕ} ws 0
no_zero ws all found =
    let w : IsWeight (slice_index ws found.0) = All-get_or IsWeight ws found.0 0 found.1 all in
    omega (arith, w.0, found.2)

-- the weights that the count says
abbrev pub counted : List ℕ → ℕ → List ℕ
counted bytes n = take (14 + n - 14) (drop 14 bytes)

module _ (owner : Owner) (bytes : List ℕ) (n : ℕ) (count : n ≡ get_or bytes 13 0) where
  pub their_weights : (ws x : List ℕ) → bytes ≡ header_of owner ws ++ x → counted bytes n ≡ ws
  their_weights ws x is =
      let size : n ≡ length ws = count ∙ ap (λ (b : List ℕ). get_or b 13 0) is
      ∙ header_count owner ws x in
      ap (take (14 + n - 14)) (ap (drop 14) is ∙ header_weights owner ws x)
      ∙ take_at ws x (14 + n - 14) (omega (arith, size))

  pub fit : HasHeader owner bytes
      → CountFits (counted bytes n) × ¬ Contains {X = ℕ} (counted bytes n) 0
  fit (ws, x, are, is) =
      let e = their_weights ws x is in (
        rw e are.0,
        rw e (no_zero ws are.1),
      )

  pub too_short : length bytes < 14 + n → ¬ HasHeader owner bytes
  too_short short (ws, x, are, is) =
      omega (
        arith,
        short,
        count,
        ap (λ (b : List ℕ). get_or b 13 0) is,
        header_count owner ws x,
        ap length is,
        length-append (header_of owner ws) x,
        header_size owner ws,
      )

-- ---- headers as they are compared

pub header_under : (owner : Owner) (m : Membership) → m.federation ≡ owner.members.federation
    → header_bytes (record { members = m; site = owner.site }) ≡ header_of owner m.weights
unfolding header_of
header_under owner m f = rw f refl

module _ (owner : Owner) (bytes header ws : List ℕ) (is : header ≡ header_of owner ws) where
  pub size_of : length header ≡ 14 + length ws
  size_of = ap length is ∙ header_size owner ws

  pub begun : take (length header) bytes ≡ header
      → bytes ≡ header_of owner ws ++ drop (14 + length ws) bytes
  begun e = rw (e, is, header_size) at (sym (take-append-drop {A = ℕ} (length header) bytes))

  pub begins : (x : List ℕ) → bytes ≡ header_of owner ws ++ x → take (length header) bytes ≡ header
  begins x e = ap (take (length header)) e
      ∙ take_at (header_of owner ws) x (length header) (sym (ap length is)) ∙ sym is

-- ---- no header of anyone

pub too_few : (bytes : List ℕ) → length bytes < 13 → (o : Owner) → IsSiteNumber o.site
    → IsHeaded o bytes → ⊥
too_few bytes short o site headed = short_unnamed bytes short (headed_names o bytes headed)

pub no_site : (bytes : List ℕ) → ¬ IsSiteNumber (slice_index bytes 12) → (o : Owner)
    → IsSiteNumber o.site → IsHeaded o bytes → ⊥
no_site bytes bad o site headed =
    bad (rw (headed_owner o bytes headed).1 site)

-- owners of the same federation and site have the same headers
same_header : (a b : Owner) (ws : List ℕ) → to_be_bytes w64 a.members.federation
    ≡ to_be_bytes w64 b.members.federation → a.site ≡ b.site → header_of a ws ≡ header_of b ws
unfolding header_of
same_header a b ws f s =
    λ i. magic ++ ((f i ++ s i ∷ []) ++ (length ws ∷ ws))

pub of_nobody : (owner : Owner) (bytes : List ℕ) → IsOfOwner owner bytes
    → ¬ (take 4 bytes ≡ old_magic) → ¬ HasHeader owner bytes → (o : Owner) → IsSiteNumber o.site
    → IsHeaded o bytes → ⊥
of_nobody owner bytes its not_old not_new o site (inl (rest, is)) =
    not_old (ap (take 4) is ∙ old_header_magic o rest)
of_nobody owner bytes its not_old not_new o site (inr (ws, rest, are, is)) =
    let other = headed_owner o bytes (inr (ws, rest, are, is)) in
    let same = same_header o owner ws (sym other.0 ∙ its.0) (sym other.1 ∙ its.1) in
    not_new (ws, rest, are, rw (← same) is)

-- ---- a header that was found

pub old_begins : (owner : Owner) (bytes : List ℕ) → 13 ≤ length bytes → take 4 bytes ≡ old_magic
    → IsOfOwner owner bytes → IsHeaded owner bytes
old_begins owner bytes long m its = inl (drop 13 bytes, old_whole owner bytes long m its)

pub has_of : (owner : Owner) (m : Membership) (bytes : List ℕ) → HasHeaderOf owner m bytes
    → HasHeader owner bytes
has_of owner m bytes h = (m.weights, drop (14 + length m.weights) bytes, h.weights, h.bytes_are)
