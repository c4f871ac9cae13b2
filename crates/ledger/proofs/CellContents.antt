-- What was found and read of a cell, as its contents.
use Rattle.std.proofs.Common.{◌≡◌, ℕ, List, [], ◌∷◌, length, take, Ok, Err, Bool}
use Rattle.std.proofs.Common.{Result, refl, sym, ap, ◌∙◌, arith, inl, inr, length-append}
use Rattle.std.specs.Prelude.{IfOk}
use Rattle.std.specs.declared.alloc.AllocError.{AllocError}
use Rattle.std.proofs.lemmas.List.{append-nil, take_at}
use Rattle.std.proofs.lemmas.List.Elements.{All-replicate}
use Rattle.records.specs.declared.owner.Owner.{Owner}
use Rattle.fed_types.specs.Sites.{AreWeights, IsWeight}
use Rattle.records.specs.Starts.{Start, Old, New, Carried, HasWeights, IsStart, text_bytes}
use Rattle.records.specs.Journals.{Reaches, IsEnd, HasEnd}
use Rattle.ledger.specs.declared.contents.Contents.{Contents}
use Rattle.ledger.specs.declared.ending.Ending.{Ending}
use Rattle.ledger.specs.declared.ending.Ending.TheVariants.{Damaged}
use Rattle.ledger.specs.Cells.{NamesWeights, EndsWith, IsCell, IsOwner}
use Rattle.ledger.specs.inner.Found.{HasDamage, IsTextRead, ending_of}
use Rattle.ledger.specs.inner.Named.{IsHeadedBy}
use Rattle.ledger.proofs.SameOwners.{reaches_of, end_of, damage_of}

pub weights_of : (start : Start) (weights : List ℕ) (named : Bool) → NamesWeights start weights named
    → HasWeights weights start
weights_of Old weights named h = rw h.0 (All-replicate (λ (w : ℕ). w ≡ 1) 1 1 refl)
weights_of (New its) weights named h = sym h.0
weights_of (Carried rs its) weights named h = sym h.0

pub ends_with : (owner : Owner) (bytes : List ℕ) (start : Start) (rest : List ℕ)
    → IsEnd owner start rest → EndsWith owner bytes start rest (ending_of (length rest))
ends_with owner bytes start [] h = refl
ends_with owner bytes start (a ∷ rest) (inl none) = absurd (cc none)
ends_with owner bytes start (a ∷ rest) (inr torn) = (torn, omega arith, refl)

-- the weights that a start names, or a single one
their_weights : (start : Start) (weights : List ℕ) (named : Bool) → IsStart start
    → NamesWeights start weights named → AreWeights weights
their_weights Old weights named is h =
    rw h.0 ((omega arith, omega arith), All-replicate IsWeight 1 1 (omega arith, omega arith))
their_weights (New its) weights named is h = rw h.0 is
their_weights (Carried rs its) weights named is h = rw h.0 is.1

-- whom it names
named_owner : (owner : Owner) (bytes : List ℕ) → IsHeadedBy owner bytes → (its : Owner)
    → its.members.federation ≡ owner.members.federation → its.site ≡ owner.site
    → AreWeights its.members.weights → IsOwner its
named_owner owner bytes h its federation site weights =
    ((rw federation h.federation, weights), rw site h.site)

-- a text that was read, and how a cell goes on that begins with it
told : (owner : Owner) (bytes text : List ℕ) → IsHeadedBy owner bytes → (e : HasEnd owner text)
    → (contents : Contents) → IsTextRead owner text contents
    → (rest : List ℕ) → Reaches owner bytes e.start e.records rest
    → (ending : Ending) → EndsWith contents.owner bytes e.start rest ending
    → IsCell bytes (record contents { ending = ending })
told owner bytes text h e contents t rest reaches ending ends =
    let all = t.all e.start e.records e.end e.reaches e.ends in
    record {
      start = e.start;
      records = e.records;
      rest = rest;
      owner_is = named_owner owner bytes h contents.owner t.federation t.site
          (their_weights e.start contents.owner.members.weights contents.names_weights
          e.reaches.is_start all.1);
      reaches = reaches_of owner contents.owner (sym t.federation) (sym t.site) bytes e.start
          e.records rest reaches;
      records_are = all.0;
      weights_are = all.1;
      ends = ends;
    }

pub tells : (owner : Owner) (bytes : List ℕ) → IsHeadedBy owner bytes → HasEnd owner bytes
    → (r : Result Contents AllocError) → IfOk r (IsTextRead owner bytes) → IfOk r (IsCell bytes)
tells owner bytes h e (Ok contents) t =
    told owner bytes bytes h e contents t e.end e.reaches contents.ending
    (rw (t.all e.start e.records e.end e.reaches e.ends).2
    (ends_with contents.owner bytes e.start e.end
    (end_of owner contents.owner (sym t.federation) (sym t.site) e.start e.end e.ends)))
tells owner bytes h e (Err fault) t = tt

-- ---- damage

module _ (owner : Owner) (bytes : List ℕ) (place : ℕ) (d : HasDamage owner bytes place) where
  text_reaches : Reaches owner (take place bytes) d.start d.records []
  text_reaches =
      let text = text_bytes owner d.start d.records in record {
        is_start = d.reaches.is_start;
        are_records = d.reaches.are_records;
        bytes_are = ap (take place) d.reaches.bytes_are
            ∙ take_at text d.rest place (omega (
              arith,
              d.place_is,
              ap length d.reaches.bytes_are,
              length-append text d.rest,
            ))
            ∙ sym (append-nil text);
      }

  pub text_ends : HasEnd owner (take place bytes)
  text_ends = record {
    start = d.start;
    records = d.records;
    end = [];
    reaches = text_reaches;
    ends = inl refl;
  }

  pub damage_told : IsHeadedBy owner bytes → (text : Contents)
      → IsTextRead owner (take place bytes) text
      → IsCell bytes (record text { ending = Damaged place })
  unfolding text_ends
  damage_told h text t =
      told owner bytes (take place bytes) h text_ends text t d.rest d.reaches (Damaged place) (
        damage_of owner text.owner (sym t.federation) (sym t.site) d.start d.rest d.damage,
        d.place_is,
      )
