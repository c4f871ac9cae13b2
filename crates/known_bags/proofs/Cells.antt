-- What the bytes of a cell give.
use Rattle.std.proofs.Common.{◌≡◌, ℕ, List, [], Result, Ok, Err, true, refl, sym, subst}
use Rattle.std.proofs.Common.{append-nil, inl, inr}
use Rattle.ledger.specs.declared.contents.Contents.{Contents}
use Rattle.ledger.specs.declared.ending.Ending.{Ending}
use Rattle.ledger.specs.declared.ending.Ending.TheVariants.{Whole, Torn, Damaged}
use Rattle.ledger.specs.Cells.{HasNoOwner, IsCell}
use Rattle.ledger.specs.Headless.{EndsHeadless}
use Rattle.known_bags.specs.declared.known_bag.KnownBag.{KnownBag}
use Rattle.known_bags.specs.declared.sources.SourceFault.{SourceFault}
use Rattle.known_bags.specs.declared.sources.SourceFault.TheVariants.{Unread, Line, Memory}
use Rattle.known_bags.specs.declared.sources.SourceFault.TheVariants as faults
use Rattle.known_bags.specs.Sources.{is_cell, known_of, IsSourceOf}
use Rattle.known_bags.specs.inner.Sources.{end_of, AreOfContents}

damaged_at : (ending : Ending) (place : ℕ)
    → end_of ending ≡ Err (faults.Damaged place) → ending ≡ Damaged place
damaged_at Whole place e = absurd (cc e)
damaged_at (Torn count) place e = absurd (cc e)
damaged_at (Damaged at) place e = cc e

no_other : (ending : Ending) (fault : SourceFault)
    → ((place : ℕ) → fault ≡ faults.Damaged place → ⊥)
    → end_of ending ≡ Err fault → ⊥
no_other Whole fault other e = cc e
no_other (Torn count) fault other e = cc e
no_other (Damaged at) fault other e = other at (cc e)

-- of a cell with a header
pub cell_gives : (bytes : List ℕ) (contents : Contents) (old new : List KnownBag)
    (result : Result (Unit {0}) SourceFault) → IsCell bytes contents
    → AreOfContents contents old new result → is_cell bytes ≡ true → IsSourceOf bytes old new result
cell_gives bytes contents old new (Ok u) cell h is =
    (known_of contents.records.items, inl (is, inl (contents, cell, h.0, refl)), h.1)
cell_gives bytes contents old new (Err Memory) cell h is = tt
cell_gives bytes contents old new (Err Unread) cell h is =
    no_other contents.ending Unread (λ place e. cc e) h
cell_gives bytes contents old new (Err (Line n)) cell h is =
    absurd (no_other contents.ending (Line n) (λ place e. cc e) h)
cell_gives bytes contents old new (Err (faults.Damaged place)) cell h is =
    (is, inl (contents, cell, damaged_at contents.ending place h))

-- of bytes that begin with none
pub headless_gives : (bytes : List ℕ) (old : List KnownBag) (ending : Ending)
    (result : Result (Unit {0}) SourceFault) → HasNoOwner bytes → EndsHeadless bytes ending
    → result ≡ end_of ending → is_cell bytes ≡ true → IsSourceOf bytes old old result
headless_gives bytes old ending result none ends e is =
    subst (IsSourceOf bytes old old) (sym e) (by ending ends)
  where
    by : (ending : Ending) → EndsHeadless bytes ending → IsSourceOf bytes old old (end_of ending)
    by Whole h = ([], inl (is, inr (none, (Whole, h, tt), refl)), sym (append-nil old))
    by (Torn count) h =
        ([], inl (is, inr (none, (Torn count, h, tt), refl)), sym (append-nil old))
    by (Damaged place) h = (is, inr (none, h))
