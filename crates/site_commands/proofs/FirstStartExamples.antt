-- How a start begins with a cell of no bytes: one that has to be there is refused, and isn't
-- changed; that of a new site gets its header.
use Rattle.std.proofs.Common.{◌≡◌, inl, inr, ℕ, List, [], ◌∷◌, take, true, false, Option, Some}
use Rattle.std.proofs.Common.{Ok, Err, refl, arith}
use Rattle.cell_device.specs.Images.{Image, Leaves, at_rest}
use Rattle.records.specs.Layout.{header_bytes}
use Rattle.records.specs.declared.owner.Owner.{Owner}
use Rattle.book.proofs.AtRest.{rest_leaves}
use Rattle.site_commands.specs.FirstStarts.{HoldsHeader, IsPrepared, LeavesBegun}
use Rattle.site_commands.specs.declared.first_start.Unprepared.TheVariants.{NoHeader}

-- a cell that was emptied, and a whole header of the first layout, of site 2 of federation 7
abbrev emptied : Image
emptied = at_rest []

abbrev old_header : List ℕ
old_header = 66 ∷ 80 ∷ 74 ∷ 49 ∷ 0 ∷ 0 ∷ 0 ∷ 0 ∷ 0 ∷ 0 ∷ 0 ∷ 7 ∷ 2 ∷ []

-- where there are no bytes there is no header
pub none_hold_a_header : HoldsHeader [] → ⊥
none_hold_a_header (inl (magic, long)) = absurd (cc magic)
none_hold_a_header (inr (magic, weights)) = absurd (cc magic)

module _ (owner : Owner) where
  -- A cell that has to be there, and was emptied, is never prepared, whatever it then holds.
  pub an_emptied_cell_isnt_prepared : (new : Option Image)
      → IsPrepared true owner emptied (Ok tt) new → ⊥
  an_emptied_cell_isnt_prepared new (fit, same) = none_hold_a_header fit

  -- it has no header, and stays as it is
  pub an_emptied_cell_has_no_header : IsPrepared true owner emptied (Err NoHeader) (Some emptied)
  an_emptied_cell_has_no_header = (none_hold_a_header, refl)

  -- one with a whole header stays as it is, and is prepared
  pub a_whole_header_is_prepared :
      IsPrepared true owner (at_rest old_header) (Ok tt) (Some (at_rest old_header))
  a_whole_header_is_prepared = (inl (refl, omega arith), refl)

  -- of a new site a cell of no bytes gets its header
  pub a_new_cell_gets_its_header :
      IsPrepared false owner emptied (Ok tt) (Some (at_rest (header_bytes owner)))
  a_new_cell_gets_its_header = (tt, refl)

  -- A crash leaves nothing new of a cell that has to be there, but what it might have left before.
  pub no_crash_begins_an_existing_cell : (i : Image) (bytes : List ℕ)
      → LeavesBegun true owner (Some i) bytes → Leaves i bytes
  no_crash_begins_an_existing_cell i bytes (inl left) = left
  no_crash_begins_an_existing_cell i bytes (inr ((existing, none), first)) = absurd (cc existing)

  -- of one that was emptied it leaves no bytes, and so no part of a header
  pub no_crash_fills_an_emptied_cell : (bytes : List ℕ)
      → LeavesBegun true owner (Some emptied) bytes → bytes ≡ []
  no_crash_fills_an_emptied_cell bytes left =
      rest_leaves [] emptied bytes refl (no_crash_begins_an_existing_cell emptied bytes left)

  -- nor does it of a cell of a new site that holds some bytes already
  pub no_crash_begins_a_filled_cell : (first : ℕ) (rest bytes : List ℕ)
      → LeavesBegun false owner (Some (at_rest (first ∷ rest))) bytes → bytes ≡ first ∷ rest
  no_crash_begins_a_filled_cell first rest bytes (inl left) =
      rest_leaves (first ∷ rest) (at_rest (first ∷ rest)) bytes refl left
  no_crash_begins_a_filled_cell first rest bytes (inr ((existing, none), part)) =
      absurd (cc none)

  -- of one of no bytes it may leave the first bytes of its header
  pub a_crash_may_leave_a_part : (k : ℕ)
      → LeavesBegun false owner (Some emptied) (take k (header_bytes owner))
  a_crash_may_leave_a_part k = inr ((refl, refl), (k, refl))
