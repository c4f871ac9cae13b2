-- The lines of notices: their text, and whether one of them stops the site.
use Rattle.std.specs.List.{list_any}
use Rattle.std.proofs.Common.{refl, ◌≡◌, List, [], ◌∷◌, map, flat_map}
use Rattle.std.proofs.lemmas.List.Folds.{flat_map-map}
use Rattle.site.specs.declared.fault.SiteFault.TheVariants as faults
use Rattle.lines.specs.declared.line.Line.{Line}
use Rattle.lines.specs.declared.notice.Notice.TheVariants as kinds
use Rattle.lines.specs.declared.notice.Notice.{Notice}
use Rattle.lines.specs.Named.{line_of}
use Rattle.lines.specs.Texts.{line_text}
use Rattle.udp_site.specs.Served.{by_identity, notice_text, or_one, is_of_the_cell}
use Rattle.udp_site.specs.inner.Outcomes.{Notes}
use Rattle.udp_site.specs.inner.StopLines.{line_of_the_cell}

line_stops : (notice : Notice) → line_of_the_cell (line_of [] notice) ≡ is_of_the_cell notice
line_stops (kinds.Refused site faults.Device) = refl
line_stops (kinds.Refused site faults.NeedsOpen) = refl
line_stops notice = refl

one_stops : (notices : List Notice)
    → list_any line_of_the_cell (map (line_of []) notices) ≡ or_one notices
one_stops [] = refl
one_stops (notice ∷ notices) = rw (line_stops notice, one_stops notices)

module _ (start lines : List Line) (notices : List Notice) (none : start ≡ [])
    (notes : Notes start lines notices) where
  lines_are : lines ≡ map (line_of []) notices
  lines_are = rw (notes, none)

  pub one_is_last : list_any line_of_the_cell lines ≡ or_one notices
  one_is_last = rw lines_are (one_stops notices)

  pub text_is : flat_map (line_text by_identity) lines ≡ flat_map notice_text notices
  text_is = rw (lines_are, flat_map-map (line_text by_identity) (line_of []) notices)
