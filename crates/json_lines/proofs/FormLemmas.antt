-- The program's table and the definitions have the same form of a line.
use Rattle.std.proofs.Common.{◌≡◌, ℕ, Bool, true, false, List, [], ◌∷◌, map, Option, Some, None}
use Rattle.std.proofs.Common.{cond, refl, ap, ◌∙◌, option_map, Bor}
use Rattle.std.specs.List.{find}
use Rattle.std.specs.Option.{option_copied}
use Rattle.json_lines.specs.declared.form.Form.{Form}
use Rattle.json_lines.specs.Forms.{LineForm, form_shown, part_shown, fits}

-- the first of the program's forms that fits, as it is shown, is the first one that fits
found_in : (table : List Form) (words : List (List ℕ))
    → option_map form_shown (find (λ form. fits (map part_shown form.parts.now) words) table)
    ≡ find (λ form. fits form.parts words) (map form_shown table)
found_in [] words = refl
found_in (form ∷ table) words =
    go (fits (map part_shown form.parts.now) words) (found_in table words)
  where
    go : (t : Bool)
        → option_map form_shown (find (λ form. fits (map part_shown form.parts.now) words) table)
        ≡ find (λ form. fits form.parts words) (map form_shown table)
        → option_map form_shown (cond t (Some form)
        (find (λ form. fits (map part_shown form.parts.now) words) table))
        ≡ cond t (Some (form_shown form))
        (find (λ form. fits form.parts words) (map form_shown table))
    go true rest = refl
    go false rest = rest

copied_shown : (found : Option (Bor Form))
    → option_map (λ form. form_shown form.now) found ≡ option_map form_shown (option_copied found)
copied_shown None = refl
copied_shown (Some form) = refl

pub found_shown : (table : List Form) (words : List (List ℕ)) (found : Option (Bor Form))
    (all : List LineForm) → map form_shown table ≡ all
    → option_copied found ≡ find (λ form. fits (map part_shown form.parts.now) words) table
    → option_map (λ form. form_shown form.now) found ≡ find (λ form. fits form.parts words) all
found_shown table words found all same is =
    copied_shown found ∙ ap (option_map form_shown) is ∙ found_in table words
    ∙ ap (find (λ form. fits form.parts words)) same
