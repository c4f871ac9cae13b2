use Rattle.std.proofs.Common.{refl, string_bytes}
use Rattle.std.proofs.lemmas.Result.{on_ok_weaker}
use Rattle.code_words.specs.declared.table.TheConstants.{CHECKS, FOLDERS, REFUSALS, CELLS, ENDINGS}
use Rattle.code_words.specs.declared.table.TheConstants.{SKIPS, REST}
use Rattle.code_words.proofs.Tables.{of_codes}
use Rattle.code_words.proofs.table.push_table.Goals as goal

pub returns : goal.returns
returns c =
    on_ok_weaker c.push_part-7.result
    (λ last. (
      string_bytes c.push_part.new.text,
      of_codes CHECKS.now _ _ _ _ _ c.as_slice.ensures refl
          (rw c.in_ok-push_str.ensures.bytes at c.in_ok-push_part.ensures),
      (
        string_bytes c.push_part-2.new.text,
        of_codes FOLDERS.now _ _ _ _ _ c.as_slice-2.ensures refl c.in_ok-push_part-2.ensures,
        (
          string_bytes c.push_part-3.new.text,
          of_codes REFUSALS.now _ _ _ _ _ c.as_slice-3.ensures refl c.in_ok-push_part-3.ensures,
          (
            string_bytes c.push_part-4.new.text,
            of_codes CELLS.now _ _ _ _ _ c.as_slice-4.ensures refl c.in_ok-push_part-4.ensures,
            (
              string_bytes c.push_part-5.new.text,
              of_codes ENDINGS.now _ _ _ _ _ c.as_slice-5.ensures refl c.in_ok-push_part-5.ensures,
              (
                string_bytes c.push_part-6.new.text,
                of_codes SKIPS.now _ _ _ _ _ c.as_slice-6.ensures refl c.in_ok-push_part-6.ensures,
                (
                  string_bytes c.push_part-7.new.text,
                  of_codes REST.now _ _ _ _ _ c.as_slice-7.ensures refl last,
                  refl,
                ),
              ),
            ),
          ),
        ),
      ),
    ))
    c.push_part-7.ensures
