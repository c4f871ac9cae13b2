use Rattle.std.proofs.Common.{refl}
use Rattle.std.specs.Prelude.{codes, [], ◌∷◌}
use Rattle.bag_text.specs.declared.algorithm.Algorithm.TheVariants.{Md5}
use Rattle.examples.specs.Examples.{digest_of_abc, manifest_of_abc}
use Rattle.std.specs.Str.{is_utf8, chars}
use Rattle.hex.specs.Hex.{decode_pairs}
use Rattle.bag_text.specs.Lines.{lines_of}
use Rattle.bag_text.specs.Paths.{unescaped}
use Rattle.bag_text.specs.Readers.{skip_blanks, file_in, files_from}
use Rattle.examples.proofs.texts.lists_one_file.Goals as goal

pub returns : goal.returns
unfolding files_from file_in lines_of unescaped skip_blanks decode_pairs is_utf8 chars
    lib.Utf8.encode
returns c =
    (c.manifest_law.ensures.listed Md5 manifest_of_abc
    (record { digest = digest_of_abc; path = codes "data/a%b" } ∷ [])).1 refl
