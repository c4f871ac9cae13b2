use Rattle.std.proofs.Common.{refl}
use Rattle.std.specs.Prelude.{codes}
use Rattle.examples.specs.Examples.{declaration_1_0}
use Rattle.bag_text.specs.Lines.{lines_of}
use Rattle.bag_text.specs.Readers.{skip_blanks, trim_blanks, field_value, version_in, encoding_in}
use Rattle.examples.proofs.texts.declares_1_0.Goals as goal

pub returns : goal.returns
unfolding lines_of version_in encoding_in field_value skip_blanks trim_blanks
returns c =
    (c.declaration_law.ensures.declared declaration_1_0 (codes "1.0") (codes "UTF-8")).1 refl
