use Rattle.std.proofs.Common.{refl}
use Rattle.examples.specs.Examples.{declaration_of_one_line}
use Rattle.bag_text.specs.Lines.{lines_of}
use Rattle.bag_text.specs.Readers.{skip_blanks, trim_blanks, field_value, version_in, encoding_in}
use Rattle.examples.proofs.texts.declares_no_encoding.Goals as goal

pub returns : goal.returns
unfolding lines_of version_in encoding_in field_value skip_blanks trim_blanks
returns c = (c.declaration_law.ensures.malformed declaration_of_one_line 2).1 refl
