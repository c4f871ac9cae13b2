use Rattle.std.proofs.Common.{refl}
use Rattle.bag_text.specs.declared.algorithm.Algorithm.TheVariants.{Md5}
use Rattle.examples.specs.Examples.{malformed_manifest}
use Rattle.bag_text.specs.Lines.{lines_of}
use Rattle.bag_text.specs.Readers.{file_in, files_from}
use Rattle.examples.proofs.texts.is_malformed_in_line_2.Goals as goal

pub returns : goal.returns
unfolding files_from file_in lines_of
returns c = (c.manifest_law.ensures.malformed Md5 malformed_manifest 2).1 refl
