use Rattle.bag_text.specs.declared.algorithm.Algorithm.TheVariants.{Md5}
use Rattle.examples.specs.Examples.{manifest_of_abc}
use Rattle.examples.proofs.texts.digests_have_16_bytes.Goals as goal

pub returns : goal.returns
returns c = λ files is. c.listed_law.ensures.digests Md5 manifest_of_abc files is
