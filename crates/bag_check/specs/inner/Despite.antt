-- What is answered where digests don't count, for the contract of a private function.
use Rattle.std.specs.Prelude.{Result, Ok, Err}
use Rattle.fed_types.specs.declared.bag_id.BagId.{BagId}
use Rattle.bag_tree.specs.Facts.{TreeFacts}
use Rattle.bag_check.specs.declared.fault.BagFault.{BagFault}
use Rattle.bag_check.specs.declared.fault.BagFault.TheVariants.{WrongDigest}
use Rattle.bag_check.specs.Check.{identity_of}

-- the answer where a check refuses the bag for this fault
abbrev pub despite : TreeFacts → BagFault → Result BagId BagFault
despite facts WrongDigest = Ok (identity_of facts)
despite facts fault = Err fault
