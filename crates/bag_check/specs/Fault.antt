-- The numbers of the faults of bags.
use Rattle.std.specs.Prelude.{ℕ}
use Rattle.bag_check.specs.declared.fault.BagFault.{BagFault}
use Rattle.bag_check.specs.declared.fault.BagFault.TheVariants.{NoDeclaration, BadDeclaration}
use Rattle.bag_check.specs.declared.fault.BagFault.TheVariants.{UnsupportedVersion}
use Rattle.bag_check.specs.declared.fault.BagFault.TheVariants.{UnsupportedEncoding}
use Rattle.bag_check.specs.declared.fault.BagFault.TheVariants.{HasFetch, NoPayloadFolder}
use Rattle.bag_check.specs.declared.fault.BagFault.TheVariants.{NoSha512Manifest, UnknownAlgorithm}
use Rattle.bag_check.specs.declared.fault.BagFault.TheVariants.{MalformedLine, UnsafePath}
use Rattle.bag_check.specs.declared.fault.BagFault.TheVariants.{DuplicateEntry, MissingFile}
use Rattle.bag_check.specs.declared.fault.BagFault.TheVariants.{UnlistedFile, WrongDigest, Memory}

abbrev pub number_of : BagFault → ℕ
number_of NoDeclaration = 1
number_of BadDeclaration = 2
number_of UnsupportedVersion = 3
number_of UnsupportedEncoding = 4
number_of HasFetch = 5
number_of NoPayloadFolder = 6
number_of NoSha512Manifest = 7
number_of UnknownAlgorithm = 8
number_of MalformedLine = 9
number_of UnsafePath = 10
number_of DuplicateEntry = 11
number_of MissingFile = 12
number_of UnlistedFile = 13
number_of WrongDigest = 14
number_of Memory = 15
