-- When a tree of files is complete (RFC 8493, 3), in this project's profile: nothing is wrong with
-- it but, maybe, digests. `complete_law` says that a valid bag is a complete one with right
-- digests.
use Rattle.std.specs.Prelude.{List, [], ◌∷◌, Option, Result}
use Rattle.std.specs.List.{find}
use Rattle.fed_types.specs.declared.bag_id.BagId.{BagId}
use Rattle.bag_tree.specs.Facts.{TreeFacts}
use Rattle.bag_check.specs.declared.fault.BagFault.{BagFault}
use Rattle.bag_check.specs.declared.fault.BagFault.TheVariants.{NoDeclaration, BadDeclaration}
use Rattle.bag_check.specs.declared.fault.BagFault.TheVariants.{UnsupportedVersion}
use Rattle.bag_check.specs.declared.fault.BagFault.TheVariants.{UnsupportedEncoding}
use Rattle.bag_check.specs.declared.fault.BagFault.TheVariants.{HasFetch, NoPayloadFolder}
use Rattle.bag_check.specs.declared.fault.BagFault.TheVariants.{NoSha512Manifest, UnknownAlgorithm}
use Rattle.bag_check.specs.declared.fault.BagFault.TheVariants.{MalformedLine, UnsafePath}
use Rattle.bag_check.specs.declared.fault.BagFault.TheVariants.{DuplicateEntry, MissingFile}
use Rattle.bag_check.specs.declared.fault.BagFault.TheVariants.{UnlistedFile}
use Rattle.bag_check.specs.Check.{holds, answer}

-- the faults that a complete bag doesn't have, in the order of their numbers: all but a wrong
-- digest
abbrev pub gaps : List BagFault
gaps =
    NoDeclaration ∷ BadDeclaration ∷ UnsupportedVersion ∷ UnsupportedEncoding ∷ HasFetch
    ∷ NoPayloadFolder ∷ NoSha512Manifest ∷ UnknownAlgorithm ∷ MalformedLine ∷ UnsafePath
    ∷ DuplicateEntry ∷ MissingFile ∷ UnlistedFile ∷ []

-- the first of these that holds
abbrev pub first_gap : TreeFacts → Option BagFault
first_gap facts = find (λ fault. holds fault facts) gaps

-- the identity of a complete bag, or the first of these faults that holds
unfoldable pub complete_of : TreeFacts → Result BagId BagFault
complete_of facts = answer facts (first_gap facts)
