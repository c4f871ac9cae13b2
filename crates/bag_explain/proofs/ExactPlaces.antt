-- The places of a fault are those where it holds.
use Rattle.std.specs.Prelude.{◌↔◌, Contains}
use Rattle.bag_tree.specs.Facts.{TreeFacts}
use Rattle.bag_check.specs.declared.fault.BagFault.{BagFault}
use Rattle.bag_check.specs.declared.fault.BagFault.TheVariants as faults
use Rattle.bag_check.specs.Check.{holds, declaration_in}
use Rattle.bag_explain.specs.Places.{Place, places_of}
use Rattle.bag_explain.specs.Wrong.{IsWrongAt}
use Rattle.bag_explain.proofs.Members.{In, contained_in, in_contained}
use Rattle.bag_explain.proofs.EntryPlaces.{astray_is, is_astray_there, missing_is}
use Rattle.bag_explain.proofs.EntryPlaces.{is_missing_there, wrong_is, is_wrong_there}
use Rattle.bag_explain.proofs.MalformedPlaces.{malformed_is, is_malformed_there}
use Rattle.bag_explain.proofs.RepeatedPlaces.{repeated_is, is_repeated_there}
use Rattle.bag_explain.proofs.UnlistedPlaces.{unlisted_is, is_unlisted_there}
use Rattle.bag_explain.proofs.TagFilePlaces.{one_place, declared_line, line_declared}
use Rattle.bag_explain.proofs.TagFilePlaces.{unknown_is, is_unknown_there}

-- a fault holds at each of its places, and where it holds, it has a place
exact : (facts : TreeFacts) (fault : BagFault) (place : Place)
    → In place (places_of fault facts) ↔ IsWrongAt fault facts place
unfolding IsWrongAt places_of
exact facts faults.BadDeclaration place =
    (declared_line (declaration_in facts) place, line_declared (declaration_in facts) place)
exact facts faults.UnknownAlgorithm place = (unknown_is facts place, is_unknown_there facts place)
exact facts faults.MalformedLine place = (malformed_is facts place, is_malformed_there facts place)
exact facts faults.UnsafePath place = (astray_is facts place, is_astray_there facts place)
exact facts faults.DuplicateEntry place = (repeated_is facts place, is_repeated_there facts place)
exact facts faults.MissingFile place = (missing_is facts place, is_missing_there facts place)
exact facts faults.UnlistedFile place = (unlisted_is facts place, is_unlisted_there facts place)
exact facts faults.WrongDigest place = (wrong_is facts place, is_wrong_there facts place)
exact facts faults.Memory place = (λ h. absurd h, λ h. absurd h)
exact facts fault place = one_place (holds fault facts) _ place

-- the same, of places as contracts say it
pub places_exact : (fault : BagFault) (facts : TreeFacts) (place : Place)
    → Contains (places_of fault facts) place ↔ IsWrongAt fault facts place
places_exact fault facts place =
    let its = exact facts fault place in (
      λ c. its.0 (contained_in (places_of fault facts) place c),
      λ h. in_contained (places_of fault facts) place (its.1 h),
    )
