-- A client asks site 1 to deposit a folder for the object `a`, version 1: a bag without files.
use Rattle.std.proofs.Common.{◌≡◌, refl, ap, true, List, ℕ, [], ◌∷◌, ◌++◌, Some, None, arith}
use Rattle.std.specs.Prelude.{Ok, codes}
use Rattle.std.specs.Str.{is_utf8, chars}
use Rattle.std.proofs.lemmas.Str.{IsUtf8-from_is_utf8}
use Rattle.fed_types.specs.declared.bag_id.BagId.{BagId}
use Rattle.fed_types.specs.Values.{IsSlot}
use Rattle.fields.specs.Encoding.{slot_bytes}
use Rattle.bag_text.specs.Lines.{lines_of}
use Rattle.bag_text.specs.Readers.{skip_blanks, trim_blanks, field_value, version_in, encoding_in}
use Rattle.bag_text.specs.Readers.{files_from}
use Rattle.bag_tree.specs.Facts.{FileFact, TreeFacts}
use Rattle.bag_check.specs.Check.{check_of, identity_of, holds as has_fault, repeats}
use Rattle.bag_check.specs.Manifests.{manifest_name, manifest_at, manifests_of, manifests_of_kind}
use Rattle.bag_check.specs.Manifests.{is_manifest, is_known_manifest, is_known_of_kind, is_unknown}
use Rattle.dgram.specs.declared.body.Body.TheVariants.{Deposit}
use Rattle.dgram.specs.declared.message.Message.{Message}
use Rattle.dgram.specs.Encoding.{datagram_of}
use Rattle.dgram.specs.Messages.{IsMessage}
use Rattle.dgram.proofs.MessageOf.{message_of-again}
use Rattle.udp_site.specs.Requests.{request_in}
use Rattle.serving_law.specs.Examples.{Request}
use Rattle.serving_law.specs.ExamplesAgreed.{a}
use Rattle.serving_law.proofs.DatagramBytes.{Bytes, of_message, of_number}
use Rattle.register_law.specs.Examples.{ABagIsDeposited}

is_slot : IsSlot a
unfolding is_utf8 chars lib.Utf8.encode
is_slot = (
  ((omega arith, omega arith), omega arith),
  IsUtf8-from_is_utf8 (97 ∷ []) refl,
  omega arith,
)

abbrev file : (path text : List ℕ) → FileFact
file path text = record {
  path = path;
  digests = record { md5 = None; sha1 = None; sha256 = None; sha512 = None };
  text = Some text;
}

abbrev facts : TreeFacts
facts = record {
  files =
      file (codes "bagit.txt")
      (codes "BagIt-Version: 1.0" ++ (10 ∷ codes "Tag-File-Character-Encoding: UTF-8"))
      ∷ file (codes "manifest-sha512.txt") [] ∷ [];
  payload = true;
}

abbrev bag : BagId
bag = identity_of facts

checked : check_of facts ≡ Ok bag
unfolding check_of has_fault repeats manifest_name manifest_at manifests_of manifests_of_kind
    is_manifest is_known_manifest is_known_of_kind is_unknown files_from lines_of version_in
    encoding_in field_value skip_blanks trim_blanks
checked = refl

-- the path `f`
abbrev asks : Message
asks = record { slot = a; body = Deposit (102 ∷ []) }

is_asks : IsMessage asks
unfolding is_utf8 chars lib.Utf8.encode
is_asks = (is_slot, ((omega arith, omega arith), IsUtf8-from_is_utf8 (102 ∷ []) refl))

slot_fits : Bytes (slot_bytes a)
slot_fits = (omega arith, (omega arith, of_number 4 1))

request : Request 7 a bag
request = record {
  address = 9;
  path = 102 ∷ [];
  bytes = datagram_of 7 asks;
  are_bytes =
      of_message 7 asks (omega arith) (omega arith) slot_fits
      (omega arith, (omega arith, (omega arith, tt)));
  asked = ap (request_in 9) (message_of-again 7 asks is_asks);
  facts = facts;
  checked = checked;
}

pub a_bag_is_deposited : ABagIsDeposited
a_bag_is_deposited = (bag, request)
