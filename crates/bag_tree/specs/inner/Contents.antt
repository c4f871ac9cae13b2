-- What `FileFacts` keeps of a file's bytes.
use Rattle.std.specs.Prelude.{ℕ, Bool, true, false, List, Some, None}
use Rattle.bag_tree.specs.Digests.{digests_by}
use Rattle.bag_tree.specs.declared.file_facts.Contents.{Contents}
use Rattle.bag_tree.specs.declared.file_facts.Contents.TheVariants.{Text, Hashed}
use Rattle.bag_tree.specs.Facts.{FileFact}

-- the bytes are kept, since they are of such a text
abbrev pub is_text : Contents → Bool
is_text (Text text) = true
is_text (Hashed digests) = false

-- the fact of a file of this path
abbrev pub fact_in : List ℕ → Contents → FileFact
fact_in path (Text text) = record {
  path = path;
  digests = digests_by text.wanted text.bytes;
  text = Some text.bytes;
}
fact_in path (Hashed digests) = record { path = path; digests = digests; text = None }
