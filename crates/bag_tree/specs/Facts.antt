-- What a checker knows of a tree of files.
use Rattle.std.specs.Prelude.{ℕ, Bool, if◌then◌else◌, List, map, Option, Some, None}
use Rattle.bag_tree.specs.declared.algorithms.Algorithms.{Algorithms}
use Rattle.bag_tree.specs.declared.digests.Digests.{Digests}
use Rattle.bag_tree.specs.Algorithms.{all_algorithms}
use Rattle.bag_tree.specs.Digests.{digests_by}
use Rattle.bag_tree.specs.Path.{is_read_text}
use Rattle.bag_tree.specs.Tree.{File, Files, payload_exists}

-- a file's path, those of its digests that are known, and its bytes if it is a text that is read
pub record FileFact : Type 0 where
  pub path : List ℕ
  pub digests : Digests
  pub text : Option (List ℕ)

-- a fact of each file, in the tree's order, and whether `data` exists
pub record TreeFacts : Type 0 where
  pub files : List FileFact
  pub payload : Bool

-- a file's bytes, if it is a text that is read
abbrev pub text_of : File → Option (List ℕ)
text_of file = if is_read_text file.path then Some file.bytes else None

-- the fact of a file, with these digests wanted
abbrev pub fact_by : Algorithms → File → FileFact
fact_by wanted file = record {
  path = file.path;
  digests = digests_by wanted file.bytes;
  text = text_of file;
}

-- the fact with all digests
abbrev pub fact_of_file : File → FileFact
fact_of_file file = fact_by all_algorithms file

abbrev pub facts_of_tree : Files → TreeFacts
facts_of_tree tree = record {
  files = map fact_of_file tree.files;
  payload = payload_exists tree;
}
