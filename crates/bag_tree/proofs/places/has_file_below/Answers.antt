use Rattle.bag_tree.specs.Path.{is_below}
use Rattle.bag_tree.proofs.PlaceLaws.{found_nothing, found_no_file, found_file}
use Rattle.bag_tree.proofs.places.has_file_below.Goals as goal

pub returns-in-None : goal.returns-in-None
returns-in-None c =
    found_nothing is_below c.args.files.now c.args.by_folder.now c.requires c.args.folder.now
    c.in-None.ensures.value

pub returns-in-None-get : goal.returns-in-None-get
returns-in-None-get c =
    found_no_file is_below c.args.files.now c.args.by_folder.now c.requires c.args.folder.now
    c.in-Some.place.now c.in-Some.ensures.value
    c.in-None-get.ensures.lookup.3

pub returns-in-Some-get : goal.returns-in-Some-get
returns-in-Some-get c =
    let found =
    found_file is_below c.args.files.now c.args.by_folder.now c.requires c.args.folder.now
    c.in-Some.place.now c.in-Some-get.file.now c.in-Some.ensures.value
    c.in-Some-get.ensures.lookup.3.0 c.in-Some-get.ensures.lookup.1 in
    rw (
      c.lies_below.ensures,
      c.as_bytes.ensures.value,
      c.as_bytes-in-Some-get.ensures.value,
      c.path.ensures,
    ) found
