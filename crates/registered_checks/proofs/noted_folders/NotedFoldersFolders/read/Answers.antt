use Rattle.std.proofs.Common.{map, string_bytes, sym}
use Rattle.registered_checks.proofs.Noted.{read_noted}
use Rattle.registered_checks.proofs.noted_folders.NotedFoldersFolders.read.Goals as goal

pub invariant_of-self-else-is_err : goal.invariant_of-self-else-is_err
invariant_of-self-else-is_err g c =
    let before = c.args.self.now in
    record {
      are_noted = λ sound. read_noted c.note.result (g.F.Folders.gives before.folders)
          (g.F.Folders.gives c.read-read.new.self) c.args.path.now c.read-read.result
          (map string_bytes before.paths.items) (map string_bytes c.note.new.paths.items)
          before.held.items c.note.new.held.items (sym c.if-is_err.ensures.value)
          (before.are_noted sound) c.read-read.ensures.kept c.read-read.ensures.known
          c.note.ensures.read c.note.ensures.path c.note.ensures.bag;
    }
