-- What is known of a file of the system: whether its calls can be believed, and nothing about its
-- bytes. The code of a cell over it is that of `cell_device::FileCell`. Its contract says what
-- becomes of the bytes of each file that does what `CellFile` says and whose bytes are known.
use Rattle.std.specs.Prelude.{None}
use Rattle.cell_device.specs.Files.{FileState}
use Rattle.cell_file.specs.declared.host_file.HostFile.{HostFile}

abbrev pub file_state : HostFile → FileState
file_state file = record {
  image = None;
  trust = file.trust;
  moment = 0;
  left_since = λ t c. Unit {0};
}
