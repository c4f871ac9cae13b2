-- The numbers of the faults.
use Rattle.std.specs.Prelude.{ℕ}
use Rattle.udp_site.specs.declared.port_fault.PortFault.{PortFault}
use Rattle.udp_site.specs.declared.port_fault.PortFault.TheVariants as ports
use Rattle.udp_site.specs.declared.fault.ServeFault.{ServeFault}
use Rattle.udp_site.specs.declared.fault.ServeFault.TheVariants as serving

abbrev pub port_number : PortFault → ℕ
port_number ports.Device = 1
port_number ports.Memory = 2

abbrev pub serve_number : ServeFault → ℕ
serve_number serving.Port = 1
serve_number serving.Cell = 2
serve_number serving.Memory = 3
serve_number serving.Output = 4
