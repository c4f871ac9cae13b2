-- Read in this order: Registers (what a register is, and which one a federation keeps), Carried
-- (histories that go on from the cells of an earlier run), Refinement (every history keeps a
-- register), Laws (what else is promised of every history), Overlaps (turns of processes
-- overlap), FileCells (cells in files). Examples are histories, computed.
pub mod Registers
pub mod Carried
pub mod Refinement
pub mod Laws
pub mod Overlaps
pub mod FileCells
pub mod Examples
pub mod ExamplesCarried
pub mod ExamplesOverlapped
