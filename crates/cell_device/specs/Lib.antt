-- What a cell promises is read in this order: Images, Fuses, Devices, Time, Calls, States. Memory
-- is what is known of a cell in memory; Files is what a file of the system is, and the cell in it.
-- inner/ is for private clauses and proofs.
pub mod Images
pub mod Fuses
pub mod Devices
pub mod Time
pub mod Calls
pub mod States
pub mod Memory
pub mod Files
pub mod Faults
pub mod inner
