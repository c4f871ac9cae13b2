-- Stations says what a station represents and the outcome of each of its calls; before it come
-- Calls, and `Networks` of `world_law`.
pub mod Calls
pub mod Told
pub mod Fuses
pub mod Modes
pub mod Stations
pub mod Owners
pub mod Fates
-- the tables of a run
pub mod Changes
pub mod Places
pub mod Firsts
pub mod DatagramNumbers
