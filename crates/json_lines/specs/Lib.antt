-- Read in this order: Forms (which lines there are), Json (what a line says, and its line of JSON),
-- Lines (what becomes of a text of lines).
pub mod Forms
pub mod Json
pub mod Lines
