-- Read Tokens and Lines first (the words of each command: the grammar), then Plans and Schedules
-- (what a text says), Texts (how one is printed), Faults. Commands is the function that reads a
-- line; `commands_law` says that it and the grammar agree.
pub mod Limits
pub mod Tokens
pub mod Lines
pub mod Commands
pub mod Plans
pub mod Texts
pub mod Schedules
pub mod Faults
pub mod inner
