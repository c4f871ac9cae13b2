-- Read in this order: Acts (what those that run can do, and how it is done), Reach (what is within
-- their reach), Answering (that it comes about where calls are answered), Laws. Tapes are devices
-- over which they are.
pub mod Acts
pub mod Reach
pub mod Answering
pub mod Laws
pub mod Tapes
