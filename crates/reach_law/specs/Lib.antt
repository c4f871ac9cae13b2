-- Read in this order: Running (the members that run, and what they can begin with), Reach (what is
-- within their reach, and what isn't), Undisturbed (when a ballot is decided for certain), InTurn
-- (which deposit a site that serves proposes). Examples are runs, computed.
pub mod Running
pub mod Reach
pub mod Undisturbed
pub mod InTurn
pub mod Examples
