-- Read in this order: Federations (members, and what happens to them), Rules (when it may happen),
-- Reports (what is reported, and what was deposited), Laws (what is promised of every history).
-- Examples are histories, computed.
pub mod Federations
pub mod Rules
pub mod Reports
pub mod Laws
pub mod Disks
pub mod Examples
pub mod ExamplesAgreed
pub mod ExamplesShown
pub mod ExamplesRestarted
pub mod ExamplesFailed
