-- The reference run is read in this order: Networks (sites, datagrams, events), Trees, Worlds (what
-- each command makes of a federation). Then what is promised: WellFormed and Laws of a network and
-- its events, Headline of a schedule and its lines.
pub mod Networks
pub mod Trees
pub mod Worlds
pub mod WellFormed
pub mod Laws
pub mod Headline
