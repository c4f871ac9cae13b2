-- The records of the cells that an auditor was given, as a network.
use Rattle.std.specs.Prelude.{ℕ, ◌==◌, if◌then◌else◌, List, [], Option, Some, None, map, filter_map}
use Rattle.fed_types.specs.Lists.{Has}
use Rattle.records.specs.declared.record.Record.{Record}
use Rattle.world_law.specs.Networks.{Network, Down}

-- a record of a cell, or of a copy of one, and the site whose cell it is
pub record SiteRecord : Type 0 where
  pub site : ℕ
  pub kept : Record

-- the record, if it is this site's; two cells of a site count as one
abbrev pub record_at : ℕ → SiteRecord → Option Record
record_at site s = if s.site == site then Some s.kept else None

abbrev pub records_at : List SiteRecord → ℕ → List Record
records_at given site = filter_map (record_at site) given

-- the network in which each site has these records, and nothing more
unfoldable pub network_of : List SiteRecord → Network
network_of given = record {
  sites = λ site. record { records = records_at given site; mode = Down };
  sent = [];
}

-- each record that is given for a site is on record at that site of this network: the cells are
-- what a site has now or had before, or parts of it
abbrev pub AreOf : Network → List SiteRecord → Type 0
AreOf w given = (s : SiteRecord) → Has s given → Has s.kept (w.sites s.site).records

-- ---- what an auditor may be given

-- a site's cell that has these records, as it is given
abbrev pub cell_of : (site : ℕ) → List Record → List SiteRecord
cell_of site records = map (λ r. record { site = site; kept = r }) records

-- a part of what is given
abbrev pub IsPartOf : (part given : List SiteRecord) → Type 0
IsPartOf part given = (s : SiteRecord) → Has s part → Has s given
