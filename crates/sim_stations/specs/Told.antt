-- What a site answers, as a station tells it.
use Rattle.std.specs.Prelude.{◌≡◌, ◌≢◌, ℕ, [], Result, Ok, Err}
use Rattle.site.specs.declared.answer.Answer.{Answer}
use Rattle.site.specs.declared.fault.SiteFault.{SiteFault}
use Rattle.site.specs.declared.fault.SiteFault.TheVariants as faults
use Rattle.site.specs.Calls.{Input}
use Rattle.lines.specs.Notices.{notice_of}
use Rattle.sim_stations.specs.declared.told.Told.{Told}

-- the notice of its line, and its datagrams; or that of its refusal, which isn't out of memory
abbrev pub Tells : (site : ℕ) → Input → Result Answer SiteFault → Told → Type 0
Tells site input (Ok answer) told =
    (told.notice ≡ notice_of site input (Ok answer.line)) × (told.sends ≡ answer.sends)
Tells site input (Err fault) told =
    (fault ≢ faults.Memory) × (told.notice ≡ notice_of site input (Err fault))
    × (told.sends.items ≡ [])
