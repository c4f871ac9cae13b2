-- What is written of how sites stand.
use Rattle.std.specs.Prelude.{◌≡◌, ◌⊎◌, ◌==◌, ◌&&◌, ◌||◌, ℕ, ◌-◌, max, Bool, false}
use Rattle.std.specs.Prelude.{if◌then◌else◌, List, [], ◌∷◌, ◌++◌, length, codes, Option, Some, None}
use Rattle.std.specs.Prelude.{Result, Ok, Err}
use Rattle.std.specs.Fmt.{decimal}
use Rattle.std.specs.List.{flat_map, count_by, fold}
use Rattle.outcomes.specs.declared.fault.ProgramFault.{ProgramFault}
use Rattle.outcomes.specs.declared.fault.ProgramFault.TheVariants.{Output}
use Rattle.outcomes.specs.Outcomes.{Outcome, no_memory, Writes, WritesPrefix}
use Rattle.udp_site.specs.declared.status.Standing.{Standing}
use Rattle.udp_site.specs.Traffic.{Move, Grows}
use Rattle.standings.specs.declared.polled.Heard.{Heard}
use Rattle.standings.specs.declared.polled.Polled.{Polled}
use Rattle.standings.specs.Rounds.{AreAsked}

-- ---- what a site lacks

abbrev pub known_by : Option Heard → ℕ
known_by None = 0
known_by (Some heard) = heard.standing.counts.known

-- how many bags the site knows that knows the most, or as many as files know, if those are more
abbrev pub most_known : (by_files : ℕ) → List Polled → ℕ
most_known by_files sites = fold (λ most p. max most (known_by p.heard)) by_files sites

-- so many bags at least are known elsewhere and not to the site
abbrev pub lacks : (most : ℕ) → Heard → ℕ
lacks most heard = most - heard.standing.counts.known

-- ---- whether all is well

-- none of its deposits waits while it hears no majority; where none waits, nobody needs to be heard
abbrev pub is_heard : Standing → Bool
is_heard standing = standing.counts.pending == 0 || standing.alone == 0

-- it has answered, lacks nothing, and doesn't wait in vain
abbrev pub is_well : (most : ℕ) → Option Heard → Bool
is_well most None = false
is_well most (Some heard) = lacks most heard == 0 && is_heard heard.standing

abbrev pub well : (most : ℕ) → List Polled → ℕ
well most sites = count_by (λ p. is_well most p.heard) sites

-- ---- lines

-- a space, a word, a space and a number
abbrev pub named : (word : List ℕ) → ℕ → List ℕ
named word n = 32 ∷ (word ++ 32 ∷ decimal n)

-- ` up MS records R known K pending P alone A lacks L`, or ` silent`
abbrev pub state_text : (most : ℕ) → Option Heard → List ℕ
state_text most None = codes " silent"
state_text most (Some heard) =
    named (codes "up") heard.millis
    ++ (named (codes "records") heard.standing.counts.records
    ++ (named (codes "known") heard.standing.counts.known
    ++ (named (codes "pending") heard.standing.counts.pending
    ++ (named (codes "alone") heard.standing.alone ++ named (codes "lacks") (lacks most heard)))))

-- `site S`, and its state
unfoldable pub site_line : (most : ℕ) → Polled → List ℕ
site_line most p =
    codes "site " ++ (decimal p.site ++ (state_text most p.heard ++ 10 ∷ []))

-- `federation F K of N`: K of its N sites are well
unfoldable pub federation_line : (federation well count : ℕ) → List ℕ
federation_line federation well count =
    codes "federation " ++ (decimal federation ++ (32 ∷ (decimal well
    ++ (codes " of " ++ (decimal count ++ 10 ∷ [])))))

-- ---- the report

abbrev pub status_of : (well count : ℕ) → ℕ
status_of well count = if well == count then 0 else 1

-- a line for each site, and that of the federation; the status is 0 where all sites are well
abbrev pub report : (federation by_files : ℕ) → List Polled → Outcome
report federation by_files sites =
    let most = most_known by_files sites in
    record {
      status = status_of (well most sites) (length sites);
      text =
          flat_map (site_line most) sites
          ++ federation_line federation (well most sites) (length sites);
    }

-- it is written, or a prefix of it where the output fails
abbrev pub IsWritten : (old new : Option (List ℕ)) → Result ℕ ProgramFault → Outcome → Type 0
IsWritten old new (Ok status) outcome = Writes old new status outcome
IsWritten old new (Err fault) outcome = (fault ≡ Output) × WritesPrefix old new outcome

-- The sites are asked, and what is heard is reported; or memory runs out, and that is said.
abbrev pub AreReported : (federation by_files : ℕ) → (sites : List Polled)
    → (before after : Option (List Move)) → (old new : Option (List ℕ))
    → Result ℕ ProgramFault → Type 0
AreReported federation by_files sites before after old new result =
    ((heard : List Polled) × (moves : List Move) × Grows before after moves
    × AreAsked federation sites moves heard
    × IsWritten old new result (report federation by_files heard))
    ⊎ IsWritten old new result no_memory
