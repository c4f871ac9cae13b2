-- What follows of those who are asked, and of what is heard of each.
use Rattle.std.specs.Prelude.{◌≡◌, ◌⊎◌, ℕ, List, map, Some, None}
use Rattle.fed_types.specs.Lists.{Has}
use Rattle.udp_site.specs.Status.{status_question}
use Rattle.udp_site.specs.Traffic.{Post, Move, Took, Handed, From}
use Rattle.standings.specs.declared.polled.Heard.{Heard}
use Rattle.standings.specs.declared.polled.Polled.{Polled}
use Rattle.standings.specs.Answers.{standing_in}
use Rattle.standings.specs.Rounds.{AreAsked}

-- the datagram is the question, for one of these sites, of which nothing was heard before
pub record IsQuestion (federation : ℕ) (sites : List Polled) (post : Post) : Type 0 where
  pub site : Polled
  pub among : Has site sites
  pub silent : site.heard ≡ None
  pub question : post ≡ (site.address, status_question federation)

-- nothing is handed out but questions
abbrev pub NothingElseIsHandedOut : Type 0
NothingElseIsHandedOut =
    (federation : ℕ) (sites heard : List Polled) (moves : List Move) (post : Post)
    → AreAsked federation sites moves heard → Has (Handed post) moves
    → IsQuestion federation sites post

-- among these moves a datagram came from the site's address which is its answer, of these numbers
pub record IsAnswered (federation : ℕ) (p : Polled) (moves : List Move) (heard : Heard) : Type 0
  where
    pub bytes : List ℕ
    pub came : Has (Took (From p.address bytes)) moves
    pub says : standing_in federation p.site bytes ≡ Some heard.standing

-- What is heard of a site was heard before, or is its answer.
abbrev pub WhatIsHeardWasAnswered : Type 0
WhatIsHeardWasAnswered =
    (federation : ℕ) (sites heard : List Polled) (moves : List Move) (p : Polled) (it : Heard)
    → AreAsked federation sites moves heard → Has p heard → p.heard ≡ Some it
    → Has p sites ⊎ IsAnswered federation p moves it

-- a site, and where it is asked
abbrev pub site_at : Polled → ℕ × ℕ
site_at p = (p.site, p.address)

-- each site is there once again, in the same order
abbrev pub SitesStay : Type 0
SitesStay =
    (federation : ℕ) (sites heard : List Polled) (moves : List Move)
    → AreAsked federation sites moves heard → map site_at heard ≡ map site_at sites
