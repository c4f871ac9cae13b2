-- What is within reach of the members of a federation that run.
use Rattle.std.specs.Prelude.{ℕ, ◌≡◌, ◌≤◌, ◌<◌, ◌+◌, ◌*◌, ⊤, List, [], ◌∷◌, length, Some, None}
use Rattle.fed_types.specs.declared.bag_id.BagId.{BagId}
use Rattle.fed_types.specs.Lists.{Has}
use Rattle.fed_types.specs.Quorums.{QuorumSystem}
use Rattle.fed_types.specs.Slots.{SlotName}
use Rattle.records.specs.SlotStates.{vote_of, deposit_of, known_of}
use Rattle.schedule.specs.declared.fate.Fate.TheVariants.{Whole}
use Rattle.site.specs.Effects.{Send}
use Rattle.world_law.specs.Laws.{IsChosen}
use Rattle.world_law.specs.Networks.{Network, Event, Deposit, Propose, Recover, Ask, Query, Deliver}
use Rattle.world_law.specs.Networks.{Raw, Stop, Start, datagram_at, happens, run}
use Rattle.reach_law.specs.Running.{records_at}

-- ---- events at those that run, in which nothing fails

-- One of those that run is opened, proposes for the slot, recovers it, or asks another of them; or
-- a datagram whose number is above `before` reaches one of them.
abbrev pub IsCalm : (running : List ℕ) → SlotName → (before : ℕ) → Network → Event → Type 0
IsCalm running slot before w (Start n) = Has n running
IsCalm running slot before w (Propose n s fate) = Has n running × (s ≡ slot) × (fate ≡ Whole)
IsCalm running slot before w (Recover n s fate) = Has n running × (s ≡ slot) × (fate ≡ Whole)
IsCalm running slot before w (Ask n m s fate) =
    Has n running × Has m running × (s ≡ slot) × (fate ≡ Whole)
IsCalm running slot before w (Deliver number fate) =
    (before < number) × (fate ≡ Whole)
    × ((d : Send) × (datagram_at number w.sent ≡ Some d) × Has d.to running)
IsCalm running slot before w (Deposit n s checked fate) = ⊥
IsCalm running slot before w (Query n s) = ⊥
IsCalm running slot before w (Raw n) = ⊥
IsCalm running slot before w (Stop n) = ⊥

-- each of them is, one after another
unfoldable pub AreCalm :
    QuorumSystem → (running : List ℕ) → SlotName → (before : ℕ) → Network → List Event → Type 0
AreCalm q running slot before w [] = ⊤
AreCalm q running slot before w (e ∷ events) =
    IsCalm running slot before w e × AreCalm q running slot before (happens q w e).network events

-- ---- within reach

-- There are such events, at most ten for each of those that run and two more, after which all of
-- these know one bag; and any bag that was chosen before is this one.
pub record IsWithinReach
    (q : QuorumSystem) (w : Network) (running : List ℕ) (slot : SlotName)
    : Type 0 where
  pub events : List Event
  pub few : length events ≤ 10 * length running + 2
  pub calm : AreCalm q running slot (length w.sent) w events
  pub bag : BagId
  pub known : (n : ℕ) → Has n running
      → known_of slot (records_at (run q w events) n) ≡ Some bag
  pub chosen : (v : BagId) → IsChosen q w slot v → v ≡ bag

-- ---- out of reach

-- none of those that run has a deposit for the slot, has voted for a bag of it, or knows one
abbrev pub HaveNothing : Network → (running : List ℕ) → SlotName → Type 0
HaveNothing w running slot =
    (n : ℕ) → Has n running
    → (deposit_of slot (records_at w n) ≡ None) × (vote_of slot (records_at w n) ≡ None)
    × (known_of slot (records_at w n) ≡ None)

-- whatever such events there are, none of those that run comes to know one
abbrev pub StaysUnknown : QuorumSystem → Network → (running : List ℕ) → SlotName → Type 0
StaysUnknown q w running slot =
    (events : List Event) → AreCalm q running slot (length w.sent) w events
    → (n : ℕ) → Has n running → known_of slot (records_at (run q w events) n) ≡ None
