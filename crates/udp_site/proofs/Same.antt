-- What the code's variables are of the site between turns.
use Rattle.udp_site.specs.Turns.{IsServing, turn_of, Serving, members, number, deposit_replies}
use Rattle.udp_site.specs.declared.idle_turns.IdleProgress.{IdleProgress}
use Rattle.udp_site.specs.inner.Servers.{Stands, Keeps}
use Rattle.udp_site.specs.inner.SlotRecords.{AreSettled}
use Rattle.cell_device.specs.Devices.{Device}
use Rattle.udp_site.specs.Served.{Rule}
use Rattle.std.proofs.Common.{Option, List, Result, ◌∙◌, le_trans, refl, ◌≡◌, ℕ}
use Rattle.bag_tree.specs.declared.fault.TreeFault.{TreeFault}
use Rattle.bag_tree.specs.Facts.{TreeFacts}
use Rattle.udp_site.specs.declared.server.Server.{Server}
use Rattle.fed_types.specs.Sites.{Membership}
use Rattle.fed_types.specs.Slots.{SlotName}
use Rattle.dgram.specs.declared.answers.DepositAnswer.{DepositAnswer}
use Rattle.site.specs.Sites.{OpenSite}

module _ {C : Type 0} (old : Serving C) {start : OpenSite C} (there : old.site ≡ start) where
  pub same_number : {n k : ℕ} → k ≡ n → n ≡ start.book.owner.site → k ≡ number old
  same_number p q = rw there (p ∙ q)

  pub same_federation : {m : Membership} {f : ℕ} → f ≡ m.federation
      → m ≡ start.book.owner.members → f ≡ (members old).federation
  same_federation p q = rw (there, ← q) p

  -- the replies that are handed out, in the code's variables
  pub replied : {m : Membership} {f n : ℕ} → f ≡ m.federation → m ≡ start.book.owner.members
      → n ≡ start.book.owner.site → (port : ℕ) (slot : SlotName)
      → {said told : Option DepositAnswer} → said ≡ told
      → deposit_replies f n port slot said
      ≡ deposit_replies (members old).federation (number old) port slot told
  replied named whose numbered port slot is =
      rw (same_federation named whose, same_number refl numbered, is)

-- what is kept twice is kept
pub keeps_on : {C P F : Type 0} {failures : P → ℕ}
    {gives : F → Option (List ℕ → Result TreeFacts TreeFault)} {a b c : Server C P F}
    → Keeps failures gives a b → Keeps failures gives b c → Keeps failures gives a c
keeps_on first second = record {
  site = second.site ∙ first.site;
  port = second.port ∙ first.port;
  folders = second.folders ∙ first.folders;
  addresses = second.addresses ∙ first.addresses;
  later = le_trans first.later second.later;
  kept = second.kept ∙ first.kept;
}

-- the same comes by the same rule
pub by_rule : {C : Type 0} (device : C → Device) {addresses l : List ℕ}
    {gives f : Option (List ℕ → Result TreeFacts TreeFault)} (P : Rule C → Type 0)
    → l ≡ addresses → f ≡ gives → P (turn_of device l f) → P (turn_of device addresses gives)
by_rule device P same kept comes = rw (← same, ← kept) comes

-- so it stands between turns
pub stands : {C : Type 0} {s : Serving C} {site : OpenSite C} {progress : IdleProgress}
    → s.site ≡ site → IsServing s → s.idle ≡ progress.idle → s.tried ≡ progress.tried
    → AreSettled site.book.records progress.settled → Stands s site progress
stands there serves idle tried settled = record {
  there = there;
  serves = serves;
  idle = idle;
  tried = tried;
  settled = settled;
}
