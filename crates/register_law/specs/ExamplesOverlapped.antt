-- Two turns that overlap: while site 1 hands out three datagrams, the second of them comes to site
-- 2, which takes a whole turn, and has handed out its reply before site 1 has handed out the third.
use Rattle.std.specs.Prelude.{◌≡◌, ℕ, List, [], ◌∷◌, ◌++◌}
use Rattle.fed_types.specs.declared.bag_id.BagId.{BagId}
use Rattle.udp_site.specs.Traffic.{Post, From}
use Rattle.serving_law.specs.Disks.{Disk, device}
use Rattle.serving_law.specs.Examples.{Request}
use Rattle.serving_law.specs.ExamplesAgreed.{three, a}
use Rattle.serving_law.specs.Federations.{Federation, Step, Turns, new_federation}
use Rattle.register_law.specs.Overlaps.{Moment, Begins, HandsOut, begun, at_member}
use Rattle.register_law.specs.Overlaps.{IsAccount, AreInTime}

-- nobody has a record, and nothing was handed out
abbrev pub at_first : Federation Disk
at_first = new_federation

-- these are the moments from then on: each member has an account of its own, and a message is taken
-- in after it was handed out
pub record AreMoments (moments : List (Moment Disk)) : Type 0 where
  pub accounts : (n : ℕ)
      → IsAccount device three (at_first.members n) (at_member n (begun moments))
  pub in_time : AreInTime three at_first.handed [] moments

pub record Overlap (bag : BagId) : Type 0 where
  pub before : List (Moment Disk)
  pub proposing : Step Disk
  pub to_one : Post
  pub to_two : Post
  pub promising : Step Disk
  pub reply : Post
  pub to_three : Post
  pub posts : proposing.turn.done.posts ≡ to_one ∷ to_two ∷ to_three ∷ []
  pub takes : promising.turn.took ≡ From 0 to_two.1
  pub replies : promising.turn.done.posts ≡ reply ∷ []
  pub are : AreMoments
      (before ++ Begins (Turns 1 proposing 3 0) ∷ HandsOut to_one ∷ HandsOut to_two
      ∷ Begins (Turns 2 promising 1 0) ∷ HandsOut reply ∷ HandsOut to_three ∷ [])

abbrev pub TurnsOverlap : Type 0
TurnsOverlap = (bag : BagId) → Request three.federation a bag → Overlap bag
