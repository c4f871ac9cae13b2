-- A command changes no site, or is skipped, or is one event of the network, or is a pump.
use Rattle.std.proofs.Common.{ℕ, ◌≡◌, ◌≢◌, true, refl, List, [], ◌∷◌, ◌++◌}
use Rattle.std.proofs.Common.{Option, None, Some, inl, sym}
use Rattle.std.specs.Prelude.{Result, Ok, Err}
use Rattle.std.proofs.lemmas.Bool.{cond_both}
use Rattle.fed_types.specs.declared.bag_id.BagId.{BagId}
use Rattle.fed_types.specs.Slots.{SlotName}
use Rattle.bag_tree.specs.declared.fault.TreeFault.{TreeFault}
use Rattle.bag_tree.specs.Facts.{facts_of_tree}
use Rattle.bag_tree.specs.Tree.{Files, fault_of_added}
use Rattle.bag_check.specs.declared.fault.BagFault.{BagFault}
use Rattle.bag_check.proofs.ValidLaws.{is_valid}
use Rattle.dgram.specs.declared.message.Message.{Message}
use Rattle.dgram.specs.Decoded.{message_of}
use Rattle.site.specs.Effects.{Send}
use Rattle.schedule.specs.declared.call.Call.{Call}
use Rattle.schedule.specs.declared.call.Call.TheVariants as calls
use Rattle.schedule.specs.declared.command.Command.{Command}
use Rattle.schedule.specs.declared.command.Command.TheVariants as commands
use Rattle.schedule.specs.declared.fate.Fate.{Fate}
use Rattle.schedule.specs.declared.fate.Fate.TheVariants.{Whole}
use Rattle.lines.specs.declared.line.Line.TheVariants as lines
use Rattle.lines.specs.declared.line.Reason.{Reason}
use Rattle.lines.specs.declared.line.Reason.TheVariants as reasons
use Rattle.world_law.specs.Headline.{IsValidDeposit}
use Rattle.world_law.specs.Networks.{Mode, Up, Down, Event, Deposit, Propose}
use Rattle.world_law.specs.Networks.{Recover, Ask, Query, Deliver, Raw, Stop, Start, datagram_at}
use Rattle.lines.specs.Named.{SeenBag}
use Rattle.world_law.specs.Trees.{NumberedTree, tree_at}
use Rattle.world_law.specs.Worlds.{World, skips, with_seen, after_event, is_member, mode_of}
use Rattle.world_law.specs.Worlds.{at_member, unless_down, on_tree, on_folder, on_added, on_file}
use Rattle.world_law.specs.Worlds.{checked, on_deposit, on_datagram, on_deliver, on_call, on_raw}
use Rattle.world_law.specs.Worlds.{on_turn, pumped, on_start, after_command}

-- an event that deposits a valid bag comes of a line that hands it
abbrev pub Comes : World → Option Command → Event → Type 0
Comes w line e =
    (site : ℕ) (slot : SlotName) (bag : BagId) (fate : Fate)
    → e ≡ Deposit site slot (Ok bag) fate → IsValidDeposit w line site slot bag

module _ (w : World) (number : ℕ) (P : World → Type 0) where
  -- P holds where numbers are named and trees change; where a command is skipped; after an event
  abbrev pub Changed : Type 0
  Changed =
      (named : List ℕ) (trees : List NumberedTree) → P (record w { named = named; trees = trees })

  abbrev pub Skipped : Type 0
  Skipped =
      (named : List ℕ) (reason : Reason)
      → P (record w { named = named; lines = w.lines ++ lines.Skip number reason ∷ [] })

  abbrev pub Delivered : Type 0
  Delivered =
      (named : List ℕ) (k : ℕ) (fate : Fate)
      → P (after_event (record w { named = named }) (Deliver k fate))

  abbrev pub Went : Option Command → Type 0
  Went line =
      (named : List ℕ) (seen : List SeenBag) (e : Event) → Comes w line e
      → P (after_event (record w { named = named; seen = seen }) e)

  module _ (changed : Changed) (skipped : Skipped) where
    at_member_is : (site : ℕ) (x : World) → (is_member w site ≡ true → P x)
        → P (at_member w number site x)
    at_member_is site x h =
        cond_both (is_member w site) x (skips w number reasons.Site) P h
        (λ e. skipped w.named reasons.Site)

    unless_down_is : (named : List ℕ) (mode : Mode) (x : World) → (mode ≢ Down → P x)
        → P (unless_down (record w { named = named }) number mode x)
    unless_down_is named Down x h = skipped named reasons.Down
    unless_down_is named mode x h = h (λ e. cc)

    -- ---- deliveries

    datagram_is : Delivered → (k : ℕ) (fate : Fate) (named : List ℕ) (o : Option Send)
        → P (on_datagram (record w { named = named }) number k fate o)
    unfolding on_datagram
    datagram_is delivered k fate named None = skipped named reasons.Datagram
    datagram_is delivered k fate named (Some d) =
        unless_down_is named (mode_of w d.to) _ (λ up. delivered named k fate)

    deliver_is : Delivered → (k : ℕ) (fate : Fate) → P (on_deliver w number k fate)
    unfolding on_deliver
    deliver_is delivered k fate =
        datagram_is delivered k fate (w.named ++ k ∷ []) (datagram_at k w.network.sent)

    pub turn_is : Delivered → (o : Option ℕ) → P (on_turn w number o)
    unfolding on_turn
    turn_is delivered None = changed w.named w.trees
    turn_is delivered (Some k) = deliver_is delivered k Whole

    -- ---- trees

    tree_is : (tree : ℕ) (o : Option Files) → P (on_tree w number tree o)
    unfolding on_tree
    tree_is tree None = changed w.named _
    tree_is tree (Some files) = skipped w.named reasons.Tree

    folder_is : (tree : ℕ) (o : Option Files) → P (on_folder w number tree o)
    unfolding on_folder
    folder_is tree None = skipped w.named reasons.Tree
    folder_is tree (Some files) = changed w.named _

    added_is : (tree : ℕ) (files : Files) (path bytes : List ℕ) (o : Option TreeFault)
        → P (on_added w number tree files path bytes o)
    unfolding on_added
    added_is tree files path bytes None = changed w.named _
    added_is tree files path bytes (Some fault) = skipped w.named reasons.Path

    file_is : (tree : ℕ) (path bytes : List ℕ) (o : Option Files)
        → P (on_file w number tree path bytes o)
    unfolding on_file
    file_is tree path bytes None = skipped w.named reasons.Tree
    file_is tree path bytes (Some files) =
        added_is tree files path bytes (fault_of_added files path bytes)

    -- ---- calls, and the rest

    module _ (line : Option Command) (went : Went line) where
      -- an event that is no deposit, at a site that isn't down
      plain_is : (site : ℕ) (e : Event)
          → ((k : ℕ) (slot : SlotName) (bag : BagId) (fate : Fate)
          → e ≢ Deposit k slot (Ok bag) fate)
          → P (unless_down w number (mode_of w site) (after_event w e))
      plain_is site e other =
          unless_down_is w.named (mode_of w site) _
          (λ up. went w.named w.seen e (λ k slot bag fate g. absurd (other k slot bag fate g)))

      delivers : Delivered
      delivers named k fate = went named w.seen (Deliver k fate) (λ j slot bag f g. absurd (cc g))

      raw_is : (site : ℕ) (o : Option Message) → P (on_raw w number site o)
      unfolding on_raw
      raw_is site None = plain_is site (Raw site) (λ k slot bag fate g. cc)
      raw_is site (Some m) = skipped w.named reasons.Formed

      starts : (site : ℕ) → P (after_event w (Start site))
      starts site = went w.named w.seen (Start site) (λ k slot bag fate g. absurd (cc g))

      start_is : (site : ℕ) (mode : Mode) → P (on_start w number site mode)
      unfolding on_start
      start_is site (Up volatile) = skipped w.named reasons.Up
      start_is site mode = starts site

    module _ (site tree : ℕ) (slot : SlotName) (fate : Fate) where
      abbrev deposit : Option Command
      deposit = Some (commands.Call (calls.Deposit site tree slot) fate)

      seen_is : Went deposit → (found : Result BagId BagFault)
          → Comes w deposit (Deposit site slot found fate)
          → P (after_event (with_seen w tree found) (Deposit site slot found fate))
      seen_is went (Ok bag) comes = went w.named _ _ comes
      seen_is went (Err fault) comes = went w.named w.seen _ comes

      -- a deposit of a member that isn't down hands the tree's bag
      hands : is_member w site ≡ true → (files : Files) → tree_at tree w.trees ≡ Some files
          → mode_of w site ≢ Down → Comes w deposit (Deposit site slot (checked files) fate)
      hands member files declared up k s bag f g =
          let same_site : site ≡ k = cc in
          let same_slot : slot ≡ s = cc in
          let found : checked files ≡ Ok bag = cc in
          let valid = is_valid (facts_of_tree files) (Ok bag) (inl (sym found)) in
          record {
            tree = tree;
            fate = fate;
            files = files;
            is = rw (same_site, same_slot) refl;
            member = rw same_site at member;
            not_down = rw same_site at up;
            declared = declared;
            valid = valid.0;
            identity = valid.1;
          }

      deposit_is : Went deposit → is_member w site ≡ true → (o : Option Files)
          → tree_at tree w.trees ≡ o → P (on_deposit w number site tree slot fate o)
      unfolding on_deposit
      deposit_is went member None e = skipped w.named reasons.Tree
      deposit_is went member (Some files) e =
          unless_down_is w.named (mode_of w site) _
          (λ up. seen_is went (checked files) (hands member files e up))

    call_is : (call : Call) (fate : Fate) → Went (Some (commands.Call call fate))
        → P (on_call w number call fate)
    unfolding on_call
    call_is (calls.Deposit site tree slot) fate went =
        at_member_is site _
        (λ member. deposit_is site tree slot fate went member (tree_at tree w.trees) refl)
    call_is (calls.Propose site slot) fate went =
        at_member_is site _
        (λ member. plain_is _ went site (Propose site slot fate) (λ k s bag f g. cc))
    call_is (calls.Recover site slot) fate went =
        at_member_is site _
        (λ member. plain_is _ went site (Recover site slot fate) (λ k s bag f g. cc))
    call_is (calls.Deliver k) fate went = deliver_is (delivers _ went) k fate
    call_is (calls.Ask site member slot) fate went =
        at_member_is site _
        (λ e. at_member_is member _
        (λ f. plain_is _ went site (Ask site member slot fate) (λ k s bag h g. cc)))

    pub command_is : (c : Command) → Went (Some c)
        → ((turns : ℕ) → P (pumped w number turns)) → P (after_command w number c)
    unfolding after_command
    command_is (commands.Tree tree) went pumps = tree_is tree (tree_at tree w.trees)
    command_is (commands.Folder tree) went pumps = folder_is tree (tree_at tree w.trees)
    command_is (commands.File tree path content) went pumps =
        file_is tree path content (tree_at tree w.trees)
    command_is (commands.Call call fate) went pumps = call_is call fate went
    command_is (commands.Query site slot) went pumps =
        at_member_is site _
        (λ member. plain_is _ went site (Query site slot) (λ k s bag f g. cc))
    command_is (commands.Raw site bytes) went pumps =
        at_member_is site _
        (λ member. raw_is _ went site (message_of w.members.federation bytes))
    command_is (commands.Pump turns) went pumps = pumps turns
    command_is (commands.Stop site) went pumps =
        at_member_is site _ (λ member. plain_is _ went site (Stop site) (λ k s bag f g. cc))
    command_is (commands.Start site) went pumps =
        at_member_is site _ (λ member. start_is _ went site (mode_of w site))
