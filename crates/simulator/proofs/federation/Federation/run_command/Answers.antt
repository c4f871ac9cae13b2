use Rattle.world_law.specs.Networks.{Query, Stop}
use Rattle.dgram.specs.Decoded.{message_of}
use Rattle.world_law.specs.Worlds.{after_command, event_at, on_raw, on_start, mode_of}
use Rattle.simulator.proofs.Named.{to_member, to_nobody}
use Rattle.simulator.proofs.federation.Federation.run_command.Goals as goal

pub returns-in-Tree : goal.returns-in-Tree
unfolding after_command
returns-in-Tree c = rw c.in-Tree.is c.declare_tree.ensures

pub returns-in-Folder : goal.returns-in-Folder
unfolding after_command
returns-in-Folder c = rw c.in-Folder.is c.add_folder.ensures

pub returns-in-File : goal.returns-in-File
unfolding after_command
returns-in-File c =
    rw c.in-File.is (rw (← c.as_str.ensures.value, ← c.as_slice.ensures) c.add_file.ensures)

pub returns-in-Call : goal.returns-in-Call
unfolding after_command
returns-in-Call c = rw c.in-Call.is c.run_call.ensures

pub returns-in-Pump : goal.returns-in-Pump
unfolding after_command
returns-in-Pump c = rw c.in-Pump.is c.pump.ensures

pub returns-in-Some : goal.returns-in-Some
unfolding after_command
returns-in-Some c =
    rw c.in-Query.is (to_member c.query.result _ _ _ _
    (λ w n. event_at w c.args.number n (Query n c.in-Query.slot)) _ c.in-Some.ensures
    c.query.ensures)

pub returns-in-None : goal.returns-in-None
unfolding after_command
returns-in-None c =
    rw c.in-Query.is (to_nobody c.skip.result _ _ _ _ _ c.in-None.ensures c.skip.ensures)

pub returns-in-Some-place_of : goal.returns-in-Some-place_of
unfolding after_command
returns-in-Some-place_of c =
    let bytes = c.as_slice-in-Some-place_of.result.now in
    rw (c.in-Raw.is, ← c.as_slice-in-Some-place_of.ensures)
    (to_member c.raw.result _ _ _ _
    (λ w n. on_raw w c.args.number n (message_of w.members.federation bytes)) _
    c.in-Some-place_of.ensures c.raw.ensures)

pub returns-in-None-place_of : goal.returns-in-None-place_of
unfolding after_command
returns-in-None-place_of c =
    rw c.in-Raw.is (to_nobody c.skip-in-None-place_of.result _ _ _ _ _ c.in-None-place_of.ensures
    c.skip-in-None-place_of.ensures)

pub returns-in-Some-place_of-2 : goal.returns-in-Some-place_of-2
unfolding after_command
returns-in-Some-place_of-2 c =
    rw c.in-Stop.is (to_member c.stop.result _ _ _ _
    (λ w n. event_at w c.args.number n (Stop n)) _ c.in-Some-place_of-2.ensures c.stop.ensures)

pub returns-in-None-place_of-2 : goal.returns-in-None-place_of-2
unfolding after_command
returns-in-None-place_of-2 c =
    rw c.in-Stop.is (to_nobody c.skip-in-None-place_of-2.result _ _ _ _ _
    c.in-None-place_of-2.ensures c.skip-in-None-place_of-2.ensures)

pub returns-in-Some-place_of-3 : goal.returns-in-Some-place_of-3
unfolding after_command
returns-in-Some-place_of-3 c =
    rw c.in-Start.is (to_member c.start.result _ _ _ _
    (λ w n. on_start w c.args.number n (mode_of w n)) _ c.in-Some-place_of-3.ensures
    c.start.ensures)

pub returns-in-None-place_of-3 : goal.returns-in-None-place_of-3
unfolding after_command
returns-in-None-place_of-3 c =
    rw c.in-Start.is (to_nobody c.skip-in-None-place_of-3.result _ _ _ _ _
    c.in-None-place_of-3.ensures c.skip-in-None-place_of-3.ensures)
