use Rattle.std.proofs.Common.{◌≡◌, length, map, take}
use Rattle.qp_plain.specs.NewWorld.{lanes_in}
use Rattle.qp_replay.specs.RerunLaws.{made}
use Rattle.qp_replay.specs.Rerun.{world_in}
use Rattle.qp_replay.proofs.Rerunning.{place_of}
use Rattle.qp_replay.proofs.again.rerun.Given as goal

-- the records of the order so far are made
abbrev pub invariant-loop-at : goal.invariant-loop-at
invariant-loop-at l = record {
  sys_is : l.world.sys.now ≡ l.sys;
  made_is : world_in l.world ≡ made l.j.lanes (map place_of (take l.at-index l.at-items));
  lanes_are : lanes_in l.world ≡ length l.j.lanes;
}
