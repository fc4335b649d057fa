use Rattle.std.proofs.Common.{◌≡◌, true, take}
use Rattle.std.specs.List.{list_all}
use Rattle.qp_plain.proofs.EmptyQueues.{is_empty}
use Rattle.qp_plain.proofs.world.PlainWorld.rests.Given as goal

-- the objects so far
abbrev pub invariant-loop-d : goal.invariant-loop-d
invariant-loop-d l = list_all (is_empty l.self) (take l.d-index l.self.sys.now.objects) ≡ true
