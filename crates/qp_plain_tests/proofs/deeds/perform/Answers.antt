use Rattle.std.proofs.Common.{◌∷◌, sym, subst}
use Rattle.qp_model.specs.Calls as call
use Rattle.qp_calls.specs.Deferring.{StandAll}
use Rattle.qp_calls.proofs.CountLemmas.{stand-front, stand-tail}
use Rattle.qp_plain_tests.specs.Desk.{MayGoOn}
use Rattle.qp_plain_tests.proofs.DeedLemmas.{goes-call, goes-flush, goes-list, goes-steady}
use Rattle.qp_plain_tests.proofs.deeds.perform.Goals as goal

pub defer-requires-clause-stands : goal.defer-requires-clause-stands
defer-requires-clause-stands g c = stand-front c.args.now.now _ _ c.requires.stand

pub defer-requires-clause-kept : goal.defer-requires-clause-kept
defer-requires-clause-kept g c = stand-tail c.args.now.now _ _ c.requires.stand

pub recall-requires-clause-kept : goal.recall-requires-clause-kept
recall-requires-clause-kept g c = subst (λ v. StandAll c.args.list.now.entries.items v) (sym c.owner-o.ensures.stays) (stand-tail c.args.now.now _ _ c.requires.stand)

pub flush-requires : goal.flush-requires
flush-requires g c = record { kept = stand-tail c.args.now.now _ _ c.requires.stand }

pub forward-requires-clause-stands : goal.forward-requires-clause-stands
forward-requires-clause-stands g c = stand-front c.args.now.now _ _ c.requires.stand

pub returns-in-Defer : goal.returns-in-Defer
returns-in-Defer g c = rw c.ok.ensures.value (goes-list c.args.sys.now c.args.now.now c.args.list.now c.defer.new.list _ call.Defer c.defer.result _ _ c.requires c.defer.ensures)

pub returns-else-not-has_object : goal.returns-else-not-has_object
returns-else-not-has_object g c =
    let may = subst (λ v. MayGoOn c.args.sys.now (c.args.now.now ∷ c.args.list.now.entries.items) v) (sym c.owner-o.ensures.stays) c.requires in
    rw c.ok-in-Recall.ensures.value (goes-list c.args.sys.now c.args.now.now c.args.list.now c.recall.new.list _ call.Recall c.recall.result _ _ may c.recall.ensures)

pub returns-in-Flush : goal.returns-in-Flush
returns-in-Flush g c = rw c.ok-in-Flush.ensures.value (goes-flush c.args.sys.now c.args.now.now c.args.list.now c.flush.new.list call.Flush c.flush.result _ _ c.requires c.flush.ensures)

pub returns-else-not-has_object-2 : goal.returns-else-not-has_object-2
returns-else-not-has_object-2 g c = rw c.ok-in-Forward.ensures.value (goes-call c.args.sys.now c.args.now.now c.args.list.now _ (call.Forward _ _) c.forward.result _ _ c.requires c.forward.ensures)

pub returns-in_default : goal.returns-in_default
returns-in_default g c = goes-steady c.args.sys.now c.args.now.now c.args.list.now _ _ c.act.result c.requires c.act.ensures

pub say_first-requires-clause-stands : goal.say_first-requires-clause-stands
say_first-requires-clause-stands g c = stand-front c.args.now.now _ _ c.requires.stand

pub returns-in-SayFirst : goal.returns-in-SayFirst
returns-in-SayFirst g c = goes-steady c.args.sys.now c.args.now.now c.args.list.now _ _ c.say_first.result c.requires c.say_first.ensures
