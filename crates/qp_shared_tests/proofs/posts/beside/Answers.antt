use denote.Ref.{NamedLft}
use denote.RattleType.{RattleType}
use denote.Param.Send.{IsSend, IsSync, sendable}
use Rattle.std.proofs.Crossing.{crosses}
use Rattle.qp_base.specs.contracts.event.Ev as event
use Rattle.qp_model.proofs.CrossingLemmas.{system-sync}
use Rattle.qp_shared_tests.specs.contracts.players.Player as player
use Rattle.qp_shared_tests.specs.contracts.players.Terms as terms
use Rattle.qp_shared_tests.proofs.posts.beside.Goals as goal

event-sync : IsSync event.the_field.row
event-sync = search (crosses, sendable) depth 40

terms-send : (κ : NamedLft) → IsSend (terms.the_field κ).row
terms-send κ = let s = system-sync in let e = event-sync in search (crosses, sendable) depth 60 fits 100000

player-send : (κ : NamedLft) (O : RattleType) → IsSend O → IsSend (player.the_row κ O)
player-send κ O o = let a = terms-send κ in search (crosses, sendable) depth 60 fits 100000

pub both_turn-requires-send-T : goal.both_turn-requires-send-T
both_turn-requires-send-T g c κs within = search (sendable, player-send) depth 20
