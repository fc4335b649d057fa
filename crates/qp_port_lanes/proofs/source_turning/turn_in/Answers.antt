use Rattle.std.proofs.Common.{◌≡◌, ℕ, ◌+◌, ◌-◌, List, [], length, refl, ◌∙◌, ap, arith, inl}
use Rattle.qp_model.specs.declared.stimulus.Stim.{Stim}
use Rattle.qp_port_lanes.specs.CursorAt.{mine}
use Rattle.qp_port_lanes.proofs.Turned.{any-default, breaks-then, goes-none, goes-then, turn-ends, turns-then}
use Rattle.qp_told.proofs.ToldLemmas.{tells-more, tells-none}
use Rattle.qp_port_lanes.proofs.Tellings.{ends-turn}
use Rattle.qp_port_lanes.proofs.source_turning.turn_in.Goals as goal

pub loop-k-init : goal.loop-k-init
loop-k-init g c = record { goes = goes-none c.args.sys.now c.args.source.now _ c.requires.knows; at = refl; tells = tells-none c.args.source.now.begun c.args.gate.now.steps.list }

pub returns-in-Some-clause-turns : goal.returns-in-Some-clause-turns
returns-in-Some-clause-turns g c = turns-then c.args.sys.now c.args.source.now c.loop-k.source c.do_next.new.source _ (g.O.Ops.lane c.loop-k.ops) _ c.in-Some.turn c.loop-k.invariant.goes c.in-Some.ensures.does

pub returns-in-Some-clause-breaks : goal.returns-in-Some-clause-breaks
returns-in-Some-clause-breaks g c = breaks-then c.args.sys.now c.args.source.now c.loop-k.source c.do_next.new.source _ (g.O.Ops.lane c.loop-k.ops) _ c.in-Some.turn c.loop-k.invariant.goes c.in-Some.ensures.breaks

pub loop-k-preserved : goal.loop-k-preserved
loop-k-preserved g c = record {
  goes = goes-then c.args.sys.now c.args.source.now c.loop-k.source c.do_next.new.source _ (g.O.Ops.lane c.loop-k.ops) _ c.loop-k.invariant.goes c.in_default.ensures.does.goes;
  at = c.in_default.ensures.does.one ∙ ap (λ (n : ℕ). n + 1) c.loop-k.invariant.at;
  tells = tells-more c.args.source.now.begun c.loop-k.source.begun c.do_next.new.source.begun c.args.gate.now.steps.list c.loop-k.gate.steps.list c.do_next.new.gate.steps.list c.loop-k.invariant.tells c.in_default.ensures.does.one c.in_default.ensures.tells;
}

pub returns-clause-turns : goal.returns-clause-turns
returns-clause-turns g c =
    let x = c.args.source.now in
    let knows = c.requires.knows in
    let xs = c.index-mine.result.now in
    let some = knows.some in
    let there = knows.there in
    let list : xs ≡ mine x = any-default x.stim.now (x.source - 1) xs xs [] (omega (arith, some, there)) (cc) in
    let long : length c.mine.inside.items.items ≡ length xs = ap (λ (l : List Stim). length l) c.mine.view_is in
    let same : length xs ≡ length (mine x) = ap (λ (l : List Stim). length l) list in
    turn-ends c.args.sys.now x c.loop-k.source _ _ c.loop-k._k c.len-count.result c.loop-k.invariant.goes c.loop-k.invariant.at (omega (arith, c.len-count.ensures, long, same)) (omega (arith, c.loop-k-test.false))

pub returns-in-Some-clause-tells : goal.returns-in-Some-clause-tells
returns-in-Some-clause-tells g c =
    let lane = g.O.Ops.lane in
    ends-turn c.args.source.now c.loop-k.source c.do_next.new.source (lane c.loop-k.ops) (lane c.do_next.new.ops) c.args.gate.now.steps.list c.loop-k.gate.steps.list c.do_next.new.gate.steps.list c.in-Some.turn c.loop-k.invariant.tells c.in-Some.ensures.tells.0 c.in-Some.ensures.tells.1

pub returns-clause-tells : goal.returns-clause-tells
returns-clause-tells g c = c.loop-k.invariant.tells
