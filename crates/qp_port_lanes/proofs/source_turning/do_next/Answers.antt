use Rattle.std.proofs.Common.{◌≡◌, ◌+◌, ◌-◌, ◌<◌, List, [], length, get_or, refl, ◌∙◌, ap, subst, inl, inr, arith}
use Rattle.qp_model.specs.declared.stimulus.Stim.{Stim}
use Rattle.qp_calls.specs.LaneView.{LaneView}
use Rattle.qp_calls.specs.Notes.{spills_told}
use Rattle.qp_calls_stimulus.specs.declared.doing.Stimulated.TheVariants as stimulated
use Rattle.qp_calls_stimulus.specs.Stimulating.{Exhausts, Stimulates}
use Rattle.qp_kernel_turns.specs.Halting.{asked_once}
use Rattle.qp_kernel_turns.proofs.Ordered.{unset-by}
use Rattle.qp_port_lanes.specs.CursorAt.{mine}
use Rattle.qp_dispatch.specs.declared.objects.Turn.TheVariants as turn
use Rattle.qp_port_lanes.proofs.Asking.{cursor-once}
use Rattle.qp_port_lanes.proofs.Turned.{any-default, breaks-here, breaks-then, few-begun, finds-stop, goes-none, goes-on, goes-then, never, rests-settling, starves, stops-here, turns-then, unspilled}
use Rattle.qp_port_lanes.proofs.Tellings.{ends-memory, ends-stopped}
use Rattle.qp_port_lanes.proofs.source_turning.do_next.Goals as goal

pub returns-in-Some-clause-does : goal.returns-in-Some-clause-does
returns-in-Some-clause-does g c =
    let x = c.args.source.now in
    let knows = c.requires.knows in
    let xs = c.index-mine.result.now in
    let some = knows.some in
    let there = knows.there in
    let list : xs ≡ mine x = any-default x.stim.now (x.source - 1) xs xs [] (omega (arith, some, there)) (cc) in
    let s = c.index-s.result.now in
    let is : s ≡ get_or (mine x) x.begun s = subst (λ (l : List Stim). s ≡ get_or l x.begun s) list (cc) in
    let long : length c.mine.inside.items.items ≡ length xs = ap (λ (l : List Stim). length l) c.mine.view_is in
    let lt : x.begun < length (mine x) = subst (λ (l : List Stim). x.begun < length l) list (omega (arith, c.if-at-len.false, c.len.ensures, long)) in
    finds-stop c.args.sys.now x _ knows c.if-source.false s lt is c.in-Some.field-0 _ c.in-Some.ensures.0

pub overflow_add-place : goal.overflow_add-place
overflow_add-place g c =
    let few = few-begun c.args.sys.now c.args.source.now _ c.requires.knows c.if-source.false (g.met.O.Ops.within c.args.ops.now) in
    record { fits = omega (arith, few) }

pub stimulus-answer-requires-clause-spills : goal.stimulus-answer-requires-clause-spills
stimulus-answer-requires-clause-spills g c =
    ap (λ (u : LaneView). spills_told u.told) c.in_default-stopped.ensures.0 ∙ unspilled c.args.sys.now c.args.source.now _ c.requires.knows c.if-source.false

pub returns-in-Done-clause-does : goal.returns-in-Done-clause-does
returns-in-Done-clause-does g c =
    let lane = g.O.Ops.lane in
    let x = c.args.source.now in
    let knows = c.requires.knows in
    let xs = c.index-mine.result.now in
    let some = knows.some in
    let there = knows.there in
    let list : xs ≡ mine x = any-default x.stim.now (x.source - 1) xs xs [] (omega (arith, some, there)) (cc) in
    let s = c.index-s.result.now in
    let is : s ≡ get_or (mine x) x.begun s = subst (λ (l : List Stim). s ≡ get_or l x.begun s) list (cc) in
    let long : length c.mine.inside.items.items ≡ length xs = ap (λ (l : List Stim). length l) c.mine.view_is in
    let lt : x.begun < length (mine x) = subst (λ (l : List Stim). x.begun < length l) list (omega (arith, c.if-at-len.false, c.len.ensures, long)) in
    let v = lane c.args.ops.now in
    let once = cursor-once c.args.sys.now x v knows in
    let asked = knows.asked in
    let one = goes-on c.args.sys.now x (asked_once v) once.at c.if-source.false s lt is (x.begun + 1) refl (lane c.stimulus-answer.new.ops) c.in_default.not-Settle (omega (arith, asked))
    (subst (λ (u : LaneView). Stimulates c.args.sys.now s (x.begun + 1) 0 u (lane c.stimulus-answer.new.ops) stimulated.Done) c.in_default-stopped.ensures.0 c.in-Done.ensures.stimulates) in
    record { goes = goes-then c.args.sys.now x x (record x { begun = x.begun + 1 }) v (asked_once v) (lane c.stimulus-answer.new.ops) once one.goes; one = one.one }

pub returns-in-Tried-clause-does : goal.returns-in-Tried-clause-does
returns-in-Tried-clause-does g c =
    let lane = g.O.Ops.lane in
    let x = c.args.source.now in
    let knows = c.requires.knows in
    let xs = c.index-mine.result.now in
    let some = knows.some in
    let there = knows.there in
    let list : xs ≡ mine x = any-default x.stim.now (x.source - 1) xs xs [] (omega (arith, some, there)) (cc) in
    let s = c.index-s.result.now in
    let is : s ≡ get_or (mine x) x.begun s = subst (λ (l : List Stim). s ≡ get_or l x.begun s) list (cc) in
    let long : length c.mine.inside.items.items ≡ length xs = ap (λ (l : List Stim). length l) c.mine.view_is in
    let lt : x.begun < length (mine x) = subst (λ (l : List Stim). x.begun < length l) list (omega (arith, c.if-at-len.false, c.len.ensures, long)) in
    absurd (never c.args.sys.now x (asked_once (lane c.args.ops.now)) (cursor-once c.args.sys.now x (lane c.args.ops.now) knows).at c.if-source.false s lt is (x.begun + 1) refl _ c.in_default.not-Settle
    (subst (λ (u : LaneView). Stimulates c.args.sys.now s (x.begun + 1) 0 u (lane c.stimulus-answer.new.ops) stimulated.Tried) c.in_default-stopped.ensures.0 c.in-Tried.ensures.stimulates))

pub returns-in-Stopped-clause-does : goal.returns-in-Stopped-clause-does
returns-in-Stopped-clause-does g c =
    let lane = g.O.Ops.lane in
    let x = c.args.source.now in
    let knows = c.requires.knows in
    let xs = c.index-mine.result.now in
    let some = knows.some in
    let there = knows.there in
    let list : xs ≡ mine x = any-default x.stim.now (x.source - 1) xs xs [] (omega (arith, some, there)) (cc) in
    let s = c.index-s.result.now in
    let is : s ≡ get_or (mine x) x.begun s = subst (λ (l : List Stim). s ≡ get_or l x.begun s) list (cc) in
    let long : length c.mine.inside.items.items ≡ length xs = ap (λ (l : List Stim). length l) c.mine.view_is in
    let lt : x.begun < length (mine x) = subst (λ (l : List Stim). x.begun < length l) list (omega (arith, c.if-at-len.false, c.len.ensures, long)) in
    let v = lane c.args.ops.now in
    let once = cursor-once c.args.sys.now x v knows in
    turns-then c.args.sys.now x x x v (asked_once v) (lane c.stimulus-answer.new.ops) turn.Stopped once
    (stops-here c.args.sys.now x (asked_once v) once.at c.if-source.false s lt is (x.begun + 1) refl (lane c.stimulus-answer.new.ops)
    (subst (λ (u : LaneView). Stimulates c.args.sys.now s (x.begun + 1) 0 u (lane c.stimulus-answer.new.ops) stimulated.Stopped) c.in_default-stopped.ensures.0 c.in-Stopped.ensures.stimulates))

pub returns-in-Some-clause-breaks : goal.returns-in-Some-clause-breaks
returns-in-Some-clause-breaks g c =
    let x = c.args.source.now in
    let knows = c.requires.knows in
    let xs = c.index-mine.result.now in
    let some = knows.some in
    let there = knows.there in
    let list : xs ≡ mine x = any-default x.stim.now (x.source - 1) xs xs [] (omega (arith, some, there)) (cc) in
    let s = c.index-s.result.now in
    let is : s ≡ get_or (mine x) x.begun s = subst (λ (l : List Stim). s ≡ get_or l x.begun s) list (cc) in
    let long : length c.mine.inside.items.items ≡ length xs = ap (λ (l : List Stim). length l) c.mine.view_is in
    let lt : x.begun < length (mine x) = subst (λ (l : List Stim). x.begun < length l) list (omega (arith, c.if-at-len.false, c.len.ensures, long)) in
    breaks-here c.args.sys.now x _ knows c.if-source.false s lt is turn.Stopped _ c.in_default.not-Settle (inl (record { code = c.in-Some.field-0; answered = c.in-Some.ensures.0 }))

pub returns-in-Stopped-clause-breaks : goal.returns-in-Stopped-clause-breaks
returns-in-Stopped-clause-breaks g c =
    let lane = g.O.Ops.lane in
    let x = c.args.source.now in
    let knows = c.requires.knows in
    let xs = c.index-mine.result.now in
    let some = knows.some in
    let there = knows.there in
    let list : xs ≡ mine x = any-default x.stim.now (x.source - 1) xs xs [] (omega (arith, some, there)) (cc) in
    let s = c.index-s.result.now in
    let is : s ≡ get_or (mine x) x.begun s = subst (λ (l : List Stim). s ≡ get_or l x.begun s) list (cc) in
    let long : length c.mine.inside.items.items ≡ length xs = ap (λ (l : List Stim). length l) c.mine.view_is in
    let lt : x.begun < length (mine x) = subst (λ (l : List Stim). x.begun < length l) list (omega (arith, c.if-at-len.false, c.len.ensures, long)) in
    let v = lane c.args.ops.now in
    let once = cursor-once c.args.sys.now x v knows in
    breaks-then c.args.sys.now x x x v (asked_once v) (lane c.stimulus-answer.new.ops) turn.Stopped once
    (breaks-here c.args.sys.now x (asked_once v) once.at c.if-source.false s lt is turn.Stopped (lane c.stimulus-answer.new.ops) c.in_default.not-Settle
    (inr (subst (λ (u : LaneView). Stimulates c.args.sys.now s (x.begun + 1) 0 u (lane c.stimulus-answer.new.ops) stimulated.Stopped) c.in_default-stopped.ensures.0 c.in-Stopped.ensures.stimulates)))

pub returns-in-Memory-clause-breaks : goal.returns-in-Memory-clause-breaks
returns-in-Memory-clause-breaks g c =
    let lane = g.O.Ops.lane in
    let x = c.args.source.now in
    let knows = c.requires.knows in
    let xs = c.index-mine.result.now in
    let some = knows.some in
    let there = knows.there in
    let list : xs ≡ mine x = any-default x.stim.now (x.source - 1) xs xs [] (omega (arith, some, there)) (cc) in
    let s = c.index-s.result.now in
    let is : s ≡ get_or (mine x) x.begun s = subst (λ (l : List Stim). s ≡ get_or l x.begun s) list (cc) in
    let long : length c.mine.inside.items.items ≡ length xs = ap (λ (l : List Stim). length l) c.mine.view_is in
    let lt : x.begun < length (mine x) = subst (λ (l : List Stim). x.begun < length l) list (omega (arith, c.if-at-len.false, c.len.ensures, long)) in
    let v = lane c.args.ops.now in
    let once = cursor-once c.args.sys.now x v knows in
    breaks-then c.args.sys.now x x x v (asked_once v) (lane c.stimulus-answer.new.ops) turn.Memory once
    (breaks-here c.args.sys.now x (asked_once v) once.at c.if-source.false s lt is turn.Memory (lane c.stimulus-answer.new.ops) c.in_default.not-Settle
    (subst (λ (u : LaneView). Stimulates c.args.sys.now s (x.begun + 1) 0 u (lane c.stimulus-answer.new.ops) stimulated.Memory) c.in_default-stopped.ensures.0 c.in-Memory.ensures.stimulates))

pub returns-in-Tried-clause-breaks : goal.returns-in-Tried-clause-breaks
returns-in-Tried-clause-breaks g c =
    let lane = g.O.Ops.lane in
    let x = c.args.source.now in
    let knows = c.requires.knows in
    let xs = c.index-mine.result.now in
    let some = knows.some in
    let there = knows.there in
    let list : xs ≡ mine x = any-default x.stim.now (x.source - 1) xs xs [] (omega (arith, some, there)) (cc) in
    let s = c.index-s.result.now in
    let is : s ≡ get_or (mine x) x.begun s = subst (λ (l : List Stim). s ≡ get_or l x.begun s) list (cc) in
    let long : length c.mine.inside.items.items ≡ length xs = ap (λ (l : List Stim). length l) c.mine.view_is in
    let lt : x.begun < length (mine x) = subst (λ (l : List Stim). x.begun < length l) list (omega (arith, c.if-at-len.false, c.len.ensures, long)) in
    absurd (never c.args.sys.now x (asked_once (lane c.args.ops.now)) (cursor-once c.args.sys.now x (lane c.args.ops.now) knows).at c.if-source.false s lt is (x.begun + 1) refl _ c.in_default.not-Settle
    (subst (λ (u : LaneView). Stimulates c.args.sys.now s (x.begun + 1) 0 u (lane c.stimulus-answer.new.ops) stimulated.Tried) c.in_default-stopped.ensures.0 c.in-Tried.ensures.stimulates))

pub returns-then-source-clause-does : goal.returns-then-source-clause-does
returns-then-source-clause-does g c = record { goes = goes-none c.args.sys.now c.args.source.now (g.O.Ops.lane c.args.ops.now) c.requires.knows; rests = rests-settling c.args.source.now c.if-source.true }

pub returns-in-Memory-clause-does : goal.returns-in-Memory-clause-does
returns-in-Memory-clause-does g c =
    let lane = g.O.Ops.lane in
    let x = c.args.source.now in
    let v = lane c.args.ops.now in
    turns-then c.args.sys.now x x x v (asked_once v) (lane c.stimulus-answer.new.ops) turn.Memory (cursor-once c.args.sys.now x v c.requires.knows)
    (starves (asked_once v) (lane c.stimulus-answer.new.ops) (subst (λ (u : LaneView). Exhausts u (lane c.stimulus-answer.new.ops)) c.in_default-stopped.ensures.0 c.in-Memory.ensures.stimulates))

pub returns-in-Done-clause-unset : goal.returns-in-Done-clause-unset
returns-in-Done-clause-unset g c = let e = c.in_default-stopped.ensures in unset-by (g.O.Ops.lane c.args.ops.now) e.1 e.2 e.3

pub returns-then-source-clause-tells : goal.returns-then-source-clause-tells
returns-then-source-clause-tells g c = (refl, refl)

pub returns-then-at-len-clause-tells : goal.returns-then-at-len-clause-tells
returns-then-at-len-clause-tells g c = (refl, refl)

pub returns-in-Settle-clause-tells : goal.returns-in-Settle-clause-tells
returns-in-Settle-clause-tells g c = (refl, refl)

pub returns-in-Some-clause-tells : goal.returns-in-Some-clause-tells
returns-in-Some-clause-tells g c = (refl, inr (refl, inl (ap (λ (u : LaneView). u.told) c.in-Some.ensures.0)))

pub returns-in-Done-clause-tells : goal.returns-in-Done-clause-tells
returns-in-Done-clause-tells g c = c.in-Done.ensures.tells

pub returns-in-Tried-clause-tells : goal.returns-in-Tried-clause-tells
returns-in-Tried-clause-tells g c = (refl, inl c.in-Tried.ensures.tells)

pub returns-in-Stopped-clause-tells : goal.returns-in-Stopped-clause-tells
returns-in-Stopped-clause-tells g c =
    let lane = g.O.Ops.lane in (
      refl,
      ends-stopped (c.args.source.now.begun + 1) (lane c.args.ops.now) (lane c.stopped.new.self) (lane c.stimulus-answer.new.ops) c.args.gate.now.steps.list c.stimulus-answer.new.gate.steps.list
          (ap (λ (u : LaneView). u.told) c.in_default-stopped.ensures.0) c.in-Stopped.ensures.tells,
    )

pub returns-in-Memory-clause-tells : goal.returns-in-Memory-clause-tells
returns-in-Memory-clause-tells g c =
    let lane = g.O.Ops.lane in (
      refl,
      ends-memory (c.args.source.now.begun + 1) (lane c.args.ops.now) (lane c.stopped.new.self) (lane c.stimulus-answer.new.ops) c.args.gate.now.steps.list c.stimulus-answer.new.gate.steps.list
          (ap (λ (u : LaneView). u.told) c.in_default-stopped.ensures.0) c.in-Memory.ensures.tells,
    )
