use Rattle.std.proofs.Common.{◌≡◌, ◌+◌, ◌++◌, ◌∙◌, ◌∷◌, [], ap, arith, false, refl, subst}
use Rattle.std.proofs.lemmas.Result.{err_from_is_err_and}
use Rattle.qp_model.specs.Told.{for_object, told_took}
use Rattle.qp_calls.specs.Clauses.{entry_of}
use Rattle.qp_calls.proofs.Growing.{gains-none, room-then}
use Rattle.qp_kernel_turns.specs.Halting.{asked_once}
use Rattle.qp_kernel_turns.proofs.Lanes.{asked-goes, goes-then, halts-lane}
use Rattle.qp_port_lanes.specs.Takes.{AddsEmpty, AddsNoTake}
use Rattle.qp_port_lanes.proofs.Takes.{empty-goes, empty-takes, no-take-halts}
use Rattle.qp_port_lanes.proofs.Beginning.{begun}
use Rattle.qp_port_lanes.proofs.Resting.{halts, object-room, resting-room, room-more, takes-none}
use Rattle.qp_port_lanes.proofs.Never.{never-halts, never-room, never-then, never-took}
use Rattle.qp_told.proofs.ToldLemmas.{tells-none, tells-one, tells-same}
use Rattle.qp_port_lanes.proofs.turning.begin_step.Goals as goal

pub returns-in_err-ready-clause-goes : goal.returns-in_err-ready-clause-goes
returns-in_err-ready-clause-goes g c =
    let p = err_from_is_err_and c.from_residual.result c.from_residual.ensures.1 in
    rw (p.1, p.2) (halts c.args.sys.now c.requires.sound c.args.budget c.args.home.now (g.O.Ops.lane c.args.ops.now) c.requires.knows (g.O.Ops.lane c.ready.new.ops) c.in_err-ready.field-0.0 c.in_err-ready.ensures)

pub returns-in_err-ready-clause-lane : goal.returns-in_err-ready-clause-lane
returns-in_err-ready-clause-lane g c =
    let p = err_from_is_err_and c.from_residual.result c.from_residual.ensures.1 in
    rw (p.1, p.2) (halts-lane false (g.O.Ops.lane c.args.ops.now) (g.O.Ops.lane c.ready.new.ops) c.in_err-ready.field-0.0 c.in_err-ready.ensures)

pub look_only-requires-clause-knows : goal.look_only-requires-clause-knows
look_only-requires-clause-knows g c =
    resting-room c.args.sys.now c.requires.sound c.args.budget c.args.home.now (g.O.Ops.lane c.args.ops.now) c.requires.knows (g.O.Ops.lane c.ready.new.ops) c.in_ok-ready.ensures.roomier

pub take-requires-clause-object : goal.take-requires-clause-object
take-requires-clause-object g c =
    let h = c.requires.knows in
    object-room c.args.sys.now h.d h.chart c.args.home.now (g.O.Ops.lane c.args.ops.now) (g.O.Ops.lane c.ready.new.ops) h.at c.in_ok-ready.ensures.roomier

pub returns-in-Taken-clause-goes : goal.returns-in-Taken-clause-goes
returns-in-Taken-clause-goes g c =
    let lane = g.O.Ops.lane in
    let sys = c.args.sys.now in
    let x = c.args.home.now in
    let h = resting-room sys c.requires.sound c.args.budget x (lane c.args.ops.now) c.requires.knows (lane c.ready.new.ops) c.in_ok-ready.ensures.roomier in
    begun sys c.requires.sound c.args.budget x (lane c.ready.new.ops) (lane c.take.new.self) c.in-Taken.e c.begin.new.self h (omega (arith, c.if-taken-budget.false, c.taken.ensures)) c.in-Taken.ensures c.begin.ensures
    (room-more sys c.requires.sound c.args.budget x (lane c.args.ops.now) c.requires.knows (lane c.ready.new.ops) c.in_ok-ready.ensures.roomier)

pub returns-in-Empty-clause-goes : goal.returns-in-Empty-clause-goes
returns-in-Empty-clause-goes g c =
    let lane = g.O.Ops.lane in
    let sys = c.args.sys.now in
    let x = c.args.home.now in
    let h = resting-room sys c.requires.sound c.args.budget x (lane c.args.ops.now) c.requires.knows (lane c.ready.new.ops) c.in_ok-ready.ensures.roomier in
    takes-none sys c.requires.sound c.args.budget x (lane c.ready.new.ops) h (lane c.take.new.self) c.in-Empty.f c.in-Empty.l c.in-Empty.m c.in-Empty.ensures

pub returns-in_err-ready-clause-never : goal.returns-in_err-ready-clause-never
returns-in_err-ready-clause-never g c =
    let p = err_from_is_err_and c.from_residual.result c.from_residual.ensures.1 in
    rw p.1 (never-halts (g.O.Ops.lane c.args.ops.now) (g.O.Ops.lane c.ready.new.ops) c.in_err-ready.field-0.0 c.in_err-ready.ensures)

pub returns-in_err-look_only-clause-never : goal.returns-in_err-look_only-clause-never
returns-in_err-look_only-clause-never g c =
    let lane = g.O.Ops.lane in
    let p = err_from_is_err_and c.from_residual-in_err-look_only.result c.from_residual-in_err-look_only.ensures.1 in
    rw p.1 (never-then (lane c.args.ops.now) (lane c.ready.new.ops) (lane c.look_only.new.ops) (never-room (lane c.args.ops.now) (lane c.ready.new.ops) c.in_ok-ready.ensures.roomier) c.in_err-look_only.ensures.never)

pub returns-in-Taken-clause-never : goal.returns-in-Taken-clause-never
returns-in-Taken-clause-never g c =
    let lane = g.O.Ops.lane in
    never-then (lane c.args.ops.now) (lane c.ready.new.ops) (lane c.take.new.self) (never-room (lane c.args.ops.now) (lane c.ready.new.ops) c.in_ok-ready.ensures.roomier)
    (never-took c.args.home.now.me c.in-Taken.e (lane c.ready.new.ops) (lane c.take.new.self) c.in-Taken.ensures)

pub returns-in_err-ready-clause-takes : goal.returns-in_err-ready-clause-takes
returns-in_err-ready-clause-takes g c =
    let p = err_from_is_err_and c.from_residual.result c.from_residual.ensures.1 in
    rw p.1 (no-take-halts (g.O.Ops.lane c.args.ops.now) (g.O.Ops.lane c.ready.new.ops) c.in_err-ready.field-0.0 c.in_err-ready.ensures, refl)

pub returns-in-Taken-clause-takes : goal.returns-in-Taken-clause-takes
returns-in-Taken-clause-takes g c =
    let lane = g.O.Ops.lane in
    let t = c.in-Taken.ensures in
    let item = for_object c.args.home.now.me (told_took t.f t.l t.m (entry_of c.in-Taken.e) ((lane c.take.new.self).event (entry_of c.in-Taken.e))) in
    record { t = item; told = subst (λ ts. (lane c.take.new.self).told ≡ ts ++ item ∷ []) (ap (λ u. u.told) c.in_ok-ready.ensures.roomier.same) t.adds.grows.told; took = refl }

pub returns-in-Empty-clause-takes : goal.returns-in-Empty-clause-takes
returns-in-Empty-clause-takes g c =
    let lane = g.O.Ops.lane in
    subst (λ ts. AddsEmpty c.args.home.now.me ts (lane c.take.new.self).told) (ap (λ u. u.told) c.in_ok-ready.ensures.roomier.same)
    (empty-takes c.args.home.now.me c.in-Empty.f c.in-Empty.l c.in-Empty.m (lane c.ready.new.ops) (lane c.take.new.self) c.in-Empty.ensures)

pub returns-in_err-look_only-clause-takes : goal.returns-in_err-look_only-clause-takes
returns-in_err-look_only-clause-takes g c =
    let p = err_from_is_err_and c.from_residual-in_err-look_only.result c.from_residual-in_err-look_only.ensures.1 in
    let takes = c.in_err-look_only.ensures.takes in
    rw p.1 (subst (λ ts. AddsNoTake ts (g.O.Ops.lane c.look_only.new.ops).told) (ap (λ u. u.told) c.in_ok-ready.ensures.roomier.same) takes.0, takes.1)

pub returns-then-taken-budget-clause-takes : goal.returns-then-taken-budget-clause-takes
returns-then-taken-budget-clause-takes g c =
    subst (λ ts. AddsEmpty c.args.home.now.me ts (g.O.Ops.lane c.look_only.new.ops).told) (ap (λ u. u.told) c.in_ok-ready.ensures.roomier.same) c.in_ok-look_only.ensures.takes

pub returns-in-Empty-clause-lane : goal.returns-in-Empty-clause-lane
returns-in-Empty-clause-lane g c =
    let lane = g.O.Ops.lane in
    let v = lane c.args.ops.now in
    let m = lane c.ready.new.ops in
    goes-then false v m (lane c.take.new.self) (asked-goes false [] v m (room-then [] (asked_once v) m m c.in_ok-ready.ensures.roomier (gains-none m)))
    (empty-goes c.args.home.now.me c.in-Empty.f c.in-Empty.l c.in-Empty.m m (lane c.take.new.self) c.in-Empty.ensures)

pub returns-in_err-ready-clause-unset : goal.returns-in_err-ready-clause-unset
returns-in_err-ready-clause-unset g c = let p = err_from_is_err_and c.from_residual.result c.from_residual.ensures.1 in rw p.1 tt

pub returns-in_err-look_only-clause-unset : goal.returns-in_err-look_only-clause-unset
returns-in_err-look_only-clause-unset g c = let p = err_from_is_err_and c.from_residual-in_err-look_only.result c.from_residual-in_err-look_only.ensures.1 in rw p.1 tt

pub returns-then-taken-budget-clause-unset : goal.returns-then-taken-budget-clause-unset
returns-then-taken-budget-clause-unset g c = c.in_ok-ready.ensures.unset

pub returns-in-Taken-clause-unset : goal.returns-in-Taken-clause-unset
returns-in-Taken-clause-unset g c = c.in_ok-ready.ensures.unset

pub returns-in-Empty-clause-unset : goal.returns-in-Empty-clause-unset
returns-in-Empty-clause-unset g c = c.in_ok-ready.ensures.unset

pub returns-in_err-ready-clause-tells : goal.returns-in_err-ready-clause-tells
returns-in_err-ready-clause-tells g c = tells-none c.args.home.now.object.taken c.args.gate.now.steps.list

pub returns-in_err-look_only-clause-tells : goal.returns-in_err-look_only-clause-tells
returns-in_err-look_only-clause-tells g c =
    tells-same c.args.home.now.object.taken c.look_only.new.home.object.taken c.args.gate.now.steps.list c.args.gate.now.steps.list c.in_err-look_only.ensures.kept refl

pub returns-then-taken-budget-clause-tells : goal.returns-then-taken-budget-clause-tells
returns-then-taken-budget-clause-tells g c =
    tells-same c.args.home.now.object.taken c.look_only.new.home.object.taken c.args.gate.now.steps.list c.args.gate.now.steps.list c.in_ok-look_only.ensures.kept refl

pub returns-in-Empty-clause-tells : goal.returns-in-Empty-clause-tells
returns-in-Empty-clause-tells g c = tells-none c.args.home.now.object.taken c.args.gate.now.steps.list

pub returns-in-Taken-clause-tells : goal.returns-in-Taken-clause-tells
returns-in-Taken-clause-tells g c =
    let next : c.begin.new.self.taken ≡ c.args.home.now.object.taken + 1 = ap (λ z. z.taken) c.begin.ensures in
    tells-one c.args.home.now.object.taken c.begin.new.self.taken c.args.gate.now.steps.list c.tells.new.self.steps.list next
    (c.tells.ensures ∙ ap (λ n. n ∷ c.args.gate.now.steps.list) (c.from.ensures ∙ c.taken-in-Taken.ensures))
