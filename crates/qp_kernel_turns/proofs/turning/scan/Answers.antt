use Rattle.std.proofs.Common.{◌≡◌, ◌+◌, ◌-◌, ◌∙◌, Ok, ap, arith, refl, subst, sym}
use Rattle.qp_kernel_turns.specs.BaseRows.{InRow}
use Rattle.qp_kernel_turns.specs.Knowing.{IsScanning}
use Rattle.qp_kernel_turns.specs.Ordering.{AreSeenEmpty, PassedInOrder, VisitsInOrder}
use Rattle.qp_kernel_turns.specs.Turning.{Passed, Stood, VisitsTo, row_below, stand_of, terms_of}
use Rattle.qp_kernel_turns.specs.Counting.{BeginsFound}
use Rattle.qp_kernel_turns.specs.TurnRows.{VisitsRow}
use Rattle.qp_kernel_turns.proofs.Asking.{asks-none, asks-then}
use Rattle.qp_kernel_turns.proofs.Counting.{begin-none}
use Rattle.qp_kernel_turns.proofs.Lanes.{goes-none, goes-then, halts-then}
use Rattle.std.proofs.lemmas.Result.{err_from_is_err_and}
use Rattle.qp_kernel_turns.proofs.Ordered.{seen-none}
use Rattle.qp_kernel_turns.proofs.Rows.{row-whole}
use Rattle.qp_kernel_turns.proofs.Rounds.{onward-none, onward-then, row-none}
use Rattle.qp_told.proofs.ToldLemmas.{tells-none, tells-then}
use Rattle.qp_kernel_turns.proofs.turning.scan.Goals as goal

pub loop-place-init : goal.loop-place-init
loop-place-init g c =
    let sys = c.args.at.now.sys.now in
    let all = ap (row_below sys c.args.floor) c.count-many.ensures ∙ row-whole sys c.args.floor in
    record {
      passed = record {
        looks = refl;
        stack = refl;
        knows = subst (λ ps. Stood (IsScanning sys (terms_of c.args.at.now) ps) sys (terms_of c.args.at.now) (stand_of c.args.kernel.now c.args.objects.now (g.W.Ops.lane c.args.world.now))) (sym all) c.requires.knows;
        onward = onward-none c.args.objects.now (g.W.Ops.lane c.args.world.now);
        lanes = refl;
      };
      order = record {
        order = c.requires.order;
        none = λ base acting h. h;
        empty = seen-none sys c.args.floor _ (g.W.Ops.lane c.args.world.now) (omega (arith, c.count-many.ensures));
        stays = λ p h. h;
      };
      lane = goes-none g.W.World.acts (g.W.Ops.lane c.args.world.now);
      begun = begin-none c.args.kernel.now c.args.objects.now;
      tells = tells-none c.args.kernel.now.steps c.args.gate.now.steps.list;
      asks = asks-none g.W.World.acts c.args.kernel.now (g.W.Ops.lane c.args.world.now);
      rows = λ u row. subst (λ ps. InRow sys (terms_of c.args.at.now) ps u (g.W.Ops.lane c.args.world.now)) (sym all) row;
    }

pub visit-requires-clause-knows : goal.visit-requires-clause-knows
visit-requires-clause-knows g c =
    let sys = c.args.at.now.sys.now in
    let same : c.loop-place.place ≡ c.loop-place.place - 1 + 1 = omega (arith, c.loop-place-test.true) in
    subst (λ m. Stood (IsScanning sys (terms_of c.args.at.now) (row_below sys c.args.floor m)) sys (terms_of c.args.at.now) (stand_of c.loop-place.kernel c.loop-place.objects (g.W.Ops.lane c.loop-place.world))) same c.loop-place.invariant.passed.knows

pub visit-requires-clause-seen : goal.visit-requires-clause-seen
visit-requires-clause-seen g c =
    let sys = c.args.at.now.sys.now in
    let same : c.loop-place.place ≡ c.loop-place.place - 1 + 1 = omega (arith, c.loop-place-test.true) in
    subst (λ m. AreSeenEmpty sys c.args.floor m (g.W.Ops.lane c.loop-place.world)) same c.loop-place.invariant.order.empty

pub returns : goal.returns
returns g c =
    let sys = c.args.at.now.sys.now in
    let lane = g.W.Ops.lane in
    let none : c.loop-place.place ≡ 0 = omega arith in
    let all = ap (row_below sys c.args.floor) none ∙ row-none sys c.args.floor in
    record {
      goes =
          subst (λ ps. Passed ps sys (terms_of c.args.at.now) (stand_of c.args.kernel.now c.args.objects.now (lane c.args.world.now)) (stand_of c.loop-place.kernel c.loop-place.objects (lane c.loop-place.world))) all c.loop-place.invariant.passed;
      order =
          subst (λ m. PassedInOrder g.W.World.acts sys c.args.floor m (stand_of c.args.kernel.now c.args.objects.now (lane c.args.world.now)) (stand_of c.loop-place.kernel c.loop-place.objects (lane c.loop-place.world))) none c.loop-place.invariant.order;
      rests = tt;
      lane = c.loop-place.invariant.lane;
      begun = c.loop-place.invariant.begun;
      tells = c.loop-place.invariant.tells;
      asks = c.loop-place.invariant.asks;
      rows = λ u row. subst (λ ps. InRow sys (terms_of c.args.at.now) ps u (lane c.loop-place.world)) all (c.loop-place.invariant.rows u row);
    }

pub returns-in_err-visit-clause-lane : goal.returns-in_err-visit-clause-lane
returns-in_err-visit-clause-lane g c =
    let lane = g.W.Ops.lane in
    let p = err_from_is_err_and c.from_residual.result c.from_residual.ensures.1 in
    rw (p.1, p.2)
    (halts-then g.W.World.acts (lane c.args.world.now) (lane c.loop-place.world) (lane c.visit.new.world) c.in_err-visit.field-0.0 c.loop-place.invariant.lane c.in_err-visit.ensures.lane)

pub returns-in_err-visit-clause-rows : goal.returns-in_err-visit-clause-rows
returns-in_err-visit-clause-rows g c =
    let sys = c.args.at.now.sys.now in
    let lane = g.W.Ops.lane in
    let p = err_from_is_err_and c.from_residual.result c.from_residual.ensures.1 in
    let same : c.loop-place.place ≡ c.loop-place.place - 1 + 1 = omega (arith, c.loop-place-test.true) in
    rw (p.1, p.2)
    (λ u row. c.in_err-visit.ensures.rows u (subst (λ m. InRow sys (terms_of c.args.at.now) (row_below sys c.args.floor m) u (lane c.loop-place.world)) same (c.loop-place.invariant.rows u row)))

pub returns-then-branch-clause-rows : goal.returns-then-branch-clause-rows
returns-then-branch-clause-rows g c =
    let sys = c.args.at.now.sys.now in
    let lane = g.W.Ops.lane in
    let same : c.loop-place.place ≡ c.loop-place.place - 1 + 1 = omega (arith, c.loop-place-test.true) in
    let rows = rw c.if-branch.true at c.in_ok-visit.ensures.rows in
    λ u row. rows u (subst (λ m. InRow sys (terms_of c.args.at.now) (row_below sys c.args.floor m) u (lane c.loop-place.world)) same (c.loop-place.invariant.rows u row))

pub returns-then-branch-clause-lane : goal.returns-then-branch-clause-lane
returns-then-branch-clause-lane g c =
    let lane = g.W.Ops.lane in
    goes-then g.W.World.acts (lane c.args.world.now) (lane c.loop-place.world) (lane c.visit.new.world) c.loop-place.invariant.lane c.in_ok-visit.ensures.lane

pub loop-place-preserved : goal.loop-place-preserved
loop-place-preserved g c =
    let sys = c.args.at.now.sys.now in
    let terms = terms_of c.args.at.now in
    let lane = g.W.Ops.lane in
    let floor = c.args.floor in
    let place = c.loop-place.place - 1 in
    let v = lane c.loop-place.world in
    let w = lane c.visit.new.world in
    let before = stand_of c.loop-place.kernel c.loop-place.objects v in
    let behind = stand_of c.visit.new.kernel c.visit.new.objects w in
    let so_far = c.loop-place.invariant in
    let same : c.loop-place.place ≡ place + 1 = omega (arith, c.loop-place-test.true) in
    let goes = subst (λ b. VisitsTo (row_below sys floor place) sys terms before behind (Ok b)) c.if-branch.false c.in_ok-visit.ensures.goes in
    let order = subst (λ b. VisitsInOrder g.W.World.acts sys floor place before behind (Ok b)) c.if-branch.false c.in_ok-visit.ensures.order in
    let begun = subst (λ b. BeginsFound c.loop-place.kernel c.visit.new.kernel c.loop-place.objects c.visit.new.objects (Ok b)) c.if-branch.false c.in_ok-visit.ensures.begun in
    let rows = subst (λ b. VisitsRow sys terms (row_below sys floor (place + 1)) (row_below sys floor place) v w (Ok b)) c.if-branch.false c.in_ok-visit.ensures.rows in
    let steps = begun.steps in
    let taken = begun.taken in
    let steps_so_far = so_far.begun.steps in
    let taken_so_far = so_far.begun.taken in
    record {
      passed = record {
        looks = goes.looks ∙ so_far.passed.looks;
        stack = goes.stack ∙ so_far.passed.stack;
        knows = goes.knows;
        onward = onward-then c.args.objects.now (lane c.args.world.now) c.loop-place.objects v c.visit.new.objects w so_far.passed.onward goes.onward;
        lanes = goes.lanes ∙ so_far.passed.lanes;
      };
      order = record {
        order = order.order;
        none = λ base acting h. order.none base acting (so_far.order.none base acting h);
        empty = order.empty;
        stays = λ p h. order.stays p (so_far.order.stays p h);
      };
      lane = goes-then g.W.World.acts (lane c.args.world.now) v w so_far.lane c.in_ok-visit.ensures.lane;
      begun = record { steps = omega (arith, steps, steps_so_far); taken = omega (arith, taken, taken_so_far) };
      tells = tells-then c.args.kernel.now.steps c.loop-place.kernel.steps c.visit.new.kernel.steps c.args.gate.now.steps.list c.loop-place.gate.steps.list c.visit.new.gate.steps.list so_far.tells c.in_ok-visit.ensures.tells;
      asks = asks-then g.W.World.acts c.args.kernel.now c.loop-place.kernel c.visit.new.kernel (lane c.args.world.now) v w so_far.asks c.in_ok-visit.ensures.asks;
      rows = λ u row. rows u (subst (λ m. InRow sys terms (row_below sys floor m) u v) same (so_far.rows u row));
    }

pub returns-in_err-visit-clause-tells : goal.returns-in_err-visit-clause-tells
returns-in_err-visit-clause-tells g c =
    tells-then c.args.kernel.now.steps c.loop-place.kernel.steps c.visit.new.kernel.steps c.args.gate.now.steps.list c.loop-place.gate.steps.list c.visit.new.gate.steps.list c.loop-place.invariant.tells c.in_err-visit.ensures.tells

pub returns-then-branch-clause-tells : goal.returns-then-branch-clause-tells
returns-then-branch-clause-tells g c =
    tells-then c.args.kernel.now.steps c.loop-place.kernel.steps c.visit.new.kernel.steps c.args.gate.now.steps.list c.loop-place.gate.steps.list c.visit.new.gate.steps.list c.loop-place.invariant.tells c.in_ok-visit.ensures.tells

pub returns-in_err-visit-clause-asks : goal.returns-in_err-visit-clause-asks
returns-in_err-visit-clause-asks g c =
    let lane = g.W.Ops.lane in
    asks-then g.W.World.acts c.args.kernel.now c.loop-place.kernel c.visit.new.kernel (lane c.args.world.now) (lane c.loop-place.world) (lane c.visit.new.world) c.loop-place.invariant.asks c.in_err-visit.ensures.asks

pub returns-then-branch-clause-asks : goal.returns-then-branch-clause-asks
returns-then-branch-clause-asks g c =
    let lane = g.W.Ops.lane in
    asks-then g.W.World.acts c.args.kernel.now c.loop-place.kernel c.visit.new.kernel (lane c.args.world.now) (lane c.loop-place.world) (lane c.visit.new.world) c.loop-place.invariant.asks c.in_ok-visit.ensures.asks
