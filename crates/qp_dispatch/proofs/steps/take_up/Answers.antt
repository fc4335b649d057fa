use Rattle.std.proofs.Common.{[], ◌∷◌, ◌++◌, Some, refl, sym, subst, append-nil}
use Rattle.qp_chart.specs.Expr.{names_in}
use Rattle.qp_model.proofs.AbleLemmas.{step-able}
use Rattle.qp_calls.specs.Deferring.{StandAll}
use Rattle.qp_dispatch.proofs.PartLemmas.{stand-in}
use Rattle.qp_dispatch.proofs.ResumeLemmas.{whole-left}
use Rattle.qp_dispatch.proofs.steps.take_up.Goals as goal

pub read-ev-requires-clause-stands : goal.read-ev-requires-clause-stands
read-ev-requires-clause-stands g c = stand-in c.args.lasting.now.list.entries.items c.args.e [] (g.O.Ops.lane c.args.ops.now) c.requires.taken.stand

pub returns-clause-going : goal.returns-clause-going
returns-clause-going g c =
    let home = c.args.home.now in
    let list = c.args.lasting.now.list.entries.items in
    record {
      hand = c.args.e;
      is = refl;
      may = rw c.step-leaf.ensures.tasks (c.requires.ready.steps c.args.e c.args.lasting.now.leaf (names_in c.surroundings.result) c.read-ev.result.sig);
      able = rw c.step-leaf.ensures.tasks (step-able home.sys.now home.chart.now c.requires.ready.able c.args.lasting.now.leaf (names_in c.surroundings.result) c.read-ev.result.sig);
      publishing = tt;
      stand = subst (λ es. StandAll (es ++ c.args.e ∷ []) (g.O.Ops.lane c.args.ops.now)) (sym (append-nil list)) c.requires.taken.stand;
      few = c.requires.taken.few;
    }

pub returns-clause-left : goal.returns-clause-left
returns-clause-left g c =
    let home = c.args.home.now in
    whole-left home.me home.chart.now c.args.lasting.now (record { ev = c.read-ev.result; entry = Some c.args.e }) _ _ (names_in c.surroundings.result) _ c.surroundings.ensures c.read-ev.ensures.event
    c.step-leaf.ensures.tasks c.step-leaf.ensures.leaf
