use Rattle.std.proofs.Common.{◌≡◌, ◌<◌, ◌+◌, ◌++◌, ◌∷◌, [], length, length-append, sym, ◌∙◌, ap, subst, arith, rules}
use Rattle.qp_model.specs.Record.{entry}
use Rattle.qp_model.specs.Told.{Event}
use Rattle.qp_calls.specs.LaneView.{LaneView}
use Rattle.qp_calls.specs.Clauses.{StandsHold}
use Rattle.qp_model.specs.Parts.{params_of}
use Rattle.qp_dispatch.proofs.ResumeLemmas.{event-parts, params-most, take-one, take-whole}
use Rattle.qp_dispatch.proofs.steps.read_block.Goals as goal

pub loop-j-init : goal.loop-j-init
loop-j-init g c = record { made = c.new-pars.ensures; count = ap length c.new-pars.ensures; still = c.sig-sig.ensures.stays }

pub par-requires-clause-stands : goal.par-requires-clause-stands
par-requires-clause-stands g c = subst (λ (v : LaneView). StandsHold c.args.h.now v) (sym c.loop-j.invariant.still) c.requires.stands

pub par-requires-clause-within : goal.par-requires-clause-within
par-requires-clause-within g c =
    let lane = g.O.Ops.lane in
    let ev : Event = (lane c.args.ops.now).event (entry c.args.h.now.pool c.args.h.now.block c.args.h.now.name) in
    let count : c.params-count.result ≡ length ev.pars =
    c.params-count.ensures ∙ ap (λ n. params_of c.args.sys.now n) c.sig-sig.ensures.value ∙ ap (λ s. params_of s ev.sig) (sym c.requires.of) ∙ sym c.sig-sig.ensures.event.params in
    let here : c.loop-j.j < length ev.pars = omega (arith, c.loop-j-test.true, count) in
    rw c.loop-j.invariant.still here

pub push-requires : goal.push-requires
push-requires g c =
    let few = params-most c.args.sys.now c.sig-sig.result c.requires.sound in
    let at : length c.loop-j.pars.items < 8 = omega (arith, c.loop-j-test.true, c.params-count.ensures, few, c.loop-j.invariant.count) in
    search (rules, at)

pub loop-j-preserved : goal.loop-j-preserved
loop-j-preserved g c =
    let lane = g.O.Ops.lane in
    let e = entry c.args.h.now.pool c.args.h.now.block c.args.h.now.name in
    let there = ap (λ (v : LaneView). (v.event e).pars) c.loop-j.invariant.still in
    record {
      made =
          c.push.ensures.items ∙ ap (λ xs. xs ++ c.par.result ∷ []) c.loop-j.invariant.made
          ∙ take-one ((lane c.args.ops.now).event e).pars c.loop-j.j c.par.result (rw there at c.par.ensures.value);
      count = rw c.push.ensures.items (simp length-append (ap (λ n. n + 1) c.loop-j.invariant.count));
      still = c.par.ensures.stays ∙ c.loop-j.invariant.still;
    }

pub returns-clause-event : goal.returns-clause-event
returns-clause-event g c =
    let lane = g.O.Ops.lane in
    let ev : Event = (lane c.args.ops.now).event (entry c.args.h.now.pool c.args.h.now.block c.args.h.now.name) in
    let count : c.params-count.result ≡ length ev.pars =
    c.params-count.ensures ∙ ap (λ n. params_of c.args.sys.now n) c.sig-sig.ensures.value ∙ ap (λ s. params_of s ev.sig) (sym c.requires.of) ∙ sym c.sig-sig.ensures.event.params in
    let end : length ev.pars ≡ c.loop-j.j = omega (arith, c.loop-j-test.false, c.loop-j.auto.j-end, count) in
    event-parts ev c.sig-sig.result c.loop-j.pars.items c.sig-sig.ensures.value (c.loop-j.invariant.made ∙ take-whole ev.pars c.loop-j.j end)

pub returns-clause-stays : goal.returns-clause-stays
returns-clause-stays g c = c.loop-j.invariant.still
