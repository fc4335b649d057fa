use Rattle.std.proofs.Common.{◌≡◌, rules, refl, None, [], ◌∷◌, ◌∙◌, sym, subst}
use Rattle.std.specs.Prelude.{ℤ, pos}
use Rattle.std.specs.Int.{w64}
use mir.Val.{SFits, of_z, to_z}
use Rattle.std.proofs.lemmas.Int.{to_z-of_z}
use Rattle.qp_chart.specs.Task as task
use Rattle.qp_chart.specs.declared.actions.Plain.TheVariants as action
use Rattle.qp_model.specs.Pieces.{Point}
use Rattle.qp_calls.specs.Clauses.{event_of}
use Rattle.qp_calls.specs.declared.did.Did.TheVariants as did
use Rattle.qp_dispatch.specs.Lasts.{moment_of_work}
use Rattle.qp_dispatch.specs.Parts.{PartGoes}
use Rattle.qp_dispatch.proofs.Naming.{event-few, event-is, publish-event}
use Rattle.qp_dispatch.proofs.PartLemmas.{cut-still}
use Rattle.qp_dispatch.proofs.PublishLemmas.{asserts-publish, begun-did, begun-going, goes-publish, goes-refused, publish-deed}
use Rattle.qp_dispatch.proofs.publication.publish.Goals as goal

pub event-ev-requires : goal.event-ev-requires
event-ev-requires g c =
    let p = action.Publish c.args.sig c.args.pars.now c.args.reserve in
    event-few c.args.sys.now c.args.me c.args.work.now.entry p c.requires.may c.args.sig c.args.pars.now c.args.reserve _
    (publish-event c.args.sys.now c.args.me c.args.work.now.entry p c.requires.may c.args.sig c.args.pars.now c.args.reserve refl) (c.as_slice.ensures.value ∙ c.pars.view_is)

pub publish_begin-requires-clause-event : goal.publish_begin-requires-clause-event
publish_begin-requires-clause-event g c =
    let p = action.Publish c.args.sig c.args.pars.now c.args.reserve in
    event-is c.args.sys.now c.args.me c.args.work.now.entry p c.requires.may c.args.sig c.args.pars.now c.args.reserve _ _ _
    (publish-event c.args.sys.now c.args.me c.args.work.now.entry p c.requires.may c.args.sig c.args.pars.now c.args.reserve refl) (c.as_slice.ensures.value ∙ c.pars.view_is) c.event-ev.ensures

pub returns-in-Err : goal.returns-in-Err
returns-in-Err g c =
    rw c.requires.none
    (cut-still c.args.me (moment_of_work c.args.work.now) (task.Do (action.Publish c.args.sig c.args.pars.now c.args.reserve) ∷ []) c.args.lasting.now None c.in-Err.fault _ _ c.in-Err.ensures)

pub returns-in-Ok-Did-Assert : goal.returns-in-Ok-Did-Assert
returns-in-Ok-Did-Assert g c =
    let deed = publish-deed c.args.me c.args.lasting.now c.args.work.now c.args.sig c.args.pars.now _ c.args.reserve _ (event_of c.event-ev.result) (c.as_slice.ensures.value ∙ c.pars.view_is) c.surroundings.ensures c.event-ev.ensures in
    let lane = g.O.Ops.lane in
    let a = c.in-Ok-Did-Assert in
    rw c.requires.none
    (asserts-publish c.args.me c.args.lasting.now c.args.work.now c.args.sig c.args.pars.now c.args.reserve (event_of c.event-ev.result) (lane c.args.ops.now) (lane c.publish_begin.new.ops) deed c.requires.mine
    c.requires.may.home.some a.code
    (begun-did (event_of c.event-ev.result) c.args.reserve c.args.ceiling.now a.field-0 a.field-0-0 (did.Assert a.code) (lane c.args.ops.now) (lane c.publish_begin.new.ops) a.field-0-is a.field-0-0-is a.ensures))

pub returns-in-Ok-Did-Value : goal.returns-in-Ok-Did-Value
returns-in-Ok-Did-Value g c =
    let lane = g.O.Ops.lane in
    let deed = publish-deed c.args.me c.args.lasting.now c.args.work.now c.args.sig c.args.pars.now _ c.args.reserve _ (event_of c.event-ev.result) (c.as_slice.ensures.value ∙ c.pars.view_is) c.surroundings.ensures c.event-ev.ensures in
    let a = c.in-Ok-Did-Value in
    let fits : SFits w64 c.from-lasting.result = search rules in
    let ok : to_z w64 (of_z w64 c.from-lasting.result) ≡ pos c.in-Ok-Did-Value.n = to_z-of_z w64 c.from-lasting.result fits ∙ c.from-lasting.ensures in
    let done =
    goes-refused c.args.me c.args.lasting.now c.args.work.now c.args.sig c.args.pars.now c.args.reserve (event_of c.event-ev.result) (lane c.args.ops.now) (lane c.publish_begin.new.ops) deed c.requires.mine
    c.requires.may.home.some c.args.ceiling.now a.n
    (begun-did (event_of c.event-ev.result) c.args.reserve c.args.ceiling.now a.field-0 a.field-0-0 (did.Value a.n) (lane c.args.ops.now) (lane c.publish_begin.new.ops) a.field-0-is a.field-0-0-is a.ensures) in
    rw c.requires.none
    (subst (λ (z : ℤ). PartGoes c.args.me (moment_of_work c.args.work.now) (task.Do (action.Publish c.args.sig c.args.pars.now c.args.reserve) ∷ []) (Point ∷ []) c.args.ceiling.now c.args.ceiling.now c.args.lasting.now None
    (record c.args.lasting.now { ok = z }) None (lane c.args.ops.now) (lane c.publish_begin.new.ops)) (sym ok) done)

pub returns-in-Ok-Going : goal.returns-in-Ok-Going
returns-in-Ok-Going g c =
    let lane = g.O.Ops.lane in
    let deed = publish-deed c.args.me c.args.lasting.now c.args.work.now c.args.sig c.args.pars.now _ c.args.reserve _ (event_of c.event-ev.result) (c.as_slice.ensures.value ∙ c.pars.view_is) c.surroundings.ensures c.event-ev.ensures in
    rw (c.unwrap_or.ensures, c.ceiling.ensures)
    (goes-publish c.args.me c.args.lasting.now c.args.work.now c.args.sig c.args.pars.now c.args.reserve (event_of c.event-ev.result) (lane c.args.ops.now) (lane c.publish_begin.new.ops) deed c.requires.mine
    c.requires.may.home.some c.in-Ok-Going.publication c.args.ceiling.now
    (begun-going (event_of c.event-ev.result) c.args.reserve c.args.ceiling.now c.in-Ok-Going.publication c.in-Ok-Going.field-0 (lane c.args.ops.now) (lane c.publish_begin.new.ops) c.in-Ok-Going.field-0-is c.in-Ok-Going.ensures))
