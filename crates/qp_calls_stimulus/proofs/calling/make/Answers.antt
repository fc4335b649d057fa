use Rattle.std.proofs.Common.{Ok, refl, subst}
use Rattle.std.proofs.lemmas.Result.{err_from_is_err_and}
use Rattle.qp_model.specs.declared.stimulus.Stim.{Stim}
use Rattle.qp_model.specs.declared.stimulus.Stim.TheVariants as stim
use Rattle.qp_model.specs.Calls as call
use Rattle.qp_stim.specs.Rules.{StimulusFits}
use Rattle.qp_calls_stimulus.specs.Settling.{SettlesTo}
use Rattle.qp_calls_stimulus.specs.declared.settling.Sight.{Sight}
use Rattle.qp_calls_stimulus.proofs.Called.{answered, answers-here, fits-event, fits-object, fits-reserve, made, post-fits, publish-fits, settled, ticked}
use Rattle.qp_calls_stimulus.proofs.Completing.{cut-here, post-cut, publish-cut, settle-is_cut, tick-cut}
use Rattle.qp_calls_stimulus.proofs.calling.make.Goals as goal

pub post-requires-clause-object : goal.post-requires-clause-object
post-requires-clause-object g c =
    fits-object c.args.sys.now c.in-Post.to c.in-Post.ev c.in-Post.margin c.in-Post.reserve (subst (λ (s : Stim). StimulusFits c.args.sys.now s) c.in-Post.is c.requires.fits)

pub post-requires-clause-event : goal.post-requires-clause-event
post-requires-clause-event g c =
    let fits = subst (λ (s : Stim). StimulusFits c.args.sys.now s) c.in-Post.is c.requires.fits in
    fits-event c.args.sys.now c.in-Post.ev c.in-Post.reserve fits.event

pub post-requires-clause-reserve : goal.post-requires-clause-reserve
post-requires-clause-reserve g c =
    let fits = subst (λ (s : Stim). StimulusFits c.args.sys.now s) c.in-Post.is c.requires.fits in
    fits-reserve c.args.sys.now c.in-Post.ev c.in-Post.reserve fits.event

pub returns-in_err-post-in-Post : goal.returns-in_err-post-in-Post
returns-in_err-post-in-Post g c =
    let p = err_from_is_err_and c.from_residual.result c.from_residual.ensures.1 in
    let e = c.in_err-post-in-Post.ensures in
    let fits = subst (λ (s : Stim). StimulusFits c.args.sys.now s) c.in-Post.is c.requires.fits in
    rw (p.1, p.2, c.in-Post.is)
    (cut-here c.in_err-post-in-Post.field-0.0 _ _ e.0 e.1
    (post-cut c.args.sys.now c.in-Post.to c.in-Post.ev c.in-Post.margin c.in-Post.reserve _ _ c.requires.sound (fits-event c.args.sys.now c.in-Post.ev c.in-Post.reserve fits.event) e.0))

pub publish-requires-clause-event : goal.publish-requires-clause-event
publish-requires-clause-event g c =
    fits-event c.args.sys.now c.in-Publish.ev c.in-Publish.reserve (subst (λ (s : Stim). StimulusFits c.args.sys.now s) c.in-Publish.is c.requires.fits)

pub returns-in_err-publish-in-Publish : goal.returns-in_err-publish-in-Publish
returns-in_err-publish-in-Publish g c =
    let p = err_from_is_err_and c.from_residual-in_err-publish-in-Publish.result c.from_residual-in_err-publish-in-Publish.ensures.1 in
    let e = c.in_err-publish-in-Publish.ensures in
    rw (p.1, p.2, c.in-Publish.is) (publish-cut c.args.sys.now c.in-Publish.ev c.in-Publish.reserve _ _ c.requires.of e.0, e.1)

pub returns-in_err-tick_rate-in-Tick : goal.returns-in_err-tick_rate-in-Tick
returns-in_err-tick_rate-in-Tick g c =
    let p = err_from_is_err_and c.from_residual-in_err-tick_rate-in-Tick.result c.from_residual-in_err-tick_rate-in-Tick.ensures.1 in
    let e = c.in_err-tick_rate-in-Tick.ensures in
    rw (p.1, p.2, c.in-Tick.is) (tick-cut c.args.sys.now c.in-Tick.rate _ _ c.requires.of c.requires.none e.0, e.1)

pub returns-in_err-settle-in-Settle : goal.returns-in_err-settle-in-Settle
returns-in_err-settle-in-Settle g c =
    let p = err_from_is_err_and c.from_residual-in_err-settle-in-Settle.result c.from_residual-in_err-settle-in-Settle.ensures.1 in
    let e = c.in_err-settle-in-Settle.ensures in
    rw (p.1, p.2, c.in-Settle.is) (settle-is_cut c.args.sys.now _ _ e.0, e.1)

pub returns-in_ok-post-in-Post : goal.returns-in_ok-post-in-Post
returns-in_ok-post-in-Post g c =
    let x = call.Post c.in-Post.to c.in-Post.ev.sig c.in-Post.ev.pars.items c.in-Post.margin c.in-Post.reserve in
    let d = c.in_ok-post-in-Post.field-0 in
    made c.args.sys.now c.args.s.now (stim.Post c.in-Post.to c.in-Post.ev c.in-Post.margin c.in-Post.reserve) d c.outcome.result _ _ c.in-Post.is c.outcome.ensures
    (answered c.args.sys.now (stim.Post c.in-Post.to c.in-Post.ev c.in-Post.margin c.in-Post.reserve) x _ _ (post-fits c.args.sys.now c.in-Post.to c.in-Post.ev c.in-Post.margin c.in-Post.reserve) d
    (answers-here c.args.sys.now x d _ _ _ c.requires.of c.requires.none c.in_ok-post-in-Post.ensures))

pub returns-in_ok-publish-in-Publish : goal.returns-in_ok-publish-in-Publish
returns-in_ok-publish-in-Publish g c =
    let x = call.Publish c.in-Publish.ev.sig c.in-Publish.ev.pars.items c.in-Publish.reserve in
    let d = c.in_ok-publish-in-Publish.field-0 in
    made c.args.sys.now c.args.s.now (stim.Publish c.in-Publish.ev c.in-Publish.reserve) d c.outcome-in-Publish.result _ _ c.in-Publish.is c.outcome-in-Publish.ensures
    (answered c.args.sys.now (stim.Publish c.in-Publish.ev c.in-Publish.reserve) x _ _ (publish-fits c.args.sys.now c.in-Publish.ev c.in-Publish.reserve) d
    (answers-here c.args.sys.now x d 0 _ _ c.requires.of refl c.in_ok-publish-in-Publish.ensures))

pub returns-in_ok-tick_rate-in-Tick : goal.returns-in_ok-tick_rate-in-Tick
returns-in_ok-tick_rate-in-Tick g c =
    let d = c.in_ok-tick_rate-in-Tick.field-0 in
    made c.args.sys.now c.args.s.now (stim.Tick c.in-Tick.rate) d c.outcome-in-Tick.result _ _ c.in-Tick.is c.outcome-in-Tick.ensures
    (ticked c.args.sys.now c.in-Tick.rate d _ _ c.requires.of c.requires.none c.in_ok-tick_rate-in-Tick.ensures)

pub returns-in-Empty : goal.returns-in-Empty
returns-in-Empty g c =
    settled c.args.sys.now c.args.s.now _ _ c.in-Settle.is
    (subst (λ (x : Sight). SettlesTo c.args.sys.now (g.O.Ops.lane c.args.ops.now) (g.O.Ops.lane c.settle.new.ops) (Ok x)) c.in-Empty.is c.in_ok-settle-in-Settle.ensures)

pub returns-in-Entry : goal.returns-in-Entry
returns-in-Entry g c = (
  c.in-Settle.is,
  (subst (λ (x : Sight). SettlesTo c.args.sys.now (g.O.Ops.lane c.args.ops.now) (g.O.Ops.lane c.settle.new.ops) (Ok x)) c.in-Entry.is c.in_ok-settle-in-Settle.ensures).0,
)
