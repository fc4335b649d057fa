use Rattle.std.proofs.Common.{◌≡◌, Some, ap, refl, ◌∙◌}
use Rattle.qp_chart.specs.declared.actions.Plain.TheVariants as action
use Rattle.qp_model.specs.Calls as call
use Rattle.qp_calls.specs.Clauses.{entry_of, event_of}
use Rattle.qp_dispatch.specs.Lasts.{entry_in, names_at}
use Rattle.qp_dispatch.proofs.Naming.{declared-here, event-few, event-is, event-reserve, forward-hand, forward-to, defer-hand, lifo-event, object-here, post-event, post-to, subscribe-signal, unsubscribe-signal}
use Rattle.qp_dispatch.proofs.CallLemmas.{bare-call, call-alone, call-done, call-flush, call-list, call-now, call-other, defer-deed, flush-deed, forward-call, lifo-call, no-entry, post-call, recall-deed, subscribe-deed, time-call, timing-left, unsubscribe-deed}
use Rattle.qp_dispatch.proofs.calling.call.Goals as goal

pub event-ev-requires : goal.event-ev-requires
event-ev-requires g c =
    let m = c.requires.may in
    event-few c.args.sys.now c.args.me c.args.work.now.entry c.args.plain.now m c.in-Post.sig c.in-Post.pars c.in-Post.reserve _
    (post-event c.args.sys.now c.args.me c.args.work.now.entry c.args.plain.now m c.in-Post.to c.in-Post.sig c.in-Post.pars c.in-Post.margin c.in-Post.reserve c.in-Post.is)
    (c.as_slice.ensures.value ∙ c.pars.view_is)

pub post-requires-clause-object : goal.post-requires-clause-object
post-requires-clause-object g c =
    post-to c.args.sys.now c.args.me c.args.work.now.entry c.args.plain.now c.requires.may c.in-Post.to c.in-Post.sig c.in-Post.pars c.in-Post.margin c.in-Post.reserve c.receiver.result c.in-Post.is
    c.receiver.ensures

pub post-requires-clause-event : goal.post-requires-clause-event
post-requires-clause-event g c =
    event-is c.args.sys.now c.args.me c.args.work.now.entry c.args.plain.now c.requires.may c.in-Post.sig c.in-Post.pars c.in-Post.reserve _ _ _
    (post-event c.args.sys.now c.args.me c.args.work.now.entry c.args.plain.now c.requires.may c.in-Post.to c.in-Post.sig c.in-Post.pars c.in-Post.margin c.in-Post.reserve c.in-Post.is)
    (c.as_slice.ensures.value ∙ c.pars.view_is) c.event-ev.ensures

pub post-requires-clause-reserve : goal.post-requires-clause-reserve
post-requires-clause-reserve g c =
    event-reserve c.args.sys.now c.args.me c.args.work.now.entry c.args.plain.now c.requires.may c.in-Post.sig c.in-Post.pars c.in-Post.reserve _ (event_of c.event-ev.result)
    (post-event c.args.sys.now c.args.me c.args.work.now.entry c.args.plain.now c.requires.may c.in-Post.to c.in-Post.sig c.in-Post.pars c.in-Post.margin c.in-Post.reserve c.in-Post.is)
    c.event-ev.ensures

pub event-ev-requires-in-Lifo : goal.event-ev-requires-in-Lifo
event-ev-requires-in-Lifo g c =
    event-few c.args.sys.now c.args.me c.args.work.now.entry c.args.plain.now c.requires.may c.in-Lifo.sig c.in-Lifo.pars c.in-Lifo.reserve _
    (lifo-event c.args.sys.now c.args.me c.args.work.now.entry c.args.plain.now c.requires.may c.in-Lifo.sig c.in-Lifo.pars c.in-Lifo.reserve c.in-Lifo.is)
    (c.as_slice-in-Lifo.ensures.value ∙ c.pars-in-Lifo.view_is)

pub lifo_new-requires-clause-event : goal.lifo_new-requires-clause-event
lifo_new-requires-clause-event g c =
    event-is c.args.sys.now c.args.me c.args.work.now.entry c.args.plain.now c.requires.may c.in-Lifo.sig c.in-Lifo.pars c.in-Lifo.reserve _ _ _
    (lifo-event c.args.sys.now c.args.me c.args.work.now.entry c.args.plain.now c.requires.may c.in-Lifo.sig c.in-Lifo.pars c.in-Lifo.reserve c.in-Lifo.is)
    (c.as_slice-in-Lifo.ensures.value ∙ c.pars-in-Lifo.view_is) c.event-ev-in-Lifo.ensures

pub forward-requires-clause-object : goal.forward-requires-clause-object
forward-requires-clause-object g c =
    object-here c.args.sys.now _ c.receiver-in-Some.result c.requires.of
    (forward-to c.args.sys.now c.args.me c.args.work.now.entry c.args.plain.now c.requires.may c.in-Forward.to c.in-Forward.margin c.receiver-in-Some.result c.in-Forward.is c.receiver-in-Some.ensures)

pub subscribe-requires-clause-signal : goal.subscribe-requires-clause-signal
subscribe-requires-clause-signal g c =
    declared-here c.args.sys.now _ c.in-Subscribe.sig c.requires.of (subscribe-signal c.args.sys.now c.args.me c.args.work.now.entry c.args.plain.now c.requires.may c.in-Subscribe.sig c.in-Subscribe.is)

pub unsubscribe-requires-clause-signal : goal.unsubscribe-requires-clause-signal
unsubscribe-requires-clause-signal g c =
    declared-here c.args.sys.now _ c.in-Unsubscribe.sig c.requires.of
    (unsubscribe-signal c.args.sys.now c.args.me c.args.work.now.entry c.args.plain.now c.requires.may c.in-Unsubscribe.sig c.in-Unsubscribe.is)

pub returns-in-Post-clause-done : goal.returns-in-Post-clause-done
returns-in-Post-clause-done g c = λ x deed single.
    call-alone (entry_in c.args.work.now.entry) (call.Post c.receiver.result c.event-ev.result.sig c.event-ev.result.pars.items c.in-Post.margin c.in-Post.reserve) x c.args.lasting.now.list c.post.result _ _
    (post-call (names_at c.args.me c.args.lasting.now c.args.work.now) _ c.args.plain.now c.in-Post.to c.receiver.result c.in-Post.sig c.in-Post.pars _ c.in-Post.margin c.in-Post.reserve
    (event_of c.event-ev.result) x c.in-Post.is (c.as_slice.ensures.value ∙ c.pars.view_is) c.surroundings.ensures c.receiver.ensures c.event-ev.ensures deed) refl refl refl c.requires.kept c.post.ensures

pub returns-in-Lifo-clause-done : goal.returns-in-Lifo-clause-done
returns-in-Lifo-clause-done g c = λ x deed single.
    call-alone (entry_in c.args.work.now.entry) (call.Lifo c.event-ev-in-Lifo.result.sig c.event-ev-in-Lifo.result.pars.items c.in-Lifo.reserve) x c.args.lasting.now.list c.lifo_new.result _ _
    (lifo-call (names_at c.args.me c.args.lasting.now c.args.work.now) _ c.args.plain.now c.in-Lifo.sig c.in-Lifo.pars _ c.in-Lifo.reserve (event_of c.event-ev-in-Lifo.result) x c.in-Lifo.is
    (c.as_slice-in-Lifo.ensures.value ∙ c.pars-in-Lifo.view_is) c.surroundings-in-Lifo.ensures c.event-ev-in-Lifo.ensures deed) refl refl refl c.requires.kept c.lifo_new.ensures

pub returns-in-Some-clause-done : goal.returns-in-Some-clause-done
returns-in-Some-clause-done g c = λ x deed single.
    let lane = g.O.Ops.lane in
    let hand : entry_in c.args.work.now.entry ≡ Some (entry_of c.in-Some.now) = ap entry_in c.in-Some.is in
    call-done (entry_in c.args.work.now.entry) (Some (entry_of c.in-Some.now)) (call.Forward c.receiver-in-Some.result c.in-Forward.margin) x c.args.lasting.now.list c.args.lasting.now.list c.forward.result
    (lane c.args.ops.now) (lane c.forward.new.ops) hand
    (forward-call (names_at c.args.me c.args.lasting.now c.args.work.now) c.args.plain.now c.in-Forward.to c.receiver-in-Some.result c.in-Forward.margin x c.in-Forward.is c.receiver-in-Some.ensures deed)
    (call-other (Some (entry_of c.in-Some.now)) (call.Forward c.receiver-in-Some.result c.in-Forward.margin) c.args.lasting.now.list c.forward.result _ _ refl refl c.requires.kept c.forward.ensures)

pub returns-in-None-clause-done : goal.returns-in-None-clause-done
returns-in-None-clause-done g c = λ x deed single.
    no-entry c.args.work.now.entry c.in-None.is
    (forward-hand c.args.sys.now c.args.me c.args.work.now.entry c.args.plain.now c.requires.may c.in-Forward.to c.in-Forward.margin c.in-Forward.is)

pub returns-in-Some-entry-clause-done : goal.returns-in-Some-entry-clause-done
returns-in-Some-entry-clause-done g c = λ x deed single.
    let lane = g.O.Ops.lane in
    let hand : entry_in c.args.work.now.entry ≡ Some (entry_of c.in-Some-entry.now) = ap entry_in c.in-Some-entry.is in
    call-done (entry_in c.args.work.now.entry) (Some (entry_of c.in-Some-entry.now)) call.Defer x c.args.lasting.now.list c.defer.new.list c.defer.result
    (lane c.args.ops.now) (lane c.defer.new.ops) hand
    (bare-call (names_at c.args.me c.args.lasting.now c.args.work.now) c.args.plain.now action.Defer call.Defer x c.in-Defer.is (defer-deed (names_at c.args.me c.args.lasting.now c.args.work.now)) deed)
    (call-list (Some (entry_of c.in-Some-entry.now)) call.Defer c.args.lasting.now.list c.defer.new.list c.defer.result (lane c.args.ops.now) (lane c.defer.new.ops) refl c.defer.ensures)

pub returns-in-None-entry-clause-done : goal.returns-in-None-entry-clause-done
returns-in-None-entry-clause-done g c = λ x deed single.
    no-entry c.args.work.now.entry c.in-None-entry.is (defer-hand c.args.sys.now c.args.me c.args.work.now.entry c.args.plain.now c.requires.may c.in-Defer.is)

pub returns-in-Recall-clause-done : goal.returns-in-Recall-clause-done
returns-in-Recall-clause-done g c = λ x deed single.
    let lane = g.O.Ops.lane in
    let names = names_at c.args.me c.args.lasting.now c.args.work.now in
    call-done (entry_in c.args.work.now.entry) (entry_in c.args.work.now.entry) call.Recall x c.args.lasting.now.list c.recall.new.list c.recall.result (lane c.args.ops.now) (lane c.recall.new.ops) refl
    (bare-call names c.args.plain.now action.Recall call.Recall x c.in-Recall.is (recall-deed names) deed)
    (call-now (entry_in c.args.work.now.entry) call.Recall c.args.lasting.now.list c.recall.new.list c.recall.result (lane c.args.ops.now) (lane c.recall.new.ops) refl
    (call-list _ call.Recall c.args.lasting.now.list c.recall.new.list c.recall.result (lane c.args.ops.now) (lane c.recall.new.ops) refl c.recall.ensures))

pub returns-in-Flush-clause-done : goal.returns-in-Flush-clause-done
returns-in-Flush-clause-done g c = λ x deed single.
    let lane = g.O.Ops.lane in
    let names = names_at c.args.me c.args.lasting.now c.args.work.now in
    call-done (entry_in c.args.work.now.entry) (entry_in c.args.work.now.entry) call.Flush x c.args.lasting.now.list c.flush.new.list c.flush.result (lane c.args.ops.now) (lane c.flush.new.ops) refl
    (bare-call names c.args.plain.now action.Flush call.Flush x c.in-Flush.is (flush-deed names) deed)
    (call-now (entry_in c.args.work.now.entry) call.Flush c.args.lasting.now.list c.flush.new.list c.flush.result (lane c.args.ops.now) (lane c.flush.new.ops) refl
    (call-flush c.args.lasting.now.list c.flush.new.list c.flush.result (lane c.args.ops.now) (lane c.flush.new.ops) c.flush.ensures))

pub returns-in-Subscribe-clause-done : goal.returns-in-Subscribe-clause-done
returns-in-Subscribe-clause-done g c = λ x deed single.
    let names = names_at c.args.me c.args.lasting.now c.args.work.now in
    call-alone (entry_in c.args.work.now.entry) (call.Subscribe c.in-Subscribe.sig) x c.args.lasting.now.list c.subscribe.result _ _
    (bare-call names c.args.plain.now (action.Subscribe c.in-Subscribe.sig) (call.Subscribe c.in-Subscribe.sig) x c.in-Subscribe.is (subscribe-deed names c.in-Subscribe.sig) deed) refl refl refl
    c.requires.kept c.subscribe.ensures

pub returns-in-Unsubscribe-clause-done : goal.returns-in-Unsubscribe-clause-done
returns-in-Unsubscribe-clause-done g c = λ x deed single.
    let names = names_at c.args.me c.args.lasting.now c.args.work.now in
    call-alone (entry_in c.args.work.now.entry) (call.Unsubscribe c.in-Unsubscribe.sig) x c.args.lasting.now.list c.unsubscribe.result _ _
    (bare-call names c.args.plain.now (action.Unsubscribe c.in-Unsubscribe.sig) (call.Unsubscribe c.in-Unsubscribe.sig) x c.in-Unsubscribe.is (unsubscribe-deed names c.in-Unsubscribe.sig) deed) refl refl refl
    c.requires.kept c.unsubscribe.ensures

pub returns-in_default-clause-done : goal.returns-in_default-clause-done
returns-in_default-clause-done g c = λ x deed single.
    let names = names_at c.args.me c.args.lasting.now c.args.work.now in
    let d = c.in_default in
    let timing =
    timing-left names c.args.plain.now x deed single
    (record { post = d.not-Post; lifo = d.not-Lifo; forward = d.not-Forward; defer = d.not-Defer; recall = d.not-Recall; flush = d.not-Flush; subscribe = d.not-Subscribe; unsubscribe = d.not-Unsubscribe }) in
    time-call names c.args.plain.now x (entry_in c.args.work.now.entry) c.args.lasting.now.list c.time.result _ _ deed timing c.requires.kept (c.time.ensures x deed timing)
