use Rattle.std.proofs.Common.{◌≡◌, ◌∙◌, ◌+◌, Some, None, drop, sym, ap}
use Rattle.std.specs.Option.{option_map}
use Rattle.qp_check_ends.specs.SourceState.{source_after, source_next}
use Rattle.qp_check_ends.specs.AsSource.{as_source}
use Rattle.qp_check_ends.proofs.MachineLemmas.{after-more, after-end, after-none}
use Rattle.qp_check_ends.proofs.source_state.behind.Goals as goal

pub returns-in-None : goal.returns-in-None
returns-in-None c =
    let next : source_next c.args.source.now.sys.now c.args.source.now.kernel (as_source c.args.source.now.sys.now c.args.source.now.stimuli.now c.loop-t.rest) c.t-item.result ≡ None =
    sym c.in_ok-next.ensures ∙ ap (option_map (as_source c.args.source.now.sys.now c.args.source.now.stimuli.now)) c.in-None.is in
    sym (c.loop-t.invariant
    ∙ after-more c.args.source.now.sys.now c.args.source.now.kernel c.args.told.now c.loop-t.t-index c.t-item.result c.loop-t-test.true c.t-item.is _
    ∙ ap (λ r. source_after c.args.source.now.sys.now c.args.source.now.kernel r (drop (c.loop-t.t-index + 1) c.args.told.now)) next
    ∙ after-none _ _ _)

pub loop-t-preserved : goal.loop-t-preserved
loop-t-preserved c =
    let next : source_next c.args.source.now.sys.now c.args.source.now.kernel (as_source c.args.source.now.sys.now c.args.source.now.stimuli.now c.loop-t.rest) c.t-item.result
    ≡ Some (as_source c.args.source.now.sys.now c.args.source.now.stimuli.now c.in-Some.next) =
    sym c.in_ok-next.ensures ∙ ap (option_map (as_source c.args.source.now.sys.now c.args.source.now.stimuli.now)) c.in-Some.is in
    c.loop-t.invariant
    ∙ after-more c.args.source.now.sys.now c.args.source.now.kernel c.args.told.now c.loop-t.t-index c.t-item.result c.loop-t-test.true c.t-item.is _
    ∙ ap (λ r. source_after c.args.source.now.sys.now c.args.source.now.kernel r (drop (c.loop-t.t-index + 1) c.args.told.now)) next

pub returns : goal.returns
returns c = sym (c.loop-t.invariant ∙ after-end _ _ c.args.told.now c.loop-t.t-index c.loop-t-test.false _)
