use Rattle.std.proofs.Common.{◌≡◌, ◌∙◌, ◌+◌, drop, sym, subst}
use Rattle.std.specs.Prelude.{IfOk}
use Rattle.std.specs.Option.{option_map}
use Rattle.qp_check_ends.specs.AsSource.{as_source}
use Rattle.qp_check_ends.proofs.MachineLemmas.{reads-begin, reads-unready, reads-on}
use Rattle.qp_check_ends.proofs.source_state.SourceState.next.Goals as goal

pub returns-then-is_ready : goal.returns-then-is_ready
returns-then-is_ready c =
    subst (λ x. IfOk c.begin.result (λ r. option_map (as_source c.args.source.now.sys.now c.args.source.now.stimuli.now) r ≡ x))
    (sym (reads-begin c.args.source.now.sys.now c.args.source.now.kernel c.args.self.under (c.args.self.begun + 1) (drop c.args.self.begun c.args.source.now.stimuli.now) c.args.told.now
    c.in-Some.i c.in-Some.look c.in-Some.ensures (sym (c.is_ready.ensures c.args.source.now.stimuli.now) ∙ c.if-is_ready.true)))
    c.begin.ensures

pub returns-in-Some : goal.returns-in-Some
returns-in-Some c =
    reads-unready c.args.source.now.sys.now c.args.source.now.kernel c.args.self.under (c.args.self.begun + 1) (drop c.args.self.begun c.args.source.now.stimuli.now) c.args.told.now
    c.in-Some.i c.in-Some.look c.in-Some.ensures (sym (c.is_ready.ensures c.args.source.now.stimuli.now) ∙ c.if-is_ready.false)

pub returns : goal.returns
returns c =
    subst (λ x. IfOk c.go_on.result (λ r. option_map (as_source c.args.source.now.sys.now c.args.source.now.stimuli.now) r ≡ x))
    (sym (reads-on c.args.source.now.sys.now c.args.source.now.kernel c.args.self.under (c.args.self.begun + 1) (drop c.args.self.begun c.args.source.now.stimuli.now) c.args.told.now c.in-None.ensures))
    c.go_on.ensures
