use Rattle.std.proofs.Common.{rules, ◌≡◌, ◌∙◌, List, ℕ, ap, subst}
use Rattle.std.specs.Prelude.{string_bytes}
use Rattle.std.proofs.lemmas.Result.{err_from_is_err_and}
use Rattle.std.proofs.lemmas.List.Folds.{flat_map-map}
use Rattle.qp_base.specs.Sink.{appended, AppendsPrefix}
use Rattle.qp_text.proofs.PieceLemmas.{pieces-all}
use Rattle.qp_text.proofs.PutsLemmas.{pieces-cut, pieces-put}
use Rattle.qp_summary.proofs.lines.Lines.put.Goals as goal

pub returns-in_err-put_line : goal.returns-in_err-put_line
returns-in_err-put_line g c =
    let p = err_from_is_err_and c.from_residual.result c.from_residual.ensures.1 in
    let same : c.deref.result.now ≡ string_bytes c.line-item.result = search rules in
    let cut = subst (λ bytes. AppendsPrefix (g.K.Sink.written c.loop-line.out) bytes (g.K.Sink.written c.put_line.new.out)) same c.in_err-put_line.ensures.0 in
    rw (p.1, ← c.self.view_is, flat_map-map (λ (line : List ℕ). line) string_bytes, ← c.deref-line-items.ensures.value) (
      pieces-cut string_bytes _ _ _ c.loop-line-test.true c.line-item.is _ _ _ c.loop-line.invariant.written cut,
      rw (← c.loop-line.invariant.faults) c.in_err-put_line.ensures.1,
    )

pub loop-line-preserved : goal.loop-line-preserved
loop-line-preserved g c =
    let same : c.deref.result.now ≡ string_bytes c.line-item.result = search rules in
    record {
      written = pieces-put string_bytes _ _ _ c.loop-line-test.true c.line-item.is _ _ _ c.loop-line.invariant.written (c.in_ok-put_line.ensures.0 ∙ ap (appended (g.K.Sink.written c.loop-line.out)) same);
      faults = c.in_ok-put_line.ensures.1 ∙ c.loop-line.invariant.faults;
    }

pub returns : goal.returns
returns g c =
    rw (← c.self.view_is, flat_map-map (λ (line : List ℕ). line) string_bytes, ← c.deref-line-items.ensures.value) (
      c.loop-line.invariant.written ∙ ap (appended (g.K.Sink.written c.args.out.now)) (pieces-all string_bytes _ _ c.loop-line-test.false),
      c.loop-line.invariant.faults,
    )
