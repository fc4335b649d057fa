use Rattle.std.proofs.Common.{◌≡◌, ◌∙◌, List, ℕ, map, ap}
use Rattle.std.specs.List.{flat_map}
use Rattle.std.proofs.lemmas.Result.{err_from_is_err_and}
use Rattle.std.proofs.lemmas.List.Folds.{flat_map-map}
use Rattle.qp_base.specs.Sink.{appended}
use Rattle.qp_model.specs.declared.record.Rec.{Rec}
use Rattle.qp_model.specs.Output.{record_item}
use Rattle.qp_model.specs.OutputText.{line_text, lines_text}
use Rattle.qp_text.proofs.PieceLemmas.{pieces-all}
use Rattle.qp_text.proofs.PutsLemmas.{pieces-cut, pieces-put}
use Rattle.qp_text.proofs.writer.put_records.Goals as goal

-- the line of a record
abbrev line : ℕ → Rec → List ℕ
line form r = line_text form (record_item r)

-- the lines of the records
lines : (form : ℕ) (records : List Rec) → lines_text form (map record_item records) ≡ flat_map (line form) records
lines form records = flat_map-map (line_text form) record_item records

pub returns-in_err-put_record : goal.returns-in_err-put_record
returns-in_err-put_record g c =
    let p = err_from_is_err_and c.from_residual.result c.from_residual.ensures.1 in
    rw (p.1, lines c.args.form c.args.lane.now, ← c.lane.view_is, ← c.deref-r-items.ensures.value) (
      pieces-cut (line c.args.form) _ _ _ c.loop-r-test.true c.r-item.is _ _ _ c.loop-r.invariant.written c.in_err-put_record.ensures.0,
      rw (← c.loop-r.invariant.faults) c.in_err-put_record.ensures.1,
    )

pub loop-r-preserved : goal.loop-r-preserved
loop-r-preserved g c = record {
  written = pieces-put (line c.args.form) _ _ _ c.loop-r-test.true c.r-item.is _ _ _ c.loop-r.invariant.written c.in_ok-put_record.ensures.0;
  faults = c.in_ok-put_record.ensures.1 ∙ c.loop-r.invariant.faults;
}

pub returns : goal.returns
returns g c =
    rw (lines c.args.form c.args.lane.now, ← c.lane.view_is, ← c.deref-r-items.ensures.value) (
      c.loop-r.invariant.written ∙ ap (appended (g.K.Sink.written c.args.out.now)) (pieces-all (line c.args.form) _ _ c.loop-r-test.false),
      c.loop-r.invariant.faults,
    )
