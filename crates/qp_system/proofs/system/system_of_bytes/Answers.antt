use Rattle.std.proofs.Common.{◌∙◌, refl}
use Rattle.std.proofs.lemmas.Result.{err_from_is_err_and}
use Rattle.qp_chart.specs.ChartOf.{IsChartOf}
use Rattle.qp_chart.proofs.LegalLemmas.{Corresponds-length}
use Rattle.qp_system.specs.Within.{outer_names}
use Rattle.qp_system.proofs.PassedLemmas.{passed-from}
use Rattle.qp_system.proofs.SoundLemmas.{read-few, system-is_sound}
use Rattle.qp_system.proofs.SystemLemmas.{refuses-system, all-have_charts, all-within, objects-of}
use Rattle.qp_system.proofs.system.system_of_bytes.Goals as goal

pub returns-in_err-raw-clause-fault : goal.returns-in_err-raw-clause-fault
returns-in_err-raw-clause-fault c =
    let p = err_from_is_err_and c.from_residual.result c.from_residual.ensures.1 in
    rw (p.1, p.2) (refuses-system c.args.bytes.now _ c.in_err-raw.ensures.fault)

pub object_defs-requires-clause-few : goal.object_defs-requires-clause-few
object_defs-requires-clause-few c =
    let tables = c.deref.ensures.value ∙ c.tables.view_is in
    rw tables (read-few c.args.bytes.now c.in_ok-raw.raw c.in_ok-raw.ensures.ok.read).charts

pub object_defs-requires-clause-declared : goal.object_defs-requires-clause-declared
object_defs-requires-clause-declared c =
    let tables = c.deref.ensures.value ∙ c.tables.view_is in
    let ordered = c.deref-2.ensures.value ∙ c.ordered.view_is in
    let passed = passed-from c.in_ok-raw.raw c.in_ok-raw.ensures.ok.passed in
    rw (tables, ordered) (all-have_charts c.in_ok-raw.raw.charts c.in_ok-raw.raw.objects c.by_priority-ordered.result passed.placed c.by_priority-ordered.ensures.same)

pub timer_defs-requires : goal.timer_defs-requires
timer_defs-requires c =
    let tables = c.deref.ensures.value ∙ c.tables.view_is in
    let ordered = c.deref-2.ensures.value ∙ c.ordered.view_is in
    let charts = c.deref-3.ensures.value ∙ c.charts.view_is in
    let objects = c.deref-4.ensures.value ∙ c.objects.view_is in
    let count = Corresponds-length (IsChartOf (outer_names c.in_ok-raw.raw.signals c.in_ok-raw.raw.objects)) c.in_ok-raw.raw.charts c.in_ok-raw.charts c.in_ok-raw.ensures.ok.made in
    rw (charts, objects) (all-within c.in_ok-raw.raw.charts c.in_ok-raw.charts c.by_priority-ordered.result c.in_ok-objects.objects count (rw (tables, ordered) at c.in_ok-objects.ensures))

pub returns-clause-ok : goal.returns-clause-ok
returns-clause-ok c =
    let tables = c.deref.ensures.value ∙ c.tables.view_is in
    let ordered = c.deref-2.ensures.value ∙ c.ordered.view_is in
    let charts = c.deref-3.ensures.value ∙ c.charts.view_is in
    let objects = c.deref-4.ensures.value ∙ c.objects.view_is in
    let checked = c.in_ok-raw.ensures.ok in
    record {
      raw = c.in_ok-raw.raw;
      read = checked.read;
      passed = checked.passed;
      pools = refl;
      signals = refl;
      charts = checked.made;
      objects = objects-of c.args.bytes.now c.in_ok-raw.raw c.in_ok-raw.charts c.by_priority-ordered.result c.in_ok-objects.objects checked c.by_priority-ordered.ensures.same
          c.by_priority-ordered.ensures.ascend (rw (tables, ordered) at c.in_ok-objects.ensures);
      timers = rw (charts, objects) at c.in_ok-timers.ensures;
    }

pub returns-clause-sound : goal.returns-clause-sound
returns-clause-sound c = system-is_sound c.args.bytes.now _ (returns-clause-ok c)
