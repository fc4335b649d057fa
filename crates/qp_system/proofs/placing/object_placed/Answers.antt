use Rattle.std.proofs.Common.{◌≡◌, ◌∙◌, ◌+◌, sym, ap, refl, length, true, false, ◌∷◌, [], List}
use Rattle.std.specs.Option.{option_copied}
use Rattle.qp_chart_names.specs.declared.place.Part.{Part}
use Rattle.qp_chart_names.specs.declared.place.Part.TheVariants.{Key, Pos}
use Rattle.qp_chart_names.specs.Faults.{fault}
use Rattle.qp_system_tables.specs.Refused.{fault_at}
use Rattle.qp_system.proofs.PlacingLemmas.{all_known, no_chart, bad_vars, bad_priority, bad_threshold, bad_count, placed, timers-is}
use Rattle.qp_system.proofs.placing.object_placed.Goals as goal

pub returns-in_default-clause-passes : goal.returns-in_default-clause-passes
returns-in_default-clause-passes c =
    no_chart c.args.charts.now c.args.earlier.now c.args.place c.args.object.now _ (sym c.chart_of.ensures ∙ ap option_copied c.in_default.is) c.member_fault.ensures

pub returns-then-not-has_all-clause-passes : goal.returns-then-not-has_all-clause-passes
returns-then-not-has_all-clause-passes c =
    let unknown : false ≡ all_known c.in-Some.chart.now c.args.object.now = rw (c.as_slice.ensures, c.as_slice-2.ensures) at c.if-not-has_all.ensures in
    bad_vars c.args.charts.now c.args.earlier.now c.args.place c.args.object.now c.in-Some.chart.now (sym c.chart_of.ensures ∙ ap option_copied c.in-Some.is) _
    (sym unknown) c.member_fault-then-not-has_all.ensures

pub returns-then-is_taken-clause-passes : goal.returns-then-is_taken-clause-passes
returns-then-is_taken-clause-passes c =
    let known : true ≡ all_known c.in-Some.chart.now c.args.object.now = rw (c.as_slice.ensures, c.as_slice-2.ensures) at c.if-not-has_all.ensures in
    bad_priority c.args.charts.now c.args.earlier.now c.args.place c.args.object.now c.in-Some.chart.now (sym c.chart_of.ensures ∙ ap option_copied c.in-Some.is) _
    (sym known) (sym c.if-is_taken.ensures) c.member_fault-then-is_taken.ensures

pub returns-then-object-clause-passes : goal.returns-then-object-clause-passes
returns-then-object-clause-passes c =
    let known : true ≡ all_known c.in-Some.chart.now c.args.object.now = rw (c.as_slice.ensures, c.as_slice-2.ensures) at c.if-not-has_all.ensures in
    bad_threshold c.args.charts.now c.args.earlier.now c.args.place c.args.object.now c.in-Some.chart.now (sym c.chart_of.ensures ∙ ap option_copied c.in-Some.is) _
    (sym known) (sym c.if-is_taken.ensures) c.if-object.true c.member_fault-then-object.ensures

pub returns-then-total-gt-MOST_TIMERS-clause-passes : goal.returns-then-total-gt-MOST_TIMERS-clause-passes
returns-then-total-gt-MOST_TIMERS-clause-passes c =
    let known : true ≡ all_known c.in-Some.chart.now c.args.object.now = rw (c.as_slice.ensures, c.as_slice-2.ensures) at c.if-not-has_all.ensures in
    bad_count c.args.charts.now c.args.earlier.now c.args.place c.args.object.now c.in-Some.chart.now (sym c.chart_of.ensures ∙ ap option_copied c.in-Some.is)
    c.args.timers c.requires.sum (fault_at 14 (Key 5 ∷ Pos c.args.place ∷ []))
    (sym known) (sym c.if-is_taken.ensures) c.if-object.false (rw c.as_slice-3.ensures at c.if-total-gt-MOST_TIMERS.true) refl
    ∙ ap (λ (path : List Part). fault 14 path) (sym c.of.ensures)

pub returns-clause-passes : goal.returns-clause-passes
returns-clause-passes c =
    let known : true ≡ all_known c.in-Some.chart.now c.args.object.now = rw (c.as_slice.ensures, c.as_slice-2.ensures) at c.if-not-has_all.ensures in
    placed c.args.charts.now c.args.earlier.now c.args.place c.args.object.now c.in-Some.chart.now (sym c.chart_of.ensures ∙ ap option_copied c.in-Some.is)
    c.args.timers c.requires.sum (sym known) (sym c.if-is_taken.ensures) c.if-object.false (rw c.as_slice-3.ensures at c.if-total-gt-MOST_TIMERS.false)

pub returns-clause-total : goal.returns-clause-total
returns-clause-total c =
    let timers = timers-is c.args.charts.now c.args.earlier.now c.args.place c.args.object.now c.in-Some.chart.now (sym c.chart_of.ensures ∙ ap option_copied c.in-Some.is) in
    (ap (λ n. c.args.timers + n) (ap length c.as_slice-3.ensures ∙ sym timers), c.if-total-gt-MOST_TIMERS.false)
