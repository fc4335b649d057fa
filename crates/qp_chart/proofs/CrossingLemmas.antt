-- Charts may go to another thread, and several threads may read them at once.
use denote.Param.Send.{IsSend, IsSync, sendable}
use Rattle.std.proofs.Crossing.{crosses}
use Rattle.qp_chart.proofs.expression.Bound.TheLaws.TheKnot as knot
use Rattle.qp_chart.specs.contracts.expression.Bound as bound
use Rattle.qp_chart.specs.contracts.expression.BoundExprs as bounds
use Rattle.qp_chart.specs.contracts.actions.Plain as plain
use Rattle.qp_chart.specs.contracts.actions.Plains as plains
use Rattle.qp_chart.specs.contracts.actions.Act as act
use Rattle.qp_chart.specs.contracts.actions.Acts as acts
use Rattle.qp_chart.specs.contracts.checked.Row as row
use Rattle.qp_chart.specs.contracts.checked.Rows as rows
use Rattle.qp_chart.specs.contracts.checked.State as state
use Rattle.qp_chart.specs.contracts.checked.States as states
use Rattle.qp_chart.specs.contracts.checked.Chart as chart

bound-send : IsSend bound.the_field.row
bound-send = search (crosses, knot.crosses, sendable) depth 40

bounds-send : IsSend bounds.the_field.row
bounds-send = let a = bound-send in search (crosses, sendable) depth 40

plain-send : IsSend plain.the_field.row
plain-send = let a = bound-send in let b = bounds-send in search (crosses, sendable) depth 60 fits 20000

plains-send : IsSend plains.the_field.row
plains-send = let a = plain-send in search (crosses, sendable) depth 40

pub act-send : IsSend act.the_field.row
act-send = let a = plain-send in let b = plains-send in search (crosses, sendable) depth 40

acts-send : IsSend acts.the_field.row
acts-send = let a = act-send in search (crosses, sendable) depth 40

row-send : IsSend row.the_field.row
row-send = let a = acts-send in let b = bound-send in search (crosses, sendable) depth 40

rows-send : IsSend rows.the_field.row
rows-send = let a = row-send in search (crosses, knot.crosses, sendable) depth 40

state-send : IsSend state.the_field.row
state-send = let a = acts-send in let b = rows-send in search (crosses, knot.crosses, sendable) depth 40

states-send : IsSend states.the_field.row
states-send = let a = state-send in search (crosses, knot.crosses, sendable) depth 40

pub chart-send : IsSend chart.the_field.row
chart-send = let a = acts-send in let b = states-send in search (crosses, knot.crosses, sendable) depth 40

bound-sync : IsSync bound.the_field.row
bound-sync = search (crosses, knot.crosses, sendable) depth 40

bounds-sync : IsSync bounds.the_field.row
bounds-sync = let a = bound-sync in search (crosses, sendable) depth 40

plain-sync : IsSync plain.the_field.row
plain-sync = let a = bound-sync in let b = bounds-sync in search (crosses, sendable) depth 60 fits 20000

plains-sync : IsSync plains.the_field.row
plains-sync = let a = plain-sync in search (crosses, sendable) depth 40

pub act-sync : IsSync act.the_field.row
act-sync = let a = plain-sync in let b = plains-sync in search (crosses, sendable) depth 40

acts-sync : IsSync acts.the_field.row
acts-sync = let a = act-sync in search (crosses, sendable) depth 40

row-sync : IsSync row.the_field.row
row-sync = let a = acts-sync in let b = bound-sync in search (crosses, sendable) depth 40

rows-sync : IsSync rows.the_field.row
rows-sync = let a = row-sync in search (crosses, knot.crosses, sendable) depth 40

state-sync : IsSync state.the_field.row
state-sync = let a = acts-sync in let b = rows-sync in search (crosses, knot.crosses, sendable) depth 40

states-sync : IsSync states.the_field.row
states-sync = let a = state-sync in search (crosses, knot.crosses, sendable) depth 40

pub chart-sync : IsSync chart.the_field.row
chart-sync = let a = acts-sync in let b = states-sync in search (crosses, knot.crosses, sendable) depth 40
