-- Systems and stimuli may go to another thread, and several threads may read them at once.
use denote.Param.Send.{IsSend, IsSync, sendable}
use Rattle.std.proofs.Crossing.{crosses}
use Rattle.qp_chart.proofs.CrossingLemmas.{chart-send, chart-sync}
use Rattle.qp_model.specs.contracts.systems.PoolDefs as pools
use Rattle.qp_model.specs.contracts.systems.SignalDefs as signals
use Rattle.qp_model.specs.contracts.systems.Charts as charts
use Rattle.qp_model.specs.contracts.systems.ObjectDefs as objects
use Rattle.qp_model.specs.contracts.systems.TimerDefs as timers
use Rattle.qp_model.specs.contracts.systems.System as system

pools-send : IsSend pools.the_field.row
pools-send = search (crosses, sendable) depth 40

signals-send : IsSend signals.the_field.row
signals-send = search (crosses, sendable) depth 40

charts-send : IsSend charts.the_field.row
charts-send = let a = chart-send in search (crosses, sendable) depth 40

objects-send : IsSend objects.the_field.row
objects-send = search (crosses, sendable) depth 40

timers-send : IsSend timers.the_field.row
timers-send = search (crosses, sendable) depth 40

pub system-send : IsSend system.the_field.row
system-send =
    let a = pools-send in
    let b = signals-send in
    let c = charts-send in
    let d = objects-send in
    let e = timers-send in
    search (crosses, sendable) depth 40

pools-sync : IsSync pools.the_field.row
pools-sync = search (crosses, sendable) depth 40

signals-sync : IsSync signals.the_field.row
signals-sync = search (crosses, sendable) depth 40

charts-sync : IsSync charts.the_field.row
charts-sync = let a = chart-sync in search (crosses, sendable) depth 40

objects-sync : IsSync objects.the_field.row
objects-sync = search (crosses, sendable) depth 40

timers-sync : IsSync timers.the_field.row
timers-sync = search (crosses, sendable) depth 40

pub system-sync : IsSync system.the_field.row
system-sync =
    let a = pools-sync in
    let b = signals-sync in
    let c = charts-sync in
    let d = objects-sync in
    let e = timers-sync in
    search (crosses, sendable) depth 40
