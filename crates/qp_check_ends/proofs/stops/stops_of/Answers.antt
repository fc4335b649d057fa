use Rattle.std.proofs.Common.{◌≡◌, ◌+◌, drop, sym, subst}
use Rattle.qp_check_ends.specs.SourceState.{source_stops}
use Rattle.qp_check_ends.specs.AsSource.{stops_at, source_rest}
use Rattle.qp_check_ends.proofs.stops.stops_of.Goals as goal

pub returns-in-Some : goal.returns-in-Some
returns-in-Some c = λ stop.
    subst
    (λ under. stops_at c.stops_within.result stop
    ≡ source_stops c.args.source.now.kernel (source_rest c.args.source.now.sys.now under (c.args.rest.now.begun + 1) (drop c.args.rest.now.begun c.args.source.now.stimuli.now)) stop)
    (sym c.in-Some.is)
    (c.stops_within.ensures (c.args.rest.now.begun + 1) (drop c.args.rest.now.begun c.args.source.now.stimuli.now) stop c.is_last-is_last.ensures)
