use Rattle.std.proofs.Common.{◌∙◌, Some, None, sym, ap}
use Rattle.std.specs.Option.{option_map}
use Rattle.qp_check_ends.specs.AsSource.{as_source}
use Rattle.qp_check_ends.proofs.MachineLemmas.{stops-decide, none-flag}
use Rattle.qp_check_ends.proofs.stops.may_stop.Goals as goal

pub returns-in-Some : goal.returns-in-Some
returns-in-Some c = λ stop.
    stops-decide c.args.sys.now c.args.kernel c.args.stimuli.now c.args.told.now c.stops_of.result (Some (as_source c.args.sys.now c.args.stimuli.now c.in-Some.rest))
    (sym (ap (option_map (as_source c.args.sys.now c.args.stimuli.now)) c.in-Some.is) ∙ c.in_ok-rest.ensures) stop (c.stops_of.ensures stop)

pub returns-in-None : goal.returns-in-None
returns-in-None c = λ stop.
    stops-decide c.args.sys.now c.args.kernel c.args.stimuli.now c.args.told.now _ None
    (sym (ap (option_map (as_source c.args.sys.now c.args.stimuli.now)) c.in-None.is) ∙ c.in_ok-rest.ensures) stop (none-flag stop)
