use Rattle.qp_wait_bells.proofs.Steps.{forks}
use Rattle.qp_wait_bells.proofs.parking.pass_of.Goals as goal

pub split_pass-requires : goal.split_pass-requires
split_pass-requires c = record { own = c.requires.own; rule = λ was views h at. forks views c.args.root.now.id c.args.root.now.me.0 at was h }
