use Rattle.std.proofs.Common.{sym, subst}
use Rattle.qp_model.specs.Lawful.{SpillStands}
use Rattle.qp_check_calls.specs.Decides.{Decides}
use Rattle.qp_check_ends.proofs.LaneLemmas.{spill-decides}
use Rattle.qp_check_ends.proofs.lane.spill_stands.Goals as goal

pub returns : goal.returns
returns c = λ j lane same records.
    subst (λ b. Decides b (SpillStands c.args.sys.now j c.args.cuts c.args.stimuli.now lane)) (sym c.may_spill.ensures)
    (spill-decides c.args.sys.now j c.args.kernel c.args.stimuli.now lane c.args.told.now same records c.in_ok-may_stop.field-0 c.in_ok-may_stop.ensures c.args.cuts)
