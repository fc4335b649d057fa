use Rattle.std.proofs.Common.{ap, ◌∷◌, ◌∙◌}
use Rattle.qp_shared_signals.proofs.Codes.{asked}
use Rattle.qp_shared_signals.proofs.stopping.stopped.Goals as goal

pub returns : goal.returns
returns c = (asked c.args.lane.now c.stopped-found.new.self.seat.me.0 c.answer.new.self c.answer.ensures.recs c.answer.ensures.spare c.stopped-found.new.self.words.now.shared.table_id (λ i. (c.stopped-found.ensures.same.0 i).now.shared.table_id) c.stopped-found.result c.stopped-found.ensures.finds c.answer.ensures.stops (c.answer.ensures.found ∙ ap (λ n. n ∷ c.args.lane.now.log.answered.list) c.unwrap_or.ensures)).1
