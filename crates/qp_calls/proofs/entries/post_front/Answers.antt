use Rattle.qp_calls.proofs.Posting.{front-done, front-short, front-stands}
use Rattle.qp_calls.proofs.entries.post_front.Goals as goal

pub leave-requires : goal.leave-requires
leave-requires g c = front-stands c.args.e c.in-Short.entry _ _ _ _ _ c.in-Short.ensures.claims c.requires.stands

pub returns-in-Done : goal.returns-in-Done
returns-in-Done g c = front-done c.args.e _ _ c.in-Done.ensures.claims

pub returns-in-Short : goal.returns-in-Short
returns-in-Short g c = front-short c.args.e c.in-Short.entry _ _ _ _ _ _ c.in-Short.ensures.claims c.leave.ensures
