use Rattle.std.proofs.Common.{refl}
use Rattle.qp_calls.proofs.Answering.{released-room}
use Rattle.qp_calls.proofs.posts.end_step.Goals as goal

pub returns-clause-ok : goal.returns-clause-ok
returns-clause-ok g c = record { said = refl; released = released-room _ _ _ _ c.room.ensures.stays c.drop_entry.ensures.released }
