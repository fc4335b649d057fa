use Rattle.std.proofs.Common.{refl}
use Rattle.qp_calls.proofs.Announcing.{members-none}
use Rattle.qp_calls.proofs.publication.Publication.ceiling.Goals as goal

pub returns-then-self-eq0 : goal.returns-then-self-eq0
returns-then-self-eq0 c = rw (members-none c.args.self.now.all c.if-self-eq0.true) refl
