use Rattle.std.proofs.Common.{◌∙◌}
use Rattle.qp_port_lanes.proofs.Nexts.{left-next}
use Rattle.qp_port_lanes.proofs.cursor.Cursor.left.Goals as goal

pub returns-else-self : goal.returns-else-self
returns-else-self c = c.is_some.ensures ∙ left-next c.args.self.now (λ b. b.now) c.next.result c.if-self.false c.next.ensures
