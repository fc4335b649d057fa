use Rattle.std.proofs.Common.{sym, ◌∙◌, ap}
use Rattle.std.specs.Option.{option_map}
use Rattle.qp_port_lanes.proofs.Nexts.{stands-none, stands-some}
use Rattle.qp_port_lanes.proofs.cursor.Cursor.at_settle.Goals as goal

pub returns-in-Some : goal.returns-in-Some
returns-in-Some c = c.is_settle.ensures ∙ stands-some c.args.self.now c.in-Some.s.now c.if-self.false (sym c.next.ensures ∙ ap (option_map (λ b. b.now)) c.in-Some.is)

pub returns-in-None : goal.returns-in-None
returns-in-None c = stands-none c.args.self.now c.if-self.false (sym c.next.ensures ∙ ap (option_map (λ b. b.now)) c.in-None.is)
