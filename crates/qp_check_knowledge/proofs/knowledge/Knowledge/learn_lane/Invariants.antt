use Rattle.qp_check_knowledge.specs.Knowledge.{IsKnowledgeOf}
use Rattle.qp_check_knowledge.proofs.knowledge.Knowledge.learn_lane.Given as goal

abbrev pub invariant-loop-r : goal.invariant-loop-r
invariant-loop-r l = IsKnowledgeOf l.self l.initial.self.sys.now l.initial.self.journal.now
