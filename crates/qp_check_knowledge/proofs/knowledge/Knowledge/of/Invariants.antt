use Rattle.qp_check_knowledge.specs.Knowledge.{IsKnowledgeOf}
use Rattle.qp_check_knowledge.proofs.knowledge.Knowledge.of.Given as goal

abbrev pub invariant-loop-lane : goal.invariant-loop-lane
invariant-loop-lane l = IsKnowledgeOf l.knowledge l.sys l.j
