use Rattle.std.proofs.Common.{refl}
use Rattle.qp_base.proofs.GatheringLemmas.{first-goes, first-grown}
use Rattle.qp_base.proofs.gathered.Gathered.new.Goals as goal

pub invariant_of-result-clause-goes : goal.invariant_of-result-clause-goes
invariant_of-result-clause-goes g c = first-goes _ _ _ _ c.requires.first_length refl

pub invariant_of-result-clause-grown : goal.invariant_of-result-clause-grown
invariant_of-result-clause-grown g c = first-grown _ _ c.requires.first_length
