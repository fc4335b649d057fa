use Rattle.std.proofs.Common.{◌≡◌, ◌++◌, rules}
use Rattle.qp_base.proofs.GatheringLemmas.{held-goes, held-put}
use Rattle.qp_base.proofs.gathered.Gathered.gather.Goals as goal

pub invariant_of-self-clause-goes : goal.invariant_of-self-clause-goes
invariant_of-self-clause-goes g c = held-goes _ _ _ _ _ c.requires.going c.args.self.now.goes

pub returns-clause-told : goal.returns-clause-told
returns-clause-told g c =
    let is : c.extend_from_slice.new.self.items ≡ c.args.self.now.held.items ++ c.args.bytes.now = search rules in
    held-put _ _ _ _ _ _ c.requires.going is
