use Rattle.std.proofs.Common.{arith}
use Rattle.qp_base.proofs.GatheringLemmas.{count-on, grown-by, grown-part, on-put, torn, torn-put, went}
use Rattle.qp_base.proofs.gathered.Gathered.hand_on.Goals as goal

pub invariant_of-self-in-Ok-clause-goes : goal.invariant_of-self-in-Ok-clause-goes
invariant_of-self-in-Ok-clause-goes g c =
    went _ _ _ _ _ _ _ _ c.requires c.args.self.now.goes (rw c.as_slice.ensures.value at c.in-Ok.ensures.ok) (count-on _ _ _ _ (omega (arith, c.len.ensures)))

pub invariant_of-self-in-Err-clause-goes : goal.invariant_of-self-in-Err-clause-goes
invariant_of-self-in-Err-clause-goes g c = torn _ _ _ _ _ c.requires c.args.self.now.few c.args.self.now.goes (rw c.as_slice.ensures.value at c.in-Err.ensures.err)

pub invariant_of-self-in-Ok-clause-grown : goal.invariant_of-self-in-Ok-clause-grown
invariant_of-self-in-Ok-clause-grown g c = grown-by _ _ _ _ c.args.self.now.grown c.in-Ok.ensures.ok

pub invariant_of-self-in-Err-clause-grown : goal.invariant_of-self-in-Err-clause-grown
invariant_of-self-in-Err-clause-grown g c = grown-part _ _ _ _ c.args.self.now.grown c.in-Err.ensures.err

pub returns-in-Ok-clause-told : goal.returns-in-Ok-clause-told
returns-in-Ok-clause-told g c = on-put _ _ _ _ _ _ _ c.requires c.clear.ensures.items (rw c.as_slice.ensures.value at c.in-Ok.ensures.ok)

pub returns-in-Err-clause-told : goal.returns-in-Err-clause-told
returns-in-Err-clause-told g c =
    let f = c.fail.ensures in
    rw (f.course, f.gone, f.held, f.inner) (torn-put _ _ _ _ _ c.requires c.args.self.now.few c.args.self.now.goes (rw c.as_slice.ensures.value at c.in-Err.ensures.err))
