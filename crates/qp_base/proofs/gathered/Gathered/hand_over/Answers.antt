use Rattle.std.proofs.Common.{◌+◌, ap, refl}
use Rattle.qp_base.proofs.GatheringLemmas.{count-on, grown-by, grown-part, over-put, stopped, stopped-goes, went}
use Rattle.qp_base.proofs.gathered.Gathered.hand_over.Goals as goal

pub invariant_of-self-clause-goes : goal.invariant_of-self-clause-goes
invariant_of-self-clause-goes g c = went _ _ _ _ _ _ _ _ c.requires.going c.args.self.now.goes c.in-Ok.ensures.ok (count-on _ _ _ _ refl)

pub invariant_of-self-in-Err-clause-goes : goal.invariant_of-self-in-Err-clause-goes
invariant_of-self-in-Err-clause-goes g c = stopped-goes _ _ _

pub invariant_of-self-clause-grown : goal.invariant_of-self-clause-grown
invariant_of-self-clause-grown g c = grown-by _ _ _ _ c.args.self.now.grown c.in-Ok.ensures.ok

pub invariant_of-self-in-Err-clause-grown : goal.invariant_of-self-in-Err-clause-grown
invariant_of-self-in-Err-clause-grown g c = grown-part _ _ _ _ c.args.self.now.grown c.in-Err.ensures.err

pub returns-in-Ok-clause-ok : goal.returns-in-Ok-clause-ok
returns-in-Ok-clause-ok g c = over-put _ _ _ _ _ _ _ c.requires.going c.requires.held c.in-Ok.ensures.ok

pub returns-in-Err-clause-prefix : goal.returns-in-Err-clause-prefix
returns-in-Err-clause-prefix g c =
    let f = c.fail.ensures in
    stopped c.fail.result c.args.self.now.course c.fail.new.self.course (g.S.Sink.written c.args.self.now.inner) (g.S.Sink.written c.put.new.self) (g.S.Sink.written c.fail.new.self.inner)
    (g.B.Beginning.first_length + c.args.self.now.gone) (g.B.Beginning.first_length + c.fail.new.self.gone) c.args.self.now.held.items c.fail.new.self.held.items c.args.bytes.now
    c.requires.going c.requires.held c.in-Err.ensures.err f.course (ap g.S.Sink.written f.inner)
