use Rattle.std.proofs.Common.{subst}
use Rattle.qp_text.specs.Puts.{Puts}
use Rattle.qp_summary.specs.Written.{lines_joined}
use Rattle.qp_summary.proofs.SummaryLemmas.{writes-all, writes-front, writes-none}
use Rattle.qp_summary.proofs.summary.write_summary_at.Goals as goal

pub returns-in-Ok-put : goal.returns-in-Ok-put
returns-in-Ok-put g c =
    let w = g.K.Sink.written in
    let f = g.K.Sink.faults in
    let puts = subst (λ r. Puts r (lines_joined c.in-Ok.summary) (w c.args.out.now) (w c.put.new.out) (f c.args.out.now) (f c.put.new.out)) c.in-Ok-put.is c.put.ensures in
    writes-all tt c.args.sys.now c.args.j.now c.in-Ok.summary c.in-Ok.ensures _ _ _ _ puts

pub returns-in-Ok : goal.returns-in-Ok
returns-in-Ok g c =
    let w = g.K.Sink.written in
    let f = g.K.Sink.faults in
    let puts = subst (λ r. Puts r (lines_joined c.in-Ok.summary) (w c.args.out.now) (w c.put.new.out) (f c.args.out.now) (f c.put.new.out)) c.in-Err-Failed.is c.put.ensures in
    writes-front tt c.args.sys.now c.args.j.now c.in-Ok.summary c.in-Ok.ensures _ _ _ _ puts

pub returns : goal.returns
returns g c = writes-none _ c.args.sys.now c.args.j.now _ _
