use Rattle.std.proofs.Common.{ℕ, ◌∙◌, ap, subst}
use Rattle.qp_calls.specs.Notes.{spills_told}
use Rattle.qp_plain.specs.NewWorld.{GoesTo}
use Rattle.qp_kernel_runs.proofs.Beside.{there-sys, there-told}
use Rattle.qp_kernel_runs.proofs.Visited.{visited}
use Rattle.qp_kernel_runs.proofs.visiting.visit.Goals as goal

pub stimulus-answer-requires-clause-of : goal.stimulus-answer-requires-clause-of
stimulus-answer-requires-clause-of g c =
    there-sys c.args.source c.args.plain.now c.go-home.new.self c.by-former.new.self c.go-home.ensures.goes c.by-former.ensures.set ∙ c.requires.made_for

pub stimulus-answer-requires-clause-spills : goal.stimulus-answer-requires-clause-spills
stimulus-answer-requires-clause-spills g c =
    ap spills_told (there-told c.args.source c.args.plain.now c.go-home.new.self c.by-former.new.self c.requires.home c.requires.some c.go-home.ensures.goes c.by-former.ensures.set)
    ∙ c.requires.spills

pub returns : goal.returns
returns g c =
    visited c.args.source c.by-former.result c.args.plain.now c.go-home.new.self c.by-former.new.self c.stimulus-answer.new.ops c.by.new.self c.go.new.self c.requires.home c.requires.some
    c.requires.within c.go-home.ensures.goes c.by-former.ensures.set c.by-former.ensures.former c.by.ensures.set
    (subst (λ (n : ℕ). GoesTo n c.by.new.self c.go.new.self) (c.go-home.ensures.former ∙ c.requires.home) c.go.ensures.goes)
    c.args.sys.now c.args.s.now c.args.place c.args.look c.args.done.now.list c.then-now.result.list c.requires.tells c.then-now.ensures c.requires.rests c.requires.made_for
    c.stimulus-answer.ensures.own c.stimulus-answer.result c.stimulus-answer.ensures.stimulates
