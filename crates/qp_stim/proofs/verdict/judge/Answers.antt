use Rattle.std.proofs.Common.{◌∙◌, sym}
use Rattle.qp_stim.specs.Maps.{dictionary}
use Rattle.qp_stim.proofs.VerdictLemmas.{step_of-said, step_of-none, step_of-skipped}
use Rattle.qp_stim.proofs.verdict.judge.Goals as goal

pub returns-then-says_nothing : goal.returns-then-says_nothing
returns-then-says_nothing c =
    step_of-skipped (dictionary c.args.names.now) c.args.sources c.args.line.now (sym c.says_nothing.ensures ∙ c.if-says_nothing.true)

pub returns-in-None : goal.returns-in-None
returns-in-None c =
    step_of-none (dictionary c.args.names.now) c.args.sources c.args.line.now (sym c.says_nothing.ensures ∙ c.if-says_nothing.false)
    (sym c.heard.ensures ∙ c.in-None.is)

pub returns-in-Some : goal.returns-in-Some
returns-in-Some c =
    c.verdict.ensures
    ∙ step_of-said (dictionary c.args.names.now) c.args.sources c.args.line.now c.in-Some.said c.requires.few (sym c.says_nothing.ensures ∙ c.if-says_nothing.false)
    (sym c.heard.ensures ∙ c.in-Some.is)
