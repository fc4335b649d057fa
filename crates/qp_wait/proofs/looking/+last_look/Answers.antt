use Rattle.std.proofs.Common.{◌∙◌, sym}
use Rattle.qp_wait.proofs.LastLook.{last-before, last-found, last-none}
use Rattle.qp_wait.proofs.looking.+last_look.Goals as goal

pub returns-in_default : goal.returns-in_default
returns-in_default t c = last-none c.args.me c.args.records.now c.in_default.ensures.cases

pub returns-then-is_empty_look : goal.returns-then-is_empty_look
returns-then-is_empty_look t c = last-found c.args.me c.args.records.now c.in-Some.front.now c.in-Some.last.now c.in-Some.ensures.cases.0 (sym c.is_empty_look.ensures ∙ c.if-is_empty_look.true)

pub returns : goal.returns
returns t c = last-before c.args.me c.args.records.now c.in-Some.front.now c.in-Some.last.now c.in-Some.ensures.cases.0 c.last_look.result (sym c.is_empty_look.ensures ∙ c.if-is_empty_look.false) c.last_look.ensures
