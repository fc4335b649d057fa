use Rattle.std.proofs.Common.{◌/◌, ◌%◌, Bool, cond, sym, ap, ◌∙◌, eq-eqb, ne_eqb}
use Rattle.qp_model.specs.declared.bodies.Entry.{Entry}
use Rattle.qp_model.specs.Record.{entry}
use Rattle.qp_calls.specs.Tokens.{Hold}
use Rattle.qp_calls.specs.Clauses.{entry_of}
use Rattle.qp_shared_loops.proofs.takes.entry_in.Goals as goal

pub returns-then-pool-eq0-clause-value : goal.returns-then-pool-eq0-clause-value
unfolding entry_of
returns-then-pool-eq0-clause-value c =
    sym (ap (λ (t : Bool). cond {A = Entry} t (entry 0 (c.args.code % 65536) 0) (entry (c.args.code / 9007199254740992 % 16) (c.args.code / 281474976710656 % 32) (c.args.code % 281474976710656))) (eq-eqb (c.args.code / 9007199254740992 % 16) 0 c.if-pool-eq0.true))

pub returns-else-pool-eq0-clause-value : goal.returns-else-pool-eq0-clause-value
unfolding entry_of
returns-else-pool-eq0-clause-value c =
    ap (λ (h : Hold). entry h.pool h.block h.name) c.of.ensures
    ∙ sym (ap (λ (t : Bool). cond {A = Entry} t (entry 0 (c.args.code % 65536) 0) (entry (c.args.code / 9007199254740992 % 16) (c.args.code / 281474976710656 % 32) (c.args.code % 281474976710656))) (ne_eqb (c.args.code / 9007199254740992 % 16) 0 c.if-pool-eq0.false))
