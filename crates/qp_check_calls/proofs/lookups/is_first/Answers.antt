use Rattle.std.proofs.Common.{◌==◌, ◌+◌, ◌∙◌, ap, sym}
use Rattle.qp_check_calls.proofs.LookupLemmas.{first_pool-at, first_pool-none}
use Rattle.qp_check_calls.proofs.lookups.is_first.Goals as goal

pub returns-in-Some : goal.returns-in-Some
returns-in-Some c =
    ap (λ p. c.in-Some.place + 1 == p) c.from.ensures ∙ sym (first_pool-at c.args.pools.now c.args.n c.in-Some.place c.args.p c.in-Some.ensures)

pub returns-in-None : goal.returns-in-None
returns-in-None c = sym (first_pool-none c.args.pools.now c.args.n c.args.p c.in-None.ensures)
