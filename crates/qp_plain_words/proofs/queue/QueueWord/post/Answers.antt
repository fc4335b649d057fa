use Rattle.std.proofs.Common.{◌-◌, ap, ◌∙◌, arith}
use Rattle.std.specs.List.{list_all}
use Rattle.qp_plain_words.specs.Queue.{is_token}
use Rattle.qp_plain_words.proofs.TokenLemmas.{all-pushed}
use Rattle.qp_plain_words.proofs.queue.QueueWord.post.Goals as goal

pub invariant_of-self : goal.invariant_of-self
invariant_of-self c =
    let i = c.self.invariant in
    let is = c.push_back.ensures.items in
    let cap = ap (λ b. b.capacity) is in
    (omega (arith, cap, i.0), omega (arith, cap, i.1), ap (λ b. list_all is_token b.items) is ∙ all-pushed is_token _ c.self.inside.entries.items c.args.e i.2 c.requires.token)
