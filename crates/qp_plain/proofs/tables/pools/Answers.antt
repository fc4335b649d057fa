use Rattle.std.proofs.Common.{◌≡◌, ◌+◌, ◌≤◌, suc, ◌++◌, ◌∷◌, [], sym, ◌∙◌, ap, subst, arith}
use Rattle.qp_model.specs.Lists.{count_up}
use Rattle.qp_model.specs.Sites.{blocks_of}
use Rattle.qp_plain.specs.Fresh.{tabulated, free_pool}
use Rattle.qp_plain.proofs.FreshLemmas.{made-more}
use Rattle.qp_plain.proofs.tables.pools.Goals as goal

pub loop-k-init : goal.loop-k-init
unfolding tabulated
loop-k-init c = c.new-words.ensures.items

pub new-word-requires : goal.new-word-requires
new-word-requires c = subst (λ x. x ≤ 32) (sym c.blocks_of.ensures) (c.requires (c.loop-k.k + 1))

pub loop-k-preserved : goal.loop-k-preserved
loop-k-preserved c =
    let up : c.loop-k.k + 1 ≡ suc c.loop-k.k = omega arith in
    c.in-Ok.ensures.items ∙ ap (λ xs. xs ++ c.new-word.result ∷ []) c.loop-k.invariant
    ∙ made-more (free_pool c.args.sys.now) c.loop-k.k c.new-word.result
    (c.new-word.ensures ∙ ap (λ x. record { count = 0; free = count_up 0 x }) (c.blocks_of.ensures ∙ ap (blocks_of c.args.sys.now) up))
