use Rattle.std.proofs.Common.{◌≡◌, ◌++◌, ℕ, codes, decimal, ◌∙◌, append_assoc}
use Rattle.std.proofs.lemmas.Result.{IfOk-weaker}
use Rattle.qp_summary.proofs.pools.line_of.Goals as goal

-- the parts of a line, grouped from the right and from the left
parts : (p given back : ℕ) → codes "pool " ++ (decimal p ++ (codes " given " ++ (decimal given ++ (codes " back " ++ (decimal back ++ codes "\n")))))
    ≡ codes "pool " ++ decimal p ++ codes " given " ++ decimal given ++ codes " back " ++ decimal back ++ codes "\n"
parts p given back = simp append_assoc

pub returns : goal.returns
returns c = IfOk-weaker c.format.result _ _ (λ s h. h ∙ parts c.args.p c.args.given c.args.back) c.format.ensures.ok
