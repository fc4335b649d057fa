use Rattle.std.proofs.Common.{◌≡◌, ◌++◌, ◌∷◌, List, ℕ, codes, decimal, ◌∙◌, append_assoc}
use Rattle.std.proofs.lemmas.Result.{IfOk-weaker}
use Rattle.qp_summary.proofs.objects.line_of.Goals as goal

-- the parts of a line, grouped from the right and from the left
parts : (name : List ℕ) (taken : ℕ) (text : List ℕ) → codes "object " ++ (name ++ (codes " " ++ (decimal taken ++ (codes " " ++ (text ++ codes "\n")))))
    ≡ codes "object " ++ name ++ 32 ∷ decimal taken ++ 32 ∷ text ++ codes "\n"
parts name taken text = simp append_assoc

pub returns : goal.returns
returns c = IfOk-weaker c.format.result _ _ (λ s h. h ∙ parts c.args.name.now c.args.taken c.args.text.now) c.format.ensures.ok
