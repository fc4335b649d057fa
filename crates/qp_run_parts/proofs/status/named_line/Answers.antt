use Rattle.std.proofs.Common.{◌≡◌, ◌++◌, List, ℕ, codes, ◌∙◌, append_assoc}
use Rattle.std.proofs.lemmas.Result.{IfOk-weaker}
use Rattle.qp_run_parts.proofs.status.named_line.Goals as goal

-- the parts of a line, grouped from the right and from the left
parts : (word what : List ℕ) → codes "qp: " ++ (word ++ (codes ": " ++ (what ++ codes "\n"))) ≡ codes "qp: " ++ word ++ codes ": " ++ what ++ codes "\n"
parts word what = simp append_assoc

pub returns : goal.returns
returns c = IfOk-weaker c.format.result _ _ (λ s h. h ∙ parts c.args.name.now c.args.what.now) c.format.ensures.ok
