use Rattle.std.proofs.Common.{◌++◌, ◌∙◌, ap}
use Rattle.std.proofs.lemmas.Result.{IfOk-weaker}
use Rattle.std.specs.Prelude.{codes, decimal}
use Rattle.std.specs.List.{count_by}
use Rattle.qp_model.specs.OutputSummary.{is_new_of}
use Rattle.qp_summary.proofs.pools.pool_line.Goals as goal

pub returns-in-Some-back : goal.returns-in-Some-back
returns-in-Some-back c =
    let p = c.args.p in
    IfOk-weaker c.line_of.result _ _
    (λ line told size items are. told
    ∙ ap (λ n. codes "pool " ++ decimal p ++ codes " given " ++ decimal n ++ codes " back " ++ decimal c.in-Some-back.back ++ codes "\n") (c.in-Some.ensures size items are).1.is
    ∙ ap (λ n. codes "pool " ++ decimal p ++ codes " given " ++ decimal (count_by (λ i. is_new_of p i.body) items) ++ codes " back " ++ decimal n ++ codes "\n") (c.in-Some-back.ensures size items are).1.is)
    c.line_of.ensures
