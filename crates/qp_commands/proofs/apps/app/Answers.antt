use Rattle.std.proofs.Common.{◌∙◌, ap, []}
use Rattle.std.proofs.lemmas.Result.{IfOk-weaker}
use Rattle.qp_commands.specs.WordTable.{plain_app}
use Rattle.qp_commands.specs.ByWord.{with_arguments}
use Rattle.qp_commands.proofs.apps.app.Goals as goal

pub returns : goal.returns
returns c =
    let begun = c.plain.ensures ∙ ap (λ text. plain_app text []) c.text_of.ensures in
    IfOk-weaker c.with_arguments.result _ _
    (λ m h. h ∙ (ap (λ app. with_arguments app c.arguments_of.result.now) begun ∙ c.arguments_of.ensures)) c.with_arguments.ensures
