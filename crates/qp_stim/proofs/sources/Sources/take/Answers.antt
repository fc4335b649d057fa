use Rattle.std.proofs.Common.{◌∙◌, ◌∷◌, ◌++◌, [], ap, sym}
use Rattle.std.specs.Option.{option_to_list}
use Rattle.qp_stim.specs.Stimuli.{sources_after}
use Rattle.qp_stim.proofs.StimuliLemmas.{add_to_last-last}
use Rattle.qp_stim.proofs.sources.Sources.take.Goals as goal

pub returns-in_ok-push-in-Adds : goal.returns-in_ok-push-in-Adds
returns-in_ok-push-in-Adds c =
    let whole = c.args.self.now.whole.items in
    let source = c.in_ok-push-in-Adds.ensures.items ∙ ap (λ s. s ++ c.in-Adds.stim ∷ []) c.source.view_is in
    sym (ap (λ o. sources_after (whole ++ option_to_list o) c.args.step) c.in-Some-standing.is
    ∙ ap (sources_after (whole ++ c.in-Some-standing.source ∷ [])) c.in-Adds.is
    ∙ add_to_last-last c.in-Adds.stim whole c.in-Some-standing.source
    ∙ ap (λ s. whole ++ s ∷ []) (sym source))
