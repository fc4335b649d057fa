use Rattle.std.proofs.Common.{◌≡◌, ◌∙◌, ap, refl}
use Rattle.qp_model.specs.History.{lane_items}
use Rattle.qp_model.specs.Lawful.{facts_of}
use Rattle.qp_model.specs.Sources.{source_records}
use Rattle.qp_check.proofs.parts.is_source_lane.Goals as goal

pub returns : goal.returns
unfolding facts_of
returns c =
    let sys = c.args.sys.now in
    let j = c.args.j.now in
    let lane = lane_items c.args.lane.now in
    let told : c.deref-2.result.now ≡ source_records (facts_of sys j) lane =
    c.deref-2.ensures.value ∙ c.in_ok-told.ensures
    ∙ ap (λ s. source_records (facts_of s c.args.knowledge.now.journal.now) lane) c.requires.1
    ∙ ap (λ i. source_records (facts_of sys i) lane) c.requires.2 in
    let stimuli : c.deref.result.now ≡ c.args.source.now = c.deref.ensures.value ∙ c.source.view_is in
    rw (← stimuli) (c.in_ok-is.ensures (facts_of sys j) refl told)
