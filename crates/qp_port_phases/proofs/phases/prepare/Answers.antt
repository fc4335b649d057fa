use Rattle.std.proofs.Common.{◌∙◌, sym}
use Rattle.qp_port_phases.proofs.Counting.{caused, keep-lost, keep-settles, tried-few}
use Rattle.qp_port_phases.proofs.Keeping.{keep-ready, keep-same, objects-still, same-then, together-first, together-others}
use Rattle.qp_port_phases.proofs.phases.prepare.Goals as goal

pub meet_all-requires-clause-together : goal.meet_all-requires-clause-together
meet_all-requires-clause-together g c =
    let laws = g.met.T.PhaseLane in
    let view = g.T.PhaseLane.view in
    together-first view (view c.args.first.now) (view c.pass_all-passed.new.first) (laws.same_table _ _ c.pass_all-passed.ensures.first.same) c.pass_all-passed.new.others
    (together-others view g.T.PhaseLane.same laws.same_table (view c.args.first.now) c.args.others.now c.pass_all-passed.new.others c.pass_all-passed.ensures.others c.requires.together)

pub are_empty-empty-requires-clause-objects : goal.are_empty-empty-requires-clause-objects
are_empty-empty-requires-clause-objects g c =
    let laws = g.met.T.PhaseLane in
    let same = laws.same_still _ _ _ c.pass_all-passed.ensures.first.same c.meet_all.ensures.first.same in
    objects-still (g.T.PhaseLane.view c.args.first.now) (g.T.PhaseLane.view c.meet_all.new.first) c.args.objects.now (laws.same_table _ _ same) c.requires.objects

pub returns : goal.returns
returns g c =
    let laws = g.met.T.PhaseLane in
    let numbers = g.T.PhaseLane.numbers in
    let tried = c.pass_all-passed.ensures in
    let met = c.meet_all.ensures in
    let looked = c.are_empty-empty.ensures in
    let same = looked.kept.numbers_still ∙ met.first.numbers_still ∙ tried.first.numbers_still in
    let settles = keep-settles numbers g.T.Worker.ready g.T.PhaseLane.same g.T.PhaseLane.waits g.T.PhaseLane.remains c.pass_all-passed.new.others c.meet_all.new.others met.others in
    let lost = keep-lost numbers g.T.Worker.ready g.T.PhaseLane.same g.T.PhaseLane.waits g.T.PhaseLane.remains c.pass_all-passed.new.others c.meet_all.new.others met.others in
    record {
      first = record {
        ready = looked.kept.ready;
        same = laws.same_still _ _ _ tried.first.same (laws.same_still _ _ _ met.first.same looked.kept.same);
        waits_still = looked.kept.waits_still ∙ met.first.waits_still ∙ tried.first.waits_still;
        remains_still = looked.kept.remains_still ∙ met.first.remains_still ∙ tried.first.remains_still;
        numbers_still = same;
      };
      ready = keep-ready g.T.Worker.ready g.T.PhaseLane.same g.T.PhaseLane.waits g.T.PhaseLane.remains numbers c.pass_all-passed.new.others c.meet_all.new.others met.others;
      others =
          same-then g.T.PhaseLane.same laws.same_still c.args.others.now c.pass_all-passed.new.others c.meet_all.new.others tried.others
          (keep-same g.T.Worker.ready g.T.PhaseLane.same g.T.PhaseLane.waits g.T.PhaseLane.remains numbers c.pass_all-passed.new.others c.meet_all.new.others met.others);
      few = tried-few numbers _ c.pass_all-passed.result c.args.first.now c.are_empty-empty.new.lane c.args.others.now c.pass_all-passed.new.others c.meet_all.new.others same tried.settles settles lost c.requires.few;
      cause = λ said.
          caused numbers g.T.PhaseLane.view c.args.objects.now c.pass_all-passed.result c.args.begun c.are_empty-empty.result c.args.first.now c.are_empty-empty.new.lane c.args.others.now c.pass_all-passed.new.others c.meet_all.new.others same tried.settles settles lost c.requires.few
          looked.entry (sym c.is_caused.ensures ∙ said);
    }
