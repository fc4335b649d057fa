-- The lane of an object that rests, where nothing is left to be done.
use Rattle.std.proofs.Common.{◌≡◌, ℕ, Bool, true, false, List, [], ◌++◌, refl, sym, ◌∙◌, ap, subst, arith, None, append-nil}
use Rattle.std.specs.List.{list_all}
use Rattle.std.proofs.lemmas.Bool.{and_from}
use Rattle.qp_chart.specs.declared.checked.Chart.{Chart}
use Rattle.qp_model.specs.declared.systems.System.{System}
use Rattle.qp_model.specs.declared.systems.ObjectDef.{ObjectDef}
use Rattle.qp_model.specs.declared.bodies.Entry.{Entry}
use Rattle.qp_model.specs.Record.{Item}
use Rattle.qp_model.specs.Told.{ToldItem}
use Rattle.qp_model.specs.Acts.{Config}
use Rattle.qp_model.specs.Ends.{ends_last, may_cut}
use Rattle.qp_model.specs.End.{spents_follow, spills_state}
use Rattle.qp_model.specs.HomeLane.{is_home_lane}
use Rattle.qp_model.specs.ObjectShape.{CutGroups, Ends}
use Rattle.qp_model.specs.Course.{Whole, FollowsTo}
use Rattle.qp_model.proofs.ShapeLemmas.{groups-of}
use Rattle.qp_model_order.specs.SourceRun.{untold_all}
use Rattle.qp_model_order.proofs.CalmLemmas.{calm-all, calm-ends_last, calm-parts, calm-spents_follow, calm-states}
use Rattle.qp_kernel.specs.Stages as stage
use Rattle.qp_kernel.specs.ZeroEnds.{cut_in}
use Rattle.qp_kernel.proofs.WaitLemmas.{follows-resting}
use Rattle.qp_calls.specs.LaneView.{Own}
use Rattle.qp_port_law.specs.Homes.{HomeEnds, home_told, is_spent_home}
use Rattle.qp_port_law.specs.HomeLanes.{looks_in}
use Rattle.qp_port_law.specs.HomeLaws.{IsHomeOf, HomeRests}
use Rattle.qp_port_law.proofs.HomeRecords.{ends-asserts}
use Rattle.qp_port_law.proofs.HomeEnding.{looks-differ}

-- It is whole.
pub quiet-home : (sys : System) (d : ObjectDef) (chart : Chart) (budget end : ℕ) (own : Own) (looked : Bool) (told : List ToldItem) (es : List Entry) (points : ℕ) (c : Config) → IsHomeOf sys d chart
    → may_cut end ≡ false → HomeRests sys d chart budget own looked told es points c → HomeEnds sys d budget end told
unfolding is_home_lane ends_last spents_follow spills_state CutGroups
quiet-home sys d chart budget end own looked told es points c its late rests =
    let lane = rests.0 in
    let whole = rests.1 in
    let items : List Item = untold_all told in
    let none : items ++ [] ≡ items = append-nil items in
    let cut : cut_in end d.priority items ≡ Whole = rw late refl in
    let last : ends_last items ≡ true = ap ends_last (sym none) ∙ calm-ends_last items [] lane.calm refl in
    let took = lane.took in
    let few = lane.budgets in
    record {
      shape = record {
        groups =
            subst (λ x. CutGroups sys d.priority true x (home_told d.priority told)) (sym cut)
            (subst (CutGroups sys d.priority true Whole) (ap (λ x. whole.start ++ x) (append-nil whole.turns) ∙ sym whole.groups)
            (groups-of sys d.priority true false whole.start whole.turns [] whole.begins whole.goes (Ends refl)));
        last = ends-asserts d.priority told last;
      };
      home = subst (λ cuts. is_home_lane d.priority budget cuts items ≡ true) (sym late) (and_from _ _ (and_from _ _ lane.home lane.nils.differ) (looks-differ looked own (looks_in told) lane.looks));
      ps = whole.ps;
      bare_is = whole.bare_is;
      follows = subst (λ x. FollowsTo sys d x whole.ps) (sym cut) (follows-resting sys d chart its.its its.able es whole.ps (stage.Resting c) whole.comes refl);
      ends = last;
      spents = ap (spents_follow None) (sym none) ∙ calm-spents_follow items [] None lane.calm (λ s. refl);
      spent = ap (list_all (is_spent_home d.priority budget items)) (sym none) ∙ calm-all (is_spent_home d.priority budget items) items [] (λ i h. rw (calm-parts i.body h).1 refl) lane.calm refl;
      states = ap (spills_state 0) (sym none) ∙ calm-states 0 items [] lane.calm refl;
      budgets = omega (arith, took, few);
    }
