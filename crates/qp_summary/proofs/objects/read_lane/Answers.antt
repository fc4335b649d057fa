use Rattle.std.proofs.Common.{◌≤◌, ◌+◌, ◌∙◌, ◌∷◌, List, sym, ap, subst, refl, arith, drop, Option}
use Rattle.std.specs.Option.{IfSome}
use Rattle.qp_model.specs.History.{lane_items}
use Rattle.qp_model.specs.Knowing.{ceiling_after, records_of}
use Rattle.qp_model.specs.Record.{item_of}
use Rattle.qp_model.specs.Told.{Told}
use Rattle.qp_check_knowledge.specs.Knowledge.{known_facts}
use Rattle.qp_summary.specs.Coming.{CourseComesTo, IsOnCourse}
use Rattle.qp_summary.specs.declared.coming.Came.{Came}
use Rattle.qp_summary.proofs.ComingLemmas.{records-mine, records-other, records-end}
use Rattle.qp_summary.proofs.objects.read_lane.Goals as goal
use Rattle.qp_summary.proofs.objects.read_lane.Goals.{then-r-d+in_ok-told+in_ok-next+in-Some-next, else-r-d}

pub loop-r-preserved : goal.loop-r-preserved
unfolding item_of
loop-r-preserved c =
    let sys = c.args.sys.now in
    let d = c.args.d.now in
    let k = known_facts c.args.knowledge.now in
    let lane = c.args.lane.now in
    let r = c.r-item.result in
    let i = c.loop-r.r-index in
    let all = records_of k d.priority 0 (lane_items lane) in
    let after = c.ceiling_after-ceiling.result in
    let behind = records_of k d.priority after (lane_items (drop (i + 1) lane)) in
    elim c.if-r-d.branch [
      | then-r-d+in_ok-told+in_ok-next+in-Some-next w ↦
          let mine = records-mine k d.priority c.loop-r.ceiling after lane i r c.loop-r-test.true c.r-item.is c.ceiling_after-ceiling.ensures w.if-r-d.true in
          let on = subst (λ (g : List Told). IsOnCourse sys d c.loop-r.came g all) (mine ∙ ap (λ t. t ∷ behind) (sym w.in_ok-told.ensures)) c.loop-r.invariant.on in
          let comes = subst (λ (o : Option Came). CourseComesTo c.loop-r.came w.in_ok-told.told o) w.in-Some-next.is w.in_ok-next.ensures.comes in
          let few = subst (λ (o : Option Came). IfSome o (λ x. x.taken ≤ c.loop-r.came.taken + 1)) w.in-Some-next.is w.in_ok-next.ensures.few in
          record {
            on = subst (λ (x : Came). IsOnCourse sys d x behind all) (sym w.came-is) (comes sys d behind all on);
            few = omega (arith, ap (λ (x : Came). x.taken) w.came-is, few, c.loop-r.invariant.few);
          }
      | else-r-d w ↦
          let other = records-other k d.priority c.loop-r.ceiling after lane i r c.loop-r-test.true c.r-item.is c.ceiling_after-ceiling.ensures w.if-r-d.false in
          let on = subst (λ (g : List Told). IsOnCourse sys d c.loop-r.came g all) other c.loop-r.invariant.on in
          record {
            on = subst (λ (x : Came). IsOnCourse sys d x behind all) (sym w.came-is) on;
            few = omega (arith, ap (λ (x : Came). x.taken) w.came-is, c.loop-r.invariant.few);
          }
    ]

pub returns-in-None : goal.returns-in-None
returns-in-None c =
    let sys = c.args.sys.now in
    let d = c.args.d.now in
    let k = known_facts c.args.knowledge.now in
    let lane = c.args.lane.now in
    let r = c.r-item.result in
    let i = c.loop-r.r-index in
    let all = records_of k d.priority 0 (lane_items lane) in
    let after = ceiling_after c.loop-r.ceiling (item_of r).body in
    let behind = records_of k d.priority after (lane_items (drop (i + 1) lane)) in
    let mine = records-mine k d.priority c.loop-r.ceiling after lane i r c.loop-r-test.true c.r-item.is refl c.if-r-d.true in
    let on = subst (λ (g : List Told). IsOnCourse sys d c.loop-r.came g all) (mine ∙ ap (λ t. t ∷ behind) (sym c.in_ok-told.ensures)) c.loop-r.invariant.on in
    let comes = subst (λ (o : Option Came). CourseComesTo c.loop-r.came c.in_ok-told.told o) c.in-None.is c.in_ok-next.ensures.comes in
    λ follow. comes sys d behind all on c.requires.followable follow

pub returns : goal.returns
returns c =
    let sys = c.args.sys.now in
    let d = c.args.d.now in
    let k = known_facts c.args.knowledge.now in
    let lane = c.args.lane.now in
    let all = records_of k d.priority 0 (lane_items lane) in
    subst (λ (g : List Told). IsOnCourse sys d c.loop-r.came g all) (records-end k d.priority c.loop-r.ceiling lane c.loop-r.r-index c.loop-r-test.false) c.loop-r.invariant.on
