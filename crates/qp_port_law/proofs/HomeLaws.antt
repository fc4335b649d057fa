-- The laws of a home lane.
use Rattle.qp_model.specs.declared.bodies.Body.{Body}
use Rattle.qp_model.specs.OutputSummary.{CourseLeaves}
use Rattle.qp_model.specs.Pieces.{records_in}
use Rattle.qp_model.specs.Standing.{Leaves}
use Rattle.qp_kernel.specs.Stages.{ComesTo}
use Rattle.qp_calls.specs.LaneView.{own_after, own_of}
use Rattle.qp_kernel.proofs.BareLemmas.{own-append}
use Rattle.std.proofs.Common.{Bool, Some, [], ap, append-nil, arith, cond, false, refl, subst, sym, true, ◌++◌, ◌+◌, ◌==◌, ◌∙◌, ◌∷◌, ◌≡◌}
use Rattle.qp_model.specs.declared.bodies.Body.TheVariants as body
use Rattle.qp_model.specs.Told.{for_object, plain, told_took}
use Rattle.qp_model.specs.Course.{Course, actor, first_config}
use Rattle.qp_model.specs.Lawful.{dispatched}
use Rattle.qp_kernel.specs.ZeroEnds.{own_told}
use Rattle.qp_port_law.specs.Homes.{home_told}
use Rattle.qp_model.specs.ObjectShape.{FindsEmpty, LooksOnly}
use Rattle.qp_kernel.specs.Turning.{seen_told}
use Rattle.qp_kernel.proofs.TurnLemmas.{done-form, start-form}
use Rattle.qp_kernel.proofs.ZeroLemmas.{ends-told}
use Rattle.qp_port_law.specs.HomeLaws.{HasMore, OwnRises, RestingHomeLeaves, HomeStartCompletes, NilIsTold, LookIsTold, HomeStepBegins, HomeStepPauses, HomeStepEnds, UnstartedHomeEnds, HomeStartFails, HomeStartIsCut, RestingHomeEnds, FullHomeEnds, SpentHomeEnds, WaitingHomeEnds, HomeStepFails, HomeStepIsCut}
use Rattle.qp_port_law.specs.HomeLanes.{IsHomeLane}
use Rattle.qp_port_law.proofs.HomeRecords.{dispatched-append, home-of, own-of, other-zero}
use Rattle.qp_model.proofs.LineLemmas.{same_number}
use Rattle.qp_port_law.proofs.HomeGrows.{home-inside, home-look, home-new, home-nil, home-took, not-looked}
use Rattle.qp_port_law.proofs.HomeSteps.{done-calm, done-inside, part-done, part-point, part-took, point-inside, started-calm, started-inside, whole-mark, whole-started}
use Rattle.qp_port_law.proofs.HomeEnding.{full-ends, spent-ends, start-fails, start-is_cut, step-fails, step-is_cut, step-stops, unstarted-ends, waiting-ends}

pub home_starts : HomeStartCompletes
home_starts sys d chart budget own g c at starts =
    let form = start-form sys (actor d chart) (first_config d) g c starts in
    (home-inside d.priority budget own own [] [] g (omega arith) (omega arith) (home-new d.priority budget own) (started-inside g form) (ends-told d.priority g (started-calm g form)), whole-started sys d chart at.some g c starts)

pub nil_is_told : NilIsTold
nil_is_told sys d chart budget own looked told es points c f l m at l_is m_is empty another rests = (
  home-nil d.priority budget own looked told es f l m l_is m_is empty another rests.0,
  whole-mark sys d chart at.some told es points c (for_object d.priority (plain (body.Nil f l m))) (plain (body.Nil f l m)) (FindsEmpty f l m refl refl) (home-of d.priority (plain (body.Nil f l m) ∷ []) at.some)
      (ap dispatched (own-of d.priority (plain (body.Nil f l m) ∷ []))) rests.1,
)

pub look_is_told : LookIsTold
look_is_told sys d chart budget own told es points c f l m at l_is m_is empty spent rests = (
  home-look d.priority budget own told es f l m l_is m_is empty spent rests.0,
  whole-mark sys d chart at.some told es points c (seen_told d.priority f l m) (plain (body.Seen d.priority f l m)) (LooksOnly d.priority f l m refl refl) as_home as_own rests.1,
)
  where
    as_home : home_told d.priority (seen_told d.priority f l m ∷ []) ≡ plain (body.Seen d.priority f l m) ∷ []
    as_home = rw (same_number d.priority) (rw (same_number d.priority) refl)

    as_own : dispatched (own_told d.priority (seen_told d.priority f l m ∷ [])) ≡ []
    as_own = rw (other-zero d.priority at.some).1 refl

pub home_step_begins : HomeStepBegins
home_step_begins sys d chart budget own more looked told es points c f l m e ev at grows few rests = (
  subst (λ b. IsHomeLane d.priority budget more b (told ++ for_object d.priority (told_took f l m e ev) ∷ []) (es ++ e ∷ [])) (not-looked d.priority budget own looked told es rests.0 few)
      (home-took d.priority budget own more looked told es f l m e ev grows.l grows.m rests.0 few),
  part-took sys d chart at.some told es points c f l m e ev at.able rests.1,
)

pub home_step_pauses : HomeStepPauses
home_step_pauses sys d chart budget own more waits told es points ev e left later c after g at grows goes ready busy =
    let inside = point-inside sys d chart at.some waits told es points ev e left c busy.1 later after g goes ready in (
      home-inside d.priority budget own more told es g grows.l grows.m busy.0 inside.0 (ends-told d.priority g inside.1),
      part-point sys d chart at.some waits told es points ev e left c busy.1 later after g goes ready,
    )

pub home_step_ends : HomeStepEnds
home_step_ends sys d chart budget own more waits told es points ev e left c after g at grows goes busy =
    let form = done-form sys (actor d chart) ev e left c busy.1.ready.closing g after goes in (
      home-inside d.priority budget own more told es g grows.l grows.m busy.0 (done-inside g form) (ends-told d.priority g (done-calm g form)),
      part-done sys d chart at.some waits told es points ev e left c busy.1 after g goes,
    )

pub unstarted_home_ends : UnstartedHomeEnds
unstarted_home_ends sys d chart budget end at early = unstarted-ends sys d chart at.some at.its at.able budget end early

pub home_start_fails : HomeStartFails
home_start_fails sys d chart budget end g at early starts = start-fails sys d chart at.some at.its at.able budget end early g starts

pub home_start_is_cut : HomeStartIsCut
home_start_is_cut sys d chart budget end g n qs last at early left calm starts count many = start-is_cut sys d chart at.some at.its at.able budget end early g n qs last left calm starts count many

pub resting_home_ends : RestingHomeEnds
resting_home_ends sys d chart budget end own looked told es points c at early rests = waiting-ends sys d chart at.some at.its at.able budget end early own looked told es rests.0 points c rests.1

pub full_home_ends : FullHomeEnds
full_home_ends sys d chart budget end own looked told es points c n at early rests count many = full-ends sys d chart at.some at.its at.able budget end early own looked told es rests.0 points c rests.1 n count many

pub spent_home_ends : SpentHomeEnds
spent_home_ends sys d chart budget end own looked told es points c f l m at early rests l_is m_is entry spent =
    spent-ends sys d chart at.some at.its at.able budget end early own looked told es rests.0 points c rests.1 f l m l_is m_is entry spent

pub waiting_home_ends : WaitingHomeEnds
waiting_home_ends sys d chart budget end own looked told es points ev e left c at early busy = step-stops sys d chart at.some at.its at.able budget end early own looked told es busy.0 true points ev e left c busy.1 refl

pub home_step_fails : HomeStepFails
home_step_fails sys d chart budget end own looked waits told es points ev e left c g at early busy goes =
    step-fails sys d chart at.some at.its at.able budget end early own looked told es busy.0 waits points ev e left c busy.1 g goes

pub home_step_is_cut : HomeStepIsCut
home_step_is_cut sys d chart budget end own looked waits told es points ev e left c g n qs last at early busy calm goes count many =
    step-is_cut sys d chart at.some at.its at.able budget end early own looked told es busy.0 waits points ev e left c busy.1 g n qs last calm goes count many

pub own_rises : OwnRises
unfolding own_after
own_rises a own [] = record { l = omega arith; m = omega arith }
own_rises a own (t ∷ ts) =
    let later = own_rises a (own_of a own t.of t.told.body) ts in
    let one = by t.told.body in
    let low = one.l in
    let high = one.m in
    let l = later.l in
    let m = later.m in
    record { l = omega (arith, low, l); m = omega (arith, high, m) }
  where
    took : (b : Bool) → HasMore own (cond b (record { l = own.l; m = own.m + 1 }) own)
    took true = record { l = omega arith; m = omega arith }
    took false = record { l = omega arith; m = omega arith }

    posted : (b : Bool) → HasMore own (cond b (record { l = own.l + 1; m = own.m }) own)
    posted true = record { l = omega arith; m = omega arith }
    posted false = record { l = omega arith; m = omega arith }

    by : (b : Body) → HasMore own (own_of a own t.of b)
    by (body.Took f l m e) = took (t.of == a)
    by (body.Lifo f l m e) = posted (t.of == a)
    by _ = record { l = omega arith; m = omega arith }

pub resting_home_leaves : RestingHomeLeaves
unfolding CourseLeaves ComesTo Leaves records_in
resting_home_leaves sys d chart budget own looked told ts es points c rests none =
    let whole = rests.1 in (
      whole.ps,
      [],
      es,
      whole.bare_is
          ∙ sym (ap dispatched (own-append d.priority told ts) ∙ dispatched-append (own_told d.priority told) (own_told d.priority ts)
          ∙ ap (λ x. dispatched (own_told d.priority told) ++ x) none ∙ append-nil (dispatched (own_told d.priority told))),
      refl,
      subst (λ ps. Course sys (actor d chart) (first_config d) es ps (Some c)) (sym (append-nil whole.ps)) whole.comes.0,
    )
