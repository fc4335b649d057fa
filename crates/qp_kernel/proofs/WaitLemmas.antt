-- An object whose list stops follows its chart.
use Rattle.std.proofs.Common.{◌≡◌, Bool, true, false, cond, List, [], ◌∷◌, ◌++◌, refl, sym, ◌∙◌, subst, inr, arith, Option, Some, None, append_assoc, append-nil}
use Rattle.qp_chart.specs.declared.checked.Chart.{Chart}
use Rattle.qp_model.specs.declared.systems.System.{System}
use Rattle.qp_model.specs.declared.systems.ObjectDef.{ObjectDef}
use Rattle.qp_model.specs.declared.bodies.Entry.{Entry}
use Rattle.qp_model.specs.Told.{Event}
use Rattle.qp_model.specs.Pieces.{Piece, Point}
use Rattle.qp_model.specs.Acts.{Config}
use Rattle.qp_model.specs.Able.{chart_able}
use Rattle.qp_model.specs.Step.{Remainder, StepGoesOn}
use Rattle.qp_model.specs.Course.{Starts, Course, Whole, Stopped, Anywhere, FollowsTo, actor, first_config, chart_at}
use Rattle.qp_model.specs.Standing.{Within, Leaves}
use Rattle.qp_model.proofs.AbleLemmas.{start-able}
use Rattle.qp_model.proofs.StepLemmas.{goes_on-completes, starts-completes}
use Rattle.qp_model.proofs.CourseLemmas.{follows-whole, follows-course, follows-stopped, follows-point, follows-anywhere, follows-none, course-start}
use Rattle.qp_model.proofs.ListLemmas.{nil-front}
use Rattle.qp_kernel.specs.Stages as stage
use Rattle.qp_kernel.specs.Stages.{Stage, ComesTo, may_wait, is_resting}
use Rattle.qp_kernel.specs.Turning.{IsWithinStep}
use Rattle.qp_kernel.proofs.StageLemmas.{comes-within}

-- the point that is owed, or none
abbrev pub point_if : Bool → List Piece
point_if b = cond b (Point ∷ []) []

-- a list that stops may be cut anywhere
pub stopped-anywhere : (sys : System) (d : ObjectDef) (ps : List Piece) → FollowsTo sys d Stopped ps → FollowsTo sys d Anywhere ps
unfolding FollowsTo
stopped-anywhere sys d ps h = (h.0, h.1)

module _ (sys : System) (d : ObjectDef) (chart : Chart) (is : chart_at sys d.chart ≡ Some chart) (able : chart_able sys chart ≡ true) where
  -- an object that hasn't started
  pub follows-unstarted : FollowsTo sys d Stopped []
  follows-unstarted =
      let start = starts-completes sys (actor d chart) (first_config d) (start-able sys chart able) (omega arith) in
      follows-none sys d chart is start.0 start.1 start.2

  -- one that rests is whole
  pub follows-resting : (es : List Entry) (ps : List Piece) (s : Stage) → ComesTo sys (actor d chart) (first_config d) es ps s → is_resting s ≡ true → FollowsTo sys d Whole ps
  unfolding ComesTo Leaves
  follows-resting es ps (stage.Resting c) h rests = follows-whole sys d chart is es ps c h.0
  follows-resting es ps _ h rests = absurd (cc)

  -- one that waits, whether or not it owes its point
  pub follows-waiting : (b : Bool) (es : List Entry) (ps : List Piece) (s : Stage) → ComesTo sys (actor d chart) (first_config d) es (ps ++ point_if b) s → may_wait s ≡ true → FollowsTo sys d Stopped ps
  unfolding ComesTo Leaves FollowsTo
  follows-waiting b es ps stage.Unstarted h waits = subst (FollowsTo sys d Stopped) (sym (nil-front ps (point_if b) h.0)) follows-unstarted
  follows-waiting true es ps (stage.Resting c) h waits = (Point ∷ [], follows-course sys d chart is es (ps ++ Point ∷ []) (Some c) h.0, inr refl)
  follows-waiting false es ps (stage.Resting c) h waits = follows-stopped sys d chart is es ps (Some c) (subst (λ x. Course sys (actor d chart) (first_config d) es x (Some c)) (append-nil ps) h.0)
  follows-waiting b es ps (stage.Begun ev e left c) h waits = absurd (cc)
  follows-waiting true es ps (stage.Paused ev e left c) h waits =
      (follows-point sys d chart is es ps ev e left c h.2 (goes_on-completes sys (actor d chart) ev e left c h.3.able h.3.room)).0
  follows-waiting false es ps (stage.Paused ev e left c) h waits =
      let same : ps ≡ h.0 ++ Point ∷ [] = sym (append-nil ps) ∙ h.1 in
      let goes : Leaves sys (actor d chart) (first_config d) es (h.0 ++ Point ∷ []) (Within ev e left c) =
      subst (λ x. Leaves sys (actor d chart) (first_config d) es x (Within ev e left c)) h.1 h.2 in
      subst (FollowsTo sys d Stopped) (sym same) (follows-point sys d chart is es h.0 ev e left c goes (goes_on-completes sys (actor d chart) ev e left c h.3.able h.3.room)).1

  -- one whose step ends in an assertion
  pub follows-failed : (es : List Entry) (ps : List Piece) (s : Stage) (ev : Event) (e : Entry) (left : Remainder) (c : Config) (g : List Piece) → IsWithinStep s ev e left c
      → ComesTo sys (actor d chart) (first_config d) es ps s → StepGoesOn sys (actor d chart) ev e left c g None → FollowsTo sys d Stopped (ps ++ g)
  unfolding Leaves
  follows-failed es ps s ev e left c g within h goes =
      follows-stopped sys d chart is es (ps ++ g) None ((comes-within sys (actor d chart) (first_config d) es ps s ev e left c within h).0 g None goes)

  -- one whose start does
  pub follows-failed_start : (es : List Entry) (ps : List Piece) (g : List Piece)
      → ComesTo sys (actor d chart) (first_config d) es ps stage.Unstarted → Starts sys (actor d chart) (first_config d) g None → FollowsTo sys d Stopped (ps ++ g)
  unfolding ComesTo
  follows-failed_start es ps g h starts = rw h.0 (follows-stopped sys d chart is [] g None (course-start sys (actor d chart) (first_config d) g None starts))

  -- one whose step is cut
  pub follows-cut : (es : List Entry) (ps : List Piece) (s : Stage) (ev : Event) (e : Entry) (left : Remainder) (c : Config) (g qs : List Piece) (end : Option Config) → IsWithinStep s ev e left c
      → ComesTo sys (actor d chart) (first_config d) es ps s → StepGoesOn sys (actor d chart) ev e left c (g ++ qs) end → FollowsTo sys d Anywhere (ps ++ g)
  unfolding Leaves
  follows-cut es ps s ev e left c g qs end within h goes =
      let whole = (comes-within sys (actor d chart) (first_config d) es ps s ev e left c within h).0 (g ++ qs) end goes in
      follows-anywhere sys d chart is es (ps ++ g) qs end (subst (λ x. Course sys (actor d chart) (first_config d) es x end) (sym (append_assoc ps g qs)) whole)

  -- one whose start is cut
  pub follows-cut_start : (es : List Entry) (ps : List Piece) (g qs : List Piece) (end : Option Config)
      → ComesTo sys (actor d chart) (first_config d) es ps stage.Unstarted → Starts sys (actor d chart) (first_config d) (g ++ qs) end → FollowsTo sys d Anywhere (ps ++ g)
  unfolding ComesTo
  follows-cut_start es ps g qs end h starts = rw h.0 (follows-anywhere sys d chart is [] g qs end (course-start sys (actor d chart) (first_config d) (g ++ qs) end starts))
