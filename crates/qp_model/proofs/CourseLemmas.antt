-- Courses grow step by step, and within a step piece by piece.
use Rattle.std.proofs.Common.{◌≡◌, ℕ, true, List, [], ◌∷◌, ◌++◌, refl, sym, ◌∙◌, ap, subst, inl, inr, Option, Some, None, append_assoc, append-nil}
use Rattle.qp_chart.specs.declared.checked.Chart.{Chart}
use Rattle.qp_model.specs.declared.systems.System.{System}
use Rattle.qp_model.specs.declared.systems.ObjectDef.{ObjectDef}
use Rattle.qp_model.specs.declared.bodies.Entry.{Entry}
use Rattle.qp_model.specs.Told.{Event, told_took}
use Rattle.qp_model.specs.Pieces.{Piece, Tell, Point, ends_at_point}
use Rattle.qp_model.specs.Acts.{Actor, Config}
use Rattle.qp_model.specs.Step.{Remainder, StepGoesOn, DoesLeft, StepBehind, Step, whole_step}
use Rattle.qp_model.specs.Course.{Starts, Steps, Course, Follows, FollowsAs, FollowsThrough, FollowsThroughAs, FollowsTo, Whole, Stopped, Anywhere, actor, first_config, chart_at}
use Rattle.qp_model.specs.Standing.{Between, Within, Leaves, StepAdvances}

-- a step more
pub steps-snoc : (sys : System) (a : Actor) (es : List Entry) (e : Entry) (c : Option Config) (mid : Config) (ps one : List Piece) (end : Option Config)
    → Steps sys a es c ps (Some mid) → Step sys a e mid one end → Steps sys a (es ++ e ∷ []) c (ps ++ one) end
unfolding Steps
steps-snoc sys a [] e None mid ps one end h k = let wrong : Some mid ≡ None = h.1 in absurd (cc)
steps-snoc sys a [] e (Some c) mid ps one end h k =
    let same : mid ≡ c = cc in
    (one, [], end, rw h.0 (sym (append-nil one)), subst (λ d. Step sys a e d one end) same k, (refl, refl))
steps-snoc sys a (x ∷ es) e None mid ps one end h k = absurd h
steps-snoc sys a (x ∷ es) e (Some c) mid ps one end h k =
    (h.0, h.1 ++ one, h.2, ap (λ zs. zs ++ one) h.3 ∙ append_assoc h.0 h.1 one, h.4, steps-snoc sys a es e h.2 mid h.1 one end h.5 k)

pub course-snoc : (sys : System) (a : Actor) (first : Config) (es : List Entry) (e : Entry) (mid : Config) (ps one : List Piece) (end : Option Config)
    → Course sys a first es ps (Some mid) → Step sys a e mid one end → Course sys a first (es ++ e ∷ []) (ps ++ one) end
unfolding Course
course-snoc sys a first es e mid ps one end h k =
    (h.0, h.1 ++ one, h.2, ap (λ zs. zs ++ one) h.3 ∙ append_assoc h.0 h.1 one, h.4, steps-snoc sys a es e h.2 mid h.1 one end h.5 k)

-- the start alone is a course over no entries
pub course-start : (sys : System) (a : Actor) (first : Config) (ps : List Piece) (end : Option Config) → Starts sys a first ps end → Course sys a first [] ps end
unfolding Course Steps
course-start sys a first ps end h = (ps, [], end, sym (append-nil ps), h, (refl, refl))

module _ (sys : System) (a : Actor) (first : Config) (es : List Entry) (ps : List Piece) where
  -- an entry is taken up
  pub leaves-took : (c : Config) (f l m : ℕ) (e : Entry) (ev : Event) → Leaves sys a first es ps (Between c)
      → Leaves sys a first (es ++ e ∷ []) (ps ++ Tell (told_took f l m e ev) ∷ [])
      (Within ev e (whole_step a c ev) c)
  unfolding Leaves StepGoesOn DoesLeft Step StepBehind whole_step
  leaves-took c f l m e ev h qs end k =
      rw append_assoc (course-snoc sys a first es e c ps (Tell (told_took f l m e ev) ∷ qs) end h (f, l, m, ev, qs, refl, k))

  -- a step under way goes on
  pub leaves-on : (ev : Event) (e : Entry) (left later : Remainder) (c d : Config) (g : List Piece)
      → StepAdvances sys a ev e left c g later d → Leaves sys a first es ps (Within ev e left c) → Leaves sys a first es (ps ++ g) (Within ev e later d)
  unfolding StepAdvances Leaves
  leaves-on ev e left later c d g go h qs end k = rw append_assoc (h (g ++ qs) end (go qs end k))

  -- a step under way runs to completion
  pub leaves-done : (ev : Event) (e : Entry) (left : Remainder) (c d : Config) (g : List Piece)
      → StepGoesOn sys a ev e left c g (Some d) → Leaves sys a first es ps (Within ev e left c) → Leaves sys a first es (ps ++ g) (Between d)
  unfolding Leaves
  leaves-done ev e left c d g k h = h g (Some d) k

-- a list that ends with a point ends at one
pub ends-point : (ps : List Piece) → ends_at_point (ps ++ Point ∷ []) ≡ true
unfolding ends_at_point
ends-point [] = refl
ends-point (Point ∷ []) = refl
ends-point (Tell t ∷ []) = refl
ends-point (p ∷ q ∷ ps) = inner p (ends-point (q ∷ ps))
  where
    inner : (p : Piece) → ends_at_point (q ∷ ps ++ Point ∷ []) ≡ true → ends_at_point (p ∷ q ∷ (ps ++ Point ∷ [])) ≡ true
    inner Point h = h
    inner (Tell t) h = h

-- a course to its end is a course
pub through-follows : (sys : System) (d : ObjectDef) (ps : List Piece) → FollowsThrough sys d ps → Follows sys d ps
unfolding Follows FollowsAs FollowsThrough FollowsThroughAs
through-follows sys d ps h = by (chart_at sys d.chart) h
  where
    by : (o : Option Chart) → FollowsThroughAs sys d o ps → FollowsAs sys d o ps
    by None k = absurd k
    by (Some chart) k = (k.0, Some k.1, k.2)

module _ (sys : System) (d : ObjectDef) (chart : Chart) (is : chart_at sys d.chart ≡ Some chart) where
  -- a course that comes to its end is whole
  pub follows-whole : (es : List Entry) (ps : List Piece) (end : Config) → Course sys (actor d chart) (first_config d) es ps (Some end) → FollowsTo sys d Whole ps
  unfolding FollowsTo FollowsThrough FollowsThroughAs
  follows-whole es ps end h = rw is (es, end, h)

  -- a course follows the chart
  pub follows-course : (es : List Entry) (ps : List Piece) (end : Option Config) → Course sys (actor d chart) (first_config d) es ps end → Follows sys d ps
  unfolding Follows FollowsAs
  follows-course es ps end h = rw is (es, end, h)

  -- and so it does where it stopped
  pub follows-stopped : (es : List Entry) (ps : List Piece) (end : Option Config) → Course sys (actor d chart) (first_config d) es ps end → FollowsTo sys d Stopped ps
  unfolding FollowsTo
  follows-stopped es ps end h = ([], rw append-nil (follows-course es ps end h), inr refl)

  -- a step that stopped at a point, whether its row has begun or not
  pub follows-point : (es : List Entry) (ps : List Piece) (ev : Event) (e : Entry) (left : Remainder) (c : Config)
      → Leaves sys (actor d chart) (first_config d) es (ps ++ Point ∷ []) (Within ev e left c)
      → (qs : List Piece) × (end : Option Config) × StepGoesOn sys (actor d chart) ev e left c qs end
      → FollowsTo sys d Stopped ps × FollowsTo sys d Stopped (ps ++ Point ∷ [])
  unfolding FollowsTo Leaves
  follows-point es ps ev e left c h rest =
      let whole = h rest.0 rest.1 rest.2 in
      let one : Follows sys d ((ps ++ Point ∷ []) ++ rest.0) = follows-course es _ rest.1 whole in
      ((Point ∷ rest.0, subst (λ zs. Follows sys d zs) (append_assoc ps (Point ∷ []) rest.0) one, inr refl), (rest.0, one, inl (ends-point ps)))

  -- a step that a `spill` cut
  pub follows-anywhere : (es : List Entry) (ps qs : List Piece) (end : Option Config)
      → Course sys (actor d chart) (first_config d) es (ps ++ qs) end → FollowsTo sys d Anywhere ps
  unfolding FollowsTo
  follows-anywhere es ps qs end h = (qs, follows-course es (ps ++ qs) end h)

  -- an object that hasn't started
  pub follows-none : (ps : List Piece) (end : Option Config) → Starts sys (actor d chart) (first_config d) ps end → FollowsTo sys d Stopped []
  unfolding FollowsTo ends_at_point
  follows-none ps end h = (ps, follows-course [] ps end (course-start sys (actor d chart) (first_config d) ps end h), inl refl)
