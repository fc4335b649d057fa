-- What the actions of a sound chart name.
use Rattle.std.proofs.Common.{◌≡◌, ℕ, ◌+◌, ◌-◌, ◌≤◌, true, List, length, refl, sym, ◌∙◌, subst, arith, IsTrue, Option, None, Some}
use Rattle.std.specs.Prelude.{IsSome}
use Rattle.std.proofs.lemmas.Bool.{lt-ltb, le-leb}
use Rattle.std.proofs.lemmas.List.{length-map}
use Rattle.std.proofs.lemmas.Option.{slice_get_within}
use Rattle.qp_chart.specs.Expr.{Names}
use Rattle.qp_chart.specs.declared.expression.Bound.{Bound}
use Rattle.qp_chart.specs.declared.actions.Plain.{Plain}
use Rattle.qp_chart.specs.declared.actions.Plain.TheVariants as action
use Rattle.qp_chart.specs.declared.actions.Target.{Target}
use Rattle.qp_chart.specs.declared.actions.Target.TheVariants as target
use Rattle.qp_chart.specs.declared.checked.Chart.{Chart}
use Rattle.qp_model.specs.declared.systems.System.{System}
use Rattle.qp_model.specs.Told.{Event}
use Rattle.qp_model.specs.Calls.{object_of, values_of}
use Rattle.qp_model.specs.Parts.{is_static, timer_number}
use Rattle.qp_model.specs.Sound.{IsSound}
use Rattle.qp_model.specs.SoundChart.{IsReceiver, IsSoundEvent, IsSoundPlain, IsDeclared, IsTimer}
use Rattle.qp_model.specs.WordLaw.{is_object, is_signal}
use Rattle.qp_model.proofs.ListLemmas.{every-at}
use Rattle.qp_calls.specs.declared.tokens.HeldEntry.{HeldEntry}
use Rattle.qp_calls.specs.LaneView.{LaneView}
use Rattle.qp_calls.specs.Clauses.{IsEvent, Owns}
use Rattle.qp_dispatch.specs.SoundFor.{HasTimer, IsObjectWithTimers, MayAct}
use Rattle.qp_dispatch.specs.declared.part.Under.{Under}
use Rattle.qp_dispatch.specs.Parts.{IsPublishing}

pub receives : (sys : System) (me : ℕ) (chart : Chart) (to : Target) → IsObjectWithTimers sys me chart → IsReceiver sys to → IsTrue (is_object sys (object_of me to))
unfolding is_object
receives sys me chart target.Me home h = home.object
receives sys me chart (target.Object o) home h = rw h.1 refl

-- a signal has at most eight parameters
pub params-few : (sys : System) (chart : Chart) (inside : Option ℕ) (sig : ℕ) (pars : List Bound) (reserve : Option ℕ) → IsSound sys → IsSoundEvent sys chart inside sig pars reserve → length pars ≤ 8
params-few sys chart inside sig pars reserve sound e =
    let few = every-at (λ d. d.params ≤ 8) sys.signals sound.params (sig - 4) e.signal e.is_signal.1 in
    omega (arith, few, e.count)

-- a signal that is declared
pub declared : (sys : System) (sig : ℕ) → IsDeclared sys sig → IsTrue (is_signal sys sig)
declared sys sig d =
    let lt = slice_get_within sys.signals (sig - 4) d.0 d.1.1 in
    rw (le-leb 4 sig d.1.0, lt-ltb sig (length sys.signals + 4) (omega (arith, lt, d.1.0))) refl

-- the event of a sound action
pub sound-event : (sys : System) (chart : Chart) (inside : Option ℕ) (sig : ℕ) (pars : List Bound) (reserve : Option ℕ) (names : Names) (ev : Event)
    → IsSoundEvent sys chart inside sig pars reserve → ev ≡ record { sig = sig; pars = values_of names pars } → IsEvent sys ev
unfolding values_of
sound-event sys chart inside sig pars reserve names ev e is =
    let lt = slice_get_within sys.signals (sig - 4) e.signal e.is_signal.1 in
    rw is
    (record {
      from = e.is_signal.0;
      within = omega (arith, lt, e.is_signal.0);
      params = rw e.is_signal.1 (length-map pars _ ∙ e.count);
    })

-- a static signal asks for no reserve
pub sound-reserve : (sys : System) (chart : Chart) (inside : Option ℕ) (sig : ℕ) (pars : List Bound) (reserve : Option ℕ) → IsSoundEvent sys chart inside sig pars reserve
    → is_static sys sig ≡ true → reserve ≡ None
unfolding is_static
sound-reserve sys chart inside sig pars reserve e h =
    let fixed : e.signal.fixed ≡ true = rw (le-leb 4 sig e.is_signal.0, e.is_signal.1) at h in
    e.reserve_pooled fixed

-- the timer at a place of the object's chart
pub owns-timer : (sys : System) (me t place : ℕ) (v : LaneView) → v.sys ≡ sys → v.by ≡ me → t ≡ timer_number sys.timers me place → HasTimer sys me place → Owns v t
owns-timer sys me t place v of by is has =
    rw is
    (record {
      some = has.some;
      timer = has.timer;
      there = rw of has.there;
      owner = has.owner ∙ sym by;
    })

-- What an action that may be done names.

module _ (sys : System) (me : ℕ) (hand : Option HeldEntry) (p : Plain) (may : MayAct sys me hand p) where
  post-parts : (to : Target) (sig : ℕ) (pars : List Bound) (margin reserve : Option ℕ) → p ≡ action.Post to sig pars margin reserve
      → IsReceiver sys to × IsSoundEvent sys may.chart may.inside sig pars reserve
  unfolding IsSoundPlain
  post-parts to sig pars margin reserve is = subst (λ x. IsSoundPlain sys may.chart may.inside x) is may.plain

  pub post-to : (to : Target) (sig : ℕ) (pars : List Bound) (margin reserve : Option ℕ) (t : ℕ) → p ≡ action.Post to sig pars margin reserve → t ≡ object_of me to → IsTrue (is_object sys t)
  post-to to sig pars margin reserve t is at = rw at (receives sys me may.chart to may.home (post-parts to sig pars margin reserve is).0)

  pub post-event : (to : Target) (sig : ℕ) (pars : List Bound) (margin reserve : Option ℕ) → p ≡ action.Post to sig pars margin reserve → IsSoundEvent sys may.chart may.inside sig pars reserve
  post-event to sig pars margin reserve is = (post-parts to sig pars margin reserve is).1

  pub lifo-event : (sig : ℕ) (pars : List Bound) (reserve : Option ℕ) → p ≡ action.Lifo sig pars reserve → IsSoundEvent sys may.chart may.inside sig pars reserve
  unfolding IsSoundPlain
  lifo-event sig pars reserve is = subst (λ x. IsSoundPlain sys may.chart may.inside x) is may.plain

  pub publish-event : (sig : ℕ) (pars : List Bound) (reserve : Option ℕ) → p ≡ action.Publish sig pars reserve → IsSoundEvent sys may.chart may.inside sig pars reserve
  unfolding IsSoundPlain
  publish-event sig pars reserve is = subst (λ x. IsSoundPlain sys may.chart may.inside x) is may.plain

  pub event-few : (sig : ℕ) (pars : List Bound) (reserve : Option ℕ) (given : List Bound) → IsSoundEvent sys may.chart may.inside sig pars reserve → given ≡ pars → length given ≤ 8
  event-few sig pars reserve given e is = rw is (params-few sys may.chart may.inside sig pars reserve may.home.sound e)

  pub event-is : (sig : ℕ) (pars : List Bound) (reserve : Option ℕ) (given : List Bound) (names : Names) (ev : Event) → IsSoundEvent sys may.chart may.inside sig pars reserve → given ≡ pars
      → ev ≡ record { sig = sig; pars = values_of names given } → IsEvent sys ev
  event-is sig pars reserve given names ev e is at =
      sound-event sys may.chart may.inside sig pars reserve names ev e (subst (λ x. ev ≡ record { sig = sig; pars = values_of names x }) is at)

  pub event-reserve : (sig : ℕ) (pars : List Bound) (reserve : Option ℕ) (values : List ℕ) (ev : Event) → IsSoundEvent sys may.chart may.inside sig pars reserve
      → ev ≡ record { sig = sig; pars = values } → is_static sys ev.sig ≡ true → reserve ≡ None
  event-reserve sig pars reserve values ev e is fixed = sound-reserve sys may.chart may.inside sig pars reserve e (rw is at fixed)

  forward-parts : (to : Target) (margin : Option ℕ) → p ≡ action.Forward to margin → IsReceiver sys to × IsSome may.inside
  unfolding IsSoundPlain
  forward-parts to margin is = subst (λ x. IsSoundPlain sys may.chart may.inside x) is may.plain

  pub forward-to : (to : Target) (margin : Option ℕ) (t : ℕ) → p ≡ action.Forward to margin → t ≡ object_of me to → IsTrue (is_object sys t)
  forward-to to margin t is at = rw at (receives sys me may.chart to may.home (forward-parts to margin is).0)

  pub forward-hand : (to : Target) (margin : Option ℕ) → p ≡ action.Forward to margin → IsSome hand
  forward-hand to margin is = may.at_hand (forward-parts to margin is).1

  pub defer-hand : p ≡ action.Defer → IsSome hand
  unfolding IsSoundPlain
  defer-hand is = let inside : IsSoundPlain sys may.chart may.inside action.Defer = subst (λ x. IsSoundPlain sys may.chart may.inside x) is may.plain in may.at_hand inside

  pub subscribe-signal : (sig : ℕ) → p ≡ action.Subscribe sig → IsTrue (is_signal sys sig)
  unfolding IsSoundPlain
  subscribe-signal sig is = declared sys sig (subst (λ x. IsSoundPlain sys may.chart may.inside x) is may.plain)

  pub unsubscribe-signal : (sig : ℕ) → p ≡ action.Unsubscribe sig → IsTrue (is_signal sys sig)
  unfolding IsSoundPlain
  unsubscribe-signal sig is = declared sys sig (subst (λ x. IsSoundPlain sys may.chart may.inside x) is may.plain)

  has : (place : ℕ) → IsTimer may.chart place → HasTimer sys me place
  has place t = may.home.timers place t.0 t.1

  pub arm-timer : (place : ℕ) (ticks interval : Bound) → p ≡ action.Arm place ticks interval → HasTimer sys me place
  unfolding IsSoundPlain
  arm-timer place ticks interval is = let parts : IsSoundPlain sys may.chart may.inside (action.Arm place ticks interval) = subst (λ x. IsSoundPlain sys may.chart may.inside x) is may.plain in has place parts.0

  pub rearm-timer : (place : ℕ) (ticks : Bound) → p ≡ action.Rearm place ticks → HasTimer sys me place
  unfolding IsSoundPlain
  rearm-timer place ticks is = let parts : IsSoundPlain sys may.chart may.inside (action.Rearm place ticks) = subst (λ x. IsSoundPlain sys may.chart may.inside x) is may.plain in has place parts.0

  pub disarm-timer : (place : ℕ) → p ≡ action.Disarm place → HasTimer sys me place
  unfolding IsSoundPlain
  disarm-timer place is = has place (subst (λ x. IsSoundPlain sys may.chart may.inside x) is may.plain)

pub object-here : (sys here : System) (o : ℕ) → here ≡ sys → IsTrue (is_object sys o) → IsTrue (is_object here o)
object-here sys here o is h = rw is h

pub declared-here : (sys here : System) (sig : ℕ) → here ≡ sys → IsTrue (is_signal sys sig) → IsTrue (is_signal here sig)
declared-here sys here sig is h = rw is h

pub publishing-still : (u : Option Under) (v w : LaneView) → w.sys ≡ v.sys → IsPublishing u v → IsPublishing u w
publishing-still None v w same h = tt
publishing-still (Some u) v w same h = rw same h
