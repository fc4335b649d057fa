-- The actions of a sound chart have what they ask for: a pool for each event, and an entry in the rows alone.
use Rattle.std.proofs.Common.{◌≡◌, ℕ, pos, Bool, true, false, ◌&&◌, ◌||◌, List, [], ◌∷◌, length, refl, subst, Option, Some, None}
use Rattle.std.proofs.lemmas.Bool.{and_from}
use Rattle.std.proofs.lemmas.List.{length-map}
use Rattle.std.specs.Prelude.{IsSome, is_some, slice_get}
use Rattle.std.specs.List.{AllByRecursion, list_all}
use Rattle.qp_chart.specs.Expr.{Names}
use Rattle.qp_chart.specs.declared.expression.Bound.{Bound}
use Rattle.qp_chart.specs.declared.actions.Plain.{Plain}
use Rattle.qp_chart.specs.declared.actions.Plain.TheVariants as action
use Rattle.qp_chart.specs.declared.actions.Act.{Act}
use Rattle.qp_chart.specs.declared.actions.Act.TheVariants as act
use Rattle.qp_chart.specs.declared.checked.State.{State}
use Rattle.qp_chart.specs.declared.checked.Chart.{Chart}
use Rattle.qp_model.specs.declared.systems.System.{System}
use Rattle.qp_model.specs.Told.{Event}
use Rattle.qp_model.specs.Calls.{values_of}
use Rattle.qp_model.specs.Parts.{first_pool, is_static, sizes_of}
use Rattle.qp_model.specs.Able.{has_pool, is_able, act_able, state_able, chart_able}
use Rattle.qp_model.specs.Sound.{IsSound}
use Rattle.qp_model.specs.SoundChart.{IsSoundAct, IsSoundChart, IsSoundEvent, IsSoundPlain, IsSoundRow, IsSoundState}
use Rattle.qp_model.proofs.ListLemmas.{every-at}
use Rattle.qp_calls.proofs.FirstPool.{pool_of_sound}
use Rattle.qp_dispatch.specs.SoundFor.{IsObjectWithTimers}
use Rattle.qp_dispatch.specs.Resume.{CanTakeSteps}
use Rattle.qp_dispatch.proofs.Naming.{sound-event}
use Rattle.qp_dispatch.proofs.ReadyLemmas.{home-ready}

-- all of a list pass
all-pass : {X : Type 0} (P : X → Type 0) (f : X → Bool) → ((x : X) → P x → f x ≡ true) → (xs : List X) → AllByRecursion P xs → list_all f xs ≡ true
all-pass P f go [] h = refl
all-pass P f go (x ∷ xs) h = and_from (f x) (list_all f xs) (go x h.0) (all-pass P f go xs h.1)

-- `inside` is None where no entry is at hand
abbrev Inside : Bool → Option ℕ → Type 0
Inside at_hand inside = IsSome inside → at_hand ≡ true

no-names : Names
no-names = record { vars = []; pars = []; ok = pos 0; me = 0 }

module _ (sys : System) (sound : IsSound sys) (chart : Chart) where
  event-able : (inside : Option ℕ) (sig : ℕ) (pars : List Bound) (reserve : Option ℕ) → IsSoundEvent sys chart inside sig pars reserve → has_pool sys sig (length pars) ≡ true
  unfolding has_pool values_of
  event-able inside sig pars reserve e = go (is_static sys sig) refl
    where
      ev : Event
      ev = record { sig = sig; pars = values_of no-names pars }

      go : (b : Bool) → is_static sys sig ≡ b → (b || is_some (first_pool (sizes_of sys) (length pars))) ≡ true
      go true is = refl
      go false is =
          let pool = pool_of_sound sys ev sound (sound-event sys chart inside sig pars reserve no-names ev e refl) is in
          let same : length (values_of no-names pars) ≡ length pars = length-map pars _ in
          let first : first_pool (sizes_of sys) (length pars) ≡ Some pool.number = subst (λ n. first_pool (sizes_of sys) n ≡ Some pool.number) same pool.first in
          rw first refl

  plain-able : (at_hand : Bool) (inside : Option ℕ) → Inside at_hand inside → (p : Plain) → IsSoundPlain sys chart inside p → is_able sys at_hand p ≡ true
  unfolding is_able IsSoundPlain
  plain-able at_hand inside at (action.Post to sig pars margin reserve) h = event-able inside sig pars reserve h.1
  plain-able at_hand inside at (action.Lifo sig pars reserve) h = event-able inside sig pars reserve h
  plain-able at_hand inside at (action.Publish sig pars reserve) h = event-able inside sig pars reserve h
  plain-able at_hand inside at (action.Forward to margin) h = at h.1
  plain-able at_hand inside at action.Defer h = at h
  plain-able at_hand inside at (action.Set var value) h = refl
  plain-able at_hand inside at (action.Say value) h = refl
  plain-able at_hand inside at action.Recall h = refl
  plain-able at_hand inside at action.Flush h = refl
  plain-able at_hand inside at (action.Subscribe sig) h = refl
  plain-able at_hand inside at (action.Unsubscribe sig) h = refl
  plain-able at_hand inside at (action.Arm timer ticks interval) h = refl
  plain-able at_hand inside at (action.Rearm timer ticks) h = refl
  plain-able at_hand inside at (action.Disarm timer) h = refl

  act-passes : (at_hand : Bool) (inside : Option ℕ) → Inside at_hand inside → (x : Act) → IsSoundAct sys chart inside x → act_able sys at_hand x ≡ true
  unfolding act_able
  act-passes at_hand inside at (act.Plain p) h = plain-able at_hand inside at p h
  act-passes at_hand inside at (act.Locked c ps) h = all-pass (IsSoundPlain sys chart inside) (is_able sys at_hand) (plain-able at_hand inside at) ps h.2

  none-inside : Inside false None
  none-inside none = absurd (cc)

  outside : (xs : List Act) → AllByRecursion (IsSoundAct sys chart None) xs → list_all (act_able sys false) xs ≡ true
  outside xs h = all-pass (IsSoundAct sys chart None) (act_able sys false) (act-passes false None none-inside) xs h

  state-passes : (s : State) → IsSoundState sys chart s → state_able sys s ≡ true
  unfolding state_able
  state-passes s h =
      and_from ((list_all (act_able sys false) s.entry && list_all (act_able sys false) s.exit) && list_all (act_able sys false) s.init_do) (list_all (λ row. list_all (act_able sys true) row.acts) s.row)
      (and_from (list_all (act_able sys false) s.entry && list_all (act_able sys false) s.exit) (list_all (act_able sys false) s.init_do)
      (and_from (list_all (act_able sys false) s.entry) (list_all (act_able sys false) s.exit) (outside s.entry h.entry) (outside s.exit h.exit))
      (outside s.init_do h.init_do))
      (all-pass (IsSoundRow sys chart) (λ row. list_all (act_able sys true) row.acts)
      (λ row r. all-pass (IsSoundAct sys chart (Some r.signal.params)) (act_able sys true) (act-passes true (Some r.signal.params) (λ some. refl)) row.acts r.acts) s.row h.rows)

  pub sound-able : IsSoundChart sys chart → chart_able sys chart ≡ true
  unfolding chart_able
  sound-able h = and_from (list_all (act_able sys false) chart.init_do) (list_all (state_able sys) chart.state) (outside chart.init_do h.init_do) (all-pass (IsSoundState sys chart) (state_able sys) state-passes chart.state h.states)

-- an object with its chart, where the timers of its chart are the system's
pub sound-ready : (sys : System) (me : ℕ) (chart : Chart) (k : ℕ) → IsObjectWithTimers sys me chart → slice_get sys.charts k ≡ Some chart → CanTakeSteps sys me chart
sound-ready sys me chart k home is =
    let sound : IsSoundChart sys chart = every-at (IsSoundChart sys) sys.charts home.sound.charts k chart is in
    home-ready sys me chart home sound (sound-able sys home.sound chart sound)
