-- The objects of a sound system can be followed. What their charts ask for is there: a pool for each event, and an entry at hand
-- where one is forwarded or deferred.
use Rattle.std.proofs.Common.{◌≡◌, ◌∙◌, ℕ, ◌+◌, ◌-◌, ◌<◌, ◌≤◌, Bool, true, false, List, [], ◌∷◌, map, length, nat_le, Option, Some, None, cond, refl, arith}
use Rattle.std.specs.Prelude.{is_some}
use Rattle.std.specs.List.{AllByRecursion, list_all, list_any, position, position_or_len}
use Rattle.std.proofs.lemmas.Bool.{false≢true, le-leb, lt-ltb, or_right}
use Rattle.std.specs.Option.{option_map}
use Rattle.qp_chart.specs.declared.actions.Plain.{Plain}
use Rattle.qp_chart.specs.declared.actions.Plain.TheVariants as action
use Rattle.qp_chart.specs.declared.actions.Act.{Act}
use Rattle.qp_chart.specs.declared.actions.Act.TheVariants as act
use Rattle.qp_chart.specs.declared.checked.Row.{Row}
use Rattle.qp_chart.specs.declared.checked.State.{State}
use Rattle.qp_chart.specs.declared.checked.Chart.{Chart}
use Rattle.qp_chart.specs.declared.expression.Bound.{Bound}
use Rattle.qp_model.specs.declared.systems.PoolDef.{PoolDef}
use Rattle.qp_model.specs.declared.systems.SignalDef.{SignalDef}
use Rattle.qp_model.specs.declared.systems.System.{System}
use Rattle.qp_model.specs.Able.{act_able, chart_able, has_pool, is_able, state_able}
use Rattle.qp_model.specs.Parts.{first_pool, is_static, sizes_of}
use Rattle.qp_model.specs.declared.systems.ObjectDef.{ObjectDef}
use Rattle.qp_model.specs.Course.{chart_at}
use Rattle.qp_check_course.specs.Followable.{IsFollowable, with_eight}
use Rattle.qp_model.specs.Sound.{IsSound, IsSoundObject, IsSoundSignal}
use Rattle.qp_model.specs.SoundChart.{IsSignal, IsSoundAct, IsSoundChart, IsSoundEvent, IsSoundPlain, IsSoundRow, IsSoundState}
use Rattle.qp_model.proofs.ListLemmas.{each-at}

all-of : {A : Type 0} {P : A → Type 0} (p : A → Bool) → ((x : A) → P x → p x ≡ true) → (xs : List A) → AllByRecursion P xs → list_all p xs ≡ true
all-of p f [] all = refl
all-of p f (x ∷ xs) all = rw (f x all.0, all-of p f xs all.1) refl

cond-some : {A : Type 0} (b : Bool) (x : A) → is_some (cond b (Some x) None) ≡ b
cond-some true x = refl
cond-some false x = refl

-- some pool has room, so there is a first one
first-within : (n : ℕ) (pools : List PoolDef) → list_any (λ p. nat_le n p.size) pools ≡ true
    → position_or_len (λ size. nat_le n size) (map (λ d. d.size) pools) < length (map (λ d. d.size) pools)
first-within n [] some = absurd (false≢true some)
first-within n (p ∷ ps) some = by (nat_le n p.size) refl (first-within n ps)
  where
    by : (b : Bool) → nat_le n p.size ≡ b
        → (list_any (λ p. nat_le n p.size) ps ≡ true → position_or_len (λ size. nat_le n size) (map (λ d. d.size) ps) < length (map (λ d. d.size) ps))
        → position_or_len (λ size. nat_le n size) (map (λ d. d.size) (p ∷ ps)) < length (map (λ d. d.size) (p ∷ ps))
    by true e rest = rw e (omega arith)
    by false e rest = let within = rest (rw e at some) in rw e (omega (arith, within))

first-some : (n : ℕ) (pools : List PoolDef) → list_any (λ p. nat_le n p.size) pools ≡ true
    → is_some (position (λ size. nat_le n size) (map (λ d. d.size) pools)) ≡ true
first-some n pools some = cond-some _ _ ∙ lt-ltb _ _ (first-within n pools some)

map-some : {A B : Type 0} (f : A → B) (o : Option A) → is_some (option_map f o) ≡ is_some o
map-some f None = refl
map-some f (Some x) = refl

module _ (sys : System) (sound : IsSound sys) where
  its-pool : (sig : ℕ) (signal : SignalDef) → IsSignal sys sig signal → has_pool sys sig signal.params ≡ true
  unfolding has_pool is_static first_pool sizes_of
  its-pool sig signal is = by signal.fixed refl
    where
      its : IsSoundSignal sys.pools signal
      its = each-at (IsSoundSignal sys.pools) sys.signals (sig - 4) signal sound.signals is.1

      by : (b : Bool) → signal.fixed ≡ b → has_pool sys sig signal.params ≡ true
      by true e = rw (le-leb 4 sig is.0, is.1, e) refl
      by false e = rw (le-leb 4 sig is.0, is.1, e) (map-some (λ i. i + 1) _ ∙ first-some signal.params sys.pools (its.pooled e))

-- a chart of the system is able in another system that has a pool for each of its signals
module _ (sys target : System) (pooled : (sig : ℕ) (signal : SignalDef) → IsSignal sys sig signal → has_pool target sig signal.params ≡ true) where
  event-able : (chart : Chart) (inside : Option ℕ) (sig : ℕ) (pars : List Bound) (reserve : Option ℕ) → IsSoundEvent sys chart inside sig pars reserve
      → has_pool target sig (length pars) ≡ true
  event-able chart inside sig pars reserve event = rw event.count (pooled sig event.signal event.is_signal)

  plain-able : (chart : Chart) (inside : Option ℕ) (p : Plain) → IsSoundPlain sys chart inside p → is_able target (is_some inside) p ≡ true
  unfolding is_able IsSoundPlain
  plain-able chart inside (action.Post to sig pars margin reserve) is = event-able chart inside sig pars reserve is.1
  plain-able chart inside (action.Lifo sig pars reserve) is = event-able chart inside sig pars reserve is
  plain-able chart inside (action.Publish sig pars reserve) is = event-able chart inside sig pars reserve is
  plain-able chart inside (action.Forward to margin) is = is.1
  plain-able chart inside action.Defer is = is
  plain-able chart inside _ is = refl

  act-able : (chart : Chart) (inside : Option ℕ) (a : Act) → IsSoundAct sys chart inside a → act_able target (is_some inside) a ≡ true
  unfolding act_able
  act-able chart inside (act.Plain p) is = plain-able chart inside p is
  act-able chart inside (act.Locked ceiling ps) is = all-of (is_able target (is_some inside)) (plain-able chart inside) ps is.2

  row-able : (chart : Chart) (row : Row) → IsSoundRow sys chart row → list_all (act_able target true) row.acts ≡ true
  row-able chart row is = all-of (act_able target true) (act-able chart (Some is.signal.params)) row.acts is.acts

  state-able : (chart : Chart) (state : State) → IsSoundState sys chart state → state_able target state ≡ true
  unfolding state_able
  state-able chart state is =
      let acts = act-able chart None in
      rw (
        all-of (act_able target false) acts state.entry is.entry,
        all-of (act_able target false) acts state.exit is.exit,
        all-of (act_able target false) acts state.init_do is.init_do,
        all-of (λ row. list_all (act_able target true) row.acts) (row-able chart) state.row is.rows,
      ) refl

  chart-able : (chart : Chart) → IsSoundChart sys chart → chart_able target chart ≡ true
  unfolding chart_able
  chart-able chart is =
      rw (all-of (act_able target false) (act-able chart None) chart.init_do is.init_do, all-of (state_able target) (state-able chart) chart.state is.states) refl

-- so are they in the system itself, and where all events have at most eight parameters
module _ (sys : System) (sound : IsSound sys) where
  below-eight : (sig n : ℕ) → n ≤ 8 → has_pool with_eight sig n ≡ true
  unfolding has_pool is_static first_pool sizes_of
  below-eight sig n few =
      or_right (is_static with_eight sig) _ (map-some (λ i. i + 1) _ ∙ first-some n (record { size = 8; blocks = 1 } ∷ []) (rw (le-leb n 8 few) refl))

  eight-pool : (sig : ℕ) (signal : SignalDef) → IsSignal sys sig signal → has_pool with_eight sig signal.params ≡ true
  eight-pool sig signal is = below-eight sig signal.params (each-at (λ d. d.params ≤ 8) sys.signals (sig - 4) signal sound.params is.1)

  object-followable : (d : ObjectDef) → IsSoundObject sys.charts d → IsFollowable sys d
  object-followable d is = record {
    its = is.its;
    is_its = chart_is;
    able = chart-able sys sys (its-pool sys sound) is.its chart;
    few = chart-able sys with_eight eight-pool is.its chart;
  }
    where
      chart : IsSoundChart sys is.its
      chart = each-at (IsSoundChart sys) sys.charts (d.chart - 1) is.its sound.charts is.is_its

      chart_is : chart_at sys d.chart ≡ Some is.its
      chart_is = is.is_its

  each-followable : (ds : List ObjectDef) → AllByRecursion (IsSoundObject sys.charts) ds → AllByRecursion (IsFollowable sys) ds
  each-followable [] all = tt
  each-followable (d ∷ ds) all = (object-followable d all.0, each-followable ds all.1)

  pub sound-followable : AllByRecursion (IsFollowable sys) sys.objects
  sound-followable = each-followable sys.objects sound.objects
