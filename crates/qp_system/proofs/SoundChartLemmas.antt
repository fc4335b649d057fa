-- The charts of a system that was read are sound.
use Rattle.std.proofs.Common.{◌≡◌, ℕ, ℤ, pos, ◌+◌, ◌-◌, ◌<◌, ◌≤◌, ◌==◌, Bool, true, false, not, nat_le, List, [], ◌∷◌, length, map, get_or, ◌⊎◌, inl, inr, Some, None, refl, sym, ◌∙◌, ap, subst, arith}
use Rattle.std.specs.declared.option.Option.{Option}
use Rattle.std.specs.Option.{option_map, option_and_then, unwrap_or}
use Rattle.std.specs.List.{AllByRecursion, Contains, list_all, slice_get}
use Rattle.std.proofs.lemmas.Bool.{and_parts}
use Rattle.std.proofs.lemmas.List.{length-map}
use Rattle.std.proofs.lemmas.List.Elements.{recursion_from_All}
use Rattle.std.proofs.lemmas.List.Sorted.{Contains-permutation}
use Rattle.std.proofs.lemmas.Bool.Decides.{nat_tests}
use Rattle.std.proofs.lemmas.Option.{slice_get-map, slice_get_cases, slice_get_read}
use Rattle.qp_chart.specs.declared.expression.Bound.{Bound}
use Rattle.qp_chart.specs.declared.actions.Target.{Target}
use Rattle.qp_chart.specs.declared.actions.Plain as plain
use Rattle.qp_chart.specs.declared.actions.Act.{Act}
use Rattle.qp_chart_names.specs.declared.raw.RawChart.{RawChart}
use Rattle.qp_chart_names.specs.declared.raw.RawState.{RawState}
use Rattle.qp_chart_names.specs.declared.raw.RawRow.{RawRow}
use Rattle.qp_chart_names.specs.declared.raw.Names.{Names}
use Rattle.qp_chart_names.specs.declared.raw.ObjName.{ObjName}
use Rattle.qp_chart.specs.declared.checked.Row.{Row}
use Rattle.qp_chart.specs.declared.checked.State.{State}
use Rattle.qp_chart.specs.declared.checked.Chart.{Chart}
use Rattle.qp_chart_text.specs.Terms.{Term, Address, ToMe, ToObject, EventTerm, Order, Set, Say, Post, Lifo, Forward, Publish, Defer, Recall, Flush, Subscribe, Unsubscribe, Arm, Rearm, Disarm, Command, Plain, Locked}
use Rattle.qp_chart_names.specs.ActionFaults.{is_between, is_static_name, params_of_name, params_in, reserve_allowed, event_fits, order_in_range, order_fits, command_in_range, command_fits}
use Rattle.qp_chart.specs.ActionOf.{IsBoundOf, IsTargetOf, IsEventOf, IsByteOf, IsPlainOf, IsActOf, IsActOfText, IsGuardOf}
use Rattle.qp_chart.specs.ChartOf.{AreActsOf, IsRowOf, IsStateOf, IsChartOf}
use Rattle.qp_chart.proofs.LegalLemmas.{Corresponds-length}
use Rattle.qp_chart_names.specs.RawNumbers.{Refers}
use Rattle.qp_chart_names.specs.Numbering.{number_in}
use Rattle.qp_chart_names.specs.Readable.{IsReadableRow, IsReadableState}
use Rattle.qp_chart_names.specs.RawNumbers.{state_names, timer_names, variable_names, signal_names, object_names, state_number, timer_by_name, signal_number, signal_named, object_named}
use Rattle.qp_chart_names.proofs.NumberingLemmas.{number_in-above, number_in-below}
use Rattle.qp_model.specs.declared.systems.SignalDef.{SignalDef}
use Rattle.qp_model.specs.declared.systems.System.{System}
use Rattle.qp_model.specs.Sites.{object_at}
use Rattle.qp_system_tables.specs.declared.raw.RawObject.{RawObject}
use Rattle.qp_system_tables.specs.declared.raw.RawSystem.{RawSystem}
use Rattle.qp_system_tables.specs.Few.{IsFewChart}
use Rattle.qp_model.specs.SoundChart.{IsSignal, IsDeclared, IsState, IsReceiver, IsTimer, NamesKnown, IsSoundEvent, IsSoundPlain, IsSoundAct, IsSoundGuard, IsSoundRow, IsSoundState, IsSoundChart}
use Rattle.qp_model.proofs.ListLemmas.{every-at}
use Rattle.qp_system.specs.SystemOf.{IsObjectOf, AreObjectsOf}
use Rattle.qp_system.specs.Within.{signal_name, object_name, outer_names}
use Rattle.qp_system.proofs.TimerLemmas.{IsOwned, each-owned}
use Rattle.qp_system.proofs.PairLemmas.{Corresponds-each, Corresponds-every, Corresponds-partner}

-- two tests that pass for all
all-pass : {A : Type 0} (p q : A → Bool) (xs : List A) → list_all p xs ≡ true → list_all q xs ≡ true → AllByRecursion (λ x. (p x ≡ true) × (q x ≡ true)) xs
all-pass p q [] h k = tt
all-pass p q (x ∷ xs) h k =
    let a = and_parts (p x) (list_all p xs) h in
    let b = and_parts (q x) (list_all q xs) k in
    ((a.0, b.0), all-pass p q xs a.1 b.1)

module _ (sys : System) (raw : RawSystem) (signals : sys.signals ≡ raw.signals) (objects : AreObjectsOf raw.charts raw.objects sys.objects) where
  abbrev names : Names
  names = outer_names raw.signals raw.objects

  -- a name with a number is that of a signal
  declared : (q : List ℕ) (sig : ℕ) → signal_number names q ≡ Some sig → (s : SignalDef) × IsSignal sys sig s × (signal_named names q ≡ Some (signal_name s))
  unfolding signal_named
  declared q sig h = by (slice_get_cases raw.signals (sig - 4)).1
    where
      low : 4 ≤ sig
      low = number_in-above 4 (signal_names names.signals) q sig h

      high : sig < 4 + length raw.signals
      high =
          let below = number_in-below 4 (signal_names names.signals) q sig h in
          let count = length-map raw.signals signal_name in
          let again = length-map (map signal_name raw.signals) (λ (s : _). s.name) in
          omega (arith, below, count, again)

      by : ((x : SignalDef) × (sig - 4 < length raw.signals) × (slice_get raw.signals (sig - 4) ≡ Some x) × (get_or raw.signals (sig - 4) x ≡ x)) ⊎ ((length raw.signals ≤ sig - 4) × (slice_get raw.signals (sig - 4) ≡ None))
          → (s : SignalDef) × IsSignal sys sig s × (option_and_then (λ m. slice_get names.signals (m - 4)) (signal_number names q) ≡ Some (signal_name s))
      by (inl found) = (
        found.0,
        (low, rw signals found.2),
        ap (option_and_then (λ m. slice_get names.signals (m - 4))) h ∙ slice_get-map signal_name raw.signals (sig - 4) ∙ ap (option_map signal_name) found.2,
      )
      by (inr past) = absurd (omega (arith, past.0, low, high))

  params-is : (q : List ℕ) (s : SignalDef) → signal_named names q ≡ Some (signal_name s) → params_of_name names q ≡ s.params
  params-is q s h = ap (λ o. unwrap_or (option_map (λ t. t.params) o) 0) h

  static-is : (q : List ℕ) (s : SignalDef) → signal_named names q ≡ Some (signal_name s) → is_static_name names q ≡ s.fixed
  static-is q s h = ap (λ o. unwrap_or (option_map (λ t. t.fixed) o) false) h

  -- an object of the file is one of the system
  owned : (o : RawObject) (i : ℕ) → slice_get raw.objects i ≡ Some o → IsOwned sys.objects o.priority
  owned o i at = by (slice_get_cases raw.objects i).1
    where
      of-order : Contains objects.order o → IsOwned sys.objects o.priority
      of-order (k, inside, is) =
          let partner = Corresponds-partner (IsObjectOf raw.charts) objects.order sys.objects objects.each k o (slice_get_read objects.order (length objects.order) k o refl inside (sym is)) in
          subst (IsOwned sys.objects) partner.2.priority (every-at (λ d. IsOwned sys.objects d.priority) sys.objects (each-owned sys.objects) k partner.0 partner.1)

      by : ((x : RawObject) × (i < length raw.objects) × (slice_get raw.objects i ≡ Some x) × (get_or raw.objects i x ≡ x)) ⊎ ((length raw.objects ≤ i) × (slice_get raw.objects i ≡ None)) → IsOwned sys.objects o.priority
      by (inl found) =
          let same : found.0 ≡ o = cc in
          let there : get_or raw.objects i o ≡ o = subst (λ x. get_or raw.objects i x ≡ x) same found.3 in
          of-order (Contains-permutation raw.objects objects.order o objects.same (i, found.1, there))
      by (inr past) = cc

  receiver-name : (name : List ℕ) (object : ObjName) → object_named names name ≡ Some object → IsOwned sys.objects object.priority
  unfolding object_named
  receiver-name name object h = by (number_in 0 (object_names names.objects) name) h
    where
      at : (i : ℕ) (o : Option RawObject) → slice_get raw.objects i ≡ o → option_map object_name o ≡ Some object → IsOwned sys.objects object.priority
      at i None found e = cc
      at i (Some o) found e =
          let same : object_name o ≡ object = cc in
          subst (IsOwned sys.objects) (ap (λ n. n.priority) same) (owned o i found)

      by : (k : Option ℕ) → option_and_then (λ place. slice_get names.objects place) k ≡ Some object → IsOwned sys.objects object.priority
      by None e = cc
      by (Some i) e = at i (slice_get raw.objects i) refl (sym (slice_get-map object_name raw.objects i) ∙ e)

  receiver : (address : Address) (to : Target) → IsTargetOf names address to → IsReceiver sys to
  unfolding object_at
  receiver ToMe to h = rw h tt
  receiver (ToObject name) to (object, found, is) = rw is (receiver-name name object found)

  module _ (c : RawChart) (chart : Chart) (vars : chart.vars ≡ c.vars) (timers : length c.timer ≡ length chart.timer) (states : length c.state ≡ length chart.state) where
    var-count : length (variable_names c.vars) ≡ length chart.vars
    var-count = length-map c.vars (λ (v : (List ℕ) × ℤ). v.0) ∙ sym (ap length vars)

    reaches : (inside : Option ℕ) (e : Term) (b : Bound) → IsBoundOf c (params_in inside) e b → NamesKnown chart inside b
    reaches inside e b h = rw var-count at h.in_range

    state-inside : (q : List ℕ) (s : ℕ) → state_number c q ≡ Some s → IsState chart (Some s)
    state-inside q s h =
        let low = number_in-above 1 (state_names c.state) q s h in
        let high = number_in-below 1 (state_names c.state) q s h in
        (low, omega (arith, high, states, length-map c.state (λ (s : RawState). s.name)))

    timer-inside : (q : List ℕ) (t : ℕ) → timer_by_name c q ≡ Some t → IsTimer chart t
    timer-inside q t h =
        let low = number_in-above 1 (timer_names c.timer) q t h in
        let high = number_in-below 1 (timer_names c.timer) q t h in
        (low, omega (arith, high, timers, length-map c.timer (λ (t : _). t.name)))

    state-key : (x : Option (List ℕ)) (s : Option ℕ) → Refers (state_number c) x s → IsState chart s
    state-key x None h = tt
    state-key None (Some s) h = absurd h
    state-key (Some name) (Some s) h = state-inside name s h

    -- a parent is a state of the chart
    parent-inside : (x : Option (List ℕ)) → IsState chart (option_and_then (λ name. state_number c name) x)
    parent-inside None = tt
    parent-inside (Some name) = by (state_number c name) refl
      where
        by : (n : Option ℕ) → state_number c name ≡ n → IsState chart n
        by None is = tt
        by (Some s) is = state-inside name s is

    free-reserve : (s : SignalDef) (event : EventTerm) (z : Option ℤ) (r : Option ℕ) → is_static_name names event.signal ≡ s.fixed → reserve_allowed names event z ≡ true → IsByteOf z r → s.fixed ≡ true → r ≡ None
    free-reserve s event z None static allowed byte fixed = refl
    free-reserve s event z (Some n) static allowed byte fixed =
        let here : reserve_allowed names event (Some (pos n)) ≡ true = subst (λ y. reserve_allowed names event y ≡ true) byte allowed in
        let second : not (is_static_name names event.signal) ≡ true = (and_parts (is_between 0 255 (pos n)) (not (is_static_name names event.signal)) here).1 in
        let no : true ≡ false = sym second ∙ ap not (static ∙ fixed) in
        cc

    event : (inside : Option ℕ) (e : EventTerm) (sig : ℕ) (pars : List Bound) (z : Option ℤ) (r : Option ℕ) → IsEventOf names c (params_in inside) e sig pars
        → event_fits names (params_in inside) e ≡ true → reserve_allowed names e z ≡ true → IsByteOf z r → IsSoundEvent sys chart inside sig pars r
    event inside e sig pars z r made fits allowed byte =
        let s = declared e.signal sig made.signal_is in
        let test : (length e.pars == params_of_name names e.signal) ≡ true = (and_parts _ _ fits).0 in
        let count : length e.pars ≡ params_of_name names e.signal = grind (arith, nat_tests, test) in
        record {
          signal = s.0;
          is_signal = s.1;
          count = sym (Corresponds-length (IsBoundOf c (params_in inside)) e.pars pars made.pars_are) ∙ count ∙ params-is e.signal s.0 s.2;
          each = Corresponds-each (IsBoundOf c (params_in inside)) (NamesKnown chart inside) (λ t b h. reaches inside t b h) e.pars pars made.pars_are;
          reserve_pooled = free-reserve s.0 e z r (static-is e.signal s.0 s.2) allowed byte;
        }

    signal-declared : (q : List ℕ) (sig : ℕ) → signal_number names q ≡ Some sig → IsDeclared sys sig
    signal-declared q sig h = let s = declared q sig h in (s.0, s.1)

    plain-sound : (inside : Option ℕ) (order : Order) (p : plain.Plain) → IsPlainOf names c (params_in inside) order p → order_in_range names order ≡ true → order_fits names inside order ≡ true → IsSoundPlain sys chart inside p
    unfolding IsPlainOf order_in_range order_fits IsSoundPlain
    plain-sound inside (Set var value) p (v, b, is, number, binds) range fits =
        let below = number_in-below 0 (variable_names c.vars) var v number in
        rw is (omega (arith, below, var-count), reaches inside value b binds)
    plain-sound inside (Say value) p (b, is, binds) range fits = rw is (reaches inside value b binds)
    plain-sound inside (Post address e margin reserve) p (to, sig, pars, m, r, is, target, made, mb, rb) range fits =
        rw is (receiver address to target, event inside e sig pars reserve r made fits (and_parts _ _ range).1 rb)
    plain-sound inside (Lifo e reserve) p (sig, pars, r, is, made, rb) range fits = rw is (event inside e sig pars reserve r made fits range rb)
    plain-sound inside (Forward address margin) p (to, m, is, target, mb) range fits = rw is (receiver address to target, fits)
    plain-sound inside (Publish e reserve) p (sig, pars, r, is, made, rb) range fits = rw is (event inside e sig pars reserve r made fits range rb)
    plain-sound inside Defer p is range fits = rw is fits
    plain-sound inside Recall p is range fits = rw is tt
    plain-sound inside Flush p is range fits = rw is tt
    plain-sound inside (Subscribe name) p (sig, is, number) range fits = rw is (signal-declared name sig number)
    plain-sound inside (Unsubscribe name) p (sig, is, number) range fits = rw is (signal-declared name sig number)
    plain-sound inside (Arm name ticks interval) p (t, a, b, is, number, first, second) range fits = rw is (timer-inside name t number, reaches inside ticks a first, reaches inside interval b second)
    plain-sound inside (Rearm name ticks) p (t, a, is, number, first) range fits = rw is (timer-inside name t number, reaches inside ticks a first)
    plain-sound inside (Disarm name) p (t, is, number) range fits = rw is (timer-inside name t number)

    ceiling-inside : (z : ℤ) (n : ℕ) → is_between 1 32 z ≡ true → z ≡ pos n → (1 ≤ n) × (n ≤ 32)
    ceiling-inside z n h e =
        let both = and_parts _ _ (rw e at h) in
        let low : nat_le 1 n ≡ true = both.0 in
        let high : nat_le n 32 ≡ true = both.1 in
        (grind (arith, nat_tests, low), grind (arith, nat_tests, high))

    act-sound : (inside : Option ℕ) (command : Command) (a : Act) → IsActOf names c (params_in inside) command a → command_in_range names command ≡ true → command_fits names inside command ≡ true → IsSoundAct sys chart inside a
    unfolding IsActOf command_in_range command_fits
    act-sound inside (Plain order) a (p, is, made) range fits = rw is (plain-sound inside order p made range fits)
    act-sound inside (Locked number orders) a (ceiling, ps, is, same, made) range fits =
        let two = and_parts _ _ range in
        let bounds = ceiling-inside number ceiling two.0 same in
        rw is (
          bounds.0,
          bounds.1,
          Corresponds-every (IsPlainOf names c (params_in inside)) (λ order. (order_in_range names order ≡ true) × (order_fits names inside order ≡ true)) (IsSoundPlain sys chart inside)
              (λ order p h k. plain-sound inside order p h k.0 k.1) orders ps made (all-pass (order_in_range names) (order_fits names inside) orders two.1 fits),
        )

    acts-sound : (inside : Option ℕ) (texts : List (List ℕ)) (acts : List Act) → AreActsOf names c inside texts acts → AllByRecursion (IsSoundAct sys chart inside) acts
    acts-sound inside texts acts made =
        Corresponds-each (IsActOfText names c inside) (IsSoundAct sys chart inside) (λ text a h. act-sound inside h.command a h.made h.in_range h.fits) texts acts made

    guard-sound : (params : ℕ) (text : Option (List ℕ)) (b : Option Bound) → IsGuardOf c params text b → IsSoundGuard chart params b
    guard-sound params text None h = tt
    guard-sound params None (Some b) h = absurd h
    guard-sound params (Some text) (Some b) h = reaches (Some params) h.term b h.made

    -- a list of actions is as long as that of its texts
    acts-few : (inside : Option ℕ) (texts : List (List ℕ)) (acts : List Act) → AreActsOf names c inside texts acts → length texts ≤ 16 → length acts ≤ 16
    acts-few inside texts acts made few = rw (sym (Corresponds-length (IsActOfText names c inside) texts acts made)) few

    row-sound : (x : RawRow) (r : Row) → IsRowOf names c x r → IsReadableRow x → IsSoundRow sys chart r
    row-sound x r made few =
        let s = declared x.on r.on made.on in
        let params = params-is x.on s.0 s.2 in
        record {
          signal = s.0;
          on = s.1;
          when = guard-sound s.0.params x.when r.when (subst (λ n. IsGuardOf c n x.when r.when) params made.when);
          few_acts = acts-few (Some (params_of_name names x.on)) x.acts r.acts made.acts few;
          acts = acts-sound (Some s.0.params) x.acts r.acts (subst (λ n. AreActsOf names c (Some n) x.acts r.acts) params made.acts);
          to = state-key x.to r.to made.to;
        }

    state-sound : (x : RawState) (s : State) → IsStateOf names c x s → IsReadableState x → IsSoundState sys chart s
    state-sound x s made few = record {
      few_entry = acts-few None x.entry s.entry made.entry few.entry;
      few_exit = acts-few None x.exit s.exit made.exit few.exit;
      few_init_do = acts-few None x.init_do s.init_do made.init_do few.init_do;
      few_rows = rw (sym (Corresponds-length (IsRowOf names c) x.row s.row made.row)) few.row;
      parent = rw made.parent (parent-inside x.parent);
      entry = acts-sound None x.entry s.entry made.entry;
      exit = acts-sound None x.exit s.exit made.exit;
      init = state-key x.init s.init made.init;
      init_do = acts-sound None x.init_do s.init_do made.init_do;
      rows = Corresponds-every (IsRowOf names c) IsReadableRow (IsSoundRow sys chart) row-sound x.row s.row made.row (recursion_from_All IsReadableRow x.row few.rows);
    }

  -- a chart that was made of its table
  pub chart-sound : (c : RawChart) (chart : Chart) → IsChartOf names c chart → IsFewChart c → IsSoundChart sys chart
  chart-sound c chart made few =
      let timers = Corresponds-length _ c.timer chart.timer made.timer in
      let states = Corresponds-length (IsStateOf names c) c.state chart.state made.state in
      record {
        few_states = rw (sym states) few.states;
        few_timers = rw (sym timers) few.timers;
        few_vars = rw made.vars few.vars;
        few_init_do = acts-few c chart made.vars timers states None c.init_do chart.init_do made.init_do few.init_do;
        init = state-inside c chart made.vars timers states c.init chart.init made.init;
        init_do = acts-sound c chart made.vars timers states None c.init_do chart.init_do made.init_do;
        states = Corresponds-every (IsStateOf names c) IsReadableState (IsSoundState sys chart) (state-sound c chart made.vars timers states) c.state chart.state made.state (recursion_from_All IsReadableState c.state few.each);
      }
