-- A system that was read has no list with more members than its file may have.
use Rattle.std.proofs.Common.{◌≡◌, ℕ, ℤ, ◌+◌, ◌≤◌, Bool, true, false, nat_le, cond, List, [], ◌∷◌, ◌++◌, length, get_or, Some, None, Ok, Err, refl, sym, subst, arith}
use Rattle.std.specs.Prelude.{All, nat_lt}
use Rattle.std.specs.declared.option.Option.{Option}
use Rattle.std.specs.declared.result.Result.{Result}
use Rattle.std.specs.Option.{option_and_then}
use Rattle.std.proofs.lemmas.Bool.Decides.{nat_tests}
use Rattle.toml.specs.Data.{Data, Members, as_table, as_str}
use Rattle.qp_chart_names.specs.declared.place.Part.{Part}
use Rattle.qp_chart_names.specs.declared.place.Part.TheVariants.{Key, Pos}
use Rattle.qp_chart_names.specs.Codes.{TOO_MANY, RANGE}
use Rattle.qp_chart_names.specs.Faults.{Fault}
use Rattle.qp_system_tables.specs.Tree.{refuse, at_key, knows_keys, defaulted, needed, optional}
use Rattle.qp_model.specs.Results.{◌>>=◌}
use Rattle.qp_system_tables.specs.Values.{integer_between, name_of, text_value, tables_of, texts_of, some_texts, short_texts, vars_of, some_vars, named_vars, all_integers, items_of_kind, allowed_name}
use Rattle.qp_chart_names.specs.Keys.{QP, POOL, SIGNAL, CHART, OBJECT, NAME, PARENT, INIT, INIT_DO, VARS, TIMER, STATE, ENTRY, EXIT, ROW, ON, WHEN, DO, TO}
use Rattle.qp_chart_names.specs.declared.raw.RawState.{RawState}
use Rattle.qp_chart_names.specs.declared.raw.RawChart.{RawChart}
use Rattle.qp_chart_names.specs.Readable.{IsReadableRow, IsReadableState}
use Rattle.qp_system_tables.specs.declared.raw.RawSystem.{RawSystem}
use Rattle.qp_chart_names.specs.declared.raw.RawRow.{RawRow}
use Rattle.qp_system_tables.specs.Tables.{read_tables, read_initial, read_pool, read_signal, read_row, read_timer, read_state, read_chart, read_object, raw_of}
use Rattle.qp_system_tables.specs.Few.{IsFewChart, IsFew}
use Rattle.qp_system_tables.proofs.ReadLemmas.{Between, bind-Ok, ok-same, defaulted-Ok, needed-Ok, tables_of-counted, tables-few, listed}
use Rattle.qp_system_tables.proofs.RangeLemmas.{PoolInRange, pool_at-range, SignalInRange, signal_at-range, TimerInRange, timer_at-range, ObjectInRange, object_at-range}

short-step : (b : Bool) (t : List ℕ) (r : Result (List (List ℕ)) Fault) (path : List Part) (xs : List (List ℕ))
    → cond {A = Result (List (List ℕ)) Fault} b (r >>= λ ts. Ok (t ∷ ts)) (refuse RANGE path) ≡ Ok xs → (ys : List (List ℕ)) × (r ≡ Ok ys) × (t ∷ ys ≡ xs)
short-step true t (Ok ys) path xs h = (ys, refl, ok-same (t ∷ ys) xs h)
short-step true t (Err e) path xs h = cc
short-step false t r path xs h = cc

short_texts-count : (place : List Part) (k : ℕ) (texts xs : List (List ℕ)) → short_texts place k texts ≡ Ok xs → length xs ≡ length texts
unfolding short_texts
short_texts-count place k [] xs h = let same : [] ≡ xs = ok-same [] xs h in rw (sym same) refl
short_texts-count place k (t ∷ more) xs h =
    let a = short-step (nat_le (length t) 200) t (short_texts place (k + 1) more) (place ++ Pos k ∷ []) xs h in
    let count = short_texts-count place (k + 1) more a.0 a.1 in
    rw (sym a.2, count) refl

some_texts-few : (place : List Part) (o : Option (List (List ℕ))) (xs : List (List ℕ)) → some_texts place o ≡ Ok xs → length xs ≤ 16
some_texts-few place None xs h = cc
some_texts-few place (Some texts) xs h = pass (nat_le (length texts) 16) refl h
  where
    pass : (b : Bool) → nat_le (length texts) 16 ≡ b → cond {A = Result (List (List ℕ)) Fault} b (short_texts place 1 texts) (refuse TOO_MANY place) ≡ Ok xs → length xs ≤ 16
    pass true test k =
        let count = short_texts-count place 1 texts xs k in
        let few : length texts ≤ 16 = grind (arith, nat_tests) in
        rw count few
    pass false test k = cc

pub texts-few : (place : List Part) (v : Data) (xs : List (List ℕ)) → texts_of place v ≡ Ok xs → length xs ≤ 16
unfolding texts_of
texts-few place v xs h = some_texts-few place (items_of_kind as_str v) xs h

-- an action list at a key
pub acts-few : (key : ℕ) (at : List Part) (table : Members) (xs : List (List ℕ)) → defaulted [] texts_of key at table ≡ Ok xs → length xs ≤ 16
acts-few key at table xs h = defaulted-Ok (λ (l : List (List ℕ)). length l ≤ 16) [] texts_of key at table xs (omega arith) texts-few h

named_vars-count : (place : List Part) (vars xs : List (List ℕ × ℤ)) → named_vars place vars ≡ Ok xs → length xs ≡ length vars
unfolding named_vars
named_vars-count place [] xs h = let same : [] ≡ xs = ok-same [] xs h in rw (sym same) refl
named_vars-count place (v ∷ more) xs h =
    let a = bind-Ok (allowed_name place v.0) _ xs h in
    let b = bind-Ok (named_vars place more) _ xs a.2 in
    let same : (a.0, v.1) ∷ b.0 ≡ xs = ok-same ((a.0, v.1) ∷ b.0) xs b.2 in
    let count = named_vars-count place more b.0 b.1 in
    rw (sym same, count) refl

some_vars-few : (place : List Part) (o : Option (List (List ℕ × ℤ))) (xs : List (List ℕ × ℤ)) → some_vars (Some 16) place o ≡ Ok xs → length xs ≤ 16
some_vars-few place None xs h = cc
some_vars-few place (Some vars) xs h = pass (nat_lt 16 (length vars)) refl h
  where
    pass : (b : Bool) → nat_lt 16 (length vars) ≡ b → cond {A = Result (List (List ℕ × ℤ)) Fault} b (refuse TOO_MANY place) (named_vars place vars) ≡ Ok xs → length xs ≤ 16
    pass true test k = cc
    pass false test k =
        let count = named_vars-count place vars xs k in
        let few : length vars ≤ 16 = grind (arith, nat_tests) in
        rw count few

vars-few : (place : List Part) (v : Data) (xs : List (List ℕ × ℤ)) → vars_of (Some 16) place v ≡ Ok xs → length xs ≤ 16
unfolding vars_of
vars-few place v xs h = some_vars-few place (option_and_then (λ members. all_integers members) (as_table v)) xs h

abbrev pub FewRow : RawRow → Type 0
FewRow r = length r.acts ≤ 16

row-few : (at : List Part) (t : Members) (r : RawRow) → read_row at t ≡ Ok r → FewRow r
unfolding read_row
row-few at t r h =
    let a = bind-Ok (knows_keys (ON ∷ WHEN ∷ DO ∷ TO ∷ []) at t) _ r h in
    let b = bind-Ok (needed name_of ON at t) _ r a.2 in
    let c = bind-Ok (optional text_value WHEN at t) _ r b.2 in
    let d = bind-Ok (defaulted [] texts_of DO at t) _ r c.2 in
    let e = bind-Ok (optional name_of TO at t) _ r d.2 in
    let q : RawRow = record { on = b.0; when = c.0; acts = d.0; to = e.0 } in
    let same : q ≡ r = ok-same q r e.2 in
    subst FewRow same (acts-few DO at t d.0 d.1)

abbrev pub FewState : RawState → Type 0
FewState s = (length s.entry ≤ 16) × (length s.exit ≤ 16) × (length s.init_do ≤ 16) × (length s.row ≤ 32) × All FewRow s.row

state-few : (at : List Part) (t : Members) (s : RawState) → read_state at t ≡ Ok s → FewState s
unfolding read_state
state-few at t s h =
    let a = bind-Ok (knows_keys (NAME ∷ PARENT ∷ ENTRY ∷ EXIT ∷ INIT ∷ INIT_DO ∷ ROW ∷ []) at t) _ s h in
    let b = bind-Ok (needed name_of NAME at t) _ s a.2 in
    let c = bind-Ok (optional name_of PARENT at t) _ s b.2 in
    let d = bind-Ok (defaulted [] texts_of ENTRY at t) _ s c.2 in
    let e = bind-Ok (defaulted [] texts_of EXIT at t) _ s d.2 in
    let f = bind-Ok (read_initial (at ++ Key INIT ∷ []) (at_key INIT t) (at_key INIT_DO t)) _ s e.2 in
    let g = bind-Ok (defaulted [] texts_of INIT_DO at t) _ s f.2 in
    let i = bind-Ok (read_tables read_row (at ++ Key ROW ∷ []) (defaulted [] (tables_of 0 32) ROW at t)) _ s g.2 in
    let q : RawState = record { name = b.0; parent = c.0; entry = d.0; exit = e.0; init = f.0; init_do = g.0; row = i.0 } in
    let same : q ≡ s = ok-same q s i.2 in
    let rows = listed FewRow read_row (λ n. n ≤ 32) (at ++ Key ROW ∷ []) (defaulted [] (tables_of 0 32) ROW at t) i.0 (λ ts. defaulted-Ok (λ (l : List Members). length l ≤ 32) [] (tables_of 0 32) ROW at t ts (omega arith) (tables-few 0 32)) row-few i.1 in
    subst FewState same (acts-few ENTRY at t d.0 d.1, acts-few EXIT at t e.0 e.1, acts-few INIT_DO at t g.0 g.1, rows.1, rows.0)

abbrev pub FewChart : RawChart → Type 0
FewChart c = (length c.init_do ≤ 16) × (length c.vars ≤ 16) × (length c.timer ≤ 8) × (length c.state ≤ 64) × All FewState c.state × All TimerInRange c.timer

chart-few : (at : List Part) (t : Members) (k : RawChart) → read_chart at t ≡ Ok k → FewChart k
unfolding read_chart
chart-few at t k h =
    let a = bind-Ok (knows_keys (NAME ∷ INIT ∷ INIT_DO ∷ VARS ∷ TIMER ∷ STATE ∷ []) at t) _ k h in
    let b = bind-Ok (needed name_of NAME at t) _ k a.2 in
    let c = bind-Ok (needed name_of INIT at t) _ k b.2 in
    let d = bind-Ok (defaulted [] texts_of INIT_DO at t) _ k c.2 in
    let e = bind-Ok (defaulted [] (vars_of (Some 16)) VARS at t) _ k d.2 in
    let f = bind-Ok (read_tables read_timer (at ++ Key TIMER ∷ []) (defaulted [] (tables_of 0 8) TIMER at t)) _ k e.2 in
    let g = bind-Ok (read_tables read_state (at ++ Key STATE ∷ []) (needed (tables_of 1 64) STATE at t)) _ k f.2 in
    let q : RawChart = record { name = b.0; init = c.0; init_do = d.0; vars = e.0; timer = f.0; state = g.0 } in
    let same : q ≡ k = ok-same q k g.2 in
    let vars = defaulted-Ok (λ (l : List (List ℕ × ℤ)). length l ≤ 16) [] (vars_of (Some 16)) VARS at t e.0 (omega arith) vars-few e.1 in
    let timers = listed TimerInRange read_timer (λ n. n ≤ 8) (at ++ Key TIMER ∷ []) (defaulted [] (tables_of 0 8) TIMER at t) f.0 (λ ts. defaulted-Ok (λ (l : List Members). length l ≤ 8) [] (tables_of 0 8) TIMER at t ts (omega arith) (tables-few 0 8)) timer_at-range f.1 in
    let states = listed FewState read_state (λ n. n ≤ 64) (at ++ Key STATE ∷ []) (needed (tables_of 1 64) STATE at t) g.0 (λ ts. needed-Ok (λ (l : List Members). length l ≤ 64) (tables_of 1 64) STATE at t ts (tables-few 1 64)) state-few g.1 in
    subst FewChart same (acts-few INIT_DO at t d.0 d.1, vars, timers.1, states.1, states.0, timers.0)

abbrev pub FewRaw : RawSystem → Type 0
FewRaw r =
    (length r.pools ≤ 15) × (length r.signals ≤ 200) × Between 1 32 (length r.charts) × Between 1 32 (length r.objects) × All FewChart r.charts
    × All PoolInRange r.pools × All SignalInRange r.signals × All ObjectInRange r.objects

raw-few : (t : Members) (r : RawSystem) → raw_of t ≡ Ok r → FewRaw r
unfolding raw_of
raw-few t r h =
    let a = bind-Ok (knows_keys (QP ∷ POOL ∷ SIGNAL ∷ CHART ∷ OBJECT ∷ []) [] t) _ r h in
    let b = bind-Ok (needed (integer_between 1 1) QP [] t) _ r a.2 in
    let c = bind-Ok (read_tables read_pool (Key POOL ∷ []) (defaulted [] (tables_of 0 15) POOL [] t)) _ r b.2 in
    let d = bind-Ok (read_tables read_signal (Key SIGNAL ∷ []) (defaulted [] (tables_of 0 200) SIGNAL [] t)) _ r c.2 in
    let e = bind-Ok (read_tables read_chart (Key CHART ∷ []) (needed (tables_of 1 32) CHART [] t)) _ r d.2 in
    let f = bind-Ok (read_tables read_object (Key OBJECT ∷ []) (needed (tables_of 1 32) OBJECT [] t)) _ r e.2 in
    let q : RawSystem = record { pools = c.0; signals = d.0; charts = e.0; objects = f.0 } in
    let same : q ≡ r = ok-same q r f.2 in
    let pools = listed PoolInRange read_pool (λ n. n ≤ 15) (Key POOL ∷ []) (defaulted [] (tables_of 0 15) POOL [] t) c.0 (λ ts. defaulted-Ok (λ (l : List Members). length l ≤ 15) [] (tables_of 0 15) POOL [] t ts (omega arith) (tables-few 0 15)) pool_at-range c.1 in
    let signals = listed SignalInRange read_signal (λ n. n ≤ 200) (Key SIGNAL ∷ []) (defaulted [] (tables_of 0 200) SIGNAL [] t) d.0 (λ ts. defaulted-Ok (λ (l : List Members). length l ≤ 200) [] (tables_of 0 200) SIGNAL [] t ts (omega arith) (tables-few 0 200)) signal_at-range d.1 in
    let charts = listed FewChart read_chart (Between 1 32) (Key CHART ∷ []) (needed (tables_of 1 32) CHART [] t) e.0 (λ ts. needed-Ok (λ (l : List Members). Between 1 32 (length l)) (tables_of 1 32) CHART [] t ts (tables_of-counted 1 32)) chart-few e.1 in
    let objects = listed ObjectInRange read_object (Between 1 32) (Key OBJECT ∷ []) (needed (tables_of 1 32) OBJECT [] t) f.0 (λ ts. needed-Ok (λ (l : List Members). Between 1 32 (length l)) (tables_of 1 32) OBJECT [] t ts (tables_of-counted 1 32)) object_at-range f.1 in
    subst FewRaw same (pools.1, signals.1, charts.1, objects.1, charts.0, pools.0, signals.0, objects.0)

-- what holds of some things, of all members
all-of : {A : Type 0} (P Q : A → Type 0) → ((x : A) → P x → Q x) → (xs : List A) → All P xs → All Q xs
all-of P Q step xs h = λ k d inside. step (get_or xs k d) (h k d inside)

state-is_readable : (s : RawState) → FewState s → IsReadableState s
state-is_readable s h = record { entry = h.0; exit = h.1; init_do = h.2; row = h.3; rows = all-of FewRow IsReadableRow (λ r k. k) s.row h.4 }

chart-is_few : (c : RawChart) → FewChart c → IsFewChart c
chart-is_few c h = record { init_do = h.0; vars = h.1; timers = h.2; states = h.3; each = all-of FewState IsReadableState state-is_readable c.state h.4 }

-- a system that was read
pub raw-is_few : (t : Members) (raw : RawSystem) → raw_of t ≡ Ok raw → IsFew raw
raw-is_few t raw e =
    let h = raw-few t raw e in
    record { pools = h.0; signals = h.1; charts = h.2.1; objects = h.3.1; each = all-of FewChart IsFewChart chart-is_few raw.charts h.4 }

-- the numbers of these tables are in their ranges, and there are as many of them as there must be
pub record IsInRange (raw : RawSystem) : Type 0 where
  pub some_charts : 1 ≤ length raw.charts
  pub some_objects : 1 ≤ length raw.objects
  pub pools : All PoolInRange raw.pools
  pub signals : All SignalInRange raw.signals
  pub timers : All (λ c. All TimerInRange c.timer) raw.charts
  pub objects : All ObjectInRange raw.objects

pub raw-is_in_range : (t : Members) (raw : RawSystem) → raw_of t ≡ Ok raw → IsInRange raw
raw-is_in_range t raw e =
    let h = raw-few t raw e in
    record {
      some_charts = h.2.0;
      some_objects = h.3.0;
      pools = h.5;
      signals = h.6;
      timers = all-of FewChart (λ c. All TimerInRange c.timer) (λ c k. k.5) raw.charts h.4;
      objects = h.7;
    }
