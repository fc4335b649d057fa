-- What stands in tables that were read is in its range.
use Rattle.std.proofs.Common.{◌≡◌, ℕ, ℤ, pos, negsuc, ◌≤◌, ◌&&◌, Bool, true, false, nat_le, cond, List, [], ◌∷◌, Some, None, Ok, refl, sym, subst, arith}
use Rattle.std.specs.declared.option.Option.{Option}
use Rattle.std.specs.declared.result.Result.{Result}
use Rattle.std.proofs.lemmas.Bool.Decides.{nat_tests}
use Rattle.toml.specs.Data.{Data, Members, as_integer}
use Rattle.qp_chart_names.specs.declared.place.Part.{Part}
use Rattle.qp_chart_names.specs.Codes.{RANGE}
use Rattle.qp_chart_names.specs.Keys.{SIZE, BLOCKS, NAME, PARAMS, STATIC, SIGNAL, RATE, CHART, PRIORITY, THRESHOLD, QUEUE, DEFER, VARS}
use Rattle.qp_chart_names.specs.Faults.{Fault}
use Rattle.qp_model.specs.declared.systems.PoolDef.{PoolDef}
use Rattle.qp_model.specs.declared.systems.SignalDef.{SignalDef}
use Rattle.qp_chart_names.specs.declared.raw.RawTimer.{RawTimer}
use Rattle.qp_system_tables.specs.declared.raw.RawObject.{RawObject}
use Rattle.qp_system_tables.specs.Tree.{refuse, knows_keys, needed, defaulted}
use Rattle.qp_system_tables.specs.Values.{integer_between, integer_in, integer_within, name_of, flag_value, vars_of}
use Rattle.qp_system_tables.specs.Tables.{read_pool, read_signal, read_timer, read_object}
use Rattle.qp_system_tables.proofs.ReadLemmas.{Between, bind-Ok, ok-same, defaulted-Ok, needed-Ok}

pass-range : (least most n m : ℕ) (place : List Part) (b : Bool) → (nat_le least n && nat_le n most) ≡ b
    → cond {A = Result ℕ Fault} b (Ok n) (refuse RANGE place) ≡ Ok m → Between least most m
pass-range least most n m place true test h =
    let same : n ≡ m = cc in
    let low : least ≤ n = grind (arith, nat_tests) in
    let high : n ≤ most = grind (arith, nat_tests) in
    rw (sym same) (low, high)
pass-range least most n m place false test h = cc

within-range : (least most : ℕ) (place : List Part) (z : ℤ) (m : ℕ) → integer_within least most place z ≡ Ok m → Between least most m
within-range least most place (pos n) m h = pass-range least most n m place _ refl h
within-range least most place (negsuc n) m h = cc

number_in-range : (least most : ℕ) (place : List Part) (o : Option ℤ) (m : ℕ) → integer_in least most place o ≡ Ok m → Between least most m
number_in-range least most place None m h = cc
number_in-range least most place (Some z) m h = within-range least most place z m h

-- a number that was read
pub number_of-range : (least most : ℕ) (place : List Part) (v : Data) (m : ℕ) → integer_between least most place v ≡ Ok m → Between least most m
unfolding integer_between
number_of-range least most place v m h = number_in-range least most place (as_integer v) m h

-- a number at a key
needed-range : (least most key : ℕ) (at : List Part) (t : Members) (n : ℕ) → needed (integer_between least most) key at t ≡ Ok n → Between least most n
needed-range least most key at t n h = needed-Ok (Between least most) (integer_between least most) key at t n (number_of-range least most) h

-- a number at a key with a default in its range
defaulted-range : (least most default key : ℕ) (at : List Part) (t : Members) (n : ℕ) → Between least most default
    → defaulted default (integer_between least most) key at t ≡ Ok n → Between least most n
defaulted-range least most default key at t n base h = defaulted-Ok (Between least most) default (integer_between least most) key at t n base (number_of-range least most) h

abbrev pub PoolInRange : PoolDef → Type 0
PoolInRange p = Between 0 8 p.size × Between 1 32 p.blocks

pub pool_at-range : (at : List Part) (t : Members) (p : PoolDef) → read_pool at t ≡ Ok p → PoolInRange p
unfolding read_pool
pool_at-range at t p h =
    let a = bind-Ok (knows_keys (SIZE ∷ BLOCKS ∷ []) at t) _ p h in
    let b = bind-Ok (needed (integer_between 0 8) SIZE at t) _ p a.2 in
    let c = bind-Ok (needed (integer_between 1 32) BLOCKS at t) _ p b.2 in
    let q : PoolDef = record { size = b.0; blocks = c.0 } in
    let same : q ≡ p = ok-same q p c.2 in
    subst PoolInRange same (needed-range 0 8 SIZE at t b.0 b.1, needed-range 1 32 BLOCKS at t c.0 c.1)

abbrev pub SignalInRange : SignalDef → Type 0
SignalInRange s = Between 0 8 s.params

pub signal_at-range : (at : List Part) (t : Members) (s : SignalDef) → read_signal at t ≡ Ok s → SignalInRange s
unfolding read_signal
signal_at-range at t s h =
    let a = bind-Ok (knows_keys (NAME ∷ PARAMS ∷ STATIC ∷ []) at t) _ s h in
    let b = bind-Ok (needed name_of NAME at t) _ s a.2 in
    let c = bind-Ok (defaulted 0 (integer_between 0 8) PARAMS at t) _ s b.2 in
    let d = bind-Ok (defaulted false flag_value STATIC at t) _ s c.2 in
    let q : SignalDef = record { name = b.0; params = c.0; fixed = d.0 } in
    let same : q ≡ s = ok-same q s d.2 in
    subst SignalInRange same (defaulted-range 0 8 0 PARAMS at t c.0 (omega arith, omega arith) c.1)

abbrev pub TimerInRange : RawTimer → Type 0
TimerInRange t = Between 0 3 t.rate

pub timer_at-range : (at : List Part) (t : Members) (r : RawTimer) → read_timer at t ≡ Ok r → TimerInRange r
unfolding read_timer
timer_at-range at t r h =
    let a = bind-Ok (knows_keys (NAME ∷ SIGNAL ∷ RATE ∷ []) at t) _ r h in
    let b = bind-Ok (needed name_of NAME at t) _ r a.2 in
    let c = bind-Ok (needed name_of SIGNAL at t) _ r b.2 in
    let d = bind-Ok (needed (integer_between 0 3) RATE at t) _ r c.2 in
    let q : RawTimer = record { name = b.0; signal = c.0; rate = d.0 } in
    let same : q ≡ r = ok-same q r d.2 in
    subst TimerInRange same (needed-range 0 3 RATE at t d.0 d.1)

abbrev pub ObjectInRange : RawObject → Type 0
ObjectInRange o = Between 1 32 o.priority × Between 1 32 o.threshold × Between 0 255 o.queue × Between 0 255 o.defer

pub object_at-range : (at : List Part) (t : Members) (o : RawObject) → read_object at t ≡ Ok o → ObjectInRange o
unfolding read_object
object_at-range at t o h =
    let a = bind-Ok (knows_keys (NAME ∷ CHART ∷ PRIORITY ∷ THRESHOLD ∷ QUEUE ∷ DEFER ∷ VARS ∷ []) at t) _ o h in
    let b = bind-Ok (needed name_of NAME at t) _ o a.2 in
    let c = bind-Ok (needed name_of CHART at t) _ o b.2 in
    let d = bind-Ok (needed (integer_between 1 32) PRIORITY at t) _ o c.2 in
    let e = bind-Ok (defaulted d.0 (integer_between 1 32) THRESHOLD at t) _ o d.2 in
    let f = bind-Ok (needed (integer_between 0 255) QUEUE at t) _ o e.2 in
    let g = bind-Ok (defaulted 0 (integer_between 0 255) DEFER at t) _ o f.2 in
    let i = bind-Ok (defaulted [] (vars_of None) VARS at t) _ o g.2 in
    let q : RawObject = record { name = b.0; chart = c.0; priority = d.0; threshold = e.0; queue = f.0; defer = g.0; vars = i.0 } in
    let same : q ≡ o = ok-same q o i.2 in
    let priority = needed-range 1 32 PRIORITY at t d.0 d.1 in
    subst ObjectInRange same (
      priority,
      defaulted-range 1 32 d.0 THRESHOLD at t e.0 priority e.1,
      needed-range 0 255 QUEUE at t f.0 f.1,
      defaulted-range 0 255 0 DEFER at t g.0 (omega arith, omega arith) g.1,
    )
