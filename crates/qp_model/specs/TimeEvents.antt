-- A time event: its counter and its interval.
use Rattle.std.specs.Prelude.{ℕ, ◌+◌, ◌==◌, nat_lt, Bool, false, not, ◌&&◌}
use Rattle.qp_model.specs.declared.bodies.Body.{Body}
use Rattle.qp_model.specs.declared.bodies.Body.TheVariants.{Arm, Disarm, Rearm, Tick, Fire, Idle, Armed}
use Rattle.qp_model.specs.Machine.{Machine}

pub record Clock : Type 0 where
  pub count : ℕ
  -- the ticks that are left, 0 where it is disarmed
  pub counter : ℕ
  -- with what a counter that reaches 0 is reloaded
  pub interval : ℕ

-- each operation sets the counter to what it states, `disarm` to 0; `arm` sets the interval too
abbrev pub clock_next : Clock → Body → Clock
clock_next s (Arm t n ticks interval) = record { count = s.count + 1; counter = ticks; interval = interval }
clock_next s (Disarm t n former) = record { count = s.count + 1; counter = 0; interval = s.interval }
clock_next s (Rearm t n former ticks) = record { count = s.count + 1; counter = ticks; interval = s.interval }
clock_next s (Tick t n counter) = record { count = s.count + 1; counter = counter; interval = s.interval }
clock_next s (Fire t n reload) = record { count = s.count + 1; counter = reload; interval = s.interval }
clock_next s _ = s

-- `arm` needs a disarmed one; `disarm` and `rearm` state the former counter; a tick leaves one less, and fires at 1
abbrev pub clock_may : Clock → Body → Bool
clock_may s (Arm t n ticks interval) = (n == s.count) && (s.counter == 0)
clock_may s (Disarm t n former) = (n == s.count) && (s.counter == former) && not (former == 0)
clock_may s (Rearm t n former ticks) = (n == s.count) && (s.counter == former)
clock_may s (Tick t n counter) = (n == s.count) && (s.counter == counter + 1) && nat_lt 0 counter
clock_may s (Fire t n reload) = (n == s.count) && (s.counter == 1) && (reload == s.interval)
clock_may s _ = false

-- `idle` stands where it is disarmed; assertion 3 states the counter of an armed one
abbrev pub clock_says : Clock → Body → Bool
clock_says s (Idle t n) = s.counter == 0
clock_says s (Armed t n counter) = (s.counter == counter) && not (counter == 0)
clock_says s _ = false

abbrev pub time_event : Machine Clock
time_event = record {
  first = record { count = 0; counter = 0; interval = 0 };
  next = λ s i. clock_next s i.body;
  may = λ s i. clock_may s i.body;
  count = λ s. s.count;
  says = clock_says;
}
