-- The parts of a system that the shapes of calls read.
use Rattle.std.specs.Prelude.{ℕ, zero, suc, ◌+◌, ◌-◌, ◌/◌, ◌%◌, ◌^◌, ◌==◌, nat_lt, nat_le, Bool, false, ◌&&◌, List, [], ◌∷◌, map, slice_get, if◌then◌else◌, ◌≡◌, ◌<◌, Some}
use Rattle.std.specs.declared.option.Option.{Option}
use Rattle.std.specs.List.{position, count_by}
use Rattle.std.specs.Option.{option_map_or, option_map}
use Rattle.qp_model.specs.declared.systems.TimerDef.{TimerDef}
use Rattle.qp_model.specs.declared.systems.System.{System}

-- the events of the signal are static; the signals before 4 are reserved, and none of a system's
unfoldable pub is_static : System → ℕ → Bool
is_static sys sig = nat_le 4 sig && option_map_or (λ d. d.fixed) (slice_get sys.signals (sig - 4)) false

-- the sizes of the pools, in order
unfoldable pub sizes_of : System → List ℕ
sizes_of sys = map (λ d. d.size) sys.pools

-- the number of the first pool with room for n parameters
unfoldable pub first_pool : List ℕ → ℕ → Option ℕ
first_pool sizes n = option_map (λ i. i + 1) (position (λ size. nat_le n size) sizes)

-- the free entries of a queue with this ring before a post after which the counts are these
unfoldable pub room_before : ℕ → ℕ → ℕ → ℕ → ℕ
room_before ring f l m = ring + 1 - (f - 1 + l - m)

-- the members of a set of bits among the objects up to n, descending
unfoldable pub members_below : ℕ → ℕ → List ℕ
members_below zero set = []
members_below (suc n) set = if (set / 2 ^ n) % 2 == 1 then suc n ∷ members_below n set else members_below n set

-- the members of a set of subscribers, descending
unfoldable pub members : ℕ → List ℕ
unfolding members_below
members set = members_below 32 set

-- the number of the object's timer at this place of its chart: timers are numbered by their objects
unfoldable pub timer_number : List TimerDef → ℕ → ℕ → ℕ
timer_number timers o place = count_by (λ t. nat_lt t.object o) timers + place

-- how many parameters an event of the signal has
abbrev pub params_of : System → ℕ → ℕ
params_of sys sig = option_map_or (λ d. d.params) (slice_get sys.signals (sig - 4)) 0

-- the system has the time event t, and it is the object's
pub record OwnsTimer (sys : System) (o t : ℕ) : Type 0 where
  pub some : 0 < t
  pub timer : TimerDef
  pub there : slice_get sys.timers (t - 1) ≡ Some timer
  pub owner : timer.object ≡ o
