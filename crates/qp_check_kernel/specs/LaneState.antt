-- The reader of lane 0, as the definition of the kernel lane sees it.
use Rattle.std.specs.Prelude.{ℕ, nat_lt, List, [], ◌∷◌, map, reverse, Some, None}
use Rattle.std.specs.declared.option.Option.{Option}
use Rattle.std.specs.List.{filter}
use Rattle.std.specs.Borrow.{Bor}
use Rattle.std.specs.BTreeSet.{contains}
use Rattle.std.specs.Ordering.{nat_cmp}
use Rattle.qp_model.specs.declared.systems.ObjectDef.{ObjectDef}
use Rattle.qp_model.specs.KernelLane as lane
use Rattle.qp_check_kernel.specs.declared.lane_roles.Role.{Role}
use Rattle.qp_check_kernel.specs.declared.lane_roles.Role.TheVariants as role
use Rattle.qp_check_kernel.specs.declared.lane_state.Upcoming.{Upcoming}
use Rattle.qp_check_kernel.specs.declared.lane_state.Upcoming.TheVariants as place
use Rattle.qp_check_kernel.specs.declared.lane_state.LaneReading.{LaneReading}
use Rattle.qp_check_kernel.specs.declared.lane_state.Rules.{Rules}

-- what a record is to the kernel lane
abbrev pub as_role : Role → lane.Role
as_role (role.Looks k floor) = lane.Looks k floor
as_role (role.Sees p f l m) = lane.Sees p f l m
as_role role.Takes = lane.Takes
as_role role.Ends = lane.Ends
as_role (role.Rests k) = lane.Rests k
as_role (role.Holds ceiling) = lane.Holds ceiling
as_role role.Drops = lane.Drops
as_role role.RunsOut = lane.RunsOut
as_role role.Spills = lane.Spills
as_role role.Acts = lane.Acts

-- the objects among these that are above the floor, descending
unfoldable pub above_among : List ObjectDef → ℕ → List ℕ
above_among objects floor = reverse (map (λ d. d.priority) (filter (λ d. nat_lt floor d.priority) objects))

-- the last of the objects above the floor, then those before it
abbrev pub found_above : ℕ → Option (ℕ × Bor (List ObjectDef)) → List ℕ
found_above floor None = []
found_above floor (Some x) = x.0 ∷ above_among x.1.now floor

-- what may come next
abbrev pub as_place : Upcoming → lane.Upcoming
as_place place.Inside = lane.Inside
as_place (place.Looking p others floor) = lane.Looking p (above_among others.now floor)
as_place (place.Chosen p) = lane.Chosen p
as_place (place.Ended p) = lane.Ended p
as_place place.Resting = lane.Resting
as_place place.Again = lane.Again
as_place place.Over = lane.Over
as_place place.Halted = lane.Halted

-- how far lane 0 has been read
abbrev pub as_reading : LaneReading → lane.Reading
as_reading k = record {
  unstarted = map (λ d. d.priority) k.unstarted.now;
  running = k.running;
  ceiling = k.ceiling;
  looks = k.looks;
  place = as_place k.place;
  stepped = k.stepped;
  idle = k.idle;
}

abbrev pub as_setting : Rules → lane.Setting
as_setting r = record { sys = r.sys.now; kernel = r.kernel; has_stimulus = λ k. contains nat_cmp r.stimuli k }
