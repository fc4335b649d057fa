-- The kernel lane: which lists of records lane 0 may be under the kernels `sim`, `qk` and `qv`. It recognises a finished lane,
-- record by record; it knows no chart, no queue and no agenda.
use Rattle.std.specs.Prelude.{ℕ, ◌+◌, ◌==◌, nat_lt, max, Bool, true, false, not, ◌&&◌, List, [], ◌∷◌, map, reverse, length, drop, if◌then◌else◌, Some, None}
use Rattle.std.specs.declared.option.Option.{Option}
use Rattle.std.specs.Option.{option_map_or, option_and_then}
use Rattle.std.specs.List.{filter, find}
use Rattle.qp_model.specs.declared.systems.System.{System}
use Rattle.qp_model.specs.declared.bodies.Body.{Body}
use Rattle.qp_model.specs.declared.bodies.Body.TheVariants as body
use Rattle.qp_model.specs.Record.{Item}
use Rattle.qp_model.specs.Kernels.{qk, qv}

-- what a record is to the kernel lane
pub data Role : Type 0 where
  Looks : (k floor : ℕ) → Role
  Sees : (p f l m : ℕ) → Role
  Takes : Role
  Ends : Role
  Rests : (k : ℕ) → Role
  -- a `lock` or `unlock`, after which the ceiling is this
  Holds : (ceiling : ℕ) → Role
  -- a `dec` or `back`
  Drops : Role
  RunsOut : Role
  Spills : Role
  Acts : Role

unfoldable pub role_of : Body → Role
role_of (body.Look k floor) = Looks k floor
role_of (body.Seen p f l m) = Sees p f l m
role_of (body.Took f l m e) = Takes
role_of body.Done = Ends
role_of (body.Rest k) = Rests k
role_of (body.Lock c) = Holds c
role_of (body.Unlock c) = Holds c
role_of (body.Dec p b d k) = Drops
role_of (body.Back p n b to) = Drops
role_of body.Spent = RunsOut
role_of (body.Spill n) = Spills
role_of _ = Acts

-- the objects whose steps are under way, the innermost first, after a record of o
abbrev pub under_way_after : List ℕ → ℕ → Role → List ℕ
under_way_after running o Takes = o ∷ running
under_way_after running o Ends = drop 1 running
under_way_after running o _ = running

-- the ceiling is the number of the last `lock` or `unlock`, or 0
abbrev pub ceiling_of : ℕ → Role → ℕ
ceiling_of ceiling (Holds c) = c
ceiling_of ceiling _ = ceiling

-- the system, the kernel, and which looks have a stimulus
pub record Setting : Type 0 where
  pub sys : System
  pub kernel : ℕ
  pub has_stimulus : ℕ → Bool

unfoldable pub threshold_of : System → ℕ → ℕ
threshold_of sys o = option_map_or (λ d. d.threshold) (find (λ d. d.priority == o) sys.objects) 0

-- the floor: 0 at the base; within a step 32 in `qv`, else the larger of the running object's threshold and the ceiling
unfoldable pub floor_in : System → ℕ → List ℕ → ℕ → ℕ
unfolding threshold_of
floor_in sys kernel [] ceiling = 0
floor_in sys kernel (o ∷ outer) ceiling = if kernel == qv then 32 else max (threshold_of sys o) ceiling

-- the objects above the floor, descending
unfoldable pub above : System → ℕ → List ℕ
above sys floor = reverse (map (λ d. d.priority) (filter (λ d. nat_lt floor d.priority) sys.objects))

-- what may come next
pub data Upcoming : Type 0 where
  -- a record of the running object, or a new row of looks
  Inside : Upcoming
  -- a `seen` of p, and then of the others in turn
  Looking : (p : ℕ) (others : List ℕ) → Upcoming
  -- the step of an object whose queue was seen with an entry
  Chosen : (p : ℕ) → Upcoming
  -- after `done` of p: its release, or the next look of the row
  Ended : (p : ℕ) → Upcoming
  -- `rest` after a look at the base without an entry
  Resting : Upcoming
  -- the next look of the row, since a stimulus happened in the last one
  Again : Upcoming
  -- no more, or in `qk` another row at the base
  Over : Upcoming
  -- no more, since an object was at its budget or the lane has no room
  Halted : Upcoming

-- how far lane 0 has been read
pub record Reading : Type 0 where
  pub unstarted : List ℕ
  pub running : List ℕ
  pub ceiling : ℕ
  pub looks : ℕ
  pub place : Upcoming
  -- whether the row at the base has a step, and how many whole ones have none
  pub stepped : Bool
  pub idle : ℕ

-- a row at the base ends with its look without an entry; in `sim` and `qv` only where no stimulus happened in it
abbrev pub base_ended : Setting → Reading → Reading
base_ended s k =
    if not (s.kernel == qk) && s.has_stimulus k.looks then record k { place = Again }
    else record k { place = Over; idle = if k.stepped then k.idle else k.idle + 1; stepped = false }

-- a look has shown no entry
abbrev pub found_none : Setting → Reading → List ℕ → Reading
found_none s k (o ∷ outer) = record k { place = Inside }
found_none s k [] = if s.kernel == qv then record k { place = Resting } else base_ended s k

abbrev pub looking_at : Setting → Reading → List ℕ → Reading
looking_at s k [] = found_none s k k.running
looking_at s k (p ∷ others) = record k { place = Looking p others }

-- `look`, with its count from 1 and the floor, looks at the objects above it
unfoldable pub look_next : Setting → Reading → ℕ → Role → Option Reading
unfolding above floor_in
look_next s k o (Looks n floor) =
    if (o == 0) && (n == k.looks + 1) && (floor == floor_in s.sys s.kernel k.running k.ceiling)
    then Some (looking_at s (record k { looks = n }) (above s.sys floor)) else None
look_next s k o _ = None

-- `seen`, up to the first that shows an entry
abbrev pub seen_next : Setting → Reading → ℕ → List ℕ → ℕ → Role → Option Reading
seen_next s k p others o (Sees q f l m) =
    if (o == 0) && (q == p) then Some (if nat_lt m (f + l) then record k { place = Chosen p } else looking_at s k others) else None
seen_next s k p others o _ = None

-- a record of the running object p; `outer` are the steps that it interrupts
abbrev pub own_next : Reading → ℕ → List ℕ → Role → Option Reading
own_next k p outer Ends = Some (record k { running = outer; place = Ended p })
own_next k p outer (Holds c) = Some (record k { ceiling = c })
own_next k p outer Drops = Some k
own_next k p outer Acts = Some k
own_next k p outer _ = None

unfoldable pub inside_next : Setting → Reading → List ℕ → ℕ → Role → Option Reading
unfolding look_next
inside_next s k [] o role = look_next s k o role
inside_next s k (p ∷ outer) o role = if o == p then own_next k p outer role else look_next s k o role

-- the step of p, or that p is at its budget
abbrev pub found_next : Reading → ℕ → ℕ → Role → Option Reading
found_next k p o Takes = if o == p then Some (record k { running = p ∷ k.running; place = Inside; stepped = true }) else None
found_next k p o RunsOut = if o == p then Some (record k { place = Halted }) else None
found_next k p o _ = None

unfoldable pub ended_next : Setting → Reading → ℕ → ℕ → Role → Option Reading
unfolding look_next
ended_next s k p o Drops = if o == p then Some k else None
ended_next s k p o role = look_next s k o role

abbrev pub rest_next : Setting → Reading → ℕ → Role → Option Reading
rest_next s k o (Rests n) = if (o == 0) && (n == k.looks) then Some (base_ended s k) else None
rest_next s k o _ = None

unfoldable pub place_next : Setting → Reading → ℕ → Role → Upcoming → Option Reading
unfolding ended_next inside_next look_next
place_next s k o role Inside = inside_next s k k.running o role
place_next s k o role (Looking p others) = seen_next s k p others o role
place_next s k o role (Chosen p) = found_next k p o role
place_next s k o role (Ended p) = ended_next s k p o role
place_next s k o role Resting = rest_next s k o role
place_next s k o role Again = look_next s k o role
place_next s k o role Over = if s.kernel == qk then look_next s k o role else None
place_next s k o role Halted = None

-- a record of the start of an object
abbrev pub start_next : Reading → List ℕ → Role → Option Reading
start_next k others Ends = Some (record k { unstarted = others })
start_next k others (Holds c) = Some (record k { ceiling = c })
start_next k others Drops = Some k
start_next k others Acts = Some k
start_next k others _ = None

-- the starts of all objects come first, in ascending priority
unfoldable pub started_next : Setting → Reading → ℕ → Role → List ℕ → Option Reading
unfolding place_next
started_next s k o role [] = place_next s k o role k.place
started_next s k o role (p ∷ others) = if o == p then start_next k others role else None

-- a `spill` may stand anywhere, and nothing follows it
unfoldable pub role_next : Setting → Reading → ℕ → Role → Option Reading
unfolding started_next
role_next s k o Spills = if o == 0 then Some (record k { unstarted = []; place = Halted }) else None
role_next s k o role = started_next s k o role k.unstarted

-- one record more of lane 0
unfoldable pub lane_next : Setting → Reading → Item → Option Reading
unfolding role_next role_of
lane_next s k i = role_next s k i.of (role_of i.body)

unfoldable pub unread : System → Reading
unread sys = record {
  unstarted = map (λ d. d.priority) sys.objects;
  running = [];
  ceiling = 0;
  looks = 0;
  place = Inside;
  stepped = false;
  idle = 0;
}

-- the records after one another, where each may stand in its place
unfoldable pub lane_on : Setting → Reading → List Item → Option Reading
unfolding lane_next
lane_on s k [] = Some k
lane_on s k (i ∷ is) = option_and_then (λ next. lane_on s next is) (lane_next s k i)

unfoldable pub lane_read : Setting → List Item → Option Reading
unfolding lane_on unread
lane_read s lane = lane_on s (unread s.sys) lane

-- a whole lane: all objects have started, no step is under way, and in `sim` and `qv` its one row is over
abbrev pub is_over : ℕ → Upcoming → Bool
is_over kernel Over = true
is_over kernel Inside = kernel == qk
is_over kernel _ = false

abbrev pub is_whole_reading : ℕ → Reading → Bool
is_whole_reading kernel k = (length k.unstarted == 0) && (length k.running == 0) && is_over kernel k.place
