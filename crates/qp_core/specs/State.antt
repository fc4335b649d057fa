-- The event table with its seats: where a step of a seat is allowed, what it changes, and where schedules lead.
use Rattle.std.specs.Prelude.{◌≡◌, ℕ, zero, suc, ◌-◌, ◌==◌, nat_lt, nat_le, Bool, true, false, not, ◌&&◌, ◌||◌, List, [], ◌∷◌, ◌++◌, slice_get, slice_set, if◌then◌else◌, is_some, MatchOption, Some, None}
use Rattle.std.specs.declared.option.Option.{Option}
use Rattle.std.specs.Int.{bit_at}
use Rattle.std.specs.List.{list_any, list_all, filter, position}
use Rattle.std.specs.Option.{option_map_or}
use Rattle.qp_model.specs.declared.record.Rec.{Rec}
use Rattle.qp_model.specs.declared.systems.System.{System}
use Rattle.qp_table.specs.Rule.{is_serve, on_queue}
use Rattle.qp_table.specs.declared.view.SeatLog.{SeatLog}
use Rattle.qp_table.specs.declared.view.CellPlace.{CellPlace}
use Rattle.qp_table.specs.declared.view.Serve.{Serve}
use Rattle.std.specs.declared.result.Result.{Result}
use Rattle.qp_base.specs.declared.faults.Memory.{Memory}
use Rattle.qp_core_steps.specs.Words.{StepsAs}
use Rattle.qp_core_steps.specs.Keeps.{HasOwn, StepKeeps}
use Rattle.qp_core.specs.Standing.{has_number}
use Rattle.qp_core_steps.specs.Steps.{may_step, Steps_one}
use Rattle.qp_core_steps.specs.declared.seats.Seat.{Seat}
use Rattle.qp_core.specs.declared.state.CoreState.{CoreState}
use Rattle.qp_core_steps.specs.declared.ops.Op.{Op}
use Rattle.qp_core_steps.specs.declared.ops.Op.TheVariants as op

-- the seat with this number, where it stands
abbrev pub stands_as : ℕ → Seat → Bool
stands_as n x = x.stands && (x.number == n)

abbrev pub seat_in : List Seat → Option ℕ → Option Seat
seat_in xs None = None
seat_in xs (Some i) = slice_get xs i

-- the seat of this number that stands
abbrev pub standing_seat : List Seat → ℕ → Option Seat
standing_seat xs n = seat_in xs (position (stands_as n) xs)

-- a seat that holds nothing
abbrev pub bare_seat : ℕ → Bool → Seat
bare_seat n t = record { number = n; stands = t; by = 0; logs = []; fresh = []; used = []; hands = []; gives = []; fills = []; claims = []; takes = []; serves = []; seen = record { list = [] } }

-- Split

-- the object is in the set: bit a - 1
abbrev pub is_in_set : ℕ → ℕ → Bool
is_in_set set a = nat_lt 0 a && nat_le a 32 && (bit_at set (a - 1) == 1)

-- of the objects up to n, those in the set are served
unfoldable pub serves_set : ℕ → ℕ → List Serve → Bool
serves_set zero set xs = true
serves_set (suc n) set xs = (not (is_in_set set (suc n)) || list_any (is_serve (suc n)) xs) && serves_set n set xs

-- an object that may be handed over: it has no last-in post and no take, and none is under way
abbrev pub is_unused : List CellPlace → Serve → Bool
is_unused takes x = (x.lifos == 0) && (x.takes == 0) && not (list_any (on_queue x.object) takes)

abbrev pub may_pass : List CellPlace → ℕ → Serve → Bool
may_pass takes set x = not (is_in_set set x.object) || is_unused takes x

abbrev pub may_split : List Seat → Seat → ℕ → ℕ → Bool
may_split xs x into set = not (list_any (has_number into) xs) && serves_set 32 set x.serves && list_all (may_pass x.takes set) x.serves

-- the objects in the set, and the others
abbrev pub in_part : ℕ → Serve → Bool
in_part set x = is_in_set set x.object

abbrev pub out_part : ℕ → Serve → Bool
out_part set x = not (is_in_set set x.object)

abbrev pub giving_up : ℕ → Seat → Seat
giving_up set x = record x { serves = filter (out_part set) x.serves }

-- a seat below `lanes` begins its lane; what is split off has seen what the other has
abbrev pub first_logs : ℕ → ℕ → List SeatLog
first_logs lanes n = if nat_lt n lanes then record { number = n; recs = [] } ∷ [] else []

abbrev pub split_off : ℕ → ℕ → ℕ → Seat → Seat
split_off lanes into set x = record (bare_seat into true) { logs = first_logs lanes into; serves = filter (in_part set) x.serves; seen = x.seen }

-- Join

abbrev pub may_join : List Seat → Seat → ℕ → Bool
may_join xs x from = not (x.number == from) && is_some (position (stands_as from) xs)

abbrev pub joining : Seat → Seat → Seat
joining x y = record x {
  logs = x.logs ++ y.logs;
  fresh = x.fresh ++ y.fresh;
  used = x.used ++ y.used;
  hands = x.hands ++ y.hands;
  gives = x.gives ++ y.gives;
  fills = x.fills ++ y.fills;
  claims = x.claims ++ y.claims;
  takes = x.takes ++ y.takes;
  serves = x.serves ++ y.serves;
  seen = record { list = x.seen.list ++ y.seen.list };
}

-- seat i, which is x, takes over the seat `from`, which stands no more
abbrev pub Joins : List Seat → ℕ → Seat → ℕ → List Seat → Type 0
Joins xs i x from xs' = (j : ℕ) × (y : Seat) × (position (stands_as from) xs ≡ Some j) × (slice_get xs j ≡ Some y) × (xs' ≡ slice_set (slice_set xs j (bare_seat from false)) i (joining x y))

-- seat i, which is x, takes a step by itself, and the rule stands after it
abbrev pub StepsSeat : System → ℕ → List ℕ → List Seat → ℕ → Seat → Op → List ℕ → List Seat → Result Bool Memory → Type 0
StepsSeat sys lanes words xs i x o words' xs' r =
    (x' : Seat) × (xs' ≡ slice_set xs i x') × StepsAs (may_step sys lanes words x o) (Steps_one sys words x o words' x') ((words' ≡ words) × (x' ≡ x)) r × (HasOwn lanes x → StepKeeps sys words x words' x')

-- The steps of a seat that stands
abbrev pub may_change : CoreState → Seat → Op → Bool
may_change s x (op.Split into set) = may_split s.seats x into set
may_change s x (op.Join from) = may_join s.seats x from
may_change s x o = may_step s.sys.now s.lanes s.words x o

-- seat i, which is x, takes the step
abbrev pub Changes : CoreState → ℕ → Seat → Op → CoreState → Type 0
Changes s i x (op.Split into set) s' = s' ≡ record s { seats = slice_set s.seats i (giving_up set x) ++ split_off s.lanes into set x ∷ [] }
Changes s i x (op.Join from) s' = Joins s.seats i x from s'.seats × (s' ≡ record s { seats = s'.seats })
Changes s i x o s' = (words' : List ℕ) × (x' : Seat) × Steps_one s.sys.now s.words x o words' x' × (s' ≡ record s { words = words'; seats = slice_set s.seats i x' })

-- A step of the seat with this number: a seat that doesn't stand takes none
abbrev pub may_apply : CoreState → ℕ → Op → Bool
may_apply s n o = option_map_or (λ x. may_change s x o) (standing_seat s.seats n) false

abbrev pub Applies : CoreState → ℕ → Op → CoreState → Type 0
Applies s n o s' = (i : ℕ) × (x : Seat) × (position (stands_as n) s.seats ≡ Some i) × (slice_get s.seats i ≡ Some x) × Changes s i x o s'

-- What is seen of it

-- the records of a lane
abbrev pub lane_records : ℕ → List SeatLog → List Rec
lane_records n [] = []
lane_records n (g ∷ gs) = if g.number == n then g.recs else lane_records n gs

-- the records that a seat added
abbrev pub own_records : Seat → List Rec
own_records x = lane_records x.number x.logs

abbrev pub records_at : List Seat → ℕ → List Rec
records_at xs n = option_map_or own_records (standing_seat xs n) []

-- the object for which the seat adds records is set, and the former one answered; nothing where the seat doesn't stand
abbrev pub SetsBy : List Seat → ℕ → ℕ → ℕ → List Seat → Type 0
SetsBy xs n o former xs' = MatchOption (position (stands_as n) xs) ((former ≡ 0) × (xs' ≡ xs)) (λ i. (x : Seat) × (slice_get xs i ≡ Some x) × (former ≡ x.by) × (xs' ≡ slice_set xs i (record x { by = o })))
