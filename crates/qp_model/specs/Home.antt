-- Lanes, and the lane in which an object works.
use Rattle.std.specs.Prelude.{ℕ, ◌+◌, ◌==◌, Bool, true, false, ◌&&◌, List, [], map, if◌then◌else◌, slice_get}
use Rattle.std.specs.Option.{option_map_or, unwrap_or}
use Rattle.std.specs.List.{position}
use Rattle.qp_model.specs.declared.record.Rec.{Rec}
use Rattle.qp_model.specs.declared.systems.System.{System}
use Rattle.qp_model.specs.declared.journals.Journal.{Journal}
use Rattle.qp_model.specs.declared.bodies.Body.{Body}
use Rattle.qp_model.specs.declared.bodies.Body.TheVariants as body
use Rattle.qp_model.specs.Record.{Item}
use Rattle.qp_model.specs.Told.{Told}
use Rattle.qp_model.specs.History.{lane_items}
use Rattle.qp_model.specs.Kernels.{port}
use Rattle.qp_model.specs.Knowing.{Facts, records_of}

-- a lane of a journal; one that isn't there is empty
abbrev pub lane_at : Journal → ℕ → List Rec
lane_at j n = unwrap_or (slice_get j.lanes n) []

-- the home lane of an object: lane 0, and in `port` lane i for the i-th object in ascending priority
unfoldable pub home_of : System → Journal → ℕ → ℕ
home_of sys j o = if j.kernel == port then option_map_or (λ i. i + 1) (position (λ d. d.priority == o) sys.objects) 0 else 0

-- the records of an object, in the order of its home lane, with what each tells
unfoldable pub by_object : Facts → Journal → ℕ → List Told
unfolding home_of lane_items records_of
by_object w j o = records_of w o 0 (lane_items (lane_at j (home_of w.sys j o)))

abbrev pub is_look_at : ℕ → Body → Bool
is_look_at o (body.Seen q f l m) = q == o
is_look_at o _ = false

-- a look at the queue of o, which has no object, as a record of o
abbrev pub as_own : ℕ → Item → Item
as_own o i = if (i.of == 0) && is_look_at o i.body then record { of = o; body = i.body } else i

-- the records of a lane; where it is o's alone, its looks at its own queue count as records of o
unfoldable pub own_items : Bool → ℕ → List Item → List Item
own_items false o is = is
own_items true o is = map (as_own o) is

-- the records of an object for its shape: in `port` its looks at its own queue stand among them
unfoldable pub home_records : Facts → Journal → ℕ → List Told
unfolding home_of lane_items own_items records_of
home_records w j o = records_of w o 0 (own_items (j.kernel == port) o (lane_items (lane_at j (home_of w.sys j o))))
