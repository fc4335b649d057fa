-- How far a journal has been read, item by item.
use Rattle.std.specs.Prelude.{ℕ, ◌==◌, nat_lt, nat_le, true, false, ◌&&◌, List, [], ◌∷◌, ◌++◌, length, if◌then◌else◌, Option, Some, None, Result, Ok, Err, option_to_list}
use Rattle.std.specs.Option.{is_some}
use Rattle.qp_model.specs.Kinds.{QP, LANE, END_LINE}
use Rattle.qp_model.specs.declared.record.Rec.{Rec}
use Rattle.qp_model.specs.declared.journals.Journal.{Journal}
use Rattle.qp_model.specs.Output.{JournalItem, last_kernel, is_end_status}
use Rattle.qp_text.specs.Codes.{COUNT, PLACE, OUT_OF_RANGE}
use Rattle.qp_text.specs.declared.progress.Reading.{Reading}

-- nothing has been read
abbrev pub nothing_read : Reading
nothing_read = record { begun = false; form = 0; kernel = 0; budget = 0; lanes = []; lane = None; end = None }

-- all lanes, with the one that is being read
abbrev pub all_lanes : Reading → List (List Rec)
all_lanes p = p.lanes ++ option_to_list p.lane

-- the lane that is being read is put behind those that are done
abbrev pub closed : Reading → Result Reading ℕ
closed p = Ok (record p { lanes = all_lanes p; lane = None })

-- a first line in this form
abbrev pub begin_reading : Reading → ℕ → List ℕ → Result Reading ℕ
begin_reading p form (stated ∷ kernel ∷ budget ∷ []) =
    if (stated == form) && nat_le kernel (last_kernel form) && nat_le 1 budget && nat_le budget 1000000
    then Ok (record p { begun = true; form = form; kernel = kernel; budget = budget })
    else Err OUT_OF_RANGE
begin_reading p form _ = Err COUNT

-- the head of a lane, whose number must be the next
abbrev pub open_lane : Reading → List ℕ → Result Reading ℕ
open_lane p (number ∷ []) =
    if number == length (all_lanes p)
    then (if nat_le number 48 then Ok (record p { lanes = all_lanes p; lane = Some [] }) else Err OUT_OF_RANGE)
    else Err PLACE
open_lane p _ = Err COUNT

-- the last line
abbrev pub close : Reading → List ℕ → Result Reading ℕ
close p (status ∷ []) = if is_end_status status then Ok (record p { lanes = all_lanes p; lane = None; end = Some status }) else Err OUT_OF_RANGE
close p _ = Err COUNT

-- a record, in the lane that is being read
abbrev pub add_record : Reading → ℕ → List ℕ → Option (List Rec) → Result Reading ℕ
add_record p id nums None = Err PLACE
add_record p id [] (Some lane) = Err COUNT
add_record p id (o ∷ nums) (Some lane) =
    if nat_le o 32 && nat_lt (length lane) 1000001
    then Ok (record p { lane = Some (lane ++ record { kind = id; of = o; nums = record { items = nums } } ∷ []) })
    else Err OUT_OF_RANGE

-- an item after the first
abbrev pub go_on : Reading → JournalItem → Result Reading ℕ
go_on p i =
    if is_some p.end then Err PLACE
    else (if i.id == QP then Err PLACE
    else (if i.id == LANE then open_lane p i.nums
    else (if i.id == END_LINE then close p i.nums else add_record p i.id i.nums p.lane)))

-- one more item, in this form
abbrev pub take_item : ℕ → Reading → JournalItem → Result Reading ℕ
take_item form p i = if p.begun then go_on p i else (if i.id == QP then begin_reading p form i.nums else Err PLACE)

-- the journal that was read
abbrev pub journal_of : Reading → ℕ → Journal
journal_of p status = record { kernel = p.kernel; budget = p.budget; lanes = p.lanes; end = status }
