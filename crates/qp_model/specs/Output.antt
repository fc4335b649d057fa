-- A journal as the list of its items, which text and frames write one after another.
use Rattle.std.specs.Prelude.{ℕ, ◌+◌, ◌==◌, nat_le, Bool, not, ◌&&◌, ◌||◌, List, [], ◌∷◌, ◌++◌, map, length, if◌then◌else◌}
use Rattle.std.specs.List.{list_all}
use Rattle.qp_model.specs.Kinds.{QP, LANE, END_LINE, BEGIN, LOOK, REST}
use Rattle.qp_model.specs.declared.record.Rec.{Rec}
use Rattle.qp_model.specs.declared.journals.Journal.{Journal}
use Rattle.qp_model.specs.Kernels.{port, qv}
use Rattle.qp_model.specs.Ends.{quiet, end_asserted, spent}
use Rattle.qp_model.specs.Vocabulary.{has_count}

-- an item: its word by id, and the numbers after the word
pub record JournalItem : Type 0 where
  pub id : ℕ
  pub nums : List ℕ

abbrev pub item : ℕ → List ℕ → JournalItem
item id nums = record { id = id; nums = nums }

-- a record's first number is its object
abbrev pub record_item : Rec → JournalItem
record_item r = item r.kind (r.of ∷ r.nums.items)

-- a lane under its head
abbrev pub items_of_lane : ℕ → List Rec → List JournalItem
items_of_lane i lane = item LANE (i ∷ []) ∷ map record_item lane

-- the lanes from this number on
abbrev pub items_of_lanes : ℕ → List (List Rec) → List JournalItem
items_of_lanes i [] = []
items_of_lanes i (lane ∷ lanes) = items_of_lane i lane ++ items_of_lanes (i + 1) lanes

-- the first item states the form, the kernel and the budget, and the last the status
abbrev pub head_item : ℕ → Journal → JournalItem
head_item form j = item QP (form ∷ j.kernel ∷ j.budget ∷ [])

abbrev pub end_item : Journal → JournalItem
end_item j = item END_LINE (j.end ∷ [])

-- the items of a journal
abbrev pub items_of : ℕ → Journal → List JournalItem
items_of form j = head_item form j ∷ items_of_lanes 0 j.lanes ++ end_item j ∷ []

-- no record is `rest`
abbrev pub has_no_rest : List (List Rec) → Bool
has_no_rest lanes = list_all (list_all (λ (r : Rec). not (r.kind == REST))) lanes

-- form 1 knows neither the cooperative kernel nor `rest`
abbrev pub has_form : ℕ → Journal → Bool
has_form form j = (form == 2) || ((form == 1) && not (j.kernel == qv) && has_no_rest j.lanes)

-- the last id and the last kernel of a form
abbrev pub last_id : ℕ → ℕ
last_id form = if form == 2 then REST else LOOK

abbrev pub last_kernel : ℕ → ℕ
last_kernel form = if form == 2 then qv else port

-- a record in range: its kind, its count of numbers and its object
abbrev pub is_record_in_range : ℕ → Rec → Bool
is_record_in_range form r =
    nat_le BEGIN r.kind && nat_le r.kind (last_id form) && has_count r.kind (r.of ∷ r.nums.items) && nat_le r.of 32

-- at most a million records and a `spill`
abbrev pub is_lane_in_range : ℕ → List Rec → Bool
is_lane_in_range form lane = nat_le (length lane) 1000001 && list_all (is_record_in_range form) lane

-- the statuses that a run may end with
abbrev pub is_end_status : ℕ → Bool
is_end_status n = (n == quiet) || (n == end_asserted) || (n == spent)

-- a journal in range for a form
abbrev pub is_in_range : ℕ → Journal → Bool
is_in_range form j =
    nat_le j.kernel (last_kernel form) && nat_le 1 j.budget && nat_le j.budget 1000000 && is_end_status j.end
    && nat_le (length j.lanes) 49 && list_all (is_lane_in_range form) j.lanes
