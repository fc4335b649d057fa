-- Lane 0 of a run that has ended.
use Rattle.std.specs.Prelude.{◌≡◌, ℕ, ◌≤◌, ◌==◌, nat_lt, Bool, true, false, not, ◌&&◌, ◌||◌, List, map, length, if◌then◌else◌, Some, None}
use Rattle.std.specs.List.{list_any, list_all, filter}
use Rattle.qp_chart.specs.declared.checked.Chart.{Chart}
use Rattle.qp_model.specs.declared.systems.System.{System}
use Rattle.qp_model.specs.declared.systems.ObjectDef.{ObjectDef}
use Rattle.qp_model.specs.Record.{Item}
use Rattle.qp_model.specs.Told.{Told, ToldItem, untold}
use Rattle.qp_model.specs.Knowing.{told_alone}
use Rattle.qp_model.specs.ObjectShape.{HasShape}
use Rattle.qp_model.specs.Ends.{is_assert, is_spent, may_cut, spills_cut, ends_last}
use Rattle.qp_model.specs.End.{took_count, spents_follow, spills_state}
use Rattle.qp_model.specs.Sites.{object_at}
use Rattle.qp_model.specs.Kernels.{qk}
use Rattle.qp_model.specs.KernelLane.{Reading, lane_on, unread, is_whole_reading}
use Rattle.qp_model.specs.Course.{Cut, Whole, Stopped, Anywhere, FollowsTo, chart_at}
use Rattle.qp_model.specs.Lawful.{spill_cuts}
use Rattle.qp_kernel.specs.LaneZero.{told_pieces, setting}

-- how the list of an object may be cut: by a `spill` right behind its record anywhere, else where a lane may stop
abbrev pub cut_in : ℕ → ℕ → List Item → Cut
cut_in end o lane = if may_cut end then (if spill_cuts o lane then Anywhere else Stopped) else Whole

-- a lane that stopped early has started all objects, unless an assertion ended it; another one is whole
abbrev pub may_stand : ℕ → ℕ → Reading → List Item → Bool
may_stand kernel end last lane =
    if may_cut end then (length last.unstarted == 0) || list_any (λ i. is_assert i.body) lane else is_whole_reading kernel last

-- a `spent` stands where its object took just its budget
abbrev pub is_spent_right : ℕ → List Item → Item → Bool
is_spent_right budget lane i = not (is_spent i.body) || (nat_lt 0 i.of && (took_count lane i.of == budget))

-- the records of an object among those of a lane
abbrev pub own_told : ℕ → List ToldItem → List Told
own_told o ts = told_alone (filter (λ t. t.of == o) ts)

-- how many rows at the base have no step, where lane 0 has read so many: under `qk` these, under the kernels of one thread at most one
abbrev pub most_rows : ℕ → ℕ → ℕ
most_rows kernel idle = if kernel == qk then idle else 1

-- Lane 0 of a run that ended so, whose stimuli stand in these looks: it reads to its last place, with at most so many rows at the base that
-- have no step; each object follows its chart as far as its list goes, and the records that end a lane stand where they may.
pub record ZeroEnds (sys : System) (kernel budget end most : ℕ) (told : List ToldItem) (has : ℕ → Bool) : Type 0 where
  pub last : Reading
  pub read : lane_on (setting sys kernel has) (unread sys) (map untold told) ≡ Some last
  pub idle : last.idle ≤ most
  pub spills : spills_cut end (map untold told) ≡ true
  pub stands : may_stand kernel end last (map untold told) ≡ true
  pub follows : (d : ObjectDef) (chart : Chart) → object_at sys d.priority ≡ Some d → chart_at sys d.chart ≡ Some chart
      → FollowsTo sys d (cut_in end d.priority (map untold told)) (told_pieces (setting sys kernel has) d.priority (unread sys) told)
  pub shapes : (d : ObjectDef) (chart : Chart) → object_at sys d.priority ≡ Some d → chart_at sys d.chart ≡ Some chart
      → HasShape sys d.priority false (cut_in end d.priority (map untold told)) (own_told d.priority told)
  pub ends : ends_last (map untold told) ≡ true
  pub spents : spents_follow None (map untold told) ≡ true
  pub spent : list_all (is_spent_right budget (map untold told)) (map untold told) ≡ true
  pub states : spills_state 0 (map untold told) ≡ true
  pub budgets : (o : ℕ) → took_count (map untold told) o ≤ budget
