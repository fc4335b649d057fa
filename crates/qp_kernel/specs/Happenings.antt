-- What has happened in the looks of a lane: the lanes of the sources, and the one order of all records.
use Rattle.std.specs.Prelude.{◌≡◌, ℕ, ◌+◌, ◌-◌, ◌==◌, nat_le, Bool, true, false, ◌&&◌, List, [], ◌∷◌, ◌++◌, map, length, take, drop, if◌then◌else◌, ⊤}
use Rattle.std.specs.List.{list_any}
use Rattle.std.specs.Option.{is_some}
use Rattle.qp_model.specs.declared.stimulus.Stim.{Stim}
use Rattle.qp_model.specs.declared.systems.System.{System}
use Rattle.qp_model.specs.Record.{Item}
use Rattle.qp_model.specs.Told.{Told, ToldItem, for_object}
use Rattle.qp_model.specs.Kernels.{sim}
use Rattle.qp_model.specs.OneOrder.{Placed, stim_of}
use Rattle.qp_calls.specs.LaneView.{LaneView, Happening}
use Rattle.qp_model_order.specs.RunOrder.{RunsInOrder, EndsInOrder}
use Rattle.qp_model_order.specs.Placing.{all_placed}
use Rattle.qp_model_order.specs.SourceRun.{untold_all, SourceGoes, SourceEnds}
use Rattle.qp_model_order.specs.Stimulus.{source_items}

-- the records of a happening, in the lane of its source
abbrev pub placed_of : Happening → List Placed
placed_of h = all_placed h.source (source_items h.told)

-- the records of a lane, of which n went before, with each happening where it came
unfoldable pub run_order : ℕ → List Item → List Happening → List Placed
run_order n lane [] = all_placed 0 lane
run_order n lane (h ∷ hs) = all_placed 0 (take (h.at - n) lane) ++ placed_of h ++ run_order h.at (drop (h.at - n) lane) hs

-- the order of all records that the lane and the sources have
abbrev pub lane_order : LaneView → List Placed
lane_order v = run_order 0 (untold_all v.told) v.happened

-- they came in this order, and none after so many records of the lane
unfoldable pub rises : ℕ → List Happening → ℕ → Bool
rises n [] most = nat_le n most
rises n (h ∷ hs) most = nat_le n h.at && rises h.at hs most

-- what the lane of a source tells
unfoldable pub told_by_source : ℕ → List Happening → List Told
told_by_source n [] = []
told_by_source n (h ∷ hs) = (if h.source == n then h.told else []) ++ told_by_source n hs

-- the same, as told for no object
abbrev pub lane_told : ℕ → List Happening → List ToldItem
lane_told n hs = map (for_object 0) (told_by_source n hs)

-- the lanes of the sources from number n on
unfoldable pub lanes_from : ℕ → List (List Stim) → List Happening → List (List Item)
unfolding told_by_source
lanes_from n [] hs = []
lanes_from n (ss ∷ more) hs = source_items (told_by_source n hs) ∷ lanes_from (n + 1) more hs

abbrev pub lanes_of : LaneView → List (List Item)
lanes_of v = lanes_from 1 v.plan v.happened

-- how many stimuli of a source have happened
unfoldable pub begun_by : ℕ → List Happening → ℕ
begun_by n [] = 0
begun_by n (h ∷ hs) = (if h.source == n then 1 else 0) + begun_by n hs

-- each source has done so many of its stimuli, each with its records
unfoldable pub SourcesMarch : System → ℕ → List (List Stim) → List Happening → Type 0
unfolding begun_by told_by_source
SourcesMarch sys n [] hs = ⊤
SourcesMarch sys n (ss ∷ more) hs = SourceGoes sys sim (take (begun_by n hs) ss) (lane_told n hs) × SourcesMarch sys (n + 1) more hs

-- each source has come to where a run that ended so may leave it
unfoldable pub SourcesHalt : System → ℕ → Bool → ℕ → List (List Stim) → List Happening → Type 0
unfolding told_by_source
SourcesHalt sys end cuts n [] hs = ⊤
SourcesHalt sys end cuts n (ss ∷ more) hs = SourceEnds sys sim end cuts ss (lane_told n hs) × SourcesHalt sys end cuts (n + 1) more hs

-- Between two looks: the records are in the order of a run with so many looks, and the sources are as far as that.
pub record IsInOrder (sys : System) (looks : ℕ) (v : LaneView) : Type 0 where
  pub order : RunsInOrder sys v.plan looks (untold_all v.told) (lanes_of v) (lane_order v)
  pub sources : SourcesMarch sys 1 v.plan v.happened
  pub rises : rises 0 v.happened (length v.told) ≡ true

-- Where the run has stopped early with this end.
pub record IsOrderEnded (sys : System) (end : ℕ) (v : LaneView) : Type 0 where
  pub cuts : Bool
  pub order : EndsInOrder sys v.plan (untold_all v.told) (lanes_of v) cuts (lane_order v)
  pub sources : SourcesHalt sys end cuts 1 v.plan v.happened

-- no `stim` stands in the lane itself
abbrev pub has_no_stim : LaneView → Type 0
has_no_stim v = list_any (λ t. is_some (stim_of t.told.body)) v.told ≡ false
