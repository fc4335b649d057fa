-- The laws of a lane, by the records of its world.
use Rattle.std.specs.Prelude.{◌≡◌, ℕ, ◌<◌, List, [], ◌∷◌, length, map, get_or, slice_set, refl}
use Rattle.std.proofs.Common.{sym, ◌∙◌, ap, arith}
use Rattle.std.proofs.lemmas.List.{map-set, length-map, get_or-set_same}
use Rattle.qp_model.specs.declared.record.Rec.{Rec}
use Rattle.qp_model.specs.declared.systems.System.{System}
use Rattle.qp_model.specs.Record.{Item}
use Rattle.qp_model.specs.History.{lane_items}
use Rattle.qp_model.specs.Knowing.{Facts, told, told_lane, ceiling_after}
use Rattle.qp_calls.specs.LaneView.{LaneView, Purse}
use Rattle.qp_calls.specs.LaneLaws.{IsWithinLimit, HasCauses}
use Rattle.qp_plain_sound.specs.Log.{lane_recs}
use Rattle.qp_plain_sound.specs.Sound.{facts_in}
use Rattle.qp_plain_sound.specs.View.{view_of}
use Rattle.qp_calls_log.specs.declared.log.Log.{Log}
use Rattle.qp_plain.specs.Books.{log_recs, all_logs}
use Rattle.qp_calls_log.specs.LaneLaws.{TellsLog}
use Rattle.qp_model.specs.Told.{untold}
use Rattle.qp_calls_log.specs.LaneLaws as logs

-- what all lanes hold
pub lists-are : (others : List Log) (at : ℕ) (here : Log) → map log_recs (all_logs others at here) ≡ slice_set (map log_recs others) at (log_recs here)
lists-are others at here = map-set log_recs others at here

-- the records of the lane chosen
pub lane-here : (others : List Log) (at : ℕ) (here : Log) → at < length others → lane_recs (map log_recs (all_logs others at here)) at ≡ log_recs here
lane-here others at here lt =
    ap (λ xs. get_or xs at []) (lists-are others at here) ∙ get_or-set_same (map log_recs others) at (log_recs here) [] (let long = length-map others log_recs in omega (arith, lt, long))

-- what is told has the records in their order
pub told-lane-items : (w : Facts) (c : ℕ) (is : List Item) → map untold (told_lane w c is) ≡ is
unfolding told_lane told
told-lane-items w c [] = refl
told-lane-items w c (i ∷ is) = ap (λ js. i ∷ js) (told-lane-items w (ceiling_after c i.body) is)

pub told-length : (w : Facts) (c : ℕ) (is : List Item) → length (told_lane w c is) ≡ length is
told-length w c is = sym (length-map (told_lane w c is) untold) ∙ ap length (told-lane-items w c is)

module _ (sys : System) (others : List Log) (order : List ℕ) (at : ℕ) (here : Log) (by : ℕ) (purses : List Purse) (lt : at < length others) where
  abbrev seen : LaneView
  seen = view_of sys (map log_recs (all_logs others at here)) order at here.spare by here.stops.list here.answered.list purses

  -- the lane chosen tells its log
  pub tells-log : TellsLog here seen
  unfolding view_of
  tells-log = record {
    told = told-lane-items (facts_in sys (map log_recs (all_logs others at here))) 0 (lane_items (lane_recs (map log_recs (all_logs others at here)) at)) ∙ ap (λ (l : List Rec). lane_items l) (lane-here others at here lt);
    spare = refl;
    stops = refl;
  }

  pub keeps-limit : IsWithinLimit seen
  keeps-limit = logs.keeps-limit here seen tells-log

  pub has-causes : HasCauses seen
  has-causes = logs.has-causes here seen tells-log
