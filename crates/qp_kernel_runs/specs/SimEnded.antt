-- Worlds of `sim` ended.
use Rattle.std.specs.Prelude.{◌≡◌, ℕ, ◌+◌, ◌<◌, ◌==◌, Bool, true, ◌||◌, List, length, IsTrue}
use Rattle.std.specs.List.{list_all, list_any, count_by}
use Rattle.qp_model.specs.declared.record.Rec.{Rec}
use Rattle.qp_model.specs.declared.words.Word.{Word}
use Rattle.qp_model.specs.Knowing.{told_lane}
use Rattle.qp_model.specs.History.{lane_items}
use Rattle.qp_model.specs.End.{has_room}
use Rattle.qp_model.specs.OneOrder.{enters, leaves}
use Rattle.qp_model.specs.WordLaw.{is_object}
use Rattle.qp_model.specs.Stops as stop
use Rattle.qp_calls.specs.Notes.{stop_code}
use Rattle.qp_plain_sound.specs.Log.{lane_recs, log_of}
use Rattle.qp_plain_sound.specs.Sound.{SoundWorld, facts_in, hands_in}
use Rattle.qp_plain_sound.specs.View.{shown_in}
use Rattle.qp_plain_sound.specs.WordStates.{line_in}
use Rattle.qp_kernel.specs.Happenings.{lane_told, lane_order}
use Rattle.qp_kernel_runs.specs.declared.world.SimWorld.{SimWorld}
use Rattle.qp_kernel_runs.specs.SimView.{sim_view}

-- a record of these lanes ends its lane with this code
abbrev pub has_cause : List (List Rec) → ℕ → Bool
has_cause lanes code = (code == stop.memory) || list_any (λ lane. list_any (λ i. stop_code i.body == code) (lane_items lane)) lanes

-- These are the lanes of the world: lane 0 and the sources tell what is seen of them, the log is their order, and all words keep their laws.
-- A code that was found is 7, or a record stands for it.
pub record IsSimEnded (w : SimWorld) (lanes : List (List Rec)) : Type 0 where
  pub order : List ℕ
  pub world : SoundWorld (sim_view w).sys lanes order
  pub count : length lanes ≡ 1 + length (sim_view w).plan
  pub zero : told_lane (facts_in (sim_view w).sys lanes) 0 (lane_items (lane_recs lanes 0)) ≡ (sim_view w).told
  pub sources : (n : ℕ) → 0 < n → n < length lanes → told_lane (facts_in (sim_view w).sys lanes) 0 (lane_items (lane_recs lanes n)) ≡ lane_told n (sim_view w).happened
  pub log : log_of lanes order ≡ lane_order (sim_view w)
  pub shown : (x : Word) → (sim_view w).shown x ≡ shown_in (sim_view w).sys lanes x
  pub hands : (sim_view w).hands ≡ hands_in (sim_view w).sys lanes order
  -- as many posts and takes as the queues tell stand in the order
  pub entered : (a : ℕ) → IsTrue (is_object (sim_view w).sys a)
      → count_by (λ x. enters a x.item) (lane_order (sim_view w)) ≡ (line_in (sim_view w).sys lanes a).f + (line_in (sim_view w).sys lanes a).l
  pub left : (a : ℕ) → IsTrue (is_object (sim_view w).sys a) → count_by (λ x. leaves a x.item) (lane_order (sim_view w)) ≡ (line_in (sim_view w).sys lanes a).m
  pub room : list_all (λ lane. has_room (lane_items lane)) lanes ≡ true
  pub stop : list_all (λ code. has_cause lanes code) (sim_view w).answered ≡ true
