-- A step is preempted, and `locked` holds others back.
use Rattle.std.proofs.Common.{refl, inr, true, [], ◌∷◌}
use Rattle.qp_model.specs.declared.bodies.Body.TheVariants as item
use Rattle.qp_model.specs.Record.{entry}
use Rattle.qp_model.specs.Told.{plain}
use Rattle.qp_model.specs.Calls.{Granted}
use Rattle.qp_model.specs.Sources.{AllDone, none_twice}
use Rattle.qp_model.specs.KernelLane.{lane_read}
use Rattle.qp_model.specs.Points.{lane_pieces}
use Rattle.qp_model.specs.Places.{in_order}
use Rattle.qp_model.specs.OneOrder.{stims_placed, looks_right, order, last_is_free}
use Rattle.qp_model.specs.Ends.{ends_last, spills_cut}
use Rattle.qp_model.specs.End.{spents_hold, spills_state, has_room, took_count, lines_empty, blocks_rest}
use Rattle.qp_model.specs.Home.{home_records, own_items}
use Rattle.qp_model.specs.HomeLane.{is_home_lane}
use Rattle.qp_model.specs.Lawful.{Lawful, setting_of, CourseHolds, SourceLanes, SpillsStand, OrderHolds, deferral_holds, EndHolds}
use Rattle.qp_model.specs.WordLaw.{words_hold}
use Rattle.qp_model.proofs.WordTestLemmas.{words-from}
use Rattle.qp_model_rows.specs.Systems.{go_once, levels}
use Rattle.qp_model_rows.specs.Journals.{preempted, preempted_lanes}
use Rattle.qp_model_rows.proofs.LevelsObjects.{low_body_1, low_step_1, low_start, low_pieces, low_follows, low_shape, middle_body_1, middle_step_1, middle_start, middle_pieces, middle_follows, middle_shape, high_body_1, high_step_1, high_body_2, high_step_2, high_start, high_pieces, high_follows, high_shape}

pub lawful : Lawful (levels 1) go_once preempted
unfolding words_hold CourseHolds SourceLanes SpillsStand OrderHolds EndHolds deferral_holds lane_read setting_of lane_pieces none_twice stims_placed looks_right order in_order last_is_free ends_last spents_hold spills_state has_room took_count lines_empty blocks_rest is_home_lane low_pieces low_start low_step_1 low_body_1 middle_pieces middle_start middle_step_1 middle_body_1 high_pieces high_start high_step_1 high_step_2 high_body_1 high_body_2 home_records own_items spills_cut
lawful = record {
  words = words-from (levels 1) preempted_lanes refl;
  objects = (record { shapes = record { shape = low_shape 1 1 refl; home = refl }; deferral = refl; course = (low_pieces 1, refl, low_follows 1 1 refl) }, (record { shapes = record { shape = middle_shape 1; home = refl }; deferral = refl; course = (middle_pieces, refl, middle_follows 1) }, (record { shapes = record { shape = high_shape 1 1; home = refl }; deferral = refl; course = (high_pieces 1, refl, high_follows 1 1) }, tt)));
  kernel = record { lane = refl; points = (low_follows 1 1 refl, (middle_follows 1, (high_follows 1 1, tt))) };
  sources = record {
    lanes = (record { alone = refl; spills = refl; tries = refl; stimuli = (AllDone, inr (inr (1, plain (item.Post 1 1 0 0 (entry 0 4 0)) ∷ [], [], refl, refl, (Granted, (inr ([], entry 0 4 0, (refl, refl), (1, 0, 0, refl, refl))), refl), (refl, refl))), refl) }, tt);
    empty = refl;
    count = refl;
    order = (true, (tt, tt), record { placed = refl; turns = refl; numbers = refl; ends = refl; free = refl });
  };
  end = record { stated = refl; last = refl; spents = refl; spills = refl; room = refl; budgets = refl; queues = refl; blocks = refl };
}
