-- A lamp is switched on, in `sim`.
use Rattle.std.proofs.Common.{refl, inr, true, [], ◌∷◌}
use Rattle.qp_model.specs.declared.bodies.Body.TheVariants as item
use Rattle.qp_model.specs.Record.{entry}
use Rattle.qp_model.specs.Told.{plain}
use Rattle.qp_model.specs.Calls.{Granted}
use Rattle.qp_model.specs.Sources.{AllDone, none_twice}
use Rattle.qp_model.specs.KernelLane.{lane_read}
use Rattle.qp_model.specs.Points.{lane_pieces}
use Rattle.qp_model.specs.Places.{in_order}
use Rattle.qp_model.specs.OneOrder.{stims_placed, looks_right, order, last_is_free}
use Rattle.qp_model.specs.Ends.{ends_last, spills_cut}
use Rattle.qp_model.specs.End.{spents_hold, spills_state, has_room, took_count, lines_empty, blocks_rest}
use Rattle.qp_model.specs.Home.{home_records, own_items}
use Rattle.qp_model.specs.HomeLane.{is_home_lane}
use Rattle.qp_model.specs.Lawful.{Lawful, setting_of, CourseHolds, SourceLanes, SpillsStand, OrderHolds, deferral_holds, EndHolds}
use Rattle.qp_model.specs.WordLaw.{words_hold}
use Rattle.qp_model.proofs.WordTestLemmas.{words-from}
use Rattle.qp_model_rows.specs.Systems.{go_once, lamp}
use Rattle.qp_model_rows.specs.Journals.{switched, switched_lanes}
use Rattle.qp_model_rows.proofs.LampObject.{lamp_1_body_1, lamp_1_step_1, lamp_1_start, lamp_1_pieces, lamp_1_follows, lamp_1_shape}

pub lawful : Lawful lamp go_once switched
unfolding words_hold CourseHolds SourceLanes SpillsStand OrderHolds EndHolds deferral_holds lane_read setting_of lane_pieces none_twice stims_placed looks_right order in_order last_is_free ends_last spents_hold spills_state has_room took_count lines_empty blocks_rest is_home_lane lamp_1_pieces lamp_1_start lamp_1_step_1 lamp_1_body_1 home_records own_items spills_cut
lawful = record {
  words = words-from lamp switched_lanes refl;
  objects = (record { shapes = record { shape = lamp_1_shape; home = refl }; deferral = refl; course = (lamp_1_pieces, refl, lamp_1_follows) }, tt);
  kernel = record { lane = refl; points = (lamp_1_follows, tt) };
  sources = record {
    lanes = (record { alone = refl; spills = refl; tries = refl; stimuli = (AllDone, inr (inr (1, plain (item.Post 1 1 0 0 (entry 0 4 0)) ∷ [], [], refl, refl, (Granted, (inr ([], entry 0 4 0, (refl, refl), (1, 0, 0, refl, refl))), refl), (refl, refl))), refl) }, tt);
    empty = refl;
    count = refl;
    order = (true, (tt, tt), record { placed = refl; turns = refl; numbers = refl; ends = refl; free = refl });
  };
  end = record { stated = refl; last = refl; spents = refl; spills = refl; room = refl; budgets = refl; queues = refl; blocks = refl };
}
