-- A look with a floor that doesn't stand there.
use Rattle.std.proofs.Common.{◌≡◌, refl, true, false}
use Rattle.qp_model.specs.KernelLane.{lane_read}
use Rattle.qp_model.specs.Home.{home_records, own_items}
use Rattle.qp_model.specs.Ends.{spills_cut}
use Rattle.qp_model.specs.Lawful.{setting_of, CourseHolds, deferral_holds}
use Rattle.qp_model.specs.WordLaw.{words_hold}
use Rattle.qp_model.proofs.WordTestLemmas.{words-from}
use Rattle.qp_model_rows.specs.Systems.{lamp}
use Rattle.qp_model_rows.specs.Journals.{wrong_floor, wrong_floor_lanes}
use Rattle.std.specs.List.{AllByRecursion}
use Rattle.qp_model.specs.History.{all_items, lane_items}
use Rattle.qp_model.specs.WordLaw.{Words}
use Rattle.qp_model.specs.Lawful.{ObjectHolds, KernelHolds}
use Rattle.qp_model_rows.specs.Broken.{BreaksKernelLane}
use Rattle.qp_model_rows.proofs.LampObject.{lamp_1_body_1, lamp_1_step_1, lamp_1_start, lamp_1_pieces, lamp_1_follows, lamp_1_shape}

words : Words lamp wrong_floor_lanes
unfolding words_hold
words = words-from lamp wrong_floor_lanes refl

objects : AllByRecursion (ObjectHolds lamp wrong_floor) lamp.objects
unfolding CourseHolds deferral_holds lamp_1_pieces lamp_1_start lamp_1_step_1 lamp_1_body_1 home_records own_items
objects = (record { shapes = record { shape = lamp_1_shape; home = refl }; deferral = refl; course = (lamp_1_pieces, refl, lamp_1_follows) }, tt)

no_lane : KernelHolds lamp wrong_floor → ⊥
unfolding lane_read setting_of all_items lane_items spills_cut
no_lane h = let wrong : false ≡ true = h.lane in cc

pub broken : BreaksKernelLane lamp wrong_floor
broken = record { words = words; objects = objects; broken = no_lane; unlawful = λ stimuli h. no_lane h.kernel }
