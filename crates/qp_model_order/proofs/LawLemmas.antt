-- The laws of the order of lanes.
use Rattle.std.proofs.Common.{◌≡◌, true, [], ◌∷◌}
use Rattle.std.proofs.lemmas.List.Sorted.{IsPermutation-append_right, IsPermutation-middle}
use Rattle.qp_model_order.specs.LaneLaws.{LanesStandInAnyOrder, NeighboursChangePlaces, EmptyLanesAreNoMatter, HistoriesStayInAnyOrder, SameRecordsInAnyOrder}
use Rattle.qp_model_order.proofs.Records.{each-ordered, count-ordered}
use Rattle.qp_model_order.proofs.Orders.{words-ordered, words-filled, words-emptied, numbers-ordered, hist-ordered}

pub lanes_stand_in_any_order : LanesStandInAnyOrder
lanes_stand_in_any_order sys xs ys order law = words-ordered sys xs ys order law

pub neighbours_change_places : NeighboursChangePlaces
neighbours_change_places sys before x y behind law = words-ordered sys _ _ (IsPermutation-append_right before (x ∷ y ∷ behind) (y ∷ x ∷ behind) (IsPermutation-middle (x ∷ []) y behind)) law

pub empty_lanes_are_no_matter : EmptyLanesAreNoMatter
empty_lanes_are_no_matter sys xs = (words-filled sys xs, words-emptied sys xs)

pub histories_stay_in_any_order : HistoriesStayInAnyOrder
histories_stay_in_any_order w xs ys order numbers = (numbers-ordered xs ys order w numbers, hist-ordered xs ys order w numbers)

pub same_records_in_any_order : SameRecordsInAnyOrder
same_records_in_any_order xs ys order = (count-ordered xs ys order, λ p. each-ordered xs ys order (λ i. p i ≡ true))
