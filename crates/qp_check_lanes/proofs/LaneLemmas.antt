-- Records of lanes, one more at the end.
use Rattle.std.proofs.Common.{◌≡◌, List, [], ◌∷◌, ◌++◌, ap, sym, ◌∙◌, append_assoc, append-nil}
use Rattle.qp_model.specs.declared.record.Rec.{Rec}
use Rattle.qp_model.specs.History.{lane_items, all_items}

pub all_items-more : (lanes : List (List Rec)) (lane : List Rec) → all_items (lanes ++ lane ∷ []) ≡ all_items lanes ++ lane_items lane
unfolding all_items
all_items-more [] lane = append-nil (lane_items lane)
all_items-more (l ∷ ls) lane = ap (λ xs. lane_items l ++ xs) (all_items-more ls lane) ∙ sym (append_assoc (lane_items l) (all_items ls) (lane_items lane))
