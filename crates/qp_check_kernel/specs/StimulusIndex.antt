-- The records of stimuli by their looks.
use Rattle.std.specs.Prelude.{ℕ, List, [], ◌∷◌, ◌++◌}
use Rattle.std.specs.Option.{unwrap_or, option_map, option_map_or}
use Rattle.std.specs.BTreeMap.{get}
use Rattle.std.specs.Ordering.{nat_cmp}
use Rattle.qp_model.specs.Record.{Item}
use Rattle.qp_model.specs.OneOrder.{Placed, look_of}
use Rattle.qp_check_kernel.specs.declared.stimulus_index.Index.{Index}

-- the records of a look
abbrev pub parts_at : Index → ℕ → List Placed
parts_at x k = unwrap_or (get nat_cmp x.parts k) []

-- lane 0 with the records of each look right after it
unfoldable pub lane_with_parts : (ℕ → List Placed) → List Item → List Placed
lane_with_parts parts [] = []
lane_with_parts parts (i ∷ is) =
    record { lane = 0; item = i } ∷ option_map_or parts (option_map (λ l. l.0) (look_of i.body)) [] ++ lane_with_parts parts is
