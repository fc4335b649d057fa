-- The run with one thread whose order is asked for.
use Rattle.std.specs.Prelude.{ℕ, Bool, List, [], ◌∷◌, map, Some, None}
use Rattle.std.specs.declared.option.Option.{Option}
use Rattle.qp_model.specs.declared.record.Rec.{Rec}
use Rattle.qp_model.specs.declared.stimulus.Stim.{Stim}
use Rattle.qp_model.specs.declared.systems.System.{System}
use Rattle.qp_model.specs.History.{lane_items}
use Rattle.qp_model.specs.OneOrder.{OneThread, Placed, is_turn}
use Rattle.qp_check_kernel.specs.OrderTurns.{turns_in}

abbrev pub run_of : System → List (List Stim) → Bool → List Rec → List (List Rec) → OneThread
run_of sys stimuli cuts lane0 sources = record {
  sys = sys;
  stimuli = stimuli;
  lane0 = lane_items lane0;
  sources = map (λ lane. lane_items lane) sources;
  cuts = cuts;
}

-- no stimulus is among the records of a look
abbrev pub has_no_turn : (ℕ → List Placed) → ℕ → Bool
has_no_turn parts k = is_turn None (turns_in (parts k))

-- the last of the numbers
abbrev pub last_of : List ℕ → Option ℕ
last_of [] = None
last_of (k ∷ []) = Some k
last_of (k ∷ n ∷ ks) = last_of (n ∷ ks)
