-- Lane 0 of a world whose sources act in its looks.
use Rattle.std.specs.Prelude.{List}
use Rattle.qp_model.specs.declared.stimulus.Stim.{Stim}
use Rattle.qp_calls.specs.LaneView.{LaneView, Happening}

-- the lane with the stimuli of its sources, and with what has happened
abbrev pub seated : List (List Stim) → List Happening → LaneView → LaneView
seated plan happened v = record v { plan = plan; happened = happened }
