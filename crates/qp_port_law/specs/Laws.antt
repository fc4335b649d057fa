-- The laws of runs with threads.
use Rattle.std.specs.Prelude.{◌≡◌, ℕ, List}
use Rattle.qp_model.specs.declared.stimulus.Stim.{Stim}
use Rattle.qp_model.specs.declared.systems.System.{System}
use Rattle.qp_model.specs.declared.journals.Journal.{Journal}
use Rattle.qp_model.specs.Acts.{Config}
use Rattle.qp_model.specs.Kernels.{port}
use Rattle.qp_model.specs.Sound.{IsSound}
use Rattle.qp_model.specs.Lawful.{Lawful, deferred_of}
use Rattle.qp_kernel.specs.Laws.{kept_by}
use Rattle.qp_port_law.specs.PortRun.{IsPortRun}
use Rattle.qp_port_law.specs.HomesRest.{HomesRest}
use Rattle.qp_port_law.specs.QkRun.{IsQkRun}

-- a run with a lane for each object leaves a lawful journal
abbrev pub PortRunsAreLawful : Type 0
PortRunsAreLawful = (sys : System) (stimuli : List (List Stim)) (j : Journal) → IsPortRun sys stimuli j → Lawful sys stimuli j

-- so does a run with one lane for all objects, beside the lanes of its sources
abbrev pub QkRunsAreLawful : Type 0
QkRunsAreLawful = (sys : System) (stimuli : List (List Stim)) (j : Journal) → IsQkRun sys stimuli j → Lawful sys stimuli j

-- the deferred entries of a journal whose objects rest, each in its lane, are those that they keep
abbrev pub HomesKeepDeferred : Type 0
HomesKeepDeferred =
    (sys : System) (j : Journal) (keeps : ℕ → Config) → IsSound sys → j.kernel ≡ port → HomesRest sys j keeps 1 sys.objects
    → deferred_of sys j sys.objects ≡ kept_by keeps sys.objects
