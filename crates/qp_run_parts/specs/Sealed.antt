-- The sealed journal that a call leaves.
use Rattle.std.specs.Prelude.{◌≡◌, ℕ, Bool, true, false, ◌&&◌, if◌then◌else◌, List, Option, None, Some, MatchBool}
use Rattle.qp_base.specs.Sink.{appended}
use Rattle.qp_kernel_end.specs.declared.rest.Rest.{Rest}
use Rattle.qp_model.specs.declared.journals.Journal.{Journal}
use Rattle.qp_model.specs.declared.stimulus.Stim.{Stim}
use Rattle.qp_model.specs.declared.systems.System.{System}
use Rattle.qp_wait_runs.specs.Handed.{WasSealedFor}
use Rattle.qp_commands.specs.declared.values.KernelName.{KernelName}
use Rattle.qp_commands.specs.declared.values.Output.{Output}
use Rattle.qp_commands.specs.WordTable.{Asked, has_threads, number_of_form, run}
use Rattle.qp_run_parts.specs.declared.ran.Ran.{Ran}
use Rattle.qp_run_parts.specs.declared.ran.Ran.TheVariants.{Alone, Threaded}
use Rattle.qp_run_parts.specs.declared.status.Status.{Status}
use Rattle.qp_run_parts.specs.declared.status.Status.TheVariants.{Done, Asserted, Spent}
use Rattle.qp_run_parts.specs.Conversions.{Held}
use Rattle.qp_run_parts.specs.Printed.{IsRunUnder, PrintsOf}
use Rattle.qp_run_parts.specs.Verdict.{IsInput, Stream}

abbrev pub journal_of_run : Ran → Journal
journal_of_run (Alone ran) = ran.journal
journal_of_run (Threaded ran) = ran.sealed.journal

abbrev pub rests_of : Ran → List Rest
rests_of (Alone ran) = ran.rests.items
rests_of (Threaded ran) = ran.rests.items

-- the journal, where it was sealed
abbrev pub sealed_in : Ran → Option Journal
sealed_in (Alone ran) = None
sealed_in (Threaded ran) = Some ran.sealed.journal

-- the answer of a run that ended by itself, whatever its end
abbrev pub is_run_ended : Status → Bool
is_run_ended Done = true
is_run_ended (Asserted code lane) = true
is_run_ended (Spent lane) = true
is_run_ended answer = false

-- a call with such an answer keeps the sealed journal of its run
abbrev pub kept_seal : Status → Option Journal → Option Journal
kept_seal answer seal = if is_run_ended answer then seal else None

-- what a call leaves: a lawful one of this kind where it runs with threads and ends as its run did, and else none
abbrev pub SealsOne : (threads : Bool) → Status → (Journal → Type 0) → Option Journal → Type 0
SealsOne threads answer IsIt seal = MatchBool (threads && is_run_ended answer) ((j : Journal) × (seal ≡ Some j) × IsIt j) (seal ≡ None)

-- a lawful journal of a run of this system and these stimuli, sealed of the lanes of one table for it, and the very one that was printed or summed up
pub record IsSealedRun (sys : System) (sources : List (List Stim)) (kernel : KernelName) (budget : ℕ) (output : Output) (form : ℕ) (old new : Option (List ℕ)) (answer : Status) (j : Journal) : Type 0 where
  pub run : IsRunUnder kernel sys sources budget j
  pub sealed : WasSealedFor sys j
  pub whole : List ℕ
  pub prints : PrintsOf output form sys j answer whole
  pub got : new ≡ appended old whole

-- the same of two files
pub record IsSealed (held : Option Held) (system_name stimuli_name : List ℕ) (kernel : KernelName) (budget : ℕ) (output : Output) (form : ℕ) (old new : Option (List ℕ)) (answer : Status) (j : Journal) : Type 0 where
  pub sys : System
  pub sources : List (List Stim)
  pub input : IsInput held system_name stimuli_name sys sources
  pub is : IsSealedRun sys sources kernel budget output form old new answer j

-- what a call that asks for this leaves
abbrev pub Seals : Option Held → Option Asked → (output : Stream) → Status → Option Journal → Type 0
Seals held (Some (run w)) output answer seal =
    SealsOne (has_threads w.kernel) answer
    (IsSealed held w.system w.stimuli w.kernel w.budget w.out (number_of_form w.form) output.before output.after answer) seal
Seals held asked output answer seal = seal ≡ None
