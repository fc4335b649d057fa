-- Names, and what a system declares under them.
use Rattle.std.specs.Prelude.{ℕ, ◌+◌, List, [], ◌∷◌, if◌then◌else◌, Some, None, IfSome, ◌≤◌}
use Rattle.std.specs.declared.option.Option.{Option}
use Rattle.std.specs.Str.{bytes_eq}
use Rattle.qp_model.specs.declared.systems.System.{System}
use Rattle.qp_model.specs.declared.systems.SignalDef.{SignalDef}
use Rattle.qp_model.specs.declared.systems.ObjectDef.{ObjectDef}
use Rattle.qp_stim.specs.declared.names.Signal.{Signal}

-- what names stand for: the priority of an object, and a signal
pub record Dictionary : Type 0 where
  pub object : List ℕ → Option ℕ
  pub signal : List ℕ → Option Signal

abbrev pub object_in : List ObjectDef → List ℕ → Option ℕ
object_in [] name = None
object_in (d ∷ ds) name = if bytes_eq d.name name then Some d.priority else object_in ds name

-- signals are numbered in the order in which they are declared, here from n on
abbrev pub signal_in : ℕ → List SignalDef → List ℕ → Option Signal
signal_in n [] name = None
signal_in n (d ∷ ds) name = if bytes_eq d.name name then Some (record { number = n; params = d.params; fixed = d.fixed }) else signal_in (n + 1) ds name

-- each signal has at most eight parameters
abbrev pub FewParams : Dictionary → Type 0
FewParams names = (name : List ℕ) → IfSome (names.signal name) (λ signal. signal.params ≤ 8)

-- the names of a system; the first signal has number 4
abbrev pub dictionary_of : System → Dictionary
dictionary_of sys = record { object = object_in sys.objects; signal = signal_in 4 sys.signals }
