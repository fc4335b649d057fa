-- What the table of words means on plain calls.
use Rattle.std.specs.Prelude.{codes, decimal, ℕ, ◌≡◌, ◌≢◌, ◌≤◌, ◌==◌, Bool, true, not, List, [], ◌∷◌, None, Some, is_some}
use Rattle.std.specs.List.{list_all}
use Rattle.clap.specs.Words.{Text}
use Rattle.qp_commands.specs.declared.values.KernelName.{KernelName}
use Rattle.qp_commands.specs.declared.values.KernelName.TheVariants.{Sim, Qk, Port, Wait, Qv}
use Rattle.qp_commands.specs.declared.values.Kind.{Kind}
use Rattle.qp_commands.specs.declared.values.Kind.TheVariants.{Frames, Journal}
use Rattle.qp_commands.specs.declared.values.Output.{Output}
use Rattle.qp_commands.specs.declared.values.Output.TheVariants.{Whole, Summary}
use Rattle.qp_commands.specs.declared.values.Form.{Form}
use Rattle.qp_commands.specs.declared.values.Form.TheVariants.{One, Two}
use Rattle.qp_commands.specs.WordTable.{budget_in, check, command_in, decode, generate, is_form_of, migrate, replay, run}

-- the word doesn't begin with `-`
abbrev pub is_operand : Text → Bool
is_operand [] = true
is_operand (b ∷ bs) = not (b == 45)

-- a run of two names has the defaults
abbrev pub RunOfNames : Type 0
RunOfNames = (system stimuli : Text) → is_operand system ≡ true → is_operand stimuli ≡ true
    → command_in (codes "run" ∷ system ∷ stimuli ∷ [])
    ≡ Some (run (record { kernel = Sim; budget = 100000; out = Whole Journal; form = One; system = system; stimuli = stimuli }))

-- the name of a file of frames is decoded
abbrev pub DecodeOfName : Type 0
DecodeOfName = (frames : Text) → is_operand frames ≡ true → command_in (codes "decode" ∷ frames ∷ []) ≡ Some (decode frames)

-- a migration of a name reads text, and goes to form 2
abbrev pub MigrateOfName : Type 0
MigrateOfName = (file : Text) → is_operand file ≡ true
    → command_in (codes "migrate" ∷ file ∷ []) ≡ Some (migrate (record { from = Journal; to = Two; file = file }))

-- three names are a system, its stimuli and a journal
abbrev pub CheckOfNames : Type 0
CheckOfNames = (system stimuli journal : Text) → is_operand system ≡ true → is_operand stimuli ≡ true → is_operand journal ≡ true
    → command_in (codes "check" ∷ system ∷ stimuli ∷ journal ∷ [])
    ≡ Some (check (record { system = system; stimuli = stimuli; journal = journal }))

-- and they are a replay
abbrev pub ReplayOfNames : Type 0
ReplayOfNames = (system stimuli journal : Text) → is_operand system ≡ true → is_operand stimuli ≡ true → is_operand journal ≡ true
    → command_in (codes "replay" ∷ system ∷ stimuli ∷ journal ∷ [])
    ≡ Some (replay (record { system = system; stimuli = stimuli; journal = journal }))

-- each number is asked for by its decimal
abbrev pub GenerateOfNumber : Type 0
GenerateOfNumber = (n : ℕ) → 1 ≤ n → n ≤ 1000 → command_in (codes "gen" ∷ decimal n ∷ []) ≡ Some (generate n)

-- other command words have no command, nor has a call without words
abbrev pub OtherWords : Type 0
OtherWords = (command_in [] ≡ None)
    × ((word : Text) (words : List Text) → word ≢ codes "run" → word ≢ codes "decode" → word ≢ codes "migrate" → word ≢ codes "check"
    → word ≢ codes "replay" → word ≢ codes "gen" → command_in (word ∷ words) ≡ None)

abbrev pub word_of_kernel : KernelName → Text
word_of_kernel Sim = codes "sim"
word_of_kernel Qk = codes "qk"
word_of_kernel Port = codes "port"
word_of_kernel Wait = codes "wait"
word_of_kernel Qv = codes "qv"

abbrev pub word_of_kind : Kind → Text
word_of_kind Journal = codes "journal"
word_of_kind Frames = codes "frames"

abbrev pub word_of_output : Output → Text
word_of_output (Whole kind) = word_of_kind kind
word_of_output Summary = codes "summary"

abbrev pub word_of_form : Form → Text
word_of_form One = codes "1"
word_of_form Two = codes "2"

-- every run of names with the default budget, every budget, and every migration of names can be asked for

abbrev pub RunInFull : Type 0
RunInFull = (kernel : KernelName) (out : Output) (form : Form) (system stimuli : Text) → is_form_of kernel form ≡ true → is_operand system ≡ true → is_operand stimuli ≡ true
    → command_in (codes "run" ∷ codes "--kernel" ∷ word_of_kernel kernel ∷ codes "--out" ∷ word_of_output out ∷ codes "--form" ∷ word_of_form form
    ∷ system ∷ stimuli ∷ [])
    ≡ Some (run (record { kernel = kernel; budget = 100000; out = out; form = form; system = system; stimuli = stimuli }))

-- under `qv` the form is 2 where none is asked for
abbrev pub CooperativeWords : Type 0
CooperativeWords = command_in (codes "run" ∷ codes "--kernel" ∷ codes "qv" ∷ codes "a" ∷ codes "b" ∷ [])
    ≡ Some (run (record { kernel = Qv; budget = 100000; out = Whole Journal; form = Two; system = codes "a"; stimuli = codes "b" }))

-- a budget is asked for by its decimal
abbrev pub EachBudget : Type 0
EachBudget = (n : ℕ) → 1 ≤ n → n ≤ 1000000 → budget_in (Some (decimal n)) ≡ Some n

abbrev pub run_with_budget : Text → List Text
run_with_budget n = codes "run" ∷ codes "--budget" ∷ n ∷ codes "a" ∷ codes "b" ∷ []

-- the least and the largest budget, as words of a call
abbrev pub BudgetWords : Type 0
BudgetWords = (command_in (run_with_budget (codes "1")) ≡ Some (run (record { kernel = Sim; budget = 1; out = Whole Journal; form = One; system = codes "a"; stimuli = codes "b" })))
    × (command_in (run_with_budget (codes "1000000")) ≡ Some (run (record { kernel = Sim; budget = 1000000; out = Whole Journal; form = One; system = codes "a"; stimuli = codes "b" })))

abbrev pub MigrateInFull : Type 0
MigrateInFull = (from : Kind) (to : Form) (file : Text) → is_operand file ≡ true
    → command_in (codes "migrate" ∷ codes "--from" ∷ word_of_kind from ∷ codes "--to" ∷ word_of_form to ∷ file ∷ [])
    ≡ Some (migrate (record { from = from; to = to; file = file }))

-- calls that ask for nothing: an operand too few or too many, a flag for help or the version, a value that isn't allowed,
-- an option twice, an option of another command, a form that the kernel's journals don't have
abbrev pub refused_calls : List (List Text)
refused_calls = (codes "run" ∷ codes "a" ∷ [])
    ∷ (codes "run" ∷ codes "a" ∷ codes "b" ∷ codes "c" ∷ [])
    ∷ (codes "run" ∷ codes "--help" ∷ [])
    ∷ (codes "run" ∷ codes "-h" ∷ codes "a" ∷ codes "b" ∷ [])
    ∷ (codes "run" ∷ codes "--version" ∷ [])
    ∷ (codes "run" ∷ codes "--kernel" ∷ codes "qp" ∷ codes "a" ∷ codes "b" ∷ [])
    ∷ (codes "run" ∷ codes "--kernel" ∷ codes "qv" ∷ codes "--form" ∷ codes "1" ∷ codes "a" ∷ codes "b" ∷ [])
    ∷ run_with_budget (codes "0")
    ∷ run_with_budget (codes "1000001")
    ∷ run_with_budget (codes "01")
    ∷ run_with_budget (codes "+1")
    ∷ (codes "run" ∷ codes "--out" ∷ codes "text" ∷ codes "a" ∷ codes "b" ∷ [])
    ∷ (codes "run" ∷ codes "--form" ∷ codes "1" ∷ codes "--form" ∷ codes "1" ∷ codes "a" ∷ codes "b" ∷ [])
    ∷ (codes "decode" ∷ codes "--form" ∷ codes "1" ∷ codes "f" ∷ [])
    ∷ (codes "migrate" ∷ codes "--to=3" ∷ codes "f" ∷ [])
    ∷ (codes "migrate" ∷ codes "--from" ∷ codes "summary" ∷ codes "f" ∷ [])
    ∷ (codes "check" ∷ codes "a" ∷ codes "b" ∷ [])
    ∷ (codes "check" ∷ codes "a" ∷ codes "b" ∷ codes "c" ∷ codes "d" ∷ [])
    ∷ (codes "check" ∷ codes "--form" ∷ codes "1" ∷ codes "a" ∷ codes "b" ∷ codes "c" ∷ [])
    ∷ (codes "replay" ∷ codes "a" ∷ codes "b" ∷ [])
    ∷ (codes "replay" ∷ codes "--form" ∷ codes "1" ∷ codes "a" ∷ codes "b" ∷ codes "c" ∷ [])
    ∷ (codes "gen" ∷ [])
    ∷ (codes "gen" ∷ codes "0" ∷ [])
    ∷ (codes "gen" ∷ codes "1001" ∷ [])
    ∷ (codes "gen" ∷ codes "01" ∷ [])
    ∷ (codes "gen" ∷ codes "1" ∷ codes "1" ∷ [])
    ∷ []

abbrev pub RefusedCalls : Type 0
RefusedCalls = list_all (λ words. not (is_some (command_in words))) refused_calls ≡ true
