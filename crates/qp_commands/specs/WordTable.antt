-- The words of a call: a command word, and what `clap` makes of the rest.
use Rattle.std.specs.Borrow.{Bor}
use Rattle.std.specs.Prelude.{codes, ℕ, ◌==◌, nat_le, Bool, true, false, ◌&&◌, List, [], ◌∷◌, map, Option, None, Some, if◌then◌else◌, option_and_then, option_map}
use Rattle.std.specs.Str.{bytes_eq}
use Rattle.clap.specs.Words.{App, Kinds, Row, Rule, Text, fault_of, first_of, matches_of, new_rule}
use Rattle.clap.specs.Simple.{new_shape}
use Rattle.clap.specs.declared.builder.action.ArgAction.TheVariants.{Set}
use Rattle.qp_text.specs.Numbers.{number_of_decimal}
use Rattle.qp_commands.specs.declared.asking.Command.{Command}
use Rattle.qp_commands.specs.declared.asking.Command.TheVariants.{Run, Decode, Migrate, Check, Replay, Generate}
use Rattle.qp_commands.specs.declared.values.KernelName.{KernelName}
use Rattle.qp_commands.specs.declared.values.KernelName.TheVariants.{Sim, Qk, Port, Wait, Qv}
use Rattle.qp_commands.specs.declared.values.Kind.{Kind}
use Rattle.qp_commands.specs.declared.values.Kind.TheVariants.{Journal, Frames}
use Rattle.qp_commands.specs.declared.values.Output.{Output}
use Rattle.qp_commands.specs.declared.values.Output.TheVariants.{Whole, Summary}
use Rattle.qp_commands.specs.declared.values.Form.{Form}
use Rattle.qp_commands.specs.declared.values.Form.TheVariants.{One, Two}

-- the words of a call as texts
abbrev pub texts : List (Bor Text) → List Text
texts words = map (λ word. word.now) words

-- ---- the commands, as `clap` reads them

-- an option: a long flag with one text value
abbrev pub option : Text → Rule
option name = record (new_rule name) { long = Some name; action = Some Set }

-- an operand: a required positional with one text value
abbrev pub operand : Text → Rule
operand name = record (new_rule name) { action = Some Set; required = true }

-- a command with these arguments and nothing else: no flag for help or the version, and no subcommand
abbrev pub plain_app : Text → List Rule → App
plain_app word rules = record {
  top = record (new_shape word) {
    rules = rules;
    disable_help_flag = true;
    disable_version_flag = true;
  };
  subs = [];
}

-- run [--kernel K] [--budget N] [--out O] [--form F] SYSTEM STIMULI
unfoldable pub run_app : App
run_app = plain_app (codes "run")
    (option (codes "kernel") ∷ option (codes "budget") ∷ option (codes "out") ∷ option (codes "form") ∷ operand (codes "system") ∷ operand (codes "stimuli") ∷ [])

-- decode FRAMES
unfoldable pub decode_app : App
decode_app = plain_app (codes "decode") (operand (codes "frames") ∷ [])

-- migrate [--from K] [--to F] FILE
unfoldable pub migrate_app : App
migrate_app = plain_app (codes "migrate") (option (codes "from") ∷ option (codes "to") ∷ operand (codes "file") ∷ [])

-- a command of three files: SYSTEM STIMULI JOURNAL
unfoldable pub files_app : Text → App
files_app word = plain_app word (operand (codes "system") ∷ operand (codes "stimuli") ∷ operand (codes "journal") ∷ [])

-- gen NUMBER
unfoldable pub generate_app : App
generate_app = plain_app (codes "gen") (operand (codes "number") ∷ [])

-- the rows, where there is no fault
abbrev pub rows_unless : Kinds → List Row → Option (List Row)
rows_unless [] rows = Some rows
rows_unless (fault ∷ faults) rows = None

-- what `clap` finds in the words, where it takes them; the first word stands in the place of a program's name
abbrev pub found_in : App → List Text → Option (List Row)
found_in app words = rows_unless (fault_of app words) (matches_of app words)

-- ---- the values of options; without the option the default

unfoldable pub kernel_named : Option Text → Option KernelName
kernel_named None = Some Sim
kernel_named (Some word) =
    if bytes_eq word (codes "sim") then Some Sim
    else (if bytes_eq word (codes "qk") then Some Qk
    else (if bytes_eq word (codes "port") then Some Port
    else (if bytes_eq word (codes "wait") then Some Wait
    else (if bytes_eq word (codes "qv") then Some Qv else None))))

-- the number, where it is from 1 to the most
abbrev pub within : ℕ → ℕ → Option ℕ
within most n = if nat_le 1 n && nat_le n most then Some n else None

-- a number in canonical decimal, from 1 to 1,000,000
unfoldable pub budget_in : Option Text → Option ℕ
budget_in None = Some 100000
budget_in (Some word) = option_and_then (within 1000000) (number_of_decimal word)

-- the same from 1 to 1,000
unfoldable pub made_in : Option Text → Option ℕ
made_in None = None
made_in (Some word) = option_and_then (within 1000) (number_of_decimal word)

unfoldable pub output_in : Option Text → Option Output
output_in None = Some (Whole Journal)
output_in (Some word) =
    if bytes_eq word (codes "journal") then Some (Whole Journal)
    else (if bytes_eq word (codes "frames") then Some (Whole Frames)
    else (if bytes_eq word (codes "summary") then Some Summary else None))

unfoldable pub kind_named : Option Text → Option Kind
kind_named None = Some Journal
kind_named (Some word) =
    if bytes_eq word (codes "journal") then Some Journal
    else (if bytes_eq word (codes "frames") then Some Frames else None)

unfoldable pub form_in : Form → Option Text → Option Form
form_in default None = Some default
form_in default (Some word) =
    if bytes_eq word (codes "1") then Some One
    else (if bytes_eq word (codes "2") then Some Two else None)

-- the forms in which a journal of this kernel can be written: one of `qv` has form 2 alone
abbrev pub is_form_of : KernelName → Form → Bool
is_form_of Sim form = true
is_form_of Qk form = true
is_form_of Port form = true
is_form_of Wait form = true
is_form_of Qv One = false
is_form_of Qv Two = true

-- the kernels under which lanes have threads of their own
abbrev pub has_threads : KernelName → Bool
has_threads Sim = false
has_threads Qk = true
has_threads Port = true
has_threads Wait = true
has_threads Qv = false

abbrev pub default_form : KernelName → Form
default_form Sim = One
default_form Qk = One
default_form Port = One
default_form Wait = One
default_form Qv = Two

-- the form, where a journal of this kernel has it
abbrev pub form_fit : KernelName → Form → Option Form
form_fit kernel form = if is_form_of kernel form then Some form else None

unfoldable pub form_under : KernelName → Option Text → Option Form
form_under kernel word = option_and_then (form_fit kernel) (form_in (default_form kernel) word)

abbrev pub number_of_form : Form → ℕ
number_of_form One = 1
number_of_form Two = 2

-- ---- what a call asks for, with its words as texts

pub record RunWords : Type 0 where
  pub kernel : KernelName
  pub budget : ℕ
  pub out : Output
  pub form : Form
  pub system : Text
  pub stimuli : Text

pub record MigrateWords : Type 0 where
  pub from : Kind
  pub to : Form
  pub file : Text

pub record CheckWords : Type 0 where
  pub system : Text
  pub stimuli : Text
  pub journal : Text

abbrev pub check_words : (system stimuli journal : Text) → CheckWords
check_words system stimuli journal = record { system = system; stimuli = stimuli; journal = journal }

pub data Asked : Type 0 where
  run : RunWords → Asked
  decode : Text → Asked
  migrate : MigrateWords → Asked
  check : CheckWords → Asked
  replay : CheckWords → Asked
  generate : ℕ → Asked

abbrev pub asked_of : Command → Asked
asked_of (Run k b o f system stimuli) = run (record { kernel = k; budget = b; out = o; form = f; system = system.now; stimuli = stimuli.now })
asked_of (Decode frames) = decode frames.now
asked_of (Migrate k f file) = migrate (record { from = k; to = f; file = file.now })
asked_of (Check system stimuli journal) = check (record { system = system.now; stimuli = stimuli.now; journal = journal.now })
asked_of (Replay system stimuli journal) = replay (record { system = system.now; stimuli = stimuli.now; journal = journal.now })
asked_of (Generate n) = generate n

-- a run has a budget from 1 to 1,000,000 and a form of its kernel, and what is made has a number from 1 to 1,000
abbrev pub is_in_limits : Asked → Bool
is_in_limits (run w) = (nat_le 1 w.budget && nat_le w.budget 1000000) && is_form_of w.kernel w.form
is_in_limits (generate n) = nat_le 1 n && nat_le n 1000
is_in_limits _ = true

-- the file at a place from 1; no text elsewhere
abbrev pub file_at : CheckWords → ℕ → Text
file_at w place = if place == 1 then w.system else (if place == 2 then w.stimuli else (if place == 3 then w.journal else []))

-- the word of an operand, by its place from 1; no text elsewhere
abbrev pub operand_at : Asked → ℕ → Text
operand_at (run w) place = if place == 1 then w.system else (if place == 2 then w.stimuli else [])
operand_at (decode frames) place = if place == 1 then frames else []
operand_at (migrate w) place = if place == 1 then w.file else []
operand_at (check w) place = file_at w place
operand_at (replay w) place = file_at w place
operand_at (generate n) place = []

abbrev pub operand_in : Option Asked → ℕ → Text
operand_in None place = []
operand_in (Some asked) place = operand_at asked place

-- all parts of a run are there
unfoldable pub run_with : Option KernelName → Option ℕ → Option Output → Option Form → Option Text → Option Text → Option Asked
run_with (Some k) (Some b) (Some o) (Some f) (Some system) (Some stimuli) =
    Some (run (record { kernel = k; budget = b; out = o; form = f; system = system; stimuli = stimuli }))
run_with _ _ _ _ _ _ = None

abbrev pub run_in : List Row → Option Asked
run_in rows =
    let kernel = kernel_named (first_of (codes "kernel") rows) in
    run_with kernel (budget_in (first_of (codes "budget") rows)) (output_in (first_of (codes "out") rows))
    (option_and_then (λ k. form_under k (first_of (codes "form") rows)) kernel) (first_of (codes "system") rows) (first_of (codes "stimuli") rows)

unfoldable pub decode_with : Option Text → Option Asked
decode_with (Some frames) = Some (decode frames)
decode_with None = None

abbrev pub decode_in : List Row → Option Asked
decode_in rows = decode_with (first_of (codes "frames") rows)

unfoldable pub migrate_with : Option Kind → Option Form → Option Text → Option Asked
migrate_with (Some k) (Some f) (Some file) = Some (migrate (record { from = k; to = f; file = file }))
migrate_with _ _ _ = None

abbrev pub migrate_in : List Row → Option Asked
migrate_in rows = migrate_with (kind_named (first_of (codes "from") rows)) (form_in Two (first_of (codes "to") rows)) (first_of (codes "file") rows)

-- all three files are there
unfoldable pub files_with : (system stimuli journal : Option Text) → Option CheckWords
files_with (Some system) (Some stimuli) (Some journal) = Some (check_words system stimuli journal)
files_with _ _ _ = None

abbrev pub files_in : List Row → Option CheckWords
files_in rows = files_with (first_of (codes "system") rows) (first_of (codes "stimuli") rows) (first_of (codes "journal") rows)

unfoldable pub generate_with : Option ℕ → Option Asked
generate_with (Some n) = Some (generate n)
generate_with None = None

abbrev pub generate_in : List Row → Option Asked
generate_in rows = generate_with (made_in (first_of (codes "number") rows))

-- what the words ask for, by their command word
abbrev pub run_asked : List Text → Option Asked
run_asked words = option_and_then run_in (found_in run_app words)

abbrev pub decode_asked : List Text → Option Asked
decode_asked words = option_and_then decode_in (found_in decode_app words)

abbrev pub migrate_asked : List Text → Option Asked
migrate_asked words = option_and_then migrate_in (found_in migrate_app words)

abbrev pub check_asked : List Text → Option Asked
check_asked words = option_map check (option_and_then files_in (found_in (files_app (codes "check")) words))

abbrev pub replay_asked : List Text → Option Asked
replay_asked words = option_map replay (option_and_then files_in (found_in (files_app (codes "replay")) words))

abbrev pub generate_asked : List Text → Option Asked
generate_asked words = option_and_then generate_in (found_in generate_app words)

-- what the words ask for, where they are a command
unfoldable pub asked_by : Text → List Text → Option Asked
asked_by word words =
    if bytes_eq word (codes "run") then run_asked words
    else (if bytes_eq word (codes "decode") then decode_asked words
    else (if bytes_eq word (codes "migrate") then migrate_asked words
    else (if bytes_eq word (codes "check") then check_asked words
    else (if bytes_eq word (codes "replay") then replay_asked words
    else (if bytes_eq word (codes "gen") then generate_asked words else None)))))

-- the command of a call's words, of which the first is the command word; other words have none
unfoldable pub command_in : List Text → Option Asked
command_in [] = None
command_in (word ∷ rest) = asked_by word (word ∷ rest)
