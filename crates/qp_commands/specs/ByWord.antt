-- The table by command word, as the code goes through it.
use Rattle.std.specs.Prelude.{codes, List, [], ◌∷◌, Option, option_map}
use Rattle.clap.specs.Words.{App, Row, Rule, Text, with_rule}
use Rattle.qp_commands.specs.declared.apps.Argument.{Argument}
use Rattle.qp_commands.specs.declared.apps.Argument.TheVariants as argument
use Rattle.qp_commands.specs.declared.apps.Word.{Word}
use Rattle.qp_commands.specs.declared.apps.Word.TheVariants as named
use Rattle.qp_commands.specs.WordTable.{Asked, check, check_asked, decode_app, decode_asked, decode_in, files_app, files_in, generate_app, generate_asked, generate_in, migrate_app, migrate_asked, migrate_in, operand, option, replay, replay_asked, run_app, run_asked, run_in}

-- an argument of a command, as `clap` reads it
abbrev pub rule_under : Argument → Rule
rule_under (argument.Option name) = option name.now
rule_under (argument.Operand name) = operand name.now

-- a command with these arguments more
abbrev pub with_arguments : App → List Argument → App
with_arguments app [] = app
with_arguments app (first ∷ others) = with_arguments (with_rule app (rule_under first)) others

-- what the rows of `check` and of `replay` ask for
abbrev pub check_in : List Row → Option Asked
check_in rows = option_map check (files_in rows)

abbrev pub replay_in : List Row → Option Asked
replay_in rows = option_map replay (files_in rows)

-- by a command word: its text, what `clap` reads, what its rows ask for, and what the words do

abbrev pub text_of : Word → Text
text_of named.Run = codes "run"
text_of named.Decode = codes "decode"
text_of named.Migrate = codes "migrate"
text_of named.Check = codes "check"
text_of named.Replay = codes "replay"
text_of named.Generate = codes "gen"

abbrev pub app_under : Word → App
app_under named.Run = run_app
app_under named.Decode = decode_app
app_under named.Migrate = migrate_app
app_under named.Check = files_app (codes "check")
app_under named.Replay = files_app (codes "replay")
app_under named.Generate = generate_app

abbrev pub read_under : Word → List Row → Option Asked
read_under named.Run rows = run_in rows
read_under named.Decode rows = decode_in rows
read_under named.Migrate rows = migrate_in rows
read_under named.Check rows = check_in rows
read_under named.Replay rows = replay_in rows
read_under named.Generate rows = generate_in rows

abbrev pub asked_under : Word → List Text → Option Asked
asked_under named.Run words = run_asked words
asked_under named.Decode words = decode_asked words
asked_under named.Migrate words = migrate_asked words
asked_under named.Check words = check_asked words
asked_under named.Replay words = replay_asked words
asked_under named.Generate words = generate_asked words
