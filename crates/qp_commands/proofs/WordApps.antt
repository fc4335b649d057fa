-- Commands as `clap` reads them, and what it finds.
use Rattle.std.proofs.Common.{◌≡◌, ◌∙◌, ℕ, ◌+◌, ◌<◌, ◌≤◌, ap, ap₂, drop, get_or, length, refl, sym, List, [], ◌∷◌, true, false, Option, None, Some, codes, option_and_then, option_map}
use Rattle.std.proofs.lemmas.Bool.{and_parts}
use Rattle.std.proofs.lemmas.List.{at_drop_all, at_drop_more}
use Rattle.clap.specs.Words.{AddsArg, App, HasMatchesOf, IsAmong, Kinds, Row, Rule, Text, app_of, fault_of, found_of, is_simple, is_simple_and_free, matches_of, rows_of, rule_of, with_rule}
use Rattle.clap.specs.declared.builder.arg.Arg.{Arg}
use Rattle.clap.specs.declared.builder.command.Command.{Command}
use Rattle.clap.specs.declared.error.kind.ErrorKind.{ErrorKind}
use Rattle.clap.specs.declared.parser.matches.ArgMatches.{ArgMatches}
use Rattle.qp_commands.specs.declared.apps.Argument.{Argument}
use Rattle.qp_commands.specs.declared.apps.Word.{Word}
use Rattle.qp_commands.specs.declared.apps.Word.TheVariants as named
use Rattle.qp_commands.specs.WordTable.{Asked, CheckWords, check, decode_app, files_app, files_in, found_in, generate_app, migrate_app, replay, rows_unless, run_app}
use Rattle.qp_commands.specs.ByWord.{app_under, asked_under, read_under, rule_under, with_arguments}

-- a command with one argument more
pub app-arg : (old new : Command) (a : Arg) (app : App) (rule : Rule) → AddsArg old a new → a.global ≡ false
    → app_of old ≡ app → rule_of a ≡ rule → app_of new ≡ with_rule app rule
app-arg old new a app rule added local is by = added.shape local ∙ ap₂ with_rule is by

rows-no_fault : (kinds : Kinds) (rows : List Row) → kinds ≡ [] → rows_unless kinds rows ≡ Some rows
rows-no_fault kinds rows none = rw none refl

rows-fault : (kinds : Kinds) (rows : List Row) (kind : ErrorKind) → IsAmong kind kinds → rows_unless kinds rows ≡ None
rows-fault [] rows kind among = absurd among
rows-fault (k ∷ ks) rows kind among = refl

-- where `clap` takes the words, it found its matches
pub found-taken : (app : App) (words : List Text) (m : ArgMatches) → is_simple_and_free app ≡ true → fault_of app words ≡ []
    → HasMatchesOf app words m → Some (rows_of (found_of m)) ≡ found_in app words
found-taken app words m simple none has =
    ap Some (has (and_parts (is_simple app) _ simple).0).0 ∙ sym (rows-no_fault (fault_of app words) (matches_of app words) none)

-- where it refuses them for another cause than memory, it found nothing
pub found-refused : (app : App) (words : List Text) (kind : ErrorKind) → IsAmong kind (fault_of app words) → None ≡ found_in app words
found-refused app words kind among = sym (rows-fault (fault_of app words) (matches_of app words) kind among)

-- the commands are simple, and no argument has a rule on another

pub run-simple : is_simple_and_free run_app ≡ true
unfolding run_app
run-simple = refl

pub decode-simple : is_simple_and_free decode_app ≡ true
unfolding decode_app
decode-simple = refl

pub migrate-simple : is_simple_and_free migrate_app ≡ true
unfolding migrate_app
migrate-simple = refl

pub files-simple : (word : Text) → is_simple_and_free (files_app word) ≡ true
unfolding files_app
files-simple word = refl

pub generate-simple : is_simple_and_free generate_app ≡ true
unfolding generate_app
generate-simple = refl

-- a command with arguments added in turn
pub arguments-next : (arguments : List Argument) (i : ℕ) (default : Argument) (old new : Command) (a : Arg) (app : App) → i < length arguments
    → AddsArg old a new → a.global ≡ false → rule_of a ≡ rule_under (get_or arguments i default)
    → with_arguments (app_of old) (drop i arguments) ≡ app → with_arguments (app_of new) (drop (i + 1) arguments) ≡ app
arguments-next arguments i default old new a app below added local rule so_far =
    ap (λ longer. with_arguments longer (drop (i + 1) arguments)) (app-arg old new a (app_of old) (rule_under (get_or arguments i default)) added local refl rule)
    ∙ (sym (at_drop_more (with_arguments (app_of old)) arguments i default below) ∙ so_far)

pub arguments-end : (arguments : List Argument) (i : ℕ) (command : Command) (app : App) → length arguments ≤ i
    → with_arguments (app_of command) (drop i arguments) ≡ app → app_of command ≡ app
arguments-end arguments i command app above so_far = sym (at_drop_all (with_arguments (app_of command)) arguments i above) ∙ so_far

pub under-simple : (word : Word) → is_simple_and_free (app_under word) ≡ true
under-simple named.Run = run-simple
under-simple named.Decode = decode-simple
under-simple named.Migrate = migrate-simple
under-simple named.Check = files-simple (codes "check")
under-simple named.Replay = files-simple (codes "replay")
under-simple named.Generate = generate-simple

map-then : (make : CheckWords → Asked) (found : Option (List Row))
    → option_and_then (λ rows. option_map make (files_in rows)) found ≡ option_map make (option_and_then files_in found)
map-then make None = refl
map-then make (Some rows) = refl

-- what words ask for under a command word, by what `clap` finds
pub under-asked : (word : Word) (words : List Text) → option_and_then (read_under word) (found_in (app_under word) words) ≡ asked_under word words
under-asked named.Run words = refl
under-asked named.Decode words = refl
under-asked named.Migrate words = refl
under-asked named.Check words = map-then check (found_in (files_app (codes "check")) words)
under-asked named.Replay words = map-then replay (found_in (files_app (codes "replay")) words)
under-asked named.Generate words = refl
