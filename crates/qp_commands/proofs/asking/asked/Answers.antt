use Rattle.std.proofs.Common.{◌≡◌, ◌∙◌, ap, None, Some, option_and_then}
use Rattle.clap.specs.Words.{found_of, is_simple_and_free, rows_of}
use Rattle.qp_commands.specs.WordTable.{found_in, texts}
use Rattle.qp_commands.specs.ByWord.{app_under, read_under}
use Rattle.qp_commands.proofs.WordApps.{under-asked, under-simple}
use Rattle.qp_commands.proofs.asking.asked.Goals as goal

pub matches_in-requires : goal.matches_in-requires
matches_in-requires c = ap is_simple_and_free c.in_ok-app.ensures ∙ under-simple c.args.word

pub returns-in-Some : goal.returns-in-Some
returns-in-Some c =
    let rows : Some (rows_of (found_of c.in-Some.found)) ≡ found_in (app_under c.args.word) (texts c.args.words.now) =
    rw c.in-Some.is at c.in_ok-found.ensures ∙ ap (λ app. found_in app (texts c.args.words.now)) c.in_ok-app.ensures in
    c.command_found.ensures ∙ (ap (option_and_then (read_under c.args.word)) rows ∙ under-asked c.args.word (texts c.args.words.now))

pub returns-in-None : goal.returns-in-None
returns-in-None c =
    let rows : None ≡ found_in (app_under c.args.word) (texts c.args.words.now) =
    rw c.in-None.is at c.in_ok-found.ensures ∙ ap (λ app. found_in app (texts c.args.words.now)) c.in_ok-app.ensures in
    ap (option_and_then (read_under c.args.word)) rows ∙ under-asked c.args.word (texts c.args.words.now)
