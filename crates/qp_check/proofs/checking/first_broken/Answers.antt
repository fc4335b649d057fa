use Rattle.std.proofs.Common.{◌∙◌, ◌++◌, ap}
use Rattle.qp_check.specs.Judged.{end_trials, kernel_trials, lane_trials, object_trials, trials, word_trials}
use Rattle.qp_check_words.specs.WordRules.{first_broken, word_tries}
use Rattle.qp_check.proofs.CheckLemmas.{words-found, words-keep}
use Rattle.qp_check.proofs.FindLemmas.{finds-before, finds-behind, found, found-none}
use Rattle.qp_check.proofs.checking.first_broken.Goals as goal

pub returns-in-Some : goal.returns-in-Some
unfolding trials
returns-in-Some c =
    let read = c.in_ok-words.ensures ∙ ap (λ l. first_broken (word_tries c.args.sys.now l)) c.in_ok-records.ensures in
    let words = word_trials c.args.sys.now c.args.j.now in
    let later = object_trials c.args.sys.now c.args.j.now ++ (kernel_trials c.args.sys.now c.args.j.now ++ (lane_trials c.args.sys.now c.args.stim.now c.args.j.now ++ end_trials c.args.sys.now c.args.j.now)) in
    finds-before words later c.in-Some.broken
    (found words c.in_ok-words.words c.in-Some.broken (words-found c.args.sys.now c.args.j.now c.in_ok-words.words read) c.in-Some.is)

pub later_broken-requires-clause-words : goal.later_broken-requires-clause-words
later_broken-requires-clause-words c =
    let read = c.in_ok-words.ensures ∙ ap (λ l. first_broken (word_tries c.args.sys.now l)) c.in_ok-records.ensures in
    words-keep c.args.sys.now c.args.j.now c.in_ok-words.words read c.requires.judgeable c.in-None.is

pub returns : goal.returns
unfolding trials
returns c =
    let read = c.in_ok-words.ensures ∙ ap (λ l. first_broken (word_tries c.args.sys.now l)) c.in_ok-records.ensures in
    let words = word_trials c.args.sys.now c.args.j.now in
    let later = object_trials c.args.sys.now c.args.j.now ++ (kernel_trials c.args.sys.now c.args.j.now ++ (lane_trials c.args.sys.now c.args.stim.now c.args.j.now ++ end_trials c.args.sys.now c.args.j.now)) in
    finds-behind words later c.in_ok-later.later
    (found-none words c.in_ok-words.words (words-found c.args.sys.now c.args.j.now c.in_ok-words.words read) c.in-None.is)
    c.in_ok-later.ensures
