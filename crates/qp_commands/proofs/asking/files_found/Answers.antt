use Rattle.std.proofs.Common.{◌≡◌, codes, sym, refl, rules, None, Some}
use Rattle.clap.specs.Words.{found_of}
use Rattle.qp_commands.specs.WordTable.{files_with}
use Rattle.qp_commands.proofs.WordFound.{files-no_journal, files-no_stimuli, files-no_system, text-rows}
use Rattle.qp_commands.proofs.asking.files_found.Goals as goal

pub returns-in_err-system : goal.returns-in_err-system
returns-in_err-system c =
    let none : c.from_residual.result ≡ None = search rules in
    let system = text-rows (found_of c.args.found.now) (codes "system") _ None c.get_str.ensures c.in_err-system.was in
    rw (none, system) (sym (files-no_system _ _))

pub returns-in_err-stimuli : goal.returns-in_err-stimuli
returns-in_err-stimuli c =
    let none : c.from_residual-in_err-stimuli.result ≡ None = search rules in
    let stimuli = text-rows (found_of c.args.found.now) (codes "stimuli") _ None c.get_str-2.ensures c.in_err-stimuli.was in
    rw (none, stimuli) (sym (files-no_stimuli _ _))

pub returns-in_err-journal : goal.returns-in_err-journal
returns-in_err-journal c =
    let none : c.from_residual-in_err-journal.result ≡ None = search rules in
    let journal = text-rows (found_of c.args.found.now) (codes "journal") _ None c.get_str-3.ensures c.in_err-journal.was in
    rw (none, journal) (sym (files-no_journal _ _))

pub returns : goal.returns
unfolding files_with
returns c =
    let system = text-rows (found_of c.args.found.now) (codes "system") _ (Some c.in_ok-system.system) c.get_str.ensures c.in_ok-system.was in
    let stimuli = text-rows (found_of c.args.found.now) (codes "stimuli") _ (Some c.in_ok-stimuli.stimuli) c.get_str-2.ensures c.in_ok-stimuli.was in
    let journal = text-rows (found_of c.args.found.now) (codes "journal") _ (Some c.in_ok-journal.journal) c.get_str-3.ensures c.in_ok-journal.was in
    rw (system, stimuli, journal) refl
