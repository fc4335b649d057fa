use Rattle.std.proofs.Common.{◌≡◌, codes, sym, refl, rules, None, Some}
use Rattle.clap.specs.Words.{found_of}
use Rattle.qp_commands.specs.WordTable.{budget_in, form_under, kernel_named, output_in, run_with}
use Rattle.qp_commands.proofs.WordFound.{read-rows, run-no_budget, run-no_form, run-no_kernel, run-no_output, run-no_stimuli, run-no_system, text-rows}
use Rattle.qp_commands.proofs.asking.run_found.Goals as goal

pub returns-in_err-kernel : goal.returns-in_err-kernel
returns-in_err-kernel c =
    let none : c.from_residual.result ≡ None = search rules in
    let kernel = read-rows kernel_named (found_of c.args.found.now) (codes "kernel") _ _ None c.get_str.ensures c.kernel_of.ensures c.in_err-kernel.was in
    rw (none, kernel) (sym (run-no_kernel _ _ _ _ _))

pub returns-in_err-budget_of : goal.returns-in_err-budget_of
returns-in_err-budget_of c =
    let none : c.from_residual-in_err-budget_of.result ≡ None = search rules in
    let budget = read-rows budget_in (found_of c.args.found.now) (codes "budget") _ _ None c.get_str-2.ensures c.budget_of.ensures c.in_err-budget_of.was in
    rw (none, budget) (sym (run-no_budget _ _ _ _ _))

pub returns-in_err-output_of : goal.returns-in_err-output_of
returns-in_err-output_of c =
    let none : c.from_residual-in_err-output_of.result ≡ None = search rules in
    let out = read-rows output_in (found_of c.args.found.now) (codes "out") _ _ None c.get_str-3.ensures c.output_of.ensures c.in_err-output_of.was in
    rw (none, out) (sym (run-no_output _ _ _ _ _))

pub returns-in_err-form_under : goal.returns-in_err-form_under
returns-in_err-form_under c =
    let none : c.from_residual-in_err-form_under.result ≡ None = search rules in
    let kernel = read-rows kernel_named (found_of c.args.found.now) (codes "kernel") _ _ (Some c.in_ok-kernel.kernel) c.get_str.ensures c.kernel_of.ensures c.in_ok-kernel.was in
    let form = read-rows (form_under c.in_ok-kernel.kernel) (found_of c.args.found.now) (codes "form") _ _ None c.get_str-4.ensures c.form_under.ensures c.in_err-form_under.was in
    rw (none, kernel, form) (sym (run-no_form _ _ _ _ _))

pub returns-in_err-get_str : goal.returns-in_err-get_str
returns-in_err-get_str c =
    let none : c.from_residual-in_err-get_str.result ≡ None = search rules in
    let system = text-rows (found_of c.args.found.now) (codes "system") _ None c.get_str-5.ensures c.in_err-get_str.was in
    rw (none, system) (sym (run-no_system _ _ _ _ _))

pub returns-in_err-get_str-2 : goal.returns-in_err-get_str-2
returns-in_err-get_str-2 c =
    let none : c.from_residual-in_err-get_str-2.result ≡ None = search rules in
    let stimuli = text-rows (found_of c.args.found.now) (codes "stimuli") _ None c.get_str-6.ensures c.in_err-get_str-2.was in
    rw (none, stimuli) (sym (run-no_stimuli _ _ _ _ _))

pub returns : goal.returns
unfolding run_with
returns c =
    let kernel = read-rows kernel_named (found_of c.args.found.now) (codes "kernel") _ _ (Some c.in_ok-kernel.kernel) c.get_str.ensures c.kernel_of.ensures c.in_ok-kernel.was in
    let budget = read-rows budget_in (found_of c.args.found.now) (codes "budget") _ _ (Some c.in_ok-budget_of.field-0) c.get_str-2.ensures c.budget_of.ensures c.in_ok-budget_of.was in
    let out = read-rows output_in (found_of c.args.found.now) (codes "out") _ _ (Some c.in_ok-output_of.field-0) c.get_str-3.ensures c.output_of.ensures c.in_ok-output_of.was in
    let form = read-rows (form_under c.in_ok-kernel.kernel) (found_of c.args.found.now) (codes "form") _ _ (Some c.in_ok-form_under.field-0) c.get_str-4.ensures c.form_under.ensures c.in_ok-form_under.was in
    let system = text-rows (found_of c.args.found.now) (codes "system") _ (Some c.in_ok-get_str.field-0) c.get_str-5.ensures c.in_ok-get_str.was in
    let stimuli = text-rows (found_of c.args.found.now) (codes "stimuli") _ (Some c.in_ok-get_str-2.field-0) c.get_str-6.ensures c.in_ok-get_str-2.was in
    rw (kernel, budget, out, form, system, stimuli) refl
