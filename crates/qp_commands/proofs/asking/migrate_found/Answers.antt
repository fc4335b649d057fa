use Rattle.std.proofs.Common.{◌≡◌, codes, sym, refl, rules, None, Some}
use Rattle.clap.specs.Words.{found_of}
use Rattle.qp_commands.specs.declared.values.Form.TheVariants.{Two}
use Rattle.qp_commands.specs.WordTable.{form_in, kind_named, migrate_with}
use Rattle.qp_commands.proofs.WordFound.{migrate-no_file, migrate-no_form, migrate-no_kind, read-rows, text-rows}
use Rattle.qp_commands.proofs.asking.migrate_found.Goals as goal

pub returns-in_err-kind_of : goal.returns-in_err-kind_of
returns-in_err-kind_of c =
    let none : c.from_residual.result ≡ None = search rules in
    let from = read-rows kind_named (found_of c.args.found.now) (codes "from") _ _ None c.get_str.ensures c.kind_of.ensures c.in_err-kind_of.was in
    rw (none, from) (sym (migrate-no_kind _ _))

pub returns-in_err-form_of : goal.returns-in_err-form_of
returns-in_err-form_of c =
    let none : c.from_residual-in_err-form_of.result ≡ None = search rules in
    let to = read-rows (form_in Two) (found_of c.args.found.now) (codes "to") _ _ None c.get_str-2.ensures c.form_of.ensures c.in_err-form_of.was in
    rw (none, to) (sym (migrate-no_form _ _))

pub returns-in_err-get_str : goal.returns-in_err-get_str
returns-in_err-get_str c =
    let none : c.from_residual-in_err-get_str.result ≡ None = search rules in
    let file = text-rows (found_of c.args.found.now) (codes "file") _ None c.get_str-3.ensures c.in_err-get_str.was in
    rw (none, file) (sym (migrate-no_file _ _))

pub returns : goal.returns
unfolding migrate_with
returns c =
    let from = read-rows kind_named (found_of c.args.found.now) (codes "from") _ _ (Some c.in_ok-kind_of.field-0) c.get_str.ensures c.kind_of.ensures c.in_ok-kind_of.was in
    let to = read-rows (form_in Two) (found_of c.args.found.now) (codes "to") _ _ (Some c.in_ok-form_of.field-0) c.get_str-2.ensures c.form_of.ensures c.in_ok-form_of.was in
    let file = text-rows (found_of c.args.found.now) (codes "file") _ (Some c.in_ok-get_str.field-0) c.get_str-3.ensures c.in_ok-get_str.was in
    rw (from, to, file) refl
