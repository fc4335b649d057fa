use Rattle.std.proofs.Common.{◌≡◌, codes, sym, refl, rules, None, Some}
use Rattle.clap.specs.Words.{found_of}
use Rattle.qp_commands.specs.WordTable.{generate_with, made_in}
use Rattle.qp_commands.proofs.WordFound.{generate-no_number, read-rows}
use Rattle.qp_commands.proofs.asking.generate_found.Goals as goal

pub returns-in_err-made_of : goal.returns-in_err-made_of
returns-in_err-made_of c =
    let none : c.from_residual.result ≡ None = search rules in
    let number = read-rows made_in (found_of c.args.found.now) (codes "number") _ _ None c.get_str.ensures c.made_of.ensures c.in_err-made_of.was in
    rw (none, number) (sym generate-no_number)

pub returns : goal.returns
unfolding generate_with
returns c =
    let number = read-rows made_in (found_of c.args.found.now) (codes "number") _ _ (Some c.in_ok-made_of.field-0) c.get_str.ensures c.made_of.ensures c.in_ok-made_of.was in
    rw number refl
