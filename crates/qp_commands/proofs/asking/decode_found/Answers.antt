use Rattle.std.proofs.Common.{◌≡◌, codes, refl, rules, None, Some}
use Rattle.clap.specs.Words.{found_of}
use Rattle.qp_commands.specs.WordTable.{decode_with}
use Rattle.qp_commands.proofs.WordFound.{text-rows}
use Rattle.qp_commands.proofs.asking.decode_found.Goals as goal

pub returns-in_err-get_str : goal.returns-in_err-get_str
unfolding decode_with
returns-in_err-get_str c =
    let none : c.from_residual.result ≡ None = search rules in
    let frames = text-rows (found_of c.args.found.now) (codes "frames") _ None c.get_str.ensures c.in_err-get_str.was in
    rw (none, frames) refl

pub returns : goal.returns
unfolding decode_with
returns c =
    let frames = text-rows (found_of c.args.found.now) (codes "frames") _ (Some c.in_ok-get_str.field-0) c.get_str.ensures c.in_ok-get_str.was in
    rw frames refl
