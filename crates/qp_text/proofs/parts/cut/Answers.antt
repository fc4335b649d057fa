use Rattle.std.proofs.Common.{◌+◌, length, add-one}
use Rattle.qp_text.proofs.PartsLemmas.{split-there, split-nowhere, place-some, place-none, rest-is, before}
use Rattle.qp_text.proofs.parts.cut.Goals as goal

pub returns-in-Some-clause-parts : goal.returns-in-Some-clause-parts
returns-in-Some-clause-parts c =
    let place = place-some (before c.args.separator c.args.bytes.now) (length c.args.bytes.now) c.in-Some.at c.in-Some.ensures in
    rw (rest-is c.args.bytes.now (c.in-Some.at + 1), add-one, ← place.0) (split-there c.args.separator c.args.bytes.now place.1)

pub returns-in-None-clause-parts : goal.returns-in-None-clause-parts
returns-in-None-clause-parts c =
    split-nowhere _ _ (place-none (before c.args.separator c.args.bytes.now) (length c.args.bytes.now) c.in-None.ensures)
