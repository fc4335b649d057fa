use Rattle.std.proofs.Common.{◌+◌, ◌-◌, ◌<◌, ◌≤◌, arith}
use Rattle.std.proofs.lemmas.Bool.Decides.{nat_tests}
use Rattle.qp_frames.proofs.NumberLemmas.{group-below, group-fits, group-weight}
use Rattle.qp_frames.proofs.numbers.group_part.Goals as goal

pub pow-weight-requires : goal.pow-weight-requires
pow-weight-requires c = group-weight c.args.place c.requires.places

pub overflow_mul-result : goal.overflow_mul-result
overflow_mul-result c =
    let early : c.args.place ≤ 8 = grind (arith, nat_tests) in
    let digit : c.args.b - 128 < 128 = grind (arith, nat_tests) in
    let fits = group-fits c.args.place c.args.value (c.args.b - 128) early c.requires.small digit in
    rw (c.from.ensures, c.pow-weight.ensures) (omega (arith, fits))

pub overflow_add-result : goal.overflow_add-result
overflow_add-result c =
    let early : c.args.place ≤ 8 = grind (arith, nat_tests) in
    let digit : c.args.b - 128 < 128 = grind (arith, nat_tests) in
    rw (c.from.ensures, c.pow-weight.ensures) (omega (arith, group-fits c.args.place c.args.value (c.args.b - 128) early c.requires.small digit))

pub returns-then-b-ge128-clause-goes_on : goal.returns-then-b-ge128-clause-goes_on
returns-then-b-ge128-clause-goes_on c =
    let early : c.args.place + 1 ≤ 9 = grind (arith, nat_tests) in
    let digit : c.args.b - 128 < 128 = grind (arith, nat_tests) in
    (early, rw (c.from.ensures, c.pow-weight.ensures) (group-below c.args.place c.args.value (c.args.b - 128) c.requires.small digit))

pub overflow_mul-result-2 : goal.overflow_mul-result-2
overflow_mul-result-2 c =
    let early : c.args.place ≤ 8 = grind (arith, nat_tests) in
    let digit : c.args.b < 128 = grind (arith, nat_tests) in
    let fits = group-fits c.args.place c.args.value c.args.b early c.requires.small digit in
    rw (c.from-2.ensures, c.pow-weight.ensures) (omega (arith, fits))

pub overflow_add-result-2 : goal.overflow_add-result-2
overflow_add-result-2 c =
    let early : c.args.place ≤ 8 = grind (arith, nat_tests) in
    let digit : c.args.b < 128 = grind (arith, nat_tests) in
    rw (c.from-2.ensures, c.pow-weight.ensures) (omega (arith, group-fits c.args.place c.args.value c.args.b early c.requires.small digit))
