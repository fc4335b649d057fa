use Rattle.std.proofs.Common.{arith}
use Rattle.qp_frames.proofs.NumberLemmas.{fixed-fits, fixed-weight}
use Rattle.qp_frames.proofs.numbers.fixed_part.Goals as goal

pub pow-requires : goal.pow-requires
pow-requires c = fixed-weight c.args.place c.requires.places

pub overflow_mul-value : goal.overflow_mul-value
overflow_mul-value c =
    let fits = fixed-fits c.args.place c.args.value c.args.b c.requires.places c.requires.small (omega (arith, c.ranges.b.fits)) in
    rw (c.from.ensures, c.pow.ensures) (omega (arith, fits))

pub overflow_add-value : goal.overflow_add-value
overflow_add-value c =
    rw (c.from.ensures, c.pow.ensures)
    (omega (arith, fixed-fits c.args.place c.args.value c.args.b c.requires.places c.requires.small (omega (arith, c.ranges.b.fits))))
