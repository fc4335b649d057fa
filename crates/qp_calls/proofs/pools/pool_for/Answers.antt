use Rattle.std.proofs.Common.{◌≡◌, refl, sym, Some, None, nat_le}
use Rattle.std.specs.List.{position}
use Rattle.qp_model.specs.Parts.{first_pool, sizes_of}
use Rattle.qp_calls.proofs.pools.pool_for.Goals as goal
use Rattle.qp_calls.proofs.FirstPool.{position-sizes}

pub returns-in-None : goal.returns-in-None
unfolding first_pool sizes_of
returns-in-None c =
    let none : position (λ d. nat_le c.args.n d.size) c.args.sys.now.pools ≡ None = sym c.in-None.ensures in
    let there = rw (position-sizes c.args.n c.args.sys.now.pools, none) at c.requires.there.1 in
    cc

pub returns-in-Some : goal.returns-in-Some
unfolding first_pool sizes_of
returns-in-Some c =
    let at : position (λ d. nat_le c.args.n d.size) c.args.sys.now.pools ≡ Some c.in-Some.i = sym c.in-Some.ensures in
    rw (position-sizes c.args.n c.args.sys.now.pools, at) refl
