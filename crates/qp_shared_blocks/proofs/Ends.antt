-- Another reference, and the step by which a used block comes back.
use Rattle.std.proofs.Common.{ℕ, ◌+◌, ◌%◌, ◌^◌, ◌<◌, ◌≤◌, pow_mono, refl, arith}
use Rattle.std.proofs.lemmas.Nat.{pow_pos}
use Rattle.qp_model.specs.declared.systems.System.{System}
use Rattle.qp_model.specs.Lists.{with_number}
use Rattle.qp_model.specs.Sites.{blocks_of}
use Rattle.qp_table.specs.Counting.{many}
use Rattle.qp_table.specs.Rule.{pool_at, block_at, is_ref, is_spot_at}
use Rattle.qp_table.specs.After.{HasRoom, WordSteps}
use Rattle.qp_table.specs.declared.view.View.{View}
use Rattle.qp_table.proofs.Bounds.{pool-ascends, map-small, bits-on, with-ascends}
use Rattle.qp_table.proofs.Steps.{pool-of, x-is}
use Rattle.qp_table.proofs.Tokens.{at-le, held-stands, standing, used-alone}
use Rattle.qp_table.proofs.StepLawLemmas.{backs_tell, more_references_tell}
use Rattle.qp_shared_blocks.specs.Ends.{AnotherTold, ReturnTold}

pub returns-tell : (sys : System) (id : ℕ) (v : View) → HasRoom v → (o p b m : ℕ) → b < 32 → 0 < many (is_spot_at p b m) v.used → WordSteps sys id v (pool_at p) (λ n. (n + (4294967296 + 2 ^ b)) % 18446744073709551616) (ReturnTold sys o p b m v)
returns-tell sys id v own o p b m low mine words views holds at small =
    let few : 2 ^ b ≤ 2 ^ 31 = pow_mono {j = 31} (omega arith) in
    let z = backs_tell sys id v own o p b m (4294967296 + 2 ^ b) refl (omega arith) mine words views holds at small in
    let a = at-le p b m v.used in
    let alone = used-alone sys views holds.now id v at holds.tokens p b (omega arith) in
    let pool = pool-of sys p b alone.0 in
    let free = (holds.now.pool p).free in
    let asc = with-ascends b 0 (blocks_of sys p) free (omega arith) pool.1 (pool-ascends sys holds.lanes holds.now holds.leaves holds.logs.count holds.logs.room p pool.0) in
    let less = map-small (blocks_of sys p) (with_number b free) (holds.fitting.small p pool.0).1 asc in
    let on = bits-on b 0 (blocks_of sys p) free alone.1 in
    let shows = holds.shows.pools p pool.0 in
    let pos = pow_pos b in
    (z.0, z.1, (z.2, omega arith))

pub another-tells : (sys : System) (id : ℕ) (v : View) → HasRoom v → (o p b k : ℕ) → 0 < p → 0 < many (is_ref p b k) v.hands → WordSteps sys id v (block_at p b) (λ n. (n + 4294967297) % 18446744073709551616) (AnotherTold sys o p b v)
another-tells sys id v own o p b k pos mine words views holds at small =
    let z = more_references_tell sys id v own o p b k pos mine words views holds at small in
    let there = held-stands sys views holds.now id v at holds.tokens p b k pos mine in
    let alone = standing sys views holds.now id v at holds.tokens p b k there in
    let x = x-is sys words views holds id v at own o p b alone.0 in let x0 = x.0 in let x1 = x.1 in let x2 = x.2 in
    (z.0, z.1, (z.2, omega arith))
