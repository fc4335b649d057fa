use Rattle.std.proofs.Common.{ℕ, ◌%◌, ◌<◌, arith, w32}
use Rattle.std.specs.Prelude.{count_ones}
use Rattle.std.proofs.lemmas.Nat.{ones_le_self}
use Rattle.std.proofs.lemmas.Nat.Bits.{bit_at-trailing_zeros}
use Rattle.qp_shared_loops.proofs.gives.lowest.Goals as goal

some-bits : (n : ℕ) → 0 < count_ones n → 0 < n
some-bits n h = let le = ones_le_self n in omega arith

pub returns-clause-lowest : goal.returns-clause-lowest
returns-clause-lowest c =
    let t = bit_at-trailing_zeros w32 (c.args.word % 4294967296) (some-bits (c.args.word % 4294967296) c.requires.some) (omega arith) in (t.1, t.2)

pub returns-clause-within : goal.returns-clause-within
returns-clause-within c = (bit_at-trailing_zeros w32 (c.args.word % 4294967296) (some-bits (c.args.word % 4294967296) c.requires.some) (omega arith)).0
