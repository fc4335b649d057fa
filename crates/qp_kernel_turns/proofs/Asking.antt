-- How often the kernel's lane has looked at the stop word.
use Rattle.std.proofs.Common.{◌≡◌, ◌≤◌, Bool, false, arith}
use Rattle.qp_calls.specs.LaneView.{LaneView}
use Rattle.qp_kernel.specs.declared.kernel.Kernel.{Kernel}
use Rattle.qp_kernel_turns.specs.Counting.{Asks}

pub asks-none : (acts : Bool) (k : Kernel) (v : LaneView) → Asks acts k k v v
asks-none acts k v apart = omega arith

-- no look and no step was begun
pub asks-kept : (acts : Bool) (k m : Kernel) (v w : LaneView) → m.looks ≡ k.looks → m.steps ≡ k.steps → (acts ≡ false → v.asked ≤ w.asked) → Asks acts k m v w
asks-kept acts k m v w looks steps asks apart = let a = asks apart in omega (arith, looks, steps, a)

pub asks-then : (acts : Bool) (k l m : Kernel) (u v w : LaneView) → Asks acts k l u v → Asks acts l m v w → Asks acts k m u w
asks-then acts k l m u v w one two apart = let a = one apart in let b = two apart in omega (arith, a, b)

-- a look, scan and step behind what came before
pub asks-row : (acts : Bool) (k l look m : Kernel) (u v at w : LaneView) → Asks acts k l u v → Asks acts l look v at → Asks acts look m at w → Asks acts k m u w
asks-row acts k l look m u v at w one two three apart = let a = one apart in let b = two apart in let c = three apart in omega (arith, a, b, c)
