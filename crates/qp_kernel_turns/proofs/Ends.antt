-- The rows at the base that a lane has.
use Rattle.std.proofs.Common.{◌≡◌, ℕ, ◌≤◌, ◌==◌, cond, Bool, true, false, List, ap, subst, arith}
use Rattle.std.specs.Option.{option_map_or}
use Rattle.qp_model.specs.declared.systems.System.{System}
use Rattle.qp_model.specs.Kernels.{sim, qk, qv}
use Rattle.qp_model.specs.KernelLane.{Reading, lane_read}
use Rattle.qp_model.specs.Told.{ToldItem}
use Rattle.qp_kernel.specs.Turning.{Terms, kernel_in}
use Rattle.qp_kernel.specs.ZeroEnds.{ZeroEnds, most_rows}
use Rattle.qp_kernel_turns.specs.Turning.{EndsSo, idle_in}

-- the lane may end so, with no more rows without a step than n
abbrev pub EndsFew : System → Terms → ℕ → ℕ → List ToldItem → (ℕ → Bool) → Type 0
EndsFew sys terms end n told has = ZeroEnds sys (kernel_in terms) terms.budget end (most_rows (kernel_in terms) n) told has

-- under `qk` it reads no more than these
pub ends-few : (sys : System) (terms : Terms) (end : ℕ) (n : ℕ) (told : List ToldItem) (has : ℕ → Bool) → EndsFew sys terms end n told has → terms.threaded ≡ true → idle_in sys terms told has ≤ n
unfolding lane_read
ends-few sys terms end n told has z threaded =
    let own : idle_in sys terms told has ≡ z.last.idle = ap (λ r. option_map_or (λ (k : Reading). k.idle) r 0) z.read in
    let kernel : kernel_in terms ≡ qk = ap (λ b. cond b qk (cond terms.cooperative qv sim)) threaded in
    let few : z.last.idle ≤ n = subst (λ k. z.last.idle ≤ most_rows k n) kernel z.idle in
    omega (arith, own, few)

-- a lane has no more of them than it reads
pub ends-so : (sys : System) (terms : Terms) (end : ℕ) (told : List ToldItem) (has : ℕ → Bool) (n : ℕ) → ZeroEnds sys (kernel_in terms) terms.budget end (most_rows (kernel_in terms) n) told has → EndsSo sys terms end told has
unfolding lane_read
ends-so sys terms end told has n z = record {
  last = z.last;
  read = z.read;
  idle = by (kernel_in terms == qk) z.idle;
  spills = z.spills;
  stands = z.stands;
  follows = z.follows;
  shapes = z.shapes;
  ends = z.ends;
  spents = z.spents;
  spent = z.spent;
  states = z.states;
  budgets = z.budgets;
}
  where
    own : idle_in sys terms told has ≡ z.last.idle
    own = ap (λ r. option_map_or (λ (k : Reading). k.idle) r 0) z.read

    by : (b : Bool) → z.last.idle ≤ cond b n 1 → z.last.idle ≤ cond b (idle_in sys terms told has) 1
    by true few = rw own (omega arith)
    by false few = few
