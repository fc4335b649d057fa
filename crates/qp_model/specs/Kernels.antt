-- The kernels by their numbers.
use Rattle.std.specs.Prelude.{ℕ, ◌==◌, Bool, ◌||◌}

-- one thread, preemptive
abbrev pub sim : ℕ
sim = 0

-- a thread for the kernel and one for each source, preemptive
abbrev pub qk : ℕ
qk = 1

-- a thread for each object and each source
abbrev pub port : ℕ
port = 2

-- one thread, cooperative
abbrev pub qv : ℕ
qv = 3

-- a run with one thread has one order
abbrev pub has_one_order : ℕ → Bool
has_one_order kernel = (kernel == sim) || (kernel == qv)

-- a lane of such a run may try a `settle` in vain
abbrev pub may_try : ℕ → Bool
may_try kernel = (kernel == qk) || (kernel == port)
