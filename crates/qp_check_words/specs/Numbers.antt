-- Systems whose words have numbers of their types.
use Rattle.std.specs.Prelude.{◌+◌, ◌<◌, ◌≤◌, length}
use Rattle.std.specs.List.{AllByRecursion}
use Rattle.qp_model.specs.declared.systems.System.{System}

-- pools, their blocks and timers are numbered by bytes, signals from 4 on by 16 bits
pub record WordsFit (sys : System) : Type 0 where
  pub pools : length sys.pools < 256
  pub blocks : AllByRecursion (λ d. d.blocks ≤ 256) sys.pools
  pub signals : length sys.signals + 4 < 65536
  pub timers : length sys.timers < 256
