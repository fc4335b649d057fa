-- The objects, pools and words of a system.
use Rattle.std.specs.Prelude.{ℕ, ◌-◌, ◌==◌, slice_get}
use Rattle.std.specs.declared.option.Option.{Option}
use Rattle.std.specs.List.{find}
use Rattle.std.specs.Option.{option_map_or}
use Rattle.qp_model.specs.declared.systems.ObjectDef.{ObjectDef}
use Rattle.qp_model.specs.declared.systems.System.{System}

-- the object of a priority
unfoldable pub object_at : System → ℕ → Option ObjectDef
object_at sys o = find (λ d. d.priority == o) sys.objects

-- the length of an object's ring, 0 where there is no such object
unfoldable pub ring_of : System → ℕ → ℕ
unfolding object_at
ring_of sys o = option_map_or (λ d. d.ring) (object_at sys o) 0

-- the number of a pool's blocks
abbrev pub blocks_of : System → ℕ → ℕ
blocks_of sys p = option_map_or (λ d. d.blocks) (slice_get sys.pools (p - 1)) 0
