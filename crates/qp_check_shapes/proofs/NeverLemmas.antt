-- Two constructors are never equal. Where a proof goes over many of them, citing this is much quicker than searching at each.
use Rattle.std.proofs.Common.{◌≡◌, Some, None}

pub some-none : {X : Type 0} {x : X} → Some x ≡ None → ⊥
some-none h = cc
