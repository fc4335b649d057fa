-- The first pool of a system.
use Rattle.std.proofs.Common.{◌≡◌, ℕ, ◌<◌, ◌≤◌, List, [], ◌∷◌, map, length, get_or, slice_get, refl, arith}
use Rattle.std.specs.Option.{option_map_or}
use Rattle.qp_model.specs.declared.systems.PoolDef.{PoolDef}
use Rattle.qp_model.specs.declared.systems.System.{System}
use Rattle.qp_model.specs.Parts.{sizes_of}
use Rattle.qp_model.specs.Told.{Event}
use Rattle.qp_calls.specs.Clauses.{FitsPool, IsEvent}

first-has : (pools : List PoolDef) → 0 < option_map_or (λ d. d.size) (slice_get pools 0) 0
    → (1 ≤ length pools) × (get_or (map (λ d. d.size) pools) 0 0 ≡ option_map_or (λ d. d.size) (slice_get pools 0) 0)
first-has [] h = absurd (omega (arith, h))
first-has (p ∷ ps) h = (omega arith, refl)

pub fits-first : (sys : System) (ev : Event) (n : ℕ) → IsEvent sys ev → n ≡ option_map_or (λ d. d.size) (slice_get sys.pools 0) 0 → length ev.pars ≤ n → 0 < n → FitsPool sys 1 ev
unfolding sizes_of
fits-first sys ev n event is few some =
    let first = first-has sys.pools (let e = is in omega (arith, e, some)) in
    let there = first.0 in
    let size = first.1 in
    record { event = event; some = omega arith; there = there; size = omega (arith, size, is, few) }
