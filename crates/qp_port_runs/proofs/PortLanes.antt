-- The lanes that a table became for a port are those that its run takes.
use Rattle.std.proofs.Common.{◌≡◌, ℕ, suc, ◌+◌, ◌-◌, ◌==◌, eqb, ne_eqb, not, ◌&&◌, true, false, List, [], ◌∷◌, length, slice_get, refl, sym, ◌∙◌, subst, arith, Some}
use Rattle.std.specs.Option.{option_map_or}
use Rattle.std.proofs.lemmas.Bool.Decides.{nat_tests}
use Rattle.qp_model.specs.declared.stimulus.Stim.{Stim}
use Rattle.qp_model.specs.declared.systems.System.{System}
use Rattle.qp_model.specs.declared.systems.ObjectDef.{ObjectDef}
use Rattle.qp_calls.specs.LaneView.{LaneView}
use Rattle.qp_shared.specs.declared.shared.Shared.{Shared}
use Rattle.qp_shared.specs.Starting.{AreFirst, serves_one}
use Rattle.qp_port_lanes.specs.Workers.{AreSameLanes, IsNewOf}
use Rattle.qp_port.specs.Rows.{AreNew, AreNewLanes}

-- lane i serves the i-th object
serves-its : (sys : System) (i : ℕ) (d : ObjectDef) → slice_get sys.objects i ≡ Some d → serves_one sys (suc i) d.priority ≡ true
serves-its sys i d found =
    let down : suc i - 1 ≡ i = omega arith in
    let other : eqb (suc i) 0 ≡ false = ne_eqb (suc i) 0 (λ e. absurd (omega (arith, e))) in
    let self : (d.priority == d.priority) ≡ true = grind (arith, nat_tests) in
    subst (λ b. (not b && option_map_or (λ e. e.priority == d.priority) (slice_get sys.objects (suc i - 1)) false) ≡ true) (sym other)
    (subst (λ k. option_map_or (λ e. e.priority == d.priority) (slice_get sys.objects k) false ≡ true) (sym down)
    (subst (λ x. option_map_or (λ e. e.priority == d.priority) x false ≡ true) (sym found) self))

news : (sys : System) (world : List ℕ) (ds : List ObjectDef) (more : List (List Stim)) (vs : List LaneView) → length vs ≡ length ds + length more
    → ((i : ℕ) (v : LaneView) → slice_get vs i ≡ Some v → IsNewOf sys world v)
    → ((i : ℕ) (v : LaneView) (d : ObjectDef) → slice_get vs i ≡ Some v → slice_get ds i ≡ Some d → v.serves d.priority ≡ true) → AreNew sys world ds more vs
news sys world (d ∷ ds) more (v ∷ vs) long h serves =
    (h 0 v refl, serves 0 v d refl refl, news sys world ds more vs (omega (arith, long)) (λ i u at. h (suc i) u at) (λ i u e at found. serves (suc i) u e at found))
news sys world [] (ss ∷ more) (v ∷ vs) long h serves = (h 0 v refl, news sys world [] more vs (omega (arith, long)) (λ i u at. h (suc i) u at) (λ i u e at found. serves (suc i) u e at (absurd (cc))))
news sys world [] [] [] long h serves = tt
news sys world [] [] (v ∷ vs) long h serves = absurd (omega (arith, long))
news sys world (d ∷ ds) more [] long h serves = absurd (omega (arith, long))
news sys world [] (ss ∷ more) [] long h serves = absurd (omega (arith, long))

pub new-port_lanes : (s : Shared) (n : ℕ) (stimuli : List (List Stim)) (vs : List LaneView) → n ≡ 1 + length s.sys.now.objects + length stimuli → AreFirst s n (serves_one s.sys.now) vs
    → AreNewLanes s.sys.now stimuli vs
new-port_lanes s n stimuli [] many h = absurd (let a = h.count in omega (arith, a, many))
new-port_lanes s n stimuli (v ∷ vs) many h =
    let first = h.each 0 v refl in (
      record { new = first.new; of = first.sys_is; world_is = refl },
      news s.sys.now v.world s.sys.now.objects stimuli vs (let a = h.count in omega (arith, a, many))
          (λ i u at. let other = h.each (suc i) u at in record { new = other.new; of = other.sys_is; world_is = other.world_is ∙ sym first.world_is })
          (λ i u d at found. h.serve (suc i) u at d.priority ∙ serves-its s.sys.now i d found),
    )

-- the same lanes, as a run under `qk` says it
pub same-as : (vs ws : List LaneView) → AreSameLanes vs ws → AreSameLanes vs ws
same-as [] [] same = tt
same-as (v ∷ vs) (w ∷ ws) same = (same.0, same-as vs ws same.1)
same-as [] (w ∷ ws) same = absurd same
same-as (v ∷ vs) [] same = absurd same
