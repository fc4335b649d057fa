-- The lanes that a table became are those that a run takes, and the lanes that it leaves are all of them.
use Rattle.std.proofs.Common.{◌≡◌, ℕ, suc, ◌+◌, ◌<◌, ◌≤◌, ◌==◌, Bool, true, false, List, [], ◌∷◌, length, cond, slice_get, refl, sym, ◌∙◌, ap, subst, arith, eqb-true, Some}
use Rattle.std.specs.Prelude.{⊤}
use Rattle.std.specs.List.{count_by}
use Rattle.std.specs.Option.{is_some}
use Rattle.std.proofs.lemmas.Bool.{eqb-false}
use Rattle.qp_model.specs.declared.stimulus.Stim.{Stim}
use Rattle.qp_model.specs.declared.systems.System.{System}
use Rattle.qp_model.specs.declared.systems.ObjectDef.{ObjectDef}
use Rattle.qp_model.specs.Sites.{object_at}
use Rattle.qp_model.specs.WordLaw.{is_object}
use Rattle.qp_calls.specs.LaneView.{LaneView}
use Rattle.qp_kernel.proofs.HappeningLemmas.{count-cons}
use Rattle.qp_table.specs.Counting.{Each}
use Rattle.qp_shared.specs.declared.shared.Shared.{Shared}
use Rattle.qp_shared.specs.Ending.{AreAll}
use Rattle.qp_shared.specs.Starting.{AreFirst, IsNewLaneOf, serves_all, world_name}
use Rattle.qp_port_qk.specs.Rows.{AreNewSources, AreNewQkLanes}
use Rattle.qp_port_lanes.specs.Workers.{AreSameLanes, IsNewOf}

-- Before the run.

is-object : (sys : System) (d : ObjectDef) → object_at sys d.priority ≡ Some d → is_object sys d.priority ≡ true
unfolding is_object
is-object sys d at = ap is_some at

news : (sys : System) (world : List ℕ) (more : List (List Stim)) (vs : List LaneView) → length vs ≡ length more
    → ((i : ℕ) (v : LaneView) → slice_get vs i ≡ Some v → IsNewOf sys world v) → AreNewSources sys world more vs
news sys world [] [] long h = tt
news sys world (ss ∷ more) (v ∷ vs) long h = (h 0 v refl, news sys world more vs (omega (arith, long)) (λ i u at. h (suc i) u at))
news sys world [] (v ∷ vs) long h = absurd (omega (arith, long))
news sys world (ss ∷ more) [] long h = absurd (omega (arith, long))

pub new-lanes : (s : Shared) (n : ℕ) (stimuli : List (List Stim)) (vs : List LaneView) → n ≡ 1 + length stimuli → AreFirst s n (serves_all s.sys.now) vs
    → AreNewQkLanes s.sys.now stimuli vs
new-lanes s n stimuli [] many h = absurd (let a = h.count in omega (arith, a, many))
new-lanes s n stimuli (v ∷ vs) many h =
    let first = h.each 0 v refl in (
      record { new = first.new; of = first.sys_is; world_is = refl },
      (λ d at. h.serve 0 v refl d.priority ∙ is-object s.sys.now d at),
      first.plan,
      news s.sys.now v.world stimuli vs (let a = h.count in omega (arith, a, many))
          (λ i u at. let other = h.each (suc i) u at in record { new = other.new; of = other.sys_is; world_is = other.world_is ∙ sym first.world_is }),
    )

-- Behind it.

-- lanes of a table of this name, in the order of their numbers, of which this is the first
abbrev AreOf : List ℕ → System → ℕ → List LaneView → Type 0
AreOf world sys k [] = ⊤
AreOf world sys k (v ∷ vs) = (v.world ≡ world) × (v.sys ≡ sys) × (v.lane ≡ k) × AreOf world sys (suc k) vs

starts-of : (world : List ℕ) (sys : System) (k : ℕ) (vs : List LaneView) → ((i : ℕ) (v : LaneView) → slice_get vs i ≡ Some v → IsNewLaneOf world sys (k + i) v)
    → AreOf world sys k vs
starts-of world sys k [] h = tt
starts-of world sys k (v ∷ vs) h =
    let first = h 0 v refl in
    let k_is = first.number_is in (
      first.world_is,
      first.sys_is,
      omega (arith, k_is),
      starts-of world sys (suc k) vs (λ i u at. let n : k + suc i ≡ suc k + i = omega arith in subst (λ m. IsNewLaneOf world sys m u) n (h (suc i) u at)),
    )

same-of : (world : List ℕ) (sys : System) (k : ℕ) (vs ws : List LaneView) → AreOf world sys k vs → AreSameLanes vs ws → AreOf world sys k ws
same-of world sys k [] [] h same = tt
same-of world sys k (v ∷ vs) (w ∷ ws) h same =
    (same.0.world ∙ h.0, same.0.sys ∙ h.1, same.0.lane ∙ h.2, same-of world sys (suc k) vs ws h.3 same.1)
same-of world sys k [] (w ∷ ws) h same = absurd same
same-of world sys k (v ∷ vs) [] h same = absurd same

same-long : (vs ws : List LaneView) → AreSameLanes vs ws → length ws ≡ length vs
same-long [] [] same = refl
same-long (v ∷ vs) (w ∷ ws) same = ap suc (same-long vs ws same.1)
same-long [] (w ∷ ws) same = absurd same
same-long (v ∷ vs) [] same = absurd same

each-world : (world : List ℕ) (sys : System) (k : ℕ) (vs : List LaneView) → AreOf world sys k vs → Each (λ (v : LaneView). v.world ≡ world) vs
each-world world sys k [] h = tt
each-world world sys k (v ∷ vs) h = (h.0, each-world world sys (suc k) vs h.3)

each-system : (world : List ℕ) (sys : System) (k : ℕ) (vs : List LaneView) → AreOf world sys k vs → Each (λ (v : LaneView). v.sys ≡ sys) vs
each-system world sys k [] h = tt
each-system world sys k (v ∷ vs) h = (h.1, each-system world sys (suc k) vs h.3)

abbrev is_lane : ℕ → LaneView → Bool
is_lane n v = v.lane == n

none-before : (world : List ℕ) (sys : System) (n k : ℕ) (vs : List LaneView) → n < k → AreOf world sys k vs → count_by (is_lane n) vs ≡ 0
none-before world sys n k [] less h = refl
none-before world sys n k (v ∷ vs) less h = count-cons (is_lane n) v vs ∙ go (v.lane == n) refl (none-before world sys n (suc k) vs (omega (arith, less)) h.3)
  where
    go : (b : Bool) → (v.lane == n) ≡ b → count_by (is_lane n) vs ≡ 0 → cond b 1 0 + count_by (is_lane n) vs ≡ 0
    go true is behind = let same = eqb-true v.lane n is in let k_is = h.2 in absurd (omega (arith, same, k_is, less))
    go false is behind = omega (arith, behind)

once : (world : List ℕ) (sys : System) (n k : ℕ) (vs : List LaneView) → k ≤ n → n < k + length vs → AreOf world sys k vs → count_by (is_lane n) vs ≡ 1
once world sys n k [] low high h = absurd (omega (arith, low, high))
once world sys n k (v ∷ vs) low high h = count-cons (is_lane n) v vs ∙ go (v.lane == n) refl (λ behind. once world sys n (suc k) vs behind (omega (arith, high)) h.3)
  where
    go : (b : Bool) → (v.lane == n) ≡ b → (k < n → count_by (is_lane n) vs ≡ 1) → cond b 1 0 + count_by (is_lane n) vs ≡ 1
    go true is behind =
        let same = eqb-true v.lane n is in
        let k_is = h.2 in
        let none = none-before world sys n (suc k) vs (omega (arith, same, k_is)) h.3 in
        omega (arith, none)
    go false is behind =
        let other = eqb-false v.lane n is in
        let k_is = h.2 in
        let one = behind (omega (arith, other, k_is, low)) in
        omega (arith, one)

pub all-lanes : (s : Shared) (n : ℕ) (serves : ℕ → ℕ → Bool) (vs ws : List LaneView) → 0 < n → AreFirst s n serves vs → AreSameLanes vs ws → AreAll s ws
all-lanes s n serves vs ws some h same =
    let a = h.count in
    let b = same-long vs ws same in
    let long : n ≡ length ws = omega (arith, a, b) in
    let of = same-of (world_name s n) s.sys.now 0 vs ws (starts-of (world_name s n) s.sys.now 0 vs (λ i v at. let up : i ≡ 0 + i = omega arith in subst (λ m. IsNewLaneOf (world_name s n) s.sys.now m v) up (h.each i v at))) same in
    record {
      some = omega (arith, some, long);
      worlds = subst (λ m. Each (λ (v : LaneView). v.world ≡ world_name s m) ws) long (each-world (world_name s n) s.sys.now 0 ws of);
      systems = each-system (world_name s n) s.sys.now 0 ws of;
      once = λ m less. once (world_name s n) s.sys.now m 0 ws (omega arith) (omega (arith, less)) of;
    }
