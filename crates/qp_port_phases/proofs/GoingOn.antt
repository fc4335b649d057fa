-- Turns over rounds, one behind another.
use Rattle.std.proofs.Common.{◌≡◌, ◌⊎◌, ℕ, ◌≤◌, Bool, true, false, List, [], ◌∷◌, length, sym, ◌∙◌, ap, inl, inr, arith, IsTrue}
use Rattle.qp_model.specs.WordLaw.{is_object}
use Rattle.qp_calls.specs.LaneView.{LaneView}
use Rattle.qp_port_phases.specs.declared.lanes.Passed.{Passed}
use Rattle.qp_port_phases.specs.declared.lanes.Passed.TheVariants as passed
use Rattle.qp_port_phases.specs.Lanes.{Kept}
use Rattle.qp_port_phases.specs.Rows.{CountsBy, CountsOn, Numbers, PassCounts, LaneSeesEntry}
use Rattle.qp_port_phases.specs.Staying.{FirstIs, GoesOn, WorkerStays}

by-none : (m n : Numbers) → n ≡ m → CountsBy 0 m n
by-none m n same = record {
  lost = λ l. sym (ap (λ x. x.lost) same) ∙ l;
  settles = λ l. let e = ap (λ x. x.settles) same in omega (arith, e);
  rows = λ l. let e = ap (λ x. x.rows) same in omega (arith, e);
}

by-then : (m n o : Numbers) → CountsBy 0 m n → CountsBy 0 n o → CountsBy 0 m o
by-then m n o a b = record {
  lost = λ l. a.lost (b.lost l);
  settles = λ l. omega (arith, a.settles (b.lost l), b.settles l);
  rows = λ l. omega (arith, a.rows (b.lost l), b.rows l);
}

on-then : (v : LaneView) (m n o : Numbers) → CountsOn v m n → CountsBy 0 n o → CountsOn v m o
on-then v m n o a b = record {
  lost = λ l. a.lost (b.lost l);
  settles = λ l. omega (arith, a.settles (b.lost l), b.settles l);
  rows = λ l. omega (arith, a.rows (b.lost l), b.rows l);
  pending = λ l p is sees. omega (arith, a.pending (b.lost l) p is sees, b.rows l);
}

by-one : (m n : Numbers) → CountsBy 1 m n → CountsBy 0 m n
by-one m n a = record { lost = a.lost; settles = λ l. omega (arith, a.settles l); rows = a.rows }

by-pass : (m n : Numbers) (p : Passed) → PassCounts m n p → CountsBy 0 m n
by-pass m n passed.Yes a = by-one m n a
by-pass m n (passed.Found p c) a = a
by-pass m n passed.Stopped a = a
by-pass m n passed.Memory a = a

module _ {T : Type 0} (Ready : T → Type 0) (Same : T → T → Type 0) (numbers : T → Numbers) where
  pub goes-none : ((a : T) → Same a a) → (x : T) → Ready x → GoesOn Ready Same numbers x x
  goes-none itself x ready = record { ready = ready; same = itself x; counts = by-none (numbers x) (numbers x) (λ i. numbers x) }

  pub goes-kept : (waits remains : T → Bool) (x y : T) → Kept Ready Same waits remains numbers x y → GoesOn Ready Same numbers x y
  goes-kept waits remains x y h = record { ready = h.ready; same = h.same; counts = by-none (numbers x) (numbers y) h.numbers_still }

  pub goes-then : ((a b c : T) → Same a b → Same b c → Same a c) → (x y z : T) → GoesOn Ready Same numbers x y → GoesOn Ready Same numbers y z → GoesOn Ready Same numbers x z
  goes-then still x y z h k = record { ready = k.ready; same = still x y z h.same k.same; counts = by-then (numbers x) (numbers y) (numbers z) h.counts k.counts }

  pub goes-pass : (p : Passed) (x y : T) → Ready y → Same x y → PassCounts (numbers x) (numbers y) p → GoesOn Ready Same numbers x y
  goes-pass p x y ready same counts = record { ready = ready; same = same; counts = by-pass (numbers x) (numbers y) p counts }

  -- A first turn, and what comes behind it.
  module _ (Turned : T → T → Type 0) where
    pub stays-turn : ((a : T) → Same a a) → (x y : T) → Turned x y → Ready y → WorkerStays Turned Ready Same numbers x y
    stays-turn itself x y turned ready = record { first = y; turned = turned; on = goes-none itself y ready }

    pub stays-then : (x y z : T) → Turned x y → GoesOn Ready Same numbers y z → WorkerStays Turned Ready Same numbers x z
    stays-then x y z turned on = record { first = y; turned = turned; on = on }

    pub stays-same : ((a b c : T) → Same a b → Same b c → Same a c) → ((a b : T) → Turned a b → Ready b × Same a b) → (x z : T) → WorkerStays Turned Ready Same numbers x z → Ready z × Same x z
    stays-same still went x z h = (h.on.ready, still x h.first z (went x h.first h.turned).1 h.on.same)

    pub stays-counts : (view : T → LaneView) → ((a b : T) → Turned a b → CountsOn (view a) (numbers a) (numbers b)) → (x z : T) → WorkerStays Turned Ready Same numbers x z → CountsOn (view x) (numbers x) (numbers z)
    stays-counts view went x z h = on-then (view x) (numbers x) (numbers h.first) (numbers z) (went x h.first h.turned) h.on.counts

  module _ (view : T → LaneView) where
    -- a turn behind an entry that was just seen, or one that ends no row
    pub goes-turn : (rowless : T → Bool) (y z : T) → (rowless y ≡ true) ⊎ ((p : ℕ) × IsTrue (is_object (view y).sys p) × LaneSeesEntry (view y) p) → Ready z → Same y z → CountsOn (view y) (numbers y) (numbers z)
        → (rowless y ≡ true → (numbers z).lost ≡ false → (numbers z).rows ≤ (numbers y).rows) → GoesOn Ready Same numbers y z
    goes-turn rowless y z cause ready same on none = record {
      ready = ready;
      same = same;
      counts = record { lost = on.lost; settles = λ l. omega (arith, on.settles l); rows = λ l. few cause l };
    }
      where
        few : (rowless y ≡ true) ⊎ ((p : ℕ) × IsTrue (is_object (view y).sys p) × LaneSeesEntry (view y) p) → (numbers z).lost ≡ false → (numbers z).rows ≤ (numbers y).rows
        few (inl is) l = none is l
        few (inr (p, is, sees)) l = on.pending l p is sees

-- where there is no lane
pub first-none : {T : Type 0} → (So : T → T → Type 0) → (xs ys : List T) → length xs ≡ 0 → FirstIs So xs ys
first-none So [] ys e = tt
first-none So (x ∷ xs) ys e = absurd (omega (arith, e))
