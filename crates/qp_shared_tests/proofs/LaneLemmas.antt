-- Lanes as their table gave them out, and players behind their turns.
use Rattle.std.proofs.Common.{◌≡◌, ℕ, zero, suc, ◌+◌, ◌<◌, ◌==◌, Bool, true, List, [], ◌∷◌, ◌++◌, length, take, drop, slice_get, refl, sym, ◌∙◌, ap, subst, arith, Some, length-append}
use Rattle.std.specs.List.{count_by}
use Rattle.qp_base.specs.declared.event.Ev.{Ev}
use Rattle.qp_model.specs.declared.systems.System.{System}
use Rattle.qp_model.specs.WordLaw.{is_object}
use Rattle.qp_calls.specs.LaneView.{LaneView}
use Rattle.qp_port_phases.specs.Turns.{TurnEach}
use Rattle.qp_shared.specs.declared.shared.Shared.{Shared}
use Rattle.qp_shared.specs.Ending.{AreAll}
use Rattle.qp_shared.specs.Starting.{AreFirst, serves_one}
use Rattle.qp_shared_tests.specs.Lanes.{IsTableLane, IsPlayer, IsSame, MayPlay}

-- What a lane is at first.

pub lane-of : (s : Shared) (n i : ℕ) (serves : ℕ → ℕ → Bool) (vs : List LaneView) (v w : LaneView) → AreFirst s n serves vs → slice_get vs i ≡ Some v → IsSame v w → IsTableLane s n i w
lane-of s n i serves vs v w h at same =
    let first = h.each i v at in
    record { world = same.world ∙ first.world_is; sys = same.sys ∙ first.sys_is; number = same.number ∙ first.number_is }

-- lane i of a port takes from the queue of object `me`
pub first-plays : (s : Shared) (sys : System) (ev : Ev) (i me to : ℕ) (vs : List LaneView) (v : LaneView) → s.sys.now ≡ sys → AreFirst s 3 (serves_one s.sys.now) vs → slice_get vs i ≡ Some v
    → serves_one sys i me ≡ true → is_object sys me ≡ true → is_object sys to ≡ true → MayPlay sys ev → IsPlayer sys ev me to v
first-plays s sys ev i me to vs v its h at serves mine other may =
    let first = h.each i v at in
    record {
      sound = may.sound;
      of = first.sys_is ∙ its;
      mine = mine;
      other = other;
      serves = h.serve i v at me ∙ (ap (λ t. serves_one t i me) its ∙ serves);
      fixed = may.fixed;
      event = may.event;
      pooled = may.pooled;
    }

-- Lanes that are all of their tables.

each-of-two : (n : ℕ) → n < 2 → count_by (λ (k : ℕ). k == n) (0 ∷ 1 ∷ []) ≡ 1
each-of-two zero few = refl
each-of-two (suc zero) few = refl
each-of-two (suc (suc n)) few = absurd (omega (arith, few))

pub all-two : (s : Shared) (a b : LaneView) → IsTableLane s 2 0 a → IsTableLane s 2 1 b → AreAll s (a ∷ b ∷ [])
all-two s a b x y = record {
  some = omega arith;
  worlds = (x.world, (y.world, tt));
  systems = (x.sys, (y.sys, tt));
  once = λ n few. subst (λ (ks : List ℕ). count_by (λ (k : ℕ). k == n) ks ≡ 1) (λ i. sym x.number i ∷ sym y.number i ∷ []) (each-of-two n few);
}

each-of-three : (n : ℕ) → n < 3 → count_by (λ (k : ℕ). k == n) (2 ∷ 0 ∷ 1 ∷ []) ≡ 1
each-of-three zero few = refl
each-of-three (suc zero) few = refl
each-of-three (suc (suc zero)) few = refl
each-of-three (suc (suc (suc n))) few = absurd (omega (arith, few))

pub all-three : (s : Shared) (a b c : LaneView) → IsTableLane s 3 0 a → IsTableLane s 3 1 b → IsTableLane s 3 2 c → AreAll s (c ∷ a ∷ b ∷ [])
all-three s a b c x y z = record {
  some = omega arith;
  worlds = (z.world, (x.world, (y.world, tt)));
  systems = (z.sys, (x.sys, (y.sys, tt)));
  once = λ n few. subst (λ (ks : List ℕ). count_by (λ (k : ℕ). k == n) ks ≡ 1) (λ i. sym z.number i ∷ sym x.number i ∷ sym y.number i ∷ []) (each-of-three n few);
}

-- Two that took their turns.

turns-long : {T : Type 0} (P : T → T → Type 0) (xs ys : List T) → TurnEach P xs ys → length ys ≡ length xs
turns-long P [] [] h = refl
turns-long P (x ∷ xs) (y ∷ ys) h = ap suc (turns-long P xs ys h.1)
turns-long P [] (y ∷ ys) h = absurd h
turns-long P (x ∷ xs) [] h = absurd h

pub both-turned : {T : Type 0} (P : T → T → Type 0) (a b c d : T) (xs ys zs : List T) → TurnEach P (a ∷ b ∷ []) xs → xs ≡ ys ++ d ∷ [] → ys ≡ zs ++ c ∷ [] → P a c × P b d
both-turned P a b c d xs ys [] h x y = let both = subst (TurnEach P (a ∷ b ∷ [])) (x ∙ ap (λ l. l ++ d ∷ []) y) h in (both.0, both.1.0)
both-turned P a b c d xs ys (z ∷ zs) h x y =
    let n = turns-long P (a ∷ b ∷ []) xs h in
    let long = ap length x in
    let more = ap length y in
    let i = length-append ys (d ∷ []) in
    let j = length-append (z ∷ zs) (c ∷ []) in
    absurd (omega (arith, n, long, more, i, j))

-- the same of a list that was lent
pub both-lent : {T : Type 0} (P : T → T → Type 0) (a b c d : T) (n : ℕ) (items ws ys zs : List T) → items ≡ a ∷ b ∷ [] → n ≡ 2 → TurnEach P (a ∷ b ∷ []) ws
    → take n (ws ++ drop (length ws) items) ≡ ys ++ d ∷ [] → ys ≡ zs ++ c ∷ [] → P a c × P b d
both-lent P a b c d n items (p ∷ q ∷ []) ys zs is two h x y =
    both-turned P a b c d (p ∷ q ∷ []) ys zs h (subst (λ k. take k ((p ∷ q ∷ []) ++ drop 2 (a ∷ b ∷ [])) ≡ ys ++ d ∷ []) two (subst (λ l. take n ((p ∷ q ∷ []) ++ drop 2 l) ≡ ys ++ d ∷ []) is x)) y
both-lent P a b c d n items [] ys zs is two h x y = absurd h
both-lent P a b c d n items (p ∷ []) ys zs is two h x y = absurd h.1
both-lent P a b c d n items (p ∷ q ∷ r ∷ ws) ys zs is two h x y = absurd h.1.1
