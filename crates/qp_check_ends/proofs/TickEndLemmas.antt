-- How a tick may end: done, by an assertion, or with more to follow.
use Rattle.std.proofs.Common.{◌≡◌, ◌≢◌, ℕ, Bool, true, false, List, [], ◌∷◌, refl, sym, subst, inl, inr}
use Rattle.qp_model.specs.declared.systems.System.{System}
use Rattle.qp_model.specs.declared.systems.TimerDef.{TimerDef}
use Rattle.qp_model.specs.declared.bodies.Body.TheVariants as body
use Rattle.qp_model.specs.Told.{Told, plain}
use Rattle.qp_model.specs.Sites.{ring_of}
use Rattle.qp_model.specs.Sources.{TicksOne, FiresInVain}
use Rattle.qp_model.proofs.ListLemmas.{nil-front}
use Rattle.qp_check_calls.specs.Decides.{Decides}
use Rattle.qp_check_ends.specs.TickState.{Due, TickState, Reaching, Fired, Vain, tick_done, tick_asserted, tick_open}
use Rattle.qp_check_ends.proofs.RecordLemmas.{none-first}
use Rattle.qp_check_ends.proofs.TickLemmas.{TicksDue, timer_of, FiredOn, NoneFree, IsPosted, TickFits}

one-never : (ring t : ℕ) (d : TimerDef) → TicksOne ring t d [] → ⊥
unfolding TicksOne
one-never ring t d (inl h) = none-first _ _ (sym h.1)
one-never ring t d (inr (inl h)) = none-first _ _ (sym h.2)
one-never ring t d (inr (inr h)) = none-first _ _ (sym h.5)

due-never : (sys : System) (x : Due) (left : List Due) (asserted : Bool) → TicksDue sys (x ∷ left) asserted [] → ⊥
unfolding TicksDue FiresInVain
due-never sys x left asserted (inl h) = none-first _ _ (sym h.1.5)
due-never sys x left asserted (inr h) =
    one-never (ring_of sys x.object) x.t (timer_of x) (subst (TicksOne (ring_of sys x.object) x.t (timer_of x)) (nil-front h.0 h.1 (sym h.2)) h.3)

fired-never : (sys : System) (object sig : ℕ) (left : List Due) (asserted : Bool) → FiredOn sys object sig left asserted [] → ⊥
fired-never sys object sig left asserted (NoneFree f l m e h) = none-first _ _ (sym e)
fired-never sys object sig left asserted (IsPosted f l m rest e room h) = none-first _ _ (sym e)

-- nothing follows where it is done, and where it ended in an assertion
pub tick-end : (sys : System) (s : TickState) → Decides (tick_done s) (TickFits sys s false [])
unfolding Decides TickFits TicksDue
tick-end sys (Reaching []) = (refl, refl)
tick-end sys (Reaching (x ∷ left)) = due-never sys x left false
tick-end sys (Fired object sig left) = fired-never sys object sig left false
tick-end sys Vain = λ h. let e : false ≡ true = h.1 in cc

pub tick-asserted : (sys : System) (s : TickState) → Decides (tick_asserted s) (TickFits sys s true [])
unfolding Decides TickFits TicksDue
tick-asserted sys (Reaching []) = λ h. let e : true ≡ false = h.1 in cc
tick-asserted sys (Reaching (x ∷ left)) = due-never sys x left true
tick-asserted sys (Fired object sig left) = fired-never sys object sig left true
tick-asserted sys Vain = (refl, refl)

-- some records other than none are left
abbrev pub TicksOn : System → TickState → Type 0
TicksOn sys s = (back : List Told) × (back ≢ []) × (asserted : Bool) × TickFits sys s asserted back

pub tick-open : (sys : System) (s : TickState) → Decides (tick_open s) (TicksOn sys s)
unfolding Decides TickFits TicksDue FiresInVain
tick-open sys (Reaching []) = λ h. h.1 h.3.0
tick-open sys (Reaching (x ∷ left)) =
    (plain (body.Fire x.t 0 0) ∷ plain (body.NoEntry x.object 0 0 0) ∷ [], none-first _ _, true, inl (refl, (0, 0, 0, 0, 0, refl)))
tick-open sys (Fired object sig left) = (plain (body.NoEntry object 0 0 0) ∷ [], none-first _ _, true, NoneFree 0 0 0 refl refl)
tick-open sys Vain = λ h. h.1 h.3.0
