-- What is left of a tick reads its records one by one.
use Rattle.std.proofs.Common.{◌≡◌, ℕ, ◌+◌, ◌==◌, Bool, true, false, cond, ◌&&◌, List, [], ◌∷◌, ◌++◌, Some, refl, sym, ◌∙◌, ap, subst, inl, inr, ◌⊎◌, arith}
use Rattle.std.specs.Bool.{MatchBool}
use Rattle.std.proofs.lemmas.Bool.Decides.{nat_tests}
use Rattle.qp_model.specs.declared.systems.TimerDef.{TimerDef}
use Rattle.qp_model.specs.declared.systems.System.{System}
use Rattle.qp_model.specs.declared.bodies.Body.{Body}
use Rattle.qp_model.specs.declared.bodies.Body.TheVariants as body
use Rattle.qp_model.specs.Record.{entry}
use Rattle.qp_model.specs.Line.{same_entry}
use Rattle.qp_model.specs.Told.{Told, Known, Nothing, plain}
use Rattle.qp_model.specs.Sites.{ring_of}
use Rattle.qp_model.specs.Sources.{TicksOne, FiresInVain, Ticks}
use Rattle.qp_model.proofs.LineLemmas.{same_number}
use Rattle.qp_check_ends.specs.TickState.{Due, dues, TickState, Reaching, Fired, Vain, reach_next, ring_had_room, fired_next, tick_next}
use Rattle.qp_model.proofs.RecordLemmas.{told-is, same_entry-is}
use Rattle.qp_check_ends.proofs.RecordLemmas.{first-is, passed}

-- a timer of no rate
abbrev pub timer_of : Due → TimerDef
timer_of x = record { object = x.object; sig = x.sig; rate = 0 }

-- a tick of these timers
unfoldable pub TicksDue : System → List Due → Bool → List Told → Type 0
TicksDue sys [] asserted g = (g ≡ []) × (asserted ≡ false)
TicksDue sys (x ∷ left) asserted g =
    ((asserted ≡ true) × FiresInVain x.t (timer_of x) g)
    ⊎ ((one rest : List Told) × (g ≡ one ++ rest) × TicksOne (ring_of sys x.object) x.t (timer_of x) one × TicksDue sys left asserted rest)

due-ticks : (sys : System) (rate t : ℕ) (d : TimerDef) (ds : List TimerDef) (asserted : Bool) (g : List Told) (m : Bool)
    → ((rest : List Told) → Ticks sys rate (t + 1) ds asserted rest → TicksDue sys (dues rate (t + 1) ds) asserted rest)
    → MatchBool m
    (((asserted ≡ true) × FiresInVain t d g)
    ⊎ ((one rest : List Told) × (g ≡ one ++ rest) × TicksOne (ring_of sys d.object) t d one × Ticks sys rate (t + 1) ds asserted rest))
    (Ticks sys rate (t + 1) ds asserted g)
    → TicksDue sys (cond m (record { t = t; object = d.object; sig = d.sig } ∷ dues rate (t + 1) ds) (dues rate (t + 1) ds)) asserted g
unfolding TicksDue TicksOne FiresInVain
due-ticks sys rate t d ds asserted g true more (inl h) = inl h
due-ticks sys rate t d ds asserted g true more (inr h) = inr (h.0, h.1, h.2, h.3, more h.1 h.4)
due-ticks sys rate t d ds asserted g false more h = more g h

-- a tick reaches the timers of its rate
pub ticks-due : (sys : System) (rate t : ℕ) (ds : List TimerDef) (asserted : Bool) (g : List Told)
    → Ticks sys rate t ds asserted g → TicksDue sys (dues rate t ds) asserted g
unfolding Ticks TicksDue dues
ticks-due sys rate t [] asserted g h = h
ticks-due sys rate t (d ∷ ds) asserted g h = due-ticks sys rate t d ds asserted g (d.rate == rate) (ticks-due sys rate (t + 1) ds asserted) h

ticks-back : (sys : System) (rate t : ℕ) (d : TimerDef) (ds : List TimerDef) (asserted : Bool) (g : List Told) (m : Bool)
    → ((rest : List Told) → TicksDue sys (dues rate (t + 1) ds) asserted rest → Ticks sys rate (t + 1) ds asserted rest)
    → TicksDue sys (cond m (record { t = t; object = d.object; sig = d.sig } ∷ dues rate (t + 1) ds) (dues rate (t + 1) ds)) asserted g
    → MatchBool m
    (((asserted ≡ true) × FiresInVain t d g)
    ⊎ ((one rest : List Told) × (g ≡ one ++ rest) × TicksOne (ring_of sys d.object) t d one × Ticks sys rate (t + 1) ds asserted rest))
    (Ticks sys rate (t + 1) ds asserted g)
unfolding TicksDue TicksOne FiresInVain
ticks-back sys rate t d ds asserted g true more (inl h) = inl h
ticks-back sys rate t d ds asserted g true more (inr h) = inr (h.0, h.1, h.2, h.3, more h.1 h.4)
ticks-back sys rate t d ds asserted g false more h = more g h

pub due-back : (sys : System) (rate t : ℕ) (ds : List TimerDef) (asserted : Bool) (g : List Told)
    → TicksDue sys (dues rate t ds) asserted g → Ticks sys rate t ds asserted g
unfolding Ticks TicksDue dues
due-back sys rate t [] asserted g h = h
due-back sys rate t (d ∷ ds) asserted g h = ticks-back sys rate t d ds asserted g (d.rate == rate) (due-back sys rate (t + 1) ds asserted) h

-- what is left behind a timer that fired
pub data FiredOn (sys : System) (object sig : ℕ) (left : List Due) (asserted : Bool) (g : List Told) : Type 0 where
  NoneFree : (f l m : ℕ) → g ≡ plain (body.NoEntry object f l m) ∷ [] → asserted ≡ true → FiredOn sys object sig left asserted g
  IsPosted : (f l m : ℕ) (rest : List Told) → g ≡ plain (body.Post object f l m (entry 0 sig 0)) ∷ rest → ring_had_room (ring_of sys object) f l m ≡ true
      → TicksDue sys left asserted rest → FiredOn sys object sig left asserted g

-- the records of what is left of a tick
unfoldable pub TickFits : System → TickState → Bool → List Told → Type 0
TickFits sys (Reaching left) asserted g = TicksDue sys left asserted g
TickFits sys (Fired object sig left) asserted g = FiredOn sys object sig left asserted g
TickFits sys Vain asserted g = (g ≡ []) × (asserted ≡ true)

-- it reads one record
abbrev pub GoesTick : System → TickState → Bool → Told → List Told → Type 0
GoesTick sys s asserted t g = (s' : TickState) × (tick_next sys s t ≡ Some s') × TickFits sys s' asserted g

idle-reach : (x : Due) (left : List Due) (t : Told) (n : ℕ) → t ≡ plain (body.Idle x.t n) → reach_next x left t.body t.known ≡ Some (Reaching left)
idle-reach x left t n e = ap (λ (t : Told). reach_next x left t.body t.known) e ∙ rw (same_number x.t) refl

tick-reach : (x : Due) (left : List Due) (t : Told) (n counter : ℕ) → t ≡ plain (body.Tick x.t n counter) → reach_next x left t.body t.known ≡ Some (Reaching left)
tick-reach x left t n counter e = ap (λ (t : Told). reach_next x left t.body t.known) e ∙ rw (same_number x.t) refl

fire-reach : (x : Due) (left : List Due) (t : Told) (n reload : ℕ) → t ≡ plain (body.Fire x.t n reload) → reach_next x left t.body t.known ≡ Some (Fired x.object x.sig left)
fire-reach x left t n reload e = ap (λ (t : Told). reach_next x left t.body t.known) e ∙ rw (same_number x.t) refl

reach-whole : (sys : System) (x : Due) (left : List Due) (asserted : Bool) (t : Told) (g : List Told)
    → TicksDue sys (x ∷ left) asserted (t ∷ g) → GoesTick sys (Reaching (x ∷ left)) asserted t g
unfolding TicksDue TickFits tick_next TicksOne FiresInVain ring_had_room
reach-whole sys x left asserted t g (inl h) =
    let is : t ≡ plain (body.Fire x.t h.1.0 h.1.1) = (first-is _ _ _ _ h.1.5).0 in
    (Fired x.object x.sig left, fire-reach x left t h.1.0 h.1.1 is, NoneFree h.1.2 h.1.3 h.1.4 (first-is _ _ _ _ h.1.5).1 h.0)
reach-whole sys x left asserted t g (inr h) = by h.3
  where
    by : TicksOne (ring_of sys x.object) x.t (timer_of x) h.0 → GoesTick sys (Reaching (x ∷ left)) asserted t g
    by (inl k) =
        let whole : t ∷ g ≡ plain (body.Idle x.t k.0) ∷ h.1 = h.2 ∙ ap (λ us. us ++ h.1) k.1 in
        (Reaching left, idle-reach x left t k.0 (first-is _ _ _ _ whole).0, subst (TicksDue sys left asserted) (sym (first-is _ _ _ _ whole).1) h.4)
    by (inr (inl k)) =
        let whole : t ∷ g ≡ plain (body.Tick x.t k.0 k.1) ∷ h.1 = h.2 ∙ ap (λ us. us ++ h.1) k.2 in
        (Reaching left, tick-reach x left t k.0 k.1 (first-is _ _ _ _ whole).0, subst (TicksDue sys left asserted) (sym (first-is _ _ _ _ whole).1) h.4)
    by (inr (inr k)) =
        let whole : t ∷ g ≡ plain (body.Fire x.t k.0 k.1) ∷ (plain (body.Post x.object k.2 k.3 k.4 (entry 0 x.sig 0)) ∷ h.1) = h.2 ∙ ap (λ us. us ++ h.1) k.5 in
        (Fired x.object x.sig left, fire-reach x left t k.0 k.1 (first-is _ _ _ _ whole).0, IsPosted k.2 k.3 k.4 h.1 (first-is _ _ _ _ whole).1 k.6 h.4)

fired-whole : (sys : System) (object sig : ℕ) (left : List Due) (asserted : Bool) (t : Told) (g : List Told)
    → FiredOn sys object sig left asserted (t ∷ g) → GoesTick sys (Fired object sig left) asserted t g
unfolding TickFits tick_next
fired-whole sys object sig left asserted t g (NoneFree f l m e h) =
    let is : t ≡ plain (body.NoEntry object f l m) = (first-is _ _ _ _ e).0 in
    let next : fired_next (ring_of sys object) object sig left t.body t.known ≡ Some Vain = ap (λ (t : Told). fired_next (ring_of sys object) object sig left t.body t.known) is ∙ rw (same_number object) refl in
    (Vain, next, ((first-is _ _ _ _ e).1, h))
fired-whole sys object sig left asserted t g (IsPosted f l m rest e room h) =
    let is : t ≡ plain (body.Post object f l m (entry 0 sig 0)) = (first-is _ _ _ _ e).0 in
    let next : fired_next (ring_of sys object) object sig left t.body t.known ≡ Some (Reaching left) =
    ap (λ (t : Told). fired_next (ring_of sys object) object sig left t.body t.known) is ∙ rw (same_number object, same_number sig, room) refl in
    (Reaching left, next, subst (TicksDue sys left asserted) (sym (first-is _ _ _ _ e).1) h)

pub tick-whole : (sys : System) (s : TickState) (asserted : Bool) (t : Told) (g : List Told) → TickFits sys s asserted (t ∷ g) → GoesTick sys s asserted t g
unfolding TickFits TicksDue
tick-whole sys (Reaching []) asserted t g h = let none : t ∷ g ≡ [] = h.0 in absurd (cc)
tick-whole sys (Reaching (x ∷ left)) asserted t g h = reach-whole sys x left asserted t g h
tick-whole sys (Fired object sig left) asserted t g h = fired-whole sys object sig left asserted t g h
tick-whole sys Vain asserted t g h = let none : t ∷ g ≡ [] = h.0 in absurd (cc)

-- what a timer that is reached leaves
data Reached (x : Due) (left : List Due) (t : Told) (s' : TickState) : Type 0 where
  WasIdle : (n : ℕ) → t ≡ plain (body.Idle x.t n) → s' ≡ Reaching left → Reached x left t s'
  Fell : (n counter : ℕ) → t ≡ plain (body.Tick x.t n counter) → s' ≡ Reaching left → Reached x left t s'
  HasFired : (n reload : ℕ) → t ≡ plain (body.Fire x.t n reload) → s' ≡ Fired x.object x.sig left → Reached x left t s'

reached : (x : Due) (left : List Due) (t : Told) (s' : TickState) → reach_next x left t.body t.known ≡ Some s' → Reached x left t s'
reached x left t s' h = by t.body t.known refl refl h
  where
    by : (b : Body) (known : Known) → t.body ≡ b → t.known ≡ known → reach_next x left b known ≡ Some s' → Reached x left t s'
    by (body.Idle u n) Nothing is_body is_known k =
        let both = passed (u == x.t) (Reaching left) s' k in
        let test : (u == x.t) ≡ true = both.0 in
        let same : u ≡ x.t = grind (arith, nat_tests) in
        WasIdle n (told-is t _ _ is_body is_known ∙ ap (λ u. plain (body.Idle u n)) same) both.1
    by (body.Tick u n counter) Nothing is_body is_known k =
        let both = passed (u == x.t) (Reaching left) s' k in
        let test : (u == x.t) ≡ true = both.0 in
        let same : u ≡ x.t = grind (arith, nat_tests) in
        Fell n counter (told-is t _ _ is_body is_known ∙ ap (λ u. plain (body.Tick u n counter)) same) both.1
    by (body.Fire u n reload) Nothing is_body is_known k =
        let both = passed (u == x.t) (Fired x.object x.sig left) s' k in
        let test : (u == x.t) ≡ true = both.0 in
        let same : u ≡ x.t = grind (arith, nat_tests) in
        HasFired n reload (told-is t _ _ is_body is_known ∙ ap (λ u. plain (body.Fire u n reload)) same) both.1
    by b known is_body is_known k = absurd (cc)

reach-sound : (sys : System) (x : Due) (left : List Due) (asserted : Bool) (t : Told) (g : List Told) (s' : TickState)
    → Reached x left t s' → TickFits sys s' asserted g → TicksDue sys (x ∷ left) asserted (t ∷ g)
unfolding TicksDue TickFits TicksOne FiresInVain ring_had_room
reach-sound sys x left asserted t g s' (WasIdle n is next) h =
    inr (t ∷ [], g, refl, inl (n, ap (λ t. t ∷ []) is), subst (λ s. TickFits sys s asserted g) next h)
reach-sound sys x left asserted t g s' (Fell n counter is next) h =
    inr (t ∷ [], g, refl, inr (inl (n, counter, ap (λ t. t ∷ []) is)), subst (λ s. TickFits sys s asserted g) next h)
reach-sound sys x left asserted t g s' (HasFired n reload is next) h = by (subst (λ s. TickFits sys s asserted g) next h)
  where
    by : FiredOn sys x.object x.sig left asserted g → TicksDue sys (x ∷ left) asserted (t ∷ g)
    by (NoneFree f l m e k) =
        let whole : t ∷ g ≡ plain (body.Fire x.t n reload) ∷ plain (body.NoEntry x.object f l m) ∷ [] = cc in
        inl (k, (n, reload, f, l, m, whole))
    by (IsPosted f l m rest e room k) =
        let whole : t ∷ g ≡ plain (body.Fire x.t n reload) ∷ plain (body.Post x.object f l m (entry 0 x.sig 0)) ∷ rest = cc in
        inr (plain (body.Fire x.t n reload) ∷ plain (body.Post x.object f l m (entry 0 x.sig 0)) ∷ [], rest, whole, inr (inr (n, reload, f, l, m, refl, room)), k)

-- what a post of a timer leaves
data WentOn (ring : ℕ) (object sig : ℕ) (left : List Due) (t : Told) (s' : TickState) : Type 0 where
  WasFull : (f l m : ℕ) → t ≡ plain (body.NoEntry object f l m) → s' ≡ Vain → WentOn ring object sig left t s'
  HasPosted : (f l m : ℕ) → t ≡ plain (body.Post object f l m (entry 0 sig 0)) → ring_had_room ring f l m ≡ true → s' ≡ Reaching left → WentOn ring object sig left t s'

went-on : (ring : ℕ) (object sig : ℕ) (left : List Due) (t : Told) (s' : TickState) → fired_next ring object sig left t.body t.known ≡ Some s' → WentOn ring object sig left t s'
went-on ring object sig left t s' h = by t.body t.known refl refl h
  where
    by : (b : Body) (known : Known) → t.body ≡ b → t.known ≡ known → fired_next ring object sig left b known ≡ Some s' → WentOn ring object sig left t s'
    by (body.Post a f l m e) Nothing is_body is_known k =
        let both = passed ((a == object) && same_entry e (entry 0 sig 0) && ring_had_room ring f l m) (Reaching left) s' k in
        let test : ((a == object) && same_entry e (entry 0 sig 0) && ring_had_room ring f l m) ≡ true = both.0 in
        let same_object : a ≡ object = grind (arith, nat_tests) in
        let alike : same_entry e (entry 0 sig 0) ≡ true = grind (arith, nat_tests) in
        let room : ring_had_room ring f l m ≡ true = grind (arith, nat_tests) in
        let same : e ≡ entry 0 sig 0 = same_entry-is e (entry 0 sig 0) alike in
        HasPosted f l m (told-is t _ _ is_body is_known ∙ cc) room both.1
    by (body.NoEntry a f l m) Nothing is_body is_known k =
        let both = passed (a == object) Vain s' k in
        let test : (a == object) ≡ true = both.0 in
        let same_object : a ≡ object = grind (arith, nat_tests) in
        WasFull f l m (told-is t _ _ is_body is_known ∙ ap (λ a. plain (body.NoEntry a f l m)) same_object) both.1
    by b known is_body is_known k = absurd (cc)

fired-sound : (sys : System) (object sig : ℕ) (left : List Due) (asserted : Bool) (t : Told) (g : List Told) (s' : TickState)
    → WentOn (ring_of sys object) object sig left t s' → TickFits sys s' asserted g → FiredOn sys object sig left asserted (t ∷ g)
unfolding TickFits
fired-sound sys object sig left asserted t g s' (WasFull f l m is next) h =
    let last = subst (λ s. TickFits sys s asserted g) next h in
    let none : g ≡ [] = last.0 in
    NoneFree f l m (cc) last.1
fired-sound sys object sig left asserted t g s' (HasPosted f l m is room next) h =
    IsPosted f l m g (ap (λ t. t ∷ g) is) room (subst (λ s. TickFits sys s asserted g) next h)

pub tick-sound : (sys : System) (s : TickState) (asserted : Bool) (t : Told) (g : List Told) (s' : TickState)
    → tick_next sys s t ≡ Some s' → TickFits sys s' asserted g → TickFits sys s asserted (t ∷ g)
unfolding tick_next TickFits
tick-sound sys (Reaching []) asserted t g s' h k = absurd (cc)
tick-sound sys (Reaching (x ∷ left)) asserted t g s' h k = reach-sound sys x left asserted t g s' (reached x left t s' h) k
tick-sound sys (Fired object sig left) asserted t g s' h k = fired-sound sys object sig left asserted t g s' (went-on (ring_of sys object) object sig left t s' h) k
tick-sound sys Vain asserted t g s' h k = absurd (cc)
