-- Which record of lane 0 comes next in a run with one thread: its object and its kind are settled by how far the lane has been read.
use Rattle.std.proofs.Common.{◌≡◌, ◌∙◌, ℕ, ◌+◌, ◌==◌, nat_lt, Bool, true, false, ◌&&◌, ◌||◌, cond, List, [], ◌∷◌, if◌then◌else◌, Some, None, refl, sym, ap, subst, inl, inr, ◌⊎◌, arith}
use Rattle.std.proofs.lemmas.Bool.Decides.{nat_tests}
use Rattle.std.specs.declared.option.Option.{Option}
use Rattle.qp_model.specs.declared.systems.System.{System}
use Rattle.qp_model.specs.declared.bodies.Entry.{Entry}
use Rattle.qp_model.specs.declared.bodies.Body.{Body}
use Rattle.qp_model.specs.declared.bodies.Body.TheVariants as body
use Rattle.qp_model.specs.Record.{Item}
use Rattle.qp_model.specs.Ends.{is_spill}
use Rattle.qp_model.specs.Kernels.{sim, qk, port, qv, has_one_order}
use Rattle.qp_model.specs.KernelLane.{Role, Looks, Sees, Takes, Ends, Rests, Holds, Drops, RunsOut, Spills, Acts, role_of, Setting, floor_in, above, Upcoming, Inside, Looking, Chosen, Ended, Resting, Again, Over, Halted, Reading, base_ended, found_none, looking_at, look_next, seen_next, own_next, inside_next, found_next, ended_next, rest_next, place_next, start_next, started_next, role_next, lane_next}
use Rattle.qp_model_order.specs.Placing.{look_item}
use Rattle.qp_model.proofs.KernelLaneLemmas.{granted, Looks-is, Sees-is}

-- the role of a record of the object whose start or step is under way
abbrev pub IsOwned : Role → Type 0
IsOwned Ends = Unit {0}
IsOwned (Holds c) = Unit {0}
IsOwned Drops = Unit {0}
IsOwned Acts = Unit {0}
IsOwned _ = ⊥

-- where a look may come
abbrev pub MayLook : Upcoming → Type 0
MayLook Inside = Unit {0}
MayLook (Ended p) = Unit {0}
MayLook Again = Unit {0}
MayLook _ = ⊥

-- what a record of the running object leaves: its step is done, or all but the ceiling is as it was
pub data Went (k next : Reading) (p : ℕ) (outer : List ℕ) (r : Role) : Type 0 where
  IsDone : r ≡ Ends → next ≡ record k { running = outer; place = Ended p } → Went k next p outer r
  GoesOn : next.unstarted ≡ k.unstarted → next.running ≡ k.running → next.place ≡ k.place → next.looks ≡ k.looks → Went k next p outer r

-- which record may come next where the lane has been read so far, and what it leaves
pub data Slot (s : Setting) (k next : Reading) (i : Item) : Type 0 where
  Starts : (p : ℕ) (others : List ℕ) → k.unstarted ≡ p ∷ others → i.of ≡ p → IsOwned (role_of i.body)
      → next.running ≡ k.running → next.place ≡ k.place → (next.unstarted ≡ others) ⊎ (next.unstarted ≡ k.unstarted) → next.looks ≡ k.looks → Slot s k next i
  Runs : (p : ℕ) (outer : List ℕ) → k.unstarted ≡ [] → k.place ≡ Inside → k.running ≡ p ∷ outer → i.of ≡ p → IsOwned (role_of i.body) → Went k next p outer (role_of i.body) → Slot s k next i
  Releases : (p : ℕ) → k.unstarted ≡ [] → k.place ≡ Ended p → i.of ≡ p → role_of i.body ≡ Drops → k ≡ next → Slot s k next i
  IsLook : k.unstarted ≡ [] → MayLook k.place → i ≡ look_item (k.looks + 1) (floor_in s.sys s.kernel k.running k.ceiling)
      → looking_at s (record k { looks = k.looks + 1 }) (above s.sys (floor_in s.sys s.kernel k.running k.ceiling)) ≡ next → Slot s k next i
  IsSeen : (p : ℕ) (others : List ℕ) (f l m : ℕ) → k.unstarted ≡ [] → k.place ≡ Looking p others → i ≡ record { of = 0; body = body.Seen p f l m }
      → if nat_lt m (f + l) then record k { place = Chosen p } else looking_at s k others ≡ next → Slot s k next i
  IsTook : (p f l m : ℕ) (e : Entry) → k.unstarted ≡ [] → k.place ≡ Chosen p → i ≡ record { of = p; body = body.Took f l m e }
      → record k { running = p ∷ k.running; place = Inside; stepped = true } ≡ next → Slot s k next i
  IsSpent : (p : ℕ) → k.unstarted ≡ [] → k.place ≡ Chosen p → i ≡ record { of = p; body = body.Spent } → record k { place = Halted } ≡ next → Slot s k next i
  IsRest : k.unstarted ≡ [] → k.place ≡ Resting → i ≡ record { of = 0; body = body.Rest k.looks } → base_ended s k ≡ next → Slot s k next i

takes-is : (b : Body) → role_of b ≡ Takes → (f l m : ℕ) × (e : Entry) × (b ≡ body.Took f l m e)
unfolding role_of
takes-is (body.Took f l m e) h = (f, l, m, e, refl)
takes-is b h = absurd (cc)

spent-is : (b : Body) → role_of b ≡ RunsOut → b ≡ body.Spent
unfolding role_of
spent-is body.Spent h = refl
spent-is b h = absurd (cc)

rests-is : (b : Body) (n : ℕ) → role_of b ≡ Rests n → b ≡ body.Rest n
unfolding role_of
rests-is (body.Rest n) m h = ap (λ r. by r) h
  where
    by : Role → Body
    by (Rests n) = body.Rest n
    by r = body.Rest 0
rests-is b n h = absurd (cc)

spills-is : (b : Body) → role_of b ≡ Spills → is_spill b ≡ true
unfolding role_of
spills-is (body.Spill n) h = refl
spills-is b h = absurd (cc)

-- an item by its parts
pub item-is : (i : Item) (o : ℕ) (b : Body) → i.of ≡ o → i.body ≡ b → i ≡ record { of = o; body = b }
item-is i o b e1 e2 = ap (λ x. record { of = x; body = i.body }) e1 ∙ ap (λ x. record { of = o; body = x }) e2

-- the same, of an option that may be none itself
given-by : {A : Type 0} (b : Bool) (x : Option A) (y : A) → cond b x None ≡ Some y → (b ≡ true) × (x ≡ Some y)
given-by true x y h = (refl, h)
given-by false x y h = absurd (cc)

either-by : {A : Type 0} (b : Bool) (x z : Option A) (y : A) → cond b x z ≡ Some y → ((b ≡ true) × (x ≡ Some y)) ⊎ ((b ≡ false) × (z ≡ Some y))
either-by true x z y h = inl (refl, h)
either-by false x z y h = inr (refl, h)

own-went : (k next : Reading) (p : ℕ) (outer : List ℕ) (r : Role) → own_next k p outer r ≡ Some next → IsOwned r × Went k next p outer r
own-went k next p outer Ends h = let e : next ≡ record k { running = outer; place = Ended p } = cc in (tt, IsDone refl e)
own-went k next p outer (Holds c) h =
    let e : record k { ceiling = c } ≡ next = cc in
    (tt, GoesOn (ap (λ (x : Reading). x.unstarted) (sym e)) (ap (λ (x : Reading). x.running) (sym e)) (ap (λ (x : Reading). x.place) (sym e)) (ap (λ (x : Reading). x.looks) (sym e)))
own-went k next p outer Drops h =
    let e : k ≡ next = cc in
    (tt, GoesOn (ap (λ (x : Reading). x.unstarted) (sym e)) (ap (λ (x : Reading). x.running) (sym e)) (ap (λ (x : Reading). x.place) (sym e)) (ap (λ (x : Reading). x.looks) (sym e)))
own-went k next p outer Acts h =
    let e : k ≡ next = cc in
    (tt, GoesOn (ap (λ (x : Reading). x.unstarted) (sym e)) (ap (λ (x : Reading). x.running) (sym e)) (ap (λ (x : Reading). x.place) (sym e)) (ap (λ (x : Reading). x.looks) (sym e)))
own-went k next p outer r h = absurd (cc)

start-went : (k next : Reading) (others : List ℕ) (r : Role) → start_next k others r ≡ Some next
    → IsOwned r × (next.running ≡ k.running) × (next.place ≡ k.place) × ((next.unstarted ≡ others) ⊎ (next.unstarted ≡ k.unstarted)) × (next.looks ≡ k.looks)
start-went k next others Ends h =
    let e : record k { unstarted = others } ≡ next = cc in
    (tt, ap (λ (x : Reading). x.running) (sym e), ap (λ (x : Reading). x.place) (sym e), inl (ap (λ (x : Reading). x.unstarted) (sym e)), ap (λ (x : Reading). x.looks) (sym e))
start-went k next others (Holds c) h =
    let e : record k { ceiling = c } ≡ next = cc in
    (tt, ap (λ (x : Reading). x.running) (sym e), ap (λ (x : Reading). x.place) (sym e), inr (ap (λ (x : Reading). x.unstarted) (sym e)), ap (λ (x : Reading). x.looks) (sym e))
start-went k next others Drops h =
    let e : k ≡ next = cc in
    (tt, ap (λ (x : Reading). x.running) (sym e), ap (λ (x : Reading). x.place) (sym e), inr (ap (λ (x : Reading). x.unstarted) (sym e)), ap (λ (x : Reading). x.looks) (sym e))
start-went k next others Acts h =
    let e : k ≡ next = cc in
    (tt, ap (λ (x : Reading). x.running) (sym e), ap (λ (x : Reading). x.place) (sym e), inr (ap (λ (x : Reading). x.unstarted) (sym e)), ap (λ (x : Reading). x.looks) (sym e))
start-went k next others r h = absurd (cc)

-- a kernel with one thread is none of the others
pub no-threads : (kernel : ℕ) → has_one_order kernel ≡ true → ((kernel == qk) ≡ false) × ((kernel == port) ≡ false)
no-threads kernel one = by (kernel == sim) refl (kernel == qv) refl one
  where
    by : (b : Bool) → (kernel == sim) ≡ b → (c : Bool) → (kernel == qv) ≡ c → (b || c) ≡ true → ((kernel == qk) ≡ false) × ((kernel == port) ≡ false)
    by true e c f h = let is : kernel ≡ sim = grind (arith, nat_tests) in rw is (refl, refl)
    by false e true f h = let is : kernel ≡ qv = grind (arith, nat_tests) in rw is (refl, refl)
    by false e false f h = absurd (cc)

module _ (s : Setting) (one : has_one_order s.kernel ≡ true) (k next : Reading) (i : Item) where
  look-slot : (r : Role) → role_of i.body ≡ r → k.unstarted ≡ [] → MayLook k.place → look_next s k i.of r ≡ Some next → Slot s k next i
  unfolding look_next
  look-slot (Looks n floor) is none may h =
      let at = granted ((i.of == 0) && (n == k.looks + 1) && (floor == floor_in s.sys s.kernel k.running k.ceiling)) _ _ h in
      let test : ((i.of == 0) && (n == k.looks + 1) && (floor == floor_in s.sys s.kernel k.running k.ceiling)) ≡ true = at.0 in
      let e1 : i.of ≡ 0 = grind (arith, nat_tests) in
      let e2 : n ≡ k.looks + 1 = grind (arith, nat_tests) in
      let e3 : floor ≡ floor_in s.sys s.kernel k.running k.ceiling = grind (arith, nat_tests) in
      let e4 : i.body ≡ body.Look n floor = Looks-is i.body n floor is in
      IsLook none may (item-is i 0 _ e1 (e4 ∙ ap (λ x. body.Look x floor) e2 ∙ ap (λ x. body.Look (k.looks + 1) x) e3))
      (ap (λ x. looking_at s (record k { looks = x }) (above s.sys (floor_in s.sys s.kernel k.running k.ceiling))) (sym e2)
      ∙ ap (λ x. looking_at s (record k { looks = n }) (above s.sys x)) (sym e3) ∙ at.1)
  look-slot r is none may h = absurd (cc)

  seen-slot : (p : ℕ) (others : List ℕ) (r : Role) → role_of i.body ≡ r → k.unstarted ≡ [] → k.place ≡ Looking p others → seen_next s k p others i.of r ≡ Some next → Slot s k next i
  seen-slot p others (Sees q f l m) is none at h =
      let ok = granted ((i.of == 0) && (q == p)) _ _ h in
      let test : ((i.of == 0) && (q == p)) ≡ true = ok.0 in
      let e1 : i.of ≡ 0 = grind (arith, nat_tests) in
      let e2 : q ≡ p = grind (arith, nat_tests) in
      let e3 : i.body ≡ body.Seen q f l m = Sees-is i.body q f l m is in
      IsSeen p others f l m none at (item-is i 0 _ e1 (e3 ∙ ap (λ x. body.Seen x f l m) e2)) ok.1
  seen-slot p others r is none at h = absurd (cc)

  found-slot : (p : ℕ) (r : Role) → role_of i.body ≡ r → k.unstarted ≡ [] → k.place ≡ Chosen p → found_next k p i.of r ≡ Some next → Slot s k next i
  found-slot p Takes is none at h =
      let ok = granted (i.of == p) _ _ h in
      let test : (i.of == p) ≡ true = ok.0 in
      let e1 : i.of ≡ p = grind (arith, nat_tests) in
      let took = takes-is i.body is in
      let e2 : i.body ≡ body.Took took.0 took.1 took.2 took.3 = took.4 in
      IsTook p took.0 took.1 took.2 took.3 none at (item-is i p _ e1 e2) ok.1
  found-slot p RunsOut is none at h =
      let ok = granted (i.of == p) _ _ h in
      let test : (i.of == p) ≡ true = ok.0 in
      let e1 : i.of ≡ p = grind (arith, nat_tests) in
      let e2 : i.body ≡ body.Spent = spent-is i.body is in
      IsSpent p none at (item-is i p _ e1 e2) ok.1
  found-slot p r is none at h = absurd (cc)

  ended-slot : (p : ℕ) (r : Role) → role_of i.body ≡ r → k.unstarted ≡ [] → k.place ≡ Ended p → ended_next s k p i.of r ≡ Some next → Slot s k next i
  unfolding ended_next
  ended-slot p r is none at h = by r is h
    where
      may : MayLook k.place
      may = rw at tt

      by : (r : Role) → role_of i.body ≡ r → ended_next s k p i.of r ≡ Some next → Slot s k next i
      by Drops is h =
          let ok = granted (i.of == p) _ _ h in
          let test : (i.of == p) ≡ true = ok.0 in
          let e1 : i.of ≡ p = grind (arith, nat_tests) in
          Releases p none at e1 is ok.1
      by other is h = look-slot other is none may h

  rest-slot : (r : Role) → role_of i.body ≡ r → k.unstarted ≡ [] → k.place ≡ Resting → rest_next s k i.of r ≡ Some next → Slot s k next i
  rest-slot (Rests n) is none at h =
      let ok = granted ((i.of == 0) && (n == k.looks)) _ _ h in
      let test : ((i.of == 0) && (n == k.looks)) ≡ true = ok.0 in
      let e1 : i.of ≡ 0 = grind (arith, nat_tests) in
      let e2 : n ≡ k.looks = grind (arith, nat_tests) in
      let e3 : i.body ≡ body.Rest n = rests-is i.body n is in
      IsRest none at (item-is i 0 _ e1 (e3 ∙ ap body.Rest e2)) ok.1
  rest-slot r is none at h = absurd (cc)

  place-slot : (r : Role) → role_of i.body ≡ r → k.unstarted ≡ [] → (place : Upcoming) → k.place ≡ place → place_next s k i.of r place ≡ Some next → Slot s k next i
  unfolding place_next inside_next
  place-slot r is none Inside at h = by k.running refl h
    where
      may : MayLook k.place
      may = rw at tt

      by : (os : List ℕ) → k.running ≡ os → inside_next s k os i.of r ≡ Some next → Slot s k next i
      by [] run h = look-slot r is none may h
      by (p ∷ outer) run h = on (either-by (i.of == p) (own_next k p outer r) (look_next s k i.of r) next h)
        where
          on : (((i.of == p) ≡ true) × (own_next k p outer r ≡ Some next)) ⊎ (((i.of == p) ≡ false) × (look_next s k i.of r ≡ Some next)) → Slot s k next i
          on (inl (test, own)) =
              let e1 : i.of ≡ p = grind (arith, nat_tests) in
              let went = own-went k next p outer r own in
              Runs p outer none at run e1 (subst IsOwned (sym is) went.0) (subst (Went k next p outer) (sym is) went.1)
          on (inr (test, look)) = look-slot r is none may look
  place-slot r is none (Looking p others) at h = seen-slot p others r is none at h
  place-slot r is none (Chosen p) at h = found-slot p r is none at h
  place-slot r is none (Ended p) at h = ended-slot p r is none at h
  place-slot r is none Resting at h = rest-slot r is none at h
  place-slot r is none Again at h = look-slot r is none (rw at tt) h
  place-slot r is none Over at h =
      let none : None ≡ Some next = subst (λ b. cond b (look_next s k i.of r) None ≡ Some next) (no-threads s.kernel one).0 h in absurd (cc)
  place-slot r is none Halted at h = absurd (cc)

  started-slot : (r : Role) → role_of i.body ≡ r → started_next s k i.of r k.unstarted ≡ Some next → Slot s k next i
  unfolding started_next
  started-slot r is h = by k.unstarted refl h
    where
      by : (us : List ℕ) → k.unstarted ≡ us → started_next s k i.of r us ≡ Some next → Slot s k next i
      by [] none h = place-slot r is none k.place refl h
      by (p ∷ others) some h =
          let at = given-by (i.of == p) (start_next k others r) next h in
          let test : (i.of == p) ≡ true = at.0 in
          let e1 : i.of ≡ p = grind (arith, nat_tests) in
          let went = start-went k next others r at.1 in
          Starts p others some e1 (subst IsOwned (sym is) went.0) went.1 went.2 went.3 went.4

  pub slot-of : is_spill i.body ≡ false → lane_next s k i ≡ Some next → Slot s k next i
  unfolding lane_next role_next
  slot-of unspilt h = by (role_of i.body) refl h
    where
      by : (r : Role) → role_of i.body ≡ r → role_next s k i.of r ≡ Some next → Slot s k next i
      by Spills is h = absurd (let no : true ≡ false = sym (spills-is i.body is) ∙ unspilt in cc)
      by other is h = started-slot other is h

-- whether looks have stimuli is read only of the look that is under way
module _ (sys : System) (kernel : ℕ) (f g : ℕ → Bool) (k : Reading) where
  abbrev pub first : Setting
  first = record { sys = sys; kernel = kernel; has_stimulus = f }

  abbrev pub second : Setting
  second = record { sys = sys; kernel = kernel; has_stimulus = g }

  none-same : (j : Reading) → f j.looks ≡ g j.looks → (os : List ℕ) → found_none first j os ≡ found_none second j os
  none-same j same [] = rw same refl
  none-same j same (o ∷ outer) = refl

  looking-same : (j : Reading) → f j.looks ≡ g j.looks → (ps : List ℕ) → looking_at first j ps ≡ looking_at second j ps
  looking-same j same [] = none-same j same j.running
  looking-same j same (p ∷ others) = refl

  look-same : (o : ℕ) (r : Role) → ((n floor : ℕ) → r ≡ Looks n floor → f n ≡ g n) → look_next first k o r ≡ look_next second k o r
  unfolding look_next
  look-same o (Looks n floor) new = rw (looking-same (record k { looks = n }) (new n floor refl) (above sys floor)) refl
  look-same o r new = refl

  seen-same : (p : ℕ) (others : List ℕ) (o : ℕ) (r : Role) → f k.looks ≡ g k.looks → seen_next first k p others o r ≡ seen_next second k p others o r
  seen-same p others o (Sees q a b c) same = rw (looking-same k same others) refl
  seen-same p others o r same = refl

  ended-same : (p o : ℕ) (r : Role) → ((n floor : ℕ) → r ≡ Looks n floor → f n ≡ g n) → ended_next first k p o r ≡ ended_next second k p o r
  unfolding ended_next
  ended-same p o Drops new = refl
  ended-same p o other new = look-same o other new

  rest-same : (o : ℕ) (r : Role) → f k.looks ≡ g k.looks → rest_next first k o r ≡ rest_next second k o r
  rest-same o (Rests n) same = rw same refl
  rest-same o r same = refl

  place-same : (o : ℕ) (r : Role) → f k.looks ≡ g k.looks → ((n floor : ℕ) → r ≡ Looks n floor → f n ≡ g n) → (place : Upcoming)
      → place_next first k o r place ≡ place_next second k o r place
  unfolding place_next inside_next
  place-same o r same new Inside = by k.running
    where
      by : (os : List ℕ) → inside_next first k os o r ≡ inside_next second k os o r
      by [] = look-same o r new
      by (p ∷ outer) = rw (look-same o r new) refl
  place-same o r same new (Looking p others) = seen-same p others o r same
  place-same o r same new (Ended p) = ended-same p o r new
  place-same o r same new Resting = rest-same o r same
  place-same o r same new Again = look-same o r new
  place-same o r same new Over = rw (look-same o r new) refl
  place-same o r same new _ = refl

  started-same : (o : ℕ) (r : Role) → f k.looks ≡ g k.looks → ((n floor : ℕ) → r ≡ Looks n floor → f n ≡ g n) → (us : List ℕ)
      → started_next first k o r us ≡ started_next second k o r us
  unfolding started_next
  started-same o r same new [] = place-same o r same new k.place
  started-same o r same new (p ∷ others) = refl

  pub next-same : (i : Item) → f k.looks ≡ g k.looks → ((n floor : ℕ) → i.body ≡ body.Look n floor → f n ≡ g n) → lane_next first k i ≡ lane_next second k i
  unfolding lane_next role_next
  next-same i same new = by (role_of i.body) refl
    where
      look : (r : Role) → role_of i.body ≡ r → (n floor : ℕ) → r ≡ Looks n floor → f n ≡ g n
      look r is n floor e = new n floor (Looks-is i.body n floor (is ∙ e))

      by : (r : Role) → role_of i.body ≡ r → role_next first k i.of r ≡ role_next second k i.of r
      by Spills is = refl
      by other is = started-same i.of other same (look _ is) k.unstarted
