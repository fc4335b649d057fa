-- The ceiling that a reading of lane 0 has is that of the records read.
use Rattle.std.proofs.Common.{◌≡◌, ℕ, ◌+◌, ◌==◌, nat_lt, Bool, true, false, not, ◌&&◌, cond, List, [], ◌∷◌, refl, sym, ◌∙◌, ap, Some, None}
use Rattle.qp_model.specs.declared.bodies.Body.{Body}
use Rattle.qp_model.specs.declared.bodies.Body.TheVariants as body
use Rattle.qp_model.specs.Record.{Item}
use Rattle.qp_model.specs.Kernels.{qk, qv}
use Rattle.qp_model.specs.Knowing.{ceiling_after}
use Rattle.qp_model.specs.KernelLane.{Role, Looks, Sees, Takes, Ends, Rests, Holds, Drops, RunsOut, Spills, Acts, role_of, ceiling_of, Setting, floor_in, above, Upcoming, Inside, Looking, Chosen, Ended, Resting, Again, Over, Halted, Reading, base_ended, found_none, looking_at, look_next, seen_next, own_next, inside_next, found_next, ended_next, rest_next, place_next, start_next, started_next, role_next, lane_next}

pub ceiling-role : (c : ℕ) (b : Body) → ceiling_of c (role_of b) ≡ ceiling_after c b
unfolding role_of
ceiling-role c (body.Lock x) = refl
ceiling-role c _ = refl

looking-ceiling : (s : Setting) (k : Reading) (ps : List ℕ) → (looking_at s k ps).ceiling ≡ k.ceiling
looking-ceiling s k (p ∷ others) = refl
looking-ceiling s k [] = by k.running
  where
    base : (b : Bool) → (cond b (record k { place = Again }) (record k { place = Over; idle = cond k.stepped k.idle (k.idle + 1); stepped = false })).ceiling ≡ k.ceiling
    base true = refl
    base false = refl

    rests : (b : Bool) → (cond b (record k { place = Resting }) (base_ended s k)).ceiling ≡ k.ceiling
    rests true = refl
    rests false = base (not (s.kernel == qk) && s.has_stimulus k.looks)

    by : (os : List ℕ) → (found_none s k os).ceiling ≡ k.ceiling
    by (o ∷ outer) = refl
    by [] = rests (s.kernel == qv)

if-some : {A : Type 0} (b : Bool) (x y : A) → cond b (Some x) None ≡ Some y → x ≡ y
if-some true x y h = cc
if-some false x y h = absurd (cc)

-- a reading that goes on by a record of this role
abbrev Moves : Reading → Role → Reading → Type 0
Moves k r next = next.ceiling ≡ ceiling_of k.ceiling r

module _ (s : Setting) (k next : Reading) (o : ℕ) where
  look-moves : (r : Role) → look_next s k o r ≡ Some next → Moves k r next
  unfolding look_next
  look-moves (Looks n floor) h =
      let is = if-some ((o == 0) && (n == k.looks + 1) && (floor == floor_in s.sys s.kernel k.running k.ceiling)) (looking_at s (record k { looks = n }) (above s.sys floor)) next h in
      ap (λ x. x.ceiling) (sym is) ∙ looking-ceiling s (record k { looks = n }) (above s.sys floor)
  look-moves _ h = absurd (cc)

  seen-moves : (p : ℕ) (others : List ℕ) (r : Role) → seen_next s k p others o r ≡ Some next → Moves k r next
  seen-moves p others (Sees q f l m) h =
      let is = if-some ((o == 0) && (q == p)) (cond (nat_lt m (f + l)) (record k { place = Chosen p }) (looking_at s k others)) next h in
      ap (λ x. x.ceiling) (sym is) ∙ by (nat_lt m (f + l))
    where
      by : (b : Bool) → (cond b (record k { place = Chosen p }) (looking_at s k others)).ceiling ≡ k.ceiling
      by true = refl
      by false = looking-ceiling s k others
  seen-moves p others _ h = absurd (cc)

  own-moves : (p : ℕ) (outer : List ℕ) (r : Role) → own_next k p outer r ≡ Some next → Moves k r next
  own-moves p outer Ends h = let is : record k { running = outer; place = Ended p } ≡ next = cc in ap (λ x. x.ceiling) (sym is)
  own-moves p outer (Holds c) h = let is : record k { ceiling = c } ≡ next = cc in ap (λ x. x.ceiling) (sym is)
  own-moves p outer Drops h = let is : k ≡ next = cc in ap (λ x. x.ceiling) (sym is)
  own-moves p outer Acts h = let is : k ≡ next = cc in ap (λ x. x.ceiling) (sym is)
  own-moves p outer _ h = absurd (cc)

  inside-moves : (running : List ℕ) (r : Role) → inside_next s k running o r ≡ Some next → Moves k r next
  unfolding inside_next
  inside-moves [] r h = look-moves r h
  inside-moves (p ∷ outer) r h = by (o == p) h
    where
      by : (b : Bool) → cond b (own_next k p outer r) (look_next s k o r) ≡ Some next → Moves k r next
      by true h = own-moves p outer r h
      by false h = look-moves r h

  found-moves : (p : ℕ) (r : Role) → found_next k p o r ≡ Some next → Moves k r next
  found-moves p Takes h = ap (λ x. x.ceiling) (sym (if-some (o == p) (record k { running = p ∷ k.running; place = Inside; stepped = true }) next h))
  found-moves p RunsOut h = ap (λ x. x.ceiling) (sym (if-some (o == p) (record k { place = Halted }) next h))
  found-moves p _ h = absurd (cc)

  ended-moves : (p : ℕ) (r : Role) → ended_next s k p o r ≡ Some next → Moves k r next
  unfolding ended_next
  ended-moves p Drops h = ap (λ x. x.ceiling) (sym (if-some (o == p) k next h))
  ended-moves p r h = look-moves r h

  rest-moves : (r : Role) → rest_next s k o r ≡ Some next → Moves k r next
  rest-moves (Rests n) h =
      let is = if-some ((o == 0) && (n == k.looks)) (base_ended s k) next h in
      ap (λ x. x.ceiling) (sym is) ∙ base (not (s.kernel == qk) && s.has_stimulus k.looks)
    where
      base : (b : Bool) → (cond b (record k { place = Again }) (record k { place = Over; idle = cond k.stepped k.idle (k.idle + 1); stepped = false })).ceiling ≡ k.ceiling
      base true = refl
      base false = refl
  rest-moves _ h = absurd (cc)

  place-moves : (r : Role) (place : Upcoming) → place_next s k o r place ≡ Some next → Moves k r next
  unfolding place_next
  place-moves r Inside h = inside-moves k.running r h
  place-moves r (Looking p others) h = seen-moves p others r h
  place-moves r (Chosen p) h = found-moves p r h
  place-moves r (Ended p) h = ended-moves p r h
  place-moves r Resting h = rest-moves r h
  place-moves r Again h = look-moves r h
  place-moves r Over h = by (s.kernel == qk) h
    where
      by : (b : Bool) → cond b (look_next s k o r) None ≡ Some next → Moves k r next
      by true h = look-moves r h
      by false h = absurd (cc)
  place-moves r Halted h = absurd (cc)

  start-moves : (others : List ℕ) (r : Role) → start_next k others r ≡ Some next → Moves k r next
  start-moves others Ends h = let is : record k { unstarted = others } ≡ next = cc in ap (λ x. x.ceiling) (sym is)
  start-moves others (Holds c) h = let is : record k { ceiling = c } ≡ next = cc in ap (λ x. x.ceiling) (sym is)
  start-moves others Drops h = let is : k ≡ next = cc in ap (λ x. x.ceiling) (sym is)
  start-moves others Acts h = let is : k ≡ next = cc in ap (λ x. x.ceiling) (sym is)
  start-moves others _ h = absurd (cc)

  started-moves : (r : Role) (us : List ℕ) → started_next s k o r us ≡ Some next → Moves k r next
  unfolding started_next
  started-moves r [] h = place-moves r k.place h
  started-moves r (p ∷ others) h = by (o == p) h
    where
      by : (b : Bool) → cond b (start_next k others r) None ≡ Some next → Moves k r next
      by true h = start-moves others r h
      by false h = absurd (cc)

  role-moves : (r : Role) → role_next s k o r ≡ Some next → Moves k r next
  unfolding role_next
  role-moves Spills h = ap (λ x. x.ceiling) (sym (if-some (o == 0) (record k { unstarted = []; place = Halted }) next h))
  role-moves r h = started-moves r k.unstarted h

-- a record more moves the ceiling as it says
pub ceiling-next : (s : Setting) (k next : Reading) (i : Item) → lane_next s k i ≡ Some next → next.ceiling ≡ ceiling_after k.ceiling i.body
unfolding lane_next
ceiling-next s k next i h = role-moves s k next i.of (role_of i.body) h ∙ ceiling-role k.ceiling i.body
