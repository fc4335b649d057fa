-- The lanes of a lawful journal: whose record each is.
use Rattle.std.proofs.Common.{◌≡◌, ℕ, ◌+◌, ◌<◌, ◌==◌, nat_lt, Bool, true, false, not, ◌&&◌, List, [], ◌∷◌, ◌++◌, length, filter, refl, sym, subst, arith, cond, ◌⊎◌, inl, inr, Option, Some, None, ◌-◌, ◌≤◌, suc, ap, IsTrue, zero, ◌||◌, ◌∙◌}
use Rattle.std.specs.List.{AllByRecursion, find, position}
use Rattle.std.specs.Option.{option_and_then, unwrap_or}
use Rattle.std.specs.Prelude.{⊤, is_some, map, slice_get}
use Rattle.std.proofs.lemmas.Bool.{and_parts, eqb-true}
use Rattle.std.proofs.lemmas.Bool.Decides.{nat_tests}
use Rattle.qp_model.specs.declared.systems.System.{System}
use Rattle.qp_model.specs.declared.systems.ObjectDef.{ObjectDef}
use Rattle.qp_model.specs.declared.journals.Journal.{Journal}
use Rattle.qp_model.specs.Record.{Item}
use Rattle.qp_model.specs.Kernels.{port, qk, qv}
use Rattle.qp_model.specs.Home.{home_of, lane_at}
use Rattle.qp_model.specs.KernelLane.{Role, Looks, Sees, Takes, Ends, Rests, Holds, Drops, RunsOut, Spills, Acts, role_of, Setting, Reading, Upcoming, Inside, Looking, Chosen, Ended, Resting, Again, Over, Halted, above, floor_in, base_ended, found_none, looking_at, look_next, seen_next, own_next, inside_next, found_next, ended_next, rest_next, place_next, start_next, started_next, role_next, lane_next, lane_on, lane_read, unread}
use Rattle.qp_model.specs.Laws.{Ascend}
use Rattle.qp_model.proofs.AbleLemmas.{some-same}
use Rattle.qp_model.proofs.KernelLaneLemmas.{granted, AllByRecursion-reverse}
use Rattle.qp_model.proofs.HomeLemmas.{position-front}
use Rattle.qp_model.proofs.ListLemmas.{every-behind}
use Rattle.qp_model.specs.declared.stimulus.Stim.{Stim}
use Rattle.qp_model.specs.declared.record.Rec.{Rec}
use Rattle.std.proofs.lemmas.List.{append_assoc, length-append}
use Rattle.qp_model.specs.History.{lane_items}
use Rattle.qp_model.specs.Sources.{IsSourceLane}
use Rattle.qp_model.specs.Lawful.{Lawful, ObjectHolds, SourceLanes, facts_of, lanes_before}
use Rattle.qp_model.specs.Sound.{IsSound}
use Rattle.qp_model.specs.WordLaw.{is_object}
use Rattle.qp_replay.proofs.SourceRecords.{own-objects}
use Rattle.qp_model.specs.HomeLane.{is_home_lane}
use Rattle.qp_model.specs.Ends.{may_cut}

pub all-filter : {A : Type 0} (P : A → Type 0) (f : A → Bool) (xs : List A) → AllByRecursion P xs → AllByRecursion P (filter f xs)
all-filter P f [] h = tt
all-filter P f (x ∷ xs) h = go (f x) (all-filter P f xs h.1)
  where
    go : (b : Bool) → AllByRecursion P (filter f xs) → AllByRecursion P (cond b (x ∷ filter f xs) (filter f xs))
    go true k = (h.0, k)
    go false k = k

-- Lane 0 of a kernel: each record is one of the kernel's own, which names objects of the system, or of such an object. What holds of each
-- object holds of those.
module _ (s : Setting) (Q : ℕ → Type 0) (objects : AllByRecursion Q (map (λ d. d.priority) s.sys.objects)) where
  -- the kernel's own records
  abbrev pub RoleNames : Role → Type 0
  RoleNames (Looks k floor) = ⊤
  RoleNames (Sees p f l m) = Q p
  RoleNames (Rests k) = (s.kernel == qv) ≡ true
  RoleNames Spills = ⊤
  RoleNames _ = ⊥

  -- whose record it is
  abbrev pub Whose : ℕ → Role → Type 0
  Whose o r = ((o ≡ 0) × RoleNames r) ⊎ Q o

  abbrev PlaceNames : Upcoming → Type 0
  PlaceNames (Looking p others) = Q p × AllByRecursion Q others
  PlaceNames (Chosen p) = Q p
  PlaceNames (Ended p) = Q p
  PlaceNames Resting = (s.kernel == qv) ≡ true
  PlaceNames _ = ⊤

  record ReadingNames (k : Reading) : Type 0 where
    unstarted : AllByRecursion Q k.unstarted
    running : AllByRecursion Q k.running
    place : PlaceNames k.place

  above-names : (floor : ℕ) → AllByRecursion Q (above s.sys floor)
  unfolding above
  above-names floor = AllByRecursion-reverse Q _ (kept s.sys.objects objects)
    where
      kept : (ds : List ObjectDef) → AllByRecursion Q (map (λ d. d.priority) ds) → AllByRecursion Q (map (λ d. d.priority) (filter (λ d. nat_lt floor d.priority) ds))
      kept [] h = tt
      kept (d ∷ ds) h = go (nat_lt floor d.priority) (kept ds h.1)
        where
          go : (b : Bool) → AllByRecursion Q (map (λ d. d.priority) (filter (λ d. nat_lt floor d.priority) ds))
              → AllByRecursion Q (map (λ d. d.priority) (cond b (d ∷ filter (λ d. nat_lt floor d.priority) ds) (filter (λ d. nat_lt floor d.priority) ds)))
          go true k = (h.0, k)
          go false k = k

  -- a record that came, and the reading after it
  record Comes (k : Reading) (o : ℕ) (r : Role) : Type 0 where
    names : ReadingNames k
    whose : Whose o r

  base-names : (k : Reading) → ReadingNames k → ReadingNames (base_ended s k)
  base-names k h = go (not (s.kernel == qk) && s.has_stimulus k.looks)
    where
      go : (b : Bool) → ReadingNames (cond b (record k { place = Again }) (record k { place = Over; idle = cond k.stepped k.idle (k.idle + 1); stepped = false }))
      go true = record { unstarted = h.unstarted; running = h.running; place = tt }
      go false = record { unstarted = h.unstarted; running = h.running; place = tt }

  none-names : (k : Reading) (os : List ℕ) → ReadingNames k → ReadingNames (found_none s k os)
  none-names k (o ∷ outer) h = record { unstarted = h.unstarted; running = h.running; place = tt }
  none-names k [] h = go (s.kernel == qv) refl
    where
      go : (b : Bool) → (s.kernel == qv) ≡ b → ReadingNames (cond b (record k { place = Resting }) (base_ended s k))
      go true is = record { unstarted = h.unstarted; running = h.running; place = is }
      go false is = base-names k h

  looking-names : (k : Reading) (ps : List ℕ) → ReadingNames k → AllByRecursion Q ps → ReadingNames (looking_at s k ps)
  looking-names k [] h all = none-names k k.running h
  looking-names k (p ∷ others) h all = record { unstarted = h.unstarted; running = h.running; place = (all.0, all.1) }

  came : (k next : Reading) (o : ℕ) (r : Role) → next ≡ k → ReadingNames next → Whose o r → Comes k o r
  came k next o r is names whose = record { names = subst (ReadingNames) is names; whose = whose }

  look-comes : (k next : Reading) (o : ℕ) (r : Role) → ReadingNames k → look_next s k o r ≡ Some next → Comes next o r
  unfolding look_next
  look-comes k next o (Looks n floor) h is =
      let g = granted ((o == 0) && (n == k.looks + 1) && (floor == floor_in s.sys s.kernel k.running k.ceiling)) _ next is in
      came next _ o (Looks n floor) g.1
      (looking-names (record k { looks = n }) (above s.sys floor) (record { unstarted = h.unstarted; running = h.running; place = h.place }) (above-names floor)) (inl (eqb-true o 0 (and_parts (o == 0) _ (and_parts ((o == 0) && (n == k.looks + 1)) _ g.0).0).0, tt))
  look-comes k next o r h is = absurd (cc)

  seen-comes : (k next : Reading) (p : ℕ) (others : List ℕ) (o : ℕ) (r : Role) → ReadingNames k → Q p → AllByRecursion Q others
      → seen_next s k p others o r ≡ Some next → Comes next o r
  seen-comes k next p others o (Sees q f l m) h object all is =
      let g = granted ((o == 0) && (q == p)) _ next is in
      let test : (q == p) ≡ true = (and_parts (o == 0) (q == p) g.0).1 in
      let same : q ≡ p = grind (arith, nat_tests, test) in
      came next _ o (Sees q f l m) g.1 (by (nat_lt m (f + l))) (inl (eqb-true o 0 (and_parts (o == 0) (q == p) g.0).0, subst Q (sym same) object))
    where
      by : (b : Bool) → ReadingNames (cond b (record k { place = Chosen p }) (looking_at s k others))
      by true = record { unstarted = h.unstarted; running = h.running; place = object }
      by false = looking-names k others h all
  seen-comes k next p others o r h object all is = absurd (cc)

  -- the record is of this object
  abbrev Of : ℕ → ℕ → Type 0
  Of o p = (o == p) ≡ true

  of-object : (o p : ℕ) → Of o p → Q p → Q o
  of-object o p is object = let same : o ≡ p = grind (arith, nat_tests, is) in subst Q (sym same) object

  own-comes : (k next : Reading) (p : ℕ) (outer : List ℕ) (o : ℕ) (r : Role) → ReadingNames k → Q p → AllByRecursion Q outer → PlaceNames k.place → Of o p
      → own_next k p outer r ≡ Some next → Comes next o r
  own-comes k next p outer o Ends h object all place of is =
      came next _ o Ends (some-same is) (record { unstarted = h.unstarted; running = all; place = object }) (inr (of-object o p of object))
  own-comes k next p outer o (Holds c) h object all place of is =
      came next _ o (Holds c) (some-same is) (record { unstarted = h.unstarted; running = h.running; place = place }) (inr (of-object o p of object))
  own-comes k next p outer o Drops h object all place of is = came next k o Drops (some-same is) h (inr (of-object o p of object))
  own-comes k next p outer o Acts h object all place of is = came next k o Acts (some-same is) h (inr (of-object o p of object))
  own-comes k next p outer o r h object all place of is = absurd (cc)

  inside-comes : (k next : Reading) (running : List ℕ) (o : ℕ) (r : Role) → ReadingNames k → AllByRecursion Q running → inside_next s k running o r ≡ Some next → Comes next o r
  unfolding inside_next
  inside-comes k next [] o r h all is = look-comes k next o r h is
  inside-comes k next (p ∷ outer) o r h all is = go (o == p) refl is
    where
      go : (b : Bool) → (o == p) ≡ b → cond b (own_next k p outer r) (look_next s k o r) ≡ Some next → Comes next o r
      go true of is = own-comes k next p outer o r h all.0 all.1 h.place of is
      go false of is = look-comes k next o r h is

  found-comes : (k next : Reading) (p o : ℕ) (r : Role) → ReadingNames k → Q p → found_next k p o r ≡ Some next → Comes next o r
  found-comes k next p o Takes h object is =
      let g = granted (o == p) _ next is in
      came next _ o Takes g.1 (record { unstarted = h.unstarted; running = (object, h.running); place = tt }) (inr (of-object o p g.0 object))
  found-comes k next p o RunsOut h object is =
      let g = granted (o == p) _ next is in
      came next _ o RunsOut g.1 (record { unstarted = h.unstarted; running = h.running; place = tt }) (inr (of-object o p g.0 object))
  found-comes k next p o r h object is = absurd (cc)

  ended-comes : (k next : Reading) (p o : ℕ) (r : Role) → ReadingNames k → Q p → ended_next s k p o r ≡ Some next → Comes next o r
  unfolding ended_next
  ended-comes k next p o Drops h object is = let g = granted (o == p) _ next is in came next k o Drops g.1 h (inr (of-object o p g.0 object))
  ended-comes k next p o r h object is = look-comes k next o r h is

  rest-comes : (k next : Reading) (o : ℕ) (r : Role) → ReadingNames k → (s.kernel == qv) ≡ true → rest_next s k o r ≡ Some next → Comes next o r
  rest-comes k next o (Rests n) h its is = let g = granted ((o == 0) && (n == k.looks)) _ next is in came next _ o (Rests n) g.1 (base-names k h) (inl (eqb-true o 0 (and_parts (o == 0) _ g.0).0, its))
  rest-comes k next o r h its is = absurd (cc)

  place-comes : (k next : Reading) (o : ℕ) (r : Role) (place : Upcoming) → ReadingNames k → PlaceNames place → place_next s k o r place ≡ Some next → Comes next o r
  unfolding place_next
  place-comes k next o r Inside h at is = inside-comes k next k.running o r h h.running is
  place-comes k next o r (Looking p others) h at is = seen-comes k next p others o r h at.0 at.1 is
  place-comes k next o r (Chosen p) h at is = found-comes k next p o r h at is
  place-comes k next o r (Ended p) h at is = ended-comes k next p o r h at is
  place-comes k next o r Resting h at is = rest-comes k next o r h at is
  place-comes k next o r Again h at is = look-comes k next o r h is
  place-comes k next o r Over h at is = go (s.kernel == qk) is
    where
      go : (b : Bool) → cond b (look_next s k o r) None ≡ Some next → Comes next o r
      go true is = look-comes k next o r h is
      go false is = absurd (cc)
  place-comes k next o r Halted h at is = absurd (cc)

  start-comes : (k next : Reading) (p : ℕ) (others : List ℕ) (o : ℕ) (r : Role) → ReadingNames k → Q p → AllByRecursion Q others → Of o p
      → start_next k others r ≡ Some next → Comes next o r
  start-comes k next p others o Ends h object all of is =
      came next _ o Ends (some-same is) (record { unstarted = all; running = h.running; place = h.place }) (inr (of-object o p of object))
  start-comes k next p others o (Holds c) h object all of is =
      came next _ o (Holds c) (some-same is) (record { unstarted = h.unstarted; running = h.running; place = h.place }) (inr (of-object o p of object))
  start-comes k next p others o Drops h object all of is = came next k o Drops (some-same is) h (inr (of-object o p of object))
  start-comes k next p others o Acts h object all of is = came next k o Acts (some-same is) h (inr (of-object o p of object))
  start-comes k next p others o r h object all of is = absurd (cc)

  started-comes : (k next : Reading) (o : ℕ) (r : Role) (unstarted : List ℕ) → ReadingNames k → AllByRecursion Q unstarted → started_next s k o r unstarted ≡ Some next → Comes next o r
  unfolding started_next
  started-comes k next o r [] h all is = place-comes k next o r k.place h h.place is
  started-comes k next o r (p ∷ others) h all is = go (o == p) refl is
    where
      go : (b : Bool) → (o == p) ≡ b → cond b (start_next k others r) None ≡ Some next → Comes next o r
      go true of is = start-comes k next p others o r h all.0 all.1 of is
      go false of is = absurd (cc)

  role-comes : (k next : Reading) (o : ℕ) (r : Role) → ReadingNames k → role_next s k o r ≡ Some next → Comes next o r
  unfolding role_next
  role-comes k next o Spills h is =
      let g = granted (o == 0) _ next is in came next _ o Spills g.1 (record { unstarted = tt; running = h.running; place = tt }) (inl (eqb-true o 0 g.0, tt))
  role-comes k next o r h is = started-comes k next o r k.unstarted h h.unstarted is

  -- each record of the lane is the kernel's own or of an object
  kernel-each : (k end : Reading) (is : List Item) → ReadingNames k → lane_on s k is ≡ Some end → AllByRecursion (λ i. Whose i.of (role_of i.body)) is
  unfolding lane_on lane_next
  kernel-each k end [] h on = tt
  kernel-each k end (i ∷ is) h on = go (role_next s k i.of (role_of i.body)) refl on (λ next names later. kernel-each next end is names later)
    where
      go : (o : Option Reading) → role_next s k i.of (role_of i.body) ≡ o → option_and_then (λ next. lane_on s next is) o ≡ Some end
          → ((next : Reading) → ReadingNames next → lane_on s next is ≡ Some end → AllByRecursion (λ i. Whose i.of (role_of i.body)) is)
          → Whose i.of (role_of i.body) × AllByRecursion (λ i. Whose i.of (role_of i.body)) is
      go None e on more = absurd (cc)
      go (Some next) e on more = let c = role-comes k next i.of (role_of i.body) h e in (c.whose, more next c.names on)

  pub lane-each : (end : Reading) (lane : List Item) → lane_read s lane ≡ Some end → AllByRecursion (λ i. Whose i.of (role_of i.body)) lane
  unfolding lane_read unread
  lane-each end lane h = kernel-each (unread s.sys) end lane (record { unstarted = objects; running = tt; place = tt }) h

-- All records of a lawful journal.

-- an object is the only one of its priority
others-differ : (front : List ObjectDef) (d : ObjectDef) (rest : List ObjectDef) → Ascend (front ++ d ∷ rest) → AllByRecursion (λ x. (x.priority == d.priority) ≡ false) front
others-differ [] d rest h = tt
others-differ (x ∷ xs) d rest h = (let less = (every-behind (λ y. x.priority < y.priority) xs (d ∷ rest) h.1).0 in grind (arith, nat_tests, less), others-differ xs d rest h.2)

-- the home lane of the object behind these, where each has a lane of its own
home-at : (sys : System) (j : Journal) → (j.kernel == port) ≡ true → Ascend sys.objects → (front : List ObjectDef) (d : ObjectDef) (rest : List ObjectDef) → front ++ d ∷ rest ≡ sys.objects
    → home_of sys j d.priority ≡ length front + 1
unfolding home_of
home-at sys j is_port ascend front d rest at =
    let self : (d.priority == d.priority) ≡ true = grind (arith, nat_tests) in
    let apart = others-differ front d rest (subst Ascend (sym at) ascend) in
    let found : position (λ x. x.priority == d.priority) sys.objects ≡ Some (length front) =
    subst (λ xs. position (λ x. x.priority == d.priority) xs ≡ Some (length front)) at (position-front (λ x. x.priority == d.priority) front d rest apart self) in
    rw is_port (rw found refl)

-- the object that is found has the priority, and what each of the list has
pub found-one : (P : ObjectDef → Type 0) (o : ℕ) (ds : List ObjectDef) → AllByRecursion P ds → is_some (find (λ d. d.priority == o) ds) ≡ true
    → (d : ObjectDef) × (find (λ x. x.priority == o) ds ≡ Some d) × (d.priority ≡ o) × P d
found-one P o [] all h = absurd (cc)
found-one P o (x ∷ xs) all h = go (x.priority == o) refl h (found-one P o xs all.1)
  where
    go : (b : Bool) → (x.priority == o) ≡ b → is_some (cond b (Some x) (find (λ d. d.priority == o) xs)) ≡ true
        → (is_some (find (λ d. d.priority == o) xs) ≡ true → (d : ObjectDef) × (find (λ x. x.priority == o) xs ≡ Some d) × (d.priority ≡ o) × P d)
        → (d : ObjectDef) × (cond b (Some x) (find (λ x. x.priority == o) xs) ≡ Some d) × (d.priority ≡ o) × P d
    go true e h more = let is : x.priority ≡ o = grind (arith, nat_tests, e) in (x, refl, is, all.0)
    go false e h more = more h

no-lane : (ls : List (List Rec)) (n : ℕ) → length ls ≤ n → unwrap_or (slice_get ls n) [] ≡ []
no-lane [] n le = refl
no-lane (l ∷ ls) zero le = absurd (omega (arith, le))
no-lane (l ∷ ls) (suc n) le = no-lane ls n (omega (arith, le))

-- What holds of lane 0 of a kernel, of the home lane of each object, of the lane of each source, and of a lane without a record holds of
-- every lane.
module _ (sys : System) (stimuli : List (List Stim)) (j : Journal) (sound : IsSound sys) (lawful : Lawful sys stimuli j) (Q : List Stim → Type 0) (P : List Item → Type 0) where
  pub record Kinds : Type 0 where
    pub empty : P []
    pub kernel : (j.kernel == port) ≡ false → P (lane_items (lane_at j 0))
    pub home : (j.kernel == port) ≡ true → (d : ObjectDef) → IsTrue (is_object sys d.priority) → ObjectHolds sys j d → P (lane_items (lane_at j (home_of sys j d.priority)))
    pub source : (ss : List Stim) (lane : List Item) → Q ss → IsSourceLane (facts_of sys j) j.kernel j.end ss lane → P lane

  module _ (kinds : Kinds) (its : AllByRecursion Q stimuli) where
    abbrev At : ℕ → Type 0
    At n = P (lane_items (lane_at j n))

    sources : (sss : List (List Stim)) (n k : ℕ) → SourceLanes sys j n sss → AllByRecursion Q sss → k < length sss → At (n + k)
    unfolding SourceLanes
    sources [] n k h all less = absurd (omega (arith, less))
    sources (ss ∷ more) n zero h all less = let here : n ≡ n + zero = omega arith in subst At here (kinds.source ss (lane_items (lane_at j n)) all.0 h.0)
    sources (ss ∷ more) n (suc k) h all less = let next : n + 1 + k ≡ n + suc k = omega arith in subst At next (sources more (n + 1) k h.1 all.1 (omega (arith, less)))

    homes : (front ds : List ObjectDef) (k : ℕ) → (j.kernel == port) ≡ true → front ++ ds ≡ sys.objects → AllByRecursion (ObjectHolds sys j) ds → AllByRecursion (λ p. IsTrue (is_object sys p)) (map (λ d. d.priority) ds)
        → k < length ds → At (length front + 1 + k)
    homes front [] k is_port at holds objects less = absurd (omega (arith, less))
    homes front (d ∷ ds) zero is_port at holds objects less =
        let here : length front + 1 ≡ length front + 1 + zero = omega arith in
        subst At (home-at sys j is_port sound.ascend front d ds at ∙ here) (kinds.home is_port d objects.0 holds.0)
    homes front (d ∷ ds) (suc k) is_port at holds objects less =
        let longer : length (front ++ d ∷ []) ≡ length front + 1 = length-append front (d ∷ []) in
        let next : length (front ++ d ∷ []) + 1 + k ≡ length front + 1 + suc k = omega (arith, longer) in
        subst At next (homes (front ++ d ∷ []) ds k is_port (append_assoc front (d ∷ []) ds ∙ at) holds.1 objects.1 (omega (arith, less)))

    count : length j.lanes ≡ lanes_before sys j + length stimuli
    count = grind (arith, nat_tests, lawful.sources.count)

    pub every-lane : (a : ℕ) → At a
    unfolding lane_items
    every-lane a = by_kernel (j.kernel == port) refl
      where
        before : (b : Bool) → (j.kernel == port) ≡ b → lanes_before sys j ≡ cond b (length sys.objects + 1) 1
        before b e = ap (λ x. cond x (length sys.objects + 1) 1) e

        nothing : (l : List Rec) → l ≡ [] → P (lane_items l)
        nothing l none = subst (λ x. P (lane_items x)) (sym none) kinds.empty

        lane-zero : (b : Bool) → b ≡ true → (l : List Rec) → (not b || (length l == 0)) ≡ true → l ≡ []
        lane-zero b e [] h = refl
        lane-zero true e (x ∷ xs) h = let none : length (x ∷ xs) ≡ 0 = grind (arith, nat_tests, h) in absurd (omega (arith, none))
        lane-zero false e (x ∷ xs) h = absurd (cc)

        behind : (n : ℕ) → lanes_before sys j ≡ n → n ≤ a → (within : Bool) → nat_lt a (length j.lanes) ≡ within → At a
        behind n is low true e =
            let high : a < length j.lanes = grind (arith, nat_tests, e) in
            let same : n + (a - n) ≡ a = omega (arith, low) in
            subst At same (sources stimuli n (a - n) (subst (λ m. SourceLanes sys j m stimuli) is lawful.sources.lanes) its (omega (arith, count, is, low, high)))
        behind n is low false e = let le : length j.lanes ≤ a = grind (arith, nat_tests, e) in nothing (lane_at j a) (no-lane j.lanes a le)

        at_home_of : (j.kernel == port) ≡ true → (n : ℕ) → a ≡ suc n → (within : Bool) → nat_lt n (length sys.objects) ≡ within → At a
        at_home_of e n is true w =
            let less : n < length sys.objects = grind (arith, nat_tests, w) in
            let same : length {A = ObjectDef} [] + 1 + n ≡ a = omega (arith, is) in
            subst At same (homes [] sys.objects n e refl lawful.objects (own-objects sys) less)
        at_home_of e n is false w =
            let le : length sys.objects ≤ n = grind (arith, nat_tests, w) in
            behind (length sys.objects + 1) (before true e) (omega (arith, is, le)) (nat_lt a (length j.lanes)) refl

        from : (b : Bool) → (j.kernel == port) ≡ b → (n : ℕ) → a ≡ n → At a
        from false e zero is = subst At (sym is) (kinds.kernel e)
        from false e (suc n) is = behind 1 (before false e) (omega (arith, is)) (nat_lt a (length j.lanes)) refl
        from true e zero is = nothing (lane_at j a) (ap (lane_at j) is ∙ lane-zero (j.kernel == port) e (lane_at j 0) lawful.sources.empty)
        from true e (suc n) is = at_home_of e n is (nat_lt n (length sys.objects)) refl

        by_kernel : (b : Bool) → (j.kernel == port) ≡ b → At a
        by_kernel b e = from b e a refl

-- the home lane of an object is one where each has a thread
pub home-lane : (sys : System) (j : Journal) (d : ObjectDef) → (j.kernel == port) ≡ true → ObjectHolds sys j d
    → is_home_lane d.priority j.budget (may_cut j.end) (lane_items (lane_at j (home_of sys j d.priority))) ≡ true
home-lane sys j d is_port holds = there (j.kernel == port) is_port holds.shapes.home
  where
    there : (b : Bool) → b ≡ true → (not b || is_home_lane d.priority j.budget (may_cut j.end) (lane_items (lane_at j (home_of sys j d.priority)))) ≡ true
        → is_home_lane d.priority j.budget (may_cut j.end) (lane_items (lane_at j (home_of sys j d.priority))) ≡ true
    there true e h = h
    there false e h = absurd (cc)
