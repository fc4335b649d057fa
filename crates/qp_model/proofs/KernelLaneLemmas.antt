-- What the reading of the kernel lane keeps, record by record.
use Rattle.std.proofs.Common.{◌≡◌, ℕ, ◌+◌, ◌<◌, ◌≤◌, ◌==◌, nat_lt, Bool, true, false, not, ◌&&◌, cond, List, [], ◌∷◌, ◌++◌, map, reverse, drop, refl, sym, ◌∙◌, ap, subst, Some, None, append_assoc, append-nil, arith}
use Rattle.std.specs.Prelude.{⊤}
use Rattle.std.specs.declared.option.Option.{Option}
use Rattle.std.specs.Option.{option_and_then}
use Rattle.std.specs.List.{AllByRecursion, filter}
use Rattle.std.proofs.lemmas.Bool.{and_parts}
use Rattle.std.proofs.lemmas.Bool.Decides.{nat_tests}
use Rattle.std.proofs.lemmas.List.{reverse-append}
use Rattle.qp_model.specs.declared.systems.ObjectDef.{ObjectDef}
use Rattle.qp_model.specs.declared.systems.System.{System}
use Rattle.qp_model.specs.declared.bodies.Body.{Body}
use Rattle.qp_model.specs.declared.bodies.Body.TheVariants as body
use Rattle.qp_model.specs.Record.{Item}
use Rattle.qp_model.specs.KernelLane.{Role, Looks, Sees, Takes, Ends, Rests, Holds, Drops, RunsOut, Spills, Acts, role_of, under_way_after, ceiling_of, Setting, floor_in, above, Upcoming, Inside, Looking, Chosen, Ended, Resting, Again, Over, Halted, Reading, base_ended, found_none, looking_at, look_next, seen_next, own_next, inside_next, found_next, ended_next, rest_next, place_next, start_next, started_next, role_next, lane_next, lane_on, unread, lane_read}
use Rattle.qp_model.specs.Kernels.{qk, qv}
use Rattle.qp_model.specs.KernelLaws.{under_way, ceiling_on, floor_after, IsEmptyLook, EndsInLook, StepsBeginAbove, StepsStandAlone, SeesEach, RestsWhereAllAreEmpty}
use Rattle.qp_model.proofs.NumberLemmas.{every, every-append}

pub granted : {A : Type 0} (b : Bool) (x y : A) → cond b (Some x) None ≡ Some y → (b ≡ true) × (x ≡ y)
granted true x y h = (refl, cc)
granted false x y h = absurd (cc)

under_way-append : (running : List ℕ) (xs ys : List Item) → under_way running (xs ++ ys) ≡ under_way (under_way running xs) ys
unfolding under_way
under_way-append running [] ys = refl
under_way-append running (x ∷ xs) ys = under_way-append (under_way_after running x.of (role_of x.body)) xs ys

ceiling_on-append : (c : ℕ) (xs ys : List Item) → ceiling_on c (xs ++ ys) ≡ ceiling_on (ceiling_on c xs) ys
unfolding ceiling_on
ceiling_on-append c [] ys = refl
ceiling_on-append c (x ∷ xs) ys = ceiling_on-append (ceiling_of c (role_of x.body)) xs ys

-- one record more
under_way-snoc : (before : List Item) (i : Item) (r : Role) → role_of i.body ≡ r → under_way [] (before ++ i ∷ []) ≡ under_way_after (under_way [] before) i.of r
unfolding under_way
under_way-snoc before i r is = under_way-append [] before (i ∷ []) ∙ ap (λ x. under_way_after (under_way [] before) i.of x) is

ceiling_on-snoc : (before : List Item) (i : Item) (r : Role) → role_of i.body ≡ r → ceiling_on 0 (before ++ i ∷ []) ≡ ceiling_of (ceiling_on 0 before) r
unfolding ceiling_on
ceiling_on-snoc before i r is = ceiling_on-append 0 before (i ∷ []) ∙ ap (λ x. ceiling_of (ceiling_on 0 before) x) is

-- a record by its part
pub Looks-is : (b : Body) (n floor : ℕ) → role_of b ≡ Looks n floor → b ≡ body.Look n floor
unfolding role_of
Looks-is (body.Look k x) n floor e = cc
Looks-is _ n floor e = absurd (cc)

pub Sees-is : (b : Body) (q f l m : ℕ) → role_of b ≡ Sees q f l m → b ≡ body.Seen q f l m
unfolding role_of
Sees-is (body.Seen p g h n) q f l m e = cc
Sees-is _ q f l m e = absurd (cc)

item-is : (i : Item) (b : Body) → (i.of == 0) ≡ true → i.body ≡ b → i ≡ record { of = 0; body = b }
item-is i b zero is = let none : i.of ≡ 0 = grind (arith, nat_tests) in rw (sym none, sym is) refl

-- a number above the floor, and at most what every object's priority is at most
pub record IsAbove (ds : List ObjectDef) (floor p : ℕ) : Type 0 where
  pub higher : floor < p
  pub limited : (n : ℕ) → AllByRecursion (λ d. d.priority ≤ n) ds → p ≤ n

pub AllByRecursion-reverse : {A : Type 0} (P : A → Type 0) (xs : List A) → AllByRecursion P xs → AllByRecursion P (reverse xs)
AllByRecursion-reverse P [] h = tt
AllByRecursion-reverse P (x ∷ xs) h =
    let e : reverse (x ∷ xs) ≡ reverse xs ++ x ∷ [] = reverse-append (x ∷ []) xs in
    rw e (every-append P (reverse xs) (x ∷ []) (AllByRecursion-reverse P xs h.1) (h.0, tt))

wider : (d : ObjectDef) (ds : List ObjectDef) (floor p : ℕ) → IsAbove ds floor p → IsAbove (d ∷ ds) floor p
wider d ds floor p h = record { higher = h.higher; limited = λ n all. h.limited n all.1 }

higher_ones : (ds : List ObjectDef) (floor : ℕ) → AllByRecursion (IsAbove ds floor) (map (λ d. d.priority) (filter (λ d. nat_lt floor d.priority) ds))
higher_ones [] floor = tt
higher_ones (d ∷ ds) floor =
    go (nat_lt floor d.priority) refl (every (IsAbove ds floor) (IsAbove (d ∷ ds) floor) (wider d ds floor) _ (higher_ones ds floor))
  where
    go : (b : Bool) → nat_lt floor d.priority ≡ b
        → AllByRecursion (IsAbove (d ∷ ds) floor) (map (λ x. x.priority) (filter (λ x. nat_lt floor x.priority) ds))
        → AllByRecursion (IsAbove (d ∷ ds) floor) (map (λ x. x.priority) (cond b (d ∷ filter (λ x. nat_lt floor x.priority) ds) (filter (λ x. nat_lt floor x.priority) ds)))
    go true e rest = (record { higher = grind (arith, nat_tests); limited = λ n all. all.0 }, rest)
    go false e rest = rest

above_ones : (sys : System) (floor : ℕ) → AllByRecursion (IsAbove sys.objects floor) (above sys floor)
unfolding above
above_ones sys floor = AllByRecursion-reverse (IsAbove sys.objects floor) _ (higher_ones sys.objects floor)

-- the look under way, its `seen` so far showing no entry
pub record HasLooked (sys : System) (floor : ℕ) (before : List Item) (rest : List ℕ) : Type 0 where
  pub front : List Item
  pub empties : List Item
  pub n : ℕ
  pub stands : before ≡ front ++ record { of = 0; body = body.Look n floor } ∷ empties
  pub none : AllByRecursion IsEmptyLook empties
  -- the objects seen so far; the rest are those to be seen
  pub objects : List ℕ
  pub saw : SeesEach objects empties
  pub all : objects ++ rest ≡ above sys floor

abbrev pub PlaceIs : System → ℕ → List Item → Upcoming → Type 0
PlaceIs sys floor before (Looking p others) = HasLooked sys floor before (p ∷ others) × AllByRecursion (IsAbove sys.objects floor) (p ∷ others)
PlaceIs sys floor before (Chosen p) = EndsInLook floor before p × IsAbove sys.objects floor p
PlaceIs sys floor before Resting = HasLooked sys 0 before []
PlaceIs sys floor before _ = ⊤

SeesEach-snoc : (ps : List ℕ) (is : List Item) (p f l m : ℕ) → SeesEach ps is → f + l ≤ m → SeesEach (ps ++ p ∷ []) (is ++ record { of = 0; body = body.Seen p f l m } ∷ [])
SeesEach-snoc [] [] p f l m h none = (f, l, m, refl, none, tt)
SeesEach-snoc [] (i ∷ is) p f l m h none = absurd h
SeesEach-snoc (q ∷ ps) [] p f l m h none = absurd h
SeesEach-snoc (q ∷ ps) (i ∷ is) p f l m (a, b, c, at, empty, rest) none = (a, b, c, at, empty, SeesEach-snoc ps is p f l m rest none)

-- no step is under way before all objects have started
abbrev pub Starts : List ℕ → List ℕ → Upcoming → Type 0
Starts [] running place = ⊤
Starts (o ∷ others) running place = (running ≡ []) × (place ≡ Inside)

-- what the reading says of the records read
pub record IsRead (s : Setting) (before : List Item) (k : Reading) : Type 0 where
  pub running : under_way [] before ≡ k.running
  pub ceiling : ceiling_on 0 before ≡ k.ceiling
  pub starts : Starts k.unstarted k.running k.place
  pub place : PlaceIs s.sys (floor_in s.sys s.kernel k.running k.ceiling) before k.place

looked_at : (s : Setting) (before : List Item) (k : Reading) (ps : List ℕ) → under_way [] before ≡ k.running → ceiling_on 0 before ≡ k.ceiling → k.unstarted ≡ []
    → HasLooked s.sys (floor_in s.sys s.kernel k.running k.ceiling) before ps
    → AllByRecursion (IsAbove s.sys.objects (floor_in s.sys s.kernel k.running k.ceiling)) ps → IsRead s before (looking_at s k ps)
unfolding floor_in
looked_at s before k (p ∷ others) running ceiling none looked higher =
    record { running = running; ceiling = ceiling; starts = rw none tt; place = (looked, higher) }
looked_at s before k [] running ceiling none looked higher = ends k.running refl
  where
    over : IsRead s before (base_ended s k)
    over = go (not (s.kernel == qk) && s.has_stimulus k.looks)
      where
        go : (b : Bool) → IsRead s before (cond b (record k { place = Again }) (record k { place = Over; idle = cond k.stepped k.idle (k.idle + 1); stepped = false }))
        go true = record { running = running; ceiling = ceiling; starts = rw none tt; place = tt }
        go false = record { running = running; ceiling = ceiling; starts = rw none tt; place = tt }

    ends : (os : List ℕ) → k.running ≡ os → IsRead s before (found_none s k os)
    ends (o ∷ outer) e = record { running = running; ceiling = ceiling; starts = rw none tt; place = tt }
    ends [] e = rests (s.kernel == qv)
      where
        level : floor_in s.sys s.kernel k.running k.ceiling ≡ 0
        level = rw e refl

        rests : (b : Bool) → IsRead s before (cond b (record k { place = Resting }) (base_ended s k))
        rests true = record { running = running; ceiling = ceiling; starts = rw none tt; place = subst (λ floor. HasLooked s.sys floor before []) level looked }
        rests false = over

-- a look, its `seen` and a step begun, one after another
module _ (s : Setting) (before : List Item) (i : Item) where
  -- a record that leaves the steps under way and the ceiling as they are
  stays : (k next : Reading) (r : Role) → role_of i.body ≡ r → IsRead s before k → under_way_after (under_way [] before) i.of r ≡ under_way [] before → ceiling_of (ceiling_on 0 before) r ≡ ceiling_on 0 before
      → (under_way [] (before ++ i ∷ []) ≡ k.running) × (ceiling_on 0 (before ++ i ∷ []) ≡ k.ceiling)
  stays k next r is h same level = (under_way-snoc before i r is ∙ same ∙ h.running, ceiling_on-snoc before i r is ∙ level ∙ h.ceiling)

  look_reads : (k next : Reading) (r : Role) → role_of i.body ≡ r → IsRead s before k → k.unstarted ≡ [] → look_next s k i.of r ≡ Some next → IsRead s (before ++ i ∷ []) next
  unfolding look_next
  look_reads k next (Looks n floor) is h none e =
      let ok = granted _ _ next e in
      let t1 = and_parts ((i.of == 0) && (n == k.looks + 1)) (floor == floor_in s.sys s.kernel k.running k.ceiling) ok.0 in
      let zero = (and_parts (i.of == 0) (n == k.looks + 1) t1.0).0 in
      let level : floor ≡ floor_in s.sys s.kernel k.running k.ceiling = grind (arith, nat_tests, t1.1) in
      let kept = stays k next (Looks n floor) is h refl refl in
      let look : i ≡ record { of = 0; body = body.Look n floor } = item-is i (body.Look n floor) zero (Looks-is i.body n floor is) in
      subst (IsRead s (before ++ i ∷ [])) ok.1
      (looked_at s (before ++ i ∷ []) (record k { looks = n }) (above s.sys floor) kept.0 kept.1 none
      (record { front = before; empties = []; n = n; stands = rw (sym level) (ap (λ x. before ++ x ∷ []) look); none = tt; objects = []; saw = tt; all = ap (λ x. above s.sys x) level })
      (rw (sym level) (above_ones s.sys floor)))
  look_reads k next _ is h none e = absurd (cc)

  seen_reads : (k next : Reading) (p : ℕ) (others : List ℕ) (r : Role) → role_of i.body ≡ r → IsRead s before k → k.unstarted ≡ []
      → PlaceIs s.sys (floor_in s.sys s.kernel k.running k.ceiling) before (Looking p others)
      → seen_next s k p others i.of r ≡ Some next → IsRead s (before ++ i ∷ []) next
  unfolding EndsInLook
  seen_reads k next p others (Sees q f l m) is h none there e =
      let ok = granted _ _ next e in
      let t1 = and_parts (i.of == 0) (q == p) ok.0 in
      let same : q ≡ p = grind (arith, nat_tests, t1.1) in
      let kept = stays k next (Sees q f l m) is h refl refl in
      let seen : i ≡ record { of = 0; body = body.Seen p f l m } = item-is i (body.Seen p f l m) t1.0 (Sees-is i.body q f l m is ∙ ap (λ x. body.Seen x f l m) same) in
      let looked = there.0 in
      let stands : before ++ i ∷ [] ≡ looked.front ++ record { of = 0; body = body.Look looked.n (floor_in s.sys s.kernel k.running k.ceiling) } ∷ looked.empties ++ record { of = 0; body = body.Seen p f l m } ∷ [] =
      ap (λ x. x ++ i ∷ []) looked.stands
      ∙ ap (λ x. looked.front ++ record { of = 0; body = body.Look looked.n (floor_in s.sys s.kernel k.running k.ceiling) } ∷ looked.empties ++ x ∷ []) seen in
      go (nat_lt m (f + l)) refl ok.1 looked seen stands kept
    where
      go : (b : Bool) → nat_lt m (f + l) ≡ b → cond b (record k { place = Chosen p }) (looking_at s k others) ≡ next
          → (looked : HasLooked s.sys (floor_in s.sys s.kernel k.running k.ceiling) before (p ∷ others)) → i ≡ record { of = 0; body = body.Seen p f l m }
          → before ++ i ∷ [] ≡ looked.front ++ record { of = 0; body = body.Look looked.n (floor_in s.sys s.kernel k.running k.ceiling) } ∷ looked.empties ++ record { of = 0; body = body.Seen p f l m } ∷ []
          → (under_way [] (before ++ i ∷ []) ≡ k.running) × (ceiling_on 0 (before ++ i ∷ []) ≡ k.ceiling)
          → IsRead s (before ++ i ∷ []) next
      go true test was looked seen stands kept =
          subst (IsRead s (before ++ i ∷ [])) was
          (record { running = kept.0; ceiling = kept.1; starts = rw none tt; place = ((looked.front, looked.empties, looked.n, f, l, m, stands, looked.none, grind (arith, nat_tests, test)), there.1.0) })
      go false test was looked seen stands kept =
          subst (IsRead s (before ++ i ∷ [])) was
          (looked_at s (before ++ i ∷ []) k others kept.0 kept.1 none
          (record {
            front = looked.front;
            empties = looked.empties ++ record { of = 0; body = body.Seen p f l m } ∷ [];
            n = looked.n;
            stands = stands ∙ append_assoc looked.front (record { of = 0; body = body.Look looked.n (floor_in s.sys s.kernel k.running k.ceiling) } ∷ looked.empties) (record { of = 0; body = body.Seen p f l m } ∷ []);
            none = every-append IsEmptyLook looked.empties (record { of = 0; body = body.Seen p f l m } ∷ []) looked.none ((p, f, l, m, refl, grind (arith, nat_tests, test)), tt);
            objects = looked.objects ++ p ∷ [];
            saw = SeesEach-snoc looked.objects looked.empties p f l m looked.saw (grind (arith, nat_tests, test));
            all = append_assoc looked.objects (p ∷ []) others ∙ looked.all;
          })
          there.1.1)
  seen_reads k next p others _ is h none there e = absurd (cc)

  -- a record that changes neither the steps under way nor the ceiling, and leaves the reading in its place
  read_on : (k : Reading) (r : Role) → role_of i.body ≡ r → IsRead s before k
      → under_way_after (under_way [] before) i.of r ≡ under_way [] before → ceiling_of (ceiling_on 0 before) r ≡ ceiling_on 0 before
      → PlaceIs s.sys (floor_in s.sys s.kernel k.running k.ceiling) (before ++ i ∷ []) k.place → IsRead s (before ++ i ∷ []) k
  read_on k r is h same level there =
      let kept = stays k k r is h same level in
      record { running = kept.0; ceiling = kept.1; starts = h.starts; place = there }

  -- a new ceiling
  held : (k : Reading) (c : ℕ) → role_of i.body ≡ Holds c → IsRead s before k → k.place ≡ Inside → IsRead s (before ++ i ∷ []) (record k { ceiling = c })
  held k c is h inside = record {
    running = under_way-snoc before i (Holds c) is ∙ h.running;
    ceiling = ceiling_on-snoc before i (Holds c) is;
    starts = h.starts;
    place = rw inside tt;
  }

  own_reads : (k next : Reading) (p : ℕ) (outer : List ℕ) (r : Role) → role_of i.body ≡ r → IsRead s before k → k.unstarted ≡ [] → k.running ≡ p ∷ outer → k.place ≡ Inside
      → own_next k p outer r ≡ Some next → IsRead s (before ++ i ∷ []) next
  own_reads k next p outer Ends is h none runs inside e =
      let to : record k { running = outer; place = Ended p } ≡ next = cc in
      subst (IsRead s (before ++ i ∷ [])) to
      (record {
        running = under_way-snoc before i Ends is ∙ ap (λ x. drop 1 x) (h.running ∙ runs);
        ceiling = ceiling_on-snoc before i Ends is ∙ h.ceiling;
        starts = rw none tt;
        place = tt;
      })
  own_reads k next p outer (Holds c) is h none runs inside e = let to : record k { ceiling = c } ≡ next = cc in subst (IsRead s (before ++ i ∷ [])) to (held k c is h inside)
  own_reads k next p outer Drops is h none runs inside e = let to : k ≡ next = cc in subst (IsRead s (before ++ i ∷ [])) to (read_on k Drops is h refl refl (rw inside tt))
  own_reads k next p outer Acts is h none runs inside e = let to : k ≡ next = cc in subst (IsRead s (before ++ i ∷ [])) to (read_on k Acts is h refl refl (rw inside tt))
  own_reads k next p outer _ is h none runs inside e = absurd (cc)

  inside_reads : (k next : Reading) (running : List ℕ) (r : Role) → role_of i.body ≡ r → IsRead s before k → k.unstarted ≡ [] → k.running ≡ running → k.place ≡ Inside
      → inside_next s k running i.of r ≡ Some next → IsRead s (before ++ i ∷ []) next
  unfolding inside_next
  inside_reads k next [] r is h none runs inside e = look_reads k next r is h none e
  inside_reads k next (p ∷ outer) r is h none runs inside e = go (i.of == p) e
    where
      go : (b : Bool) → cond b (own_next k p outer r) (look_next s k i.of r) ≡ Some next → IsRead s (before ++ i ∷ []) next
      go true e = own_reads k next p outer r is h none runs inside e
      go false e = look_reads k next r is h none e

  found_reads : (k next : Reading) (p : ℕ) (r : Role) → role_of i.body ≡ r → IsRead s before k → k.unstarted ≡ [] → k.place ≡ Chosen p
      → found_next k p i.of r ≡ Some next → IsRead s (before ++ i ∷ []) next
  found_reads k next p Takes is h none found e =
      let ok = granted _ _ next e in
      let same : i.of ≡ p = grind (arith, nat_tests, ok.0) in
      subst (IsRead s (before ++ i ∷ [])) ok.1
      (record {
        running = under_way-snoc before i Takes is ∙ ap (λ x. x ∷ under_way [] before) same ∙ ap (λ x. p ∷ x) h.running;
        ceiling = ceiling_on-snoc before i Takes is ∙ h.ceiling;
        starts = rw none tt;
        place = tt;
      })
  found_reads k next p RunsOut is h none found e =
      let ok = granted _ _ next e in
      let kept = stays k next RunsOut is h refl refl in
      subst (IsRead s (before ++ i ∷ [])) ok.1 (record { running = kept.0; ceiling = kept.1; starts = rw none tt; place = tt })
  found_reads k next p _ is h none found e = absurd (cc)

  ended_reads : (k next : Reading) (p : ℕ) (r : Role) → role_of i.body ≡ r → IsRead s before k → k.unstarted ≡ [] → k.place ≡ Ended p
      → ended_next s k p i.of r ≡ Some next → IsRead s (before ++ i ∷ []) next
  unfolding ended_next
  ended_reads k next p Drops is h none ended e =
      let ok = granted _ _ next e in
      subst (IsRead s (before ++ i ∷ [])) ok.1 (read_on k Drops is h refl refl (rw ended tt))
  ended_reads k next p r is h none ended e = look_reads k next r is h none e

  rest_reads : (k next : Reading) (r : Role) → role_of i.body ≡ r → IsRead s before k → k.unstarted ≡ [] → rest_next s k i.of r ≡ Some next → IsRead s (before ++ i ∷ []) next
  rest_reads k next (Rests n) is h none e =
      let ok = granted _ _ next e in
      let kept = stays k next (Rests n) is h refl refl in
      subst (IsRead s (before ++ i ∷ [])) ok.1 (go (not (s.kernel == qk) && s.has_stimulus k.looks) kept)
    where
      go : (b : Bool) → (under_way [] (before ++ i ∷ []) ≡ k.running) × (ceiling_on 0 (before ++ i ∷ []) ≡ k.ceiling)
          → IsRead s (before ++ i ∷ []) (cond b (record k { place = Again }) (record k { place = Over; idle = cond k.stepped k.idle (k.idle + 1); stepped = false }))
      go true kept = record { running = kept.0; ceiling = kept.1; starts = rw none tt; place = tt }
      go false kept = record { running = kept.0; ceiling = kept.1; starts = rw none tt; place = tt }
  rest_reads k next _ is h none e = absurd (cc)

  place_reads : (k next : Reading) (place : Upcoming) (r : Role) → role_of i.body ≡ r → IsRead s before k → k.unstarted ≡ [] → k.place ≡ place
      → place_next s k i.of r place ≡ Some next → IsRead s (before ++ i ∷ []) next
  unfolding place_next
  place_reads k next Inside r is h none there e = inside_reads k next k.running r is h none refl there e
  place_reads k next (Looking p others) r is h none there e =
      seen_reads k next p others r is h none (subst (PlaceIs s.sys (floor_in s.sys s.kernel k.running k.ceiling) before) there h.place) e
  place_reads k next (Chosen p) r is h none there e = found_reads k next p r is h none there e
  place_reads k next (Ended p) r is h none there e = ended_reads k next p r is h none there e
  place_reads k next Resting r is h none there e = rest_reads k next r is h none e
  place_reads k next Again r is h none there e = look_reads k next r is h none e
  place_reads k next Over r is h none there e = go (s.kernel == qk) e
    where
      go : (b : Bool) → cond b (look_next s k i.of r) None ≡ Some next → IsRead s (before ++ i ∷ []) next
      go true e = look_reads k next r is h none e
      go false e = absurd (cc)
  place_reads k next Halted r is h none there e = absurd (cc)

  start_reads : (k next : Reading) (o : ℕ) (others : List ℕ) (r : Role) → role_of i.body ≡ r → IsRead s before k → k.unstarted ≡ o ∷ others
      → start_next k others r ≡ Some next → IsRead s (before ++ i ∷ []) next
  start_reads k next o others r is h first e = go r is e first (subst (λ x. Starts x k.running k.place) first h.starts)
    where
      begins : (us : List ℕ) → k.running ≡ [] → k.place ≡ Inside → Starts us k.running k.place
      begins [] none inside = tt
      begins (x ∷ xs) none inside = (none, inside)

      go : (r : Role) → role_of i.body ≡ r → start_next k others r ≡ Some next → k.unstarted ≡ o ∷ others → (k.running ≡ []) × (k.place ≡ Inside) → IsRead s (before ++ i ∷ []) next
      go Ends is e first (none, inside) =
          let to : record k { unstarted = others } ≡ next = cc in
          subst (IsRead s (before ++ i ∷ [])) to
          (record {
            running = under_way-snoc before i Ends is ∙ ap (λ x. drop 1 x) (h.running ∙ none) ∙ sym none;
            ceiling = ceiling_on-snoc before i Ends is ∙ h.ceiling;
            starts = begins others none inside;
            place = rw inside tt;
          })
      go (Holds c) is e first (none, inside) = let to : record k { ceiling = c } ≡ next = cc in subst (IsRead s (before ++ i ∷ [])) to (held k c is h inside)
      go Drops is e first (none, inside) = let to : k ≡ next = cc in subst (IsRead s (before ++ i ∷ [])) to (read_on k Drops is h refl refl (rw inside tt))
      go Acts is e first (none, inside) = let to : k ≡ next = cc in subst (IsRead s (before ++ i ∷ [])) to (read_on k Acts is h refl refl (rw inside tt))
      go _ is e first ok = absurd (cc)

  started_reads : (k next : Reading) (us : List ℕ) (r : Role) → role_of i.body ≡ r → IsRead s before k → k.unstarted ≡ us
      → started_next s k i.of r us ≡ Some next → IsRead s (before ++ i ∷ []) next
  unfolding started_next
  started_reads k next [] r is h us e = place_reads k next k.place r is h us refl e
  started_reads k next (o ∷ others) r is h us e = go (i.of == o) e
    where
      go : (b : Bool) → cond b (start_next k others r) None ≡ Some next → IsRead s (before ++ i ∷ []) next
      go true e = start_reads k next o others r is h us e
      go false e = absurd (cc)

  role_reads : (k next : Reading) (r : Role) → role_of i.body ≡ r → IsRead s before k → role_next s k i.of r ≡ Some next → IsRead s (before ++ i ∷ []) next
  unfolding role_next
  role_reads k next Spills is h e =
      let ok = granted _ _ next e in
      let kept = stays k next Spills is h refl refl in
      subst (IsRead s (before ++ i ∷ [])) ok.1 (record { running = kept.0; ceiling = kept.1; starts = tt; place = tt })
  role_reads k next r is h e = started_reads k next k.unstarted r is h refl e

  lane_reads : (k next : Reading) → IsRead s before k → lane_next s k i ≡ Some next → IsRead s (before ++ i ∷ []) next
  unfolding lane_next
  lane_reads k next h e = role_reads k next (role_of i.body) refl h e

-- a step that begins was found by a look
takes_found : (s : Setting) (k next : Reading) (o : ℕ) → role_next s k o Takes ≡ Some next → k.place ≡ Chosen o
unfolding role_next started_next place_next inside_next look_next ended_next
takes_found s k next o e = started k.unstarted e
  where
    inside : (running : List ℕ) → inside_next s k running o Takes ≡ Some next → k.place ≡ Chosen o
    inside [] e = absurd (cc)
    inside (p ∷ outer) e = go (o == p) e
      where
        go : (b : Bool) → cond b (own_next k p outer Takes) (look_next s k o Takes) ≡ Some next → k.place ≡ Chosen o
        go true e = absurd (cc)
        go false e = absurd (cc)

    at : (place : Upcoming) → k.place ≡ place → place_next s k o Takes place ≡ Some next → k.place ≡ Chosen o
    at Inside is e = inside k.running e
    at (Chosen p) is e =
        let ok = granted (o == p) (record k { running = p ∷ k.running; place = Inside; stepped = true }) next e in
        let same : o ≡ p = grind (arith, nat_tests, ok.0) in
        is ∙ ap (λ x. Chosen x) (sym same)
    at Over is e = go (s.kernel == qk) e
      where
        go : (b : Bool) → cond b (look_next s k o Takes) None ≡ Some next → k.place ≡ Chosen o
        go true e = absurd (cc)
        go false e = absurd (cc)
    at _ is e = absurd (cc)

    started : (us : List ℕ) → started_next s k o Takes us ≡ Some next → k.place ≡ Chosen o
    started [] e = at k.place refl e
    started (u ∷ others) e = go (o == u) e
      where
        go : (b : Bool) → cond b (start_next k others Takes) None ≡ Some next → k.place ≡ Chosen o
        go true e = absurd (cc)
        go false e = absurd (cc)

-- the place right before a record of a lane that was read on
pub record Middle (s : Setting) (k : Reading) (front : List Item) (i : Item) : Type 0 where
  pub at : Reading
  pub next : Reading
  pub reads : IsRead s front at
  pub goes : lane_next s at i ≡ Some next

middle : (s : Setting) (k last : Reading) (seen before : List Item) (i : Item) (after : List Item) → IsRead s seen k → lane_on s k (before ++ i ∷ after) ≡ Some last
    → Middle s k (seen ++ before) i
unfolding lane_on
middle s k last seen [] i after h e = go (lane_next s k i) refl e
  where
    go : (o : Option Reading) → lane_next s k i ≡ o → option_and_then (λ next. lane_on s next after) o ≡ Some last → Middle s k (seen ++ []) i
    go None is e = absurd (cc)
    go (Some next) is e = record { at = k; next = next; reads = rw (append-nil seen) h; goes = is }
middle s k last seen (x ∷ before) i after h e = go (lane_next s k x) refl e (λ next read on. middle s next last (seen ++ x ∷ []) before i after read on)
  where
    go : (o : Option Reading) → lane_next s k x ≡ o → option_and_then (λ next. lane_on s next (before ++ i ∷ after)) o ≡ Some last
        → ((next : Reading) → IsRead s (seen ++ x ∷ []) next → lane_on s next (before ++ i ∷ after) ≡ Some last → Middle s next ((seen ++ x ∷ []) ++ before) i)
        → Middle s k (seen ++ x ∷ before) i
    go None is e more = absurd (cc)
    go (Some next) is e more =
        let rest = more next (lane_reads s seen x k next h is) e in
        record { at = rest.at; next = rest.next; reads = subst (λ xs. IsRead s xs rest.at) (append_assoc seen (x ∷ []) before) rest.reads; goes = rest.goes }

first_read : (s : Setting) → IsRead s [] (unread s.sys)
unfolding unread under_way ceiling_on
first_read s = record { running = refl; ceiling = refl; starts = begins (map (λ d. d.priority) s.sys.objects); place = tt }
  where
    begins : (us : List ℕ) → Starts us [] Inside
    begins [] = tt
    begins (u ∷ us) = (refl, refl)

-- the steps of a lane that was read begin above the floor
pub steps_begin_above : (s : Setting) (lane : List Item) (last : Reading) → lane_read s lane ≡ Some last → StepsBeginAbove s.sys s.kernel lane
unfolding StepsBeginAbove lane_read lane_next role_of floor_after
steps_begin_above s lane last e before after o f l m entry stands =
    let i : Item = record { of = o; body = body.Took f l m entry } in
    let on : lane_on s (unread s.sys) (before ++ i ∷ after) ≡ Some last = ap (λ xs. lane_on s (unread s.sys) xs) (sym stands) ∙ e in
    let mid : Middle s (unread s.sys) before i = middle s (unread s.sys) last [] before i after (first_read s) on in
    let found : mid.at.place ≡ Chosen o = takes_found s mid.at mid.next o mid.goes in
    let there : PlaceIs s.sys (floor_in s.sys s.kernel mid.at.running mid.at.ceiling) before (Chosen o) = subst (PlaceIs s.sys (floor_in s.sys s.kernel mid.at.running mid.at.ceiling) before) found mid.reads.place in
    let level : floor_in s.sys s.kernel (under_way [] before) (ceiling_on 0 before) ≡ floor_in s.sys s.kernel mid.at.running mid.at.ceiling =
    ap (λ x. floor_in s.sys s.kernel x (ceiling_on 0 before)) mid.reads.running ∙ ap (λ x. floor_in s.sys s.kernel mid.at.running x) mid.reads.ceiling in
    rw level (there.0, there.1.higher)

-- in `qv` no object is above the floor within a step
alone : (sys : System) (kernel : ℕ) (running : List ℕ) (ceiling o : ℕ) → kernel ≡ qv → floor_in sys kernel running ceiling < o → o ≤ 32 → running ≡ []
unfolding floor_in
alone sys kernel [] ceiling o is higher limit = refl
alone sys kernel (p ∷ outer) ceiling o is higher limit =
    let floor : floor_in sys kernel (p ∷ outer) ceiling ≡ 32 = rw is refl in
    absurd (omega (arith, floor, higher, limit))

-- in `qv` none begins within another
pub steps_stand_alone : (s : Setting) (lane : List Item) (last : Reading) → s.kernel ≡ qv → AllByRecursion (λ d. d.priority ≤ 32) s.sys.objects → lane_read s lane ≡ Some last
    → StepsStandAlone lane
unfolding StepsStandAlone lane_read lane_next role_of
steps_stand_alone s lane last kernel limit e before after o f l m entry stands =
    let i : Item = record { of = o; body = body.Took f l m entry } in
    let on : lane_on s (unread s.sys) (before ++ i ∷ after) ≡ Some last = ap (λ xs. lane_on s (unread s.sys) xs) (sym stands) ∙ e in
    let mid : Middle s (unread s.sys) before i = middle s (unread s.sys) last [] before i after (first_read s) on in
    let found : mid.at.place ≡ Chosen o = takes_found s mid.at mid.next o mid.goes in
    let there : PlaceIs s.sys (floor_in s.sys s.kernel mid.at.running mid.at.ceiling) before (Chosen o) = subst (PlaceIs s.sys (floor_in s.sys s.kernel mid.at.running mid.at.ceiling) before) found mid.reads.place in
    mid.reads.running ∙ alone s.sys s.kernel mid.at.running mid.at.ceiling o kernel there.1.higher (there.1.limited 32 limit)

-- the kernel rests only where a look asked it to
rests_found : (s : Setting) (k next : Reading) (o n : ℕ) → role_next s k o (Rests n) ≡ Some next → k.place ≡ Resting
unfolding role_next started_next place_next inside_next look_next ended_next
rests_found s k next o n e = started k.unstarted e
  where
    inside : (running : List ℕ) → inside_next s k running o (Rests n) ≡ Some next → k.place ≡ Resting
    inside [] e = absurd (cc)
    inside (p ∷ outer) e = go (o == p) e
      where
        go : (b : Bool) → cond b (own_next k p outer (Rests n)) (look_next s k o (Rests n)) ≡ Some next → k.place ≡ Resting
        go true e = absurd (cc)
        go false e = absurd (cc)

    at : (place : Upcoming) → k.place ≡ place → place_next s k o (Rests n) place ≡ Some next → k.place ≡ Resting
    at Inside is e = inside k.running e
    at Resting is e = is
    at Over is e = go (s.kernel == qk) e
      where
        go : (b : Bool) → cond b (look_next s k o (Rests n)) None ≡ Some next → k.place ≡ Resting
        go true e = absurd (cc)
        go false e = absurd (cc)
    at _ is e = absurd (cc)

    started : (us : List ℕ) → started_next s k o (Rests n) us ≡ Some next → k.place ≡ Resting
    started [] e = at k.place refl e
    started (u ∷ others) e = go (o == u) e
      where
        go : (b : Bool) → cond b (start_next k others (Rests n)) None ≡ Some next → k.place ≡ Resting
        go true e = absurd (cc)
        go false e = absurd (cc)

pub rests_where_empty : (s : Setting) (lane : List Item) (last : Reading) → lane_read s lane ≡ Some last → RestsWhereAllAreEmpty s.sys lane
unfolding RestsWhereAllAreEmpty lane_read lane_next role_of
rests_where_empty s lane last e before after n stands =
    let i : Item = record { of = 0; body = body.Rest n } in
    let on : lane_on s (unread s.sys) (before ++ i ∷ after) ≡ Some last = ap (λ xs. lane_on s (unread s.sys) xs) (sym stands) ∙ e in
    let mid : Middle s (unread s.sys) before i = middle s (unread s.sys) last [] before i after (first_read s) on in
    let found : mid.at.place ≡ Resting = rests_found s mid.at mid.next 0 n mid.goes in
    let looked : PlaceIs s.sys (floor_in s.sys s.kernel mid.at.running mid.at.ceiling) before Resting = subst (PlaceIs s.sys (floor_in s.sys s.kernel mid.at.running mid.at.ceiling) before) found mid.reads.place in
    (looked.front, looked.empties, looked.n, looked.stands, subst (λ ps. SeesEach ps looked.empties) (sym (append-nil looked.objects) ∙ looked.all) looked.saw)
