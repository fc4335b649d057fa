-- In `port` an object takes in its own lane alone.
use Rattle.std.proofs.Common.{◌≡◌, ◌≢◌, ℕ, suc, ◌+◌, ◌<◌, ◌==◌, nat_lt, Bool, true, false, not, ◌&&◌, ◌||◌, cond, List, [], ◌∷◌, ◌++◌, length, drop, refl, sym, ◌∙◌, ap, subst, Some, append_assoc, append-nil, arith, length-append}
use Rattle.std.specs.Option.{unwrap_or, is_some}
use Rattle.std.specs.List.{filter, find, position, prefix_len, slice_get, AllByRecursion}
use Rattle.std.proofs.lemmas.Bool.{and_parts}
use Rattle.std.proofs.lemmas.Bool.Decides.{nat_tests}
use Rattle.std.proofs.lemmas.List.Elements.{filter-append}
use Rattle.qp_model.specs.declared.record.Rec.{Rec}
use Rattle.qp_model.specs.declared.stimulus.Stim.{Stim}
use Rattle.qp_model.specs.declared.systems.ObjectDef.{ObjectDef}
use Rattle.qp_model.specs.declared.systems.System.{System}
use Rattle.qp_model.specs.declared.journals.Journal.{Journal}
use Rattle.qp_model.specs.declared.bodies.Body.{Body}
use Rattle.qp_model.specs.declared.bodies.Body.TheVariants as body
use Rattle.qp_model.specs.Record.{Item}
use Rattle.qp_model.specs.History.{lane_items, all_items}
use Rattle.qp_model.specs.Kernels.{port}
use Rattle.qp_model.specs.Knowing.{Facts}
use Rattle.qp_model.specs.Home.{lane_at, home_of, by_object, own_items, home_records}
use Rattle.qp_model.specs.Ends.{may_cut}
use Rattle.qp_model.specs.HomeLane.{is_at_home, are_at_home, count_taken, is_home_lane}
use Rattle.qp_model.specs.Lawful.{ObjectHolds, SourceLanes}
use Rattle.qp_model.specs.Laws.{Ascend}
use Rattle.qp_model.proofs.TakenLemmas.{is_taking, takes_for, drop-head, none-in-sources}

-- under a kernel the records for an object's shape are its records
pub home_records-kernel : (w : Facts) (j : Journal) (o : ℕ) → (j.kernel == port) ≡ false → home_records w j o ≡ by_object w j o
unfolding home_records by_object own_items
home_records-kernel w j o is = rw is refl

pub prefix-front : {A : Type 0} (p : A → Bool) (front : List A) (d : A) (rest : List A) → AllByRecursion (λ x. p x ≡ false) front → p d ≡ true → prefix_len (λ x. not (p x)) (front ++ d ∷ rest) ≡ length front
prefix-front p [] d rest h here = rw here refl
prefix-front p (x ∷ front) d rest h here =
    let behind : prefix_len (λ y. not (p y)) (front ++ d ∷ rest) ≡ length front = prefix-front p front d rest h.1 here in
    rw h.0 (omega (arith, behind))

pub position-front : {A : Type 0} (p : A → Bool) (front : List A) (d : A) (rest : List A) → AllByRecursion (λ x. p x ≡ false) front → p d ≡ true → position p (front ++ d ∷ rest) ≡ Some (length front)
position-front p front d rest h here =
    let at : prefix_len (λ y. not (p y)) (front ++ d ∷ rest) ≡ length front = prefix-front p front d rest h here in
    let whole : length (front ++ d ∷ rest) ≡ length front + suc (length rest) = length-append front (d ∷ rest) in
    let within : length front < length (front ++ d ∷ rest) = omega (arith, whole) in
    let test : nat_lt (prefix_len (λ y. not (p y)) (front ++ d ∷ rest)) (length (front ++ d ∷ rest)) ≡ true = grind (arith, nat_tests, at, within) in
    rw test (ap (λ n. Some n) at)

-- a list of home lanes takes nothing for another object
at_home-takes : (o p of : ℕ) (spent cut : Bool) (b : Body) → p ≢ o → is_at_home p spent cut of b ≡ true → ((of == o) && is_taking b) ≡ false
at_home-takes o p of spent cut (body.Took f l m e) other h =
    let of_it : of ≡ p = grind (arith, nat_tests, h) in
    let no : (of == o) ≡ false = rw of_it (differs o p other) in
    rw no refl
  where
    differs : (o p : ℕ) → p ≢ o → (p == o) ≡ false
    differs o p other = grind (arith, nat_tests, other)
at_home-takes o p of spent cut _ other h = nothing (of == o)
  where
    nothing : (b : Bool) → (b && false) ≡ false
    nothing true = refl
    nothing false = refl

none-at-home : (o p budget : ℕ) (cuts : Bool) (n : ℕ) (is : List Item) → p ≢ o → are_at_home p budget cuts n is ≡ true → filter (takes_for o) is ≡ []
unfolding are_at_home
none-at-home o p budget cuts n [] other h = refl
none-at-home o p budget cuts n (i ∷ is) other h =
    rw (at_home-takes o p i.of (n == budget) (cuts && (length is == 0)) i.body other (and_parts _ _ h).0)
    (none-at-home o p budget cuts (count_taken n i.body) is other (and_parts _ _ h).1)

none-home : (o p budget : ℕ) (cuts : Bool) (is : List Item) → p ≢ o → is_home_lane p budget cuts is ≡ true → filter (takes_for o) is ≡ []
unfolding is_home_lane
none-home o p budget cuts is other h = none-at-home o p budget cuts 0 is other (and_parts _ _ (and_parts _ _ h).0).0

-- those of the front are below each of these
abbrev pub AreBelow : List ObjectDef → List ObjectDef → Type 0
AreBelow front ds = AllByRecursion (λ d. AllByRecursion (λ x. x.priority < d.priority) front) ds

pub All-snoc : {A : Type 0} (P : A → Type 0) (xs : List A) (y : A) → AllByRecursion P xs → P y → AllByRecursion P (xs ++ y ∷ [])
All-snoc P [] y h k = (k, tt)
All-snoc P (x ∷ xs) y h k = (h.0, All-snoc P xs y h.1 k)

pub below-next : (front : List ObjectDef) (d : ObjectDef) (ds : List ObjectDef) → AreBelow front ds → AllByRecursion (λ x. d.priority < x.priority) ds → AreBelow (front ++ d ∷ []) ds
below-next front d [] h k = tt
below-next front d (e ∷ ds) h k = (All-snoc (λ x. x.priority < e.priority) front d h.0 k.0, below-next front d ds h.1 k.1)

pub differ : (front : List ObjectDef) (o : ℕ) → AllByRecursion (λ x. x.priority < o) front → AllByRecursion (λ x. (x.priority == o) ≡ false) front
differ [] o h = tt
differ (x ∷ front) o h = let less : x.priority < o = h.0 in (grind (arith, nat_tests, less), differ front o h.1)

module _ (sys : System) (j : Journal) (is_port : j.kernel ≡ port) where
  -- the home lane of an object
  home-at : (front : List ObjectDef) (d : ObjectDef) (rest : List ObjectDef) → front ++ d ∷ rest ≡ sys.objects → AllByRecursion (λ x. x.priority < d.priority) front
      → home_of sys j d.priority ≡ length front + 1
  unfolding home_of
  home-at front d rest at below =
      let self : (d.priority == d.priority) ≡ true = grind (arith, nat_tests) in
      let found : position (λ x. x.priority == d.priority) sys.objects ≡ Some (length front) =
      subst (λ xs. position (λ x. x.priority == d.priority) xs ≡ Some (length front)) at
      (position-front (λ x. x.priority == d.priority) front d rest (differ front d.priority below) self) in
      rw is_port (rw found refl)

  module _ (stimuli : List (List Stim)) (sources : SourceLanes sys j (length sys.objects + 1) stimuli) (o : ℕ) (some : 0 < o) where
    -- the next lane is the home lane of the next object
    home-lane : (front : List ObjectDef) (d : ObjectDef) (ds : List ObjectDef) (n : ℕ) (l : List Rec) → front ++ d ∷ ds ≡ sys.objects → n ≡ length front + 1 → lane_at j n ≡ l
        → AllByRecursion (λ x. x.priority < d.priority) front → lane_at j (home_of sys j d.priority) ≡ l
    home-lane front d ds n l at here lane below = ap (lane_at j) (home-at front d ds at below ∙ sym here) ∙ lane

    -- where the object isn't o, its lane takes nothing for o
    lane-takes : (d : ObjectDef) (l : List Rec) → lane_at j (home_of sys j d.priority) ≡ l → d.priority ≢ o → ObjectHolds sys j d → filter (takes_for o) (lane_items l) ≡ []
    lane-takes d l home other holds =
        let asked : (not (j.kernel == port) || is_home_lane d.priority j.budget (may_cut j.end) (lane_items (lane_at j (home_of sys j d.priority)))) ≡ true = holds.shapes.home in
        let there : (not (port == port) || is_home_lane d.priority j.budget (may_cut j.end) (lane_items (lane_at j (home_of sys j d.priority)))) ≡ true =
        subst (λ k. (not (k == port) || is_home_lane d.priority j.budget (may_cut j.end) (lane_items (lane_at j (home_of sys j d.priority)))) ≡ true) is_port asked in
        none-home o d.priority j.budget (may_cut j.end) (lane_items l) other (subst (λ x. is_home_lane d.priority j.budget (may_cut j.end) (lane_items x) ≡ true) home there)

    -- from the lane of the next object on, where none of these is o
    none-in-homes : (front ds : List ObjectDef) (n : ℕ) (ls : List (List Rec)) → front ++ ds ≡ sys.objects → n ≡ length front + 1 → drop n j.lanes ≡ ls
        → length ls ≡ length ds + length stimuli → AreBelow front ds → Ascend ds → AllByRecursion (λ d. d.priority ≢ o) ds → AllByRecursion (ObjectHolds sys j) ds
        → filter (takes_for o) (all_items ls) ≡ []
    unfolding all_items
    none-in-homes front [] n ls at here lanes len below rise others holds =
        let all : length front ≡ length sys.objects = ap length (sym (append-nil front) ∙ at) in
        let behind : length sys.objects + 1 ≡ n = omega (arith, all, here) in
        let shorter : length ls ≡ length stimuli = omega (arith, len) in
        none-in-sources sys j o some ls n stimuli lanes (subst (λ k. SourceLanes sys j k stimuli) behind sources) shorter
    none-in-homes front (d ∷ ds) n [] at here lanes len below rise others holds = absurd (omega (arith, len))
    none-in-homes front (d ∷ ds) n (l ∷ ls) at here lanes len below rise others holds =
        let behind = drop-head n j.lanes l ls lanes in
        let lane : lane_at j n ≡ l = ap (λ x. unwrap_or x []) behind.0 in
        let next : (front ++ d ∷ []) ++ ds ≡ sys.objects = append_assoc front (d ∷ []) ds ∙ at in
        let longer : length (front ++ d ∷ []) ≡ length front + 1 = length-append front (d ∷ []) in
        let count : n + 1 ≡ length (front ++ d ∷ []) + 1 = omega (arith, here, longer) in
        let shorter : length ls ≡ length ds + length stimuli = omega (arith, len) in
        filter-append (takes_for o) (lane_items l) (all_items ls)
        ∙ rw (
          lane-takes d l (home-lane front d ds n l at here lane below.0) others.0 holds.0,
          none-in-homes (front ++ d ∷ []) ds (n + 1) ls next count behind.1 shorter (below-next front d ds below.1 rise.1) rise.2 others.1 holds.1,
        ) refl

    -- the lanes with o's own among them
    pub record Splits (ls : List (List Rec)) : Type 0 where
      pub front : List (List Rec)
      pub lane : List Rec
      pub back : List (List Rec)
      pub parts : ls ≡ front ++ lane ∷ back
      pub home : lane_at j (home_of sys j o) ≡ lane
      pub before : filter (takes_for o) (all_items front) ≡ []
      pub behind : filter (takes_for o) (all_items back) ≡ []

    later-differ : (p : ℕ) (ds : List ObjectDef) → p ≡ o → AllByRecursion (λ x. p < x.priority) ds → AllByRecursion (λ d. d.priority ≢ o) ds
    later-differ p [] is h = tt
    later-differ p (d ∷ ds) is h = let more : p < d.priority = h.0 in ((λ e. absurd (omega (arith, e, is, more))), later-differ p ds is h.1)

    pub split-homes : (front ds : List ObjectDef) (n : ℕ) (ls : List (List Rec)) → front ++ ds ≡ sys.objects → n ≡ length front + 1 → drop n j.lanes ≡ ls
        → length ls ≡ length ds + length stimuli → AreBelow front ds → Ascend ds → AllByRecursion (ObjectHolds sys j) ds
        → is_some (find (λ d. d.priority == o) ds) ≡ true → Splits ls
    unfolding all_items
    split-homes front [] n ls at here lanes len below rise holds found = absurd (cc)
    split-homes front (d ∷ ds) n [] at here lanes len below rise holds found = absurd (omega (arith, len))
    split-homes front (d ∷ ds) n (l ∷ ls) at here lanes len below rise holds found =
        go (d.priority == o) refl found
        (λ is. none-in-homes (front ++ d ∷ []) ds (n + 1) ls next count behind.1 shorter (below-next front d ds below.1 rise.1) rise.2 (later-differ d.priority ds is rise.1) holds.1)
        (λ more. split-homes (front ++ d ∷ []) ds (n + 1) ls next count behind.1 shorter (below-next front d ds below.1 rise.1) rise.2 holds.1 more)
      where
        behind : (slice_get j.lanes n ≡ Some l) × (drop (n + 1) j.lanes ≡ ls)
        behind = drop-head n j.lanes l ls lanes

        lane_is : lane_at j (home_of sys j d.priority) ≡ l
        lane_is = home-lane front d ds n l at here (ap (λ x. unwrap_or x []) behind.0) below.0

        next : (front ++ d ∷ []) ++ ds ≡ sys.objects
        next = append_assoc front (d ∷ []) ds ∙ at

        count : n + 1 ≡ length (front ++ d ∷ []) + 1
        count = let longer : length (front ++ d ∷ []) ≡ length front + 1 = length-append front (d ∷ []) in omega (arith, here, longer)

        shorter : length ls ≡ length ds + length stimuli
        shorter = omega (arith, len)

        go : (b : Bool) → (d.priority == o) ≡ b → is_some (cond b (Some d) (find (λ x. x.priority == o) ds)) ≡ true
            → (d.priority ≡ o → filter (takes_for o) (all_items ls) ≡ []) → (is_some (find (λ x. x.priority == o) ds) ≡ true → Splits ls) → Splits (l ∷ ls)
        go true e found none more =
            let is : d.priority ≡ o = grind (arith, nat_tests, e) in
            record {
              front = [];
              lane = l;
              back = ls;
              parts = refl;
              home = subst (λ x. lane_at j (home_of sys j x) ≡ l) is lane_is;
              before = refl;
              behind = none is;
            }
        go false e found none more =
            let other : d.priority ≢ o = grind (arith, nat_tests, e) in
            let rest = more found in
            record {
              front = l ∷ rest.front;
              lane = rest.lane;
              back = rest.back;
              parts = ap (λ xs. l ∷ xs) rest.parts;
              home = rest.home;
              before = filter-append (takes_for o) (lane_items l) (all_items rest.front) ∙ rw (lane-takes d l lane_is other holds.0, rest.before) refl;
              behind = rest.behind;
            }
