-- One record more of a source's lane.
use Rattle.std.proofs.Common.{◌≡◌, ◌∙◌, ℕ, ◌+◌, ◌==◌, Bool, true, false, not, ◌&&◌, cond, List, [], ◌∷◌, ◌++◌, map, Some, None, refl, sym, ap, subst, arith}
use Rattle.std.proofs.lemmas.Bool.{and_parts}
use Rattle.std.proofs.lemmas.Bool.Decides.{nat_tests}
use Rattle.std.proofs.lemmas.List.{map-append}
use Rattle.std.proofs.lemmas.List.Elements.{filter-append}
use Rattle.std.proofs.lemmas.List.Sums.{sum_by-cons}
use Rattle.std.specs.declared.option.Option.{Option}
use Rattle.std.specs.Option.{option_map, is_some}
use Rattle.std.specs.List.{filter, list_all, count_by}
use Rattle.qp_model.specs.declared.stimulus.Stim.{Stim}
use Rattle.qp_model.specs.declared.systems.System.{System}
use Rattle.qp_model.specs.declared.bodies.Body.{Body}
use Rattle.qp_model.specs.declared.bodies.Body.TheVariants as body
use Rattle.qp_model.specs.Record.{Item}
use Rattle.qp_model.specs.Told as told_specs
use Rattle.qp_model.specs.Told.{Told, Known, plain}
use Rattle.qp_model.specs.Knowing.{Facts, told, known_of, records_of, ceiling_after}
use Rattle.qp_model.specs.Kernels.{has_one_order}
use Rattle.qp_model.specs.Sources.{SourceEnd, AfterTry, AtAssert, InStimulus, look_may}
use Rattle.qp_model.specs.OneOrder.{Placed, stim_of, is_stim, begun}
use Rattle.qp_check_ends.specs.Underway.{Underway, underway_begin, underway_next, underway_done}
use Rattle.qp_check_ends.specs.SourceState.{SourceState, Between, Within, source_next, source_after, source_stops, stim_next, stimulus_goes_on}
use Rattle.qp_check_ends.proofs.StimLemmas.{underway-stim}
use Rattle.qp_model_order.specs.Placing.{all_placed}
use Rattle.qp_unique.proofs.LookLemmas.{begins, begun_in}
use Rattle.qp_unique.proofs.AwayLemmas.{done-none, asserted-none, untried}
use Rattle.qp_unique.proofs.Sides.{lane_in}
use Rattle.qp_model.proofs.ListLemmas.{mapped}

-- the records of a lane in the order
pub lane_in-append : (xs ys : List Placed) (j : ℕ) → lane_in (xs ++ ys) j ≡ lane_in xs j ++ lane_in ys j
lane_in-append xs ys j =
    ap (map (λ (x : Placed). x.item)) (filter-append (λ (x : Placed). x.lane == j) xs ys)
    ∙ map-append (λ (x : Placed). x.item) (filter (λ x. x.lane == j) xs) (filter (λ x. x.lane == j) ys)

pub lane_in-own : (i : ℕ) (g : List Item) → lane_in (all_placed i g) i ≡ g
lane_in-own i [] = refl
lane_in-own i (x ∷ g) = let self : (i == i) ≡ true = grind (arith, nat_tests) in rw self (ap (λ ys. x ∷ ys) (lane_in-own i g))

pub lane_in-other : (i j : ℕ) (g : List Item) → (i == j) ≡ false → lane_in (all_placed i g) j ≡ []
lane_in-other i j [] h = refl
lane_in-other i j (x ∷ g) h = rw h (lane_in-other i j g h)

-- what a source has begun, in its lane
pub begun-is : (xs : List Placed) (j : ℕ) → begun xs j ≡ begun_in (lane_in xs j)
unfolding begun
begun-is [] j = refl
begun-is (x ∷ xs) j = sum_by-cons (λ (x : Placed). cond (is_stim x && (x.lane == j)) 1 0) x xs ∙ by (begins x.item) refl (x.lane == j) (begun-is xs j)
  where
    by : (s : Bool) → begins x.item ≡ s → (l : Bool) → count_by (λ (x : Placed). is_stim x && (x.lane == j)) xs ≡ begun_in (lane_in xs j)
        → cond (s && l) 1 0 + count_by (λ (x : Placed). is_stim x && (x.lane == j)) xs ≡ begun_in (map (λ (z : Placed). z.item) (cond l (x ∷ filter (λ z. z.lane == j) xs) (filter (λ z. z.lane == j) xs)))
    by true e true h = rw e (omega (arith, h))
    by true e false h = omega (arith, h)
    by false e true h = rw e (omega (arith, h))
    by false e false h = omega (arith, h)

-- the place of a source's next stimulus
abbrev pub place_of : SourceState → ℕ
place_of (Between k left) = k
place_of (Within u k left) = k

-- a `stim` begins the next stimulus, and no other record begins one
module _ (sys : System) (kernel : ℕ) where
  begun-by : (k : ℕ) (left : List Stim) (p n : ℕ) (next : SourceState) → stim_next sys kernel k left (body.Stim p n) told_specs.Nothing ≡ Some next
      → (p ≡ k) × (u : Underway) × (more : List Stim) × (next ≡ Within u (k + 1) more)
  unfolding stim_next
  begun-by k [] p n next h = absurd (cc)
  begun-by k (s ∷ left) p n next h = by ((p == k) && look_may kernel n) refl h
    where
      by : (b : Bool) → ((p == k) && look_may kernel n) ≡ b → cond b (option_map (λ u. Within u (k + 1) left) (underway_begin sys s)) None ≡ Some next
          → (p ≡ k) × (u : Underway) × (more : List Stim) × (next ≡ Within u (k + 1) more)
      by true test h =
          let x = mapped (λ u. Within u (k + 1) left) (underway_begin sys s) next h in
          let e : p ≡ k = grind (arith, nat_tests) in
          (e, x.0, left, sym x.2)
      by false test h = absurd (cc)

  unbegun : (k : ℕ) (left : List Stim) (b : Body) (known : Known) → stim_of b ≡ None → stim_next sys kernel k left b known ≡ None
  unfolding stim_next
  unbegun k [] b known h = refl
  unbegun k (s ∷ left) (body.Stim i look) told_specs.Nothing h = absurd (cc)
  unbegun k (s ∷ left) b known h = refl

module _ (sys : System) (kernel : ℕ) (w : Facts) (c : ℕ) where
  -- a `stim` is the next
  pub stim-read : (r next : SourceState) (p n : ℕ) → source_next sys kernel r (told w 0 c (body.Stim p n)) ≡ Some next
      → (p ≡ place_of r) × (u : Underway) × (left : List Stim) × (next ≡ Within u (place_of r + 1) left)
      × ((v : Underway) (k : ℕ) (more : List Stim) → r ≡ Within v k more → underway_done v ≡ true)
  unfolding source_next stimulus_goes_on told
  stim-read (Between k left) next p n h =
      let at = begun-by sys kernel k left p n next h in (at.0, at.1, at.2, at.3, λ v j more e. absurd (cc))
  stim-read (Within u k left) next p n h = by (underway_done u) refl (subst (λ o. stimulus_goes_on sys kernel u k left (plain (body.Stim p n)) o ≡ Some next) (underway-stim sys p n kernel u) h)
    where
      same-state : (v : Underway) (j : ℕ) (more : List Stim) → Within u k left ≡ Within v j more → u ≡ v
      same-state v j more e = cc

      by : (b : Bool) → underway_done u ≡ b → cond b (stim_next sys kernel k left (body.Stim p n) told_specs.Nothing) None ≡ Some next
          → (p ≡ k) × (u2 : Underway) × (more : List Stim) × (next ≡ Within u2 (k + 1) more)
          × ((v : Underway) (j : ℕ) (ms : List Stim) → Within u k left ≡ Within v j ms → underway_done v ≡ true)
      by true e h =
          let at = begun-by sys kernel k left p n next h in
          (at.0, at.1, at.2, at.3, λ v j ms is. subst (λ z. underway_done z ≡ true) (same-state v j ms is) e)
      by false e h = absurd (cc)

  -- any other goes on with the stimulus under way
  pub other-read : (r next : SourceState) (b : Body) → stim_of b ≡ None → source_next sys kernel r (told w 0 c b) ≡ Some next
      → (u v : Underway) × (k : ℕ) × (left : List Stim) × (r ≡ Within u k left) × (underway_next sys kernel u (told w 0 c b) ≡ Some v) × (next ≡ Within v k left)
  unfolding source_next stimulus_goes_on told
  other-read (Between k left) next b none h = absurd (let no : None ≡ Some next = sym (unbegun sys kernel k left b (known_of w 0 c b) none) ∙ h in cc)
  other-read (Within u k left) next b none h = by (underway_next sys kernel u (told w 0 c b)) refl h
    where
      by : (o : Option Underway) → underway_next sys kernel u (told w 0 c b) ≡ o → stimulus_goes_on sys kernel u k left (told w 0 c b) o ≡ Some next
          → (u2 v : Underway) × (j : ℕ) × (more : List Stim) × (Within u k left ≡ Within u2 j more) × (underway_next sys kernel u2 (told w 0 c b) ≡ Some v) × (next ≡ Within v j more)
      by (Some v) e h = let is : next ≡ Within v k left = cc in (u, v, k, left, refl, e, is)
      by None e h = on (underway_done u) h
        where
          on : (d : Bool) → cond d (stim_next sys kernel k left b (known_of w 0 c b)) None ≡ Some next
              → (u2 v : Underway) × (j : ℕ) × (more : List Stim) × (Within u k left ≡ Within u2 j more) × (underway_next sys kernel u2 (told w 0 c b) ≡ Some v) × (next ≡ Within v j more)
          on true h = absurd (let no : None ≡ Some next = sym (unbegun sys kernel k left b (known_of w 0 c b) none) ∙ h in cc)
          on false h = absurd (cc)

-- a lane that is read in two parts
pub after-split : (sys : System) (kernel : ℕ) (r end : SourceState) (g h : List Told) → source_after sys kernel (Some r) (g ++ h) ≡ Some end
    → (mid : SourceState) × (source_after sys kernel (Some r) g ≡ Some mid) × (source_after sys kernel (Some mid) h ≡ Some end)
unfolding source_after
after-split sys kernel r end [] h e = (r, refl, e)
after-split sys kernel r end (t ∷ g) h e = by (source_next sys kernel r t) e (λ next more. after-split sys kernel next end g h more)
  where
    none : (ts : List Told) → source_after sys kernel None ts ≡ None
    none [] = refl
    none (x ∷ ts) = refl

    by : (o : Option SourceState) → source_after sys kernel o (g ++ h) ≡ Some end
        → ((next : SourceState) → source_after sys kernel (Some next) (g ++ h) ≡ Some end → (mid : SourceState) × (source_after sys kernel (Some next) g ≡ Some mid) × (source_after sys kernel (Some mid) h ≡ Some end))
        → (mid : SourceState) × (source_after sys kernel o g ≡ Some mid) × (source_after sys kernel (Some mid) h ≡ Some end)
    by None e more = absurd (let no : None ≡ Some end = sym (none (g ++ h)) ∙ e in cc)
    by (Some next) e more = more next e

pub after-first : (sys : System) (kernel : ℕ) (r end : SourceState) (t : Told) (g : List Told) → source_after sys kernel (Some r) (t ∷ g) ≡ Some end
    → (next : SourceState) × (source_next sys kernel r t ≡ Some next) × (source_after sys kernel (Some next) g ≡ Some end)
unfolding source_after
after-first sys kernel r end t g e = by (source_next sys kernel r t) refl e
  where
    none : (ts : List Told) → source_after sys kernel None ts ≡ None
    none [] = refl
    none (x ∷ ts) = refl

    by : (o : Option SourceState) → source_next sys kernel r t ≡ o → source_after sys kernel o g ≡ Some end → (next : SourceState) × (source_next sys kernel r t ≡ Some next) × (source_after sys kernel (Some next) g ≡ Some end)
    by None is e = absurd (let no : None ≡ Some end = sym (none g) ∙ e in cc)
    by (Some next) is e = (next, is, e)

abbrev pub alone : List Item → Type 0
alone l = list_all (λ i. i.of == 0) l ≡ true

pub alone-at : (xs : List Item) (i : Item) (ys : List Item) → alone (xs ++ i ∷ ys) → (i.of ≡ 0) × alone ys
alone-at [] i ys h =
    let parts = and_parts (i.of == 0) (list_all (λ j. j.of == 0) ys) h in
    let test : (i.of == 0) ≡ true = parts.0 in
    let e : i.of ≡ 0 = grind (arith, nat_tests) in
    (e, parts.1)
alone-at (x ∷ xs) i ys h = alone-at xs i ys (and_parts (x.of == 0) (list_all (λ j. j.of == 0) (xs ++ i ∷ ys)) h).1

pub record-first : (w : Facts) (c : ℕ) (i : Item) (is : List Item) → i.of ≡ 0 → records_of w 0 c (i ∷ is) ≡ told w 0 c i.body ∷ records_of w 0 (ceiling_after c i.body) is
unfolding records_of
record-first w c i is of = let test : (i.of == 0) ≡ true = rw of refl in rw test refl

pub no-stim : (b : Body) → is_some (stim_of b) ≡ false → stim_of b ≡ None
no-stim b h = by (stim_of b) refl h
  where
    by : (o : Option (ℕ × ℕ)) → stim_of b ≡ o → is_some o ≡ false → stim_of b ≡ None
    by None e h = e
    by (Some s) e h = absurd (cc)

pub stim-is : (b : Body) (p n : ℕ) → stim_of b ≡ Some (p, n) → b ≡ body.Stim p n
stim-is (body.Stim i k) p n h = ap (λ o. by o) h
  where
    by : Option (ℕ × ℕ) → Body
    by None = body.Stim 0 0
    by (Some s) = body.Stim s.0 s.1
stim-is b p n h = absurd (cc)

pub stim-some : (b : Body) → is_some (stim_of b) ≡ true → (p n : ℕ) × (b ≡ body.Stim p n)
stim-some b h = by (stim_of b) refl h
  where
    by : (o : Option (ℕ × ℕ)) → stim_of b ≡ o → is_some o ≡ true → (p n : ℕ) × (b ≡ body.Stim p n)
    by None e h = absurd (cc)
    by (Some s) e h = (s.0, s.1, stim-is b s.0 s.1 e)

-- the place of the next stimulus is one more than those that have begun
pub place-after : (sys : System) (kernel : ℕ) (w : Facts) (c : ℕ) (r mid : SourceState) (is : List Item) → alone is → source_after sys kernel (Some r) (records_of w 0 c is) ≡ Some mid
    → place_of mid ≡ place_of r + begun_in is
unfolding source_after records_of
place-after sys kernel w c r mid [] own e = let same : r ≡ mid = cc in omega (arith, ap place_of same)
place-after sys kernel w c r mid (i ∷ is) own e =
    let at = alone-at [] i is own in
    let moved = subst (λ ts. source_after sys kernel (Some r) ts ≡ Some mid) (record-first w c i is at.0) e in
    let next = after-first sys kernel r mid (told w 0 c i.body) _ moved in
    let rest : place_of mid ≡ place_of next.0 + begun_in is = place-after sys kernel w (ceiling_after c i.body) next.0 mid is at.1 next.2 in
    by (begins i) refl next.0 next.1 rest
  where
    by : (b : Bool) → begins i ≡ b → (next : SourceState) → source_next sys kernel r (told w 0 c i.body) ≡ Some next → place_of mid ≡ place_of next + begun_in is
        → place_of mid ≡ place_of r + (cond b 1 0 + begun_in is)
    by true first next goes rest =
        let stim = stim-some i.body first in
        let read = stim-read sys kernel w c r next stim.0 stim.1 (subst (λ d. source_next sys kernel r (told w 0 c d) ≡ Some next) stim.2 goes) in
        let place : place_of next ≡ place_of r + 1 = ap place_of read.3 in
        omega (arith, rest, place)
    by false first next goes rest =
        let read = other-read sys kernel w c r next i.body (no-stim i.body first) goes in
        let one : place_of r ≡ read.2 = ap place_of read.4 in
        let two : place_of next ≡ read.2 = ap place_of read.6 in
        omega (arith, rest, one, two)

-- a stimulus under way that may end goes on by nothing
pub stops-none : (sys : System) (kernel : ℕ) (one : has_one_order kernel ≡ true) (u : Underway) (k : ℕ) (left : List Stim) (stop : SourceEnd) (t : Told) → source_stops kernel (Within u k left) stop ≡ true → (stop ≡ InStimulus → ⊥)
    → underway_next sys kernel u t ≡ None
stops-none sys kernel one u k left AfterTry t h not = absurd (untried kernel one u h)
stops-none sys kernel one u k left AtAssert t h not = asserted-none sys kernel u t h
stops-none sys kernel one u k left InStimulus t h not = absurd (not refl)
stops-none sys kernel one u k left _ t h not = done-none sys kernel u t (and_parts (underway_done u) _ h).0
