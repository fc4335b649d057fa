-- The event of a block that is given out, until it is given back, by the steps of its pool's operations on it.
use Rattle.std.proofs.Common.{◌≡◌, ℕ, zero, suc, ◌+◌, ◌<◌, ◌≤◌, nat_le, nat_lt, Bool, true, false, cond, List, [], ◌∷◌, ◌++◌, length, map, take, get_or, refl, ap, sym, ◌∙◌, None, arith, length-append}
use Rattle.std.specs.declared.option.Option.{Option}
use Rattle.std.specs.List.{filter, AllWithin}
use Rattle.std.specs.List.Sorted.{IsNonDecreasingBy}
use Rattle.std.proofs.Math.ListN.{get_or-map}
use Rattle.std.proofs.Math.Seq.{get_or-append_seam}
use Rattle.std.proofs.lemmas.List.{get_or-take, get_or_append_left, get_or_default, length-map, length-take-le}
use Rattle.std.proofs.lemmas.Bool.Decides.{nat_tests}
use Rattle.qp_model.specs.declared.bodies.Body.{Body}
use Rattle.qp_model.specs.declared.bodies.Body.TheVariants.{New, Back}
use Rattle.qp_model.specs.Record.{Item}
use Rattle.qp_model.specs.Told.{Event}
use Rattle.qp_model.specs.Knowing.{given_by, last_given}
use Rattle.qp_check_lanes.specs.GivenBlocks.{block_key, block_of}
use Rattle.qp_check_lanes.specs.Groups.{has_key, of_key}
use Rattle.qp_check_knowledge.specs.KnownSteps.{AreSteps, from_of, given_event, given_from, last_from}

by-own : (b r : ℕ) (e : Option Event) (c : Body) → has_key b (block_of c) ≡ true → given_by b r e c ≡ given_from r e c
by-own b r e (New p n c from sig pars) h = rw h refl
by-own b r e (Back p n c to) h = rw h refl
by-own b r e _ h = cc

by-other : (b r : ℕ) (e : Option Event) (c : Body) → has_key b (block_of c) ≡ false → given_by b r e c ≡ e
by-other b r e (New p n c from sig pars) h = rw h refl
by-other b r e (Back p n c to) h = rw h refl
by-other b r e _ h = refl

-- a pool's operations on other blocks don't matter
pub last-own : (b r : ℕ) (e : Option Event) (pool : List Item) → last_from r e (of_key block_key b pool) ≡ last_given b r e pool
unfolding last_from last_given of_key
last-own b r e [] = refl
last-own b r e (i ∷ is) = go (has_key b (block_key i)) refl (λ f. last-own b r f is)
  where
    go : (t : Bool) → has_key b (block_key i) ≡ t → ((f : Option Event) → last_from r f (filter (λ i. has_key b (block_key i)) is) ≡ last_given b r f is)
        → last_from r e (cond t (i ∷ filter (λ i. has_key b (block_key i)) is) (filter (λ i. has_key b (block_key i)) is)) ≡ last_given b r (given_by b r e i.body) is
    go true own rest = rest (given_from r e i.body) ∙ ap (λ f. last_given b r f is) (sym (by-own b r e i.body own))
    go false own rest = rest e ∙ ap (λ f. last_given b r f is) (sym (by-other b r e i.body own))

module _ (r : ℕ) where
  -- one operation more
  last-more : (e : Option Event) (xs : List Item) (i : Item) → last_from r e (xs ++ i ∷ []) ≡ given_from r (last_from r e xs) i.body
  unfolding last_from
  last-more e [] i = refl
  last-more e (x ∷ xs) i = last-more (given_from r e x.body) xs i

  -- operations beyond the number don't matter
  last-cut : (e : Option Event) (xs : List Item) (k : ℕ) → ((j : ℕ) (d : Item) → k ≤ j → j < length xs → nat_le (from_of (get_or xs j d).body) r ≡ false) → last_from r e (take k xs) ≡ last_from r e xs
  unfolding last_from
  last-cut e [] zero past = refl
  last-cut e [] (suc k) past = refl
  last-cut e (x ∷ xs) zero past =
      let late : nat_le (from_of x.body) r ≡ false = past 0 x (omega arith) (omega arith) in
      last-cut e xs zero (λ j d le lt. past (suc j) d (omega arith) (omega arith)) ∙ ap (λ b. last_from r (cond b (given_event x.body) e) xs) (sym late)
  last-cut e (x ∷ xs) (suc k) past = last-cut (given_from r e x.body) xs k (λ j d le lt. past (suc j) d (omega arith) (omega arith))

  -- of records that stand elsewhere
  module _ {X : Type 0} (f : X → Item) where
    pub last-past : (xs : List X) → ((k : ℕ) (d : X) → k < length xs → nat_le (from_of (f (get_or xs k d)).body) r ≡ false) → (e : Option Event) → last_from r e (map f xs) ≡ e
    unfolding last_from
    last-past [] past e = refl
    last-past (x ∷ xs) past e =
        let late : nat_le (from_of (f x).body) r ≡ false = past 0 x (omega arith) in
        ap (λ b. last_from r (cond b (given_event (f x).body) e) (map f xs)) late ∙ last-past xs (λ k d lt. past (suc k) d (omega arith)) e

    -- the last operation that isn't beyond it
    pub last-at : (xs : List X) (n : ℕ) (x : X) → n < length xs → x ≡ get_or xs n x → nat_le (from_of (f x).body) r ≡ true
        → ((k : ℕ) (d : X) → n < k → k < length xs → nat_le (from_of (f (get_or xs k d)).body) r ≡ false) → (e : Option Event) → last_from r e (map f xs) ≡ given_event (f x).body
    unfolding last_from
    last-at [] n x lt is early past e = absurd (omega arith)
    last-at (y ∷ xs) zero x lt at early past e =
        last-past xs (λ k d below. past (suc k) d (omega arith) (omega arith)) (given_from r e (f y).body)
        ∙ ap (λ z. given_from r e (f z).body) (sym at) ∙ ap (λ t. cond t (given_event (f x).body) e) early
    last-at (y ∷ xs) (suc n) x lt at early past e =
        last-at xs n x (omega arith) at early (λ k d more below. past (suc k) d (omega arith) (omega arith)) (given_from r e (f y).body)

-- an operation behind the steps below it
rise-put : (xs : List Item) (k : ℕ) (i : Item) → k ≤ length xs → IsNonDecreasingBy (λ i. from_of i.body) xs
    → ((j : ℕ) (d : Item) → j < k → from_of (get_or xs j d).body ≤ from_of i.body) → IsNonDecreasingBy (λ i. from_of i.body) (take k xs ++ i ∷ [])
rise-put xs k i le rise below a c d before lt =
    let long : length (take k xs) ≡ k = length-take-le k xs le in
    let inside : c < k + 1 = omega (arith, lt, long, length-append (take k xs) (i ∷ [])) in
    go long inside (nat_lt c k) refl (nat_lt a k) refl
  where
    front : length (take k xs) ≡ k → (j : ℕ) → j < k → get_or (take k xs ++ i ∷ []) j d ≡ get_or xs j d
    front long j h = get_or_append_left (take k xs) (i ∷ []) d j (omega (arith, long)) ∙ get_or-take k xs j d h

    last : length (take k xs) ≡ k → (j : ℕ) → j ≡ k → get_or (take k xs ++ i ∷ []) j d ≡ i
    last long j h = ap (λ n. get_or (take k xs ++ i ∷ []) n d) (h ∙ sym long) ∙ get_or-append_seam (take k xs) i [] d

    go : length (take k xs) ≡ k → c < k + 1 → (s : Bool) → nat_lt c k ≡ s → (t : Bool) → nat_lt a k ≡ t
        → from_of (get_or (take k xs ++ i ∷ []) a d).body ≤ from_of (get_or (take k xs ++ i ∷ []) c d).body
    go long inside true e t f =
        let c_in : c < k = grind (arith, nat_tests) in
        let a_in : a < k = omega arith in
        rw (front long a a_in, front long c c_in) (rise a c d before (omega arith))
    go long inside false e true f =
        let from_k : k ≤ c = grind (arith, nat_tests) in
        let a_in : a < k = grind (arith, nat_tests) in
        rw (front long a a_in, last long c (omega arith)) (below a d a_in)
    go long inside false e false f =
        let from_k : k ≤ c = grind (arith, nat_tests) in
        let a_from : k ≤ a = grind (arith, nat_tests) in
        rw (last long a (omega arith), last long c (omega arith)) (omega arith)

-- a number is at most, or below, another where a greater one is
pub up-to : (name m n : ℕ) → m ≤ n → nat_le n name ≡ true → nat_le m name ≡ true
up-to name m n le h = grind (arith, nat_tests)

pub up-below : (from m n : ℕ) → m ≤ n → nat_lt n from ≡ true → nat_lt m from ≡ true
up-below from m n le h = grind (arith, nat_tests)

-- records as the items that they are seen as
module _ {X : Type 0} (f : X → Item) (xs : List X) (items : List Item) (view : map f xs ≡ items) where
  at-item : (k : ℕ) (d : X) → f (get_or xs k d) ≡ get_or items k (f d)
  at-item k d = sym (ap (λ l. get_or l k (f d)) (sym view) ∙ get_or-map f xs k d)

  pub long-items : length items ≡ length xs
  long-items = ap length (sym view) ∙ length-map xs f

  -- what is passed comes before what isn't
  pub steps-parted : (p : ℕ → Bool) → ((m n : ℕ) → m ≤ n → p n ≡ true → p m ≡ true) → IsNonDecreasingBy (λ i. from_of i.body) items
      → (i j : ℕ) (d : X) → i ≤ j → j < length xs → p (from_of (f (get_or xs j d)).body) ≡ true → p (from_of (f (get_or xs i d)).body) ≡ true
  steps-parted p down rise i j d le lt passed =
      let later : from_of (f (get_or xs i d)).body ≤ from_of (f (get_or xs j d)).body = rw (at-item i d, at-item j d) (rise i j (f d) le (omega (arith, long-items))) in
      down _ _ later passed

  -- a test of all elements between two places
  pub items-passed : (p : ℕ → Bool) (t : Bool) (m n : ℕ) → n ≤ length xs → AllWithin (λ x. p (from_of (f x).body) ≡ t) xs m n → X
      → (j : ℕ) (d : Item) → m ≤ j → j < n → p (from_of (get_or items j d).body) ≡ t
  items-passed p t m n le all x j d ge lt = ap (λ i. p (from_of i.body)) (get_or_default items j d (f x) (omega (arith, long-items)) ∙ sym (at-item j x)) ∙ all j x ge lt

  module _ (r : ℕ) where
    pub event-none : AllWithin (λ x. nat_le (from_of (f x).body) r ≡ false) xs 0 (length xs) → last_from r None items ≡ None
    event-none past = ap (last_from r None) (sym view) ∙ last-past r f xs (λ k d lt. past k d (omega arith) lt) None

    pub event-at : (n : ℕ) (x : X) → n < length xs → x ≡ get_or xs n x → nat_le (from_of (f x).body) r ≡ true
        → AllWithin (λ x. nat_le (from_of (f x).body) r ≡ false) xs (n + 1) (length xs) → last_from r None items ≡ given_event (f x).body
    event-at n x lt is early past =
        ap (last_from r None) (sym view) ∙ last-at r f xs n x lt is early (λ k d more below. past k d (omega arith) below) None

pub steps-none : AreSteps [] []
steps-none = record { same = λ r. refl; rise = λ i j d le lt. absurd (omega arith) }

-- a step put in place of those that aren't below it
module _ (steps : List Item) (k : ℕ) (i : Item) (within : k ≤ length steps) (rise : IsNonDecreasingBy (λ i. from_of i.body) steps)
    (below : (j : ℕ) (d : Item) → j < k → nat_lt (from_of (get_or steps j d).body) (from_of i.body) ≡ true)
    (above : (j : ℕ) (d : Item) → k ≤ j → j < length steps → nat_lt (from_of (get_or steps j d).body) (from_of i.body) ≡ false) where
  pub step-rise : IsNonDecreasingBy (λ i. from_of i.body) (take k steps ++ i ∷ [])
  step-rise = rise-put steps k i within rise (λ j d lt. let h = below j d lt in grind (arith, nat_tests))

  pub step-put : (given : List Item) → AreSteps given steps → AreSteps (given ++ i ∷ []) (take k steps ++ i ∷ [])
  step-put given are = record { same = same; rise = step-rise }
    where
      same : (r : ℕ) → last_from r None (take k steps ++ i ∷ []) ≡ last_from r None (given ++ i ∷ [])
      same r = last-more r None (take k steps) i ∙ go (nat_le (from_of i.body) r) refl ∙ sym (last-more r None given i)
        where
          go : (t : Bool) → nat_le (from_of i.body) r ≡ t → cond t (given_event i.body) (last_from r None (take k steps)) ≡ cond t (given_event i.body) (last_from r None given)
          go true e = refl
          go false e =
              last-cut r None steps k (λ j d le lt. let h = above j d le lt in grind (arith, nat_tests)) ∙ are.same r
