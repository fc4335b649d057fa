-- How the kernel lane goes on: record by record, row by row, and what it gives the course of an object.
use Rattle.std.proofs.Common.{◌≡◌, ℕ, ◌+◌, ◌<◌, ◌≤◌, ◌==◌, nat_lt, true, false, List, [], ◌∷◌, ◌++◌, refl, sym, ◌∙◌, ap, Some, None, append_assoc, arith}
use Rattle.std.specs.Prelude.{⊤}
use Rattle.std.specs.declared.option.Option.{Option}
use Rattle.std.specs.Option.{option_and_then, unwrap_or}
use Rattle.std.proofs.lemmas.Bool.Decides.{nat_tests}
use Rattle.qp_model.specs.declared.bodies.Entry.{Entry}
use Rattle.qp_model.specs.declared.bodies.Body.TheVariants as body
use Rattle.qp_model.specs.Record.{Item}
use Rattle.qp_model.specs.Knowing.{Facts}
use Rattle.qp_model.specs.Kernels.{qk}
use Rattle.qp_model.specs.KernelLane.{Role, Looks, Holds, Drops, Acts, role_of, ceiling_of, Setting, floor_in, above, Upcoming, Inside, Looking, Chosen, Ended, Resting, Again, Over, Halted, Reading, base_ended, looking_at, look_next, inside_next, ended_next, place_next, started_next, role_next, lane_next, lane_on}
use Rattle.qp_model.specs.Points.{pieces_at, pieces_in, begins_row}

pub lane_on-append : (s : Setting) (k : Reading) (xs ys : List Item) → lane_on s k (xs ++ ys) ≡ option_and_then (λ m. lane_on s m ys) (lane_on s k xs)
unfolding lane_on
lane_on-append s k [] ys = refl
lane_on-append s k (x ∷ xs) ys = go (lane_next s k x) (λ m. lane_on-append s m xs ys)
  where
    go : (o : Option Reading) → ((m : Reading) → lane_on s m (xs ++ ys) ≡ option_and_then (λ n. lane_on s n ys) (lane_on s m xs))
        → option_and_then (λ m. lane_on s m (xs ++ ys)) o ≡ option_and_then (λ m. lane_on s m ys) (option_and_then (λ m. lane_on s m xs) o)
    go None h = refl
    go (Some m) h = h m

-- what was read, and then what goes on from there
pub lane_on-then : (s : Setting) (k m : Reading) (xs ys : List Item) → lane_on s k xs ≡ Some m → lane_on s k (xs ++ ys) ≡ lane_on s m ys
lane_on-then s k m xs ys e = lane_on-append s k xs ys ∙ ap (λ o. option_and_then (λ n. lane_on s n ys) o) e

-- one record more
pub lane_on-next : (s : Setting) (k m next : Reading) (xs : List Item) (i : Item) → lane_on s k xs ≡ Some m → lane_next s m i ≡ Some next → lane_on s k (xs ++ i ∷ []) ≡ Some next
unfolding lane_on
lane_on-next s k m next xs i e step = lane_on-then s k m xs (i ∷ []) e ∙ ap (λ o. option_and_then (λ n. Some n) o) step

pub pieces_in-then : (w : Facts) (s : Setting) (o : ℕ) (k m : Reading) (xs ys : List Item) → lane_on s k xs ≡ Some m
    → pieces_in w s o k (xs ++ ys) ≡ pieces_in w s o k xs ++ pieces_in w s o m ys
unfolding pieces_in lane_on
pieces_in-then w s o k m [] ys e = let same : k ≡ m = cc in ap (λ x. pieces_in w s o x ys) same
pieces_in-then w s o k m (x ∷ xs) ys e = go (lane_next s k x) e (λ n e. pieces_in-then w s o n m xs ys e)
  where
    go : (r : Option Reading) → option_and_then (λ n. lane_on s n xs) r ≡ Some m
        → ((n : Reading) → lane_on s n xs ≡ Some m → pieces_in w s o n (xs ++ ys) ≡ pieces_in w s o n xs ++ pieces_in w s o m ys)
        → pieces_at w o k x ++ pieces_in w s o (unwrap_or r k) (xs ++ ys) ≡ (pieces_at w o k x ++ pieces_in w s o (unwrap_or r k) xs) ++ pieces_in w s o m ys
    go None e h = absurd (cc)
    go (Some n) e h = ap (λ ps. pieces_at w o k x ++ ps) (h n e) ∙ sym (append_assoc (pieces_at w o k x) (pieces_in w s o n xs) (pieces_in w s o m ys))

-- what the running object does within its step
abbrev pub IsOwnRole : Role → Type 0
IsOwnRole (Holds c) = ⊤
IsOwnRole Drops = ⊤
IsOwnRole Acts = ⊤
IsOwnRole _ = ⊥

pub record IsOwn (p : ℕ) (i : Item) : Type 0 where
  pub of_it : i.of ≡ p
  pub own : IsOwnRole (role_of i.body)

-- the reading stands within a step of p
pub record IsWithin (k : Reading) (p : ℕ) (outer : List ℕ) : Type 0 where
  pub started : k.unstarted ≡ []
  pub running : k.running ≡ p ∷ outer
  pub inside : k.place ≡ Inside

own-role : (s : Setting) (k : Reading) (p : ℕ) (outer : List ℕ) (r : Role) → IsWithin k p outer → IsOwnRole r → role_next s k p r ≡ Some (record k { ceiling = ceiling_of k.ceiling r })
unfolding role_next started_next place_next inside_next
own-role s k p outer (Holds c) at own = let self : (p == p) ≡ true = grind (arith, nat_tests) in rw (at.started, at.inside, at.running, self) refl
own-role s k p outer Drops at own = let self : (p == p) ≡ true = grind (arith, nat_tests) in rw (at.started, at.inside, at.running, self) refl
own-role s k p outer Acts at own = let self : (p == p) ≡ true = grind (arith, nat_tests) in rw (at.started, at.inside, at.running, self) refl
own-role s k p outer _ at own = absurd own

-- a record of the running object moves the ceiling alone
pub own-next : (s : Setting) (k : Reading) (p : ℕ) (outer : List ℕ) (i : Item) → IsWithin k p outer → IsOwn p i → lane_next s k i ≡ Some (record k { ceiling = ceiling_of k.ceiling (role_of i.body) })
unfolding lane_next
own-next s k p outer i at own = ap (λ o. role_next s k o (role_of i.body)) own.of_it ∙ own-role s k p outer (role_of i.body) at own.own

own-start : (s : Setting) (k : Reading) (o : ℕ) (others : List ℕ) (r : Role) → k.unstarted ≡ o ∷ others → IsOwnRole r → role_next s k o r ≡ Some (record k { ceiling = ceiling_of k.ceiling r })
unfolding role_next started_next
own-start s k o others (Holds c) first own = let self : (o == o) ≡ true = grind (arith, nat_tests) in rw (first, self) refl
own-start s k o others Drops first own = let self : (o == o) ≡ true = grind (arith, nat_tests) in rw (first, self) refl
own-start s k o others Acts first own = let self : (o == o) ≡ true = grind (arith, nat_tests) in rw (first, self) refl
own-start s k o others _ first own = absurd own

-- a start goes on by its object's records
pub start-next : (s : Setting) (k : Reading) (o : ℕ) (others : List ℕ) (i : Item) → k.unstarted ≡ o ∷ others → IsOwn o i → lane_next s k i ≡ Some (record k { ceiling = ceiling_of k.ceiling (role_of i.body) })
unfolding lane_next
start-next s k o others i first own = ap (λ x. role_next s k x (role_of i.body)) own.of_it ∙ own-start s k o others (role_of i.body) first own.own

-- and ends with its `done`
pub started-next : (s : Setting) (k : Reading) (o : ℕ) (others : List ℕ) → k.unstarted ≡ o ∷ others → lane_next s k (record { of = o; body = body.Done }) ≡ Some (record k { unstarted = others })
unfolding lane_next role_of role_next started_next
started-next s k o others first = let self : (o == o) ≡ true = grind (arith, nat_tests) in rw (first, self) refl

-- a look may stand here: at the base, at a scheduling point of the running object, or behind a step of the row
abbrev pub MayLook : ℕ → Upcoming → List ℕ → Type 0
MayLook kernel Inside [] = ⊤
MayLook kernel Inside (p ∷ outer) = 0 < p
MayLook kernel (Ended p) running = ⊤
MayLook kernel Again running = ⊤
MayLook kernel Over running = kernel ≡ qk
MayLook kernel _ running = ⊥

look-at : (s : Setting) (k : Reading) (n floor : ℕ) → n ≡ k.looks + 1 → floor ≡ floor_in s.sys s.kernel k.running k.ceiling
    → look_next s k 0 (Looks n floor) ≡ Some (looking_at s (record k { looks = n }) (above s.sys floor))
unfolding look_next
look-at s k n floor count level =
    let one : (n == k.looks + 1) ≡ true = grind (arith, nat_tests, count) in
    let two : (floor == floor_in s.sys s.kernel k.running k.ceiling) ≡ true = grind (arith, nat_tests, level) in
    rw (one, two) refl

look-place : (s : Setting) (k : Reading) (n floor : ℕ) (place : Upcoming) (running : List ℕ) → MayLook s.kernel place running → k.running ≡ running
    → place_next s k 0 (Looks n floor) place ≡ look_next s k 0 (Looks n floor)
unfolding place_next inside_next ended_next
look-place s k n floor Inside [] may at = rw at refl
look-place s k n floor Inside (p ∷ outer) may at = let other : (0 == p) ≡ false = grind (arith, nat_tests, may) in rw (at, other) refl
look-place s k n floor (Ended p) running may at = refl
look-place s k n floor Again running may at = refl
look-place s k n floor Over running may at = let is : (s.kernel == qk) ≡ true = grind (arith, nat_tests, may) in rw is refl
look-place s k n floor Resting running may at = absurd may
look-place s k n floor Halted running may at = absurd may
look-place s k n floor _ running may at = absurd may

-- a look with the next count and the floor that stands looks at the objects above it
pub look-next : (s : Setting) (k : Reading) (n floor : ℕ) → k.unstarted ≡ [] → MayLook s.kernel k.place k.running → n ≡ k.looks + 1 → floor ≡ floor_in s.sys s.kernel k.running k.ceiling
    → lane_next s k (record { of = 0; body = body.Look n floor }) ≡ Some (looking_at s (record k { looks = n }) (above s.sys floor))
unfolding lane_next role_of role_next started_next
look-next s k n floor started may count level =
    ap (started_next s k 0 (Looks n floor)) started ∙ look-place s k n floor k.place k.running may refl ∙ look-at s k n floor count level

-- `seen` of the next object: an empty queue, or one with an entry
pub seen-empty : (s : Setting) (k : Reading) (p : ℕ) (others : List ℕ) (f l m : ℕ) → k.unstarted ≡ [] → k.place ≡ Looking p others → f + l ≤ m
    → lane_next s k (record { of = 0; body = body.Seen p f l m }) ≡ Some (looking_at s k others)
unfolding lane_next role_of role_next started_next place_next
seen-empty s k p others f l m started at none =
    let self : (p == p) ≡ true = grind (arith, nat_tests) in
    let no : nat_lt m (f + l) ≡ false = grind (arith, nat_tests, none) in
    rw (started, at, self, no) refl

pub seen-entry : (s : Setting) (k : Reading) (p : ℕ) (others : List ℕ) (f l m : ℕ) → k.unstarted ≡ [] → k.place ≡ Looking p others → m < f + l
    → lane_next s k (record { of = 0; body = body.Seen p f l m }) ≡ Some (record k { place = Chosen p })
unfolding lane_next role_of role_next started_next place_next
seen-entry s k p others f l m started at some =
    let self : (p == p) ≡ true = grind (arith, nat_tests) in
    let yes : nat_lt m (f + l) ≡ true = grind (arith, nat_tests, some) in
    rw (started, at, self, yes) refl

-- the step of the object found begins
pub took-next : (s : Setting) (k : Reading) (p f l m : ℕ) (e : Entry) → k.unstarted ≡ [] → k.place ≡ Chosen p
    → lane_next s k (record { of = p; body = body.Took f l m e }) ≡ Some (record k { running = p ∷ k.running; place = Inside; stepped = true })
unfolding lane_next role_of role_next started_next place_next
took-next s k p f l m e started at = let self : (p == p) ≡ true = grind (arith, nat_tests) in rw (started, at, self) refl

-- or it is at its budget
pub spent-next : (s : Setting) (k : Reading) (p : ℕ) → k.unstarted ≡ [] → k.place ≡ Chosen p → lane_next s k (record { of = p; body = body.Spent }) ≡ Some (record k { place = Halted })
unfolding lane_next role_of role_next started_next place_next
spent-next s k p started at = let self : (p == p) ≡ true = grind (arith, nat_tests) in rw (started, at, self) refl

-- a step ends
pub done-next : (s : Setting) (k : Reading) (p : ℕ) (outer : List ℕ) → IsWithin k p outer → lane_next s k (record { of = p; body = body.Done }) ≡ Some (record k { running = outer; place = Ended p })
unfolding lane_next role_of role_next started_next place_next inside_next
done-next s k p outer at = let self : (p == p) ≡ true = grind (arith, nat_tests) in rw (at.started, at.inside, at.running, self) refl

-- its release follows
pub release-next : (s : Setting) (k : Reading) (p : ℕ) (i : Item) → k.unstarted ≡ [] → k.place ≡ Ended p → i.of ≡ p → role_of i.body ≡ Drops → lane_next s k i ≡ Some k
unfolding lane_next role_next started_next place_next ended_next
release-next s k p i started at of_it role = let self : (i.of == p) ≡ true = grind (arith, nat_tests, of_it) in rw (role, started, at, self) refl

-- in `qv` the kernel rests
pub rest-next : (s : Setting) (k : Reading) → k.unstarted ≡ [] → k.place ≡ Resting → lane_next s k (record { of = 0; body = body.Rest k.looks }) ≡ Some (base_ended s k)
unfolding lane_next role_of role_next started_next place_next
rest-next s k started at = let self : (k.looks == k.looks) ≡ true = grind (arith, nat_tests) in rw (started, at, self) refl

-- without a look no row begins
pub no-row : (o : ℕ) (place : Upcoming) (running : List ℕ) → begins_row o place running false ≡ false
no-row o Inside [] = refl
no-row o Inside (p ∷ outer) = refl
no-row o _ running = refl
