-- Rows of looks: the objects above a floor, and readings while they are looked at.
use Rattle.std.proofs.Common.{◌≡◌, ℕ, zero, suc, ◌+◌, ◌<◌, ◌≤◌, ◌==◌, cond, Bool, true, false, not, ◌&&◌, List, [], ◌∷◌, ◌++◌, map, length, reverse, take, nat_lt, refl, ◌∙◌, ap, Some, arith}
use Rattle.std.specs.Prelude.{slice_get}
use Rattle.std.specs.List.{AllByRecursion, filter}
use Rattle.std.proofs.lemmas.List.{map-append, reverse-append}
use Rattle.std.proofs.lemmas.Bool.Decides.{nat_tests}
use Rattle.std.proofs.lemmas.List.Elements.{filter-append}
use Rattle.qp_chart.specs.StateTree.{has}
use Rattle.qp_model.specs.declared.systems.System.{System}
use Rattle.qp_model.specs.declared.systems.ObjectDef.{ObjectDef}
use Rattle.qp_model.specs.Kernels.{qk, qv}
use Rattle.qp_model.specs.KernelLane.{Reading, Resting, Again, Over, above, base_ended, found_none, looking_at}
use Rattle.qp_kernel.specs.LaneZero.{Agree, setting}
use Rattle.qp_kernel.specs.Turning.{Terms, kernel_in}
use Rattle.qp_kernel_turns.specs.Knowing.{IsAbove, IsObjectWithChart}
use Rattle.qp_kernel_turns.specs.Turning.{row_below}
use Rattle.qp_model.proofs.KernelLaneLemmas.{AllByRecursion-reverse}

take-one : {A : Type 0} (xs : List A) (n : ℕ) (x : A) → slice_get xs n ≡ Some x → take (n + 1) xs ≡ take n xs ++ x ∷ []
take-one [] n x h = absurd (cc)
take-one (y ∷ ys) zero x h = let same : y ≡ x = cc in rw same refl
take-one (y ∷ ys) (suc n) x h = let e : suc n + 1 ≡ suc (n + 1) = omega arith in rw e (ap (λ zs. y ∷ zs) (take-one ys n x h))

take-all : {A : Type 0} (xs : List A) → take (length xs) xs ≡ xs
take-all [] = refl
take-all (x ∷ xs) = ap (λ zs. x ∷ zs) (take-all xs)

-- one object more of a row
row-more : (floor : ℕ) (front : List ObjectDef) (d : ObjectDef) (b : Bool) → nat_lt floor d.priority ≡ b
    → reverse (map (λ x. x.priority) (filter (λ x. nat_lt floor x.priority) (front ++ d ∷ [])))
    ≡ cond b (d.priority ∷ reverse (map (λ x. x.priority) (filter (λ x. nat_lt floor x.priority) front))) (reverse (map (λ x. x.priority) (filter (λ x. nat_lt floor x.priority) front)))
row-more floor front d b is =
    ap (λ xs. reverse (map (λ x. x.priority) xs)) (filter-append (λ x. nat_lt floor x.priority) front (d ∷ []))
    ∙ ap reverse (map-append (λ x. x.priority) (filter (λ x. nat_lt floor x.priority) front) (filter (λ x. nat_lt floor x.priority) (d ∷ [])))
    ∙ reverse-append (map (λ x. x.priority) (filter (λ x. nat_lt floor x.priority) front)) (map (λ x. x.priority) (filter (λ x. nat_lt floor x.priority) (d ∷ [])))
    ∙ by b is
  where
    by : (b : Bool) → nat_lt floor d.priority ≡ b
        → reverse (map (λ x. x.priority) (filter (λ x. nat_lt floor x.priority) (d ∷ []))) ++ reverse (map (λ x. x.priority) (filter (λ x. nat_lt floor x.priority) front))
        ≡ cond b (d.priority ∷ reverse (map (λ x. x.priority) (filter (λ x. nat_lt floor x.priority) front))) (reverse (map (λ x. x.priority) (filter (λ x. nat_lt floor x.priority) front)))
    by true is = rw is refl
    by false is = rw is refl

pub row-next : (sys : System) (floor n : ℕ) (d : ObjectDef) → slice_get sys.objects n ≡ Some d → floor < d.priority → row_below sys floor (n + 1) ≡ d.priority ∷ row_below sys floor n
row-next sys floor n d at lt =
    let is : nat_lt floor d.priority ≡ true = grind (arith, nat_tests) in
    ap (λ xs. reverse (map (λ x. x.priority) (filter (λ x. nat_lt floor x.priority) xs))) (take-one sys.objects n d at) ∙ row-more floor (take n sys.objects) d true is

pub row-skip : (sys : System) (floor n : ℕ) (d : ObjectDef) → slice_get sys.objects n ≡ Some d → d.priority ≤ floor → row_below sys floor (n + 1) ≡ row_below sys floor n
row-skip sys floor n d at le =
    let is : nat_lt floor d.priority ≡ false = grind (arith, nat_tests) in
    ap (λ xs. reverse (map (λ x. x.priority) (filter (λ x. nat_lt floor x.priority) xs))) (take-one sys.objects n d at) ∙ row-more floor (take n sys.objects) d false is

pub row-whole : (sys : System) (floor : ℕ) → row_below sys floor (length sys.objects) ≡ above sys floor
unfolding above
row-whole sys floor = ap (λ xs. reverse (map (λ x. x.priority) (filter (λ x. nat_lt floor x.priority) xs))) (take-all sys.objects)

-- All of a row are objects above the floor.

all-above : (sys : System) (floor : ℕ) (ds : List ObjectDef) → AllByRecursion (λ d. IsObjectWithChart sys d.priority) ds
    → AllByRecursion (λ p. IsObjectWithChart sys p × (floor < p)) (map (λ d. d.priority) (filter (λ d. nat_lt floor d.priority) ds))
all-above sys floor [] h = tt
all-above sys floor (d ∷ ds) h = by (nat_lt floor d.priority) refl (all-above sys floor ds h.1)
  where
    by : (b : Bool) → nat_lt floor d.priority ≡ b → AllByRecursion (λ p. IsObjectWithChart sys p × (floor < p)) (map (λ d. d.priority) (filter (λ d. nat_lt floor d.priority) ds))
        → AllByRecursion (λ p. IsObjectWithChart sys p × (floor < p)) (map (λ d. d.priority) (cond b (d ∷ filter (λ d. nat_lt floor d.priority) ds) (filter (λ d. nat_lt floor d.priority) ds)))
    by true is rest = ((h.0, grind (arith, nat_tests)), rest)
    by false is rest = rest

pub row-named : (sys : System) (floor : ℕ) → AllByRecursion (λ d. IsObjectWithChart sys d.priority) sys.objects → AllByRecursion (λ p. IsObjectWithChart sys p × (floor < p)) (above sys floor)
unfolding above
row-named sys floor h = AllByRecursion-reverse _ _ (all-above sys floor sys.objects h)

-- Above those under way.

pub above-more : (p q : ℕ) (qs : List ℕ) → q ≤ p → IsAbove q qs → IsAbove p qs
above-more p q [] le h = tt
above-more p q (x ∷ xs) le h = (omega (arith, h.0, le), above-more p q xs le h.1)

pub above-not : (p : ℕ) (qs : List ℕ) → IsAbove p qs → has qs p ≡ false
above-not p [] h = refl
above-not p (q ∷ qs) h = let lt = h.0 in let no : (q == p) ≡ false = grind (arith, nat_tests) in rw no (above-not p qs h.1)

-- above all of a row's floor, where that is at least the running object
pub above-floor : (sys : System) (floor : ℕ) (ps qs : List ℕ) → AllByRecursion (λ p. IsObjectWithChart sys p × (floor < p)) ps → ((p : ℕ) → floor < p → IsAbove p qs) → AllByRecursion (λ p. IsObjectWithChart sys p × IsAbove p qs) ps
above-floor sys floor [] qs h go = tt
above-floor sys floor (p ∷ ps) qs h go = ((h.0.0, go p h.0.1), above-floor sys floor ps qs h.1 go)

-- Readings while objects are looked at.

-- a look changes nothing but the place, and at its end that a row without a step is over
pub record SameButPlace (k r : Reading) : Type 0 where
  pub unstarted : r.unstarted ≡ k.unstarted
  pub running : r.running ≡ k.running
  pub ceiling : r.ceiling ≡ k.ceiling
  pub looks : r.looks ≡ k.looks

pub ended-same : (sys : System) (terms : Terms) (has : ℕ → Bool) (k : Reading) → SameButPlace k (base_ended (setting sys (kernel_in terms) has) k)
ended-same sys terms has k = base (not (kernel_in terms == qk) && has k.looks)
  where
    base : (b : Bool) → SameButPlace k (cond b (record k { place = Again }) (record k { place = Over; idle = cond k.stepped k.idle (k.idle + 1); stepped = false }))
    base true = record { unstarted = refl; running = refl; ceiling = refl; looks = refl }
    base false = record { unstarted = refl; running = refl; ceiling = refl; looks = refl }

pub looking-same : (sys : System) (terms : Terms) (has : ℕ → Bool) (k : Reading) (ps : List ℕ) → SameButPlace k (looking_at (setting sys (kernel_in terms) has) k ps)
looking-same sys terms has k (p ∷ ps) = record { unstarted = refl; running = refl; ceiling = refl; looks = refl }
looking-same sys terms has k [] = by k.running
  where
    rests : (b : Bool) → SameButPlace k (cond b (record k { place = Resting }) (base_ended (setting sys (kernel_in terms) has) k))
    rests true = record { unstarted = refl; running = refl; ceiling = refl; looks = refl }
    rests false = ended-same sys terms has k

    by : (os : List ℕ) → SameButPlace k (found_none (setting sys (kernel_in terms) has) k os)
    by (o ∷ outer) = record { unstarted = refl; running = refl; ceiling = refl; looks = refl }
    by [] = rests (kernel_in terms == qv)

-- later stimuli change nothing of a settled look
pub ended-agrees : (sys : System) (terms : Terms) (upto : ℕ) (now has : ℕ → Bool) (k : Reading) → k.looks ≤ upto → Agree upto has now
    → base_ended (setting sys (kernel_in terms) has) k ≡ base_ended (setting sys (kernel_in terms) now) k
ended-agrees sys terms upto now has k le agree =
    ap (λ b. cond (not (kernel_in terms == qk) && b) (record k { place = Again }) (record k { place = Over; idle = cond k.stepped k.idle (k.idle + 1); stepped = false })) (agree k.looks le)

pub looking-agrees : (sys : System) (terms : Terms) (upto : ℕ) (now has : ℕ → Bool) (k : Reading) (ps : List ℕ) → k.looks ≤ upto → Agree upto has now
    → looking_at (setting sys (kernel_in terms) has) k ps ≡ looking_at (setting sys (kernel_in terms) now) k ps
looking-agrees sys terms upto now has k (p ∷ ps) le agree = refl
looking-agrees sys terms upto now has k [] le agree = by k.running
  where
    by : (os : List ℕ) → found_none (setting sys (kernel_in terms) has) k os ≡ found_none (setting sys (kernel_in terms) now) k os
    by (o ∷ outer) = refl
    by [] = ap (λ r. cond (kernel_in terms == qv) (record k { place = Resting }) r) (ended-agrees sys terms upto now has k le agree)
