-- The numbers of looks, and the looks that `stim` records name.
use Rattle.std.proofs.Common.{◌≡◌, ℕ, ◌<◌, ◌≤◌, ◌==◌, nat_le, Bool, true, false, ◌||◌, List, [], ◌∷◌, ◌++◌, refl, sym, ◌∙◌, ap, arith, Option, Some, None}
use Rattle.std.specs.List.{list_all, list_any, cons_option}
use Rattle.std.specs.Option.{option_map_or, option_map}
use Rattle.std.proofs.lemmas.Bool.{and_from, and_parts, or_parts}
use Rattle.std.proofs.lemmas.List.Elements.{filter_map-append}
use Rattle.std.proofs.lemmas.List.Folds.{list_any-append}
use Rattle.std.proofs.lemmas.Bool.Decides.{nat_tests}
use Rattle.qp_model.specs.declared.bodies.Body.{Body}
use Rattle.qp_model.specs.declared.bodies.Body.TheVariants as body
use Rattle.qp_model.specs.Record.{Item}
use Rattle.qp_model.specs.OneOrder.{stim_of, is_stim_at, look_of, look_numbers, items_placed}
use Rattle.qp_model_order.specs.RunOrder.{has_stim, all_up_to, stims_up_to}
use Rattle.qp_model_order.specs.Placing.{LooksNone, AreBehind, all_placed, stim_item}
use Rattle.qp_model_order.proofs.MergeLemmas.{OtherLook, LooksOther}
use Rattle.qp_model.proofs.FitsLemmas.{all-append}
use Rattle.qp_model.proofs.ListLemmas.{list_all-parts}

pub any-front : {A : Type 0} (p : A → Bool) (xs ys : List A) → list_any p (xs ++ ys) ≡ false → (list_any p xs ≡ false) × (list_any p ys ≡ false)
any-front p xs ys h = or_parts (list_any p xs) (list_any p ys) (sym (list_any-append p xs ys) ∙ h)

pub any-both : {A : Type 0} (p : A → Bool) (xs ys : List A) → list_any p xs ≡ false → list_any p ys ≡ false → list_any p (xs ++ ys) ≡ false
any-both p xs ys a b = list_any-append p xs ys ∙ rw (a, b) refl

-- more looks allow more numbers
pub up_to-more : (m n : ℕ) (ks : List ℕ) → m ≤ n → all_up_to m ks ≡ true → all_up_to n ks ≡ true
up_to-more m n [] le h = refl
up_to-more m n (k ∷ ks) le h =
    let parts = and_parts (nat_le k m) (all_up_to m ks) h in
    let few : nat_le k m ≡ true = parts.0 in
    let one : nat_le k n ≡ true = grind (arith, nat_tests, few, le) in
    and_from _ _ one (up_to-more m n ks le parts.1)

-- a later look is another than these
pub looks-other : (n k : ℕ) (is : List Item) → n < k → all_up_to n (look_numbers is) ≡ true → LooksOther k is
looks-other n k [] lt h = tt
looks-other n k (i ∷ is) lt h = let parts = by (look_of i.body) h in (parts.0, looks-other n k is lt parts.1)
  where
    by : (o : Option (ℕ × ℕ)) → all_up_to n (cons_option (option_map (λ l. l.0) o) (look_numbers is)) ≡ true → OtherLook k o × (all_up_to n (look_numbers is) ≡ true)
    by None h = (tt, h)
    by (Some x) h =
        let parts = and_parts (nat_le x.0 n) (all_up_to n (look_numbers is)) h in
        let few : nat_le x.0 n ≡ true = parts.0 in
        let other : (k == x.0) ≡ false = grind (arith, nat_tests, few, lt) in
        (other, parts.1)

pub numbers-none : (is : List Item) → LooksNone is → look_numbers is ≡ []
numbers-none [] h = refl
numbers-none (i ∷ is) h = rw (h.0, numbers-none is h.1) refl

pub numbers-append : (is js : List Item) → look_numbers (is ++ js) ≡ look_numbers is ++ look_numbers js
numbers-append is js = filter_map-append (λ i. option_map (λ l. l.0) (look_of i.body)) is js

pub items-placed : (lane : ℕ) (is : List Item) → items_placed (all_placed lane is) ≡ is
items-placed lane [] = refl
items-placed lane (i ∷ is) = ap (λ js. i ∷ js) (items-placed lane is)

-- the looks that the `stim` records name pass a test
abbrev pub stim_passes : (ℕ → Bool) → Item → Bool
stim_passes p i = option_map_or (λ s. p s.1) (stim_of i.body) true

abbrev pub stims_pass : (ℕ → Bool) → List (List Item) → Bool
stims_pass p sources = list_all (λ lane. list_all (stim_passes p) lane) sources

pub lane-more : (p q : ℕ → Bool) (is : List Item) → ((k : ℕ) → p k ≡ true → q k ≡ true) → list_all (stim_passes p) is ≡ true → list_all (stim_passes q) is ≡ true
lane-more p q [] more h = refl
lane-more p q (i ∷ is) more h =
    let parts = and_parts (stim_passes p i) (list_all (stim_passes p) is) h in
    and_from _ _ (by (stim_of i.body) parts.0) (lane-more p q is more parts.1)
  where
    by : (o : Option (ℕ × ℕ)) → option_map_or (λ s. p s.1) o true ≡ true → option_map_or (λ s. q s.1) o true ≡ true
    by None h = refl
    by (Some s) h = more s.1 h

pub stims-more : (p q : ℕ → Bool) (sources : List (List Item)) → ((k : ℕ) → p k ≡ true → q k ≡ true) → stims_pass p sources ≡ true → stims_pass q sources ≡ true
stims-more p q [] more h = refl
stims-more p q (l ∷ ls) more h =
    let parts = and_parts (list_all (stim_passes p) l) (stims_pass p ls) h in
    and_from _ _ (lane-more p q l more parts.0) (stims-more p q ls more parts.1)

behind-pass : (p : ℕ → Bool) (cuts : Bool) (g : List Item) → AreBehind cuts g → list_all (stim_passes p) g ≡ true
behind-pass p cuts [] h = refl
behind-pass p cuts (i ∷ is) h = rw h.0 (behind-pass p cuts is h.2)

-- and so does the one of a new stimulus
pub stims-block : (p : ℕ → Bool) (cuts : Bool) (front : List (List Item)) (l : List Item) (back : List (List Item)) (i k : ℕ) (g : List Item) → AreBehind cuts g → p k ≡ true
    → stims_pass p (front ++ l ∷ back) ≡ true → stims_pass p (front ++ (l ++ stim_item i k ∷ g) ∷ back) ≡ true
stims-block p cuts front l back i k g behind is h =
    let parts = list_all-parts (λ lane. list_all (stim_passes p) lane) front (l ∷ back) h in
    let rest = and_parts (list_all (stim_passes p) l) (stims_pass p back) parts.1 in
    let block : list_all (stim_passes p) (stim_item i k ∷ g) ≡ true = and_from _ _ is (behind-pass p cuts g behind) in
    all-append (λ lane. list_all (stim_passes p) lane) front ((l ++ stim_item i k ∷ g) ∷ back) parts.0 (and_from _ _ (all-append (stim_passes p) l (stim_item i k ∷ g) rest.0 block) rest.1)

-- records without a `stim` change nothing of it
pub stims-mute : (p : ℕ → Bool) (cuts : Bool) (front : List (List Item)) (l : List Item) (back : List (List Item)) (g : List Item) → AreBehind cuts g
    → stims_pass p (front ++ l ∷ back) ≡ true → stims_pass p (front ++ (l ++ g) ∷ back) ≡ true
stims-mute p cuts front l back g behind h =
    let parts = list_all-parts (λ lane. list_all (stim_passes p) lane) front (l ∷ back) h in
    let rest = and_parts (list_all (stim_passes p) l) (stims_pass p back) parts.1 in
    all-append (λ lane. list_all (stim_passes p) lane) front ((l ++ g) ∷ back) parts.0 (and_from _ _ (all-append (stim_passes p) l g rest.0 (behind-pass p cuts g behind)) rest.1)

-- a look after all these has no `stim`
lane-none : (n k : ℕ) (is : List Item) → n < k → list_all (stim_passes (λ m. nat_le m n)) is ≡ true → list_any (λ i. is_stim_at k i.body) is ≡ false
lane-none n k [] lt h = refl
lane-none n k (i ∷ is) lt h =
    let parts = and_parts (stim_passes (λ m. nat_le m n) i) (list_all (stim_passes (λ m. nat_le m n)) is) h in
    rw (by i.body parts.0, lane-none n k is lt parts.1) refl
  where
    by : (b : Body) → option_map_or (λ s. nat_le s.1 n) (stim_of b) true ≡ true → is_stim_at k b ≡ false
    by (body.Stim p m) h = let few : nat_le m n ≡ true = h in let other : (m == k) ≡ false = grind (arith, nat_tests, few, lt) in other
    by _ h = refl

pub stims-none : (n k : ℕ) (sources : List (List Item)) → n < k → stims_up_to n sources ≡ true → has_stim sources k ≡ false
stims-none n k [] lt h = refl
stims-none n k (l ∷ ls) lt h =
    let parts = and_parts (list_all (stim_passes (λ m. nat_le m n)) l) (stims_up_to n ls) h in
    rw (lane-none n k l lt parts.0, stims-none n k ls lt parts.1) refl

behind-no_stim : (k : ℕ) (cuts : Bool) (g : List Item) → AreBehind cuts g → list_any (λ i. is_stim_at k i.body) g ≡ false
behind-no_stim k cuts [] h = refl
behind-no_stim k cuts (i ∷ is) h = rw (by i.body h.0, behind-no_stim k cuts is h.2) refl
  where
    by : (b : Body) → stim_of b ≡ None → is_stim_at k b ≡ false
    by (body.Stim p m) e = absurd (cc)
    by _ e = refl

-- a new stimulus stands in its own look
pub stim-own : (front : List (List Item)) (l : List Item) (back : List (List Item)) (p n : ℕ) (g : List Item) → has_stim (front ++ (l ++ stim_item p n ∷ g) ∷ back) n ≡ true
stim-own front l back p n g =
    let self : (n == n) ≡ true = grind (arith, nat_tests) in
    list_any-append (λ lane. list_any (λ i. is_stim_at n i.body) lane) front ((l ++ stim_item p n ∷ g) ∷ back)
    ∙ rw (list_any-append (λ i. is_stim_at n i.body) l (stim_item p n ∷ g), self) (all (has_stim front n) (list_any (λ i. is_stim_at n i.body) l))
  where
    all : (a b : Bool) → (a || ((b || true) || has_stim back n)) ≡ true
    all true b = refl
    all false true = refl
    all false false = refl

-- and in no other
pub stim-other : (cuts : Bool) (front : List (List Item)) (l : List Item) (back : List (List Item)) (p n : ℕ) (g : List Item) → AreBehind cuts g → (k : ℕ) → (n == k) ≡ false
    → has_stim (front ++ (l ++ stim_item p n ∷ g) ∷ back) k ≡ has_stim (front ++ l ∷ back) k
stim-other cuts front l back p n g behind k other =
    list_any-append (λ lane. list_any (λ i. is_stim_at k i.body) lane) front ((l ++ stim_item p n ∷ g) ∷ back)
    ∙ rw (list_any-append (λ i. is_stim_at k i.body) l (stim_item p n ∷ g), other, behind-no_stim k cuts g behind) (drop-or (list_any (λ i. is_stim_at k i.body) l))
    ∙ sym (list_any-append (λ lane. list_any (λ i. is_stim_at k i.body) lane) front (l ∷ back))
  where
    drop-or : (b : Bool) → (has_stim front k || ((b || false) || has_stim back k)) ≡ (has_stim front k || (b || has_stim back k))
    drop-or true = refl
    drop-or false = refl
