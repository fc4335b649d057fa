-- A set of subscribers as bits.
use Rattle.std.proofs.Common.{◌≡◌, ℕ, zero, suc, ◌+◌, ◌-◌, ◌*◌, ◌/◌, ◌%◌, ◌^◌, ◌<◌, ◌==◌, nat_lt, Bool, true, false, not, ◌&&◌, ◌||◌, cond, List, [], ◌∷◌, refl, sym, ◌∙◌, ap, subst, arith, IsTrue, pow_pos}
use Rattle.std.specs.List.{list_all}
use Rattle.std.proofs.lemmas.Bool.{and_from, and_parts, not-true}
use Rattle.std.proofs.lemmas.Bool.Decides.{nat_tests}
use Rattle.std.proofs.lemmas.List.Sums.{sum_by-cons}
use Rattle.std.specs.Int.{bit_at}
use Rattle.std.proofs.lemmas.Nat.Bits.{bit_at-zero, bit_at_cat_low, bit_at_cat_high}
use Rattle.std.proofs.Math.Nat.{div-add-mod, mul_comm, mul_assoc, pow-succ', mod-lt}
use Rattle.qp_chart.specs.StateTree.{has}
use Rattle.qp_model.specs.declared.record.Rec.{Rec}
use Rattle.qp_model.specs.declared.words.Word.TheVariants as word
use Rattle.qp_model.specs.declared.systems.System.{System}
use Rattle.qp_model.specs.declared.bodies.Body.{Body}
use Rattle.qp_model.specs.declared.bodies.Body.TheVariants.{Sub, Unsub}
use Rattle.qp_model.specs.Record.{Item}
use Rattle.qp_model.specs.Lists.{without_all}
use Rattle.qp_model.specs.History.{hist, all_items}
use Rattle.qp_model.specs.Machine.{after, is_allowed}
use Rattle.qp_model.specs.Subscribers.{Subscribers, subscribers, subscribers_may, subscribers_next, bits_of_set}
use Rattle.qp_model.specs.Parts.{members, members_below}
use Rattle.qp_model.specs.WordLaw.{is_object, is_signal}
use Rattle.qp_model.proofs.ListLemmas.{list_all-has}
use Rattle.qp_model.proofs.MachineLemmas.{after-keeps}
use Rattle.qp_calls.specs.Counting.{one_if}
use Rattle.qp_plain_sound.specs.WordStates.{set_in}
use Rattle.qp_plain_sound.specs.Sound.{SoundWorld}
use Rattle.qp_model.proofs.LifeLemmas.{has-without_same}
use Rattle.qp_model.proofs.NumberLemmas.{bit-suc}

-- No object is in the set twice.
abbrev pub are_apart : List ℕ → Bool
are_apart [] = true
are_apart (x ∷ xs) = not (has xs x) && are_apart xs

pub has-without_other : (o p : ℕ) (xs : List ℕ) → (p == o) ≡ false → has (without_all o xs) p ≡ has xs p
has-without_other o p [] h = refl
has-without_other o p (x ∷ xs) h = go (x == o) refl (has-without_other o p xs h)
  where
    go : (u : Bool) → (x == o) ≡ u → has (without_all o xs) p ≡ has xs p → has (cond u (without_all o xs) (x ∷ without_all o xs)) p ≡ ((x == p) || has xs p)
    go true e later =
        let is : x ≡ o = grind (arith, nat_tests) in
        let other : (x == p) ≡ false = grind (arith, nat_tests) in
        rw other later
    go false e later = ap (λ z. (x == p) || z) later

apart-without : (o : ℕ) (xs : List ℕ) → are_apart xs ≡ true → are_apart (without_all o xs) ≡ true
apart-without o [] h = refl
apart-without o (x ∷ xs) h = go (x == o) refl (apart-without o xs (and_parts _ _ h).1)
  where
    go : (u : Bool) → (x == o) ≡ u → are_apart (without_all o xs) ≡ true → are_apart (cond u (without_all o xs) (x ∷ without_all o xs)) ≡ true
    go true e later = later
    go false e later = and_from _ _ (ap not (has-without_other o x xs e) ∙ (and_parts _ _ h).0) later

set_stays : (s : Subscribers) (o : ℕ) (b : Body) → subscribers_may s o b ≡ true → are_apart s.members ≡ true → are_apart (subscribers_next s o b).members ≡ true
set_stays s o (Sub sig n) h k = and_from _ _ (ap not (has-without_same o s.members)) (apart-without o s.members k)
set_stays s o (Unsub sig n) h k = apart-without o s.members k
set_stays s o _ h k = absurd (cc)

pub set-apart : (history : List Item) → is_allowed subscribers history ≡ true → are_apart (after subscribers history).members ≡ true
set-apart history h = after-keeps subscribers (λ s. are_apart s.members ≡ true) (λ s i may k. set_stays s i.of i.body may k) refl history h

-- One bit more, where it isn't set.
module _ (j n : ℕ) (clear : bit_at n j ≡ 0) where
  high : ℕ
  high = n / 2 ^ j / 2

  low : ℕ
  low = n % 2 ^ j

  low_small : low < 2 ^ j
  unfolding low
  low_small = mod-lt n (pow_pos j)

  double : 2 ^ suc j ≡ 2 * 2 ^ j
  double = pow-succ' 2 j

  split : high * 2 ^ suc j + low ≡ n
  unfolding high low
  split =
      let even : n / 2 ^ j ≡ 2 * (n / 2 ^ j / 2) = omega (arith, clear) in
      let whole : 2 ^ j * (n / 2 ^ j) + n % 2 ^ j ≡ n = div-add-mod n (2 ^ j) in
      let turned : 2 ^ j * (2 * (n / 2 ^ j / 2)) ≡ n / 2 ^ j / 2 * (2 * 2 ^ j) =
      sym (mul_assoc (2 ^ j) 2 (n / 2 ^ j / 2)) ∙ mul_comm (2 ^ j * 2) (n / 2 ^ j / 2) ∙ ap (λ x. n / 2 ^ j / 2 * x) (mul_comm (2 ^ j) 2) in
      let there : n / 2 ^ j / 2 * 2 ^ suc j ≡ 2 ^ j * (n / 2 ^ j) = ap (λ x. n / 2 ^ j / 2 * x) double ∙ sym turned ∙ ap (λ x. 2 ^ j * x) (sym even) in
      omega (arith, there, whole)

  more_split : high * 2 ^ suc j + (1 * 2 ^ j + low) ≡ 2 ^ j + n
  more_split = let same = split in omega (arith, same)

  bit-below : (k : ℕ) → k < j → bit_at (2 ^ j + n) k ≡ bit_at n k
  bit-below k lt =
      let once : 1 * 2 ^ j + n ≡ 2 ^ j + n = omega arith in
      ap (λ x. bit_at x k) (sym once) ∙ bit_at_cat_low 1 j n k lt

  bit-at : bit_at (2 ^ j + n) j ≡ 1
  bit-at =
      let at : j < suc j = omega arith in
      let none : j - j ≡ 0 = omega arith in
      ap (λ x. bit_at x j) (sym more_split)
      ∙ bit_at_cat_low high (suc j) (1 * 2 ^ j + low) j at
      ∙ bit_at_cat_high 1 j low j low_small (omega arith)
      ∙ ap (bit_at 1) none

  bit-above : (k : ℕ) → j < k → bit_at (2 ^ j + n) k ≡ bit_at n k
  bit-above k lt =
      let small = low_small in
      let first : 1 * 2 ^ j + low < 2 ^ suc j = omega (arith, small, double) in
      let second : low < 2 ^ suc j = omega (arith, small, double) in
      ap (λ x. bit_at x k) (sym more_split)
      ∙ bit_at_cat_high high (suc j) (1 * 2 ^ j + low) k first lt
      ∙ sym (bit_at_cat_high high (suc j) low k second lt)
      ∙ ap (λ x. bit_at x k) split

  pub bit-more : (k : ℕ) → bit_at (2 ^ j + n) k ≡ cond (j == k) 1 (bit_at n k)
  bit-more k = go (j == k) refl (nat_lt j k) refl
    where
      go : (u : Bool) → (j == k) ≡ u → (v : Bool) → nat_lt j k ≡ v → bit_at (2 ^ j + n) k ≡ cond u 1 (bit_at n k)
      go true e v f = let is : j ≡ k = grind (arith, nat_tests) in subst (λ x. bit_at (2 ^ j + n) x ≡ 1) is bit-at
      go false e true f = let lt : j < k = grind (arith, nat_tests) in bit-above k lt
      go false e false f = let lt : k < j = grind (arith, nat_tests) in bit-below k lt

-- bit p - 1 of a set tells whether p is in it
pub bits-has : (ms : List ℕ) → are_apart ms ≡ true → (k : ℕ) → bit_at (bits_of_set ms) k ≡ one_if (has ms (suc k))
bits-has [] h k = bit_at-zero k
bits-has (zero ∷ ms) h k =
    let sum : bits_of_set (zero ∷ ms) ≡ 0 + bits_of_set ms = sum_by-cons (λ p. 2 ^ p / 2) zero ms in
    let same : bits_of_set (zero ∷ ms) ≡ bits_of_set ms = omega (arith, sum) in
    let none : (zero == suc k) ≡ false = grind (arith, nat_tests) in
    ap (λ x. bit_at x k) same ∙ bits-has ms (and_parts _ _ h).1 k ∙ sym (ap (λ u. one_if (u || has ms (suc k))) none)
bits-has (suc j ∷ ms) h k =
    ap (λ x. bit_at x k) sum ∙ bit-more j (bits_of_set ms) (bits-has ms (and_parts _ _ h).1 j ∙ ap one_if (not-true _ (and_parts _ _ h).0)) k
    ∙ go (j == k) refl (bits-has ms (and_parts _ _ h).1 k)
  where
    sum : bits_of_set (suc j ∷ ms) ≡ 2 ^ j + bits_of_set ms
    sum = sum_by-cons (λ p. 2 ^ p / 2) (suc j) ms ∙ ap (λ x. x + bits_of_set ms) (bit-suc j)

    both-suc : (x y : ℕ) (u : Bool) → (x == y) ≡ u → (suc x == suc y) ≡ u
    both-suc x y true e = grind (arith, nat_tests)
    both-suc x y false e = grind (arith, nat_tests)

    go : (u : Bool) → (j == k) ≡ u → bit_at (bits_of_set ms) k ≡ one_if (has ms (suc k)) → cond u 1 (bit_at (bits_of_set ms) k) ≡ one_if ((suc j == suc k) || has ms (suc k))
    go true e later = sym (ap (λ u. one_if (u || has ms (suc k))) (both-suc j k true e))
    go false e later = later ∙ sym (ap (λ u. one_if (u || has ms (suc k))) (both-suc j k false e))

-- the members that its bits tell are in it
all-members : (p : ℕ → Bool) (set : ℕ) → ((k : ℕ) → bit_at set k ≡ 1 → p (suc k) ≡ true) → (n : ℕ) → list_all p (members_below n set) ≡ true
unfolding members_below
all-members p set h zero = refl
all-members p set h (suc n) = go ((set / 2 ^ n) % 2 == 1) refl (all-members p set h n)
  where
    go : (u : Bool) → ((set / 2 ^ n) % 2 == 1) ≡ u → list_all p (members_below n set) ≡ true → list_all p (cond u (suc n ∷ members_below n set) (members_below n set)) ≡ true
    go true e later = let set_is : set / 2 ^ n % 2 ≡ 1 = grind (arith, nat_tests) in and_from _ _ (h n set_is) later
    go false e later = later

pub subscribers-objects : (sys : System) (lanes : List (List Rec)) (order : List ℕ) → SoundWorld sys lanes order → (sig : ℕ) → IsTrue (is_signal sys sig)
    → IsTrue (list_all (is_object sys) (members (bits_of_set (set_in lanes sig).members)))
unfolding members set_in
subscribers-objects sys lanes order world sig h =
    all-members (is_object sys) (bits_of_set (set_in lanes sig).members)
    (λ k bit. list_all-has (is_object sys) (set_in lanes sig).members (suc k) (world.sound.subscribed sig h)
    (one-true (has (set_in lanes sig).members (suc k)) (sym (bits-has (set_in lanes sig).members (set-apart (hist (word.Signal sig) (all_items lanes)) (world.sound.words.signals sig h).allowed) k) ∙ bit)))
    32
  where
    one-true : (u : Bool) → one_if u ≡ 1 → u ≡ true
    one-true true e = refl
    one-true false e = absurd (omega (arith, e))
