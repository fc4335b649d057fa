-- The lives of a block by the flags of its history, and of its pool's operations by those on the block.
use Rattle.std.proofs.Common.{◌≡◌, ℕ, zero, suc, ◌<◌, ◌≤◌, nat_le, Bool, true, false, not, ◌&&◌, ◌||◌, cond, List, [], ◌∷◌, length, take, get_or, refl, ap, sym, ◌∙◌, None, arith}
use Rattle.std.specs.List.{list_all, filter, filter_map}
use Rattle.std.proofs.lemmas.Bool.Decides.{nat_tests}
use Rattle.qp_chart.specs.StateTree.{has}
use Rattle.qp_model.specs.declared.bodies.Body.{Body}
use Rattle.qp_model.specs.declared.bodies.Body.TheVariants.{New, Back}
use Rattle.qp_model.specs.Record.{Item}
use Rattle.qp_model.specs.Lists.{all_below}
use Rattle.qp_model.proofs.ListLemmas.{all_below_at}
use Rattle.qp_model.specs.Machine.{after, after_from, is_allowed, allowed_from}
use Rattle.qp_model.specs.References.{Refs, references}
use Rattle.qp_model.specs.Lives.{Life, life_of, life_may, life_next, edge_of, edges, is_empty, refs_at, edges_empty, lives_cover, lives_referred, has_lives}
use Rattle.qp_check_lanes.specs.Groups.{has_key, of_key}
use Rattle.qp_check_lanes.specs.Standing.{empties_from, empties}
use Rattle.qp_check_lanes.specs.BlockLives.{are_empty, are_referred}
use Rattle.qp_check_lanes.specs.GivenBlocks.{block_of, block_key}

length_from : (s : Refs) (block : List Item) → length (empties_from s block) ≡ suc (length block)
unfolding empties_from
length_from s [] = refl
length_from s (i ∷ is) = ap suc (length_from (references.next s i) is)

pub length-empties : (block : List Item) → length (empties block) ≡ suc (length block)
unfolding empties
length-empties block = length_from references.first block

at_from : (s : Refs) (block : List Item) (n : ℕ) → get_or (empties_from s block) n false ≡ (nat_le n (length block) && is_empty (after_from references s (take n block)).names)
unfolding empties_from after_from
at_from s [] zero = refl
at_from s [] (suc n) = let no : nat_le (suc n) 0 ≡ false = grind (arith, nat_tests) in rw no refl
at_from s (i ∷ is) zero = let yes : nat_le 0 (suc (length is)) ≡ true = grind (arith, nat_tests) in rw yes refl
at_from s (i ∷ is) (suc n) =
    at_from (references.next s i) is n
    ∙ ap (λ b. b && is_empty (after_from references (references.next s i) (take n is)).names) (same n (length is))
  where
    same : (m k : ℕ) → nat_le m k ≡ nat_le (suc m) (suc k)
    same m k = grind (arith, nat_tests)

module _ (block : List Item) where
  pub empties-at : (n : ℕ) → get_or (empties block) n false ≡ (nat_le n (length block) && is_empty (refs_at n block))
  unfolding empties refs_at after
  empties-at n = at_from references.first block n

  empty_all : (xs : List ℕ) → are_empty (empties block) xs ≡ list_all (λ n. nat_le n (length block) && is_empty (refs_at n block)) xs
  empty_all [] = refl
  empty_all (x ∷ xs) = rw (empties-at x, empty_all xs) refl

  referred_below : (xs : List ℕ) (count : ℕ) → count ≤ length block → all_below count (λ n. has xs n || not (get_or (empties block) n false)) ≡ all_below count (λ n. has xs n || not (is_empty (refs_at n block)))
  unfolding all_below
  referred_below xs zero le = refl
  referred_below xs (suc n) le =
      let within : nat_le n (length block) ≡ true = grind (arith, nat_tests) in
      let here : get_or (empties block) n false ≡ is_empty (refs_at n block) = empties-at n ∙ ap (λ b. b && is_empty (refs_at n block)) within in
      rw (referred_below xs n (omega arith), here) refl

  module _ (b : ℕ) (own : List Item) where
    lives-is : has_lives b own block ≡ (is_allowed (life_of b) own && are_empty (empties block) (edges b own) && lives_cover b own block && are_referred (empties block) (length block) (edges b own))
    unfolding has_lives edges_empty lives_referred
    lives-is = rw (empty_all (edges b own), referred_below (edges b own) (length block) (omega arith)) refl

    module _ (flags : List Bool) (given : flags ≡ empties block) where
      pub lives-not_allowed : is_allowed (life_of b) own ≡ false → false ≡ has_lives b own block
      lives-not_allowed h = sym (lives-is ∙ rw h refl)

      pub lives-not_empty : are_empty flags (edges b own) ≡ false → false ≡ has_lives b own block
      lives-not_empty h = sym (lives-is ∙ rw (sym (ap (λ f. are_empty f (edges b own)) given) ∙ h) (both (is_allowed (life_of b) own) (lives_cover b own block) (are_referred (empties block) (length block) (edges b own))))
        where
          both : (a c r : Bool) → (a && false && c && r) ≡ false
          both true c r = refl
          both false c r = refl

      pub lives-not_covered : lives_cover b own block ≡ false → false ≡ has_lives b own block
      lives-not_covered h = sym (lives-is ∙ rw h (both (is_allowed (life_of b) own && are_empty (empties block) (edges b own)) (are_referred (empties block) (length block) (edges b own))))
        where
          both : (a r : Bool) → (a && false && r) ≡ false
          both true r = refl
          both false r = refl

      pub lives-referred : is_allowed (life_of b) own ≡ true → are_empty flags (edges b own) ≡ true → lives_cover b own block ≡ true → are_referred flags (length block) (edges b own) ≡ has_lives b own block
      lives-referred h k j =
          sym (lives-is ∙ rw (h, sym (ap (λ f. are_empty f (edges b own)) given) ∙ k, j) refl ∙ ap (λ f. are_referred f (length block) (edges b own)) (sym given))

-- an operation of the pool on another block
other_may : (b : ℕ) (s : Life) (c : Body) → has_key b (block_of c) ≡ false → life_may b s c ≡ true
other_may b s (New p n c from sig pars) h = rw h refl
other_may b s (Back p n c to) h = rw h refl
other_may b s _ h = refl

other_next : (b : ℕ) (s : Life) (c : Body) → has_key b (block_of c) ≡ false → life_next b s c ≡ s
other_next b s (New p n c from sig pars) h = rw h refl
other_next b s (Back p n c to) h = rw h refl
other_next b s _ h = refl

other_edge : (b : ℕ) (c : Body) → has_key b (block_of c) ≡ false → edge_of b c ≡ None
other_edge b (New p n c from sig pars) h = rw h refl
other_edge b (Back p n c to) h = rw h refl
other_edge b _ h = refl

module _ (b : ℕ) where
  own_allowed : (s : Life) (pool : List Item) → allowed_from (life_of b) s (filter (λ i. has_key b (block_key i)) pool) ≡ allowed_from (life_of b) s pool
  unfolding allowed_from
  own_allowed s [] = refl
  own_allowed s (i ∷ is) = go (has_key b (block_key i)) refl (own_allowed (life_next b s i.body) is) (own_allowed s is)
    where
      go : (t : Bool) → has_key b (block_key i) ≡ t
          → allowed_from (life_of b) (life_next b s i.body) (filter (λ i. has_key b (block_key i)) is) ≡ allowed_from (life_of b) (life_next b s i.body) is
          → allowed_from (life_of b) s (filter (λ i. has_key b (block_key i)) is) ≡ allowed_from (life_of b) s is
          → allowed_from (life_of b) s (cond t (i ∷ filter (λ i. has_key b (block_key i)) is) (filter (λ i. has_key b (block_key i)) is)) ≡ (life_may b s i.body && allowed_from (life_of b) (life_next b s i.body) is)
      go true e later same = ap (λ t. life_may b s i.body && t) later
      go false e later same = rw (other_may b s i.body e, other_next b s i.body e) same

  own_after : (s : Life) (pool : List Item) → after_from (life_of b) s (filter (λ i. has_key b (block_key i)) pool) ≡ after_from (life_of b) s pool
  unfolding after_from
  own_after s [] = refl
  own_after s (i ∷ is) = go (has_key b (block_key i)) refl (own_after (life_next b s i.body) is) (own_after s is)
    where
      go : (t : Bool) → has_key b (block_key i) ≡ t
          → after_from (life_of b) (life_next b s i.body) (filter (λ i. has_key b (block_key i)) is) ≡ after_from (life_of b) (life_next b s i.body) is
          → after_from (life_of b) s (filter (λ i. has_key b (block_key i)) is) ≡ after_from (life_of b) s is
          → after_from (life_of b) s (cond t (i ∷ filter (λ i. has_key b (block_key i)) is) (filter (λ i. has_key b (block_key i)) is)) ≡ after_from (life_of b) (life_next b s i.body) is
      go true e later same = later
      go false e later same = rw (other_next b s i.body e) same

  own_edges : (pool : List Item) → filter_map (λ i. edge_of b i.body) (filter (λ i. has_key b (block_key i)) pool) ≡ filter_map (λ i. edge_of b i.body) pool
  own_edges [] = refl
  own_edges (i ∷ is) = go (has_key b (block_key i)) refl (own_edges is)
    where
      go : (t : Bool) → has_key b (block_key i) ≡ t → filter_map (λ i. edge_of b i.body) (filter (λ i. has_key b (block_key i)) is) ≡ filter_map (λ i. edge_of b i.body) is
          → filter_map (λ i. edge_of b i.body) (cond t (i ∷ filter (λ i. has_key b (block_key i)) is) (filter (λ i. has_key b (block_key i)) is)) ≡ filter_map (λ i. edge_of b i.body) (i ∷ is)
      go true e later = rw later refl
      go false e later = rw (other_edge b i.body e) later

  pub own-lives : (pool block : List Item) → has_lives b (of_key block_key b pool) block ≡ has_lives b pool block
  unfolding of_key has_lives edges_empty lives_cover lives_referred edges is_allowed after
  own-lives pool block = rw (own_allowed (life_of b).first pool, own_after (life_of b).first pool, own_edges pool) refl

pub all_below-not : (n : ℕ) (p : ℕ → Bool) (k : ℕ) → k < n → p k ≡ false → false ≡ all_below n p
all_below-not n p k lt fails = go (all_below n p) refl
  where
    go : (b : Bool) → all_below n p ≡ b → false ≡ b
    go true e = let holds : p k ≡ true = all_below_at n p e k lt in cc
    go false e = refl
