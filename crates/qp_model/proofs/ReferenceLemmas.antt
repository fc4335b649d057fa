-- Blocks and pools: references made and dropped, blocks given out and given back.
use Rattle.std.proofs.Common.{◌≡◌, ℕ, suc, ◌+◌, ◌<◌, ◌≤◌, ◌==◌, nat_lt, nat_le, Bool, true, false, not, ◌||◌, cond, List, [], ◌∷◌, ◌++◌, length, refl, sym, ◌∙◌, ap, subst, IsTrue, ◌⊎◌, inl, inr, Option, Some, None, arith, take_all}
use Rattle.std.proofs.lemmas.Bool.{and_parts}
use Rattle.std.specs.List.{cons_option}
use Rattle.std.proofs.lemmas.Bool.Decides.{nat_tests}
use Rattle.qp_chart.specs.StateTree.{has}
use Rattle.qp_model.specs.declared.record.Rec.{Rec}
use Rattle.qp_model.specs.declared.systems.System.{System}
use Rattle.qp_model.specs.declared.words.Word.TheVariants as word
use Rattle.qp_model.specs.declared.bodies.Body.{Body}
use Rattle.qp_model.specs.declared.bodies.Body.TheVariants.{New, Short, Inc, Dec, Back, NoBlock}
use Rattle.qp_model.specs.Record.{Item, item_of}
use Rattle.qp_model.specs.Lists.{without_one, without_all, with_number, is_first}
use Rattle.qp_model.specs.History.{Draws, drawn_as, hist, all_items}
use Rattle.qp_model.specs.Machine.{after, after_from}
use Rattle.qp_model.specs.FreeBlocks.{Pool, free_blocks}
use Rattle.qp_model.specs.References.{Refs, references}
use Rattle.qp_model.specs.Lives.{Life, life_of, life_next, edge_of, edges, is_empty, refs_at, HasLives}
use Rattle.qp_model.specs.Sites.{blocks_of}
use Rattle.qp_model.specs.WordLaw.{Words, is_pool, is_block}
use Rattle.qp_model.proofs.WordLemmas.{Held, held-draws, held-shows, hist-held-draws, hist-stays}
use Rattle.qp_model.proofs.LineLemmas.{same_number}
use Rattle.qp_model.proofs.WordLawLemmas.{free_blocks-counts, references-counts, words-block, words-pool}
use Rattle.qp_model.proofs.LifeLemmas.{lives-grow, lives-new, lives-back, lives-other, free-out}

-- A record at the end of a lane that stands among others, for block b of pool p, to which these references stand.
module _ (before : List (List Rec)) (lane : List Rec) (behind : List (List Rec)) (r : Rec) (p b : ℕ) (s : Refs)
    (old : Held Refs references (word.Block p b) (before ++ lane ∷ behind) s) where
  draws : (drawn_as (word.Block p b) s.count (Draws (word.Block p b) (suc s.count))) ≡ true
  draws = rw (same_number p, same_number b, same_number (suc s.count)) refl

  -- a reference more, by the name of its number
  pub held-inc : (o : ℕ) → item_of r ≡ record { of = o; body = Inc p b s.count }
      → Held Refs references (word.Block p b) (before ++ (lane ++ r ∷ []) ∷ behind) (record { count = s.count + 1; names = s.count ∷ s.names })
  held-inc o is = held-draws before lane behind r _ is references (word.Block p b) s references-counts old draws (same_number s.count)

  -- one that stands is dropped
  pub held-dec : (o k : ℕ) → item_of r ≡ record { of = o; body = Dec p b s.count k } → has s.names k ≡ true
      → Held Refs references (word.Block p b) (before ++ (lane ++ r ∷ []) ∷ behind) (record { count = s.count + 1; names = without_one k s.names })
  held-dec o k is stands = held-draws before lane behind r _ is references (word.Block p b) s references-counts old draws (rw (same_number s.count, stands) refl)

-- The same for pool p, whose free blocks are these.
module _ (before : List (List Rec)) (lane : List Rec) (behind : List (List Rec)) (r : Rec) (blocks p : ℕ) (s : Pool)
    (old : Held Pool (free_blocks blocks) (word.Pool p) (before ++ lane ∷ behind) s) where
  pool_draws : (drawn_as (word.Pool p) s.count (Draws (word.Pool p) (suc s.count))) ≡ true
  pool_draws = rw (same_number p, same_number (suc s.count)) refl

  -- the least free block is given out
  pub held-new : (o b from sig : ℕ) (pars : List ℕ) → item_of r ≡ record { of = o; body = New p s.count b from sig pars } → is_first b s.free ≡ true
      → Held Pool (free_blocks blocks) (word.Pool p) (before ++ (lane ++ r ∷ []) ∷ behind) (record { count = s.count + 1; free = without_all b s.free })
  held-new o b from sig pars is first =
      held-draws before lane behind r _ is (free_blocks blocks) (word.Pool p) s (free_blocks-counts blocks) old pool_draws (rw (same_number s.count, first) refl)

  -- a block of the pool that isn't free comes back
  pub held-back : (o b to : ℕ) → item_of r ≡ record { of = o; body = Back p s.count b to } → b < blocks → has s.free b ≡ false
      → Held Pool (free_blocks blocks) (word.Pool p) (before ++ (lane ++ r ∷ []) ∷ behind) (record { count = s.count + 1; free = with_number b s.free })
  held-back o b to is below out =
      let within : nat_lt b blocks ≡ true = grind (arith, nat_tests) in
      held-draws before lane behind r _ is (free_blocks blocks) (word.Pool p) s (free_blocks-counts blocks) old pool_draws (rw (same_number s.count, within, out) refl)

  -- at most the reserve is free
  pub held-short : (o reserve : ℕ) → item_of r ≡ record { of = o; body = Short p s.count (length s.free) reserve } → length s.free ≤ reserve
      → Held Pool (free_blocks blocks) (word.Pool p) (before ++ (lane ++ r ∷ []) ∷ behind) s
  held-short o reserve is few =
      let le : nat_le (length s.free) reserve ≡ true = grind (arith, nat_tests) in
      held-shows before lane behind r _ is (free_blocks blocks) (word.Pool p) s (free_blocks-counts blocks) old (rw (same_number p) refl) (same_number p)
      (rw (same_number (length s.free), le) refl)

  -- none is free
  pub held-no_block : (o : ℕ) → item_of r ≡ record { of = o; body = NoBlock p s.count 0 } → length s.free ≡ 0
      → Held Pool (free_blocks blocks) (word.Pool p) (before ++ (lane ++ r ∷ []) ∷ behind) s
  held-no_block o is none =
      held-shows before lane behind r _ is (free_blocks blocks) (word.Pool p) s (free_blocks-counts blocks) old (rw (same_number p) refl) (same_number p) (rw none refl)

-- A block that is given out, and where a reference may be made or dropped: its life has just begun, or a reference stands.
pub record Alive (b : ℕ) (pool block : List Item) : Type 0 where
  pub out : (after (life_of b) pool).out ≡ true
  pub going : ((after (life_of b) pool).edge ≡ length block) ⊎ (is_empty (refs_at (length block) block) ≡ false)

-- of a block that is given out, the `from` of its life is one of its edges
out-edge : (b : ℕ) (s : Life) (pool : List Item) → (after_from (life_of b) s pool).out ≡ true
    → ((after_from (life_of b) s pool).edge ≡ s.edge) × (s.out ≡ true) ⊎ (has (edges b pool) (after_from (life_of b) s pool).edge ≡ true)
unfolding after_from edges
out-edge b s [] h = inl (refl, h)
out-edge b s (i ∷ is) h = go i.body (λ t. out-edge b t is) h
  where
    joined : (o : Option ℕ) (x : ℕ) → has (edges b is) x ≡ true → has (cons_option o (edges b is)) x ≡ true
    joined None x h = h
    joined (Some y) x h = at (y == x) h
      where
        at : (same : Bool) → has (edges b is) x ≡ true → (same || has (edges b is) x) ≡ true
        at true h = refl
        at false h = h

    step : (same : Bool) (out : Bool) (edge : ℕ)
        → ((t : Life) → (after_from (life_of b) t is).out ≡ true → ((after_from (life_of b) t is).edge ≡ t.edge) × (t.out ≡ true) ⊎ (has (edges b is) (after_from (life_of b) t is).edge ≡ true))
        → let t : Life = cond same (record { out = out; edge = edge }) s in
        let o : Option ℕ = cond same (Some edge) None in
        (after_from (life_of b) t is).out ≡ true
        → ((after_from (life_of b) t is).edge ≡ s.edge) × (s.out ≡ true) ⊎ (has (cons_option o (edges b is)) (after_from (life_of b) t is).edge ≡ true)
    step true out edge later k = elim (later (record { out = out; edge = edge }) k) [ inl e ↦ inr (rw (e.0, same_number edge) refl) | inr h ↦ inr (joined (Some edge) _ h) ]
    step false out edge later k = later s k

    go : (c : Body) → ((t : Life) → (after_from (life_of b) t is).out ≡ true → ((after_from (life_of b) t is).edge ≡ t.edge) × (t.out ≡ true) ⊎ (has (edges b is) (after_from (life_of b) t is).edge ≡ true))
        → (after_from (life_of b) (life_next b s c) is).out ≡ true
        → ((after_from (life_of b) (life_next b s c) is).edge ≡ s.edge) × (s.out ≡ true) ⊎ (has (cons_option (edge_of b c) (edges b is)) (after_from (life_of b) (life_next b s c) is).edge ≡ true)
    go (New p n c from sig pars) later k = step (c == b) true from later k
    go (Back p n c to) later k = step (c == b) false to later k
    go _ later k = later s k

-- a block that is alive may have an operation more
alive-goes : (b : ℕ) (pool block : List Item) → Alive b pool block → (has (edges b pool) (length block) || not (is_empty (refs_at (length block) block))) ≡ true
unfolding after
alive-goes b pool block alive = elim alive.going [ inl begun ↦ at_edge begun (out-edge b (life_of b).first pool alive.out) | inr stands ↦ rw stands (second (has (edges b pool) (length block))) ]
  where
    second : (a : Bool) → (a || true) ≡ true
    second true = refl
    second false = refl

    at_edge : (after (life_of b) pool).edge ≡ length block
        → ((after (life_of b) pool).edge ≡ 0) × (false ≡ true) ⊎ (has (edges b pool) (after (life_of b) pool).edge ≡ true)
        → (has (edges b pool) (length block) || not (is_empty (refs_at (length block) block))) ≡ true
    at_edge begun (inl none) = let wrong : false ≡ true = none.1 in cc
    at_edge begun (inr at) = let here : has (edges b pool) (length block) ≡ true = subst (λ n. has (edges b pool) n ≡ true) begun at in rw here refl

-- The law of all words when a block has an operation more, is given out or comes back, at the end of a lane that stands among others.
module _ (sys : System) (before : List (List Rec)) (lane : List Rec) (behind : List (List Rec)) (r : Rec) (words : Words sys (before ++ lane ∷ behind)) where
  -- the operations of a pool, and of a block, so far
  abbrev pub pool_now : ℕ → List Item
  pool_now p = hist (word.Pool p) (all_items (before ++ lane ∷ behind))

  abbrev pub block_now : ℕ → ℕ → List Item
  block_now p b = hist (word.Block p b) (all_items (before ++ lane ∷ behind))

  module _ (p b : ℕ) (s : Refs) (state : after references (block_now p b) ≡ s) where
    held : IsTrue (is_block sys p b) → Held Refs references (word.Block p b) (before ++ lane ∷ behind) s
    held h = record { keeps = words.blocks p b h; state = state }

    -- a reference is made to a block that is alive
    pub words-inc : (o : ℕ) → (IsTrue (is_block sys p b) → Alive b (pool_now p) (block_now p b)) → item_of r ≡ record { of = o; body = Inc p b s.count }
        → Words sys (before ++ (lane ++ r ∷ []) ∷ behind)
    words-inc o alive is =
        words-block sys before lane behind r _ is words p b (suc s.count) (inl refl)
        (λ h. (held-inc before lane behind r p b s (held h) o is).keeps)
        (λ h. rw (
          hist-stays before lane behind r _ is (word.Pool p) refl,
          hist-held-draws before lane behind r _ is references (word.Block p b) s references-counts (held h) (draws before lane behind r p b s (held h)),
        )
        (lives-grow b (pool_now p) (block_now p b) _ (words.lives p b h) (alive h).out (alive-goes b (pool_now p) (block_now p b) (alive h))))

    -- one that stands is dropped
    pub words-dec : (o k : ℕ) → (IsTrue (is_block sys p b) → Alive b (pool_now p) (block_now p b)) → item_of r ≡ record { of = o; body = Dec p b s.count k }
        → has s.names k ≡ true → Words sys (before ++ (lane ++ r ∷ []) ∷ behind)
    words-dec o k alive is stands =
        words-block sys before lane behind r _ is words p b (suc s.count) (inl refl)
        (λ h. (held-dec before lane behind r p b s (held h) o k is stands).keeps)
        (λ h. rw (
          hist-stays before lane behind r _ is (word.Pool p) refl,
          hist-held-draws before lane behind r _ is references (word.Block p b) s references-counts (held h) (draws before lane behind r p b s (held h)),
        )
        (lives-grow b (pool_now p) (block_now p b) _ (words.lives p b h) (alive h).out (alive-goes b (pool_now p) (block_now p b) (alive h))))

  module _ (p : ℕ) (s : Pool) (state : after (free_blocks (blocks_of sys p)) (pool_now p) ≡ s) where
    held_pool : IsTrue (is_pool sys p) → Held Pool (free_blocks (blocks_of sys p)) (word.Pool p) (before ++ lane ∷ behind) s
    held_pool h = record { keeps = words.pools p h; state = state }

    pool_of : (b : ℕ) → IsTrue (is_block sys p b) → (is_pool sys p ≡ true) × (b < blocks_of sys p)
    unfolding is_block
    pool_of b h =
        let below : nat_lt b (blocks_of sys p) ≡ true = (and_parts (is_pool sys p) (nat_lt b (blocks_of sys p)) h).1 in
        let lt : b < blocks_of sys p = grind (arith, nat_tests) in
        ((and_parts (is_pool sys p) (nat_lt b (blocks_of sys p)) h).0, lt)

    -- whether a block of the pool is given out
    out_is : (b : ℕ) → IsTrue (is_block sys p b) → (free : Bool) → has s.free b ≡ free → (after (life_of b) (pool_now p)).out ≡ not free
    out_is b h free e = flipped (after (life_of b) (pool_now p)).out free (sym (ap (λ t. has t.free b) state ∙ e) ∙ free-out (blocks_of sys p) b (pool_now p) (pool_of b h).1)
      where
        flipped : (out free : Bool) → free ≡ not out → out ≡ not free
        flipped true free e = rw e refl
        flipped false free e = rw e refl

    -- the least free block is given out; `from` states the operations of its word
    pub words-new : (b o from sig : ℕ) (pars : List ℕ) → item_of r ≡ record { of = o; body = New p s.count b from sig pars } → is_first b s.free ≡ true
        → from ≡ length (block_now p b) → Words sys (before ++ (lane ++ r ∷ []) ∷ behind)
    words-new b o from sig pars is first from_is =
        words-pool sys before lane behind r _ is words p (suc s.count) (inl refl)
        (λ h. (held-new before lane behind r (blocks_of sys p) p s (held_pool h) o b from sig pars is first).keeps)
        (λ c h. rw (
          hist-held-draws before lane behind r _ is (free_blocks (blocks_of sys p)) (word.Pool p) s (free_blocks-counts (blocks_of sys p)) (held_pool (pool_of c h).0)
              (pool_draws before lane behind r (blocks_of sys p) p s (held_pool (pool_of c h).0)),
          hist-stays before lane behind r _ is (word.Block p c) refl,
        )
        (life c h (b == c) refl))
      where
        in_list : (xs : List ℕ) → is_first b xs ≡ true → has xs b ≡ true
        in_list [] e = cc
        in_list (x ∷ xs) e = rw e refl

        life : (c : ℕ) → IsTrue (is_block sys p c) → (same : Bool) → (b == c) ≡ same → HasLives c (pool_now p ++ record { of = o; body = New p s.count b from sig pars } ∷ []) (block_now p c)
        life c h true e =
            let is_b : b ≡ c = grind (arith, nat_tests) in
            subst (λ c. IsTrue (is_block sys p c) → HasLives c (pool_now p ++ record { of = o; body = New p s.count b from sig pars } ∷ []) (block_now p c)) is_b
            (λ k. rw from_is (lives-new b (pool_now p) (block_now p b) o p s.count sig pars (words.lives p b k) (out_is b k true (in_list s.free first)))) h
        life c h false e = lives-other c (pool_now p) (block_now p c) _ (rw e refl) (words.lives p c h)

    -- a block that isn't free, has had an operation since it was given out, and has no reference, comes back; `to` states the operations of its word
    pub words-back : (b o to : ℕ) → item_of r ≡ record { of = o; body = Back p s.count b to } → b < blocks_of sys p → has s.free b ≡ false
        → to ≡ length (block_now p b) → (after (life_of b) (pool_now p)).edge < length (block_now p b) → is_empty (refs_at (length (block_now p b)) (block_now p b)) ≡ true
        → Words sys (before ++ (lane ++ r ∷ []) ∷ behind)
    words-back b o to is below out to_is used none =
        words-pool sys before lane behind r _ is words p (suc s.count) (inl refl)
        (λ h. (held-back before lane behind r (blocks_of sys p) p s (held_pool h) o b to is below out).keeps)
        (λ c h. rw (
          hist-held-draws before lane behind r _ is (free_blocks (blocks_of sys p)) (word.Pool p) s (free_blocks-counts (blocks_of sys p)) (held_pool (pool_of c h).0)
              (pool_draws before lane behind r (blocks_of sys p) p s (held_pool (pool_of c h).0)),
          hist-stays before lane behind r _ is (word.Block p c) refl,
        )
        (life c h (b == c) refl))
      where
        life : (c : ℕ) → IsTrue (is_block sys p c) → (same : Bool) → (b == c) ≡ same → HasLives c (pool_now p ++ record { of = o; body = Back p s.count b to } ∷ []) (block_now p c)
        life c h true e =
            let is_b : b ≡ c = grind (arith, nat_tests) in
            subst (λ c. IsTrue (is_block sys p c) → HasLives c (pool_now p ++ record { of = o; body = Back p s.count b to } ∷ []) (block_now p c)) is_b
            (λ k. rw to_is (lives-back b (pool_now p) (block_now p b) o p s.count (words.lives p b k) (out_is b k false out) used none)) h
        life c h false e = lives-other c (pool_now p) (block_now p c) _ (rw e refl) (words.lives p c h)

-- a block that isn't free, and to which a reference stands, is alive
pub alive-referred : (blocks b : ℕ) (pool block : List Item) → b < blocks → has (after (free_blocks blocks) pool).free b ≡ false
    → is_empty (after references block).names ≡ false → Alive b pool block
unfolding refs_at
alive-referred blocks b pool block below out stands = record {
  out = given (after (life_of b) pool).out (sym (free-out blocks b pool below) ∙ out);
  going = inr (ap (λ h. is_empty (after references h).names) (take_all (length block) block (omega arith)) ∙ stands);
}
  where
    given : (v : Bool) → not v ≡ false → v ≡ true
    given true e = refl
    given false e = cc
