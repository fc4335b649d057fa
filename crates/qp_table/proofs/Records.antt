-- The records of pools and queues, and what words show, at the end of a lane.
use Rattle.std.proofs.Common.{◌≡◌, ℕ, suc, ◌+◌, ◌-◌, true≢false, ◌<◌, ◌≤◌, Bool, true, false, not, List, [], ◌∷◌, ◌++◌, length, refl, sym, ◌∙◌, ap, IsTrue, inl, inr, eq-eqb, ne_eqb}
use Rattle.qp_chart.specs.StateTree.{has}
use Rattle.qp_model.specs.declared.record.Rec.{Rec}
use Rattle.qp_model.specs.declared.systems.System.{System}
use Rattle.qp_model.specs.declared.words.Word.TheVariants as word
use Rattle.qp_model.specs.declared.bodies.Entry.{Entry}
use Rattle.qp_model.specs.declared.bodies.Body.TheVariants.{New, Short, Back, NoBlock, Post, Lifo, Took, Nil, Seen, Full, NoEntry, NoLifo}
use Rattle.qp_model.specs.Record.{Item, item_of}
use Rattle.qp_model.specs.Lists.{without_all, with_number, is_first}
use Rattle.qp_model.specs.History.{Draws, Shows, touch, drawn_on, hist, all_items}
use Rattle.qp_model.specs.Machine.{after}
use Rattle.qp_model.specs.FreeBlocks.{Pool, free_blocks}
use Rattle.qp_model.specs.References.{Refs}
use Rattle.qp_model.specs.Line.{Line, line}
use Rattle.qp_model.specs.Lives.{Life, life_of, is_empty, refs_at}
use Rattle.qp_model.specs.Sites.{ring_of, blocks_of}
use Rattle.qp_model.specs.WordLaw.{is_pool, is_block, is_object}
use Rattle.qp_model.proofs.MachineLemmas.{after-append}
use Rattle.qp_model.proofs.WordLemmas.{Held, hist-held-draws, hist-stays}
use Rattle.qp_model.proofs.LineLemmas.{same_number, held-post, held-lifo, held-took, held-seen, held-nil, held-full, held-no_entry, held-no_lifo}
use Rattle.qp_model.proofs.WordLawLemmas.{free_blocks-counts, words-queue, words-pool}
use Rattle.qp_model.proofs.ReferenceLemmas.{Alive, words-new, words-back, held-new, held-back, alive-referred, held-short, held-no_block}
use Rattle.qp_table.specs.Now.{Now, with_line, with_given, content_from, LeavesWords}
use Rattle.qp_model.proofs.LifeLemmas.{free-out}
use Rattle.qp_table.proofs.Growing.{content-append, block-count, pool-leaves, queue-leaves, shown-leaves}

pub not-not : (v f : Bool) → f ≡ not v → f ≡ false → v ≡ true
not-not true f e n = refl
not-not false f e n = let z : true ≡ false = sym e ∙ n in absurd (true≢false z)

module _ (sys : System) (before : List (List Rec)) (lane : List Rec) (behind : List (List Rec)) (now : Now) (leaves : LeavesWords sys (before ++ lane ∷ behind) now) where
  abbrev pools : ℕ → List Item
  pools p = hist (word.Pool p) (all_items (before ++ lane ∷ behind))

  module _ (p b : ℕ) (block : IsTrue (is_block sys p b)) (pool : IsTrue (is_pool sys p)) (below : b < blocks_of sys p) where
    -- a block that isn't free is out
    pub block-out : has (now.pool p).free b ≡ false → (after (life_of b) (pools p)).out ≡ true
    block-out taken = not-not (after (life_of b) (pools p)).out (has (after (free_blocks (blocks_of sys p)) (pools p)).free b) (free-out (blocks_of sys p) b (pools p) below) (ap (λ (s : Pool). has s.free b) (leaves.pool p pool) ∙ taken)

    -- where its life has just begun, or a reference stands, it may have an operation
    pub alive-begun : has (now.pool p).free b ≡ false → now.edge p b ≡ (now.refs p b).count → Alive b (pools p) (hist (word.Block p b) (all_items (before ++ lane ∷ behind)))
    alive-begun taken begun = record {
      out = block-out taken;
      going = inl (leaves.edge p b block ∙ (begun ∙ sym (block-count sys before lane behind now leaves (record { kind = 0; of = 0; nums = record { items = [] } }) p b block)));
    }

    pub alive-standing : has (now.pool p).free b ≡ false → is_empty (now.refs p b).names ≡ false → Alive b (pools p) (hist (word.Block p b) (all_items (before ++ lane ∷ behind)))
    alive-standing taken stands = alive-referred (blocks_of sys p) b (pools p) (hist (word.Block p b) (all_items (before ++ lane ∷ behind))) below
        (ap (λ (s : Pool). has s.free b) (leaves.pool p pool) ∙ taken) (ap (λ (s : Refs). is_empty s.names) (leaves.refs p b block) ∙ stands)

  module _ (r : Rec) where
    abbrev grown : List (List Rec)
    grown = before ++ (lane ++ r ∷ []) ∷ behind

    module _ (p : ℕ) (pool : IsTrue (is_pool sys p)) where
      abbrev old : Held Pool (free_blocks (blocks_of sys p)) (word.Pool p) (before ++ lane ∷ behind) (now.pool p)
      old = record { keeps = leaves.law.pools p pool; state = leaves.pool p pool }

      abbrev pub after_new : ℕ → Pool
      after_new b = record { count = (now.pool p).count + 1; free = without_all b (now.pool p).free }

      abbrev pub after_back : ℕ → Pool
      after_back b = record { count = (now.pool p).count + 1; free = with_number b (now.pool p).free }

      draw-hist : (i : Item) → item_of r ≡ i → touch i ≡ Draws (word.Pool p) (suc (now.pool p).count) → hist (word.Pool p) (all_items grown) ≡ pools p ++ i ∷ []
      draw-hist i is on = hist-held-draws before lane behind r i is (free_blocks (blocks_of sys p)) (word.Pool p) (now.pool p) (free_blocks-counts (blocks_of sys p)) old
          (rw (on, same_number p, same_number (suc (now.pool p).count)) refl)

      pub new-leaves : (o b from sig : ℕ) (pars : List ℕ) → item_of r ≡ record { of = o; body = New p (now.pool p).count b from sig pars } → is_first b (now.pool p).free ≡ true
          → from ≡ length (hist (word.Block p b) (all_items (before ++ lane ∷ behind)))
          → LeavesWords sys grown (with_given now p (after_new b) b from (sig ∷ pars))
      new-leaves o b from sig pars is first from_is =
          let i : Item = record { of = o; body = New p (now.pool p).count b from sig pars } in
          let h = draw-hist i is refl in
          pool-leaves sys before lane behind now leaves r i is p b (suc (now.pool p).count) from (after_new b) (sig ∷ pars) refl
          (words-new sys before lane behind r leaves.law p (now.pool p) (leaves.pool p pool) b o from sig pars is first from_is)
          (λ _. (held-new before lane behind r (blocks_of sys p) p (now.pool p) old o b from sig pars is first).state)
          (λ _. ap (λ t. (after (life_of b) t).edge) h ∙ (ap (λ (s : Life). s.edge) (after-append (life_of b) (pools p) i) ∙ rw (same_number b) refl))
          (λ c ne. ap (λ t. (after (life_of c) t).edge) h ∙ (ap (λ (s : Life). s.edge) (after-append (life_of c) (pools p) i) ∙ rw (ne_eqb b c (λ e. ne (sym e))) refl))
          (λ _. ap (content_from b []) h ∙ (content-append b [] (pools p) i ∙ rw (eq-eqb b b refl) refl))
          (λ c ne. ap (content_from c []) h ∙ (content-append c [] (pools p) i ∙ rw (ne_eqb b c (λ e. ne (sym e))) refl))

      pub back-leaves : (o b to : ℕ) → item_of r ≡ record { of = o; body = Back p (now.pool p).count b to } → b < blocks_of sys p → has (now.pool p).free b ≡ false
          → to ≡ length (hist (word.Block p b) (all_items (before ++ lane ∷ behind))) → (after (life_of b) (pools p)).edge < length (hist (word.Block p b) (all_items (before ++ lane ∷ behind)))
          → is_empty (refs_at (length (hist (word.Block p b) (all_items (before ++ lane ∷ behind)))) (hist (word.Block p b) (all_items (before ++ lane ∷ behind)))) ≡ true
          → LeavesWords sys grown (with_given now p (after_back b) b to (now.content p b))
      back-leaves o b to is below taken to_is worn none =
          let i : Item = record { of = o; body = Back p (now.pool p).count b to } in
          let h = draw-hist i is refl in
          pool-leaves sys before lane behind now leaves r i is p b (suc (now.pool p).count) to (after_back b) (now.content p b) refl
          (words-back sys before lane behind r leaves.law p (now.pool p) (leaves.pool p pool) b o to is below taken to_is worn none)
          (λ _. (held-back before lane behind r (blocks_of sys p) p (now.pool p) old o b to is below taken).state)
          (λ _. ap (λ t. (after (life_of b) t).edge) h ∙ (ap (λ (s : Life). s.edge) (after-append (life_of b) (pools p) i) ∙ rw (same_number b) refl))
          (λ c ne. ap (λ t. (after (life_of c) t).edge) h ∙ (ap (λ (s : Life). s.edge) (after-append (life_of c) (pools p) i) ∙ rw (ne_eqb b c (λ e. ne (sym e))) refl))
          (λ k. ap (content_from b []) h ∙ (content-append b [] (pools p) i ∙ leaves.content p b k))
          (λ c ne. ap (content_from c []) h ∙ content-append c [] (pools p) i)

      -- a pool that is shown
      shows-pool : (i : Item) → item_of r ≡ i → touch i ≡ Shows (word.Pool p) (now.pool p).count → Held Pool (free_blocks (blocks_of sys p)) (word.Pool p) grown (now.pool p) → LeavesWords sys grown now
      shows-pool i is on held =
          let h : hist (word.Pool p) (all_items grown) ≡ pools p = hist-stays before lane behind r i is (word.Pool p) (ap (drawn_on (word.Pool p)) on) in
          shown-leaves sys before lane behind now leaves r i is (word.Pool p) (now.pool p).count on
          (words-pool sys before lane behind r i is leaves.law p (now.pool p).count (inr on) (λ _. held.keeps)
          (λ c k. rw (h, hist-stays before lane behind r i is (word.Block p c) (ap (drawn_on (word.Block p c)) on)) (leaves.law.lives p c k)))

      pub short-leaves : (o reserve : ℕ) → item_of r ≡ record { of = o; body = Short p (now.pool p).count (length (now.pool p).free) reserve } → length (now.pool p).free ≤ reserve → LeavesWords sys grown now
      short-leaves o reserve is few = shows-pool _ is refl (held-short before lane behind r (blocks_of sys p) p (now.pool p) old o reserve is few)

      pub no_block-leaves : (o : ℕ) → item_of r ≡ record { of = o; body = NoBlock p (now.pool p).count 0 } → length (now.pool p).free ≡ 0 → LeavesWords sys grown now
      no_block-leaves o is none = shows-pool _ is refl (held-no_block before lane behind r (blocks_of sys p) p (now.pool p) old o is none)

    module _ (a : ℕ) (object : IsTrue (is_object sys a)) where
      abbrev held_line : Held Line (line (ring_of sys a)) (word.Queue a) (before ++ lane ∷ behind) (now.line a)
      held_line = record { keeps = leaves.law.queues a object; state = leaves.line a object }

      -- a record on the queue of a, after which it holds s
      drawn-line : (i : Item) → item_of r ≡ i → (s : Line) (n : ℕ) → touch i ≡ Draws (word.Queue a) n → Held Line (line (ring_of sys a)) (word.Queue a) grown s → LeavesWords sys grown (with_line now a s)
      drawn-line i is s n on held = queue-leaves sys before lane behind now leaves r i is a n s on (words-queue sys before lane behind r i is leaves.law a n (inl on) (λ _. held.keeps)) (λ _. held.state)

      shows-line : (i : Item) → item_of r ≡ i → (n : ℕ) → touch i ≡ Shows (word.Queue a) n → Held Line (line (ring_of sys a)) (word.Queue a) grown (now.line a) → LeavesWords sys grown now
      shows-line i is n on held = shown-leaves sys before lane behind now leaves r i is (word.Queue a) n on (words-queue sys before lane behind r i is leaves.law a n (inr on) (λ _. held.keeps))

      abbrev pub after_post : Entry → Line
      after_post e = record { entries = (now.line a).entries ++ e ∷ []; f = (now.line a).f + 1; l = (now.line a).l; m = (now.line a).m }

      pub post-leaves : (o : ℕ) (e : Entry) → item_of r ≡ record { of = o; body = Post a ((now.line a).f + 1) (now.line a).l (now.line a).m e } → length (now.line a).entries ≤ ring_of sys a
          → LeavesWords sys grown (with_line now a (after_post e))
      post-leaves o e is room = drawn-line _ is (after_post e) _ refl (held-post before lane behind r (ring_of sys a) a (now.line a) held_line o e is room)

      abbrev pub after_lifo : Entry → Line
      after_lifo e = record { entries = e ∷ (now.line a).entries; f = (now.line a).f; l = (now.line a).l + 1; m = (now.line a).m }

      pub lifo-leaves : (e : Entry) → item_of r ≡ record { of = a; body = Lifo (now.line a).f ((now.line a).l + 1) (now.line a).m e } → length (now.line a).entries ≤ ring_of sys a
          → LeavesWords sys grown (with_line now a (after_lifo e))
      lifo-leaves e is room = drawn-line _ is (after_lifo e) _ refl (held-lifo before lane behind r (ring_of sys a) a (now.line a) held_line e is room)

      abbrev pub after_took : List Entry → Line
      after_took rest = record { entries = rest; f = (now.line a).f; l = (now.line a).l; m = (now.line a).m + 1 }

      pub took-leaves : (e : Entry) (rest : List Entry) → item_of r ≡ record { of = a; body = Took (now.line a).f (now.line a).l ((now.line a).m + 1) e } → (now.line a).entries ≡ e ∷ rest
          → LeavesWords sys grown (with_line now a (after_took rest))
      took-leaves e rest is front = drawn-line _ is (after_took rest) _ refl (held-took before lane behind r (ring_of sys a) a (now.line a) held_line e rest is front)

      pub seen-leaves : (o : ℕ) → item_of r ≡ record { of = o; body = Seen a (now.line a).f (now.line a).l (now.line a).m } → LeavesWords sys grown now
      seen-leaves o is = shows-line _ is _ refl (held-seen before lane behind r (ring_of sys a) a (now.line a) held_line o is)

      pub nil-leaves : item_of r ≡ record { of = a; body = Nil (now.line a).f (now.line a).l (now.line a).m } → (now.line a).f + (now.line a).l ≡ (now.line a).m → LeavesWords sys grown now
      nil-leaves is empty = shows-line _ is _ refl (held-nil before lane behind r (ring_of sys a) a (now.line a) held_line is empty)

      pub full-leaves : (o margin : ℕ) → item_of r ≡ record { of = o; body = Full a (now.line a).f (now.line a).l (now.line a).m margin } → ring_of sys a + 1 - ((now.line a).f + (now.line a).l - (now.line a).m) ≤ margin → LeavesWords sys grown now
      full-leaves o margin is few = shows-line _ is _ refl (held-full before lane behind r (ring_of sys a) a (now.line a) held_line o margin is few)

      pub no_entry-leaves : (o : ℕ) → item_of r ≡ record { of = o; body = NoEntry a (now.line a).f (now.line a).l (now.line a).m } → (now.line a).f + (now.line a).l - (now.line a).m ≡ ring_of sys a + 1 → LeavesWords sys grown now
      no_entry-leaves o is full = shows-line _ is _ refl (held-no_entry before lane behind r (ring_of sys a) a (now.line a) held_line o is full)

      pub no_lifo-leaves : (o : ℕ) → item_of r ≡ record { of = o; body = NoLifo a (now.line a).f (now.line a).l (now.line a).m } → (now.line a).f + (now.line a).l - (now.line a).m ≡ ring_of sys a + 1 → LeavesWords sys grown now
      no_lifo-leaves o is full = shows-line _ is _ refl (held-no_lifo before lane behind r (ring_of sys a) a (now.line a) held_line o is full)
