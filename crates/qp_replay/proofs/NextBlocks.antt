-- The next record of a serial order, where it gives out a block or gives one back: its life begins and ends where it says.
use Rattle.std.proofs.Common.{◌≡◌, ◌∙◌, ℕ, zero, suc, ◌<◌, ◌≤◌, ◌==◌, nat_lt, nat_le, Bool, true, false, not, ◌&&◌, ◌||◌, cond, List, [], ◌∷◌, ◌++◌, length, take, refl, sym, ap, subst, arith, Option, Some, None, IsTrue}
use Rattle.std.specs.List.{AllByRecursion, cons_option}
use Rattle.std.proofs.lemmas.Bool.{not-true, and_parts, eqb-true, ltb-true, leb-true, or_right}
use Rattle.std.proofs.lemmas.Bool.Decides.{nat_tests}
use Rattle.std.proofs.lemmas.List.{take_all}
use Rattle.std.proofs.lemmas.List.Elements.{filter_map-append}
use Rattle.std.proofs.lemmas.List.Folds.{list_any-append}
use Rattle.qp_chart.specs.StateTree.{has}
use Rattle.qp_model.specs.declared.record.Rec.{Rec}
use Rattle.qp_model.specs.declared.words.Word.{Word}
use Rattle.qp_model.specs.declared.words.Word.TheVariants as word
use Rattle.qp_model.specs.declared.systems.System.{System}
use Rattle.qp_model.specs.declared.bodies.Body.{Body}
use Rattle.qp_model.specs.declared.bodies.Body.TheVariants as item
use Rattle.qp_model.specs.Record.{Item}
use Rattle.qp_model.specs.Lists.{is_first}
use Rattle.qp_model.specs.History.{Draws, drawn_on, touch, all_items, hist}
use Rattle.qp_model.specs.Machine.{after, after_from, allowed_from, is_allowed}
use Rattle.qp_model.specs.FreeBlocks.{free_blocks}
use Rattle.qp_model.specs.References.{references}
use Rattle.qp_model.specs.Lives.{HasLives, Life, edge_of, edges, edges_empty, is_empty, life_may, life_next, life_of, lives_cover, lives_referred, refs_at}
use Rattle.qp_model.specs.Sites.{blocks_of}
use Rattle.qp_model.specs.WordLaw.{Words, is_block, is_pool}
use Rattle.qp_model.specs.Places.{IsSerial, RecordPlace, item_at, items_at}
use Rattle.qp_model.proofs.ListLemmas.{all_below_at, list_all-has}
use Rattle.qp_model.proofs.MachineLemmas.{count-after, is_allowed-at, is_allowed-front, is_allowed-rest}
use Rattle.qp_model.proofs.WordLawLemmas.{references-counts}
use Rattle.qp_model.proofs.HistoryLemmas.{same_word-refl}
use Rattle.qp_calls.specs.Counting.{count_of}
use Rattle.qp_calls.specs.Tokens.{Token, Loose, stands}
use Rattle.qp_plain_sound.specs.May.{May}
use Rattle.qp_plain_sound.specs.Sound.{SoundWorld, hands_in, is_event}
use Rattle.qp_plain_sound.specs.WordStates.{life_in, pool_in, refs_in}
use Rattle.qp_plain_sound.proofs.Times.{stands-times}
use Rattle.qp_replay.proofs.NextRecords.{history, pool-drawn, stands-too}
use Rattle.qp_replay.proofs.Histories.{on_word}

-- The edges of a block's lives ascend.

pub record Between (low high : ℕ) (n : ℕ) : Type 0 where
  pub above : low ≤ n
  pub below : n ≤ high

wider : (low lower high : ℕ) (xs : List ℕ) → lower ≤ low → AllByRecursion (Between low high) xs → AllByRecursion (Between lower high) xs
wider low lower high [] le h = tt
wider low lower high (x ∷ xs) le h = (record { above = let a = h.0.above in omega (arith, a, le); below = h.0.below }, wider low lower high xs le h.1)

abbrev pub Ascends : ℕ → Life → List Item → Type 0
Ascends b s pool = (s.edge ≤ (after_from (life_of b) s pool).edge) × AllByRecursion (Between s.edge (after_from (life_of b) s pool).edge) (edges b pool)

-- what is asked of a record more in front
abbrev Result : ℕ → Life → List Item → Life → Option ℕ → Type 0
Result b s is t o = (s.edge ≤ (after_from (life_of b) t is).edge) × AllByRecursion (Between s.edge (after_from (life_of b) t is).edge) (cons_option o (edges b is))

abbrev Later : ℕ → List Item → Type 0
Later b is = (t : Life) → allowed_from (life_of b) t is ≡ true → Ascends b t is

pub edges-ascend : (b : ℕ) (s : Life) (pool : List Item) → allowed_from (life_of b) s pool ≡ true → Ascends b s pool
unfolding allowed_from after_from edges
edges-ascend b s [] h = (omega arith, tt)
edges-ascend b s (i ∷ is) h =
    let parts = and_parts (life_may b s i.body) (allowed_from (life_of b) (life_next b s i.body) is) h in
    go i.body parts.0 parts.1 (λ t k. edges-ascend b t is k)
  where
    step : (same out : Bool) (edge : ℕ) → (same ≡ true → s.edge ≤ edge) → allowed_from (life_of b) (cond same (record { out = out; edge = edge }) s) is ≡ true → Later b is
        → Result b s is (cond same (record { out = out; edge = edge }) s) (cond same (Some edge) None)
    step true out edge up k later =
        let more = later (record { out = out; edge = edge }) k in
        let low = up refl in
        let high = more.0 in (
          omega (arith, low, high),
          (record { above = low; below = high }, wider edge s.edge (after_from (life_of b) (record { out = out; edge = edge }) is).edge (edges b is) low more.1),
        )
    step false out edge up k later = later s k

    given : (same : Bool) (from : ℕ) → (not same || (not s.out && (from == s.edge))) ≡ true → same ≡ true → s.edge ≤ from
    given true from h e = let is_edge : from ≡ s.edge = eqb-true from s.edge (and_parts (not s.out) (from == s.edge) h).1 in omega (arith, is_edge)
    given false from h e = absurd (cc)

    back : (same : Bool) (to : ℕ) → (not same || (s.out && nat_lt s.edge to)) ≡ true → same ≡ true → s.edge ≤ to
    back true to h e = let test : nat_lt s.edge to ≡ true = (and_parts s.out (nat_lt s.edge to) h).1 in grind (arith, nat_tests, test)
    back false to h e = absurd (cc)

    go : (c : Body) → life_may b s c ≡ true → allowed_from (life_of b) (life_next b s c) is ≡ true → Later b is → Result b s is (life_next b s c) (edge_of b c)
    go (item.New p n c from sig pars) may k later = step (c == b) true from (given (c == b) from may) k later
    go (item.Back p n c to) may k later = step (c == b) false to (back (c == b) to may) k later
    go c may k later = later s k

has-all : (P : ℕ → Type 0) (xs : List ℕ) (n : ℕ) → AllByRecursion P xs → has xs n ≡ true → P n
has-all P [] n all h = absurd (cc)
has-all P (x ∷ xs) n all h = go (x == n) refl h (λ k. has-all P xs n all.1 k)
  where
    go : (b : Bool) → (x == n) ≡ b → (b || has xs n) ≡ true → (has xs n ≡ true → P n) → P n
    go true e h more = subst P (eqb-true x n e) all.0
    go false e h more = more h

take-front : {A : Type 0} (xs ys : List A) (n : ℕ) → n ≤ length xs → take n (xs ++ ys) ≡ take n xs
take-front xs ys zero le = refl
take-front [] ys (suc n) le = absurd (omega (arith, le))
take-front (x ∷ xs) ys (suc n) le = ap (λ zs. x ∷ zs) (take-front xs ys n (omega (arith, le)))

-- One block: by the law's histories of its pool and of its own word, of which the world has the fronts.
module _ (b : ℕ) (pool more block rest : List Item) (i : Item) (law : HasLives b (pool ++ i ∷ more) (block ++ rest)) (lives : HasLives b pool block) where
  abbrev pub state : Life
  state = after (life_of b) pool

  may : life_may b state i.body ≡ true
  may = is_allowed-at (life_of b) pool more i law.alternate

  allowed-now : allowed_from (life_of b) (life_of b).first pool ≡ true
  unfolding is_allowed
  allowed-now = is_allowed-front (life_of b) pool (i ∷ more) law.alternate

  -- a block that isn't given out has had just the operations of its lives
  pub at-edge : state.out ≡ false → state.edge ≡ length block
  unfolding lives_cover
  at-edge out =
      let covers : (state.out || (state.edge == length block)) ≡ true = lives.cover in
      eqb-true state.edge (length block) (subst (λ o. (o || (state.edge == length block)) ≡ true) out covers)

  pub given-there : (p n from sig : ℕ) (pars : List ℕ) → i.body ≡ item.New p n b from sig pars → from ≡ length block
  given-there p n from sig pars is =
      let here : (not (b == b) || (not state.out && (from == state.edge))) ≡ true = subst (λ c. life_may b state c ≡ true) is may in
      let self : (b == b) ≡ true = grind (arith, nat_tests) in
      let both : (not state.out && (from == state.edge)) ≡ true = subst (λ u. (not u || (not state.out && (from == state.edge))) ≡ true) self here in
      let parts = and_parts (not state.out) (from == state.edge) both in
      eqb-true from state.edge parts.1 ∙ at-edge (not-true state.out parts.0)

  edge-low : AllByRecursion (Between 0 state.edge) (edges b pool)
  unfolding after
  edge-low = (edges-ascend b (life_of b).first pool allowed-now).1

  refs-at-front : (n : ℕ) → n ≤ length block → refs_at n (block ++ rest) ≡ refs_at n block
  unfolding refs_at
  refs-at-front n le = ap (λ h. (after references h).names) (take-front block rest n le)

  -- a block that comes back has had just the operations of its life
  module _ (p n to : ℕ) (is : i.body ≡ item.Back p n b to) (none : refs_at (length block) block ≡ []) (past : state.edge < length block) where
    ends : (state.out ≡ true) × (state.edge < to)
    ends =
        let here : (not (b == b) || (state.out && nat_lt state.edge to)) ≡ true = subst (λ c. life_may b state c ≡ true) is may in
        let self : (b == b) ≡ true = grind (arith, nat_tests) in
        let both : (state.out && nat_lt state.edge to) ≡ true = subst (λ u. (not u || (state.out && nat_lt state.edge to)) ≡ true) self here in
        let parts = and_parts state.out (nat_lt state.edge to) both in
        (parts.0, ltb-true state.edge to parts.1)

    edge-here : edge_of b i.body ≡ Some to
    edge-here = let self : (b == b) ≡ true = grind (arith, nat_tests) in ap (edge_of b) is ∙ ap (λ u. cond u (Some to) None) self

    edges-split : edges b (pool ++ i ∷ more) ≡ edges b pool ++ to ∷ edges b more
    unfolding edges
    edges-split = filter_map-append (λ k. edge_of b k.body) pool (i ∷ more) ∙ ap (λ o. edges b pool ++ cons_option o (edges b more)) edge-here

    next_edge : (life_next b state i.body).edge ≡ to
    next_edge =
        let self : (b == b) ≡ true = grind (arith, nat_tests) in
        ap (λ c. (life_next b state c).edge) is ∙ ap (λ u. (cond u (record { out = false; edge = to }) state).edge) self

    -- the later edges are no lower
    edges-high : AllByRecursion (λ m. to ≤ m) (edges b more)
    unfolding allowed_from
    edges-high = lower (edges b more) (edges-ascend b (life_next b state i.body) more behind).1
      where
        behind : allowed_from (life_of b) (life_next b state i.body) more ≡ true
        behind = (and_parts (life_may b state i.body) (allowed_from (life_of b) (life_next b state i.body) more) (is_allowed-rest (life_of b) pool (i ∷ more) law.alternate)).1

        lower : (xs : List ℕ) → AllByRecursion (Between (life_next b state i.body).edge (after_from (life_of b) (life_next b state i.body) more).edge) xs → AllByRecursion (λ m. to ≤ m) xs
        lower [] h = tt
        lower (x ∷ xs) h = ((let low = h.0.above in omega (arith, low, next_edge)), lower xs h.1)

    has-edge : (m : ℕ) → has (edges b (pool ++ i ∷ more)) m ≡ (has (edges b pool) m || has (to ∷ edges b more) m)
    has-edge m = ap (λ xs. has xs m) edges-split ∙ list_any-append (λ y. y == m) (edges b pool) (to ∷ edges b more)

    -- its end is within the block's history, and no reference stands there
    at-end : (to ≤ length (block ++ rest)) × (is_empty (refs_at to (block ++ rest)) ≡ true)
    unfolding edges_empty
    at-end =
        let self : (to == to) ≡ true = grind (arith, nat_tests) in
        let there : has (edges b (pool ++ i ∷ more)) to ≡ true = has-edge to ∙ or_right (has (edges b pool) to) (has (to ∷ edges b more) to) (ap (λ u. u || has (edges b more) to) self) in
        let test = list_all-has (λ m. nat_le m (length (block ++ rest)) && is_empty (refs_at m (block ++ rest))) (edges b (pool ++ i ∷ more)) to law.empty there in
        let parts = and_parts (nat_le to (length (block ++ rest))) (is_empty (refs_at to (block ++ rest))) test in
        (leb-true to (length (block ++ rest)) parts.0, parts.1)

    not-low : (m : ℕ) → state.edge < m → has (edges b pool) m ≡ true → ⊥
    not-low m above h = let between = has-all (Between 0 state.edge) (edges b pool) m edge-low h in let low = between.below in omega (arith, above, low)

    not-past : length block < to → ⊥
    unfolding lives_referred
    not-past less =
        let inside : length block < length (block ++ rest) = (let end = at-end.0 in omega (arith, less, end)) in
        let test : (has (edges b (pool ++ i ∷ more)) (length block) || not (is_empty (refs_at (length block) (block ++ rest)))) ≡ true =
        all_below_at (length (block ++ rest)) (λ m. has (edges b (pool ++ i ∷ more)) m || not (is_empty (refs_at m (block ++ rest)))) law.referred (length block) inside in
        let nothing : is_empty (refs_at (length block) (block ++ rest)) ≡ true = ap is_empty (refs-at-front (length block) (omega arith) ∙ none) in
        let edge : (has (edges b (pool ++ i ∷ more)) (length block) || not true) ≡ true = subst (λ u. (has (edges b (pool ++ i ∷ more)) (length block) || not u) ≡ true) nothing test in
        found (has (edges b pool) (length block)) refl (to == length block) refl (sides (has (edges b pool) (length block)) (has (to ∷ edges b more) (length block)) (subst (λ u. (u || not true) ≡ true) (has-edge (length block)) edge))
      where
        sides : (u v : Bool) → ((u || v) || not true) ≡ true → (u || v) ≡ true
        sides true v h = refl
        sides false true h = refl
        sides false false h = h

        found : (u : Bool) → has (edges b pool) (length block) ≡ u → (v : Bool) → (to == length block) ≡ v → (has (edges b pool) (length block) || ((to == length block) || has (edges b more) (length block))) ≡ true → ⊥
        found true e v f h = not-low (length block) past e
        found false e true f h = let is_end : to ≡ length block = eqb-true to (length block) f in omega (arith, is_end, less)
        found false e false f h =
            let there : has (edges b more) (length block) ≡ true = later (has (edges b pool) (length block)) (to == length block) e f h in
            let high = has-all (λ m. to ≤ m) (edges b more) (length block) edges-high there in
            omega (arith, high, less)
          where
            later : (u v : Bool) → u ≡ false → v ≡ false → (u || (v || has (edges b more) (length block))) ≡ true → has (edges b more) (length block) ≡ true
            later false false e f h = h
            later true v e f h = absurd (cc)
            later false true e f h = absurd (cc)

    not-before : to < length block → ⊥
    unfolding lives_referred
    not-before less =
        let test : (has (edges b pool) to || not (is_empty (refs_at to block))) ≡ true =
        all_below_at (length block) (λ m. has (edges b pool) m || not (is_empty (refs_at m block))) lives.referred to less in
        let nothing : is_empty (refs_at to block) ≡ true = ap is_empty (sym (refs-at-front to (omega (arith, less)))) ∙ at-end.1 in
        let edge : (has (edges b pool) to || not true) ≡ true = subst (λ u. (has (edges b pool) to || not u) ≡ true) nothing test in
        not-low to ends.1 (only (has (edges b pool) to) edge)
      where
        only : (u : Bool) → (u || not true) ≡ true → u ≡ true
        only true h = refl
        only false h = h

    pub back-there : to ≡ length block
    back-there = go (nat_lt to (length block)) refl (nat_lt (length block) to) refl
      where
        go : (u : Bool) → nat_lt to (length block) ≡ u → (v : Bool) → nat_lt (length block) to ≡ v → to ≡ length block
        go true e v f = absurd (not-before (ltb-true to (length block) e))
        go false e true f = absurd (not-past (ltb-true (length block) to f))
        go false e false f = grind (arith, nat_tests, e, f)

-- The records of a pool, of the next record of a serial order.
module _ (sys : System) (lanes : List (List Rec)) (order A B : List RecordPlace) (x : RecordPlace) (i : Item) (serial : IsSerial lanes order) (split : order ≡ A ++ x ∷ B)
    (at : item_at lanes x ≡ Some i) (words : Words sys lanes) (W : List (List Rec)) (O : List ℕ) (hists : (w : Word) → hist w (all_items W) ≡ on_word w (items_at lanes A)) (world : SoundWorld sys W O)
    (H : List Token) (few : (t : Token) → count_of t H ≤ count_of t (hands_in sys W O)) (o : ℕ) where
  -- the histories of a pool and of its block
  pool-history : (p mark : ℕ) → IsTrue (is_pool sys p) → touch i ≡ Draws (word.Pool p) mark
      → hist (word.Pool p) (all_items lanes) ≡ hist (word.Pool p) (all_items W) ++ i ∷ on_word (word.Pool p) (items_at lanes B)
  pool-history p mark h draws =
      let on : drawn_on (word.Pool p) (touch i) ≡ true = ap (drawn_on (word.Pool p)) draws ∙ same_word-refl (word.Pool p) in
      history sys lanes order A B x i serial split at words W O hists (free_blocks (blocks_of sys p)) (word.Pool p) (words.pools p h)
      ∙ ap (λ b. hist (word.Pool p) (all_items W) ++ cond b (i ∷ on_word (word.Pool p) (items_at lanes B)) (on_word (word.Pool p) (items_at lanes B))) on

  block-history : (p b : ℕ) → IsTrue (is_block sys p b) → hist (word.Block p b) (all_items lanes) ≡ hist (word.Block p b) (all_items W) ++ on_word (word.Block p b) (i ∷ items_at lanes B)
  block-history p b h = history sys lanes order A B x i serial split at words W O hists references (word.Block p b) (words.blocks p b h)

  law-there : (p b mark : ℕ) → IsTrue (is_block sys p b) → IsTrue (is_pool sys p) → touch i ≡ Draws (word.Pool p) mark
      → HasLives b (hist (word.Pool p) (all_items W) ++ i ∷ on_word (word.Pool p) (items_at lanes B)) (hist (word.Block p b) (all_items W) ++ on_word (word.Block p b) (i ∷ items_at lanes B))
  law-there p b mark h pool draws =
      subst (λ xs. HasLives b xs (hist (word.Block p b) (all_items W) ++ on_word (word.Block p b) (i ∷ items_at lanes B))) (pool-history p mark pool draws)
      (subst (HasLives b (hist (word.Pool p) (all_items lanes))) (block-history p b h) (words.lives p b h))

  block-count : (p b : ℕ) → IsTrue (is_block sys p b) → (refs_in W p b).count ≡ length (hist (word.Block p b) (all_items W))
  unfolding refs_in
  block-count p b h = count-after references references-counts (hist (word.Block p b) (all_items W)) (world.sound.words.blocks p b h).allowed

  pub new-may : (p n b from sig : ℕ) (pars : List ℕ) → i ≡ record { of = o; body = item.New p n b from sig pars } → IsTrue (is_pool sys p) → IsTrue (is_block sys p b)
      → IsTrue (is_event sys (record { sig = sig; pars = pars })) → May sys W (hands_in sys W O) o (item.New p n b from sig pars)
  unfolding May
  new-may p n b from sig pars is pool h event =
      let draws : touch i ≡ Draws (word.Pool p) (suc n) = ap touch is in
      let may : ((n == (pool_in sys W p).count) && is_first b (pool_in sys W p).free) ≡ true =
      subst (λ k. (free_blocks (blocks_of sys p)).may (pool_in sys W p) k ≡ true) is
      (pool-drawn sys lanes order A B x i serial split at words W O hists world (hands_in sys W O) H few p (suc n) pool draws) in
      let all = and_parts (n == (pool_in sys W p).count) (is_first b (pool_in sys W p).free) may in
      let from_is = given-there b (hist (word.Pool p) (all_items W)) (on_word (word.Pool p) (items_at lanes B)) (hist (word.Block p b) (all_items W)) (on_word (word.Block p b) (i ∷ items_at lanes B)) i
      (law-there p b (suc n) h pool draws) (world.sound.words.lives p b h) p n from sig pars (ap (λ k. k.body) is) in
      record { block = h; number = eqb-true n (pool_in sys W p).count all.0; lowest = all.1; since = from_is ∙ sym (block-count p b h); event = event }

  pub back-may : (p n b to : ℕ) → i ≡ record { of = o; body = item.Back p n b to } → IsTrue (is_pool sys p) → IsTrue (is_block sys p b) → IsTrue (stands (Loose p b true) H)
      → May sys W (hands_in sys W O) o (item.Back p n b to)
  unfolding May refs_at refs_in life_in
  back-may p n b to is pool h token =
      let draws : touch i ≡ Draws (word.Pool p) (suc n) = ap touch is in
      let there : IsTrue (stands (Loose p b true) (hands_in sys W O)) = stands-too sys lanes order A B x i serial split at words W O hists world (hands_in sys W O) H few (Loose p b true) token in
      let used = (world.sound.block p b h).used_is (stands-times (Loose p b true) (hands_in sys W O) there) in
      let may = pool-drawn sys lanes order A B x i serial split at words W O hists world (hands_in sys W O) H few p (suc n) pool draws in
      let first = back-first p n b to (subst (λ k. (free_blocks (blocks_of sys p)).may (pool_in sys W p) k ≡ true) is may) in
      let until = back-there b (hist (word.Pool p) (all_items W)) (on_word (word.Pool p) (items_at lanes B)) (hist (word.Block p b) (all_items W)) (on_word (word.Block p b) (i ∷ items_at lanes B)) i
      (law-there p b (suc n) h pool draws) (world.sound.words.lives p b h) p n to (ap (λ k. k.body) is) (whole p b used.0) (past p b h used.2) in
      record { block = h; number = eqb-true n (pool_in sys W p).count first; until = until ∙ sym (block-count p b h); token = there }
    where
      back-first : (p n b to : ℕ) → (free_blocks (blocks_of sys p)).may (pool_in sys W p) (record { of = o; body = item.Back p n b to }) ≡ true → (n == (pool_in sys W p).count) ≡ true
      back-first p n b to h = (and_parts (n == (pool_in sys W p).count) (nat_lt b (blocks_of sys p)) (and_parts ((n == (pool_in sys W p).count) && nat_lt b (blocks_of sys p)) _ h).0).0

      whole : (p b : ℕ) → (refs_in W p b).names ≡ [] → refs_at (length (hist (word.Block p b) (all_items W))) (hist (word.Block p b) (all_items W)) ≡ []
      whole p b none = ap (λ h. (after references h).names) (take_all (length (hist (word.Block p b) (all_items W))) (hist (word.Block p b) (all_items W)) (omega arith)) ∙ none

      past : (p b : ℕ) → IsTrue (is_block sys p b) → (life_in W p b).edge < (refs_in W p b).count → (after (life_of b) (hist (word.Pool p) (all_items W))).edge < length (hist (word.Block p b) (all_items W))
      past p b h less = let count = block-count p b h in omega (arith, less, count)
