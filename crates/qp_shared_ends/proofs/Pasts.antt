-- What lanes saw of words is what these were after so many of their operations.
use Rattle.std.proofs.Common.{◌≡◌, ℕ, ◌+◌, ◌*◌, ◌/◌, ◌%◌, ◌<◌, ◌≤◌, Bool, true, false, ◌&&◌, ◌||◌, List, [], ◌∷◌, length, take, drop, get_or, refl, sym, ◌∙◌, ap, subst, arith, eqb, eqb-true, IsTrue, length-take}
use Rattle.std.specs.Prelude.{count_ones}
use Rattle.std.proofs.lemmas.Bool.{and_parts}
use Rattle.std.proofs.lemmas.List.{take_all, take-append-drop}
use mathlib.Core.Logic.{dite}
use native.Mathlib.Decide.{ℕ_discrete}
use Rattle.qp_model.specs.declared.record.Rec.{Rec}
use Rattle.qp_model.specs.declared.systems.System.{System}
use Rattle.qp_model.specs.declared.words.Word.TheVariants as word
use Rattle.qp_model.specs.Record.{Item}
use Rattle.qp_model.specs.History.{touch, hist, all_items}
use Rattle.qp_model.specs.Machine.{Machine, after, is_allowed}
use Rattle.qp_model.specs.FreeBlocks.{Pool, free_blocks}
use Rattle.qp_model.specs.References.{Refs, references}
use Rattle.qp_model.specs.Sites.{blocks_of}
use Rattle.qp_model.specs.WordLaw.{is_pool, is_block}
use Rattle.qp_model.proofs.MachineLemmas.{is_allowed-front, count-after}
use Rattle.qp_model.proofs.WordLawLemmas.{free_blocks-counts, references-counts}
use Rattle.qp_plain_sound.specs.WordStates.{pool_in, refs_in}
use Rattle.qp_table.specs.Counting.{Each}
use Rattle.qp_table.specs.TwoTables.{on_table, Thins}
use Rattle.qp_table.specs.Rule.{pool_at, block_at, pool_value, refs_value, bits_value, mark_in, Was, Holds}
use Rattle.qp_table.specs.declared.view.Glance.{Glance}
use Rattle.qp_table.specs.declared.view.View.{View}
use Rattle.qp_table.proofs.Views.{SawFrom}
use Rattle.qp_table.proofs.Marks.{low-mark, pool-mark, block-mark}
use Rattle.qp_table.proofs.Maps.{ones-length}
use Rattle.qp_shared_lane.specs.Holds.{was_seen}
use Rattle.qp_shared_ends.specs.Lanes.{lanes_recs}
use Rattle.qp_shared_ends.specs.SeatEnd.{AtEnd}
use Rattle.qp_shared_ends.proofs.Histories.{pool-hist, block-hist, pool-is, refs-is}
use Rattle.qp_shared_ends.proofs.Maps.{free-ascend}

front-allowed : {S : Type 0} (m : Machine S) (k : ℕ) (history : List Item) → is_allowed m history ≡ true → is_allowed m (take k history) ≡ true
front-allowed m k history h = is_allowed-front m (take k history) (drop k history) (subst (λ z. is_allowed m z ≡ true) (sym (take-append-drop k history)) h)

-- one of the glances
abbrev Found : List ℕ → Was → ℕ → (ℕ → Bool) → Type 0
Found words was w test = (x : ℕ) × (test x ≡ true) × (mark_in w x ≤ mark_in w (get_or words w 0)) × (x ≡ was w (mark_in w x))

glance-at : (words : List ℕ) (was : Was) (w : ℕ) (test : ℕ → Bool) (seen : List Glance) → Each (SawFrom words was) seen → was_seen seen w test ≡ true → Found words was w test
glance-at words was w test [] e h = absurd (cc)
glance-at words was w test (g ∷ gs) e h = go (eqb g.word w) refl (test g.value) refl h (λ k. glance-at words was w test gs e.1 k)
  where
    go : (a : Bool) → eqb g.word w ≡ a → (b : Bool) → test g.value ≡ b → ((a && b) || was_seen gs w test) ≡ true → (was_seen gs w test ≡ true → Found words was w test) → Found words was w test
    go true at true ok h r = subst (λ z. Found words was z test) (eqb-true g.word w at) (g.value, ok, e.0.1, e.0.2)
    go true at false ok h r = r h
    go false at b ok h r = r h

module _ (sys : System) (v : View) (end : AtEnd sys v) (js : List (List Rec)) (thin : Thins (λ i. on_table (touch i)) js (lanes_recs v.logs)) where
  abbrev h : Holds sys end.words end.views
  h = end.holds

  module _ (p : ℕ) (pool : IsTrue (is_pool sys p)) where
    abbrev ps : List Item
    ps = hist (word.Pool p) (all_items js)

    same-pool : ps ≡ hist (word.Pool p) (all_items h.lanes)
    same-pool = pool-hist sys end.words end.views h end.id v end.is end.all js thin p pool

    pub pool-long : mark_in (pool_at p) (get_or end.words (pool_at p) 0) ≡ length ps
    pool-long = pool-mark sys end.words end.views h p pool ∙ ap length (sym same-pool)

    pool-allowed : is_allowed (free_blocks (blocks_of sys p)) ps ≡ true
    pool-allowed = subst (λ z. is_allowed (free_blocks (blocks_of sys p)) z ≡ true) (sym same-pool) (h.leaves.law.pools p pool).allowed

    pool-past : (k : ℕ) → k ≤ length ps → h.was (pool_at p) k ≡ pool_value (after (free_blocks (blocks_of sys p)) (take k ps))
    unfolding pool_in
    pool-past k le = let few = (h.fitting.small p pool).0 in dite (ℕ_discrete k (length ps))
        (λ e. ap (h.was (pool_at p)) (e ∙ sym pool-long) ∙ (sym (h.seen.now (pool_at p) (omega arith)) ∙ (h.shows.pools p pool
        ∙ ap pool_value (sym (pool-is sys end.words end.views h end.id v end.is end.all js thin p pool) ∙ ap (after (free_blocks (blocks_of sys p))) (sym (take_all k ps (omega arith)))))))
        (λ ne. h.past.pool p k pool (let l = ap length same-pool in omega arith) ∙ ap (λ z. pool_value (after (free_blocks (blocks_of sys p)) (take k z))) (sym same-pool))

    -- the free blocks at a number of which a lane saw how many they are
    pub free-seen : (seen : List Glance) → Each (SawFrom end.words h.was) seen → (n k : ℕ) → was_seen seen (pool_at p) (λ x. eqb (x / 4294967296) n && eqb (count_ones (x % 4294967296)) k) ≡ true
        → k ≡ length (after (free_blocks (blocks_of sys p)) (take n ps)).free
    free-seen seen e n k there = found (glance-at end.words h.was (pool_at p) (λ x. eqb (x / 4294967296) n && eqb (count_ones (x % 4294967296)) k) seen e there)
      where
        few : p < 16
        few = (h.fitting.small p pool).0

        found : Found end.words h.was (pool_at p) (λ x. eqb (x / 4294967296) n && eqb (count_ones (x % 4294967296)) k) → k ≡ length (after (free_blocks (blocks_of sys p)) (take n ps)).free
        found z =
            let s : Pool = after (free_blocks (blocks_of sys p)) (take n ps) in
            let x = z.0 in let t = and_parts (eqb (x / 4294967296) n) (eqb (count_ones (x % 4294967296)) k) z.1 in
            let at : x / 4294967296 ≡ n = eqb-true (x / 4294967296) n t.0 in let ones : count_ones (x % 4294967296) ≡ k = eqb-true (count_ones (x % 4294967296)) k t.1 in
            let f = few in let mark : mark_in (pool_at p) x ≡ n = low-mark (pool_at p) x (omega arith) ∙ at in
            let le : n ≤ length ps = (let m = z.2 in let l = pool-long in omega arith) in
            let value : x ≡ s.count * 4294967296 + bits_value s.free = z.3 ∙ (ap (h.was (pool_at p)) mark ∙ pool-past n le) in
            let allowed = front-allowed (free_blocks (blocks_of sys p)) n ps pool-allowed in
            let count : s.count ≡ n = count-after (free_blocks (blocks_of sys p)) (free_blocks-counts (blocks_of sys p)) (take n ps) allowed ∙ (let l = length-take n ps in omega arith) in
            let bits : x % 4294967296 ≡ bits_value s.free = omega arith in
            sym ones ∙ (ap count_ones bits ∙ ones-length 0 (blocks_of sys p) s.free (free-ascend (blocks_of sys p) (take n ps) allowed))

  module _ (p b : ℕ) (block : IsTrue (is_block sys p b)) where
    abbrev bs : List Item
    bs = hist (word.Block p b) (all_items js)

    same-block : bs ≡ hist (word.Block p b) (all_items h.lanes)
    same-block = block-hist sys end.words end.views h end.id v end.is end.all js thin p b block

    pub block-long : mark_in (block_at p b) (get_or end.words (block_at p b) 0) ≡ length bs
    block-long = block-mark sys end.words end.views h p b block ∙ ap length (sym same-block)

    block-allowed : is_allowed references bs ≡ true
    block-allowed = subst (λ z. is_allowed references z ≡ true) (sym same-block) (h.leaves.law.blocks p b block).allowed

    block-past : (k : ℕ) → k ≤ length bs → h.was (block_at p b) k ≡ refs_value (after references (take k bs))
    unfolding refs_in
    block-past k le = let few = h.fitting.pools p b block in let few1 = few.1 in let few2 = few.2 in dite (ℕ_discrete k (length bs))
        (λ e. ap (h.was (block_at p b)) (e ∙ sym block-long) ∙ (sym (h.seen.now (block_at p b) (omega arith)) ∙ (h.shows.blocks p b block
        ∙ ap refs_value (sym (refs-is sys end.words end.views h end.id v end.is end.all js thin p b block) ∙ ap (after references) (sym (take_all k bs (omega arith)))))))
        (λ ne. h.past.refs p b k block (let l = ap length same-block in omega arith) ∙ ap (λ z. refs_value (after references (take k z))) (sym same-block))

    -- the references after a number of which a lane saw how many they are
    pub left-seen : (seen : List Glance) → Each (SawFrom end.words h.was) seen → (n k : ℕ) → was_seen seen (block_at p b) (λ x. eqb (x / 4294967296) n && eqb (x % 4294967296) k) ≡ true
        → k ≡ length (after references (take n bs)).names
    left-seen seen e n k there = found (glance-at end.words h.was (block_at p b) (λ x. eqb (x / 4294967296) n && eqb (x % 4294967296) k) seen e there)
      where
        few : (0 < p) × (p < 16) × (b < 32)
        few = h.fitting.pools p b block

        found : Found end.words h.was (block_at p b) (λ x. eqb (x / 4294967296) n && eqb (x % 4294967296) k) → k ≡ length (after references (take n bs)).names
        found z =
            let s : Refs = after references (take n bs) in
            let x = z.0 in let t = and_parts (eqb (x / 4294967296) n) (eqb (x % 4294967296) k) z.1 in
            let at : x / 4294967296 ≡ n = eqb-true (x / 4294967296) n t.0 in let left : x % 4294967296 ≡ k = eqb-true (x % 4294967296) k t.1 in
            let f1 = few.1 in let f2 = few.2 in let mark : mark_in (block_at p b) x ≡ n = low-mark (block_at p b) x (omega arith) ∙ at in
            let le : n ≤ length bs = (let m = z.2 in let l = block-long in omega arith) in
            let value : x ≡ s.count * 4294967296 + length s.names = z.3 ∙ (ap (h.was (block_at p b)) mark ∙ block-past n le) in
            let count : s.count ≡ n = count-after references references-counts (take n bs) (front-allowed references n bs block-allowed) ∙ (let l = length-take n bs in omega arith) in
            omega arith
