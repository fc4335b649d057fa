-- How many operations each word shows: as many as its history has.
use Rattle.std.proofs.Common.{◌≡◌, ℕ, suc, ◌+◌, ◌/◌, ◌%◌, ◌<◌, ◌≤◌, List, [], ◌∷◌, Bool, true, false, cond, length, get_or, refl, sym, ap, subst, ◌∙◌, arith, eqb, eqb-true, IsTrue, lt-ltb, le-ltb}
use mathlib.Core.Option.{some}
use mathlib.Core.Logic.{dite}
use native.Mathlib.Decide.{ℕ_discrete}
use lib.ListN.{get_elem?}
use Rattle.qp_model.specs.declared.systems.System.{System}
use Rattle.qp_model.specs.declared.words.Word.TheVariants as word
use Rattle.qp_model.specs.History.{hist, all_items}
use Rattle.qp_model.specs.FreeBlocks.{Pool, free_blocks}
use Rattle.qp_model.specs.References.{Refs, references}
use Rattle.qp_model.specs.Line.{Line, line}
use Rattle.qp_model.specs.Sites.{ring_of, blocks_of}
use Rattle.qp_model.specs.WordLaw.{is_pool, is_block, is_object}
use Rattle.qp_model.proofs.MachineLemmas.{count-after}
use Rattle.qp_model.proofs.LineLemmas.{line-counts}
use Rattle.qp_model.proofs.WordLawLemmas.{free_blocks-counts, references-counts}
use Rattle.qp_table.specs.Counting.{Each, sum_over, many}
use Rattle.qp_table.specs.Now.{Now}
use Rattle.qp_table.specs.Rule.{pool_at, block_at, queue_at, mark_in, is_serve, Served, QueueCells, Holds}
use Rattle.qp_table.specs.declared.view.SeatLog.{SeatLog}
use Rattle.qp_table.specs.declared.view.Serve.{Serve}
use Rattle.qp_table.specs.declared.view.View.{View}
use Rattle.qp_table.proofs.Tokens.{b2n}
use Rattle.qp_table.proofs.Bounds.{pool-ascends, refs-count, map-small}

-- one of a sum that isn't 0
some-of : {A : Type 0} (f : A → ℕ) (xs : List A) → 0 < sum_over f xs → (i : ℕ) × (x : A) × (get_elem? xs i ≡ some x) × (0 < f x)
some-of f [] h = absurd (omega arith)
some-of f (x ∷ xs) h = dite (ℕ_discrete (f x) 0)
    (λ z. let r = some-of f xs (omega arith) in (suc r.0, r.1, r.2, r.3))
    (λ n. (0, x, refl, omega arith))

served-count : (a : ℕ) (now : Now) (logs : List SeatLog) (xs : List Serve) → 0 < many (is_serve a) xs → Each (Served now logs) xs → (now.line a).l + (now.line a).m ≤ 1000001
served-count a now logs [] h e = absurd (omega arith)
served-count a now logs (x ∷ xs) h e = go (eqb x.object a) refl (served-count a now logs xs) h
  where
    go : (t : Bool) → eqb x.object a ≡ t → (0 < many (is_serve a) xs → Each (Served now logs) xs → (now.line a).l + (now.line a).m ≤ 1000001) → 0 < cond t 1 0 + many (is_serve a) xs → (now.line a).l + (now.line a).m ≤ 1000001
    go true is rest l = subst (λ z. (now.line z).l + (now.line z).m ≤ 1000001) (eqb-true x.object a is) (let p = e.0 in let p0 = p.lifos in let p1 = p.takes in let p2 = p.few in omega arith)
    go false is rest l = rest (omega arith) e.1

pub low-mark : (w x : ℕ) → w < 4224 → mark_in w x ≡ x / 4294967296
low-mark w x l = ap (λ (t : Bool). cond {A = ℕ} t (x / 4294967296) (x % 2097152 + x / 2097152 % 2097152 + x / 4398046511104)) (lt-ltb w 4224 l)

pub high-mark : (w x : ℕ) → 4224 ≤ w → mark_in w x ≡ x % 2097152 + x / 2097152 % 2097152 + x / 4398046511104
high-mark w x l = ap (λ (t : Bool). cond {A = ℕ} t (x / 4294967296) (x % 2097152 + x / 2097152 % 2097152 + x / 4398046511104)) (le-ltb w 4224 l)

module _ (sys : System) (words : List ℕ) (views : List View) (holds : Holds sys words views) where
  abbrev now : Now
  now = holds.now

  module _ (a : ℕ) (object : IsTrue (is_object sys a)) where
    abbrev s : Line
    s = now.line a

    abbrev n : ℕ
    n = ring_of sys a + 1

    abbrev q : QueueCells sys n words a s (holds.items a)
    q = holds.queues.queue a object

    -- the queue's word
    abbrev w : ℕ
    w = get_or words (queue_at a) 0

    inside : (a < 33) × (ring_of sys a < 256)
    inside = holds.fitting.objects a object

    -- the home lane made all last-in posts and takes, so there are few
    pub own-counts : s.l + s.m ≤ 1000001
    own-counts = let t : sum_over (λ (v : View). many (is_serve a) v.serves) views ≡ 1 = holds.queues.serves a ∙ ap b2n object in
        let z = some-of (λ (v : View). many (is_serve a) v.serves) views (omega arith) in
        served-count a now z.1.logs z.1.serves z.3 (holds.queues.home z.0 z.1 z.2).counts

    pub first-small : s.f ≤ 1000257
    first-small = let c = q.counted in let sh = q.short in let r = own-counts in let i = inside.1 in omega arith

    -- the counts that the word shows
    pub line-shows : (w % 2097152 ≡ s.f) × (w / 2097152 % 2097152 ≡ s.l) × (w / 4398046511104 ≡ s.m)
    line-shows = let x = holds.shows.queues a object in let r = own-counts in let f = first-small in (omega arith, omega arith, omega arith)

    pub queue-mark : mark_in (queue_at a) w ≡ length (hist (word.Queue a) (all_items holds.lanes))
    queue-mark = let l = line-shows in let l0 = l.0 in let l1 = l.1 in let l2 = l.2 in let h = high-mark (queue_at a) w (omega arith) in
        let c = ap (λ (x : Line). x.f + x.l + x.m) (sym (holds.leaves.line a object)) ∙ count-after (line (ring_of sys a)) (line-counts (ring_of sys a)) (hist (word.Queue a) (all_items holds.lanes)) (holds.leaves.law.queues a object).allowed in omega arith

  pub pool-mark : (p : ℕ) → IsTrue (is_pool sys p) → mark_in (pool_at p) (get_or words (pool_at p) 0) ≡ length (hist (word.Pool p) (all_items holds.lanes))
  pool-mark p pool = let z = holds.fitting.small p pool in let z0 = z.0 in let small = map-small (blocks_of sys p) (now.pool p).free z.1 (pool-ascends sys holds.lanes now holds.leaves holds.logs.count holds.logs.room p pool) in
      let h = low-mark (pool_at p) (get_or words (pool_at p) 0) (omega arith) in let x = holds.shows.pools p pool in
      let c = ap (λ (x : Pool). x.count) (sym (holds.leaves.pool p pool)) ∙ count-after (free_blocks (blocks_of sys p)) (free_blocks-counts (blocks_of sys p)) (hist (word.Pool p) (all_items holds.lanes)) (holds.leaves.law.pools p pool).allowed in omega arith

  pub block-mark : (p b : ℕ) → IsTrue (is_block sys p b) → mark_in (block_at p b) (get_or words (block_at p b) 0) ≡ length (hist (word.Block p b) (all_items holds.lanes))
  block-mark p b block = let z = holds.fitting.pools p b block in let z1 = z.1 in let z2 = z.2 in let r = refs-count sys holds.lanes now holds.leaves holds.logs.count holds.logs.room p b block in let r0 = r.0 in let r1 = r.1 in
      let h = low-mark (block_at p b) (get_or words (block_at p b) 0) (omega arith) in let x = holds.shows.blocks p b block in
      let c = ap (λ (x : Refs). x.count) (sym (holds.leaves.refs p b block)) ∙ count-after references references-counts (hist (word.Block p b) (all_items holds.lanes)) (holds.leaves.law.blocks p b block).allowed in omega arith
