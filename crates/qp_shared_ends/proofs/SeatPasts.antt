-- What was seen of words, and what they were before all, is what they were after so many operations.
use Rattle.std.proofs.Common.{◌≡◌, ℕ, ◌+◌, ◌^◌, ◌<◌, ◌≤◌, List, [], length, take, get_or, sym, ap, ◌∙◌, arith, IsTrue, pow_mono}
use mathlib.Core.Option.{some}
use mathlib.Core.Logic.{dite}
use native.Mathlib.Decide.{ℕ_discrete}
use lib.ListN.{get_elem?}
use Rattle.qp_model.specs.declared.systems.System.{System}
use Rattle.qp_model.specs.declared.words.Word.{Word}
use Rattle.qp_model.specs.declared.words.Word.TheVariants as word
use Rattle.qp_model.specs.Record.{Item}
use Rattle.qp_model.specs.History.{hist, all_items}
use Rattle.qp_model.specs.Machine.{Machine, after, after_from}
use Rattle.qp_model.specs.FreeBlocks.{free_blocks}
use Rattle.qp_model.specs.References.{references}
use Rattle.qp_model.specs.Line.{line}
use Rattle.qp_model.specs.Sites.{ring_of, blocks_of}
use Rattle.qp_table.specs.Rule.{pool_at, block_at, queue_at, pool_value, refs_value, line_value, mark_in, Fitting, Holds}
use Rattle.qp_table.specs.declared.view.Glance.{Glance}
use Rattle.qp_table.specs.declared.view.View.{View}
use Rattle.qp_table.proofs.Counting.{each-map}
use Rattle.qp_table.proofs.Views.{SawFrom}
use Rattle.qp_table.proofs.Marks.{low-mark, pool-mark, block-mark, queue-mark}
use Rattle.qp_table.specs.Words.{place_of, is_here, first_value}
use Rattle.qp_shared_ends.specs.Seats.{IsOnePast}
use Rattle.qp_table.proofs.Facts.{none-long, map-full, zero-mark}

-- what a word was before its first operation, by its history h: value is what it packs
first-of : {S : Type 0} (m : Machine S) (value : S → ℕ) (h : List Item) (now : S) (was : ℕ → ℕ) (x : ℕ)
    → after m h ≡ now → x ≡ value now → x ≡ was (length h) → (0 < length h → was 0 ≡ value (after m (take 0 h))) → was 0 ≡ value (after m [])
first-of m value h now was x leaves shows here past = dite (ℕ_discrete (length h) 0)
    (λ none. ap was (sym none) ∙ (sym here ∙ (shows ∙ (ap value (sym leaves) ∙ ap (λ k. value (after m k)) (none-long h none)))))
    (λ some_. past (omega arith))

-- before its first operation a word shows none
pub first-mark : (sys : System) → Fitting sys → (w : Word) → IsTrue (is_here sys w) → mark_in (place_of w) (first_value sys w) ≡ 0
unfolding after after_from
first-mark sys fits (word.Pool p) h =
    let z = fits.small p h in let z0 = z.0 in let z1 = z.1 in
    let full = map-full 0 (blocks_of sys p) in let up : 2 ^ blocks_of sys p ≤ 2 ^ 32 = pow_mono {j = 32} (omega arith) in
    let e : 2 ^ (0 + blocks_of sys p) ≡ 2 ^ blocks_of sys p = ap (λ k. 2 ^ k) (let y : 0 + blocks_of sys p ≡ blocks_of sys p = omega arith in y) in
    low-mark (pool_at p) (first_value sys (word.Pool p)) (omega arith) ∙ omega arith
first-mark sys fits (word.Block p b) h = zero-mark (block_at p b)
first-mark sys fits (word.Queue a) h = zero-mark (queue_at a)
first-mark sys fits (word.Signal s) h = absurd (cc)
first-mark sys fits (word.Timer t) h = absurd (cc)

module _ (sys : System) (words : List ℕ) (views : List View) (holds : Holds sys words views) where
  low : (w : Word) → IsTrue (is_here sys w) → place_of w < 4488
  low (word.Pool p) h = let z = holds.fitting.small p h in let z0 = z.0 in omega arith
  low (word.Block p b) h = let z = holds.fitting.pools p b h in let z1 = z.1 in let z2 = z.2 in omega arith
  low (word.Queue a) h = let z = holds.fitting.objects a h in let z0 = z.0 in omega arith
  low (word.Signal a) h = omega arith
  low (word.Timer a) h = omega arith

  first-was : (w : Word) → IsTrue (is_here sys w) → first_value sys w ≡ holds.was (place_of w) 0
  first-was (word.Pool p) h = sym (first-of (free_blocks (blocks_of sys p)) pool_value (hist (word.Pool p) (all_items holds.lanes)) (holds.now.pool p) (holds.was (pool_at p)) (get_or words (pool_at p) 0)
      (holds.leaves.pool p h) (holds.shows.pools p h) (holds.seen.now (pool_at p) (low (word.Pool p) h) ∙ ap (holds.was (pool_at p)) (pool-mark sys words views holds p h)) (holds.past.pool p 0 h))
  first-was (word.Block p b) h = sym (first-of references refs_value (hist (word.Block p b) (all_items holds.lanes)) (holds.now.refs p b) (holds.was (block_at p b)) (get_or words (block_at p b) 0)
      (holds.leaves.refs p b h) (holds.shows.blocks p b h) (holds.seen.now (block_at p b) (low (word.Block p b) h) ∙ ap (holds.was (block_at p b)) (block-mark sys words views holds p b h)) (holds.past.refs p b 0 h))
  first-was (word.Queue a) h = sym (first-of (line (ring_of sys a)) line_value (hist (word.Queue a) (all_items holds.lanes)) (holds.now.line a) (holds.was (queue_at a)) (get_or words (queue_at a) 0)
      (holds.leaves.line a h) (holds.shows.queues a h) (holds.seen.now (queue_at a) (low (word.Queue a) h) ∙ ap (holds.was (queue_at a)) (queue-mark sys words views holds a h)) (holds.past.line a 0 h))
  first-was (word.Signal a) h = absurd (cc)
  first-was (word.Timer a) h = absurd (cc)

  pub one-past : (id : ℕ) (v : View) → get_elem? views id ≡ some v → IsOnePast sys v
  one-past id v at = record {
    was = holds.was;
    one = each-map (SawFrom words holds.was) (λ (g : Glance). g.value ≡ holds.was g.word (mark_in g.word g.value)) (λ g s. s.2) v.seen (holds.seen.each id v at);
    first = λ w h. first-was w h ∙ ap (holds.was (place_of w)) (sym (first-mark sys holds.fitting w h));
  }
