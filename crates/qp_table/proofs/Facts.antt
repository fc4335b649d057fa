-- What the rule tells of a word that a lane finds.
use Rattle.std.proofs.Common.{◌≡◌, ℕ, zero, suc, ◌+◌, ◌*◌, ◌/◌, ◌%◌, ◌^◌, ◌<◌, ◌≤◌, List, [], ◌∷◌, Bool, true, false, cond, length, take, get_or, refl, sym, ap, subst, ◌∙◌, arith, eqb, ltb, eqb-true, pow-suc, pow_mono, IsTrue}
use mathlib.Core.Option.{some}
use mathlib.Core.Logic.{dite}
use native.Mathlib.Decide.{ℕ_discrete}
use lib.ListN.{get_elem?}
use Rattle.qp_model.specs.declared.systems.System.{System}
use Rattle.qp_model.specs.declared.words.Word.{Word}
use Rattle.qp_model.specs.declared.words.Word.TheVariants as word
use Rattle.qp_model.specs.Record.{Item}
use Rattle.qp_model.specs.History.{hist, all_items}
use Rattle.qp_model.specs.Lists.{count_up}
use Rattle.qp_model.specs.Machine.{Machine, after, after_from}
use Rattle.qp_model.specs.FreeBlocks.{free_blocks}
use Rattle.qp_model.specs.References.{references}
use Rattle.qp_model.specs.Line.{line}
use Rattle.qp_model.specs.Sites.{ring_of, blocks_of}
use Rattle.qp_table.specs.Counting.{Each}
use Rattle.qp_table.specs.Rule.{Fitting, bits_value, mark_in, pool_at, block_at, queue_at, pool_value, refs_value, line_value, Holds}
use Rattle.qp_table.specs.declared.view.Glance.{Glance}
use Rattle.qp_table.specs.declared.view.View.{View}
use Rattle.qp_table.proofs.Views.{SawFrom}
use Rattle.qp_table.proofs.Marks.{low-mark, pool-mark, block-mark, queue-mark}
use Rattle.qp_table.specs.Words.{place_of, is_here, first_value, later, latest, value_seen, Ahead}
use Rattle.qp_table.specs.ViewLaws.{FoundWordsAreAhead}

pub none-long : {X : Type 0} (xs : List X) → length xs ≡ 0 → xs ≡ []
none-long [] e = refl
none-long (x ∷ xs) e = absurd (omega arith)

-- what a word was before its first operation, by its history h: value is what it packs
first-of : {S : Type 0} (m : Machine S) (value : S → ℕ) (h : List Item) (now : S) (was : ℕ → ℕ) (x : ℕ)
    → after m h ≡ now → x ≡ value now → x ≡ was (length h) → (0 < length h → was 0 ≡ value (after m (take 0 h))) → was 0 ≡ value (after m [])
first-of m value h now was x leaves shows here past = dite (ℕ_discrete (length h) 0)
    (λ none. ap was (sym none) ∙ (sym here ∙ (shows ∙ (ap value (sym leaves) ∙ ap (λ k. value (after m k)) (none-long h none)))))
    (λ some_. past (omega arith))

module _ (sys : System) (words : List ℕ) (views : List View) (holds : Holds sys words views) where
  low : (w : Word) → IsTrue (is_here sys w) → place_of w < 4488
  low (word.Pool p) h = let z = holds.fitting.small p h in let z0 = z.0 in omega arith
  low (word.Block p b) h = let z = holds.fitting.pools p b h in let z1 = z.1 in let z2 = z.2 in omega arith
  low (word.Queue a) h = let z = holds.fitting.objects a h in let z0 = z.0 in omega arith
  low (word.Signal a) h = omega arith
  low (word.Timer a) h = omega arith

  -- what was seen of a word before all is what it was then
  first-was : (w : Word) → IsTrue (is_here sys w) → first_value sys w ≡ holds.was (place_of w) 0
  first-was (word.Pool p) h = sym (first-of (free_blocks (blocks_of sys p)) pool_value (hist (word.Pool p) (all_items holds.lanes)) (holds.now.pool p) (holds.was (pool_at p)) (get_or words (pool_at p) 0)
      (holds.leaves.pool p h) (holds.shows.pools p h) (holds.seen.now (pool_at p) (low (word.Pool p) h) ∙ ap (holds.was (pool_at p)) (pool-mark sys words views holds p h)) (holds.past.pool p 0 h))
  first-was (word.Block p b) h = sym (first-of references refs_value (hist (word.Block p b) (all_items holds.lanes)) (holds.now.refs p b) (holds.was (block_at p b)) (get_or words (block_at p b) 0)
      (holds.leaves.refs p b h) (holds.shows.blocks p b h) (holds.seen.now (block_at p b) (low (word.Block p b) h) ∙ ap (holds.was (block_at p b)) (block-mark sys words views holds p b h)) (holds.past.refs p b 0 h))
  first-was (word.Queue a) h = sym (first-of (line (ring_of sys a)) line_value (hist (word.Queue a) (all_items holds.lanes)) (holds.now.line a) (holds.was (queue_at a)) (get_or words (queue_at a) 0)
      (holds.leaves.line a h) (holds.shows.queues a h) (holds.seen.now (queue_at a) (low (word.Queue a) h) ∙ ap (holds.was (queue_at a)) (queue-mark sys words views holds a h)) (holds.past.line a 0 h))
  first-was (word.Signal a) h = absurd (cc)
  first-was (word.Timer a) h = absurd (cc)

  abbrev Past : ℕ → ℕ → Type 0
  Past w y = (mark_in w y ≤ mark_in w (get_or words w 0)) × (y ≡ holds.was w (mark_in w y))

  later-case : (w x y : ℕ) → Past w x → Past w y → (t : Bool) → Past w (cond {A = ℕ} t y x)
  later-case w x y a b true = b
  later-case w x y a b false = a

  latest-past : (w x : ℕ) (seen : List Glance) → Past w x → Each (SawFrom words holds.was) seen → Past w (latest w x seen)
  unfolding latest
  latest-past w x [] p e = p
  latest-past w x (g ∷ seen) p e = latest-past w (cond (eqb g.word w) (later w x g.value) x) seen (go (eqb g.word w) refl) e.1
    where
      go : (t : Bool) → eqb g.word w ≡ t → Past w (cond {A = ℕ} t (later w x g.value) x)
      go true is = later-case w x g.value p (subst (λ z. Past z g.value) (eqb-true g.word w is) (e.0.1, e.0.2)) (ltb (mark_in w x) (mark_in w g.value))
      go false is = p

  seen-past : (id : ℕ) (v : View) → get_elem? views id ≡ some v → (w : Word) → IsTrue (is_here sys w) → mark_in (place_of w) (first_value sys w) ≡ 0 → Past (place_of w) (value_seen sys w v.seen)
  unfolding value_seen
  seen-past id v at w h zero_mark = latest-past (place_of w) (first_value sys w) v.seen (omega arith, first-was w h ∙ ap (holds.was (place_of w)) (sym zero_mark)) (holds.seen.each id v at)

  -- of a word that a lane finds, it has seen nothing later
  pub ahead : (id : ℕ) (v : View) → get_elem? views id ≡ some v → (w : Word) → IsTrue (is_here sys w) → mark_in (place_of w) (first_value sys w) ≡ 0 → Ahead sys w v (get_or words (place_of w) 0)
  ahead id v at w h zero_mark = let p = seen-past id v at w h zero_mark in record {
    le = p.0;
    same = λ e. p.1 ∙ (ap (holds.was (place_of w)) e ∙ sym (holds.seen.now (place_of w) (low w h)));
  }

pub map-full : (from n : ℕ) → bits_value (count_up from n) + 2 ^ from ≡ 2 ^ (from + n)
map-full from zero = let e : 2 ^ (from + 0) ≡ 2 ^ from = ap (λ k. 2 ^ k) (let z : from + 0 ≡ from = omega arith in z) in omega arith
map-full from (suc n) =
    let r : bits_value (count_up (from + 1) n) + 2 ^ (from + 1) ≡ 2 ^ (from + 1 + n) = map-full (from + 1) n in
    let a : from + 1 ≡ suc from = omega arith in let e : from + 1 + n ≡ from + suc n = omega arith in
    let p : 2 ^ (from + 1) ≡ 2 ^ from * 2 = ap (λ k. 2 ^ k) a ∙ pow-suc 2 from in
    let q : 2 ^ (from + 1 + n) ≡ 2 ^ (from + suc n) = ap (λ k. 2 ^ k) e in
    omega arith

pub zero-mark : (w : ℕ) → mark_in w 0 ≡ 0
zero-mark w = go (ltb w 4224)
  where
    go : (t : Bool) → cond {A = ℕ} t (0 / 4294967296) (0 % 2097152 + 0 / 2097152 % 2097152 + 0 / 4398046511104) ≡ 0
    go true = refl
    go false = refl

-- before its first operation a word shows none
first-mark : (sys : System) → Fitting sys → (w : Word) → IsTrue (is_here sys w) → mark_in (place_of w) (first_value sys w) ≡ 0
unfolding after after_from
first-mark sys fits (word.Pool p) h =
    let z = fits.small p h in let z0 = z.0 in let z1 = z.1 in
    let full = map-full 0 (blocks_of sys p) in let up : 2 ^ blocks_of sys p ≤ 2 ^ 32 = pow_mono {j = 32} (omega arith) in
    let e : 2 ^ (0 + blocks_of sys p) ≡ 2 ^ blocks_of sys p = ap (λ k. 2 ^ k) (let y : 0 + blocks_of sys p ≡ blocks_of sys p = omega arith in y) in
    low-mark (pool_at p) (first_value sys (word.Pool p)) (omega arith) ∙ omega arith
first-mark sys fits (word.Block p b) h = zero-mark (block_at p b)
first-mark sys fits (word.Queue a) h = zero-mark (queue_at a)
first-mark sys fits (word.Signal s) h = absurd (cc)
first-mark sys fits (word.Timer t) h = absurd (cc)

pub found-ahead : FoundWordsAreAhead
found-ahead sys words views holds id v at w h = ahead sys words views holds id v at w h (first-mark sys holds.fitting w h)
