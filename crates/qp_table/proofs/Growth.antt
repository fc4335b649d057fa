-- How the histories of words grow with a record, and what lasts: what words were, and the events of lives.
use Rattle.std.proofs.Common.{◌≡◌, ℕ, suc, ◌+◌, ◌==◌, ◌<◌, ◌≤◌, ◌≢◌, ◌⊎◌, nat_le, Bool, true, false, ◌&&◌, cond, List, [], ◌∷◌, ◌++◌, length, take, get_or, refl, sym, ap, subst, ◌∙◌, inl, inr, ⊎_elim, arith, eqb-true, IsTrue, Option, Some, None, take_all, length-append}
use Rattle.std.proofs.lemmas.Bool.{ne_eqb}
use Rattle.std.proofs.lemmas.List.{take-append-le}
use Rattle.std.proofs.lemmas.Bool.Decides.{nat_tests}
use mathlib.Core.Logic.{dite}
use native.Mathlib.Decide.{ℕ_discrete}
use Rattle.qp_model.specs.declared.record.Rec.{Rec}
use Rattle.qp_model.specs.declared.systems.System.{System}
use Rattle.qp_model.specs.declared.words.Word.{Word}
use Rattle.qp_model.specs.declared.words.Word.TheVariants as word
use Rattle.qp_model.specs.declared.bodies.Body.{Body}
use Rattle.qp_model.specs.declared.bodies.Body.TheVariants.{New, Back}
use Rattle.qp_model.specs.Record.{Item, item_of}
use Rattle.qp_model.specs.Told.{Event}
use Rattle.qp_model.specs.Knowing.{given_by, last_given}
use Rattle.qp_model.specs.Lives.{Life, life_of, life_next}
use Rattle.qp_model.specs.History.{Draws, touch, drawn_on, hist, all_items}
use Rattle.qp_model.specs.Machine.{Machine, after, after_from}
use Rattle.qp_model.specs.FreeBlocks.{free_blocks}
use Rattle.qp_model.specs.References.{Refs, references}
use Rattle.qp_model.specs.Line.{Line, line}
use Rattle.qp_model.specs.Sites.{ring_of, blocks_of}
use Rattle.qp_model.specs.WordLaw.{is_pool, is_block, is_object}
use Rattle.qp_model.proofs.LineLemmas.{same_number, line-counts}
use Rattle.qp_model.proofs.WordLawLemmas.{free_blocks-counts, references-counts}
use Rattle.qp_model.proofs.WordLemmas.{hist-held-draws, hist-stays}
use Rattle.qp_table.specs.Now.{Now, at_two, with_refs, with_line, content_by, content_from, LeavesWords}
use Rattle.qp_table.specs.Rule.{pool_at, block_at, queue_at, mark_in, pool_value, refs_value, line_value, Was, Past, event_of_content, IsKnown, Holds}
use Rattle.qp_table.specs.declared.view.Content.{Content}
use Rattle.qp_table.specs.declared.view.View.{View}
use Rattle.qp_table.proofs.Growing.{two-else, two-each}
use Rattle.qp_table.proofs.Tokens.{each-two}
use Rattle.qp_table.proofs.Marks.{pool-mark, block-mark, queue-mark}
use Rattle.qp_model.proofs.KnowingLemmas.{last_given-append}

-- the history stays, or has the item at its end
abbrev pub Longer : Item → List Item → List Item → Type 0
Longer i old new = (new ≡ old) ⊎ (new ≡ old ++ i ∷ [])

-- each history stays or has the item at its end, and the lives of numbers that are drawn have the events that they had
pub record Grows (sys : System) (old new : List (List Rec)) (now next : Now) (i : Item) : Type 0 where
  pub pool : (p : ℕ) → IsTrue (is_pool sys p) → Longer i (hist (word.Pool p) (all_items old)) (hist (word.Pool p) (all_items new))
  pub refs : (p b : ℕ) → IsTrue (is_block sys p b) → Longer i (hist (word.Block p b) (all_items old)) (hist (word.Block p b) (all_items new))
  pub line : (a : ℕ) → IsTrue (is_object sys a) → Longer i (hist (word.Queue a) (all_items old)) (hist (word.Queue a) (all_items new))
  pub counts : (p b : ℕ) → (now.refs p b).count ≤ (next.refs p b).count
  pub given : (p b k : ℕ) → IsTrue (is_block sys p b) → k < (now.refs p b).count → last_given b k None (hist (word.Pool p) (all_items new)) ≡ last_given b k None (hist (word.Pool p) (all_items old))

module _ (sys : System) (before : List (List Rec)) (lane : List Rec) (behind : List (List Rec)) (now : Now) (leaves : LeavesWords sys (before ++ lane ∷ behind) now) (r : Rec) (i : Item) (is : item_of r ≡ i) where
  abbrev old : List (List Rec)
  old = before ++ lane ∷ behind

  abbrev grown : List (List Rec)
  grown = before ++ (lane ++ r ∷ []) ∷ behind

  stays : (w : Word) → drawn_on w (touch i) ≡ false → hist w (all_items grown) ≡ hist w (all_items old)
  stays w off = hist-stays before lane behind r i is w off

  -- a record that draws no number
  pub grows-none : ((w : Word) → drawn_on w (touch i) ≡ false) → Grows sys old grown now now i
  grows-none off = record {
    pool = λ p h. inl (stays (word.Pool p) (off (word.Pool p)));
    refs = λ p b h. inl (stays (word.Block p b) (off (word.Block p b)));
    line = λ a h. inl (stays (word.Queue a) (off (word.Queue a)));
    counts = λ p b. omega arith;
    given = λ p b k h l. ap (last_given b k None) (stays (word.Pool p) (off (word.Pool p)));
  }

  pub grows-block : (p b : ℕ) (s : Refs) → IsTrue (is_block sys p b) → touch i ≡ Draws (word.Block p b) (suc (now.refs p b).count) → (now.refs p b).count ≤ s.count → Grows sys old grown now (with_refs now p b s) i
  grows-block p b s block on more = record {
    pool = λ q h. inl (stays (word.Pool q) (ap (drawn_on (word.Pool q)) on));
    refs = each-two (λ q c. IsTrue (is_block sys q c) → Longer i (hist (word.Block q c) (all_items old)) (hist (word.Block q c) (all_items grown))) p b
        (λ h. inr (hist-held-draws before lane behind r i is references (word.Block p b) (now.refs p b) references-counts (record { keeps = leaves.law.blocks p b block; state = leaves.refs p b block })
        (rw (on, same_number p, same_number b, same_number (suc (now.refs p b).count)) refl)))
        (λ q c ne h. inl (stays (word.Block q c) (ap (drawn_on (word.Block q c)) on ∙ off-block p b q c ne)));
    line = λ a h. inl (stays (word.Queue a) (ap (drawn_on (word.Queue a)) on));
    counts = λ q c. two-each (λ q c (x : Refs). (now.refs q c).count ≤ x.count) p b s now.refs more (λ q c ne. omega arith) q c;
    given = λ q c k h l. ap (last_given c k None) (stays (word.Pool q) (ap (drawn_on (word.Pool q)) on));
  }
    where
      and-false : (t : Bool) → (t && false) ≡ false
      and-false true = refl
      and-false false = refl

      off-block : (p b q c : ℕ) → (q ≢ p) ⊎ (c ≢ b) → ((p == q) && (b == c)) ≡ false
      off-block p b q c (inl n) = rw (ne_eqb p q (λ e. n (sym e))) refl
      off-block p b q c (inr n) = rw (ne_eqb b c (λ e. n (sym e)), and-false (p == q)) refl

  pub grows-pool : (p : ℕ) (next : Now) → IsTrue (is_pool sys p) → touch i ≡ Draws (word.Pool p) (suc (now.pool p).count) → ((q c : ℕ) → (now.refs q c).count ≤ (next.refs q c).count)
      → ((c k : ℕ) (e : Option Event) → k < (now.refs p c).count → given_by c k e i.body ≡ e) → Grows sys old grown now next i
  grows-pool p next pool on more still = record {
    pool = λ q h. dite (ℕ_discrete q p) (λ e. subst (λ z. Longer i (hist (word.Pool z) (all_items old)) (hist (word.Pool z) (all_items grown))) (sym e) (inr longer)) (λ ne. inl (other q ne));
    refs = λ q c h. inl (stays (word.Block q c) (ap (drawn_on (word.Block q c)) on));
    line = λ a h. inl (stays (word.Queue a) (ap (drawn_on (word.Queue a)) on));
    counts = more;
    given = λ q c k h l. dite (ℕ_discrete q p)
        (λ e. subst (λ z. k < (now.refs z c).count → last_given c k None (hist (word.Pool z) (all_items grown)) ≡ last_given c k None (hist (word.Pool z) (all_items old))) (sym e)
        (λ l. ap (last_given c k None) longer ∙ (last_given-append c k None (hist (word.Pool p) (all_items old)) i ∙ still c k (last_given c k None (hist (word.Pool p) (all_items old))) l)) l)
        (λ ne. ap (last_given c k None) (other q ne));
  }
    where
      longer : hist (word.Pool p) (all_items grown) ≡ hist (word.Pool p) (all_items old) ++ i ∷ []
      longer = hist-held-draws before lane behind r i is (free_blocks (blocks_of sys p)) (word.Pool p) (now.pool p) (free_blocks-counts (blocks_of sys p)) (record { keeps = leaves.law.pools p pool; state = leaves.pool p pool })
          (rw (on, same_number p, same_number (suc (now.pool p).count)) refl)

      other : (q : ℕ) → q ≢ p → hist (word.Pool q) (all_items grown) ≡ hist (word.Pool q) (all_items old)
      other q ne = stays (word.Pool q) (ap (drawn_on (word.Pool q)) on ∙ ne_eqb p q (λ z. ne (sym z)))

  pub grows-queue : (a n : ℕ) (s : Line) → IsTrue (is_object sys a) → touch i ≡ Draws (word.Queue a) n → n ≡ suc ((now.line a).f + (now.line a).l + (now.line a).m) → Grows sys old grown now (with_line now a s) i
  grows-queue a n s object on number = record {
    pool = λ q h. inl (stays (word.Pool q) (ap (drawn_on (word.Pool q)) on));
    refs = λ q c h. inl (stays (word.Block q c) (ap (drawn_on (word.Block q c)) on));
    line = λ d h. dite (ℕ_discrete d a) (λ e. subst (λ z. Longer i (hist (word.Queue z) (all_items old)) (hist (word.Queue z) (all_items grown))) (sym e) (inr longer))
        (λ ne. inl (stays (word.Queue d) (ap (drawn_on (word.Queue d)) on ∙ ne_eqb a d (λ z. ne (sym z)))));
    counts = λ p b. omega arith;
    given = λ q c k h l. ap (last_given c k None) (stays (word.Pool q) (ap (drawn_on (word.Pool q)) on));
  }
    where
      longer : hist (word.Queue a) (all_items grown) ≡ hist (word.Queue a) (all_items old) ++ i ∷ []
      longer = hist-held-draws before lane behind r i is (line (ring_of sys a)) (word.Queue a) (now.line a) (line-counts (ring_of sys a)) (record { keeps = leaves.law.queues a object; state = leaves.line a object })
          (rw (on, number, same_number a, same_number (suc ((now.line a).f + (now.line a).l + (now.line a).m))) refl)

-- a block that is given out or comes back begins or ends no life of a number that was drawn
new-case : (t u : Bool) (e x : Option Event) → (t ≡ true → u ≡ false) → cond (t && u) x e ≡ e
new-case true u e x n = rw (n refl) refl
new-case false u e x n = refl

pub new-still : (p n b from sig : ℕ) (pars : List ℕ) (c k : ℕ) (e : Option Event) → (b ≡ c → k < from) → given_by c k e (New p n b from sig pars) ≡ e
new-still p n b from sig pars c k e less = new-case (b == c) (nat_le from k) e (Some (record { sig = sig; pars = pars })) (λ t. let l = less (eqb-true b c t) in grind (arith, nat_tests))

pub back-still : (p n b to : ℕ) (c k : ℕ) (e : Option Event) → (b ≡ c → k < to) → given_by c k e (Back p n b to) ≡ e
back-still p n b to c k e less = new-case (b == c) (nat_le to k) e None (λ t. let l = less (eqb-true b c t) in grind (arith, nat_tests))

-- of one word: what it was before the last operation stays
past-one : {S : Type 0} (m : Machine S) (pack : S → ℕ) (i : Item) (old new : List Item) → Longer i old new → (was was' : Was) (v x : ℕ) → mark_in v x ≡ length old → x ≡ was v (mark_in v x) → x ≡ pack (after m old)
    → ((k : ℕ) → k ≤ length old → was' v k ≡ was v k) → ((k : ℕ) → k < length old → was v k ≡ pack (after m (take k old))) → (k : ℕ) → k < length new → was' v k ≡ pack (after m (take k new))
past-one {S} m pack i old new longer was was' v x mark is_was packed same before k l =
    let few : k ≤ length old = ⊎_elim (λ (e : new ≡ old). let z = ap length e in omega arith) (λ (e : new ≡ old ++ i ∷ []). let z = ap length e in omega (arith, length-append old (i ∷ []))) longer in
    let front : take k new ≡ take k old = ⊎_elim (λ (e : new ≡ old). ap (take k) e) (λ (e : new ≡ old ++ i ∷ []). ap (take k) e ∙ take-append-le k old (i ∷ []) few) longer in
    same k few ∙ (dite (ℕ_discrete k (length old))
    (λ e. ap (was v) (e ∙ sym mark) ∙ (sym is_was ∙ (packed ∙ ap (λ (ys : List Item). pack (after m ys)) (sym (take_all k old (omega arith))))))
    (λ ne. before k (omega arith)) ∙ ap (λ (ys : List Item). pack (after m ys)) (sym front))

module _ (sys : System) (words : List ℕ) (views : List View) (holds : Holds sys words views) (new : List (List Rec)) (next : Now) (i : Item) (grows : Grows sys holds.lanes new holds.now next i) where
  -- what words were, where those of now are the same
  past-same : (was' : Was) → ((v k : ℕ) → k ≤ mark_in v (get_or words v 0) → was' v k ≡ holds.was v k) → Past sys new was'
  past-same was' same = record {
    pool = λ p k h. let z = (holds.fitting.small p h).0 in let m = pool-mark sys words views holds p h in
        past-one (free_blocks (blocks_of sys p)) pool_value i (hist (word.Pool p) (all_items holds.lanes)) (hist (word.Pool p) (all_items new)) (grows.pool p h) holds.was was' (pool_at p) (get_or words (pool_at p) 0) m (holds.seen.now (pool_at p) (omega arith))
        (holds.shows.pools p h ∙ ap pool_value (sym (holds.leaves.pool p h))) (λ k l. same (pool_at p) k (omega arith)) (λ k. holds.past.pool p k h) k;
    refs = λ p b k h. let z = holds.fitting.pools p b h in let z1 = z.1 in let z2 = z.2 in let m = block-mark sys words views holds p b h in
        past-one references refs_value i (hist (word.Block p b) (all_items holds.lanes)) (hist (word.Block p b) (all_items new)) (grows.refs p b h) holds.was was' (block_at p b) (get_or words (block_at p b) 0) m (holds.seen.now (block_at p b) (omega arith))
        (holds.shows.blocks p b h ∙ ap refs_value (sym (holds.leaves.refs p b h))) (λ k l. same (block_at p b) k (omega arith)) (λ k. holds.past.refs p b k h) k;
    line = λ a k h. let z = (holds.fitting.objects a h).0 in let m = queue-mark sys words views holds a h in
        past-one (line (ring_of sys a)) line_value i (hist (word.Queue a) (all_items holds.lanes)) (hist (word.Queue a) (all_items new)) (grows.line a h) holds.was was' (queue_at a) (get_or words (queue_at a) 0) m (holds.seen.now (queue_at a) (omega arith))
        (holds.shows.queues a h ∙ ap line_value (sym (holds.leaves.line a h))) (λ k l. same (queue_at a) k (omega arith)) (λ k. holds.past.line a k h) k;
  }

  pub past-shown : Past sys new holds.was
  past-shown = past-same holds.was (λ v k l. refl)

  pub past-drawn : (w n : ℕ) → mark_in w (get_or words w 0) < mark_in w n → Past sys new (at_two w (mark_in w n) n holds.was)
  past-drawn w n more = past-same (at_two w (mark_in w n) n holds.was) (λ v k l. dite (ℕ_discrete v w)
      (λ e. two-else w (mark_in w n) n holds.was v k (inr (λ z. let q : mark_in v (get_or words v 0) ≡ mark_in w (get_or words w 0) = ap (λ y. mark_in y (get_or words y 0)) e in absurd (omega arith))))
      (λ ne. two-else w (mark_in w n) n holds.was v k (inl ne)))

  pub known-kept : (q : Content) → IsKnown sys holds.lanes holds.now q → IsKnown sys new next q
  known-kept q k = record {
    static = k.static;
    block = k.block;
    made = λ pos. let a = k.made pos in let c = grows.counts q.entry.pool q.entry.block in omega arith;
    given = λ pos. grows.given q.entry.pool q.entry.block q.entry.name (k.block pos) (k.made pos) ∙ k.given pos;
  }

-- The event of a life that is open is the content of its `new`, for each number from the life's beginning on
abbrev Tracks : ℕ → Life → List ℕ → Option Event → Type 0
Tracks k s t e = s.out ≡ true → s.edge ≤ k → e ≡ Some (event_of_content t)

tracks-step : (b k : ℕ) (s : Life) (t : List ℕ) (e : Option Event) (x : Body) → Tracks k s t e → Tracks k (life_next b s x) (content_by b t x) (given_by b k e x)
tracks-step b k s t e (New p n c from sig pars) h = go (c == b) refl
  where
    go : (u : Bool) → (c == b) ≡ u → Tracks k (cond u (record { out = true; edge = from }) s) (cond u (sig ∷ pars) t) (cond (u && nat_le from k) (Some (record { sig = sig; pars = pars })) e)
    go true is out at = let z : nat_le from k ≡ true = grind (arith, nat_tests) in rw z refl
    go false is out at = h out at
tracks-step b k s t e (Back p n c to) h = go (c == b) refl
  where
    go : (u : Bool) → (c == b) ≡ u → Tracks k (cond u (record { out = false; edge = to }) s) t (cond (u && nat_le to k) None e)
    go true is out at = cc
    go false is out at = h out at
tracks-step b k s t e _ h = h

pub tracks : (b k : ℕ) (s : Life) (t : List ℕ) (e : Option Event) (xs : List Item) → Tracks k s t e → Tracks k (after_from (life_of b) s xs) (content_from b t xs) (last_given b k e xs)
unfolding after_from content_from last_given
tracks b k s t e [] h = h
tracks b k s t e (x ∷ xs) h = tracks b k (life_next b s x.body) (content_by b t x.body) (given_by b k e x.body) xs (tracks-step b k s t e x.body h)

pub tracks-first : (b k : ℕ) (xs : List Item) → (after (life_of b) xs).out ≡ true → (after (life_of b) xs).edge ≤ k → last_given b k None xs ≡ Some (event_of_content (content_from b [] xs))
unfolding after
tracks-first b k xs = tracks b k (record { out = false; edge = 0 }) [] None xs (λ out at. cc)
