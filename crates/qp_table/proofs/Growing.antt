-- What the lanes leave when one of them has a record more.
use Rattle.std.proofs.Common.{◌≡◌, ℕ, suc, ◌+◌, ◌≢◌, ◌==◌, eqb, Bool, true, false, cond, List, [], ◌∷◌, ◌++◌, length, refl, sym, ◌∙◌, ap, subst, IsTrue, ◌⊎◌, inl, inr, ⊎_elim, eq-eqb, ne_eqb}
use mathlib.Core.Logic.{dite}
use native.Mathlib.Decide.{ℕ_discrete}
use Rattle.std.proofs.lemmas.Bool.{ne_eqb, and_right}
use Rattle.qp_chart.specs.StateTree.{has}
use Rattle.qp_model.specs.declared.record.Rec.{Rec}
use Rattle.qp_model.specs.declared.systems.System.{System}
use Rattle.qp_model.specs.declared.words.Word.{Word}
use Rattle.qp_model.specs.declared.words.Word.TheVariants as word
use Rattle.qp_model.specs.declared.bodies.Body.TheVariants.{Inc, Dec}
use Rattle.qp_model.specs.Record.{Item, item_of}
use Rattle.qp_model.specs.Lists.{without_one}
use Rattle.qp_model.specs.History.{Draws, Shows, touch, drawn_on, same_word, hist, all_items}
use Rattle.qp_model.specs.Machine.{after}
use Rattle.qp_model.specs.FreeBlocks.{Pool, free_blocks}
use Rattle.qp_model.specs.References.{Refs, references}
use Rattle.qp_model.specs.Line.{Line, line}
use Rattle.qp_model.specs.Lives.{life_of}
use Rattle.qp_model.specs.Sites.{ring_of, blocks_of}
use Rattle.qp_model.specs.WordLaw.{Words, is_pool, is_block, is_object}
use Rattle.qp_model.proofs.MachineLemmas.{count-after}
use Rattle.qp_model.proofs.WordLemmas.{Held, hist-stays}
use Rattle.qp_model.proofs.WordLawLemmas.{references-counts}
use Rattle.qp_model.proofs.ReferenceLemmas.{Alive, words-inc, words-dec, held-inc, held-dec}
use Rattle.qp_table.specs.Now.{Now, at, at_two, with_refs, with_line, with_given, content_by, content_from, LeavesWords}

-- one changed, and the others
pub at-here : {X : Type 0} (p : ℕ) (x : X) (f : ℕ → X) → at p x f p ≡ x
at-here p x f = ap (λ (t : Bool). cond t x (f p)) (eq-eqb p p refl)

pub at-else : {X : Type 0} (p : ℕ) (x : X) (f : ℕ → X) (q : ℕ) → q ≢ p → at p x f q ≡ f q
at-else p x f q n = ap (λ (t : Bool). cond t x (f q)) (ne_eqb q p n)

pub two-here : {X : Type 0} (p b : ℕ) (x : X) (f : ℕ → ℕ → X) → at_two p b x f p b ≡ x
two-here p b x f = rw (eq-eqb p p refl, eq-eqb b b refl) refl

pub two-else : {X : Type 0} (p b : ℕ) (x : X) (f : ℕ → ℕ → X) (q c : ℕ) → (q ≢ p) ⊎ (c ≢ b) → at_two p b x f q c ≡ f q c
two-else p b x f q c (inl n) = rw (ne_eqb q p n) refl
two-else p b x f q c (inr n) = rw (ne_eqb c b n, (and_right (eqb q p) false refl)) refl

-- a fact of each, where one has changed
pub at-each : {X : Type 0} (Q : ℕ → X → Type 0) (p : ℕ) (x : X) (f : ℕ → X) → Q p x → ((q : ℕ) → q ≢ p → Q q (f q)) → (q : ℕ) → Q q (at p x f q)
at-each {X} Q p x f here else q = dite (ℕ_discrete q p)
    (λ e. subst (λ z. Q z (at p x f z)) (sym e) (subst (Q p) (sym (at-here p x f)) here))
    (λ n. subst (Q q) (sym (at-else p x f q n)) (else q n))

pub two-each : {X : Type 0} (Q : ℕ → ℕ → X → Type 0) (p b : ℕ) (x : X) (f : ℕ → ℕ → X) → Q p b x → ((q c : ℕ) → (q ≢ p) ⊎ (c ≢ b) → Q q c (f q c)) → (q c : ℕ) → Q q c (at_two p b x f q c)
two-each {X} Q p b x f here else q c = dite (ℕ_discrete q p)
    (λ e. dite (ℕ_discrete c b)
    (λ d. subst (λ z. Q z c (at_two p b x f z c)) (sym e) (subst (λ z. Q p z (at_two p b x f p z)) (sym d) (subst (Q p b) (sym (two-here p b x f)) here)))
    (λ n. subst (Q q c) (sym (two-else p b x f q c (inr n))) (else q c (inr n))))
    (λ n. subst (Q q c) (sym (two-else p b x f q c (inl n))) (else q c (inl n)))

pub content-append : (b : ℕ) (s : List ℕ) (xs : List Item) (i : Item) → content_from b s (xs ++ i ∷ []) ≡ content_by b (content_from b s xs) i.body
unfolding content_from
content-append b s [] i = refl
content-append b s (x ∷ xs) i = content-append b (content_by b s x.body) xs i

off-block : (p b q c : ℕ) → (q ≢ p) ⊎ (c ≢ b) → same_word (word.Block p b) (word.Block q c) ≡ false
off-block p b q c (inl n) = rw (ne_eqb p q (λ e. n (sym e))) refl
off-block p b q c (inr n) = rw (ne_eqb b c (λ e. n (sym e)), (and_right (p == q) false refl)) refl

module _ (sys : System) (before : List (List Rec)) (lane : List Rec) (behind : List (List Rec)) (now : Now) (leaves : LeavesWords sys (before ++ lane ∷ behind) now) (r : Rec) (i : Item) (is : item_of r ≡ i) where
  abbrev grown : List (List Rec)
  grown = before ++ (lane ++ r ∷ []) ∷ behind

  stays : (w : Word) → drawn_on w (touch i) ≡ false → hist w (all_items grown) ≡ hist w (all_items (before ++ lane ∷ behind))
  stays w off = hist-stays before lane behind r i is w off

  -- an operation on a block
  pub block-leaves : (p b n : ℕ) (s : Refs) → touch i ≡ Draws (word.Block p b) n → Words sys grown
      → (IsTrue (is_block sys p b) → after references (hist (word.Block p b) (all_items grown)) ≡ s) → LeavesWords sys grown (with_refs now p b s)
  block-leaves p b n s on law here = record {
    law = law;
    pool = λ q h. ap (after (free_blocks (blocks_of sys q))) (stays (word.Pool q) (ap (drawn_on (word.Pool q)) on)) ∙ leaves.pool q h;
    refs = λ q c h. two-each (λ q c x. IsTrue (is_block sys q c) → after references (hist (word.Block q c) (all_items grown)) ≡ x) p b s now.refs here
        (λ q c ne h. ap (after references) (stays (word.Block q c) (ap (drawn_on (word.Block q c)) on ∙ off-block p b q c ne)) ∙ leaves.refs q c h) q c h;
    edge = λ q c h. ap (λ t. (after (life_of c) t).edge) (stays (word.Pool q) (ap (drawn_on (word.Pool q)) on)) ∙ leaves.edge q c h;
    content = λ q c h. ap (content_from c []) (stays (word.Pool q) (ap (drawn_on (word.Pool q)) on)) ∙ leaves.content q c h;
    line = λ a h. ap (after (line (ring_of sys a))) (stays (word.Queue a) (ap (drawn_on (word.Queue a)) on)) ∙ leaves.line a h;
  }

  -- an operation on a queue
  pub queue-leaves : (a n : ℕ) (s : Line) → touch i ≡ Draws (word.Queue a) n → Words sys grown
      → (IsTrue (is_object sys a) → after (line (ring_of sys a)) (hist (word.Queue a) (all_items grown)) ≡ s) → LeavesWords sys grown (with_line now a s)
  queue-leaves a n s on law here = record {
    law = law;
    pool = λ q h. ap (after (free_blocks (blocks_of sys q))) (stays (word.Pool q) (ap (drawn_on (word.Pool q)) on)) ∙ leaves.pool q h;
    refs = λ q c h. ap (after references) (stays (word.Block q c) (ap (drawn_on (word.Block q c)) on)) ∙ leaves.refs q c h;
    edge = λ q c h. ap (λ t. (after (life_of c) t).edge) (stays (word.Pool q) (ap (drawn_on (word.Pool q)) on)) ∙ leaves.edge q c h;
    content = λ q c h. ap (content_from c []) (stays (word.Pool q) (ap (drawn_on (word.Pool q)) on)) ∙ leaves.content q c h;
    line = at-each (λ d x. IsTrue (is_object sys d) → after (line (ring_of sys d)) (hist (word.Queue d) (all_items grown)) ≡ x) a s now.line here
        (λ d ne h. ap (after (line (ring_of sys d))) (stays (word.Queue d) (ap (drawn_on (word.Queue d)) on ∙ ne_eqb a d (λ e. ne (sym e)))) ∙ leaves.line d h);
  }

  -- an operation on a pool, with the block that is given out or comes back
  pub pool-leaves : (p b n e : ℕ) (s : Pool) (t : List ℕ) → touch i ≡ Draws (word.Pool p) n → Words sys grown
      → (IsTrue (is_pool sys p) → after (free_blocks (blocks_of sys p)) (hist (word.Pool p) (all_items grown)) ≡ s)
      → (IsTrue (is_block sys p b) → (after (life_of b) (hist (word.Pool p) (all_items grown))).edge ≡ e)
      → ((c : ℕ) → c ≢ b → (after (life_of c) (hist (word.Pool p) (all_items grown))).edge ≡ (after (life_of c) (hist (word.Pool p) (all_items (before ++ lane ∷ behind)))).edge)
      → (IsTrue (is_block sys p b) → content_from b [] (hist (word.Pool p) (all_items grown)) ≡ t)
      → ((c : ℕ) → c ≢ b → content_from c [] (hist (word.Pool p) (all_items grown)) ≡ content_from c [] (hist (word.Pool p) (all_items (before ++ lane ∷ behind))))
      → LeavesWords sys grown (with_given now p s b e t)
  pool-leaves p b n e s t on law here begun others told untold = record {
    law = law;
    pool = at-each (λ q x. IsTrue (is_pool sys q) → after (free_blocks (blocks_of sys q)) (hist (word.Pool q) (all_items grown)) ≡ x) p s now.pool here
        (λ q ne h. ap (after (free_blocks (blocks_of sys q))) (stays (word.Pool q) (ap (drawn_on (word.Pool q)) on ∙ ne_eqb p q (λ z. ne (sym z)))) ∙ leaves.pool q h);
    refs = λ q c h. ap (after references) (stays (word.Block q c) (ap (drawn_on (word.Block q c)) on)) ∙ leaves.refs q c h;
    edge = two-each (λ q c x. IsTrue (is_block sys q c) → (after (life_of c) (hist (word.Pool q) (all_items grown))).edge ≡ x) p b e now.edge begun
        (λ q c ne h. dite (ℕ_discrete q p)
        (λ same. ⊎_elim (λ no. absurd (no same)) (λ no. subst (λ z. IsTrue (is_block sys z c) → (after (life_of c) (hist (word.Pool z) (all_items grown))).edge ≡ now.edge z c) (sym same) (λ k. others c no ∙ leaves.edge p c k) h) ne)
        (λ no. ap (λ t. (after (life_of c) t).edge) (stays (word.Pool q) (ap (drawn_on (word.Pool q)) on ∙ ne_eqb p q (λ z. no (sym z)))) ∙ leaves.edge q c h));
    content = two-each (λ q c x. IsTrue (is_block sys q c) → content_from c [] (hist (word.Pool q) (all_items grown)) ≡ x) p b t now.content told
        (λ q c ne h. dite (ℕ_discrete q p)
        (λ same. ⊎_elim (λ no. absurd (no same)) (λ no. subst (λ z. IsTrue (is_block sys z c) → content_from c [] (hist (word.Pool z) (all_items grown)) ≡ now.content z c) (sym same) (λ k. untold c no ∙ leaves.content p c k) h) ne)
        (λ no. ap (content_from c []) (stays (word.Pool q) (ap (drawn_on (word.Pool q)) on ∙ ne_eqb p q (λ z. no (sym z)))) ∙ leaves.content q c h));
    line = λ a h. ap (after (line (ring_of sys a))) (stays (word.Queue a) (ap (drawn_on (word.Queue a)) on)) ∙ leaves.line a h;
  }

  -- a record that shows a word
  pub shown-leaves : (w : Word) (n : ℕ) → touch i ≡ Shows w n → Words sys grown → LeavesWords sys grown now
  shown-leaves w n on law = record {
    law = law;
    pool = λ q h. ap (after (free_blocks (blocks_of sys q))) (stays (word.Pool q) (ap (drawn_on (word.Pool q)) on)) ∙ leaves.pool q h;
    refs = λ q c h. ap (after references) (stays (word.Block q c) (ap (drawn_on (word.Block q c)) on)) ∙ leaves.refs q c h;
    edge = λ q c h. ap (λ t. (after (life_of c) t).edge) (stays (word.Pool q) (ap (drawn_on (word.Pool q)) on)) ∙ leaves.edge q c h;
    content = λ q c h. ap (content_from c []) (stays (word.Pool q) (ap (drawn_on (word.Pool q)) on)) ∙ leaves.content q c h;
    line = λ a h. ap (after (line (ring_of sys a))) (stays (word.Queue a) (ap (drawn_on (word.Queue a)) on)) ∙ leaves.line a h;
  }

-- Each kind of record, where the state allows it.
module _ (sys : System) (before : List (List Rec)) (lane : List Rec) (behind : List (List Rec)) (now : Now) (leaves : LeavesWords sys (before ++ lane ∷ behind) now) (r : Rec) where
  module _ (p b : ℕ) (block : IsTrue (is_block sys p b)) where
    abbrev old : Held Refs references (word.Block p b) (before ++ lane ∷ behind) (now.refs p b)
    old = record { keeps = leaves.law.blocks p b block; state = leaves.refs p b block }

    abbrev pool_hist : List Item
    pool_hist = hist (word.Pool p) (all_items (before ++ lane ∷ behind))

    abbrev block_hist : List Item
    block_hist = hist (word.Block p b) (all_items (before ++ lane ∷ behind))

    -- a block's operations so far
    pub block-count : length block_hist ≡ (now.refs p b).count
    block-count = sym (count-after references references-counts block_hist old.keeps.allowed) ∙ ap (λ (s : Refs). s.count) old.state

    abbrev pub after_inc : Refs
    after_inc = record { count = (now.refs p b).count + 1; names = (now.refs p b).count ∷ (now.refs p b).names }

    pub inc-leaves : (o : ℕ) → item_of r ≡ record { of = o; body = Inc p b (now.refs p b).count } → Alive b pool_hist block_hist
        → LeavesWords sys (before ++ (lane ++ r ∷ []) ∷ behind) (with_refs now p b after_inc)
    inc-leaves o is alive =
        block-leaves sys before lane behind now leaves r _ is p b (suc (now.refs p b).count) after_inc refl
        (words-inc sys before lane behind r leaves.law p b (now.refs p b) old.state o (λ _. alive) is)
        (λ _. (held-inc before lane behind r p b (now.refs p b) old o is).state)

    abbrev pub after_dec : ℕ → Refs
    after_dec k = record { count = (now.refs p b).count + 1; names = without_one k (now.refs p b).names }

    pub dec-leaves : (o k : ℕ) → item_of r ≡ record { of = o; body = Dec p b (now.refs p b).count k } → Alive b pool_hist block_hist → has (now.refs p b).names k ≡ true
        → LeavesWords sys (before ++ (lane ++ r ∷ []) ∷ behind) (with_refs now p b (after_dec k))
    dec-leaves o k is alive stands =
        block-leaves sys before lane behind now leaves r _ is p b (suc (now.refs p b).count) (after_dec k) refl
        (words-dec sys before lane behind r leaves.law p b (now.refs p b) old.state o k (λ _. alive) is stands)
        (λ _. (held-dec before lane behind r p b (now.refs p b) old o k is stands).state)
