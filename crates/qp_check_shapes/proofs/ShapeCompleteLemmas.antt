-- Each stage behind a record can come to an end, so what is read is a front of a publication.
use Rattle.std.proofs.Common.{◌≡◌, ℕ, zero, suc, ◌+◌, ◌==◌, nat_lt, max, Bool, true, false, cond, List, [], ◌∷◌, ◌++◌, Some, refl, sym, ◌∙◌, subst, arith}
use Rattle.std.proofs.lemmas.Bool.{eqb-true}
use Rattle.std.proofs.lemmas.Bool.Decides.{nat_tests}
use Rattle.std.specs.declared.option.Option.{Option}
use Rattle.std.proofs.lemmas.Option.{none-some}
use Rattle.qp_model.specs.declared.systems.System.{System}
use Rattle.qp_model.specs.declared.bodies.Entry.{Entry}
use Rattle.qp_model.specs.declared.bodies.Body.TheVariants as item
use Rattle.qp_model.specs.Record.{entry}
use Rattle.qp_model.specs.Told.{Told, plain, dropped, raised}
use Rattle.qp_model.specs.Calls.{AtQueue}
use Rattle.qp_model.specs.Sites.{ring_of}
use Rattle.qp_model.specs.Shapes.{PostsOne, Posts}
use Rattle.qp_model.proofs.LineLemmas.{same_number}
use Rattle.qp_check_shapes.specs.declared.shape_stage.Ceiling.{Ceiling}
use Rattle.qp_check_shapes.specs.declared.shape_stage.Ceiling.TheVariants as ceiling
use Rattle.qp_check_shapes.specs.declared.shape_stage.Posting.{Posting}
use Rattle.qp_check_shapes.specs.declared.shape_stage.PublishStage.{PublishStage}
use Rattle.qp_check_shapes.specs.declared.shape_stage.PublishStage.TheVariants as stage
use Rattle.qp_check_shapes.specs.ShapePublication.{publication_released, after_posts, next_post, published, made_next, posts_next, left_next, publish_next, stage_after}
use Rattle.qp_check_shapes.proofs.ShapePostLemmas.{again-static, again-pooled}
use Rattle.qp_check_shapes.proofs.ShapeStageLemmas.{run-step, step-run, given-is, made-is, raised-is, posted-is, dropped-is, lock-is, reference-is, PostRecord, OfPost, OfNoEntry, post-is, StartRecord, OfBlock, OfSet, start-is}
use Rattle.qp_check_shapes.proofs.ShapeRunLemmas.{end_of, is_rising, posting, posts-other}
use Rattle.qp_check_shapes.proofs.ShapePublishLemmas.{First, NoMember, Member, first-member}
use Rattle.qp_check_shapes.proofs.ShapeReadLemmas.{posted-next, dropped-next, one-cut, no_entry-next}

-- some records come to an end from a stage on
abbrev pub Completes : System → ℕ → PublishStage → Type 0
Completes sys o s = (back : List Told) × (b : Bool) × (stage_after sys o back s ≡ Some (end_of b))

-- one more record in front
one-more : (sys : System) (o : ℕ) (t : Told) (s x : PublishStage) → publish_next sys o s t.body t.known ≡ Some x → Completes sys o x → Completes sys o s
one-more sys o t s x is h = (t ∷ h.0, h.1, step-run sys o t h.0 s x (Some (end_of h.1)) is h.2)

whole-ends : (sys : System) (o : ℕ) → Completes sys o stage.Whole
unfolding stage_after
whole-ends sys o = ([], true, refl)

cut-ends : (sys : System) (o : ℕ) → Completes sys o stage.Cut
unfolding stage_after
cut-ends sys o = ([], false, refl)

dropped-ends : (sys : System) (o p k d : ℕ) → Completes sys o (stage.Dropped p k d)
unfolding publish_next
dropped-ends sys o p k d = one-more sys o (plain (item.Back p 0 k (d + 1))) (stage.Dropped p k d) stage.Whole (dropped-next p k d 0) (whole-ends sys o)

left-ends : (sys : System) (o p k d left : ℕ) → Completes sys o (left_next p k d left)
left-ends sys o p k d zero = dropped-ends sys o p k d
left-ends sys o p k d (suc left) = whole-ends sys o

pub released-ends : (sys : System) (o : ℕ) (e : Entry) → Completes sys o (publication_released e)
unfolding publish_next
released-ends sys o e = by (e.pool == 0)
  where
    by : (fixed : Bool) → Completes sys o (cond fixed stage.Whole (stage.Posted e))
    by true = whole-ends sys o
    by false =
        one-more sys o (dropped e.pool e.block 0 e.name (suc zero)) (stage.Posted e) stage.Whole (posted-next e 0 (suc zero)) (whole-ends sys o)

posts-end : (sys : System) (o : ℕ) (e : Entry) (c : Ceiling) → Completes sys o (after_posts e c)
unfolding publish_next
posts-end sys o e ceiling.Stays = released-ends sys o e
posts-end sys o e ceiling.Rises = released-ends sys o e
posts-end sys o e (ceiling.Rose former) = one-more sys o (plain (item.Unlock former)) (stage.Raised e former) (publication_released e) (rw (same_number former) refl) (released-ends sys o e)

-- a post may find no entry
post-cuts : (sys : System) (o : ℕ) (p : Posting) → is_rising p.ceiling ≡ false → Completes sys o (stage.Posts p)
unfolding PostsOne Posts
post-cuts sys o p low = by (p.entry.pool == 0) refl
  where
    above : (n : ℕ) → (n == 0) ≡ false → nat_lt 0 n ≡ true
    above n h = grind (arith, nat_tests)

    cut : (g : List Told) → PostsOne (ring_of sys p.to) p.entry p.to AtQueue g → Completes sys o (stage.Posts p)
    cut g one = (g, false, one-cut sys o p g low one)

    by : (fixed : Bool) → (p.entry.pool == 0) ≡ fixed → Completes sys o (stage.Posts p)
    by true is = cut (plain (item.NoEntry p.to 0 0 0) ∷ []) ([], p.entry, again-static p.entry (eqb-true p.entry.pool 0 is), (0, 0, 0, refl))
    by false is =
        cut (plain (item.Inc p.entry.pool p.entry.block 0) ∷ plain (item.NoEntry p.to 0 0 0) ∷ [])
        (plain (item.Inc p.entry.pool p.entry.block 0) ∷ [], entry p.entry.pool p.entry.block 0, again-pooled p.entry 0 (above p.entry.pool is), (0, 0, 0, refl))

posting-ends : (sys : System) (o : ℕ) (e : Entry) (set : ℕ) (c : Ceiling) (k : ℕ) → Completes sys o (stage.Posts (posting e set c k))
unfolding publish_next posts_next
posting-ends sys o e set ceiling.Stays k = post-cuts sys o (posting e set ceiling.Stays k) refl
posting-ends sys o e set (ceiling.Rose former) k = post-cuts sys o (posting e set (ceiling.Rose former) k) refl
posting-ends sys o e set ceiling.Rises k =
    one-more sys o (raised (max 0 (suc k)) 0) (stage.Posts (posting e set ceiling.Rises k)) (stage.Posts (posting e set (ceiling.Rose 0) k)) (rw (same_number (max 0 (suc k))) refl)
    (post-cuts sys o (posting e set (ceiling.Rose 0) k) refl)

next_post-ends : (sys : System) (o : ℕ) (e : Entry) (set : ℕ) (c : Ceiling) (n : ℕ) → Completes sys o (next_post e set c n)
next_post-ends sys o e set c n = by (first-member set n)
  where
    by : First set n → Completes sys o (next_post e set c n)
    by (NoMember none after) = subst (λ x. Completes sys o x) (sym (after e c)) (posts-end sys o e c)
    by (Member k first after) = subst (λ x. Completes sys o x) (sym (after e c)) (posting-ends sys o e set c k)

published-ends : (sys : System) (o : ℕ) (e : Entry) (set : ℕ) → Completes sys o (published o e set)
unfolding published
published-ends sys o e set = next_post-ends sys o e set (cond (o == 0) ceiling.Stays ceiling.Rises) 32

made-ends : (sys : System) (o : ℕ) (e : Entry) (sig : ℕ) → Completes sys o (stage.Made e sig)
unfolding publish_next made_next
made-ends sys o e sig = one-more sys o (plain (item.Pub sig 0 0)) (stage.Made e sig) (published o e 0) (rw (same_number sig) refl) (published-ends sys o e 0)

given-ends : (sys : System) (o p k sig : ℕ) → Completes sys o (stage.Given p k sig)
unfolding publish_next
given-ends sys o p k sig = one-more sys o (plain (item.Inc p k 0)) (stage.Given p k sig) (stage.Made (entry p k 0) sig) (rw (same_number p, same_number k) refl) (made-ends sys o (entry p k 0) sig)

referred-ends : (sys : System) (o : ℕ) (p : Posting) (r : ℕ) → Completes sys o (stage.Referred p r)
unfolding publish_next
referred-ends sys o p r =
    one-more sys o (plain (item.NoEntry p.to 0 0 0)) (stage.Referred p r) stage.Cut (no_entry-next sys p (entry p.entry.pool p.entry.block r) 0 0 0) (cut-ends sys o)

post-ends : (sys : System) (o : ℕ) (p : Posting) (e : Entry) (t : Told) (x : PublishStage) → PostRecord sys p e t x → Completes sys o x
post-ends sys o p e t x (OfPost f l m t_is room x_is) = subst (λ y. Completes sys o y) (sym x_is) (next_post-ends sys o p.entry p.set p.ceiling p.below)
post-ends sys o p e t x (OfNoEntry f l m t_is x_is) = subst (λ y. Completes sys o y) (sym x_is) (cut-ends sys o)

-- a stage behind a record comes to an end
next-ends : (sys : System) (o : ℕ) (s : PublishStage) (t : Told) (x : PublishStage) → publish_next sys o s t.body t.known ≡ Some x → Completes sys o x
unfolding publish_next posts_next
next-ends sys o stage.Start t x h = by (start-is sys o t x h)
  where
    by : StartRecord sys o t x → Completes sys o x
    by (OfBlock p n k from sig free pars t_is above goes pooled x_is) = subst (λ y. Completes sys o y) (sym x_is) (given-ends sys o p k sig)
    by (OfSet sig n set t_is fixed x_is) = subst (λ y. Completes sys o y) (sym x_is) (published-ends sys o (entry 0 sig 0) set)
next-ends sys o (stage.Given p k sig) t x h = let is = given-is p k sig t x h in subst (λ y. Completes sys o y) (sym is.2) (made-ends sys o (entry p k is.0) sig)
next-ends sys o (stage.Made e sig) t x h = let is = made-is o e sig t x h in subst (λ y. Completes sys o y) (sym is.3) (published-ends sys o e is.1)
next-ends sys o (stage.Posts p) t x h = by p.ceiling refl
  where
    other : (c : Ceiling) → is_rising c ≡ false → (fixed : Bool) → (p.entry.pool == 0) ≡ fixed → posts_next sys p c t.body t.known ≡ Some x → Completes sys o x
    other c low true is k = post-ends sys o p p.entry t x (post-is sys p p.entry t x (let e = sym (posts-other sys p c t.body t.known low) ∙ k in rw is at e))
    other c low false is k =
        let ref = reference-is p t x (let e = sym (posts-other sys p c t.body t.known low) ∙ k in rw is at e) in
        subst (λ y. Completes sys o y) (sym ref.2) (referred-ends sys o p ref.0)

    by : (c : Ceiling) → p.ceiling ≡ c → Completes sys o x
    by ceiling.Rises is =
        let lock = lock-is p t x (subst (λ c. posts_next sys p c t.body t.known ≡ Some x) is h) in
        subst (λ y. Completes sys o y) (sym lock.2)
        (post-cuts sys o (record { entry = p.entry; to = p.to; below = p.below; set = p.set; ceiling = ceiling.Rose lock.0 }) refl)
    by ceiling.Stays is = other ceiling.Stays refl (p.entry.pool == 0) refl (subst (λ c. posts_next sys p c t.body t.known ≡ Some x) is h)
    by (ceiling.Rose former) is = other (ceiling.Rose former) refl (p.entry.pool == 0) refl (subst (λ c. posts_next sys p c t.body t.known ≡ Some x) is h)
next-ends sys o (stage.Referred p r) t x h = post-ends sys o p (entry p.entry.pool p.entry.block r) t x (post-is sys p (entry p.entry.pool p.entry.block r) t x h)
next-ends sys o (stage.Raised e former) t x h = let is = raised-is e former t x h in subst (λ y. Completes sys o y) (sym is.1) (released-ends sys o e)
next-ends sys o (stage.Posted e) t x h = let is = posted-is e t x h in subst (λ y. Completes sys o y) (sym is.3) (left-ends sys o e.pool e.block is.0 is.1)
next-ends sys o (stage.Dropped p k d) t x h = let is = dropped-is p k d t x h in subst (λ y. Completes sys o y) (sym is.2) (whole-ends sys o)
next-ends sys o stage.Whole t x h = absurd (none-some _ h)
next-ends sys o stage.Cut t x h = absurd (none-some _ h)

-- and one behind more of them
pub run-ends : (sys : System) (o : ℕ) (t : Told) (ts : List Told) (s x : PublishStage) → stage_after sys o (t ∷ ts) s ≡ Some x → Completes sys o x
unfolding stage_after
run-ends sys o t [] s x h = let step = run-step sys o t [] s x h in let is : step.0 ≡ x = cc in subst (λ y. Completes sys o y) is (next-ends sys o s t step.0 step.1)
run-ends sys o t (u ∷ us) s x h = let step = run-step sys o t (u ∷ us) s x h in run-ends sys o u us step.0 x step.2

-- records one after another
pub run-on : (sys : System) (o : ℕ) (g back : List Told) (s x : PublishStage) (r : Option PublishStage) → stage_after sys o g s ≡ Some x → stage_after sys o back x ≡ r → stage_after sys o (g ++ back) s ≡ r
unfolding stage_after
run-on sys o [] back s x r h behind = let is : s ≡ x = cc in rw is behind
run-on sys o (t ∷ ts) back s x r h behind = let step = run-step sys o t ts s x h in step-run sys o t (ts ++ back) s step.0 r step.1 (run-on sys o ts back step.0 x r step.2 behind)

pub run-front : (sys : System) (o : ℕ) (g back : List Told) (s x : PublishStage) → stage_after sys o (g ++ back) s ≡ Some x → (y : PublishStage) × (stage_after sys o g s ≡ Some y)
unfolding stage_after
run-front sys o [] back s x h = (s, refl)
run-front sys o (t ∷ ts) back s x h =
    let step = run-step sys o t (ts ++ back) s x h in
    let front = run-front sys o ts back step.0 x step.2 in
    (front.0, step-run sys o t ts s step.0 (Some front.0) step.1 front.1)
