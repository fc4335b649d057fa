-- What a publication's stages are read over: releases, restored ceilings and posts.
use Rattle.std.proofs.Common.{◌≡◌, ℕ, zero, suc, ◌+◌, ◌/◌, ◌%◌, ◌^◌, ◌==◌, nat_lt, Bool, true, false, cond, List, [], ◌∷◌, ◌++◌, Some, refl, sym, ◌∙◌, ap, subst, inl, inr, arith, append_assoc}
use Rattle.std.proofs.lemmas.Bool.{eqb-true}
use Rattle.std.proofs.lemmas.Bool.Decides.{nat_tests}
use Rattle.qp_model.specs.declared.systems.System.{System}
use Rattle.qp_model.specs.declared.bodies.Entry.{Entry}
use Rattle.qp_model.specs.declared.bodies.Body.{Body}
use Rattle.qp_model.specs.declared.bodies.Body.TheVariants as item
use Rattle.qp_model.specs.Record.{entry}
use Rattle.qp_model.specs.Told.{Told, Known, plain, dropped}
use Rattle.qp_model.specs.Calls.{Granted, AtQueue}
use Rattle.qp_model.specs.Parts.{members_below}
use Rattle.qp_model.specs.Sites.{ring_of}
use Rattle.qp_model.specs.Shapes.{Drops, Releases, releases_by, MakesAgain, Posts, PostsOne, PostsToAll, PostsUpTo}
use Rattle.qp_check_shapes.specs.ShapeUnit.{had_room}
use Rattle.qp_check_shapes.specs.declared.shape_stage.Ceiling.{Ceiling}
use Rattle.qp_check_shapes.specs.declared.shape_stage.Ceiling.TheVariants as ceiling
use Rattle.qp_check_shapes.specs.declared.shape_stage.Posting.{Posting}
use Rattle.qp_check_shapes.specs.declared.shape_stage.PublishStage.{PublishStage}
use Rattle.qp_check_shapes.specs.declared.shape_stage.PublishStage.TheVariants as stage
use Rattle.qp_check_shapes.specs.ShapePublication.{publication_released, after_posts, next_post, post_next, reference_next, posts_next, left_next, publish_next, stage_after}
use Rattle.qp_check_shapes.proofs.ShapePostLemmas.{again-static, again-pooled, none-drops}
use Rattle.qp_check_shapes.proofs.ShapeStageLemmas.{run-step, raised-is, posted-is, dropped-is, reference-is, PostRecord, OfPost, OfNoEntry, post-is}

-- how a publication ends: whole, or cut by assertion 1
abbrev pub end_of : Bool → PublishStage
end_of true = stage.Whole
end_of false = stage.Cut

-- a ceiling that rose is restored
abbrev pub restored : Ceiling → List Told
restored (ceiling.Rose former) = plain (item.Unlock former) ∷ []
restored c = []

abbrev pub is_rising : Ceiling → Bool
is_rising ceiling.Rises = true
is_rising c = false

-- the post to member k + 1 is next
abbrev pub posting : Entry → ℕ → Ceiling → ℕ → Posting
posting e set c k = record { entry = e; to = suc k; below = k; set = set; ceiling = c }

-- the posts to these members and what follows them, whole or cut
pub data Finish (sys : System) (e : Entry) (c : Ceiling) (ms : List ℕ) (b : Bool) (g : List Told) : Type 0 where
  Finishes : (posts rel : List Told) → b ≡ true → PostsToAll (ring_of sys) e ms posts → Drops e rel → g ≡ posts ++ (restored c ++ rel) → Finish sys e c ms b g
  Cuts : b ≡ false → PostsUpTo (ring_of sys) e ms g → Finish sys e c ms b g

-- nothing stands behind the end
whole-run : (sys : System) (o : ℕ) (g : List Told) (b : Bool) → stage_after sys o g stage.Whole ≡ Some (end_of b) → (b ≡ true) × (g ≡ [])
unfolding stage_after publish_next
whole-run sys o [] true h = (refl, refl)
whole-run sys o [] false h = absurd (cc)
whole-run sys o (t ∷ ts) b h = absurd (cc)

cut-run : (sys : System) (o : ℕ) (g : List Told) (b : Bool) → stage_after sys o g stage.Cut ≡ Some (end_of b) → (b ≡ false) × (g ≡ [])
unfolding stage_after publish_next
cut-run sys o [] false h = (refl, refl)
cut-run sys o [] true h = absurd (cc)
cut-run sys o (t ∷ ts) b h = absurd (cc)

dropped-run : (sys : System) (o p k d : ℕ) (g : List Told) (b : Bool) → stage_after sys o g (stage.Dropped p k d) ≡ Some (end_of b) → (b ≡ true) × (n : ℕ) × (g ≡ plain (item.Back p n k (d + 1)) ∷ [])
unfolding stage_after publish_next
dropped-run sys o p k d [] true h = absurd (cc)
dropped-run sys o p k d [] false h = absurd (cc)
dropped-run sys o p k d (t ∷ ts) b h =
    let step = run-step sys o t ts (stage.Dropped p k d) (end_of b) h in
    let is = dropped-is p k d t step.0 step.1 in
    let end = whole-run sys o ts b (subst (λ x. stage_after sys o ts x ≡ Some (end_of b)) is.2 step.2) in
    let none : ts ≡ [] = end.1 in
    let first : t ≡ plain (item.Back p is.0 k (d + 1)) = is.1 in
    (end.0, is.0, cc)

posted-run : (sys : System) (o : ℕ) (e : Entry) (g : List Told) (b : Bool) → stage_after sys o g (stage.Posted e) ≡ Some (end_of b) → (b ≡ true) × Releases e.pool e.block e.name g
unfolding stage_after publish_next
posted-run sys o e [] true h = absurd (cc)
posted-run sys o e [] false h = absurd (cc)
posted-run sys o e (t ∷ ts) b h =
    let step = run-step sys o t ts (stage.Posted e) (end_of b) h in
    let is = posted-is e t step.0 step.1 in
    by is.0 is.1 is.2 (subst (λ x. stage_after sys o ts x ≡ Some (end_of b)) is.3 step.2)
  where
    by : (d left : ℕ) → t ≡ dropped e.pool e.block d e.name left → stage_after sys o ts (left_next e.pool e.block d left) ≡ Some (end_of b) → (b ≡ true) × Releases e.pool e.block e.name (t ∷ ts)
    by d zero is h = let back = dropped-run sys o e.pool e.block d ts b h in let behind : ts ≡ plain (item.Back e.pool back.1 e.block (d + 1)) ∷ [] = back.2 in (back.0, inr (d, back.1, cc))
    by d (suc left) is h = let end = whole-run sys o ts b h in let none : ts ≡ [] = end.1 in (end.0, inl (d, left, cc))

pooled-drops : (e : Entry) (g : List Told) → (e.pool == 0) ≡ false → Releases e.pool e.block e.name g → Drops e g
unfolding Drops releases_by
pooled-drops e g is h = by e.pool is
  where
    by : (p : ℕ) → (p == 0) ≡ false → releases_by p e g
    by zero is = absurd (cc)
    by (suc p) is = h

-- the publication's own release
pub drops-sound : (sys : System) (o : ℕ) (e : Entry) (g : List Told) (b : Bool) → stage_after sys o g (publication_released e) ≡ Some (end_of b) → (b ≡ true) × Drops e g
drops-sound sys o e g b h = by (e.pool == 0) refl h
  where
    by : (fixed : Bool) → (e.pool == 0) ≡ fixed → stage_after sys o g (cond fixed stage.Whole (stage.Posted e)) ≡ Some (end_of b) → (b ≡ true) × Drops e g
    by true is h = let end = whole-run sys o g b h in (end.0, subst (λ us. Drops e us) (sym end.1) (none-drops e (eqb-true e.pool 0 is)))
    by false is h = let rel = posted-run sys o e g b h in (rel.0, pooled-drops e g is rel.1)

-- what follows the posts
pub ending-sound : (sys : System) (o : ℕ) (e : Entry) (c : Ceiling) (g : List Told) (b : Bool) → stage_after sys o g (after_posts e c) ≡ Some (end_of b)
    → (b ≡ true) × (rel : List Told) × Drops e rel × (g ≡ restored c ++ rel)
unfolding stage_after publish_next
ending-sound sys o e ceiling.Stays g b h = let rel = drops-sound sys o e g b h in (rel.0, g, rel.1, refl)
ending-sound sys o e ceiling.Rises g b h = let rel = drops-sound sys o e g b h in (rel.0, g, rel.1, refl)
ending-sound sys o e (ceiling.Rose former) [] true h = absurd (cc)
ending-sound sys o e (ceiling.Rose former) [] false h = absurd (cc)
ending-sound sys o e (ceiling.Rose former) (t ∷ ts) b h =
    let step = run-step sys o t ts (stage.Raised e former) (end_of b) h in
    let is = raised-is e former t step.0 step.1 in
    let rel = drops-sound sys o e ts b (subst (λ x. stage_after sys o ts x ≡ Some (end_of b)) is.1 step.2) in
    let first : t ≡ plain (item.Unlock former) = is.0 in
    (rel.0, ts, rel.1, cc)

-- one post, and what stands behind it
data One (sys : System) (o : ℕ) (p : Posting) (b : Bool) (g : List Told) : Type 0 where
  Goes : (one rest : List Told) → g ≡ one ++ rest → PostsOne (ring_of sys p.to) p.entry p.to Granted one → stage_after sys o rest (next_post p.entry p.set p.ceiling p.below) ≡ Some (end_of b) → One sys o p b g
  Ends : b ≡ false → PostsOne (ring_of sys p.to) p.entry p.to AtQueue g → One sys o p b g

tail-one : (sys : System) (o : ℕ) (p : Posting) (b : Bool) (head : List Told) (e : Entry) (t : Told) (ts : List Told) (x : PublishStage)
    → MakesAgain p.entry head e → PostRecord sys p e t x → stage_after sys o ts x ≡ Some (end_of b) → One sys o p b (head ++ (t ∷ ts))
unfolding PostsOne Posts had_room
tail-one sys o p b head e t ts x again (OfPost f l m t_is room x_is) h =
    Goes (head ++ (plain (item.Post p.to f l m e) ∷ [])) ts (ap (λ u. head ++ (u ∷ ts)) t_is ∙ sym (append_assoc head (plain (item.Post p.to f l m e) ∷ []) ts))
    (head, e, again, (f, l, m, refl, room)) (subst (λ y. stage_after sys o ts y ≡ Some (end_of b)) x_is h)
tail-one sys o p b head e t ts x again (OfNoEntry f l m t_is x_is) h =
    let end = cut-run sys o ts b (subst (λ y. stage_after sys o ts y ≡ Some (end_of b)) x_is h) in
    let none : ts ≡ [] = end.1 in
    let all : t ∷ ts ≡ plain (item.NoEntry p.to f l m) ∷ [] = cc in
    Ends end.0 (head, e, again, (f, l, m, ap (λ us. head ++ us) all))

-- under a ceiling that needn't rise a post begins with its reference, or with its record where the event is static
pub posts-other : (sys : System) (p : Posting) (c : Ceiling) (body : Body) (known : Known) → is_rising c ≡ false
    → posts_next sys p c body known ≡ cond (p.entry.pool == 0) (post_next sys p p.entry body known) (reference_next p body known)
unfolding posts_next
posts-other sys p ceiling.Stays body known low = refl
posts-other sys p ceiling.Rises body known low = absurd (cc)
posts-other sys p (ceiling.Rose former) body known low = refl

referred-sound : (sys : System) (o : ℕ) (p : Posting) (b : Bool) (r : ℕ) (g : List Told) → (p.entry.pool == 0) ≡ false → stage_after sys o g (stage.Referred p r) ≡ Some (end_of b)
    → One sys o p b (plain (item.Inc p.entry.pool p.entry.block r) ∷ g)
unfolding stage_after publish_next
referred-sound sys o p true r [] is h = absurd (cc)
referred-sound sys o p false r [] is h = absurd (cc)
referred-sound sys o p b r (t ∷ ts) is h =
    let step = run-step sys o t ts (stage.Referred p r) (end_of b) h in
    let above : nat_lt 0 p.entry.pool ≡ true = positive p.entry.pool is in
    tail-one sys o p b (plain (item.Inc p.entry.pool p.entry.block r) ∷ []) (entry p.entry.pool p.entry.block r) t ts step.0
    (again-pooled p.entry r above) (post-is sys p (entry p.entry.pool p.entry.block r) t step.0 step.1) step.2
  where
    positive : (k : ℕ) → (k == 0) ≡ false → nat_lt 0 k ≡ true
    positive k h = grind (arith, nat_tests)

one-sound : (sys : System) (o : ℕ) (p : Posting) (b : Bool) (g : List Told) → is_rising p.ceiling ≡ false → stage_after sys o g (stage.Posts p) ≡ Some (end_of b) → One sys o p b g
unfolding stage_after publish_next
one-sound sys o p true [] low h = absurd (cc)
one-sound sys o p false [] low h = absurd (cc)
one-sound sys o p b (t ∷ ts) low h =
    let step = run-step sys o t ts (stage.Posts p) (end_of b) h in
    by step.0 (p.entry.pool == 0) refl (sym (posts-other sys p p.ceiling t.body t.known low) ∙ step.1) step.2
  where
    by : (x : PublishStage) (fixed : Bool) → (p.entry.pool == 0) ≡ fixed → cond fixed (post_next sys p p.entry t.body t.known) (reference_next p t.body t.known) ≡ Some x → stage_after sys o ts x ≡ Some (end_of b)
        → One sys o p b (t ∷ ts)
    by x true is k behind = tail-one sys o p b [] p.entry t ts x (again-static p.entry (eqb-true p.entry.pool 0 is)) (post-is sys p p.entry t x k) behind
    by x false is k behind =
        let ref = reference-is p t x k in
        let first : t ≡ plain (item.Inc p.entry.pool p.entry.block ref.0) = ref.1 in
        subst (λ u. One sys o p b (u ∷ ts)) (sym first) (referred-sound sys o p b ref.0 ts is (subst (λ y. stage_after sys o ts y ≡ Some (end_of b)) ref.2 behind))

-- a post to the highest member, and those to the others
pub step-sound : (sys : System) (o : ℕ) (e : Entry) (set : ℕ) (c : Ceiling) (k : ℕ) (b : Bool) (g : List Told) → is_rising c ≡ false
    → ((rest : List Told) → stage_after sys o rest (next_post e set c k) ≡ Some (end_of b) → Finish sys e c (members_below k set) b rest)
    → stage_after sys o g (stage.Posts (posting e set c k)) ≡ Some (end_of b) → Finish sys e c (suc k ∷ members_below k set) b g
unfolding PostsToAll PostsUpTo
step-sound sys o e set c k b g low behind h = by (one-sound sys o (posting e set c k) b g low h)
  where
    more : (one rest : List Told) → g ≡ one ++ rest → PostsOne (ring_of sys (suc k)) e (suc k) Granted one → Finish sys e c (members_below k set) b rest → Finish sys e c (suc k ∷ members_below k set) b g
    more one rest g_is first (Cuts is upto) = Cuts is (inr (one, rest, g_is, first, upto))
    more one rest g_is first (Finishes posts rel is all drops rest_is) =
        Finishes (one ++ posts) rel is (one, posts, refl, first, all) drops (g_is ∙ ap (λ us. one ++ us) rest_is ∙ sym (append_assoc one posts (restored c ++ rel)))

    by : One sys o (posting e set c k) b g → Finish sys e c (suc k ∷ members_below k set) b g
    by (Ends is one) = Cuts is (inl one)
    by (Goes one rest g_is first run_is) = more one rest g_is first (behind rest run_is)

-- the posts to the members up to n
pub posts-sound : (sys : System) (o : ℕ) (e : Entry) (set : ℕ) (c : Ceiling) (n : ℕ) (b : Bool) (g : List Told) → is_rising c ≡ false
    → stage_after sys o g (next_post e set c n) ≡ Some (end_of b) → Finish sys e c (members_below n set) b g
unfolding next_post members_below PostsToAll
posts-sound sys o e set c zero b g low h = let end = ending-sound sys o e c g b h in Finishes [] end.1 end.0 refl end.2 end.3
posts-sound sys o e set c (suc n) b g low h = by ((set / 2 ^ n) % 2 == 1) (λ rest. posts-sound sys o e set c n b rest low) h
  where
    by : (bit : Bool) → ((rest : List Told) → stage_after sys o rest (next_post e set c n) ≡ Some (end_of b) → Finish sys e c (members_below n set) b rest)
        → stage_after sys o g (cond bit (stage.Posts (posting e set c n)) (next_post e set c n)) ≡ Some (end_of b) → Finish sys e c (cond bit (suc n ∷ members_below n set) (members_below n set)) b g
    by true behind h = step-sound sys o e set c n b g low behind h
    by false behind h = behind g h
