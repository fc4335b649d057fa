-- Each publication is read by its stages.
use Rattle.std.proofs.Common.{◌≡◌, ℕ, zero, suc, ◌+◌, ◌/◌, ◌%◌, ◌^◌, ◌==◌, nat_lt, max, Bool, true, false, cond, List, [], ◌∷◌, ◌++◌, length, Some, refl, sym, ◌∙◌, ap, subst, inl, inr, ◌⊎◌, arith, append_assoc}
use Rattle.std.proofs.lemmas.Bool.Decides.{nat_tests}
use Rattle.std.specs.declared.option.Option.{Option}
use Rattle.std.specs.Option.{unwrap_or}
use Rattle.qp_model.specs.declared.systems.System.{System}
use Rattle.qp_model.specs.declared.bodies.Entry.{Entry}
use Rattle.qp_model.specs.declared.bodies.Body.TheVariants as item
use Rattle.qp_model.specs.Record.{entry}
use Rattle.qp_model.specs.Told.{Told, Nothing, Left, plain, dropped, raised}
use Rattle.qp_model.specs.Calls.{Granted, AtQueue}
use Rattle.qp_model.specs.Parts.{is_static, sizes_of, members, members_below}
use Rattle.qp_model.specs.Sites.{ring_of}
use Rattle.qp_model.specs.Shapes.{Drops, Releases, releases_by, MakesNew, MakesBlock, Posts, PostsOne, PostsToAll, PostsUpTo, raising, restoring, PublishesFirst, PublishesLast, Publishes}
use Rattle.qp_model.proofs.LineLemmas.{same_number, same_entry-refl}
use Rattle.qp_check_shapes.specs.ShapeUnit.{had_room}
use Rattle.qp_check_shapes.specs.declared.shape_stage.Ceiling.{Ceiling}
use Rattle.qp_check_shapes.specs.declared.shape_stage.Ceiling.TheVariants as ceiling
use Rattle.qp_check_shapes.specs.declared.shape_stage.Posting.{Posting}
use Rattle.qp_check_shapes.specs.declared.shape_stage.PublishStage.{PublishStage}
use Rattle.qp_check_shapes.specs.declared.shape_stage.PublishStage.TheVariants as stage
use Rattle.qp_check_shapes.specs.ShapePublication.{publication_released, after_posts, next_post, published, start_first, made_next, post_next, reference_next, posts_next, left_next, posted_next, dropped_next, publish_next, stage_after}
use Rattle.qp_check_shapes.proofs.ShapePostLemmas.{new-cases, again-cases}
use Rattle.qp_check_shapes.proofs.ShapePartLemmas.{first-goes}
use Rattle.qp_check_shapes.proofs.ShapeStageLemmas.{step-run}
use Rattle.qp_check_shapes.proofs.ShapeRunLemmas.{end_of, restored, is_rising, posting, Finish, Finishes, Cuts, posts-other}
use Rattle.qp_check_shapes.proofs.ShapePublishLemmas.{First, NoMember, Member, first-member, Published, PublishesAll, PublishesUpTo, answer_of, source-raises}

-- the operation that drops the publication's own reference
pub posted-next : (e : Entry) (d left : ℕ) → posted_next e (item.Dec e.pool e.block d e.name) (Left left) ≡ Some (left_next e.pool e.block d left)
posted-next e d left = rw (same_number e.pool, same_number e.block, same_number e.name) refl

pub dropped-next : (p k d n : ℕ) → dropped_next p k d (item.Back p n k (d + 1)) Nothing ≡ Some stage.Whole
dropped-next p k d n = rw (same_number p, same_number k, same_number (d + 1)) refl

pub drops-whole : (sys : System) (o : ℕ) (e : Entry) (g : List Told) → Drops e g → stage_after sys o g (publication_released e) ≡ Some stage.Whole
unfolding stage_after publish_next Drops releases_by
drops-whole sys o e g h = by e.pool refl h
  where
    kept : (d left : ℕ) → stage_after sys o (dropped e.pool e.block d e.name (suc left) ∷ []) (stage.Posted e) ≡ Some stage.Whole
    kept d left = step-run sys o (dropped e.pool e.block d e.name (suc left)) [] (stage.Posted e) stage.Whole (Some stage.Whole) (posted-next e d (suc left)) refl

    freed : (d n : ℕ) → stage_after sys o (dropped e.pool e.block d e.name zero ∷ plain (item.Back e.pool n e.block (d + 1)) ∷ []) (stage.Posted e) ≡ Some stage.Whole
    freed d n =
        step-run sys o (dropped e.pool e.block d e.name zero) (plain (item.Back e.pool n e.block (d + 1)) ∷ []) (stage.Posted e) (stage.Dropped e.pool e.block d) (Some stage.Whole) (posted-next e d zero)
        (step-run sys o (plain (item.Back e.pool n e.block (d + 1))) [] (stage.Dropped e.pool e.block d) stage.Whole (Some stage.Whole) (dropped-next e.pool e.block d n) refl)

    pooled : Releases e.pool e.block e.name g → stage_after sys o g (stage.Posted e) ≡ Some stage.Whole
    pooled (inl h) = subst (λ us. stage_after sys o us (stage.Posted e) ≡ Some stage.Whole) (sym h.2) (kept h.0 h.1)
    pooled (inr h) = subst (λ us. stage_after sys o us (stage.Posted e) ≡ Some stage.Whole) (sym h.2) (freed h.0 h.1)

    by : (p : ℕ) → e.pool ≡ p → releases_by p e g → stage_after sys o g (cond (p == 0) stage.Whole (stage.Posted e)) ≡ Some stage.Whole
    by zero is h = rw h refl
    by (suc p) is h = let more : (suc p == 0) ≡ false = grind (arith, nat_tests) in rw more (pooled h)

pub ending-whole : (sys : System) (o : ℕ) (e : Entry) (c : Ceiling) (rel : List Told) → Drops e rel → stage_after sys o (restored c ++ rel) (after_posts e c) ≡ Some stage.Whole
unfolding stage_after publish_next
ending-whole sys o e ceiling.Stays rel h = drops-whole sys o e rel h
ending-whole sys o e ceiling.Rises rel h = drops-whole sys o e rel h
ending-whole sys o e (ceiling.Rose former) rel h = rw (same_number former) (drops-whole sys o e rel h)

-- a record of a post,
pub post-next : (sys : System) (p : Posting) (e : Entry) (f l m : ℕ) → had_room sys p.to f l m ≡ true → post_next sys p e (item.Post p.to f l m e) Nothing ≡ Some (next_post p.entry p.set p.ceiling p.below)
unfolding post_next
post-next sys p e f l m room = rw (same_number p.to, same_entry-refl e, room) refl

pub no_entry-next : (sys : System) (p : Posting) (e : Entry) (f l m : ℕ) → post_next sys p e (item.NoEntry p.to f l m) Nothing ≡ Some stage.Cut
unfolding post_next
no_entry-next sys p e f l m = rw (same_number p.to) refl

pub reference-next : (p : Posting) (r : ℕ) → reference_next p (item.Inc p.entry.pool p.entry.block r) Nothing ≡ Some (stage.Referred p r)
reference-next p r = rw (same_number p.entry.pool, same_number p.entry.block) refl

-- behind the records that made its entry
head-run : (sys : System) (o : ℕ) (p : Posting) (head : List Told) (e : Entry) (t : Told) (ts : List Told) (x : PublishStage) (r : Option PublishStage) → is_rising p.ceiling ≡ false
    → ((p.entry.pool ≡ 0) × (head ≡ []) × (e ≡ p.entry))
    ⊎ ((nat_lt 0 p.entry.pool ≡ true) × ((name : ℕ) × (head ≡ plain (item.Inc p.entry.pool p.entry.block name) ∷ []) × (e ≡ entry p.entry.pool p.entry.block name)))
    → post_next sys p e t.body t.known ≡ Some x → stage_after sys o ts x ≡ r → stage_after sys o (head ++ (t ∷ ts)) (stage.Posts p) ≡ r
unfolding stage_after publish_next
head-run sys o p head e t ts x r low (inl k) post behind =
    let none : (p.entry.pool == 0) ≡ true = ap (λ y. y == 0) k.0 in
    let first : posts_next sys p p.ceiling t.body t.known ≡ Some x =
    posts-other sys p p.ceiling t.body t.known low ∙ rw none (subst (λ y. post_next sys p y t.body t.known ≡ Some x) k.2 post) in
    rw k.1 (step-run sys o t ts (stage.Posts p) x r first behind)
head-run sys o p head e t ts x r low (inr k) post behind =
    let some : (p.entry.pool == 0) ≡ false = not_zero p.entry.pool k.0 in
    let made = plain (item.Inc p.entry.pool p.entry.block k.1.0) in
    let first : posts_next sys p p.ceiling (item.Inc p.entry.pool p.entry.block k.1.0) Nothing ≡ Some (stage.Referred p k.1.0) =
    posts-other sys p p.ceiling (item.Inc p.entry.pool p.entry.block k.1.0) Nothing low ∙ rw some (reference-next p k.1.0) in
    let second : stage_after sys o (t ∷ ts) (stage.Referred p k.1.0) ≡ r =
    step-run sys o t ts (stage.Referred p k.1.0) x r (subst (λ y. post_next sys p y t.body t.known ≡ Some x) k.1.2 post) behind in
    rw k.1.1 (step-run sys o made (t ∷ ts) (stage.Posts p) (stage.Referred p k.1.0) r first second)
  where
    not_zero : (n : ℕ) → nat_lt 0 n ≡ true → (n == 0) ≡ false
    not_zero n h = grind (arith, nat_tests)

-- a post, and a post that finds no entry
one-whole : (sys : System) (o : ℕ) (p : Posting) (one rest : List Told) (r : Option PublishStage) → is_rising p.ceiling ≡ false → PostsOne (ring_of sys p.to) p.entry p.to Granted one
    → stage_after sys o rest (next_post p.entry p.set p.ceiling p.below) ≡ r → stage_after sys o (one ++ rest) (stage.Posts p) ≡ r
unfolding PostsOne Posts had_room
one-whole sys o p one rest r low h behind =
    let post = plain (item.Post p.to h.3.0 h.3.1 h.3.2 h.1) in
    subst (λ us. stage_after sys o us (stage.Posts p) ≡ r) (sym (ap (λ us. us ++ rest) h.3.3 ∙ append_assoc h.0 (post ∷ []) rest))
    (head-run sys o p h.0 h.1 post rest (next_post p.entry p.set p.ceiling p.below) r low (again-cases p.entry h.0 h.1 h.2) (post-next sys p h.1 h.3.0 h.3.1 h.3.2 h.3.4) behind)

pub one-cut : (sys : System) (o : ℕ) (p : Posting) (g : List Told) → is_rising p.ceiling ≡ false → PostsOne (ring_of sys p.to) p.entry p.to AtQueue g → stage_after sys o g (stage.Posts p) ≡ Some stage.Cut
unfolding PostsOne Posts stage_after
one-cut sys o p g low h =
    let none = plain (item.NoEntry p.to h.3.0 h.3.1 h.3.2) in
    subst (λ us. stage_after sys o us (stage.Posts p) ≡ Some stage.Cut) (sym h.3.3)
    (head-run sys o p h.0 h.1 none [] stage.Cut (Some stage.Cut) low (again-cases p.entry h.0 h.1 h.2) (no_entry-next sys p h.1 h.3.0 h.3.1 h.3.2) refl)

step-whole : (sys : System) (o : ℕ) (e : Entry) (set : ℕ) (c : Ceiling) (k : ℕ) (b : Bool) (g : List Told) → is_rising c ≡ false
    → ((rest : List Told) → Finish sys e c (members_below k set) b rest → stage_after sys o rest (next_post e set c k) ≡ Some (end_of b))
    → Finish sys e c (suc k ∷ members_below k set) b g → stage_after sys o g (stage.Posts (posting e set c k)) ≡ Some (end_of b)
unfolding PostsToAll PostsUpTo
step-whole sys o e set c k b g low behind (Finishes posts rel is all drops g_is) =
    let rest = all.1 ++ (restored c ++ rel) in
    subst (λ us. stage_after sys o us (stage.Posts (posting e set c k)) ≡ Some (end_of b)) (sym (g_is ∙ ap (λ us. us ++ (restored c ++ rel)) all.2 ∙ append_assoc all.0 all.1 (restored c ++ rel)))
    (one-whole sys o (posting e set c k) all.0 rest (Some (end_of b)) low all.3 (behind rest (Finishes all.1 rel is all.4 drops refl)))
step-whole sys o e set c k b g low behind (Cuts is upto) = by upto
  where
    cut : Some stage.Cut ≡ Some (end_of b)
    cut = ap (λ x. Some (end_of x)) (sym is)

    by : PostsUpTo (ring_of sys) e (suc k ∷ members_below k set) g → stage_after sys o g (stage.Posts (posting e set c k)) ≡ Some (end_of b)
    by (inl one) = one-cut sys o (posting e set c k) g low one ∙ cut
    by (inr more) =
        subst (λ us. stage_after sys o us (stage.Posts (posting e set c k)) ≡ Some (end_of b)) (sym more.2)
        (one-whole sys o (posting e set c k) more.0 more.1 (Some (end_of b)) low more.3 (behind more.1 (Cuts is more.4)))

posts-whole : (sys : System) (o : ℕ) (e : Entry) (set : ℕ) (c : Ceiling) (n : ℕ) (b : Bool) (g : List Told) → is_rising c ≡ false
    → Finish sys e c (members_below n set) b g → stage_after sys o g (next_post e set c n) ≡ Some (end_of b)
unfolding next_post members_below PostsToAll PostsUpTo
posts-whole sys o e set c zero b g low (Finishes posts rel is all drops g_is) =
    subst (λ us. stage_after sys o us (after_posts e c) ≡ Some (end_of b)) (sym (g_is ∙ ap (λ us. us ++ (restored c ++ rel)) all))
    (ending-whole sys o e c rel drops ∙ ap (λ x. Some (end_of x)) (sym is))
posts-whole sys o e set c zero b g low (Cuts is upto) = absurd upto
posts-whole sys o e set c (suc n) b g low h = by ((set / 2 ^ n) % 2 == 1) (λ rest. posts-whole sys o e set c n b rest low) h
  where
    by : (bit : Bool) → ((rest : List Told) → Finish sys e c (members_below n set) b rest → stage_after sys o rest (next_post e set c n) ≡ Some (end_of b))
        → Finish sys e c (cond bit (suc n ∷ members_below n set) (members_below n set)) b g → stage_after sys o g (cond bit (stage.Posts (posting e set c n)) (next_post e set c n)) ≡ Some (end_of b)
    by true behind h = step-whole sys o e set c n b g low behind h
    by false behind h = behind g h

-- a publication's records behind the set, as what is behind the ceiling's rise
finish-of : (sys : System) (o : ℕ) (e : Entry) (c : Ceiling) (former : ℕ) (ms : List ℕ) (b : Bool) (posts last : List Told) → restoring o former ms ≡ restored c
    → b ≡ true → PostsToAll (ring_of sys) e ms posts → PublishesLast o e former ms last → Finish sys e c ms b (posts ++ last)
unfolding PublishesLast
finish-of sys o e c former ms b posts last end is all ends = Finishes posts ends.0 is all ends.1 (ap (λ us. posts ++ us) (ends.2 ∙ ap (λ us. us ++ ends.0) end))

-- at an object's publication the ceiling rises first
risen-whole : (sys : System) (o : ℕ) (e : Entry) (set k former : ℕ) (b : Bool) (rest : List Told) → Finish sys e (ceiling.Rose former) (suc k ∷ members_below k set) b rest
    → stage_after sys (suc o) (raised (max former (suc k)) former ∷ rest) (stage.Posts (posting e set ceiling.Rises k)) ≡ Some (end_of b)
unfolding stage_after publish_next posts_next
risen-whole sys o e set k former b rest h =
    rw (same_number (max former (suc k))) (step-whole sys (suc o) e set (ceiling.Rose former) k b rest refl (λ us. posts-whole sys (suc o) e set (ceiling.Rose former) k b us refl) h)

-- the records behind the set, by the ceiling's way
pub data Behind (sys : System) (o : ℕ) (e : Entry) (ms : List ℕ) (b : Bool) (g : List Told) : Type 0 where
  IsBehind : (former : ℕ) (rest : List Told) → g ≡ raising o former ms ++ rest → ((c : Ceiling) → restoring o former ms ≡ restored c → Finish sys e c ms b rest) → Behind sys o e ms b g

published-behind : (sys : System) (o : ℕ) (e : Entry) (ms : List ℕ) (b : Bool) (g : List Told) → Published sys o e ms b g → Behind sys o e ms b g
published-behind sys o e ms b g (PublishesAll former posts last is all ends g_is) = IsBehind former (posts ++ last) g_is (λ c end. finish-of sys o e c former ms b posts last end is all ends)
published-behind sys o e ms b g (PublishesUpTo former posts is upto g_is) = IsBehind former posts g_is (λ c end. Cuts is upto)

source-whole : (sys : System) (e : Entry) (set : ℕ) (b : Bool) (g : List Told) → Behind sys zero e (members_below 32 set) b g → stage_after sys zero g (next_post e set ceiling.Stays 32) ≡ Some (end_of b)
source-whole sys e set b g (IsBehind former rest g_is finish) =
    let source = source-raises former (members_below 32 set) in
    subst (λ us. stage_after sys zero us (next_post e set ceiling.Stays 32) ≡ Some (end_of b)) (sym (g_is ∙ ap (λ us. us ++ rest) source.0))
    (posts-whole sys zero e set ceiling.Stays 32 b rest refl (finish ceiling.Stays source.1))

object-whole : (sys : System) (o : ℕ) (e : Entry) (set : ℕ) (b : Bool) (g : List Told) → Behind sys (suc o) e (members_below 32 set) b g → stage_after sys (suc o) g (next_post e set ceiling.Rises 32) ≡ Some (end_of b)
unfolding raising restoring PostsToAll PostsUpTo
object-whole sys o e set b g h = by (first-member set 32)
  where
    none-whole : Behind sys (suc o) e [] b g → stage_after sys (suc o) g (after_posts e ceiling.Rises) ≡ Some (end_of b)
    none-whole (IsBehind former rest g_is finish) = from (finish ceiling.Rises refl)
      where
        from : Finish sys e ceiling.Rises [] b rest → stage_after sys (suc o) g (after_posts e ceiling.Rises) ≡ Some (end_of b)
        from (Finishes posts rel is all drops rest_is) =
            subst (λ us. stage_after sys (suc o) us (after_posts e ceiling.Rises) ≡ Some (end_of b)) (sym (g_is ∙ rest_is ∙ ap (λ us. us ++ rel) all))
            (ending-whole sys (suc o) e ceiling.Rises rel drops ∙ ap (λ x. Some (end_of x)) (sym is))
        from (Cuts is upto) = absurd upto

    some-whole : (k : ℕ) → Behind sys (suc o) e (suc k ∷ members_below k set) b g → stage_after sys (suc o) g (stage.Posts (posting e set ceiling.Rises k)) ≡ Some (end_of b)
    some-whole k (IsBehind former rest g_is finish) =
        subst (λ us. stage_after sys (suc o) us (stage.Posts (posting e set ceiling.Rises k)) ≡ Some (end_of b)) (sym g_is) (risen-whole sys o e set k former b rest (finish (ceiling.Rose former) refl))

    by : First set 32 → stage_after sys (suc o) g (next_post e set ceiling.Rises 32) ≡ Some (end_of b)
    by (NoMember none after) = subst (λ x. stage_after sys (suc o) g x ≡ Some (end_of b)) (sym (after e ceiling.Rises)) (none-whole (subst (λ ms. Behind sys (suc o) e ms b g) none h))
    by (Member k first after) = subst (λ x. stage_after sys (suc o) g x ≡ Some (end_of b)) (sym (after e ceiling.Rises)) (some-whole k (subst (λ ms. Behind sys (suc o) e ms b g) first h))

pub published-whole : (sys : System) (o : ℕ) (e : Entry) (set : ℕ) (b : Bool) (g : List Told) → Published sys o e (members set) b g → stage_after sys o g (published o e set) ≡ Some (end_of b)
unfolding published members
published-whole sys zero e set b g h = source-whole sys e set b g (published-behind sys zero e (members_below 32 set) b g h)
published-whole sys (suc o) e set b g h =
    let some : (suc o == 0) ≡ false = grind (arith, nat_tests) in
    rw some (object-whole sys o e set b g (published-behind sys (suc o) e (members_below 32 set) b g h))

-- the records that make the entry, the set, and what stands behind it
first-run : (sys : System) (o sig : ℕ) (pars : List ℕ) (reserve : Option ℕ) (head : List Told) (e : Entry) (n set : ℕ) (b : Bool) (rest : List Told)
    → MakesNew (is_static sys sig) (sizes_of sys) sig pars reserve head e → Published sys o e (members set) b rest
    → stage_after sys o (head ++ (plain (item.Pub sig n set) ∷ rest)) stage.Start ≡ Some (end_of b)
unfolding stage_after publish_next start_first made_next MakesBlock
first-run sys o sig pars reserve head e n set b rest makes shown = by (new-cases (is_static sys sig) (sizes_of sys) sig pars reserve head e makes)
  where
    above : (k free : ℕ) → nat_lt k free ≡ true → nat_lt 0 free ≡ true
    above k free h = grind (arith, nat_tests)

    by : ((is_static sys sig ≡ true) × (head ≡ []) × (e ≡ entry 0 sig 0)) ⊎ ((is_static sys sig ≡ false) × MakesBlock (sizes_of sys) sig pars reserve head e)
        → stage_after sys o (head ++ (plain (item.Pub sig n set) ∷ rest)) stage.Start ≡ Some (end_of b)
    by (inl k) = rw (k.1, k.0) (published-whole sys o (entry 0 sig 0) set b rest (subst (λ x. Published sys o x (members set) b rest) k.2 shown))
    by (inr k) =
        let goes = first-goes (sizes_of sys) (length pars) k.1.0 k.1.8 in
        let free : nat_lt 0 k.1.4 ≡ true = above (unwrap_or reserve 0) k.1.4 k.1.9 in
        let end : stage_after sys o rest (published o (entry k.1.0 k.1.2 k.1.5) set) ≡ Some (end_of b) =
        published-whole sys o (entry k.1.0 k.1.2 k.1.5) set b rest (subst (λ x. Published sys o x (members set) b rest) k.1.7 shown) in
        rw (k.1.6, free, goes, k.0, same_number k.1.0, same_number k.1.2, same_number sig) end

-- each publication is read to its end
pub start-whole : (sys : System) (o sig : ℕ) (pars : List ℕ) (reserve : Option ℕ) (b : Bool) (g : List Told)
    → Publishes (is_static sys sig) (sizes_of sys) (ring_of sys) o sig pars reserve (answer_of b) g → stage_after sys o g stage.Start ≡ Some (end_of b)
unfolding Publishes PublishesFirst
start-whole sys o sig pars reserve true g h =
    let shown = raising o h.1 h.2 in
    let rest = shown ++ (h.4 ++ h.5) in
    subst (λ us. stage_after sys o us stage.Start ≡ Some stage.Whole) (sym (h.9 ∙ ap (λ us. us ++ (h.4 ++ h.5)) h.6.5 ∙ append_assoc h.6.0 (plain (item.Pub sig h.6.1 h.6.2) ∷ shown) (h.4 ++ h.5)))
    (first-run sys o sig pars reserve h.6.0 h.0 h.6.1 h.6.2 true rest h.6.3 (subst (λ ms. Published sys o h.0 ms true rest) h.6.4 (PublishesAll h.1 h.4 h.5 refl h.7 h.8 refl)))
start-whole sys o sig pars reserve false g h =
    let shown = raising o h.1 h.2 in
    let rest = shown ++ h.4 in
    subst (λ us. stage_after sys o us stage.Start ≡ Some stage.Cut) (sym (h.7 ∙ ap (λ us. us ++ h.4) h.5.5 ∙ append_assoc h.5.0 (plain (item.Pub sig h.5.1 h.5.2) ∷ shown) h.4))
    (first-run sys o sig pars reserve h.5.0 h.0 h.5.1 h.5.2 false rest h.5.3 (subst (λ ms. Published sys o h.0 ms false rest) h.5.4 (PublishesUpTo h.1 h.4 refl h.6 refl)))
