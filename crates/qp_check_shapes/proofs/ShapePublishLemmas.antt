-- What the stages of a publication read is a publication.
use Rattle.std.proofs.Common.{◌≡◌, ℕ, zero, suc, ◌/◌, ◌%◌, ◌^◌, ◌==◌, Bool, true, false, List, [], ◌∷◌, ◌++◌, length, Some, None, refl, sym, ◌∙◌, ap, subst, arith, append_assoc}
use Rattle.std.proofs.lemmas.Bool.Decides.{nat_tests}
use Rattle.qp_model.specs.declared.systems.System.{System}
use Rattle.qp_model.specs.declared.bodies.Entry.{Entry}
use Rattle.qp_model.specs.declared.bodies.Body.TheVariants as item
use Rattle.qp_model.specs.Record.{entry}
use Rattle.qp_model.specs.Told.{Told, plain, told_new}
use Rattle.qp_model.specs.Calls.{Answer, Granted, AtQueue}
use Rattle.qp_model.specs.Parts.{is_static, sizes_of, members, members_below}
use Rattle.qp_model.specs.Sites.{ring_of}
use Rattle.qp_model.specs.Shapes.{MakesNew, MakesBlock, PostsToAll, PostsUpTo, raising, restoring, PublishesFirst, PublishesLast, Publishes}
use Rattle.qp_check_shapes.specs.declared.shape_stage.Ceiling.{Ceiling}
use Rattle.qp_check_shapes.specs.declared.shape_stage.Ceiling.TheVariants as ceiling
use Rattle.qp_check_shapes.specs.declared.shape_stage.PublishStage.{PublishStage}
use Rattle.qp_check_shapes.specs.declared.shape_stage.PublishStage.TheVariants as stage
use Rattle.qp_check_shapes.specs.ShapePublication.{after_posts, next_post, published, posts_next, publish_next, stage_after}
use Rattle.qp_check_shapes.proofs.ShapePostLemmas.{new-static, new-block}
use Rattle.qp_check_shapes.proofs.ShapePartLemmas.{goes-first}
use Rattle.qp_check_shapes.proofs.ShapeStageLemmas.{run-step, given-is, made-is, lock-is, StartRecord, OfBlock, OfSet, start-is}
use Rattle.qp_check_shapes.proofs.ShapeRunLemmas.{end_of, restored, posting, Finish, Finishes, Cuts, ending-sound, step-sound, posts-sound}

-- the highest member of a set, if it has one
pub data First (set n : ℕ) : Type 0 where
  NoMember : members_below n set ≡ [] → ((e : Entry) (c : Ceiling) → next_post e set c n ≡ after_posts e c) → First set n
  Member : (k : ℕ) → members_below n set ≡ suc k ∷ members_below k set → ((e : Entry) (c : Ceiling) → next_post e set c n ≡ stage.Posts (posting e set c k)) → First set n

pub first-member : (set n : ℕ) → First set n
unfolding next_post members_below
first-member set zero = NoMember refl (λ e c. refl)
first-member set (suc n) = by ((set / 2 ^ n) % 2 == 1) refl (first-member set n)
  where
    by : (bit : Bool) → ((set / 2 ^ n) % 2 == 1) ≡ bit → First set n → First set (suc n)
    by true is rest = Member n (rw is refl) (λ e c. rw is refl)
    by false is (NoMember none after) = NoMember (rw is none) (λ e c. rw is (after e c))
    by false is (Member k first after) = Member k (rw is first) (λ e c. rw is (after e c))

-- the records behind the set that a publication shows
pub data Published (sys : System) (o : ℕ) (e : Entry) (ms : List ℕ) (b : Bool) (g : List Told) : Type 0 where
  PublishesAll : (former : ℕ) (posts last : List Told) → b ≡ true → PostsToAll (ring_of sys) e ms posts → PublishesLast o e former ms last
      → g ≡ raising o former ms ++ (posts ++ last) → Published sys o e ms b g
  PublishesUpTo : (former : ℕ) (posts : List Told) → b ≡ false → PostsUpTo (ring_of sys) e ms posts → g ≡ raising o former ms ++ posts → Published sys o e ms b g

as-published : (sys : System) (o : ℕ) (e : Entry) (c : Ceiling) (ms : List ℕ) (b : Bool) (former : ℕ) (g rest : List Told)
    → g ≡ raising o former ms ++ rest → restoring o former ms ≡ restored c → Finish sys e c ms b rest → Published sys o e ms b g
unfolding PublishesLast
as-published sys o e c ms b former g rest g_is end (Finishes posts rel is all drops rest_is) =
    PublishesAll former posts (restored c ++ rel) is all (rel, drops, ap (λ us. us ++ rel) (sym end)) (g_is ∙ ap (λ us. raising o former ms ++ us) rest_is)
as-published sys o e c ms b former g rest g_is end (Cuts is upto) = PublishesUpTo former rest is upto g_is

pub source-raises : (former : ℕ) (ms : List ℕ) → (raising zero former ms ≡ []) × (restoring zero former ms ≡ [])
unfolding raising restoring
source-raises former [] = (refl, refl)
source-raises former (a ∷ others) = (refl, refl)

-- at an object's publication the ceiling rises first
risen-sound : (sys : System) (o : ℕ) (e : Entry) (set k : ℕ) (b : Bool) (g : List Told) → stage_after sys (suc o) g (stage.Posts (posting e set ceiling.Rises k)) ≡ Some (end_of b)
    → Published sys (suc o) e (suc k ∷ members_below k set) b g
unfolding stage_after publish_next posts_next raising restoring
risen-sound sys o e set k true [] h = absurd (cc)
risen-sound sys o e set k false [] h = absurd (cc)
risen-sound sys o e set k b (t ∷ ts) h =
    let step = run-step sys (suc o) t ts (stage.Posts (posting e set ceiling.Rises k)) (end_of b) h in
    let lock = lock-is (posting e set ceiling.Rises k) t step.0 step.1 in
    let behind : stage_after sys (suc o) ts (stage.Posts (posting e set (ceiling.Rose lock.0) k)) ≡ Some (end_of b) = subst (λ x. stage_after sys (suc o) ts x ≡ Some (end_of b)) lock.2 step.2 in
    let finish = step-sound sys (suc o) e set (ceiling.Rose lock.0) k b ts refl (λ rest. posts-sound sys (suc o) e set (ceiling.Rose lock.0) k b rest refl) behind in
    as-published sys (suc o) e (ceiling.Rose lock.0) (suc k ∷ members_below k set) b lock.0 (t ∷ ts) ts (ap (λ u. u ∷ ts) lock.1) refl finish

pub published-sound : (sys : System) (o : ℕ) (e : Entry) (set : ℕ) (b : Bool) (g : List Told) → stage_after sys o g (published o e set) ≡ Some (end_of b) → Published sys o e (members set) b g
unfolding published members raising restoring PostsToAll
published-sound sys zero e set b g h =
    let source = source-raises 0 (members_below 32 set) in
    as-published sys zero e ceiling.Stays (members_below 32 set) b 0 g g (ap (λ us. us ++ g) (sym source.0)) source.1 (posts-sound sys zero e set ceiling.Stays 32 b g refl h)
published-sound sys (suc o) e set b g h = by (first-member set 32)
  where
    some : (suc o == 0) ≡ false
    some = grind (arith, nat_tests)

    rises : stage_after sys (suc o) g (next_post e set ceiling.Rises 32) ≡ Some (end_of b)
    rises = rw some at h

    by : First set 32 → Published sys (suc o) e (members_below 32 set) b g
    by (NoMember none after) =
        let end = ending-sound sys (suc o) e ceiling.Rises g b (subst (λ x. stage_after sys (suc o) g x ≡ Some (end_of b)) (after e ceiling.Rises) rises) in
        subst (λ ms. Published sys (suc o) e ms b g) (sym none)
        (as-published sys (suc o) e ceiling.Rises [] b 0 g g refl refl (Finishes [] end.1 end.0 refl end.2 end.3))
    by (Member k first after) =
        subst (λ ms. Published sys (suc o) e ms b g) (sym first)
        (risen-sound sys o e set k b g (subst (λ x. stage_after sys (suc o) g x ≡ Some (end_of b)) (after e ceiling.Rises) rises))

-- the answer of a publication by its end
abbrev pub answer_of : Bool → Answer
answer_of true = Granted
answer_of false = AtQueue

-- an entry that is made, the set, and what stands behind it
publishes : (sys : System) (o sig : ℕ) (pars : List ℕ) (head : List Told) (e : Entry) (n set : ℕ) (b : Bool) (rest : List Told)
    → MakesNew (is_static sys sig) (sizes_of sys) sig pars None head e → Published sys o e (members set) b rest
    → Publishes (is_static sys sig) (sizes_of sys) (ring_of sys) o sig pars None (answer_of b) (head ++ (plain (item.Pub sig n set) ∷ rest))
unfolding Publishes PublishesFirst
publishes sys o sig pars head e n set b rest makes (PublishesAll former posts last is all ends rest_is) =
    subst (λ x. Publishes (is_static sys sig) (sizes_of sys) (ring_of sys) o sig pars None (answer_of x) (head ++ (plain (item.Pub sig n set) ∷ rest))) (sym is) (
      e,
      former,
      members set,
      head ++ (plain (item.Pub sig n set) ∷ raising o former (members set)),
      posts,
      last,
      (head, n, set, makes, refl, refl),
      all,
      ends,
      ap (λ us. head ++ (plain (item.Pub sig n set) ∷ us)) rest_is ∙ sym (append_assoc head (plain (item.Pub sig n set) ∷ raising o former (members set)) (posts ++ last)),
    )
publishes sys o sig pars head e n set b rest makes (PublishesUpTo former posts is upto rest_is) =
    subst (λ x. Publishes (is_static sys sig) (sizes_of sys) (ring_of sys) o sig pars None (answer_of x) (head ++ (plain (item.Pub sig n set) ∷ rest))) (sym is) (
      e,
      former,
      members set,
      head ++ (plain (item.Pub sig n set) ∷ raising o former (members set)),
      posts,
      (head, n, set, makes, refl, refl),
      upto,
      ap (λ us. head ++ (plain (item.Pub sig n set) ∷ us)) rest_is ∙ sym (append_assoc head (plain (item.Pub sig n set) ∷ raising o former (members set)) posts),
    )

-- a publication of no reserve
abbrev pub IsPublication : System → ℕ → Bool → List Told → Type 0
IsPublication sys o b g = (sig : ℕ) × (pars : List ℕ) × Publishes (is_static sys sig) (sizes_of sys) (ring_of sys) o sig pars None (answer_of b) g

made-sound : (sys : System) (o p n k from sig free r : ℕ) (pars : List ℕ) (b : Bool) (g : List Told)
    → MakesNew (is_static sys sig) (sizes_of sys) sig pars None (told_new p n k from sig pars free ∷ plain (item.Inc p k r) ∷ []) (entry p k r)
    → stage_after sys o g (stage.Made (entry p k r) sig) ≡ Some (end_of b) → IsPublication sys o b (told_new p n k from sig pars free ∷ plain (item.Inc p k r) ∷ g)
unfolding stage_after publish_next
made-sound sys o p n k from sig free r pars true [] makes h = absurd (cc)
made-sound sys o p n k from sig free r pars false [] makes h = absurd (cc)
made-sound sys o p n k from sig free r pars b (t ∷ ts) makes h =
    let step = run-step sys o t ts (stage.Made (entry p k r) sig) (end_of b) h in
    let is = made-is o (entry p k r) sig t step.0 step.1 in
    let shown = published-sound sys o (entry p k r) is.1 b ts (subst (λ x. stage_after sys o ts x ≡ Some (end_of b)) is.3 step.2) in
    let whole = publishes sys o sig pars (told_new p n k from sig pars free ∷ plain (item.Inc p k r) ∷ []) (entry p k r) is.0 is.1 b ts makes shown in
    (sig, pars, subst (λ u. Publishes (is_static sys sig) (sizes_of sys) (ring_of sys) o sig pars None (answer_of b) (told_new p n k from sig pars free ∷ plain (item.Inc p k r) ∷ u ∷ ts)) (sym is.2) whole)

given-sound : (sys : System) (o p n k from sig free : ℕ) (pars : List ℕ) (b : Bool) (g : List Told)
    → ((r : ℕ) → MakesNew (is_static sys sig) (sizes_of sys) sig pars None (told_new p n k from sig pars free ∷ plain (item.Inc p k r) ∷ []) (entry p k r))
    → stage_after sys o g (stage.Given p k sig) ≡ Some (end_of b) → IsPublication sys o b (told_new p n k from sig pars free ∷ g)
unfolding stage_after publish_next
given-sound sys o p n k from sig free pars true [] makes h = absurd (cc)
given-sound sys o p n k from sig free pars false [] makes h = absurd (cc)
given-sound sys o p n k from sig free pars b (t ∷ ts) makes h =
    let step = run-step sys o t ts (stage.Given p k sig) (end_of b) h in
    let is = given-is p k sig t step.0 step.1 in
    subst (λ u. IsPublication sys o b (told_new p n k from sig pars free ∷ u ∷ ts)) (sym is.1)
    (made-sound sys o p n k from sig free is.0 pars b ts (makes is.0) (subst (λ x. stage_after sys o ts x ≡ Some (end_of b)) is.2 step.2))

-- what is read from the start to an end is a publication
pub start-sound : (sys : System) (o : ℕ) (b : Bool) (g : List Told) → stage_after sys o g stage.Start ≡ Some (end_of b) → IsPublication sys o b g
unfolding stage_after publish_next MakesBlock
start-sound sys o true [] h = absurd (cc)
start-sound sys o false [] h = absurd (cc)
start-sound sys o b (t ∷ ts) h = let step = run-step sys o t ts stage.Start (end_of b) h in by step.0 (start-is sys o t step.0 step.1) step.2
  where
    by : (x : PublishStage) → StartRecord sys o t x → stage_after sys o ts x ≡ Some (end_of b) → IsPublication sys o b (t ∷ ts)
    by x (OfBlock p n k from sig free pars t_is above goes pooled x_is) h =
        subst (λ u. IsPublication sys o b (u ∷ ts)) (sym t_is)
        (given-sound sys o p n k from sig free pars b ts
        (λ r. new-block (is_static sys sig) (sizes_of sys) sig pars None _ (entry p k r) pooled (p, n, k, from, free, r, refl, refl, goes-first (sizes_of sys) (length pars) p goes, above))
        (subst (λ y. stage_after sys o ts y ≡ Some (end_of b)) x_is h))
    by x (OfSet sig n set t_is fixed x_is) h =
        subst (λ u. IsPublication sys o b (u ∷ ts)) (sym t_is) (
          sig,
          [],
          publishes sys o sig [] [] (entry 0 sig 0) n set b ts (new-static (is_static sys sig) (sizes_of sys) sig [] None fixed)
              (published-sound sys o (entry 0 sig 0) set b ts (subst (λ y. stage_after sys o ts y ≡ Some (end_of b)) x_is h)),
        )
