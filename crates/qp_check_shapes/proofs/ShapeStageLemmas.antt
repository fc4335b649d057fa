-- The record that each stage of a publication waits for.
use Rattle.std.proofs.Common.{◌≡◌, ℕ, ◌+◌, ◌==◌, nat_lt, max, Bool, true, false, not, ◌&&◌, List, ◌∷◌, length, Some, None, refl, sym, ◌∙◌, ap, arith}
use Rattle.std.proofs.lemmas.Bool.{and_parts, not-true, eqb-true}
use Rattle.std.proofs.lemmas.Bool.Decides.{nat_tests}
use Rattle.std.specs.declared.option.Option.{Option}
use Rattle.std.specs.Option.{option_and_then}
use Rattle.std.proofs.lemmas.Option.{none-some}
use Rattle.qp_model.specs.declared.systems.System.{System}
use Rattle.qp_model.specs.declared.bodies.Entry.{Entry}
use Rattle.qp_model.specs.declared.bodies.Body.{Body}
use Rattle.qp_model.specs.declared.bodies.Body.TheVariants as item
use Rattle.qp_model.specs.Record.{entry}
use Rattle.qp_model.specs.Line.{same_entry}
use Rattle.qp_model.specs.Told.{Told, Known, Nothing, Free, Left, Former, plain, told_new, dropped, raised}
use Rattle.qp_model.specs.Parts.{is_static, sizes_of}
use Rattle.qp_check_shapes.specs.ShapeUnit.{goes_to, had_room}
use Rattle.qp_check_shapes.specs.declared.shape_stage.Ceiling.TheVariants as ceiling
use Rattle.qp_check_shapes.specs.declared.shape_stage.Posting.{Posting}
use Rattle.qp_check_shapes.specs.declared.shape_stage.PublishStage.{PublishStage}
use Rattle.qp_check_shapes.specs.declared.shape_stage.PublishStage.TheVariants as stage
use Rattle.qp_check_shapes.specs.ShapePublication.{stage_if, publication_released, next_post, published, start_first, given_next, made_next, post_next, reference_next, lock_next, raised_next, left_next, posted_next, dropped_next, publish_next, stage_after}
use Rattle.qp_model.proofs.RecordLemmas.{same_entry-is, told-is}

-- a test that is passed, and the stage behind it
stage-passed : (test : Bool) (s x : PublishStage) → stage_if test s ≡ Some x → (test ≡ true) × (x ≡ s)
stage-passed true s x h = (refl, cc)
stage-passed false s x h = absurd (none-some _ h)

-- the first of more records
pub run-step : (sys : System) (o : ℕ) (t : Told) (ts : List Told) (s end : PublishStage) → stage_after sys o (t ∷ ts) s ≡ Some end
    → (x : PublishStage) × (publish_next sys o s t.body t.known ≡ Some x) × (stage_after sys o ts x ≡ Some end)
unfolding stage_after
run-step sys o t ts s end h = by (publish_next sys o s t.body t.known) refl h
  where
    by : (r : Option PublishStage) → publish_next sys o s t.body t.known ≡ r → option_and_then (λ x. stage_after sys o ts x) r ≡ Some end
        → (x : PublishStage) × (publish_next sys o s t.body t.known ≡ Some x) × (stage_after sys o ts x ≡ Some end)
    by None is h = absurd (cc)
    by (Some x) is h = (x, is, h)

pub step-run : (sys : System) (o : ℕ) (t : Told) (ts : List Told) (s x : PublishStage) (r : Option PublishStage) → publish_next sys o s t.body t.known ≡ Some x → stage_after sys o ts x ≡ r → stage_after sys o (t ∷ ts) s ≡ r
unfolding stage_after
step-run sys o t ts s x r is h = rw is h

pub given-is : (p b sig : ℕ) (t : Told) (x : PublishStage) → given_next p b sig t.body t.known ≡ Some x → (r : ℕ) × (t ≡ plain (item.Inc p b r)) × (x ≡ stage.Made (entry p b r) sig)
given-is p b sig t x h = by t.body t.known refl refl h
  where
    by : (body : Body) (known : Known) → t.body ≡ body → t.known ≡ known → given_next p b sig body known ≡ Some x → (r : ℕ) × (t ≡ plain (item.Inc p b r)) × (x ≡ stage.Made (entry p b r) sig)
    by (item.Inc q c r) Nothing is_body is_known h =
        let test = stage-passed _ _ x h in
        let tests = and_parts (q == p) (c == b) test.0 in
        let e1 : q ≡ p = eqb-true q p tests.0 in
        let e2 : c ≡ b = eqb-true c b tests.1 in
        let whole : t ≡ plain (item.Inc q c r) = told-is t _ _ is_body is_known in
        (r, cc, test.1)
    by body known is_body is_known h = absurd (none-some _ h)

pub made-is : (o : ℕ) (e : Entry) (sig : ℕ) (t : Told) (x : PublishStage) → made_next o e sig t.body t.known ≡ Some x → (n set : ℕ) × (t ≡ plain (item.Pub sig n set)) × (x ≡ published o e set)
unfolding made_next
made-is o e sig t x h = by t.body t.known refl refl h
  where
    by : (body : Body) (known : Known) → t.body ≡ body → t.known ≡ known → made_next o e sig body known ≡ Some x → (n set : ℕ) × (t ≡ plain (item.Pub sig n set)) × (x ≡ published o e set)
    by (item.Pub s n set) Nothing is_body is_known h =
        let test = stage-passed (s == sig) _ x h in
        let e1 : s ≡ sig = eqb-true s sig test.0 in
        let whole : t ≡ plain (item.Pub s n set) = told-is t _ _ is_body is_known in
        (n, set, cc, test.1)
    by body known is_body is_known h = absurd (none-some _ h)

pub raised-is : (e : Entry) (former : ℕ) (t : Told) (x : PublishStage) → raised_next e former t.body t.known ≡ Some x → (t ≡ plain (item.Unlock former)) × (x ≡ publication_released e)
raised-is e former t x h = by t.body t.known refl refl h
  where
    by : (body : Body) (known : Known) → t.body ≡ body → t.known ≡ known → raised_next e former body known ≡ Some x → (t ≡ plain (item.Unlock former)) × (x ≡ publication_released e)
    by (item.Unlock c) Nothing is_body is_known h =
        let test = stage-passed (c == former) (publication_released e) x h in
        let e1 : c ≡ former = eqb-true c former test.0 in
        let whole : t ≡ plain (item.Unlock c) = told-is t _ _ is_body is_known in
        (cc, test.1)
    by body known is_body is_known h = absurd (none-some _ h)

pub posted-is : (e : Entry) (t : Told) (x : PublishStage) → posted_next e t.body t.known ≡ Some x → (d left : ℕ) × (t ≡ dropped e.pool e.block d e.name left) × (x ≡ left_next e.pool e.block d left)
posted-is e t x h = by t.body t.known refl refl h
  where
    by : (body : Body) (known : Known) → t.body ≡ body → t.known ≡ known → posted_next e body known ≡ Some x
        → (d left : ℕ) × (t ≡ dropped e.pool e.block d e.name left) × (x ≡ left_next e.pool e.block d left)
    by (item.Dec p b d k) (Left left) is_body is_known h =
        let test = stage-passed ((p == e.pool) && (b == e.block) && (k == e.name)) (left_next p b d left) x h in
        let e1 : p ≡ e.pool = grind (arith, nat_tests) in
        let e2 : b ≡ e.block = grind (arith, nat_tests) in
        let e3 : k ≡ e.name = grind (arith, nat_tests) in
        let whole : t ≡ dropped p b d k left = told-is t _ _ is_body is_known in
        (d, left, cc, cc)
    by body known is_body is_known h = absurd (none-some _ h)

pub dropped-is : (p b d : ℕ) (t : Told) (x : PublishStage) → dropped_next p b d t.body t.known ≡ Some x → (n : ℕ) × (t ≡ plain (item.Back p n b (d + 1))) × (x ≡ stage.Whole)
dropped-is p b d t x h = by t.body t.known refl refl h
  where
    by : (body : Body) (known : Known) → t.body ≡ body → t.known ≡ known → dropped_next p b d body known ≡ Some x → (n : ℕ) × (t ≡ plain (item.Back p n b (d + 1))) × (x ≡ stage.Whole)
    by (item.Back q n c to) Nothing is_body is_known h =
        let test = stage-passed ((q == p) && (c == b) && (to == d + 1)) stage.Whole x h in
        let e1 : q ≡ p = grind (arith, nat_tests) in
        let e2 : c ≡ b = grind (arith, nat_tests) in
        let e3 : to ≡ d + 1 = grind (arith, nat_tests) in
        let whole : t ≡ plain (item.Back q n c to) = told-is t _ _ is_body is_known in
        (n, cc, test.1)
    by body known is_body is_known h = absurd (none-some _ h)

pub lock-is : (p : Posting) (t : Told) (x : PublishStage) → lock_next p t.body t.known ≡ Some x
    → (former : ℕ) × (t ≡ raised (max former p.to) former) × (x ≡ stage.Posts (record { entry = p.entry; to = p.to; below = p.below; set = p.set; ceiling = ceiling.Rose former }))
lock-is p t x h = by t.body t.known refl refl h
  where
    by : (body : Body) (known : Known) → t.body ≡ body → t.known ≡ known → lock_next p body known ≡ Some x
        → (former : ℕ) × (t ≡ raised (max former p.to) former) × (x ≡ stage.Posts (record { entry = p.entry; to = p.to; below = p.below; set = p.set; ceiling = ceiling.Rose former }))
    by (item.Lock c) (Former former) is_body is_known h =
        let test = stage-passed (c == max former p.to) _ x h in
        let e1 : c ≡ max former p.to = eqb-true c (max former p.to) test.0 in
        let whole : t ≡ raised c former = told-is t _ _ is_body is_known in
        (former, whole ∙ ap (λ y. raised y former) e1, test.1)
    by body known is_body is_known h = absurd (none-some _ h)

pub reference-is : (p : Posting) (t : Told) (x : PublishStage) → reference_next p t.body t.known ≡ Some x → (r : ℕ) × (t ≡ plain (item.Inc p.entry.pool p.entry.block r)) × (x ≡ stage.Referred p r)
reference-is p t x h = by t.body t.known refl refl h
  where
    by : (body : Body) (known : Known) → t.body ≡ body → t.known ≡ known → reference_next p body known ≡ Some x
        → (r : ℕ) × (t ≡ plain (item.Inc p.entry.pool p.entry.block r)) × (x ≡ stage.Referred p r)
    by (item.Inc q c r) Nothing is_body is_known h =
        let test = stage-passed ((q == p.entry.pool) && (c == p.entry.block)) (stage.Referred p r) x h in
        let tests = and_parts (q == p.entry.pool) (c == p.entry.block) test.0 in
        let e1 : q ≡ p.entry.pool = eqb-true q p.entry.pool tests.0 in
        let e2 : c ≡ p.entry.block = eqb-true c p.entry.block tests.1 in
        let whole : t ≡ plain (item.Inc q c r) = told-is t _ _ is_body is_known in
        (r, cc, test.1)
    by body known is_body is_known h = absurd (none-some _ h)

-- a post, or a queue with no entry left
pub data PostRecord (sys : System) (p : Posting) (e : Entry) (t : Told) (x : PublishStage) : Type 0 where
  OfPost : (f l m : ℕ) → t ≡ plain (item.Post p.to f l m e) → had_room sys p.to f l m ≡ true → x ≡ next_post p.entry p.set p.ceiling p.below → PostRecord sys p e t x
  OfNoEntry : (f l m : ℕ) → t ≡ plain (item.NoEntry p.to f l m) → x ≡ stage.Cut → PostRecord sys p e t x

pub post-is : (sys : System) (p : Posting) (e : Entry) (t : Told) (x : PublishStage) → post_next sys p e t.body t.known ≡ Some x → PostRecord sys p e t x
unfolding post_next
post-is sys p e t x h = by t.body t.known refl refl h
  where
    by : (body : Body) (known : Known) → t.body ≡ body → t.known ≡ known → post_next sys p e body known ≡ Some x → PostRecord sys p e t x
    by (item.Post a f l m y) Nothing is_body is_known h =
        let test = stage-passed ((a == p.to) && same_entry y e && had_room sys a f l m) (next_post p.entry p.set p.ceiling p.below) x h in
        let tests = and_parts ((a == p.to) && same_entry y e) (had_room sys a f l m) test.0 in
        let more = and_parts (a == p.to) (same_entry y e) tests.0 in
        let e1 : a ≡ p.to = eqb-true a p.to more.0 in
        let e2 : y ≡ e = same_entry-is y e more.1 in
        let whole : t ≡ plain (item.Post a f l m y) = told-is t _ _ is_body is_known in
        OfPost f l m (cc) (ap (λ z. had_room sys z f l m) (sym e1) ∙ tests.1) test.1
    by (item.NoEntry a f l m) Nothing is_body is_known h =
        let test = stage-passed (a == p.to) stage.Cut x h in
        let e1 : a ≡ p.to = eqb-true a p.to test.0 in
        let whole : t ≡ plain (item.NoEntry a f l m) = told-is t _ _ is_body is_known in
        OfNoEntry f l m (cc) test.1
    by body known is_body is_known h = absurd (none-some _ h)

-- a block for a new event, or the set of a static one
pub data StartRecord (sys : System) (o : ℕ) (t : Told) (x : PublishStage) : Type 0 where
  OfBlock : (p n b from sig free : ℕ) (pars : List ℕ) → t ≡ told_new p n b from sig pars free → nat_lt 0 free ≡ true → goes_to (sizes_of sys) (length pars) p ≡ true → is_static sys sig ≡ false
      → x ≡ stage.Given p b sig → StartRecord sys o t x
  OfSet : (sig n set : ℕ) → t ≡ plain (item.Pub sig n set) → is_static sys sig ≡ true → x ≡ published o (entry 0 sig 0) set → StartRecord sys o t x

pub start-is : (sys : System) (o : ℕ) (t : Told) (x : PublishStage) → start_first sys o t.body t.known ≡ Some x → StartRecord sys o t x
unfolding start_first
start-is sys o t x h = by t.body t.known refl refl h
  where
    by : (body : Body) (known : Known) → t.body ≡ body → t.known ≡ known → start_first sys o body known ≡ Some x → StartRecord sys o t x
    by (item.New p n b from sig pars) (Free free) is_body is_known h =
        let test = stage-passed (nat_lt 0 free && goes_to (sizes_of sys) (length pars) p && not (is_static sys sig)) (stage.Given p b sig) x h in
        let tests = and_parts (nat_lt 0 free && goes_to (sizes_of sys) (length pars) p) (not (is_static sys sig)) test.0 in
        let more = and_parts (nat_lt 0 free) (goes_to (sizes_of sys) (length pars) p) tests.0 in
        OfBlock p n b from sig free pars (told-is t _ _ is_body is_known) more.0 more.1 (not-true (is_static sys sig) tests.1) test.1
    by (item.Pub sig n set) Nothing is_body is_known h =
        let test = stage-passed (is_static sys sig) (published o (entry 0 sig 0) set) x h in
        OfSet sig n set (told-is t _ _ is_body is_known) test.0 test.1
    by body known is_body is_known h = absurd (none-some _ h)
