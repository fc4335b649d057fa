-- What a turn of an object adds to lane 0, by what the dispatcher says of it: to its next point, to its end, or to its assertion.
use Rattle.std.proofs.Common.{◌≡◌, ℕ, zero, suc, Bool, true, false, ◌||◌, List, [], ◌∷◌, ◌++◌, map, refl, sym, ◌∙◌, ap, subst, inl, inr, Option, Some, None, append_assoc}
use Rattle.std.specs.Prelude.{◌⊎◌, ◌≢◌}
use Rattle.std.specs.List.{list_any}
use Rattle.std.specs.Option.{is_some}
use Rattle.std.proofs.lemmas.Bool.{or_parts}
use Rattle.qp_chart.specs.Agenda.{start_plan}
use Rattle.qp_chart.specs.Task.{Task}
use Rattle.qp_model.specs.declared.systems.System.{System}
use Rattle.qp_model.specs.declared.bodies.Entry.{Entry}
use Rattle.qp_model.specs.declared.bodies.Body.{Body}
use Rattle.qp_model.specs.declared.bodies.Body.TheVariants as item
use Rattle.qp_model.specs.Told.{Told, Event, plain, for_object, untold}
use Rattle.qp_model.specs.Calls.{Granted, AtQueue}
use Rattle.qp_model.specs.Sites.{ring_of}
use Rattle.qp_model.specs.Shapes.{Drops, Releases, releases_by, MakesAgain, again_by, Posts, PostsOne, PublishesLast, restoring}
use Rattle.qp_model.specs.Pieces.{Piece, Tell, Point, records_in, tell}
use Rattle.qp_model.specs.Acts.{Config, Actor, Moment, Does}
use Rattle.qp_model.specs.Step.{Publishing, GoesOnPublishing, Remainder, DoesLeft, StepGoesOn, Closes, at_leaf, moment}
use Rattle.qp_model.specs.Course.{Starts, at_start}
use Rattle.qp_model.specs.KernelLane.{role_of}
use Rattle.qp_model.specs.Ends.{is_turn_mark, is_end, is_assert, ends_last}
use Rattle.qp_model.specs.OneOrder.{stim_of}
use Rattle.qp_model.proofs.GroupLemmas.{bare-append, bare-tell}
use Rattle.qp_model.proofs.KernelRowLemmas.{IsOwnRole}
use Rattle.std.proofs.lemmas.List.{map-append}
use Rattle.qp_model_order.proofs.CalmLemmas.{calm-ends_last}
use Rattle.qp_kernel.specs.Stages.{closes}
use Rattle.qp_kernel.proofs.AgendaLemmas.{start-closes}
use Rattle.qp_kernel.proofs.InnerLemmas.{IsInner, AreInner, inner-append, Form, does-form}
use Rattle.qp_kernel.proofs.ToldPieces.{AreOwn}
use Rattle.qp_kernel.proofs.ZeroLemmas.{AreDrops, drop-not_look}
use Rattle.qp_model.proofs.PublicationLemmas.{tell-append}
use Rattle.qp_model.proofs.ListLemmas.{nil-front}

inner : (b : Body) → IsOwnRole (role_of b) → is_turn_mark b ≡ false → is_end b ≡ false → is_some (stim_of b) ≡ false → IsInner b
inner b own mark calm stim = record { own = own; unmarked = mark; calm = calm; unstim = stim }

-- a release
releases-drops : (p b k : ℕ) (g : List Told) → Releases p b k g → AreDrops g × AreInner (tell g)
unfolding role_of
releases-drops p b k g (inl (d, left, e)) = (subst AreDrops (sym e) (refl, tt), subst (λ x. AreInner (tell x)) (sym e) (inner _ tt refl refl refl, tt))
releases-drops p b k g (inr (d, n, e)) = (subst AreDrops (sym e) (refl, (refl, tt)), subst (λ x. AreInner (tell x)) (sym e) (inner _ tt refl refl refl, (inner _ tt refl refl refl, tt)))

by_pool-drops : (n : ℕ) (e : Entry) (g : List Told) → releases_by n e g → AreDrops g × AreInner (tell g)
unfolding releases_by
by_pool-drops zero e g h = (subst AreDrops (sym h) tt, subst (λ x. AreInner (tell x)) (sym h) tt)
by_pool-drops (suc n) e g h = releases-drops e.pool e.block e.name g h

pub drops-are : (e : Entry) (g : List Told) → Drops e g → AreDrops g × AreInner (tell g)
unfolding Drops
drops-are e g h = by_pool-drops e.pool e g h

-- the last records of a publication
last-inner : (o : ℕ) (e : Entry) (former : ℕ) (ms : List ℕ) (g : List Told) → PublishesLast o e former ms g → AreInner (tell g)
unfolding PublishesLast restoring role_of
last-inner o e former ms g h =
    subst AreInner (sym (ap tell h.2 ∙ tell-append (restoring o former ms) h.0)) (inner-append (tell (restoring o former ms)) (tell h.0) (by o ms) (drops-are e h.0 h.1).1)
  where
    by : (o : ℕ) (ms : List ℕ) → AreInner (tell (restoring o former ms))
    by o [] = tt
    by zero (x ∷ others) = tt
    by (suc o) (x ∷ others) = (inner _ tt refl refl refl, tt)

again-inner : (n : ℕ) (old : Entry) (head : List Told) (e : Entry) → again_by n old head e → AreInner (tell head)
unfolding again_by role_of
again-inner zero old head e h = subst (λ x. AreInner (tell x)) (sym h.0) tt
again-inner (suc n) old head e h = subst (λ x. AreInner (tell x)) (sym h.1) (inner _ tt refl refl refl, tt)

-- one post of a publication
post-inner : (ring : ℕ) (e : Entry) (to : ℕ) (g : List Told) → PostsOne ring e to Granted g → AreInner (tell g)
unfolding PostsOne MakesAgain Posts role_of
post-inner ring e to g h =
    let made = h.3 in
    subst AreInner (sym (ap tell made.3 ∙ tell-append h.0 (plain (item.Post to made.0 made.1 made.2 h.1) ∷ [])))
    (inner-append (tell h.0) (Tell (plain (item.Post to made.0 made.1 made.2 h.1)) ∷ []) (again-inner e.pool e h.0 h.1 h.2) (inner _ tt refl refl refl, tt))

-- a form behind pieces of the inside
form-behind : (sys : System) (a : Actor) (at : Moment) (front rest ps : List Piece) (mid : Option Config) → AreInner front → ps ≡ front ++ rest → Form sys a at rest mid → Form sys a at ps mid
form-behind sys a at front rest ps mid inside is f = record {
  front = front ++ f.front;
  inner = inner-append front f.front inside f.inner;
  last = f.last;
  whole = is ∙ ap (λ x. front ++ x) f.whole ∙ sym (append_assoc front f.front (Tell f.last ∷ []));
  which = f.which;
}

-- a post that finds no entry
post-asserts : (sys : System) (a : Actor) (at : Moment) (ring : ℕ) (e : Entry) (to : ℕ) (g : List Told) (ps : List Piece) (mid : Option Config)
    → PostsOne ring e to AtQueue g → ps ≡ tell g → mid ≡ None → Form sys a at ps mid
unfolding PostsOne Posts MakesAgain
post-asserts sys a at ring e to g ps mid h whole none =
    let made = h.3 in
    record {
      front = tell h.0;
      inner = again-inner e.pool e h.0 h.1 h.2;
      last = plain (item.NoEntry to made.0 made.1 made.2);
      whole = whole ∙ ap tell made.3 ∙ tell-append h.0 (plain (item.NoEntry to made.0 made.1 made.2) ∷ []);
      which = inr (refl, none);
    }

module _ (sys : System) (a : Actor) (at : Moment) where
  publishing-form : (c : Config) (p : Publishing) (posts : List ℕ) (ts : List Task) (ps : List Piece) (mid : Option Config) → closes ts ≡ true
      → GoesOnPublishing sys a c p posts (λ d rest. Does sys a at ts d rest mid) (mid ≡ None) ps → Form sys a at ps mid
  unfolding GoesOnPublishing
  publishing-form c p [] ts ps mid closing h =
      form-behind sys a at (tell h.0 ++ Point ∷ []) h.1 ps mid (inner-append (tell h.0) (Point ∷ []) (last-inner a.o p.entry p.former p.members h.0 h.2) tt)
      (h.3 ∙ sym (append_assoc (tell h.0) (Point ∷ []) h.1)) (does-form sys a at ts _ h.1 mid closing h.4)
  publishing-form c p (to ∷ others) ts ps mid closing (inl h) = post-asserts sys a at (ring_of sys to) p.entry to h.0 ps mid h.1 h.2 h.3
  publishing-form c p (to ∷ others) ts ps mid closing (inr h) =
      form-behind sys a at (tell h.0 ++ Point ∷ []) h.1 ps mid (inner-append (tell h.0) (Point ∷ []) (post-inner (ring_of sys to) p.entry to h.0 h.2) tt)
      (h.3 ∙ sym (append_assoc (tell h.0) (Point ∷ []) h.1)) (publishing-form c p others ts h.1 mid closing h.4)

  pub left-form : (p : Option Publishing) (posts : List ℕ) (ts : List Task) (c : Config) (ps : List Piece) (mid : Option Config) → closes ts ≡ true
      → DoesLeft sys a at p posts ts c ps mid → Form sys a at ps mid
  unfolding DoesLeft
  left-form None posts ts c ps mid closing h = does-form sys a at ts c ps mid closing h
  left-form (Some p) posts ts c ps mid closing h = publishing-form c p posts ts ps mid closing h

-- Records alone have no point among them.
no-point : (g rel : List Told) (qs : List Piece) → tell g ++ Point ∷ qs ≡ tell rel → ⊥
no-point [] [] qs e = absurd (cc)
no-point [] (r ∷ rel) qs e = absurd (cc)
no-point (t ∷ g) [] qs e = absurd (cc)
no-point (t ∷ g) (r ∷ rel) qs e = let rest : tell g ++ Point ∷ qs ≡ tell rel = cc in no-point g rel qs rest

-- records before a point are of the inside
cut-inner : (g : List Told) (front : List Piece) (t : Told) (rel : List Told) (qs : List Piece) → tell g ++ Point ∷ qs ≡ front ++ Tell t ∷ tell rel → AreInner front → AreInner (tell g)
cut-inner [] front t rel qs e inside = tt
cut-inner (x ∷ g) [] t rel qs e inside = let rest : tell g ++ Point ∷ qs ≡ tell rel = cc in absurd (no-point g rel qs rest)
cut-inner (x ∷ g) (f ∷ front) t rel qs e inside =
    let head : f ≡ Tell x = cc in
    let rest : tell g ++ Point ∷ qs ≡ front ++ Tell t ∷ tell rel = cc in
    let parts : AreInner (Tell x ∷ front) = subst (λ y. AreInner (y ∷ front)) head inside in
    (parts.0, cut-inner g front t rel qs rest parts.1)

-- the front of records
tell-front : (g rel : List Told) (qs : List Piece) → tell g ++ qs ≡ tell rel → (more : List Told) × (rel ≡ g ++ more)
tell-front [] rel qs e = (rel, refl)
tell-front (t ∷ g) [] qs e = absurd (cc)
tell-front (t ∷ g) (r ∷ rel) qs e =
    let head : r ≡ t = cc in
    let rest : tell g ++ qs ≡ tell rel = cc in
    let behind = tell-front g rel qs rest in
    (behind.0, ap (λ x. x ∷ rel) head ∙ ap (λ x. t ∷ x) behind.1)

-- the front of what a step leaves is of its inside, or it has the step's last record, and the front of the release
pub FrontForm : List Told → List Piece → Told → List Told → Type 0
FrontForm g front t rel = AreInner (tell g) ⊎ ((done more : List Told) × (g ≡ records_in front ++ t ∷ done) × (rel ≡ done ++ more))

pub front-form : (g : List Told) (front : List Piece) (t : Told) (rel : List Told) (qs : List Piece) → tell g ++ qs ≡ front ++ Tell t ∷ tell rel → AreInner front → FrontForm g front t rel
unfolding FrontForm records_in
front-form [] front t rel qs e inside = inl tt
front-form (x ∷ g) [] t rel qs e inside =
    let head : x ≡ t = cc in
    let rest : tell g ++ qs ≡ tell rel = cc in
    let behind = tell-front g rel qs rest in
    inr (g, behind.0, ap (λ y. y ∷ g) head, behind.1)
front-form (x ∷ g) (f ∷ front) t rel qs e inside =
    let head : f ≡ Tell x = cc in
    let rest : tell g ++ qs ≡ front ++ Tell t ∷ tell rel = cc in
    let parts : AreInner (Tell x ∷ front) = subst (λ y. AreInner (y ∷ front)) head inside in
    by head parts.0 (front-form g front t rel qs rest parts.1)
  where
    by : f ≡ Tell x → IsInner x.body → FrontForm g front t rel → FrontForm (x ∷ g) (f ∷ front) t rel
    by head own (inl i) = inl (own, i)
    by head own (inr k) = inr (k.0, k.1, ap (λ y. x ∷ y) k.2 ∙ ap (λ y. records_in (y ∷ front) ++ t ∷ k.0) (sym head), k.3)

-- nothing stands behind a list that is all
no-more : (ps qs : List Piece) → ps ++ qs ≡ ps → qs ≡ []
no-more [] qs e = e
no-more (p ∷ ps) qs e = let rest : ps ++ qs ≡ ps = cc in no-more ps qs rest

drops-front : (xs ys : List Told) → AreDrops (xs ++ ys) → AreDrops xs
drops-front [] ys h = tt
drops-front (x ∷ xs) ys h = (h.0, drops-front xs ys h.1)

assert-ends : (b : Body) → is_assert b ≡ true → is_end b ≡ true
assert-ends b h = rw h refl

calm-behind : (g : List Told) (t : Told) (rel : List Told) → list_any (λ t. is_end t.body) (g ++ t ∷ rel) ≡ false → is_end t.body ≡ false
calm-behind [] t rel h = (or_parts (is_end t.body) (list_any (λ t. is_end t.body) rel) h).0
calm-behind (x ∷ g) t rel h = calm-behind g t rel (or_parts (is_end x.body) (list_any (λ t. is_end t.body) (g ++ t ∷ rel)) h).1

-- what came of a step before it was cut: records of its inside; or all of them, its `done`, and the front of its release
pub data CutForm (g : List Told) : Type 0 where
  WithinIt : AreOwn g → CutForm g
  BehindIt : (front rel : List Told) → g ≡ front ++ plain item.Done ∷ rel → AreOwn front → AreDrops rel → CutForm g

pub inner-own : (g : List Told) → AreInner (tell g) → AreOwn g
inner-own [] h = tt
inner-own (t ∷ ts) h = (h.0.own, h.0.unmarked, inner-own ts h.1)

pub inner-calm : (g : List Told) → AreInner (tell g) → list_any (λ t. is_end t.body) g ≡ false
inner-calm [] h = refl
inner-calm (t ∷ ts) h = rw (h.0.calm, inner-calm ts h.1) refl

-- no `stim` is among them
pub inner-unstim : (g : List Told) → AreInner (tell g) → list_any (λ t. is_some (stim_of t.body)) g ≡ false
inner-unstim [] h = refl
inner-unstim (t ∷ ts) h = rw (h.0.unstim, inner-unstim ts h.1) refl

inner-bare : (ps : List Piece) → AreInner ps → AreInner (tell (records_in ps))
unfolding records_in
inner-bare [] h = tt
inner-bare (Tell t ∷ ps) h = (h.0, inner-bare ps h.1)
inner-bare (Point ∷ ps) h = inner-bare ps h

assert-own : (b : Body) → is_assert b ≡ true → IsOwnRole (role_of b) × (is_turn_mark b ≡ false)
unfolding role_of
assert-own (item.NoEntry a f l m) h = (tt, refl)
assert-own (item.NoBlock p n free) h = (tt, refl)
assert-own (item.Armed t n c) h = (tt, refl)
assert-own (item.BadTicks t n i) h = (tt, refl)
assert-own (item.NoLifo a f l m) h = (tt, refl)
assert-own _ h = absurd (cc)

own-last : (g : List Told) (t : Told) → AreOwn g → IsOwnRole (role_of t.body) → is_turn_mark t.body ≡ false → AreOwn (g ++ t ∷ [])
own-last [] t own role mark = (role, mark, tt)
own-last (x ∷ g) t own role mark = (own.0, own.1, own-last g t own.2 role mark)

calm-told : (p : ℕ) (g : List Told) → list_any (λ t. is_end t.body) g ≡ false → list_any (λ i. is_end i.body) (map untold (map (for_object p) g)) ≡ false
calm-told p [] h = refl
calm-told p (t ∷ ts) h = let parts = or_parts (is_end t.body) (list_any (λ t. is_end t.body) ts) h in rw (parts.0, calm-told p ts parts.1) refl

last-ends : (p : ℕ) (g : List Told) (t : Told) → list_any (λ t. is_end t.body) g ≡ false → ends_last (map untold (map (for_object p) (g ++ t ∷ []))) ≡ true
unfolding ends_last
last-ends p g t calm =
    ap (λ x. ends_last (map untold x)) (map-append (for_object p) g (t ∷ []))
    ∙ ap ends_last (map-append untold (map (for_object p) g) (for_object p t ∷ []))
    ∙ calm-ends_last (map untold (map (for_object p) g)) (untold (for_object p t) ∷ []) (calm-told p g calm) refl

last-asserts : (p : ℕ) (g : List Told) (t : Told) → is_assert t.body ≡ true → list_any (λ i. is_assert i.body) (map untold (map (for_object p) (g ++ t ∷ []))) ≡ true
last-asserts p [] t h = rw h refl
last-asserts p (x ∷ g) t h = rw (last-asserts p g t h) (or-right (is_assert x.body))
  where
    or-right : (b : Bool) → (b || true) ≡ true
    or-right true = refl
    or-right false = refl

-- the records of a turn that comes to its `done`: those of the inside, it, and the release
pub record DoneForm (g : List Told) : Type 0 where
  pub front : List Told
  pub rel : List Told
  pub whole : g ≡ front ++ plain item.Done ∷ rel
  pub own : AreOwn front
  pub calm : list_any (λ t. is_end t.body) front ≡ false
  pub drops : AreDrops rel
  pub unstim : list_any (λ t. is_some (stim_of t.body)) g ≡ false

-- those of a start that comes to its `done`
pub record StartForm (g : List Told) : Type 0 where
  pub front : List Told
  pub whole : g ≡ front ++ plain item.Done ∷ []
  pub own : AreOwn front
  pub calm : list_any (λ t. is_end t.body) front ≡ false
  pub unstim : list_any (λ t. is_some (stim_of t.body)) g ≡ false

-- those of a turn that ends in its assertion
pub record FailedForm (p : ℕ) (g : List Told) : Type 0 where
  pub own : AreOwn g
  pub ends : ends_last (map untold (map (for_object p) g)) ≡ true
  pub asserts : list_any (λ i. is_assert i.body) (map untold (map (for_object p) g)) ≡ true

failed-by : (p : ℕ) (g front : List Told) (t : Told) → g ≡ front ++ t ∷ [] → is_assert t.body ≡ true → AreInner (tell front) → FailedForm p g
failed-by p g front t whole asserts inside =
    let is = assert-own t.body asserts in
    subst (FailedForm p) (sym whole)
    (record { own = own-last front t (inner-own front inside) is.0 is.1; ends = last-ends p front t (inner-calm front inside); asserts = last-asserts p front t asserts })

bare-form : (g rel : List Told) (front : List Piece) (t : Told) → tell g ≡ front ++ Tell t ∷ tell rel → g ≡ records_in front ++ t ∷ rel
unfolding records_in
bare-form g rel front t e = sym (bare-tell g) ∙ ap records_in e ∙ bare-append front (Tell t ∷ tell rel) ∙ ap (λ x. records_in front ++ t ∷ x) (bare-tell rel)

bare-whole : (g rel : List Told) (front : List Piece) (t : Told) (qs : List Piece) → tell g ++ qs ≡ front ++ Tell t ∷ tell rel → g ++ records_in qs ≡ records_in front ++ t ∷ rel
unfolding records_in
bare-whole g rel front t qs e =
    ap (λ x. x ++ records_in qs) (sym (bare-tell g)) ∙ sym (bare-append (tell g) qs) ∙ ap records_in e ∙ bare-append front (Tell t ∷ tell rel) ∙ ap (λ x. records_in front ++ t ∷ x) (bare-tell rel)

no-told : (xs ys : List Told) → xs ++ ys ≡ xs → ys ≡ []
no-told [] ys e = e
no-told (x ∷ xs) ys e = let rest : xs ++ ys ≡ xs = cc in no-told xs ys rest

drops-calm : (g : List Told) → AreDrops g → list_any (λ t. is_end t.body) g ≡ false
drops-calm [] h = refl
drops-calm (t ∷ ts) h = rw ((drop-not_look t.body h.0).2, drops-calm ts h.1) refl

done-calm : (front rel : List Told) → list_any (λ t. is_end t.body) front ≡ false → list_any (λ t. is_end t.body) rel ≡ false → list_any (λ t. is_end t.body) (front ++ plain item.Done ∷ rel) ≡ false
done-calm [] rel a b = b
done-calm (t ∷ ts) rel a b = let parts = or_parts (is_end t.body) (list_any (λ t. is_end t.body) ts) a in rw (parts.0, done-calm ts rel parts.1 b) refl

done-unstim : (g front rel : List Told) → g ≡ front ++ plain item.Done ∷ rel → AreInner (tell front) → AreInner (tell rel) → list_any (λ t. is_some (stim_of t.body)) g ≡ false
done-unstim g front rel whole a b = subst (λ x. list_any (λ t. is_some (stim_of t.body)) x ≡ false) (sym whole) (go front a)
  where
    go : (ts : List Told) → AreInner (tell ts) → list_any (λ t. is_some (stim_of t.body)) (ts ++ plain item.Done ∷ rel) ≡ false
    go [] h = inner-unstim rel b
    go (t ∷ ts) h = rw (h.0.unstim, go ts h.1) refl

no-leaf : (leaf : ℕ) (d : Config) → Some d ≡ at_leaf leaf None → ⊥
no-leaf leaf d e = absurd (cc)

some-leaf : (leaf : ℕ) (d : Config) → None ≡ at_leaf leaf (Some d) → ⊥
some-leaf leaf d e = absurd (cc)

module _ (sys : System) (a : Actor) where
  module _ (ev : Event) (e : Entry) (left : Remainder) (c : Config) (closing : closes left.tasks ≡ true) where
    -- up to a scheduling point
    pub point-inner : (g : List Told) (qs : List Piece) (end : Option Config) → StepGoesOn sys a ev e left c (tell g ++ Point ∷ qs) end → AreInner (tell g)
    unfolding StepGoesOn
    point-inner g qs end h =
        let form = left-form sys a (moment ev e) left.publishing left.posts left.tasks c h.0 h.2 closing h.3 in
        cut-inner g form.front form.last h.1 qs (h.5 ∙ ap (λ x. x ++ tell h.1) form.whole ∙ append_assoc form.front (Tell form.last ∷ []) (tell h.1)) form.inner

    -- up to where it is cut
    pub cut-form : (g : List Told) (qs : List Piece) (end : Option Config) → list_any (λ t. is_end t.body) g ≡ false → StepGoesOn sys a ev e left c (tell g ++ qs) end → CutForm g
    unfolding StepGoesOn Closes FrontForm
    cut-form g qs end calm h =
        let form = left-form sys a (moment ev e) left.publishing left.posts left.tasks c h.0 h.2 closing h.3 in
        by (records_in form.front) form.last h.2 h.4 form.which (inner-bare form.front form.inner)
        (front-form g form.front form.last h.1 qs (h.5 ∙ ap (λ x. x ++ tell h.1) form.whole ∙ append_assoc form.front (Tell form.last ∷ []) (tell h.1)) form.inner)
      where
        by : (front : List Told) (last : Told) (mid : Option Config) → Closes e mid h.1
            → ((last ≡ plain item.Done) × ((f : Config) × (mid ≡ Some f))) ⊎ ((is_assert last.body ≡ true) × (mid ≡ None)) → AreInner (tell front)
            → (AreInner (tell g)) ⊎ ((done more : List Told) × (g ≡ front ++ last ∷ done) × (h.1 ≡ done ++ more)) → CutForm g
        by front last mid closed which inside (inl i) = WithinIt (inner-own g i)
        by front last mid closed (inr wrong) inside (inr k) =
            let no : is_end last.body ≡ false = calm-behind front last k.0 (subst (λ x. list_any (λ t. is_end t.body) x ≡ false) k.2 calm) in
            let yes : is_end last.body ≡ true = assert-ends last.body wrong.0 in
            absurd (cc)
        by front last None closed (inl is) inside (inr k) = let no : None ≡ Some is.1.0 = is.1.1 in absurd (cc)
        by front last (Some f) closed (inl is) inside (inr k) =
            BehindIt front k.0 (k.2 ∙ ap (λ x. front ++ x ∷ k.0) is.0) (inner-own front inside) (drops-front k.0 k.1 (subst AreDrops k.3 (drops-are e h.1 closed).0))

    -- what is cut before the whole of a step that asserts has no end of a lane
    pub cut-calm : (g : List Told) (qs : List Piece) (end : Option Config) → (end ≡ None → records_in qs ≡ [] → ⊥) → StepGoesOn sys a ev e left c (tell g ++ qs) end → list_any (λ t. is_end t.body) g ≡ false
    unfolding StepGoesOn Closes FrontForm
    cut-calm g qs end more h =
        let form = left-form sys a (moment ev e) left.publishing left.posts left.tasks c h.0 h.2 closing h.3 in
        let whole : tell g ++ qs ≡ form.front ++ Tell form.last ∷ tell h.1 = h.5 ∙ ap (λ x. x ++ tell h.1) form.whole ∙ append_assoc form.front (Tell form.last ∷ []) (tell h.1) in
        by (records_in form.front) form.last h.2 h.4 h.6 form.which (inner-bare form.front form.inner) (bare-whole g h.1 form.front form.last qs whole) (front-form g form.front form.last h.1 qs whole form.inner)
      where
        by : (front : List Told) (last : Told) (mid : Option Config) → Closes e mid h.1 → end ≡ at_leaf left.leaf mid
            → ((last ≡ plain item.Done) × ((f : Config) × (mid ≡ Some f))) ⊎ ((is_assert last.body ≡ true) × (mid ≡ None)) → AreInner (tell front)
            → g ++ records_in qs ≡ front ++ last ∷ h.1
            → (AreInner (tell g)) ⊎ ((done more : List Told) × (g ≡ front ++ last ∷ done) × (h.1 ≡ done ++ more)) → list_any (λ t. is_end t.body) g ≡ false
        by front last mid closed ends which inside all (inl i) = inner-calm g i
        by front last None closed ends (inl is) inside all (inr k) = let no : None ≡ Some is.1.0 = is.1.1 in absurd (cc)
        by front last (Some f) closed ends (inr is) inside all (inr k) = let no : Some f ≡ None = is.1 in absurd (cc)
        by front last None closed ends (inr is) inside all (inr k) =
            let short : k.0 ≡ [] = nil-front k.0 k.1 (sym k.3 ∙ closed) in
            let same : g ≡ front ++ last ∷ [] = k.2 ∙ ap (λ x. front ++ last ∷ x) short in
            let rest : records_in qs ≡ [] = no-told g (records_in qs) (all ∙ ap (λ x. front ++ last ∷ x) closed ∙ sym same) in
            absurd (more ends rest)
        by front last (Some f) closed ends (inl is) inside all (inr k) =
            subst (λ x. list_any (λ t. is_end t.body) x ≡ false) (sym (k.2 ∙ ap (λ x. front ++ x ∷ k.0) is.0))
            (done-calm front k.0 (inner-calm front inside) (drops-calm k.0 (drops-front k.0 k.1 (subst AreDrops k.3 (drops-are e h.1 closed).0))))

    -- to its end
    pub done-form : (g : List Told) (d : Config) → StepGoesOn sys a ev e left c (tell g) (Some d) → DoneForm g
    unfolding StepGoesOn Closes
    done-form g d h =
        let form = left-form sys a (moment ev e) left.publishing left.posts left.tasks c h.0 h.2 closing h.3 in
        by (records_in form.front) form.last h.2 h.4 h.6 form.which (bare-form g h.1 form.front form.last (h.5 ∙ ap (λ x. x ++ tell h.1) form.whole ∙ append_assoc form.front (Tell form.last ∷ []) (tell h.1))) (inner-bare form.front form.inner)
      where
        by : (front : List Told) (last : Told) (mid : Option Config) → Closes e mid h.1 → Some d ≡ at_leaf left.leaf mid
            → ((last ≡ plain item.Done) × ((f : Config) × (mid ≡ Some f))) ⊎ ((is_assert last.body ≡ true) × (mid ≡ None))
            → g ≡ front ++ last ∷ h.1 → AreInner (tell front) → DoneForm g
        by front last None closed ends which whole inside = absurd (no-leaf left.leaf d ends)
        by front last (Some f) closed ends (inr wrong) whole inside = let no : Some f ≡ None = wrong.1 in absurd (cc)
        by front last (Some f) closed ends (inl is) whole inside = record {
          front = front;
          rel = h.1;
          whole = whole ∙ ap (λ x. front ++ x ∷ h.1) is.0;
          own = inner-own front inside;
          calm = inner-calm front inside;
          drops = (drops-are e h.1 closed).0;
          unstim = done-unstim g front h.1 (whole ∙ ap (λ x. front ++ x ∷ h.1) is.0) inside (drops-are e h.1 closed).1;
        }

    -- to its assertion
    pub failed-form : (p : ℕ) (g : List Told) → StepGoesOn sys a ev e left c (tell g) None → FailedForm p g
    unfolding StepGoesOn Closes
    failed-form p g h =
        let form = left-form sys a (moment ev e) left.publishing left.posts left.tasks c h.0 h.2 closing h.3 in
        by (records_in form.front) form.last h.2 h.4 h.6 form.which (bare-form g h.1 form.front form.last (h.5 ∙ ap (λ x. x ++ tell h.1) form.whole ∙ append_assoc form.front (Tell form.last ∷ []) (tell h.1))) (inner-bare form.front form.inner)
      where
        by : (front : List Told) (last : Told) (mid : Option Config) → Closes e mid h.1 → None ≡ at_leaf left.leaf mid
            → ((last ≡ plain item.Done) × ((f : Config) × (mid ≡ Some f))) ⊎ ((is_assert last.body ≡ true) × (mid ≡ None))
            → g ≡ front ++ last ∷ h.1 → AreInner (tell front) → FailedForm p g
        by front last (Some f) closed ends which whole inside = absurd (some-leaf left.leaf f ends)
        by front last None closed ends (inl wrong) whole inside = let no : None ≡ Some wrong.1.0 = wrong.1.1 in absurd (cc)
        by front last None closed ends (inr is) whole inside = failed-by p g front last (whole ∙ ap (λ x. front ++ last ∷ x) closed) is.0 inside

  -- a start to its end
  pub start-form : (first : Config) (g : List Told) (d : Config) → Starts sys a first (tell g) (Some d) → StartForm g
  unfolding Starts records_in
  start-form first g d h =
      let form = does-form sys a at_start (start_plan a.chart).tasks first h.0 h.1 (start-closes a.chart) h.2 in
      let whole : g ≡ records_in form.front ++ form.last ∷ [] = sym (bare-tell g) ∙ ap records_in h.3 ∙ bare-tell (records_in h.0) ∙ ap records_in form.whole ∙ bare-append form.front (Tell form.last ∷ []) in
      by (records_in form.front) form.last h.1 h.4 form.which whole (inner-bare form.front form.inner)
    where
      by : (front : List Told) (last : Told) (mid : Option Config) → Some d ≡ at_leaf (start_plan a.chart).leaf mid
          → ((last ≡ plain item.Done) × ((f : Config) × (mid ≡ Some f))) ⊎ ((is_assert last.body ≡ true) × (mid ≡ None))
          → g ≡ front ++ last ∷ [] → AreInner (tell front) → StartForm g
      by front last None ends which whole inside = absurd (no-leaf (start_plan a.chart).leaf d ends)
      by front last (Some f) ends (inr wrong) whole inside = let no : Some f ≡ None = wrong.1 in absurd (cc)
      by front last (Some f) ends (inl is) whole inside = record {
        front = front;
        whole = whole ∙ ap (λ x. front ++ x ∷ []) is.0;
        own = inner-own front inside;
        calm = inner-calm front inside;
        unstim = done-unstim g front [] (whole ∙ ap (λ x. front ++ x ∷ []) is.0) inside tt;
      }

  -- a start to its assertion
  pub start-failed : (p : ℕ) (first : Config) (g : List Told) → Starts sys a first (tell g) None → FailedForm p g
  unfolding Starts records_in
  start-failed p first g h =
      let form = does-form sys a at_start (start_plan a.chart).tasks first h.0 h.1 (start-closes a.chart) h.2 in
      let whole : g ≡ records_in form.front ++ form.last ∷ [] = sym (bare-tell g) ∙ ap records_in h.3 ∙ bare-tell (records_in h.0) ∙ ap records_in form.whole ∙ bare-append form.front (Tell form.last ∷ []) in
      by (records_in form.front) form.last h.1 h.4 form.which whole (inner-bare form.front form.inner)
    where
      by : (front : List Told) (last : Told) (mid : Option Config) → None ≡ at_leaf (start_plan a.chart).leaf mid
          → ((last ≡ plain item.Done) × ((f : Config) × (mid ≡ Some f))) ⊎ ((is_assert last.body ≡ true) × (mid ≡ None))
          → g ≡ front ++ last ∷ [] → AreInner (tell front) → FailedForm p g
      by front last (Some f) ends which whole inside = absurd (some-leaf (start_plan a.chart).leaf f ends)
      by front last None ends (inl wrong) whole inside = let no : None ≡ Some wrong.1.0 = wrong.1.1 in absurd (cc)
      by front last None ends (inr is) whole inside = failed-by p g front last whole is.0 inside

  -- a start up to where it is cut, with something left
  pub start-cut : (first : Config) (g : List Told) (qs : List Piece) (end : Option Config) → qs ≢ [] → list_any (λ t. is_end t.body) g ≡ false → Starts sys a first (tell g ++ qs) end → AreOwn g
  unfolding Starts records_in FrontForm
  start-cut first g qs end some calm h =
      let form = does-form sys a at_start (start_plan a.chart).tasks first h.0 h.1 (start-closes a.chart) h.2 in
      let inside = inner-bare form.front form.inner in
      let whole : tell g ++ qs ≡ tell (records_in form.front) ++ Tell form.last ∷ tell [] =
      h.3 ∙ ap tell (ap records_in form.whole ∙ bare-append form.front (Tell form.last ∷ [])) ∙ tell-append (records_in form.front) (form.last ∷ []) in
      by form.front form.last whole (front-form g (tell (records_in form.front)) form.last [] qs whole inside)
    where
      by : (front : List Piece) (last : Told) → tell g ++ qs ≡ tell (records_in front) ++ Tell last ∷ []
          → (AreInner (tell g)) ⊎ ((done more : List Told) × (g ≡ records_in (tell (records_in front)) ++ last ∷ done) × ([] ≡ done ++ more)) → AreOwn g
      by front last whole (inl i) = inner-own g i
      by front last whole (inr k) =
          let none : k.0 ≡ [] = nil-front k.0 k.1 (sym k.3) in
          let same : g ≡ records_in front ++ last ∷ [] = k.2 ∙ ap (λ x. x ++ last ∷ k.0) (bare-tell (records_in front)) ∙ ap (λ x. records_in front ++ last ∷ x) none in
          let pieces : tell g ++ qs ≡ tell g = whole ∙ sym (ap tell same ∙ tell-append (records_in front) (last ∷ [])) in
          absurd (some (no-more (tell g) qs pieces))
