-- A publication in parts: its first records, its posts, each with a point behind it, and its last records.
use Rattle.std.proofs.Common.{◌≡◌, ℕ, zero, suc, Bool, true, false, List, [], ◌∷◌, ◌++◌, refl, sym, ◌∙◌, ap, inl, inr, ◌⊎◌, Option, append_assoc}
use Rattle.std.specs.Prelude.{pos}
use Rattle.std.proofs.lemmas.List.{map-append}
use Rattle.qp_model.specs.declared.systems.System.{System}
use Rattle.qp_model.specs.declared.bodies.Entry.{Entry}
use Rattle.qp_model.specs.declared.bodies.Body.TheVariants as item
use Rattle.qp_model.specs.Told.{Told, plain}
use Rattle.qp_model.specs.Calls as call
use Rattle.qp_model.specs.Calls.{Granted, AtQueue}
use Rattle.qp_model.specs.Sites.{ring_of}
use Rattle.qp_model.specs.Parts.{is_static, sizes_of}
use Rattle.qp_model.specs.Shapes.{Fits, Drops, releases_by, Releases, MakesBlock, MakesNew, again_by, MakesAgain, Posts, PostsOne, PostsToAll, PostsUpTo, PublishesFirst, PublishesLast, Publishes, raising, restoring}
use Rattle.qp_model.specs.Deferral.{KeepsDeferred}
use Rattle.qp_model.specs.Pieces.{Piece, Tell, Point, tell, piece_of, with_points, pieces_of}
use Rattle.qp_model.specs.Acts.{Config, Actor, Later, DoesCall}
use Rattle.qp_model.specs.Step.{Publishing, GoesOnPublishing}

pub tell-append : (xs ys : List Told) → tell (xs ++ ys) ≡ tell xs ++ tell ys
tell-append xs ys = map-append Tell xs ys

pub with_points-append : (xs ys : List Told) → with_points (xs ++ ys) ≡ with_points xs ++ with_points ys
unfolding with_points
with_points-append [] ys = refl
with_points-append (t ∷ xs) ys = ap (λ zs. piece_of t t.body ++ zs) (with_points-append xs ys) ∙ sym (append_assoc (piece_of t t.body) (with_points xs) (with_points ys))

-- no record among these is a post
abbrev Silent : List Told → Type 0
Silent g = with_points g ≡ tell g

silent-append : (xs ys : List Told) → Silent xs → Silent ys → Silent (xs ++ ys)
silent-append xs ys h k = with_points-append xs ys ∙ ap (λ zs. zs ++ with_points ys) h ∙ ap (λ zs. tell xs ++ zs) k ∙ sym (tell-append xs ys)

silent-drops : (e : Entry) (rel : List Told) → Drops e rel → Silent rel
unfolding Drops with_points
silent-drops e rel h = by_pool e.pool h
  where
    by_case : Releases e.pool e.block e.name rel → with_points rel ≡ tell rel
    by_case (inl k) = rw k.2 refl
    by_case (inr k) = rw k.2 refl

    by_pool : (p : ℕ) → releases_by p e rel → with_points rel ≡ tell rel
    by_pool zero h = rw h refl
    by_pool (suc p) h = by_case h

silent-again : (old : Entry) (head : List Told) (e : Entry) → MakesAgain old head e → Silent head
unfolding MakesAgain with_points
silent-again old head e h = by_pool old.pool h
  where
    by_pool : (p : ℕ) → again_by p old head e → with_points head ≡ tell head
    by_pool zero h = rw h.0 refl
    by_pool (suc p) h = rw h.1 refl

silent-new : (fixed : Bool) (sizes : List ℕ) (sig : ℕ) (pars : List ℕ) (reserve : Option ℕ) (head : List Told) (e : Entry)
    → MakesNew fixed sizes sig pars reserve head e → Silent head
unfolding MakesNew MakesBlock with_points
silent-new true sizes sig pars reserve head e h = rw h.0 refl
silent-new false sizes sig pars reserve head e h = rw h.6 refl

silent-first : (fixed : Bool) (sizes : List ℕ) (o sig : ℕ) (pars : List ℕ) (reserve : Option ℕ) (e : Entry) (former : ℕ) (ms : List ℕ) (g : List Told)
    → PublishesFirst fixed sizes o sig pars reserve e former ms g → Silent g
unfolding PublishesFirst with_points raising
silent-first fixed sizes o sig pars reserve e former ms g h =
    rw h.5 (silent-append h.0 (plain (item.Pub sig h.1 h.2) ∷ raising o former ms) (silent-new fixed sizes sig pars reserve h.0 e h.3) (by_members o ms))
  where
    by_members : (o : ℕ) (ms : List ℕ) → Silent (plain (item.Pub sig h.1 h.2) ∷ raising o former ms)
    by_members o [] = refl
    by_members zero (a ∷ others) = refl
    by_members (suc o) (a ∷ others) = refl

silent-last : (o : ℕ) (e : Entry) (former : ℕ) (ms : List ℕ) (g : List Told) → PublishesLast o e former ms g → Silent g
unfolding PublishesLast with_points restoring
silent-last o e former ms g h = rw h.2 (silent-append (restoring o former ms) h.0 (by_members o ms) (silent-drops e h.0 h.1))
  where
    by_members : (o : ℕ) (ms : List ℕ) → Silent (restoring o former ms)
    by_members o [] = refl
    by_members zero (a ∷ others) = refl
    by_members (suc o) (a ∷ others) = refl

-- a post that is granted has a point behind it
pub points-granted : (ring : ℕ) (e : Entry) (to : ℕ) (g : List Told) → PostsOne ring e to Granted g → with_points g ≡ tell g ++ Point ∷ []
unfolding PostsOne Posts with_points
points-granted ring e to g h =
    let post = h.3 in
    let one : List Told = plain (item.Post to post.0 post.1 post.2 h.1) ∷ [] in
    let front : with_points h.0 ≡ tell h.0 = silent-again e h.0 h.1 h.2 in
    rw post.3 (
    with_points-append h.0 one ∙ ap (λ zs. zs ++ with_points one) front ∙ sym (append_assoc (tell h.0) (tell one) (Point ∷ [])) ∙ ap (λ zs. zs ++ Point ∷ []) (sym (tell-append h.0 one)))

-- a post that finds no entry has none
pub points-refused : (ring : ℕ) (e : Entry) (to : ℕ) (g : List Told) → PostsOne ring e to AtQueue g → with_points g ≡ tell g
unfolding PostsOne Posts with_points
points-refused ring e to g h =
    let post = h.3 in
    rw post.3 (silent-append h.0 (plain (item.NoEntry to post.0 post.1 post.2) ∷ []) (silent-again e h.0 h.1 h.2) refl)

module _ (sys : System) (a : Actor) (c : Config) (p : Publishing) (later : Later) (failed : Type 0) where
  -- the posts that are left, without their points, and what follows them
  abbrev Posted : List ℕ → List Piece → Type 0
  Posted ls ps =
      (posts last : List Told) × (rest : List Piece) × PostsToAll (ring_of sys) p.entry ls posts × PublishesLast a.o p.entry p.former p.members last
      × (ps ≡ with_points posts ++ (tell last ++ (Point ∷ rest))) × later (record c { ok = pos 1 }) rest

  abbrev CutOff : List ℕ → List Piece → Type 0
  CutOff ls ps = (posts : List Told) × PostsUpTo (ring_of sys) p.entry ls posts × (ps ≡ with_points posts) × failed

  in_parts : (ls : List ℕ) (ps : List Piece) → GoesOnPublishing sys a c p ls later failed ps → CutOff ls ps ⊎ Posted ls ps
  unfolding GoesOnPublishing PostsToAll PostsUpTo with_points
  in_parts [] ps h = inr ([], h.0, h.1, refl, h.2, h.3, h.4)
  in_parts (to ∷ others) ps (inl h) = inl (h.0, inl h.1, h.2 ∙ sym (points-refused (ring_of sys to) p.entry to h.0 h.1), h.3)
  in_parts (to ∷ others) ps (inr h) = more (in_parts others h.1 h.4)
    where
      joined : (tail : List Piece) → tell h.0 ++ (Point ∷ tail) ≡ with_points h.0 ++ tail
      joined tail = sym (append_assoc (tell h.0) (Point ∷ []) tail) ∙ ap (λ zs. zs ++ tail) (sym (points-granted (ring_of sys to) p.entry to h.0 h.2))

      more : (CutOff others h.1 ⊎ Posted others h.1) → CutOff (to ∷ others) ps ⊎ Posted (to ∷ others) ps
      more (inl k) = inl (
        h.0 ++ k.0,
        inr (h.0, k.0, refl, h.2, k.1),
        h.3 ∙ joined h.1 ∙ ap (λ zs. with_points h.0 ++ zs) k.2 ∙ sym (with_points-append h.0 k.0),
        k.3,
      )
      more (inr k) = inr (
        h.0 ++ k.0,
        k.1,
        k.2,
        (h.0, k.0, refl, h.2, k.3),
        k.4,
        h.3 ∙ joined h.1 ∙ ap (λ zs. with_points h.0 ++ zs) k.5 ∙ sym (append_assoc (with_points h.0) (with_points k.0) (tell k.1 ++ (Point ∷ k.2)))
            ∙ ap (λ zs. zs ++ (tell k.1 ++ (Point ∷ k.2))) (sym (with_points-append h.0 k.0)),
        k.6,
      )

-- a publication that has begun, and goes on so, is a call
pub publishes-begun : (sys : System) (a : Actor) (now : Option Entry) (c : Config) (later : Later) (failed : Type 0)
    (sig : ℕ) (pars : List ℕ) (reserve : Option ℕ) (e : Entry) (former : ℕ) (ms : List ℕ) (g : List Told) (ps : List Piece)
    → PublishesFirst (is_static sys sig) (sizes_of sys) a.o sig pars reserve e former ms g
    → GoesOnPublishing sys a c (record { entry = e; former = former; members = ms }) ms later failed ps
    → DoesCall sys a now c later failed (call.Publish sig pars reserve) (tell g ++ ps)
unfolding DoesCall Fits Publishes KeepsDeferred pieces_of
publishes-begun sys a now c later failed sig pars reserve e former ms g ps begins on =
    either (in_parts sys a c (record { entry = e; former = former; members = ms }) later failed ms ps on)
  where
    first : with_points g ≡ tell g
    first = silent-first (is_static sys sig) (sizes_of sys) a.o sig pars reserve e former ms g begins

    either : (CutOff sys a c (record { entry = e; former = former; members = ms }) later failed ms ps
        ⊎ Posted sys a c (record { entry = e; former = former; members = ms }) later failed ms ps)
        → DoesCall sys a now c later failed (call.Publish sig pars reserve) (tell g ++ ps)
    either (inl k) = (
      AtQueue,
      g ++ k.0,
      c.kept,
      (e, former, ms, g, k.0, begins, k.1, refl),
      refl,
      (ap (λ zs. tell g ++ zs) k.2 ∙ ap (λ zs. zs ++ with_points k.0) (sym first) ∙ sym (with_points-append g k.0), k.3),
    )
    either (inr k) = (
      Granted,
      g ++ (k.0 ++ k.1),
      c.kept,
      (e, former, ms, g, k.0, k.1, begins, k.3, k.4, refl),
      refl,
      (k.2, whole, k.6),
    )
      where
        last : with_points k.1 ≡ tell k.1
        last = silent-last a.o e former ms k.1 k.4

        whole : tell g ++ ps ≡ with_points (g ++ (k.0 ++ k.1)) ++ (Point ∷ k.2)
        whole =
            ap (λ zs. tell g ++ zs) (k.5 ∙ sym (append_assoc (with_points k.0) (tell k.1) (Point ∷ k.2)))
            ∙ sym (append_assoc (tell g) (with_points k.0 ++ tell k.1) (Point ∷ k.2))
            ∙ ap (λ zs. zs ++ (Point ∷ k.2)) (sym all)
          where
            all : with_points (g ++ (k.0 ++ k.1)) ≡ tell g ++ (with_points k.0 ++ tell k.1)
            all =
                with_points-append g (k.0 ++ k.1) ∙ ap (λ zs. zs ++ with_points (k.0 ++ k.1)) first
                ∙ ap (λ zs. tell g ++ zs) (with_points-append k.0 k.1 ∙ ap (λ zs. with_points k.0 ++ zs) last)
