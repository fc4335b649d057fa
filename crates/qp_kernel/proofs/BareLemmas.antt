-- The records of an object among its pieces.
use Rattle.std.proofs.Common.{◌≡◌, ℕ, ◌==◌, Bool, true, false, cond, List, [], ◌∷◌, ◌++◌, map, refl, ◌∙◌, ap, subst, inl, inr, append_assoc, append-nil}
use Rattle.std.specs.Option.{unwrap_or}
use Rattle.std.specs.List.{list_any, filter}
use Rattle.std.proofs.lemmas.Bool.{and_from, or_parts}
use Rattle.std.proofs.lemmas.List.{map-append}
use Rattle.std.proofs.lemmas.List.Elements.{filter-append}
use Rattle.qp_model.specs.declared.systems.System.{System}
use Rattle.qp_model.specs.declared.systems.ObjectDef.{ObjectDef}
use Rattle.qp_model.specs.declared.bodies.Body.{Body}
use Rattle.qp_model.specs.declared.bodies.Body.TheVariants as body
use Rattle.qp_model.specs.Told.{Told, ToldItem, plain, untold}
use Rattle.qp_model.specs.Knowing.{told_alone}
use Rattle.qp_model.specs.Pieces.{Tell, Point, records_in}
use Rattle.qp_model.specs.Ends.{is_assert, is_turn_mark, is_end}
use Rattle.qp_model.specs.KernelLane.{Setting, Reading, lane_next}
use Rattle.qp_model.specs.Points.{is_look, begins_row}
use Rattle.qp_model.specs.Lawful.{dispatched}
use Rattle.qp_model.specs.ObjectShape.{HasShape, CutGroups, ObjectGroups, Ends, OutOfBudget, BreaksStep, asserts_last, nothing_after}
use Rattle.qp_model.specs.Course.{Cut, Whole, Stopped, FollowsTo}
use Rattle.qp_model.proofs.GroupLemmas.{bare-append}
use Rattle.qp_model.proofs.LastLemmas.{follows-shape}
use Rattle.qp_kernel.specs.LaneZero.{told_pieces_at, told_pieces}
use Rattle.qp_kernel.specs.ZeroEnds.{own_told}

module _ (o : ℕ) (t : ToldItem) (ts : List ToldItem) where
  mark-cons : (b : Bool) → is_turn_mark t.told.body ≡ b → records_in (cond b [] (Tell t.told ∷ [])) ++ dispatched (own_told o ts) ≡ dispatched (t.told ∷ own_told o ts)
  unfolding records_in
  mark-cons true e = rw e refl
  mark-cons false e = rw e refl

  one : (a c : Bool) → records_in (cond a (cond (is_turn_mark t.told.body) [] (Tell t.told ∷ [])) (cond c (Point ∷ []) [])) ++ dispatched (own_told o ts)
      ≡ dispatched (told_alone (cond a (t ∷ filter (λ x. x.of == o) ts) (filter (λ x. x.of == o) ts)))
  unfolding records_in
  one true c = mark-cons (is_turn_mark t.told.body) refl
  one false true = refl
  one false false = refl

-- without points and marks of turns, the pieces of an object are its records
pub bare-told : (s : Setting) (o : ℕ) (k : Reading) (ts : List ToldItem) → records_in (told_pieces s o k ts) ≡ dispatched (own_told o ts)
unfolding records_in told_pieces told_pieces_at
bare-told s o k [] = refl
bare-told s o k (t ∷ ts) =
    bare-append (told_pieces_at o k t) (told_pieces s o (unwrap_or (lane_next s k (untold t)) k) ts)
    ∙ ap (λ x. records_in (told_pieces_at o k t) ++ x) (bare-told s o (unwrap_or (lane_next s k (untold t)) k) ts)
    ∙ one o t ts (t.of == o) (begins_row o k.place k.running (is_look t.told.body))

-- no mark of a turn is among them
abbrev pub AreUnmarked : List Told → Type 0
AreUnmarked [] = Unit {0}
AreUnmarked (t ∷ ts) = (is_turn_mark t.body ≡ false) × AreUnmarked ts

pub own-unmarked : (o : ℕ) (ts : List ToldItem) → list_any (λ i. is_turn_mark i.body) (map untold ts) ≡ false → AreUnmarked (own_told o ts)
own-unmarked o [] h = tt
own-unmarked o (t ∷ ts) h =
    let parts = or_parts (is_turn_mark t.told.body) (list_any (λ i. is_turn_mark i.body) (map untold ts)) h in
    go (t.of == o) parts.0 (own-unmarked o ts parts.1)
  where
    go : (v : Bool) → is_turn_mark t.told.body ≡ false → AreUnmarked (own_told o ts) → AreUnmarked (told_alone (cond v (t ∷ filter (λ x. x.of == o) ts) (filter (λ x. x.of == o) ts)))
    go true e rest = (e, rest)
    go false e rest = rest

pub dispatched-all : (g : List Told) → AreUnmarked g → dispatched g ≡ g
dispatched-all [] h = refl
dispatched-all (t ∷ ts) h = rw (h.0, dispatched-all ts h.1) refl

-- so an object that follows its chart has the shape of its records
pub follows-own : (sys : System) (d : ObjectDef) (cut : Cut) (s : Setting) (k : Reading) (ts : List ToldItem) → AreUnmarked (own_told d.priority ts)
    → FollowsTo sys d cut (told_pieces s d.priority k ts) → HasShape sys d.priority false cut (own_told d.priority ts)
follows-own sys d cut s k ts plain h =
    subst (HasShape sys d.priority false cut) (bare-told s d.priority k ts ∙ dispatched-all (own_told d.priority ts) plain) (follows-shape sys d false cut (told_pieces s d.priority k ts) h)

pub own-append : (o : ℕ) (ts us : List ToldItem) → own_told o (ts ++ us) ≡ own_told o ts ++ own_told o us
own-append o ts us = ap told_alone (filter-append (λ t. t.of == o) ts us) ∙ map-append (λ t. t.told) (filter (λ t. t.of == o) ts) (filter (λ t. t.of == o) us)

-- a whole list of records, with `spent` behind it
unmarked-end : (xs : List Told) (ys : List Told) → AreUnmarked (xs ++ (ys ++ plain body.Spent ∷ [])) → ⊥
unmarked-end [] [] h = let wrong : true ≡ false = h.0 in absurd (cc)
unmarked-end [] (y ∷ ys) h = unmarked-end [] ys h.1
unmarked-end (x ∷ xs) ys h = unmarked-end xs ys h.1

pub no-assert : (b : Body) → is_end b ≡ false → is_assert b ≡ false
no-assert (body.NoEntry a f l m) h = absurd (cc)
no-assert (body.NoBlock p n free) h = absurd (cc)
no-assert (body.Armed t n c) h = absurd (cc)
no-assert (body.BadTicks t n i) h = absurd (cc)
no-assert (body.NoLifo a f l m) h = absurd (cc)
no-assert _ h = refl

abbrev pub AreCalm : List Told → Type 0
AreCalm [] = Unit {0}
AreCalm (t ∷ ts) = (is_end t.body ≡ false) × AreCalm ts

pub own-calm : (o : ℕ) (ts : List ToldItem) → list_any (λ i. is_end i.body) (map untold ts) ≡ false → AreCalm (own_told o ts)
own-calm o [] h = tt
own-calm o (t ∷ ts) h =
    let parts = or_parts (is_end t.told.body) (list_any (λ i. is_end i.body) (map untold ts)) h in
    go (t.of == o) parts.0 (own-calm o ts parts.1)
  where
    go : (v : Bool) → is_end t.told.body ≡ false → AreCalm (own_told o ts) → AreCalm (told_alone (cond v (t ∷ filter (λ x. x.of == o) ts) (filter (λ x. x.of == o) ts)))
    go true e rest = (e, rest)
    go false e rest = rest

calm-last : (g : List Told) → AreCalm g → asserts_last (g ++ plain body.Spent ∷ []) ≡ true
unfolding asserts_last
calm-last [] h = refl
calm-last (t ∷ ts) h = and_from _ _ (rw (no-assert t.body h.0) (by ts)) (calm-last ts h.1)
  where
    by : (ts : List Told) → nothing_after false (ts ++ plain body.Spent ∷ []) ≡ true
    by [] = refl
    by (x ∷ xs) = refl

pub shape-spent : (sys : System) (o : ℕ) (g : List Told) → AreUnmarked g → AreCalm g → HasShape sys o false Whole g → HasShape sys o false Stopped (g ++ plain body.Spent ∷ [])
unfolding CutGroups ObjectGroups
shape-spent sys o g unmarked calm h = record { groups = inr (by h.groups); last = calm-last g calm }
  where
    by : ObjectGroups sys o false false g → ObjectGroups sys o false true (g ++ plain body.Spent ∷ [])
    by (inl broken) = absurd (let wrong : false ≡ true = broken.0 in cc)
    by (inr (start, turns, tail, begins, goes, Ends is, whole)) =
        inr (
          start,
          turns,
          plain body.Spent ∷ [],
          begins,
          goes,
          OutOfBudget refl,
          ap (λ x. x ++ plain body.Spent ∷ []) (whole ∙ ap (λ x. start ++ (turns ++ x)) is ∙ ap (λ x. start ++ x) (append-nil turns)) ∙ append_assoc start turns (plain body.Spent ∷ []),
        )
    by (inr (start, turns, tail, begins, goes, OutOfBudget is, whole)) =
        absurd (unmarked-end start turns (subst AreUnmarked (whole ∙ ap (λ x. start ++ (turns ++ x)) is) unmarked))
    by (inr (start, turns, tail, begins, goes, BreaksStep cuts broken, whole)) = absurd (let wrong : false ≡ true = cuts in cc)
