-- A finished lane as it is told.
use Rattle.std.proofs.Common.{◌≡◌, ℕ, ◌==◌, Bool, true, false, not, cond, List, [], ◌∷◌, ◌++◌, refl, sym, ◌∙◌, ap, arith, Option, Some, None}
use Rattle.std.specs.Option.{unwrap_or, option_and_then}
use Rattle.std.specs.List.{filter, list_all}
use Rattle.std.proofs.lemmas.Bool.{and_parts}
use Rattle.std.proofs.lemmas.Bool.Decides.{nat_tests}
use Rattle.qp_model.specs.declared.bodies.Body.{Body}
use Rattle.qp_model.specs.declared.bodies.Body.TheVariants as body
use Rattle.qp_model.specs.Record.{Item}
use Rattle.qp_model.specs.Told.{ToldItem, for_object}
use Rattle.qp_model.specs.Knowing.{Facts, told, ceiling_after, told_lane, told_alone}
use Rattle.qp_model.specs.Pieces.{Tell, Point}
use Rattle.qp_model.specs.Ends.{is_turn_mark, is_spill}
use Rattle.qp_model.specs.KernelLane.{Setting, Reading, lane_next, lane_on}
use Rattle.qp_model.specs.Points.{is_look, begins_row, pieces_at, pieces_in}
use Rattle.qp_model.specs.Sources.{source_records}
use Rattle.qp_model.proofs.KnowingLemmas.{records_of-told}
use Rattle.qp_model_order.specs.SourceRun.{source_told}
use Rattle.qp_kernel.specs.LaneZero.{told_pieces_at, told_pieces}
use Rattle.qp_kernel.proofs.CeilingLemmas.{ceiling-next}

piece-told : (w : Facts) (o : ℕ) (k : Reading) (i : Item) → pieces_at w o k i ≡ told_pieces_at o k (for_object i.of (told w i.of k.ceiling i.body))
unfolding pieces_at told_pieces_at told
piece-told w o k i = go (i.of == o) refl
  where
    go : (v : Bool) → (i.of == o) ≡ v
        → cond v (cond (is_turn_mark i.body) [] (Tell (told w o k.ceiling i.body) ∷ [])) (cond (begins_row o k.place k.running (is_look i.body)) (Point ∷ []) [])
        ≡ cond v (cond (is_turn_mark i.body) [] (Tell (told w i.of k.ceiling i.body) ∷ [])) (cond (begins_row o k.place k.running (is_look i.body)) (Point ∷ []) [])
    go true e = let same : o ≡ i.of = grind (arith, nat_tests) in ap (λ x. cond (is_turn_mark i.body) [] (Tell (told w x k.ceiling i.body) ∷ [])) same
    go false e = refl

-- the pieces of an object in a lane that reads are those of the lane as told
pub pieces-lane : (w : Facts) (s : Setting) (o : ℕ) (k last : Reading) (is : List Item) → lane_on s k is ≡ Some last → pieces_in w s o k is ≡ told_pieces s o k (told_lane w k.ceiling is)
unfolding lane_on pieces_in told_pieces told_lane told
pieces-lane w s o k last [] h = refl
pieces-lane w s o k last (i ∷ is) h = go (lane_next s k i) refl h (λ n e. pieces-lane w s o n last is e)
  where
    go : (r : Option Reading) → lane_next s k i ≡ r → option_and_then (λ n. lane_on s n is) r ≡ Some last
        → ((n : Reading) → lane_on s n is ≡ Some last → pieces_in w s o n is ≡ told_pieces s o n (told_lane w n.ceiling is))
        → pieces_at w o k i ++ pieces_in w s o (unwrap_or r k) is
        ≡ told_pieces_at o k (for_object i.of (told w i.of k.ceiling i.body)) ++ told_pieces s o (unwrap_or r k) (told_lane w (ceiling_after k.ceiling i.body) is)
    go None e h rest = absurd (cc)
    go (Some n) e h rest =
        let moved = ceiling-next s k n i e in
        let later : pieces_in w s o n is ≡ told_pieces s o n (told_lane w (ceiling_after k.ceiling i.body) is) = rest n h ∙ ap (λ c. told_pieces s o n (told_lane w c is)) moved in
        ap (λ x. x ++ pieces_in w s o n is) (piece-told w o k i) ∙ ap (λ x. told_pieces_at o k (for_object i.of (told w i.of k.ceiling i.body)) ++ x) later

-- a `spill` tells nothing of the ceiling
spill-ceiling : (c : ℕ) (b : Body) → is_spill b ≡ true → ceiling_after c b ≡ c
spill-ceiling c (body.Spill n) h = refl
spill-ceiling c (body.Lock x) h = absurd (cc)
spill-ceiling c (body.Unlock x) h = absurd (cc)
spill-ceiling c _ h = refl

unspilled-lane : (w : Facts) (c : ℕ) (is : List Item) → told_lane w c (filter (λ i. not (is_spill i.body)) is) ≡ filter (λ t. not (is_spill t.told.body)) (told_lane w c is)
unfolding told_lane told
unspilled-lane w c [] = refl
unspilled-lane w c (i ∷ is) = go (is_spill i.body) refl (unspilled-lane w (ceiling_after c i.body) is)
  where
    go : (v : Bool) → is_spill i.body ≡ v
        → told_lane w (ceiling_after c i.body) (filter (λ i. not (is_spill i.body)) is) ≡ filter (λ t. not (is_spill t.told.body)) (told_lane w (ceiling_after c i.body) is)
        → told_lane w c (cond (not v) (i ∷ filter (λ i. not (is_spill i.body)) is) (filter (λ i. not (is_spill i.body)) is))
        ≡ cond (not v) (for_object i.of (told w i.of c i.body) ∷ filter (λ t. not (is_spill t.told.body)) (told_lane w (ceiling_after c i.body) is)) (filter (λ t. not (is_spill t.told.body)) (told_lane w (ceiling_after c i.body) is))
    go true e later = ap (λ x. told_lane w x (filter (λ i. not (is_spill i.body)) is)) (sym (spill-ceiling c i.body e)) ∙ later
    go false e later = ap (λ x. for_object i.of (told w i.of c i.body) ∷ x) later

all-none : (ts : List ToldItem) → list_all (λ t. t.of == 0) ts ≡ true → filter (λ t. t.of == 0) ts ≡ ts
all-none [] h = refl
all-none (t ∷ ts) h = let parts = and_parts (t.of == 0) (list_all (λ t. t.of == 0) ts) h in rw (parts.0, all-none ts parts.1) refl

alone-told : (w : Facts) (c : ℕ) (is : List Item) → list_all (λ i. i.of == 0) is ≡ true → list_all (λ t. t.of == 0) (filter (λ t. not (is_spill t.told.body)) (told_lane w c is)) ≡ true
unfolding told_lane told
alone-told w c [] h = refl
alone-told w c (i ∷ is) h =
    let parts = and_parts (i.of == 0) (list_all (λ i. i.of == 0) is) h in
    go (is_spill i.body) parts.0 (alone-told w (ceiling_after c i.body) is parts.1)
  where
    go : (v : Bool) → (i.of == 0) ≡ true → list_all (λ t. t.of == 0) (filter (λ t. not (is_spill t.told.body)) (told_lane w (ceiling_after c i.body) is)) ≡ true
        → list_all (λ t. t.of == 0) (cond (not v) (for_object i.of (told w i.of c i.body) ∷ filter (λ t. not (is_spill t.told.body)) (told_lane w (ceiling_after c i.body) is)) (filter (λ t. not (is_spill t.told.body)) (told_lane w (ceiling_after c i.body) is))) ≡ true
    go true e rest = rest
    go false e rest = rw (e, rest) refl

-- the records of a source are those of its lane as told
pub source-lane : (w : Facts) (is : List Item) → list_all (λ i. i.of == 0) is ≡ true → source_records w is ≡ source_told (told_lane w 0 is)
unfolding source_records
source-lane w is alone =
    records_of-told w 0 0 (filter (λ i. not (is_spill i.body)) is)
    ∙ ap (λ ts. told_alone (filter (λ t. t.of == 0) ts)) (unspilled-lane w 0 is)
    ∙ ap told_alone (all-none (filter (λ t. not (is_spill t.told.body)) (told_lane w 0 is)) (alone-told w 0 is alone))
