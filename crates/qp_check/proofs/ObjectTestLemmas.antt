-- The definitions of one object, by the tests of their parts.
use Rattle.std.proofs.Common.{◌≡◌, ℕ, zero, suc, ◌+◌, ◌<◌, ◌==◌, Bool, true, false, not, ◌||◌, List, [], ◌∷◌, ◌++◌, length, map, take, drop, set, get_or, refl, ap, sym, ◌∙◌, arith}
use Rattle.std.proofs.lemmas.Bool.Decides.{nat_tests}
use Rattle.std.proofs.Math.Seq.{take-append_seam}
use Rattle.qp_model.specs.declared.systems.System.{System}
use Rattle.qp_model.specs.declared.systems.ObjectDef.{ObjectDef}
use Rattle.qp_model.specs.declared.journals.Journal.{Journal}
use Rattle.qp_model.specs.Course.{Cut, FollowsTo}
use Rattle.qp_model.specs.History.{lane_items}
use Rattle.qp_model.specs.Ends.{may_cut}
use Rattle.qp_model.specs.Home.{by_object, home_of, home_records, lane_at}
use Rattle.qp_model.specs.HomeLane.{is_home_lane}
use Rattle.qp_model.specs.Kernels.{port}
use Rattle.qp_model.specs.Lawful.{CourseHolds, ShapesHold, cut_of, dispatched, facts_of}
use Rattle.qp_model.specs.ObjectShape.{HasShape}
use Rattle.qp_model.specs.Pieces.{Piece, records_in}
use Rattle.qp_model.specs.Told.{Told}
use Rattle.qp_model.proofs.HomeLemmas.{home_records-kernel}
use Rattle.qp_check_calls.specs.Decides.{Decides}
use Rattle.qp_check_shapes.proofs.GroupsDecideLemmas.{decides-as, denied, decided, decides-no, decides-yes}

module _ (sys : System) (j : Journal) (d : ObjectDef) (cut : Cut) (told : List Told) (cuts : cut ≡ cut_of sys j d.priority) where
  -- the shape that is asked of an object
  abbrev Shape : Type 0
  Shape = HasShape sys d.priority (j.kernel == port) (cut_of sys j d.priority) (home_records (facts_of sys j) j d.priority)

  abbrev Home : Bool
  Home = is_home_lane d.priority j.budget (may_cut j.end) (lane_items (lane_at j (home_of sys j d.priority)))

  -- under a kernel
  pub shapes-alone : (j.kernel ≡ port → ⊥) → told ≡ by_object (facts_of sys j) j d.priority → (b : Bool) → Decides b (HasShape sys d.priority false cut told) → Decides b (ShapesHold sys j d)
  shapes-alone other tells b shape = decides-as Shape (ShapesHold sys j d) b (λ s. record { shape = s; home = home }) (λ h. h.shape) shaped
    where
      elsewhere : (j.kernel == port) ≡ false
      elsewhere = grind (arith, nat_tests)

      home : (not (j.kernel == port) || Home) ≡ true
      home = rw elsewhere refl

      same : told ≡ home_records (facts_of sys j) j d.priority
      same = tells ∙ sym (home_records-kernel (facts_of sys j) j d.priority elsewhere)

      shaped : Decides b Shape
      shaped = rw (elsewhere, ← cuts, ← same) shape

  module _ (here : j.kernel ≡ port) (tells : told ≡ home_records (facts_of sys j) j d.priority) (b : Bool) (shape : Decides b (HasShape sys d.priority true cut told)) where
    there : (j.kernel == port) ≡ true
    there = grind (arith, nat_tests)

    shaped : Decides b Shape
    shaped = rw (there, ← cuts, ← tells) shape

    pub shapes-broken : b ≡ false → Decides false (ShapesHold sys j d)
    shapes-broken fails = decides-no (ShapesHold sys j d) (λ h. denied Shape b shaped fails h.shape)

    pub shapes-home : b ≡ true → (c : Bool) → c ≡ Home → Decides c (ShapesHold sys j d)
    shapes-home is true test =
        let home : (not (j.kernel == port) || Home) ≡ true = rw there (sym test) in
        decides-yes (ShapesHold sys j d) (record { shape = decided Shape b shaped is; home = home })
    shapes-home is false test =
        decides-no (ShapesHold sys j d)
        (λ h. let home : Home ≡ true = rw there at h.home in let bad : false ≡ true = test ∙ home in let absent : ⊥ = cc in absent)

  pub course-is : told ≡ dispatched (by_object (facts_of sys j) j d.priority) → (b : Bool) → Decides b ((ps : List Piece) × (records_in ps ≡ told) × FollowsTo sys d cut ps) → Decides b (CourseHolds sys j d)
  unfolding CourseHolds
  course-is tells b h =
      decides-as ((ps : List Piece) × (records_in ps ≡ told) × FollowsTo sys d cut ps) ((ps : List Piece) × (records_in ps ≡ dispatched (by_object (facts_of sys j) j d.priority)) × FollowsTo sys d (cut_of sys j d.priority) ps) b
      (λ f. (f.0, f.1 ∙ tells, rw (← cuts) f.2))
      (λ f. (f.0, f.1 ∙ sym tells, rw cuts f.2))
      h

-- one list after another written over
pub map-written : {X : Type 0} (f : X → X) (xs : List X) (i : ℕ) (x y : X) → i < length xs → x ≡ get_or (map f (take i xs) ++ drop i xs) i x → y ≡ f x
    → set (map f (take i xs) ++ drop i xs) i y ≡ map f (take (i + 1) xs) ++ drop (i + 1) xs
map-written f [] i x y lt at is = absurd (omega arith)
map-written f (z ∷ zs) zero x y lt at is = ap (λ w. w ∷ zs) (is ∙ ap f at)
map-written f (z ∷ zs) (suc i) x y lt at is =
    let e : suc i + 1 ≡ suc (i + 1) = omega arith in
    rw e (ap (λ ws. f z ∷ ws) (map-written f zs i x y (omega arith) at is))

pub mapped-twice : {X Y Z : Type 0} (f : X → Y) (g : Y → Z) (xs : List X) → map g (map f xs) ≡ map (λ x. g (f x)) xs
mapped-twice f g [] = refl
mapped-twice f g (x ∷ xs) = ap (λ zs. g (f x) ∷ zs) (mapped-twice f g xs)

-- a slice of a whole vector, written over by as many
pub written-whole : {X : Type 0} (n : ℕ) (old new : List X) → n ≡ length old → length new ≡ length old → take n (new ++ drop (length new) old) ≡ new
written-whole n old new is same = let e : n ≡ length new = omega arith in rw e (take-append_seam new (drop (length new) old))
