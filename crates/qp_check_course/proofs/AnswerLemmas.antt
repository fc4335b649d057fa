-- What is answered of an object's list.
use Rattle.std.proofs.Common.{◌≡◌, ℕ, suc, ◌≤◌, ◌==◌, Bool, true, false, ◌&&◌, List, [], ◌∷◌, length, map, not, refl, sym, ◌∙◌, ap, subst, Some, None, arith}
use Rattle.std.proofs.lemmas.Bool.{and_right}
use Rattle.std.proofs.lemmas.Bool.Decides.{nat_tests}
use Rattle.qp_chart.specs.declared.checked.Chart.{Chart}
use Rattle.qp_model.specs.declared.systems.System.{System}
use Rattle.qp_model.specs.declared.systems.ObjectDef.{ObjectDef}
use Rattle.qp_model.specs.Told.{Told}
use Rattle.qp_model.specs.Pieces.{Piece, records_in, ends_at_point}
use Rattle.qp_model.specs.Able.{chart_able}
use Rattle.qp_model.specs.Acts.{Actor}
use Rattle.std.specs.List.{list_all}
use Rattle.qp_model.specs.ObjectShape.{asserts_none}
use Rattle.qp_model.specs.Ends.{is_assert}
use Rattle.qp_check_calls.specs.declared.pieces.Piece as pieces
use Rattle.qp_check_calls.specs.declared.pieces.Piece.TheVariants as piece
use Rattle.qp_check_calls.specs.AsPiece.{as_piece}
use Rattle.qp_model.specs.Course.{Cut, FollowsTo, actor, chart_at, first_config}
use Rattle.qp_check_calls.specs.Decides.{Decides}
use Rattle.qp_check_course.specs.Machine.{State, start_state, state_after}
use Rattle.qp_check_course.specs.Passing.{run_told, is_none_told, told_well, asserts_where_cut, told_to}
use Rattle.qp_check_course.specs.Decided.{ends_well, reads_to}
use Rattle.qp_check_course.specs.Followable.{with_eight, IsFollowable}
use Rattle.qp_check_course.specs.Runs.{IsAble, CanRun, piece_asserts}
use Rattle.qp_check_course.proofs.CanLemmas.{run-start}
use Rattle.qp_check_course.proofs.FollowLemmas.{pieces-decided, records-decided}
use Rattle.qp_model.proofs.AbleLemmas.{some-same}

-- a course begins so that it can run
pub begun-can : (sys : System) (a : Actor) (d : ObjectDef) (s : State) → IsAble sys a → s ≡ start_state a (first_config d) → CanRun sys a s
begun-can sys a d s able is = subst (λ x. CanRun sys a x) (sym is) (run-start sys a able (first_config d) (omega arith))

and-is : (a b : Bool) → b ≡ true → (a && b) ≡ a
and-is true b h = h
and-is false b h = refl

module _ (sys : System) (d : ObjectDef) (f : IsFollowable sys d) where
  -- an assertion stands in a list that isn't cut
  pub told-asserted : (cut : Cut) (g : List Told) → asserts_where_cut cut g ≡ false → Decides false ((ps : List Piece) × (records_in ps ≡ g) × FollowsTo sys d cut ps)
  unfolding told_to
  told-asserted cut g loud =
      subst (λ x. Decides x ((ps : List Piece) × (records_in ps ≡ g) × FollowsTo sys d cut ps)) (and_right _ (asserts_where_cut cut g) loud) (records-decided sys d f cut g)

  pub pieces-asserted : (cut : Cut) (ps : List Piece) → asserts_where_cut cut (records_in ps) ≡ false → Decides false (FollowsTo sys d cut ps)
  unfolding reads_to
  pieces-asserted cut ps loud = subst (λ x. Decides x (FollowsTo sys d cut ps)) (and_right _ (asserts_where_cut cut (records_in ps)) loud) (pieces-decided sys d f cut ps)

module _ (sys : System) (d : ObjectDef) (f : IsFollowable sys d) (chart : Chart) (found : chart_at sys d.chart ≡ Some chart) where
  its : f.its ≡ chart
  its = some-same (sym f.is_its ∙ found)

  -- the object of the chart that is found
  pub its-able : (own : System) (a : Actor) → own ≡ sys → a ≡ actor d chart → d.defer ≤ 255 → IsAble own a
  its-able own a same is room =
      subst (λ x. IsAble x a) (sym same) (subst (λ x. IsAble sys x) (sym is) (record {
        able = subst (λ x. chart_able sys x ≡ true) its f.able;
        few = subst (λ x. chart_able with_eight x ≡ true) its f.few;
        room = room;
      }))

  -- the records are read to the last one, or not
  pub told-answer : (own : System) (a : Actor) → own ≡ sys → a ≡ actor d chart → (cut : Cut) (g : List Told) → asserts_where_cut cut g ≡ true → (b : Bool)
      → b ≡ told_well a cut (is_none_told g) (run_told own a (start_state a (first_config d)) g) → Decides b ((ps : List Piece) × (records_in ps ≡ g) × FollowsTo sys d cut ps)
  unfolding told_to
  told-answer own a same is cut g quiet b ends =
      subst (λ x. Decides x ((ps : List Piece) × (records_in ps ≡ g) × FollowsTo sys d cut ps)) (sym whole) (records-decided sys d f cut g)
    where
      whole : b ≡ told_to sys d f.its cut g
      whole =
          ends ∙ ap (λ x. told_well a cut (is_none_told g) (run_told x a (start_state a (first_config d)) g)) same
          ∙ ap (λ x. told_well x cut (is_none_told g) (run_told sys x (start_state x (first_config d)) g)) (is ∙ ap (actor d) (sym its))
          ∙ sym (and-is _ (asserts_where_cut cut g) quiet)

  -- the same of pieces
  pub pieces-answer : (own : System) (a : Actor) → own ≡ sys → a ≡ actor d chart → (cut : Cut) (ps : List Piece) → asserts_where_cut cut (records_in ps) ≡ true → (b : Bool)
      → b ≡ ends_well cut (ends_at_point ps) (state_after own a (start_state a (first_config d)) ps) → Decides b (FollowsTo sys d cut ps)
  unfolding reads_to
  pieces-answer own a same is cut ps quiet b ends = subst (λ x. Decides x (FollowsTo sys d cut ps)) (sym whole) (pieces-decided sys d f cut ps)
    where
      whole : b ≡ reads_to sys d f.its cut ps
      whole =
          ends ∙ ap (λ x. ends_well cut (ends_at_point ps) (state_after x a (start_state a (first_config d)) ps)) same
          ∙ ap (λ x. ends_well cut (ends_at_point ps) (state_after sys x (start_state x (first_config d)) ps)) (is ∙ ap (actor d) (sym its))
          ∙ sym (and-is _ (asserts_where_cut cut (records_in ps)) quiet)

-- pieces without an assertion
pub pieces-quiet : (ps : List pieces.Piece) → asserts_none (records_in (map as_piece ps)) ≡ list_all (λ p. not (piece_asserts p)) ps
unfolding records_in
pieces-quiet [] = refl
pieces-quiet (piece.Tell t ∷ ps) = ap (λ b. not (is_assert t.body) && b) (pieces-quiet ps)
pieces-quiet (piece.Point ∷ ps) = pieces-quiet ps

-- nothing was told
pub none-told : (g : List Told) (b : Bool) → b ≡ (length g == 0) → b ≡ is_none_told g
none-told [] b h = h
none-told (t ∷ g) b h = let some : (suc (length g) == 0) ≡ false = grind (arith, nat_tests) in h ∙ some

-- a followable object has its chart
pub missing : (sys : System) (d : ObjectDef) → IsFollowable sys d → chart_at sys d.chart ≡ None → ⊥
missing sys d f h = let both : Some f.its ≡ None = sym f.is_its ∙ h in cc

-- an object by what it has
abbrev made : ℕ → Chart → ℕ → Actor
made o chart room = record { o = o; chart = chart; room = room }

pub object-of : (d : ObjectDef) (chart : Chart) (room : ℕ) → room ≡ d.defer → made d.priority chart room ≡ actor d chart
object-of d chart room is = ap (λ r. made d.priority chart r) is
