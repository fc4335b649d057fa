-- Points and records that are read one after another.
use Rattle.std.proofs.Common.{◌≡◌, ℕ, zero, suc, ◌+◌, ◌-◌, ◌<◌, ◌≤◌, Bool, true, false, List, [], ◌∷◌, map, length, drop, get_or, refl, sym, ◌∙◌, ap, inl, inr, Option, Some, None, arith, add-one, drop-cons}
use Rattle.std.specs.Prelude.{slice_get}
use Rattle.std.specs.Option.{option_and_then}
use Rattle.std.proofs.lemmas.List.{drop_all}
use Rattle.std.proofs.lemmas.Option.{none-some}
use Rattle.qp_chart.specs.Task.{Task}
use Rattle.qp_model.specs.declared.systems.System.{System}
use Rattle.qp_model.specs.declared.bodies.Entry.{Entry}
use Rattle.qp_model.specs.Told.{Told, Event}
use Rattle.qp_model.specs.Calls.{ok_after, is_assertion}
use Rattle.qp_model.specs.Pieces.{Tell, Point, ends_at_point}
use Rattle.qp_model.specs.Acts.{Config, Actor}
use Rattle.qp_check_calls.specs.CallState.{CallStage, Whole, CallState}
use Rattle.qp_check_calls.specs.CallStateNext.{stage_answer}
use Rattle.qp_check_calls.specs.declared.pieces.Piece.{Piece}
use Rattle.qp_check_calls.specs.declared.pieces.Piece.TheVariants as piece
use Rattle.qp_check_calls.specs.AsPiece.{as_piece}
use Rattle.qp_check_course.specs.Goes.{Way, Starting, Stepping}
use Rattle.qp_check_course.specs.Machine.{State, AtPoint, AtPost, answered, resumed, resume, step_closed, tasks_state, tell_next, point_next, state_next, state_after, expects_point}
use Rattle.qp_check_course.specs.Passing.{pass, run_told}
use Rattle.qp_check_course.specs.Runs.{IsAble, CanRun, is_point}
use Rattle.qp_check_course.proofs.PassLemmas.{Shape, pass-none, resume-shape, settle-shape, start-none}
use Rattle.qp_check_course.proofs.CanLemmas.{run-next}
use Rattle.qp_model.proofs.AbleLemmas.{some-same}

-- at most so many points are to come before another piece
abbrev pub points_left : State → ℕ
points_left (AtPoint ev e ts leaf c) = suc (length ts)
points_left (AtPost way rest ts leaf c) = suc (suc (length ts))
points_left s = 0

none-left : (s : State) → expects_point s ≡ false → points_left s ≡ 0
none-left (AtPoint ev e ts leaf c) h = absurd (cc)
none-left (AtPost way rest ts leaf c) h = absurd (cc)
none-left _ h = refl

shaped : (ev : Event) (e : Entry) (leaf : ℕ) (ts : List Task) (s : State) → Shape ev e leaf ts s → points_left s ≤ suc (length ts)
shaped ev e leaf ts s (inl (c, is)) = let same : points_left s ≡ suc (length ts) = ap points_left is in omega (arith, same)
shaped ev e leaf ts s (inr none) = omega (arith, none-left s none)

module _ (a : Actor) where
  settled : (ev : Event) (e : Entry) (leaf : ℕ) (ts : List Task) (c : Config) → points_left (tasks_state a (Stepping ev e) leaf ts c) ≤ length ts
  unfolding tasks_state
  settled ev e leaf [] c = by e.pool
    where
      by : (p : ℕ) → points_left (step_closed p e (record c { leaf = leaf })) ≤ 0
      by zero = omega arith
      by (suc p) = omega arith
  settled ev e leaf (t ∷ ts) c = shaped ev e leaf ts (tasks_state a (Stepping ev e) leaf (t ∷ ts) c) (settle-shape a ev e leaf t ts c)

  started : (inner : Bool) (rest : CallState) (leaf : ℕ) (ts : List Task) (c : Config) → points_left (resume Starting inner rest leaf ts (tasks_state a Starting leaf ts) c) ≡ 0
  started inner rest leaf ts c = by rest.stage
    where
      ended : (b : Bool) (d : Config) → points_left (answered b Starting leaf ts (tasks_state a Starting leaf ts) d) ≡ 0
      ended true d = refl
      ended false d = none-left (tasks_state a Starting leaf ts d) (start-none a leaf ts d)

      by : (s : CallStage) → points_left (resumed (stage_answer s) Starting inner rest leaf ts (tasks_state a Starting leaf ts) c) ≡ 0
      by (Whole own) = ended (is_assertion own) (record c { ok = ok_after own c.ok; kept = rest.kept })
      by s = refl

  resumes : (way : Way) (rest : CallState) (leaf : ℕ) (ts : List Task) (c : Config) → points_left (resume way true rest leaf ts (tasks_state a way leaf ts) c) ≤ suc (length ts)
  resumes Starting rest leaf ts c = omega (arith, started true rest leaf ts c)
  resumes (Stepping ev e) rest leaf ts c =
      shaped ev e leaf ts (resume (Stepping ev e) true rest leaf ts (tasks_state a (Stepping ev e) leaf ts) c) (resume-shape a ev e leaf ts (tasks_state a (Stepping ev e) leaf ts) true rest c)

  -- a point leaves fewer of them
  pub point-fewer : (s later : State) → point_next a s ≡ Some later → points_left later < points_left s
  unfolding point_next
  point-fewer (AtPoint ev e ts leaf c) later h = let same = ap points_left (some-same h) in omega (arith, same, settled ev e leaf ts c)
  point-fewer (AtPost way rest ts leaf c) later h = let same = ap points_left (some-same h) in omega (arith, same, resumes way rest leaf ts c)
  point-fewer s later h = absurd (none-some _ h)

  unexpected : (s : State) → point_next a s ≡ None → expects_point s ≡ false
  unfolding point_next
  unexpected (AtPoint ev e ts leaf c) h = absurd (cc)
  unexpected (AtPost way rest ts leaf c) h = absurd (cc)
  unexpected _ h = refl

  -- where none may come, all are passed
  pub pass-stays : (s same whole : State) → same ≡ s → point_next a s ≡ None → pass a s ≡ whole → same ≡ whole
  pass-stays s same whole is none k = is ∙ sym (pass-none a s (unexpected s none)) ∙ k

module _ (sys : System) (a : Actor) where
  -- the course can run on behind a point
  pub point-can : IsAble sys a → (s later : State) → point_next a s ≡ Some later → CanRun sys a s → CanRun sys a later
  unfolding state_next
  point-can able s later is can = run-next sys a able s Point later is can

  -- and behind a record
  pub tell-can : IsAble sys a → (s later : State) (t : Told) → Some later ≡ tell_next sys a s t → CanRun sys a s → CanRun sys a later
  unfolding state_next
  tell-can able s later t is can = run-next sys a able s (Tell t) later (sym is) can

  told-first : (i : ℕ) (g : List Told) (t : Told) (s : State) → i < length g → t ≡ get_or g i t
      → run_told sys a s (drop i g) ≡ option_and_then (λ later. run_told sys a later (drop (i + 1) g)) (tell_next sys a (pass a s) t)
  unfolding run_told
  told-first i g t s h is =
      let rest : drop i g ≡ t ∷ drop (i + 1) g = rw add-one (drop-cons g i t h ∙ ap (λ y. y ∷ drop (suc i) g) (sym is)) in
      ap (λ zs. run_told sys a s zs) rest

  -- a record may come
  pub told-on : (i : ℕ) (g : List Told) (t : Told) (s later : State) (whole : Option State) → i < length g → t ≡ get_or g i t
      → Some later ≡ tell_next sys a (pass a s) t → run_told sys a s (drop i g) ≡ whole → run_told sys a later (drop (i + 1) g) ≡ whole
  told-on i g t s later whole h is state_next k =
      ap (λ o. option_and_then (λ later. run_told sys a later (drop (i + 1) g)) o) state_next ∙ sym (told-first i g t s h is) ∙ k

  -- or it may not
  pub told-off : (i : ℕ) (g : List Told) (t : Told) (s : State) (whole : Option State) → i < length g → t ≡ get_or g i t
      → None ≡ tell_next sys a (pass a s) t → run_told sys a s (drop i g) ≡ whole → whole ≡ None
  told-off i g t s whole h is state_next k =
      sym k ∙ told-first i g t s h is ∙ ap (λ o. option_and_then (λ later. run_told sys a later (drop (i + 1) g)) o) (sym state_next)

  -- all were read
  pub told-end : (i : ℕ) (g : List Told) (s : State) (whole : Option State) → length g ≤ i → run_told sys a s (drop i g) ≡ whole → whole ≡ Some s
  unfolding run_told
  told-end i g s whole h k = sym k ∙ ap (λ zs. run_told sys a s zs) (drop_all i g h)

  piece-first : (i : ℕ) (ps : List Piece) (p : Piece) (s : State) → i < length ps → p ≡ get_or ps i p
      → state_after sys a s (map as_piece (drop i ps)) ≡ option_and_then (λ later. state_after sys a later (map as_piece (drop (i + 1) ps))) (state_next sys a s (as_piece p))
  unfolding state_after
  piece-first i ps p s h is =
      let rest : drop i ps ≡ p ∷ drop (i + 1) ps = rw add-one (drop-cons ps i p h ∙ ap (λ y. y ∷ drop (suc i) ps) (sym is)) in
      ap (λ zs. state_after sys a s (map as_piece zs)) rest

  -- the same of pieces
  pub piece-on : (i : ℕ) (ps : List Piece) (p : Piece) (s later : State) (whole : Option State) → i < length ps → p ≡ get_or ps i p
      → Some later ≡ state_next sys a s (as_piece p) → state_after sys a s (map as_piece (drop i ps)) ≡ whole → state_after sys a later (map as_piece (drop (i + 1) ps)) ≡ whole
  piece-on i ps p s later whole h is state_next k =
      ap (λ o. option_and_then (λ later. state_after sys a later (map as_piece (drop (i + 1) ps))) o) state_next ∙ sym (piece-first i ps p s h is) ∙ k

  pub piece-off : (i : ℕ) (ps : List Piece) (p : Piece) (s : State) (whole : Option State) → i < length ps → p ≡ get_or ps i p
      → None ≡ state_next sys a s (as_piece p) → state_after sys a s (map as_piece (drop i ps)) ≡ whole → None ≡ whole
  piece-off i ps p s whole h is state_next k =
      ap (λ o. option_and_then (λ later. state_after sys a later (map as_piece (drop (i + 1) ps))) o) state_next ∙ sym (piece-first i ps p s h is) ∙ k

  pub piece-end : (i : ℕ) (ps : List Piece) (s : State) (whole : Option State) → length ps ≤ i → state_after sys a s (map as_piece (drop i ps)) ≡ whole → Some s ≡ whole
  unfolding state_after
  piece-end i ps s whole h k = sym (ap (λ zs. state_after sys a s (map as_piece zs)) (drop_all i ps h)) ∙ k

last-one : (p q : Piece) (ps : List Piece) → slice_get (p ∷ q ∷ ps) (length (p ∷ q ∷ ps) - 1) ≡ slice_get (q ∷ ps) (length (q ∷ ps) - 1)
last-one p q ps =
    let long : suc (suc (length ps)) - 1 ≡ suc (length ps) = omega arith in
    let short : suc (length ps) - 1 ≡ length ps = omega arith in
    rw (long, short) refl

-- the last piece tells whether a list ends at a point
pub last-point : (ps : List Piece) (o : Option Piece) → o ≡ slice_get ps (length ps - 1) → is_point o ≡ ends_at_point (map as_piece ps)
unfolding ends_at_point
last-point [] o is = ap is_point is
last-point (piece.Point ∷ []) o is = ap is_point is
last-point (piece.Tell t ∷ []) o is = ap is_point is
last-point (piece.Point ∷ q ∷ ps) o is = last-point (q ∷ ps) o (is ∙ last-one piece.Point q ps)
last-point (piece.Tell t ∷ q ∷ ps) o is = last-point (q ∷ ps) o (is ∙ last-one (piece.Tell t) q ps)
