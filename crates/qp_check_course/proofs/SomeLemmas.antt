-- What is left of a start or of a step can go on to its end.
use Rattle.std.proofs.Common.{◌≡◌, ℕ, ◌≤◌, true, List, [], ◌++◌, length, refl, Option, Some, None, is_some}
use Rattle.std.specs.List.{list_all}
use Rattle.qp_chart.specs.Task.{Task}
use Rattle.qp_model.specs.declared.systems.System.{System}
use Rattle.qp_model.specs.Shapes.{Drops}
use Rattle.qp_model.specs.Pieces.{Piece, tell}
use Rattle.qp_model.specs.Acts.{Config, Actor}
use Rattle.qp_model.specs.Able.{task_able}
use Rattle.qp_model.proofs.Completes.{completes, release, release_drops}
use Rattle.qp_check_course.specs.Goes.{anywhere, Way, Starting, Stepping, moment_of, Closing, LeftGoes}
use Rattle.qp_check_course.proofs.GoesLemmas.{does-go, Outcome, pieces_by}
use Rattle.qp_check_course.proofs.CourseLemmas.{steps-none}

module _ (sys : System) (a : Actor) where
  -- the release of the step's entry, and no step more
  pub closing-some : (way : Way) (leaf : ℕ) (c : Config) → (ps : List Piece) × Closing sys a anywhere way leaf c ps
  unfolding Closing Drops
  closing-some Starting leaf c = ([], steps-none sys a anywhere (record c { leaf = leaf }) tt)
  closing-some (Stepping ev e) leaf c =
      (tell (release e.pool e) ++ [], (release e.pool e, [], release_drops e.pool e, refl, steps-none sys a anywhere (record c { leaf = leaf }) tt))

  outcome-some : (way : Way) (leaf : ℕ) (mid : Option Config) → (ps : List Piece) × Outcome (Closing sys a anywhere way leaf) mid ps
  outcome-some way leaf None = ([], refl)
  outcome-some way leaf (Some d) = closing-some way leaf d

  -- tasks that have what they ask for can be done, and what comes after them too
  pub left-some : (way : Way) (ts : List Task) (leaf : ℕ) (c : Config) → list_all (task_able sys (is_some (moment_of way).entry)) ts ≡ true → length c.kept ≤ a.room
      → (ps : List Piece) × LeftGoes sys a anywhere way ts leaf c ps
  unfolding LeftGoes
  left-some way ts leaf c able within =
      let done = completes sys a (moment_of way) ts c able within in
      let after = outcome-some way leaf done.1 in
      (pieces_by way done.0 ++ after.0, does-go sys a way (Closing sys a anywhere way leaf) ts c done.0 done.1 after.0 done.2 after.1)
