-- A course read record by record comes where all its records lead.
use Rattle.std.proofs.Common.{◌≡◌, ◌∙◌, List, [], ◌∷◌, refl, sym, ap, Option, Some, None}
use Rattle.std.specs.Option.{option_and_then}
use Rattle.qp_model.specs.declared.systems.System.{System}
use Rattle.qp_model.specs.declared.systems.ObjectDef.{ObjectDef}
use Rattle.qp_model.specs.Acts.{Actor}
use Rattle.qp_model.specs.Course.{first_config}
use Rattle.qp_model.specs.Told.{Told}
use Rattle.qp_check_course.specs.AsState.{as_actor, as_state}
use Rattle.qp_check_course.specs.Followable.{IsFollowable}
use Rattle.qp_check_course.specs.Machine.{State, start_state, tell_next}
use Rattle.qp_check_course.specs.Passing.{pass, run_told}
use Rattle.qp_check_course.specs.Reading.{LeavesOf}
use Rattle.qp_check_course.specs.Standing.{FollowSomehow, ShowsLeft, StandsAt, config_left_in}
use Rattle.qp_check_course.specs.declared.reading.CourseReading.{CourseReading}
use Rattle.qp_check_course.specs.declared.standing.Standing.{Standing}
use Rattle.qp_check_course.proofs.StandingLemmas.{are-read, read-at, stands-at}

-- what one record makes of a state, and then those behind it
told-next : (sys : System) (a : Actor) (s : State) (t : Told) (left : List Told)
    → run_told sys a s (t ∷ left) ≡ option_and_then (λ later. run_told sys a later left) (tell_next sys a (pass a s) t)
unfolding run_told
told-next sys a s t left = refl

told-none : (sys : System) (a : Actor) (s : State) → run_told sys a s [] ≡ Some s
unfolding run_told
told-none sys a s = refl

module _ (sys : System) (d : ObjectDef) (r : CourseReading) where
  -- the first record comes next, and then the others
  pub leaves-next : (t : Told) (left all : List Told) (later : CourseReading) → later.who ≡ r.who
      → Some (as_state later.state) ≡ tell_next r.who.sys.now (as_actor r.who) (pass (as_actor r.who) (as_state r.state)) t
      → LeavesOf sys d r (t ∷ left) all → LeavesOf sys d later left all
  leaves-next t left all later same next h =
      let own = r.who.sys.now in
      let a = as_actor r.who in
      let led = ap (λ o. option_and_then (λ s. run_told own a s left) o) next ∙ sym (told-next own a (as_state r.state) t left) ∙ h.led in
      record {
        chart = h.chart;
        is = rw same h.is;
        led = rw same led;
      }

  -- it can, where the records follow the object's chart
  pub leaves-none : (t : Told) (left all : List Told) → None ≡ tell_next r.who.sys.now (as_actor r.who) (pass (as_actor r.who) (as_state r.state)) t
      → LeavesOf sys d r (t ∷ left) all → IsFollowable sys d → FollowSomehow sys d all → ⊥
  leaves-none t left all next h f follow =
      let own = r.who.sys.now in
      let a = as_actor r.who in
      let none = sym h.led ∙ told-next own a (as_state r.state) t left ∙ ap (λ o. option_and_then (λ s. run_told own a s left) o) (sym next) in
      let same = read-at sys d f all follow h.chart h.is.found own a h.is.system h.is.object (start_state a (first_config d)) refl in
      are-read sys d f all follow (sym same ∙ none)

  -- where the course stands when no record is left
  pub leaves-stand : (all : List Told) (x : Option Standing) → ShowsLeft (config_left_in (as_state r.state)) x → IsFollowable sys d → FollowSomehow sys d all
      → LeavesOf sys d r [] all → StandsAt sys d all x
  leaves-stand all x shows f follow h =
      let own = r.who.sys.now in
      let a = as_actor r.who in
      let same = read-at sys d f all follow h.chart h.is.found own a h.is.system h.is.object (start_state a (first_config d)) refl in
      stands-at sys d f all follow (as_state r.state) (sym same ∙ sym h.led ∙ told-none own a (as_state r.state)) x shows
