use Rattle.std.proofs.Common.{◌≡◌, ◌∙◌, refl, sym, ap, Option, Some}
use Rattle.std.specs.Option.{option_map}
use Rattle.qp_check_course.specs.declared.states.State.{State}
use Rattle.qp_check_course.specs.AsState.{as_actor, as_state}
use Rattle.qp_check_course.specs.Machine as machine
use Rattle.qp_check_course.specs.Machine.{tell_next}
use Rattle.qp_check_course.proofs.LoopLemmas.{tell-can}
use Rattle.qp_check_course.proofs.ReadingLemmas.{leaves-next, leaves-none}
use Rattle.qp_check_course.proofs.reading.CourseReading.read.Goals as goal

pub returns-in-Some : goal.returns-in-Some
returns-in-Some c =
    let own = c.args.self.who.sys.now in
    let a = as_actor c.args.self.who in
    let told : Some (as_state c.in-Some.state) ≡ tell_next own a (as_state c.passed-here.result) c.args.told.now =
    sym (ap (λ (o : Option State). option_map as_state o) c.in-Some.is) ∙ c.in_ok-next.ensures in
    let next = told ∙ ap (λ (s : machine.State). tell_next own a s c.args.told.now) c.passed-here.ensures.is in (
      (c.requires.0, tell-can own a c.requires.0 (as_state c.passed-here.result) (as_state c.in-Some.state) c.args.told.now told c.passed-here.ensures.can),
      λ sys d left all h. leaves-next sys d c.args.self c.args.told.now left all (record { who = c.args.self.who; state = c.in-Some.state }) refl next h,
    )

pub returns-in-None : goal.returns-in-None
returns-in-None c =
    let own = c.args.self.who.sys.now in
    let a = as_actor c.args.self.who in
    let none = sym (ap (λ (o : Option State). option_map as_state o) c.in-None.is) ∙ c.in_ok-next.ensures
    ∙ ap (λ (s : machine.State). tell_next own a s c.args.told.now) c.passed-here.ensures.is in
    λ sys d left all h f follow. leaves-none sys d c.args.self c.args.told.now left all none h f follow
