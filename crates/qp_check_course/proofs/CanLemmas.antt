-- States from which an object's course can run.
use Rattle.std.proofs.Common.{◌≡◌, ℕ, ◌≤◌, true, [], sym, ◌∙◌, ap, subst, Some, arith}
use Rattle.std.proofs.lemmas.Option.{none-some}
use Rattle.qp_chart.specs.Expr.{Names}
use Rattle.qp_chart.specs.Drill.{Plan}
use Rattle.qp_chart.specs.declared.checked.Chart.{Chart}
use Rattle.qp_chart.specs.Agenda.{start_plan, step_plan}
use Rattle.qp_model.specs.declared.systems.System.{System}
use Rattle.qp_model.specs.declared.bodies.Entry.{Entry}
use Rattle.qp_model.specs.Told.{Told, Event}
use Rattle.qp_model.specs.Calls.{Answer, Flushed}
use Rattle.qp_model.specs.Able.{chart_able}
use Rattle.qp_model.specs.Pieces.{Piece}
use Rattle.qp_model.specs.Acts.{Config, Actor, names_of}
use Rattle.qp_model.proofs.AbleLemmas.{step-able, start-able, some-same}
use Rattle.qp_check_calls.specs.CallState.{CallStage, Whole, CallState}
use Rattle.qp_check_calls.specs.CallStateNext.{call_state_next, stage_answer}
use Rattle.qp_check_calls.specs.Reads.{IsRestOfCall}
use Rattle.qp_check_calls.proofs.BeginLemmas.{reads-begin}
use Rattle.qp_check_calls.proofs.OpenLemmas.{open-begin, open-next}
use Rattle.qp_check_calls.proofs.ReadLemmas.{reads-next}
use Rattle.qp_check_course.specs.Goes.{Way, Starting, Stepping, moment_of}
use Rattle.qp_check_course.specs.Machine.{State, tasks_state, step_state, start_state, state_next}
use Rattle.qp_check_course.specs.Followable.{with_eight}
use Rattle.qp_check_course.specs.Ready.{IsWithin, CanGoOn}
use Rattle.qp_check_course.specs.FewLeft.{AreFew}
use Rattle.qp_check_course.specs.Runs.{IsAble, CanRun}
use Rattle.qp_check_course.proofs.ReadyLemmas.{ready-start, ready-next, can-next}
use Rattle.qp_check_course.proofs.FewStateLemmas.{few-start, few-next}

whole : (s : CallStage) (answer : Answer) → stage_answer s ≡ Some answer → s ≡ Whole answer
whole (Whole own) answer h = ap Whole (some-same h)
whole s answer h = absurd (none-some _ h)

-- a flush that is whole tells no more entries than a deferred list has room for
pub whole-few : (sys : System) (a : Actor) (way : Way) (rest : CallState) → CanGoOn sys a way rest → a.room ≤ 255
    → (n : ℕ) → stage_answer rest.stage ≡ Some (Flushed n) → n ≤ 255
unfolding IsRestOfCall
whole-few sys a way rest can room n h =
    let few : n ≤ a.room = can.flushed n rest.kept [] (ap (λ s. record { stage = s; kept = rest.kept }) (whole rest.stage (Flushed n) h)) in omega arith

-- the tasks of a step, and of a start
pub few-plan : (chart : Chart) (leaf : ℕ) (names : Names) (ev : Event) (e : Entry) (sig : ℕ) (plan : Plan) → chart_able with_eight chart ≡ true
    → plan ≡ step_plan chart leaf names sig → AreFew (Stepping ev e) plan.tasks
few-plan chart leaf names ev e sig plan few is = subst (λ (p : Plan). AreFew (Stepping ev e) p.tasks) (sym is) (step-able with_eight chart few leaf names sig)

pub few-first : (chart : Chart) (plan : Plan) → chart_able with_eight chart ≡ true → plan ≡ start_plan chart → AreFew Starting plan.tasks
few-first chart plan few is = subst (λ (p : Plan). AreFew Starting p.tasks) (sym is) (start-able with_eight chart few)

-- a step in which they are left
pub step-begins : (a : Actor) (ev : Event) (e : Entry) (c : Config) (names : Names) (plan : Plan) → names ≡ names_of a c ev → plan ≡ step_plan a.chart c.leaf names ev.sig
    → tasks_state a (Stepping ev e) plan.leaf plan.tasks c ≡ step_state a e ev c
unfolding step_state
step-begins a ev e c names plan called is =
    ap (λ (p : Plan). tasks_state a (Stepping ev e) p.leaf p.tasks c) (is ∙ ap (λ (x : Names). step_plan a.chart c.leaf x ev.sig) called)

-- and a start
pub start-begins : (a : Actor) (first : Config) (plan : Plan) → plan ≡ start_plan a.chart → tasks_state a Starting plan.leaf plan.tasks first ≡ start_state a first
unfolding start_state
start-begins a first plan is = ap (λ (p : Plan). tasks_state a Starting p.leaf p.tasks first) is

module _ (sys : System) (a : Actor) (can : IsAble sys a) where
  -- a record of a call leaves it so that it can go on
  pub call-next : (way : Way) (rest more : CallState) (t : Told) → Some more ≡ call_state_next sys a.o (moment_of way).entry rest t → CanGoOn sys a way rest → CanGoOn sys a way more
  call-next way rest more t is = can-next reads-begin reads-next open-begin open-next sys a can.able way rest more t (sym is)

  -- a course begins so that it can run
  pub run-start : (first : Config) → IsWithin a first → CanRun sys a (start_state a first)
  run-start first within = record {
    ready = ready-start reads-begin reads-next open-begin open-next sys a can.able first within;
    few = few-start sys a can.few first;
  }

  -- and so it runs on
  pub run-next : (s : State) (p : Piece) (later : State) → state_next sys a s p ≡ Some later → CanRun sys a s → CanRun sys a later
  run-next s p later is run = record {
    ready = ready-next reads-begin reads-next open-begin open-next sys a can.able s p later is run.ready;
    few = few-next sys a can.few s p later is run.few;
  }
