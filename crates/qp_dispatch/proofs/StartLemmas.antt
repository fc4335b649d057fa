-- Starts, by runs of their agendas.
use Rattle.std.proofs.Common.{◌≡◌, ℕ, ◌≤◌, false, List, [], ◌++◌, length, refl, sym, ◌∙◌, ap, subst, inr, Option, Some, None, append-nil}
use Rattle.qp_chart.specs.Task.{Task}
use Rattle.qp_chart.specs.Agenda.{start_plan}
use Rattle.qp_model.specs.Told.{Told}
use Rattle.qp_model.specs.Pieces.{records_in, tell}
use Rattle.qp_model.specs.Acts.{Actor}
use Rattle.qp_model.specs.Step.{DoesLeft, at_leaf, tasks_left}
use Rattle.qp_model.specs.Course.{Starts, at_start}
use Rattle.qp_model.specs.Standing.{AgendaReaches}
use Rattle.qp_model.proofs.GroupLemmas.{bare-append}
use Rattle.qp_model.proofs.StepLemmas.{starts-failed, starts-reaches}
use Rattle.qp_calls.specs.declared.tokens.HeldEntry.{HeldEntry}
use Rattle.qp_calls.specs.LaneView.{LaneView, Grows}
use Rattle.qp_calls.specs.Clauses.{Stops, event_of}
use Rattle.qp_calls.specs.Deferring.{StandAll, kept_in}
use Rattle.qp_dispatch.specs.declared.lasting.Lasting.{Lasting}
use Rattle.qp_dispatch.specs.declared.part.Under.{Under}
use Rattle.qp_dispatch.specs.declared.steps.Step.{Step}
use Rattle.qp_dispatch.specs.declared.steps.Step.TheVariants as step
use Rattle.qp_dispatch.specs.declared.work.Work.{Work}
use Rattle.qp_dispatch.specs.Lasts.{config_of, actor_of, moment_of_work}
use Rattle.qp_dispatch.specs.Runs.{RunAsserts, RunCut, Runs, ObjectSetting}
use Rattle.qp_dispatch.specs.Parts.{entries_under, held_by, left_by}
use Rattle.qp_dispatch.specs.Resume.{StepHalts, IsLaneOf}
use Rattle.qp_dispatch.specs.Starting.{BeginsStart, StartAsserted, StartDone, StartsTo}
use Rattle.qp_dispatch.proofs.RunLemmas.{stand-left}
use Rattle.qp_dispatch.proofs.ResumeLemmas.{spilled-stand, stopped-stand, unleafed}

pub bare-stand : (es : List HeldEntry) (v : LaneView) → StandAll es v → StandAll ((es ++ []) ++ []) v
bare-stand es v all = subst (λ xs. StandAll xs v) (sym (append-nil (es ++ []) ∙ append-nil es)) all

pub start-moment : (work : Work) (pars : List ℕ) → pars ≡ [] → event_of work.ev ≡ record { sig = 0; pars = pars } → work.entry ≡ None → moment_of_work work ≡ at_start
start-moment work pars none ev hand = rw (ev, hand, none) refl

module _ (home : ObjectSetting) (ceiling later : ℕ) (k m : Lasting) (work : Work) (ts : List Task) (leaf : ℕ) (v w : LaneView) (at : moment_of_work work ≡ at_start) (tasks : ts ≡ (start_plan home.chart).tasks)
    (lane : IsLaneOf home ceiling v) (stand : StandAll k.list.entries.items v) where
  abbrev pub actor : Actor
  actor = actor_of home.me home.chart k

  pub start-done : leaf ≡ (start_plan home.chart).leaf → length (kept_in k.list) ≤ k.list.entries.capacity → Runs false home (moment_of_work work) [] ceiling later k None ts m None [] v w
      → StartDone home later k (record m { leaf = leaf }) v w
  start-done last few r =
      let one : AgendaReaches v.sys actor at_start (left_by None ts leaf) (config_of k) (r.ps ++ []) (left_by None [] leaf) (config_of m) =
      subst (λ x. AgendaReaches v.sys actor x (left_by None ts leaf) (config_of k) (r.ps ++ []) (left_by None [] leaf) (config_of m)) at (r.reaches leaf) in
      let two : AgendaReaches v.sys actor at_start (tasks_left (start_plan home.chart).tasks leaf) (config_of k) (r.ps ++ []) (tasks_left [] leaf) (config_of m) =
      subst (λ us. AgendaReaches v.sys actor at_start (tasks_left us leaf) (config_of k) (r.ps ++ []) (tasks_left [] leaf) (config_of m)) tasks one in
      let three : AgendaReaches v.sys actor at_start (tasks_left (start_plan home.chart).tasks leaf) (config_of k) r.ps (tasks_left [] leaf) (config_of m) =
      subst (λ ps. AgendaReaches v.sys actor at_start (tasks_left (start_plan home.chart).tasks leaf) (config_of k) ps (tasks_left [] leaf) (config_of m)) (append-nil r.ps) two in
      record {
        g = records_in r.ps;
        grows = r.grows;
        starts = subst (λ x. Starts v.sys actor (config_of k) (tell (records_in r.ps)) (Some (record (config_of m) { leaf = x }))) (sym last)
            (starts-reaches v.sys actor (config_of k) (config_of m) leaf r.ps three);
        room = r.keeps.room;
        lane = record {
          of = r.grows.sys ∙ lane.of;
          mine = r.grows.by ∙ lane.mine;
          serves = r.grows.serves home.me ∙ lane.serves;
          told = r.lane lane.told;
          spills = r.spills lane.spills;
        };
        few = subst (λ n. length (kept_in m.list) ≤ n) (sym r.keeps.room) (r.keeps.few few);
        hands = λ t. rw (sym (append-nil k.list.entries.items), sym (append-nil m.list.entries.items)) (r.hands t);
        stand = subst (λ es. StandAll es w) (append-nil m.list.entries.items) (stand-left (m.list.entries.items ++ []) [] w (r.stand [] (bare-stand k.list.entries.items v stand)));
      }

  left-stand : (y : Option Under) → StandAll (held_by m y ++ []) w → StandAll m.list.entries.items w
  left-stand y all = stand-left m.list.entries.items (entries_under y) w (stand-left (held_by m y) [] w all)

  pub start-asserted : (y : Option Under) (code : ℕ) (z : LaneView) → RunAsserts false home (moment_of_work work) code k None ts m y v w → Stops code w z → StartAsserted home k m v z
  unfolding tasks_left
  start-asserted y code z r stops =
      let one : DoesLeft v.sys actor at_start None [] ts (config_of k) r.ps None = subst (λ x. DoesLeft v.sys actor x None [] ts (config_of k) r.ps None) at (r.does leaf) in
      let two : DoesLeft v.sys actor at_start None [] (start_plan home.chart).tasks (config_of k) r.ps None = subst (λ us. DoesLeft v.sys actor at_start None [] us (config_of k) r.ps None) tasks one in
      record {
        g = records_in r.ps;
        mid = w;
        code = code;
        grows = r.grows;
        starts = starts-failed v.sys actor (config_of k) r.ps two;
        some = r.some;
        last = r.last;
        stops = stops;
        stand = stopped-stand code w z m.list.entries.items stops (left-stand y (r.stand [] (bare-stand k.list.entries.items v stand)));
      }

  pub start-begins : (y : Option Under) → (r : RunCut false home (moment_of_work work) k None ts m y v w) → BeginsStart home k (records_in r.ps) v
  unfolding Starts DoesLeft tasks_left
  start-begins y r =
      let b = r.begins leaf in
      let one : DoesLeft v.sys actor at_start None [] ts (config_of k) (r.ps ++ b.0) b.1 = subst (λ x. DoesLeft v.sys actor x None [] ts (config_of k) (r.ps ++ b.0) b.1) at b.2 in
      let two : DoesLeft v.sys actor at_start None [] (start_plan home.chart).tasks (config_of k) (r.ps ++ b.0) b.1 = subst (λ us. DoesLeft v.sys actor at_start None [] us (config_of k) (r.ps ++ b.0) b.1) tasks one in
      (records_in b.0, at_leaf (start_plan home.chart).leaf b.1, (r.ps ++ b.0, b.1, two, ap tell (sym (bare-append r.ps b.0)), refl), λ none. b.3 (unleafed (start_plan home.chart).leaf b.1 none))

  pub start-stand : (y : Option Under) → RunCut false home (moment_of_work work) k None ts m y v w → StandAll m.list.entries.items w
  start-stand y r = left-stand y (r.stand [] (bare-stand k.list.entries.items v stand))

-- the lane halted
pub start-halted : (home : ObjectSetting) (later : ℕ) (k m : Lasting) (g : List Told) (v w z : LaneView) (answer : Step) → Grows g v w → BeginsStart home k g v → StandAll m.list.entries.items w → StepHalts w z answer
    → StartsTo home later k m v z answer
start-halted home later k m g v w z step.Point grows begins all h = absurd h
start-halted home later k m g v w z step.Done grows begins all h = absurd h
start-halted home later k m g v w z step.Stopped grows begins all h =
    inr
    (record {
      g = g;
      mid = w;
      full = h.full;
      grows = grows;
      begins = begins;
      few = h.few;
      spills = h.spills;
      stops = h.stops;
      stand = stopped-stand 6 h.full z m.list.entries.items h.stops (spilled-stand (length w.told) w h.full m.list.entries.items h.spills all);
    })
start-halted home later k m g v w z step.Memory grows begins all h =
    record { g = g; mid = w; grows = grows; begins = begins; dry = h; stand = stopped-stand 7 w z m.list.entries.items h.stops all }
