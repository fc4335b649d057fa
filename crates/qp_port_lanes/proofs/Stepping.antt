-- The step of an object goes on: to its next scheduling point, to its end, or to the end of its lane.
use Rattle.std.proofs.Common.{◌≡◌, ℕ, suc, ◌+◌, ◌≤◌, Bool, true, false, List, [], ◌∷◌, ◌++◌, map, length, refl, sym, ◌∙◌, ap, subst, inl, inr, Some, None, arith, append_assoc, append-nil}
use Rattle.std.specs.List.{list_all}
use Rattle.qp_model.specs.declared.systems.System.{System}
use Rattle.qp_model.specs.declared.systems.ObjectDef.{ObjectDef}
use Rattle.qp_model.specs.declared.bodies.Entry as model
use Rattle.qp_model.specs.Able.{task_able}
use Rattle.qp_model.specs.Acts.{Actor, Config}
use Rattle.qp_model.specs.Course.{actor, chart_at}
use Rattle.qp_model.specs.Ends.{may_cut}
use Rattle.qp_model.specs.Pieces.{Point, tell}
use Rattle.qp_model.specs.Sites.{object_at}
use Rattle.qp_model.specs.Sound.{IsSound}
use Rattle.qp_model.specs.Standing.{StepAdvances}
use Rattle.qp_model.specs.Step.{StepGoesOn, Remainder, moment}
use Rattle.qp_model.specs.declared.bodies.Body.TheVariants as body
use Rattle.qp_model.specs.Told.{Event, Told, ToldItem, for_object, plain}
use Rattle.qp_model.proofs.AbleLemmas.{some-same}
use Rattle.qp_calls.specs.Clauses.{entry_of}
use Rattle.qp_calls.specs.Counting.{count_of}
use Rattle.qp_calls.specs.Deferring.{ChangeAlike, StandAll, is_named, kept_in}
use Rattle.qp_calls.specs.LaneView.{Grows, LaneView, ceiling_in}
use Rattle.qp_calls.specs.Notes.{spills_told}
use Rattle.qp_calls.specs.Tokens.{Token}
use Rattle.qp_chart_compiled.specs.Compiled.{IsCompiled}
use Rattle.qp_dispatch.specs.declared.lasting.Lasting.{Lasting}
use Rattle.qp_dispatch.specs.declared.objects.Object.{Object}
use Rattle.qp_dispatch.specs.declared.steps.Position.{Position}
use Rattle.qp_dispatch.specs.declared.steps.Position.TheVariants as standing
use Rattle.qp_dispatch.specs.declared.steps.Step.{Step}
use Rattle.qp_dispatch.specs.declared.steps.Step.TheVariants as step
use Rattle.qp_dispatch.specs.Lasts.{actor_of, config_of}
use Rattle.qp_dispatch.specs.Objects.{MayResume, ObjectResumes, ResumesAs, setting_for, works_for}
use Rattle.qp_dispatch.specs.Parts.{held_by}
use Rattle.qp_dispatch.specs.Resume.{BeginsOn, EndsAsserted, EndsSpilled, IsGoing, IsUnderWay, ToEnd, ToPoint, step_event, held_in, remainder_of, step_entry}
use Rattle.qp_dispatch.specs.Resume.{CanTakeSteps as ObjectReady}
use Rattle.qp_dispatch.specs.Runs.{ObjectSetting, hand_of, tasks_in}
use Rattle.qp_kernel.specs.Stages.{IsReady, closes}
use Rattle.qp_kernel.specs.Turning.{spill_told}
use Rattle.qp_kernel.proofs.TurnLemmas.{BehindIt, CutForm, WithinIt, cut-calm, cut-form, done-form, failed-form}
use Rattle.qp_port_law.specs.Homes.{HomeEnds}
use Rattle.qp_kernel_turns.specs.Knowing.{IsInTurn, own_count}
use Rattle.qp_kernel_turns.proofs.Closing.{closes-left}
use Rattle.qp_kernel_turns.proofs.SoundObjects.{ready}
use Rattle.qp_kernel_turns.proofs.Stepping.{under-way-by, event-by, left-by}
use Rattle.qp_dispatch.proofs.ResumeLemmas.{tasks-of}
use Rattle.qp_port_law.specs.HomeLaws.{HasMore, IsBusy, IsHomeOf, HomeRests}
use Rattle.qp_port_law.proofs.HomeRecords.{AreInside, drops-inside, inside-then, own-inside}
use Rattle.qp_port_law.proofs.HomeSteps.{done-inside, point-inside}
use Rattle.qp_port_law.proofs.HomeLaws.{home_step_ends, home_step_fails, home_step_is_cut, home_step_pauses, waiting_home_ends}
use Rattle.qp_port_lanes.specs.declared.home.Home.{Home}
use Rattle.qp_port_lanes.specs.At.{IsBusyHome, IsHome, IsIn}
use Rattle.qp_port_lanes.specs.Takes.{AddsNoTake}
use Rattle.qp_port_lanes.specs.Turning.{HomeStops, NeverEmpty}
use Rattle.qp_port_lanes.proofs.Never.{never-inside, never-same, never-spilled, never-then}
use Rattle.qp_port_lanes.proofs.Resting.{home-of, more-own}
use Rattle.qp_port_lanes.proofs.Takes.{inside-none, no-take-then}
use Rattle.std.proofs.lemmas.List.{length-map}
use Rattle.std.proofs.Common.{length-append}

-- the run stops while the step waits
pub stops-waiting : (sys : System) (sound : IsSound sys) (budget : ℕ) (x : Home) (v w : LaneView) (code : ℕ) → IsBusyHome sys budget true x v → w ≡ record v { answered = code ∷ v.answered; asked = suc v.asked } → HomeStops sys budget x.me x w
stops-waiting sys sound budget x v w code h finds = record {
  ends = λ d found end early.
      let is : h.d ≡ d = some-same (sym (ap (object_at sys) h.at.me ∙ h.at.found) ∙ found) in
      subst (λ (e : ObjectDef). HomeEnds sys e budget end w.told) is
      (subst (HomeEnds sys h.d budget end) (sym (ap (λ u. u.told) finds))
      (waiting_home_ends sys h.d h.chart budget end (v.own h.d.priority) false v.told h.es h.points h.ev h.e h.left h.c (home-of sys sound h.d h.chart h.at.found h.at.its) early h.records));
  rests = λ d chart found is started calm. let wrong : true ≡ false = sym h.busy ∙ calm in absurd (cc);
}

module _ (sys : System) (sound : IsSound sys) (budget : ℕ) (waits : Bool) (x : Home) (v : LaneView) (h : IsBusyHome sys budget waits x v) where
  abbrev V : LaneView
  V = works_for x.object.me v

  abbrev home : ObjectSetting
  home = setting_for sys h.chart x.object

  abbrev k : Lasting
  k = x.object.lasting

  abbrev st : Position
  st = x.object.stage

  abbrev o : ℕ
  o = h.d.priority

  its : IsHomeOf sys h.d h.chart
  its = home-of sys sound h.d h.chart h.at.found h.at.its

  has-chart : chart_at sys x.object.chart ≡ Some h.chart
  has-chart = ap (chart_at sys) h.at.of ∙ h.at.its

  -- the object may go on
  pub may-resume : MayResume sys x.ceiling x.object V
  may-resume = record {
    at = record {
      chart = h.chart;
      is = has-chart;
      ready = subst (λ p. ObjectReady sys p h.chart) (sym h.at.object) (ready sys sound h.d h.chart h.at.found h.at.its);
      compiled = h.at.compiled;
      lane = record {
        of = h.at.lane;
        mine = refl;
        serves = ap v.serves h.at.object ∙ h.at.serves;
        told = h.at.ceiling;
        spills = h.at.spills;
      };
    };
    under_way = under-way-by home k st x.object.me v h.turn.under_way;
  }

  -- The dispatcher and the laws speak of the same.

  is-actor : actor_of x.object.me h.chart k ≡ actor h.d h.chart
  is-actor = ap (λ i. record { o = i; chart = h.chart; room = k.list.entries.capacity }) h.at.object ∙ ap (λ r. record { o = h.d.priority; chart = h.chart; room = r }) h.at.room

  event-is : step_event st V ≡ h.ev
  event-is = event-by st x.object.me v ∙ sym h.turn.event

  entry-is : step_entry st ≡ h.e
  entry-is = sym h.turn.entry

  left-is : remainder_of home k st V ≡ h.left
  left-is = left-by home k st x.object.me v ∙ sym h.turn.left

  config-is : config_of k ≡ h.c
  config-is = sym h.turn.config

  as-known : (P : System → Actor → Event → model.Entry → Remainder → Config → Type 0) → P V.sys (actor_of x.object.me h.chart k) (step_event st V) (step_entry st) (remainder_of home k st V) (config_of k)
      → P sys (actor h.d h.chart) h.ev h.e h.left h.c
  as-known P p =
      subst (λ i. P sys (actor h.d h.chart) h.ev h.e h.left i) config-is
      (subst (λ i. P sys (actor h.d h.chart) h.ev h.e i (config_of k)) left-is
      (subst (λ i. P sys (actor h.d h.chart) h.ev i (remainder_of home k st V) (config_of k)) entry-is
      (subst (λ i. P sys (actor h.d h.chart) i (step_entry st) (remainder_of home k st V) (config_of k)) event-is
      (subst (λ i. P sys i (step_event st V) (step_entry st) (remainder_of home k st V) (config_of k)) is-actor
      (subst (λ i. P i (actor_of x.object.me h.chart k) (step_event st V) (step_entry st) (remainder_of home k st V) (config_of k)) h.at.lane p)))))

  closing : closes (remainder_of home k st V).tasks ≡ true
  closing = subst (λ l. closes l.tasks ≡ true) (sym left-is) h.records.1.ready.closing

  grown : (g : List Told) (mid : LaneView) → Grows g V mid → mid.told ≡ v.told ++ map (for_object o) g
  grown g mid grows = grows.told ∙ ap (λ p. v.told ++ map (for_object p) g) h.at.object

  -- the object and its lane, behind these records
  module _ (level : ℕ) (y : Object) (mid w : LaneView) (w-is : w ≡ works_for v.by mid) (same : y ≡ record (x.object) { lasting = y.lasting; stage = y.stage }) (g : List Told) (grows : Grows g V mid) where
    told-w : v.told ++ map (for_object o) g ≡ w.told
    told-w = sym (ap (λ u. u.told) w-is ∙ grown g mid grows)

    asked-w : x.object.taken + h.points ≤ v.asked → y.taken + h.points ≤ w.asked
    asked-w free = let a = ap (λ u. u.asked) w-is in let b = grows.asked in let c = ap (λ z. z.taken) same in omega (arith, free, a, b, c)

    sys-w : w.sys ≡ sys
    sys-w = ap (λ u. u.sys) w-is ∙ grows.sys ∙ h.at.lane

    more-w : HasMore (v.own o) (w.own o)
    more-w = more-own o (map (for_object x.object.me) g) v w (ap (λ u. u.own o) w-is ∙ grows.own o)

    is-in : (b : Bool) → y.lasting.list.entries.capacity ≡ k.list.entries.capacity → list_all (is_named sys) (held_in y.lasting y.stage) ≡ true → level ≡ ceiling_in 0 mid.told → spills_told mid.told ≡ false
        → ChangeAlike (map entry_of (held_in k st)) (map entry_of (held_in y.lasting y.stage)) V mid → IsIn sys h.d h.chart (record x { object = y; ceiling = level; busy = b }) w
    is-in b room named ceiling spills alike = record {
      found = h.at.found;
      its = h.at.its;
      me = h.at.me;
      object = ap (λ z. z.me) same ∙ h.at.object;
      of = ap (λ z. z.chart) same ∙ h.at.of;
      compiled = subst (λ z. IsCompiled h.chart z.compiled) (sym same) h.at.compiled;
      room = room ∙ h.at.room;
      named = named;
      lane = sys-w;
      serves = ap (λ u. u.serves o) w-is ∙ grows.serves o ∙ h.at.serves;
      ceiling = ceiling ∙ sym (ap (λ u. ceiling_in 0 u.told) w-is);
      spills = ap (λ u. spills_told u.told) w-is ∙ spills;
      only = λ t. ap (λ u. count_of t u.hands) w-is ∙ only t;
    }
      where
        only : (t : Token) → count_of t mid.hands ≡ own_count t y
        only t = let changed = alike t in let before = h.at.only t in omega (arith, changed, before)

  -- On to its next scheduling point.
  module _ (level : ℕ) (y : Object) (mid w : LaneView) (w-is : w ≡ works_for v.by mid) (same : y ≡ record (x.object) { lasting = y.lasting; stage = y.stage }) (t : ToPoint home x.ceiling level k st y.lasting y.stage V mid) where
    abbrev due : Remainder
    due = remainder_of home y.lasting y.stage mid

    going : IsGoing home y.lasting t.going mid
    going = subst (λ z. IsUnderWay home y.lasting z mid) t.stands t.under_way

    due-tasks : due.tasks ≡ tasks_in home t.going.left
    due-tasks = ap (λ z. (remainder_of home y.lasting z mid).tasks) t.stands ∙ tasks-of t.going.left.under (tasks_in home t.going.left) t.going.leaf

    ready-due : IsReady sys (actor h.d h.chart) due (config_of y.lasting)
    ready-due = record {
      able = subst (λ ts. list_all (task_able sys true) ts ≡ true) (sym due-tasks) going.able;
      closing = closes-left V.sys (actor_of x.object.me h.chart k) (moment (step_event st V) (step_entry st)) (remainder_of home k st V) due (config_of k) (config_of y.lasting) t.g t.done closing t.split t.reaches;
      room = subst (λ i. length (kept_in y.lasting.list) ≤ i) (t.room ∙ h.at.room) going.few;
    }

    stand-point : StandAll (held_in y.lasting y.stage) mid
    stand-point = subst (λ z. StandAll (held_in y.lasting z) mid) (sym t.stands) (subst (λ es. StandAll (held_by y.lasting t.going.left.under ++ es) mid) (sym (ap hand_of going.is)) going.stand)

    named-point : list_all (is_named sys) (held_in y.lasting y.stage) ≡ true
    named-point = subst (λ z. list_all (is_named z) (held_in y.lasting y.stage) ≡ true) (t.grows.sys ∙ h.at.lane) stand-point.named

    turn-point : IsInTurn home h.ev h.e due (config_of y.lasting) y w
    turn-point = subst (λ u. IsInTurn home h.ev h.e due (config_of y.lasting) y u) (sym w-is) (record {
      started = ap (λ z. z.started) same ∙ h.turn.started;
      under_way = under-way-by home y.lasting y.stage v.by mid t.under_way;
      event = sym event-is ∙ sym t.same_event ∙ sym (event-by y.stage v.by mid);
      entry = sym entry-is ∙ sym t.same_entry;
      left = sym (left-by home y.lasting y.stage v.by mid);
      config = refl;
    })

    records-point : IsBusy sys h.d h.chart budget (w.own o) false true (v.told ++ map (for_object o) t.g) h.es (suc h.points) h.ev h.e due (config_of y.lasting)
    records-point =
        home_step_pauses sys h.d h.chart budget (v.own o) (w.own o) waits v.told h.es h.points h.ev h.e h.left due h.c (config_of y.lasting) t.g its (more-w level y mid w w-is same t.g t.grows)
        (as-known (λ s a ev e left c. StepAdvances s a ev e left c (tell t.g ++ Point ∷ []) due (config_of y.lasting)) t.advances) ready-due h.records

    pub pauses : x.object.taken + h.points ≤ v.asked → IsBusyHome sys budget true (record x { object = y; ceiling = level }) w
    pauses free = record {
      d = h.d;
      chart = h.chart;
      at = is-in level y mid w w-is same t.g t.grows x.busy t.room named-point t.lane.told t.lane.spills t.hands;
      es = h.es;
      points = suc h.points;
      ev = h.ev;
      e = h.e;
      left = due;
      c = config_of y.lasting;
      busy = h.busy;
      unseen = h.unseen;
      turn = subst (λ s. IsInTurn s h.ev h.e due (config_of y.lasting) y w) (sym (ap (setting_for sys h.chart) same)) turn-point;
      taken = ap (λ z. z.taken) same ∙ h.taken;
      records = subst (λ ts. IsBusy sys h.d h.chart budget (w.own o) false true ts h.es (suc h.points) h.ev h.e due (config_of y.lasting)) (told-w level y mid w w-is same t.g t.grows) records-point;
      asked = let kept = asked-w level y mid w w-is same t.g t.grows free in omega (arith, kept);
    }

  -- To its end.
  module _ (level : ℕ) (y : Object) (mid w : LaneView) (w-is : w ≡ works_for v.by mid) (same : y ≡ record (x.object) { lasting = y.lasting; stage = y.stage }) (t : ToEnd home x.ceiling level k st y.lasting V mid) (between : y.stage ≡ standing.Between) where
    alike-end : ChangeAlike (map entry_of (held_in k st)) (map entry_of (held_in y.lasting y.stage)) V mid
    alike-end =
        subst (λ z. ChangeAlike (map entry_of (held_in k st)) (map entry_of (held_in y.lasting z)) V mid) (sym between)
        (subst (λ es. ChangeAlike (map entry_of (held_in k st)) (map entry_of es) V mid) (sym (append-nil y.lasting.list.entries.items)) t.hands)

    named-end : list_all (is_named sys) (held_in y.lasting y.stage) ≡ true
    named-end =
        subst (λ z. list_all (is_named sys) (held_in y.lasting z) ≡ true) (sym between)
        (subst (λ es. list_all (is_named sys) es ≡ true) (sym (append-nil y.lasting.list.entries.items)) (subst (λ z. list_all (is_named z) y.lasting.list.entries.items ≡ true) (t.grows.sys ∙ h.at.lane) t.stand.named))

    records-end : HomeRests sys h.d h.chart budget (w.own o) false (v.told ++ map (for_object o) t.g) h.es h.points (config_of y.lasting)
    records-end =
        home_step_ends sys h.d h.chart budget (v.own o) (w.own o) waits v.told h.es h.points h.ev h.e h.left h.c (config_of y.lasting) t.g its (more-w level y mid w w-is same t.g t.grows)
        (as-known (λ s a ev e left c. StepGoesOn s a ev e left c (tell t.g) (Some (config_of y.lasting))) t.goes) h.records

    pub done : x.object.taken + h.points ≤ v.asked → IsHome sys budget (record x { object = y; ceiling = level; busy = false }) w
    done free = record {
      d = h.d;
      chart = h.chart;
      at = is-in level y mid w w-is same t.g t.grows false t.room named-end t.lane.told t.lane.spills alike-end;
      es = h.es;
      points = h.points;
      c = config_of y.lasting;
      calm = refl;
      rest = record { started = ap (λ z. z.started) same ∙ h.turn.started; between = between; config = refl; few = t.few };
      taken = ap (λ z. z.taken) same ∙ h.taken;
      records = subst (λ b. HomeRests sys h.d h.chart budget (w.own o) b w.told h.es h.points (config_of y.lasting)) (sym h.unseen)
          (subst (λ ts. HomeRests sys h.d h.chart budget (w.own o) false ts h.es h.points (config_of y.lasting)) (told-w level y mid w w-is same t.g t.grows) records-end);
      asked = asked-w level y mid w w-is same t.g t.grows free;
    }

  -- To the end of its lane.

  stops-with : (y : Object) (level : ℕ) (w : LaneView) (told : List ToldItem) → w.told ≡ told → ((end : ℕ) → may_cut end ≡ true → HomeEnds sys h.d budget end told) → HomeStops sys budget x.me (record x { object = y; ceiling = level }) w
  stops-with y level w told same ends = record {
    ends = λ d found end early.
        let is : h.d ≡ d = some-same (sym (ap (object_at sys) h.at.me ∙ h.at.found) ∙ found) in
        subst (λ (e : ObjectDef). HomeEnds sys e budget end w.told) is (subst (HomeEnds sys h.d budget end) (sym same) (ends end early));
    rests = λ d chart found is started calm. let wrong : true ≡ false = sym h.busy ∙ calm in absurd (cc);
  }

  asserts : (y : Object) (level : ℕ) (mid w : LaneView) → w ≡ works_for v.by mid → EndsAsserted home k st y.lasting y.stage V mid → HomeStops sys budget x.me (record x { object = y; ceiling = level }) w
  asserts y level mid w w-is a =
      stops-with y level w (v.told ++ map (for_object o) a.g) (ap (λ u. u.told) w-is ∙ ap (λ u. u.told) a.stops ∙ grown a.g a.mid a.grows)
      (λ end early. home_step_fails sys h.d h.chart budget end (v.own o) false waits v.told h.es h.points h.ev h.e h.left h.c a.g its early h.records (as-known (λ s a1 ev e left c. StepGoesOn s a1 ev e left c (tell a.g) None) a.goes))

  spills : (y : Object) (level : ℕ) (mid w : LaneView) → w ≡ works_for v.by mid → EndsSpilled home k st y.lasting y.stage V mid → HomeStops sys budget x.me (record x { object = y; ceiling = level }) w
  spills y level mid w w-is b =
      stops-with y level w (v.told ++ (map (for_object o) b.g ++ spill_told (length b.mid.told) ∷ []))
      (ap (λ u. u.told) w-is ∙ ap (λ u. u.told) b.stops ∙ b.spills.told ∙ ap (λ ts. ts ++ spill_told (length b.mid.told) ∷ []) (grown b.g b.mid b.grows) ∙ append_assoc v.told (map (for_object o) b.g) (spill_told (length b.mid.told) ∷ []))
      (λ end early.
      home_step_is_cut sys h.d h.chart budget end (v.own o) false waits v.told h.es h.points h.ev h.e h.left h.c b.g (length b.mid.told) b.begins.0 b.begins.1 its early h.records
      (cut-calm sys (actor h.d h.chart) h.ev h.e h.left h.c h.records.1.ready.closing b.g b.begins.0 b.begins.1 b.begins.3 goes) goes
      (ap length (grown b.g b.mid b.grows) ∙ length-append v.told (map (for_object o) b.g) ∙ ap (λ i. length v.told + i) (length-map b.g (for_object o))) b.few)
    where
      goes : StepGoesOn sys (actor h.d h.chart) h.ev h.e h.left h.c (tell b.g ++ b.begins.0) b.begins.1
      goes = as-known (λ s a ev e left c. StepGoesOn s a ev e left c (tell b.g ++ b.begins.0) b.begins.1) b.begins.2

  -- No look stands among the records of a step.

  cut-inside : (g : List Told) → BeginsOn V.sys (actor_of x.object.me h.chart k) (step_event st V) (step_entry st) (remainder_of home k st V) (config_of k) g → AreInside g
  cut-inside g begins =
      let closed = h.records.1.ready.closing in
      let goes = as-known (λ s a ev e left c. StepGoesOn s a ev e left c (tell g ++ begins.0) begins.1) begins.2 in
      by (cut-form sys (actor h.d h.chart) h.ev h.e h.left h.c closed g begins.0 begins.1 (cut-calm sys (actor h.d h.chart) h.ev h.e h.left h.c closed g begins.0 begins.1 begins.3 goes) goes)
    where
      by : CutForm g → AreInside g
      by (WithinIt own) = own-inside g own
      by (BehindIt front rel whole own drops) = subst AreInside (sym whole) (inside-then front (plain body.Done ∷ rel) (own-inside front own) (refl, drops-inside rel drops))

  pub never-step : (level : ℕ) (y : Object) (w : LaneView) (answer : Step) → ObjectResumes sys x.ceiling level x.object y v w answer → NeverEmpty v w
  never-step level y w answer r = by answer r.0 (subst (λ c. ResumesAs c sys x.ceiling level x.object y V r.0 answer) has-chart r.1) r.2
    where
      by : (answer : Step) (mid : LaneView) → ResumesAs (Some h.chart) sys x.ceiling level x.object y V mid answer → w ≡ works_for v.by mid → NeverEmpty v w
      by step.Point mid (same, t) is =
          never-inside o t.g v w (ap (λ u. u.told) is ∙ grown t.g mid t.grows)
          (point-inside sys h.d h.chart its.some waits v.told h.es h.points h.ev h.e h.left h.c h.records.1 (due level y mid w is same t) (config_of y.lasting) t.g
          (as-known (λ s a ev e left c. StepAdvances s a ev e left c (tell t.g ++ Point ∷ []) (due level y mid w is same t) (config_of y.lasting)) t.advances) (ready-due level y mid w is same t)).0
      by step.Done mid (same, t) is =
          never-inside o t.1.g v w (ap (λ u. u.told) is ∙ grown t.1.g mid t.1.grows)
          (done-inside t.1.g
          (done-form sys (actor h.d h.chart) h.ev h.e h.left h.c h.records.1.ready.closing t.1.g (config_of y.lasting)
          (as-known (λ s a ev e left c. StepGoesOn s a ev e left c (tell t.1.g) (Some (config_of y.lasting))) t.1.goes)))
      by step.Stopped mid (same, inl a) is =
          never-inside o a.g v w (ap (λ u. u.told) is ∙ ap (λ u. u.told) a.stops ∙ grown a.g a.mid a.grows)
          (own-inside a.g
          (failed-form sys (actor h.d h.chart) h.ev h.e h.left h.c h.records.1.ready.closing o a.g (as-known (λ s a1 ev e left c. StepGoesOn s a1 ev e left c (tell a.g) None) a.goes)).own)
      by step.Stopped mid (same, inr b) is =
          never-then v b.mid w (never-inside o b.g v b.mid (grown b.g b.mid b.grows) (cut-inside b.g b.begins))
          (never-spilled (length b.mid.told) b.mid w (ap (λ u. u.told) is ∙ ap (λ u. u.told) b.stops ∙ b.spills.told))
      by step.Memory mid (same, t) is =
          never-then v t.mid w (never-inside o t.g v t.mid (grown t.g t.mid t.grows) (cut-inside t.g t.begins)) (never-same t.mid w (ap (λ u. u.told) is ∙ ap (λ u. u.told) t.dry.stops))

  -- what going on comes to
  abbrev pub AfterStep : ℕ → Object → LaneView → Step → Type 0
  AfterStep level y w step.Point = IsBusyHome sys budget true (record x { object = y; ceiling = level }) w
  AfterStep level y w step.Done = IsHome sys budget (record x { object = y; ceiling = level; busy = false }) w
  AfterStep level y w step.Stopped = HomeStops sys budget x.me (record x { object = y; ceiling = level }) w
  AfterStep level y w step.Memory = Unit {0}

  pub after-step : x.object.taken + h.points ≤ v.asked → (level : ℕ) (y : Object) (w : LaneView) (answer : Step) → ObjectResumes sys x.ceiling level x.object y v w answer → AfterStep level y w answer
  after-step free level y w answer r = by answer r.0 (subst (λ c. ResumesAs c sys x.ceiling level x.object y V r.0 answer) has-chart r.1) r.2
    where
      by : (answer : Step) (mid : LaneView) → ResumesAs (Some h.chart) sys x.ceiling level x.object y V mid answer → w ≡ works_for v.by mid → AfterStep level y w answer
      by step.Point mid (same, t) is = pauses level y mid w is same t free
      by step.Done mid (same, t) is = done level y mid w is same t.1 t.0 free
      by step.Stopped mid (same, inl a) is = asserts y level mid w is a
      by step.Stopped mid (same, inr b) is = spills y level mid w is b
      by step.Memory mid (same, t) is = tt

  -- No entry is taken up.
  pub taken-step : (level : ℕ) (y : Object) (w : LaneView) (answer : Step) → ObjectResumes sys x.ceiling level x.object y v w answer → y.taken ≡ x.object.taken
  taken-step level y w answer r = by answer r.0 (subst (λ c. ResumesAs c sys x.ceiling level x.object y V r.0 answer) has-chart r.1)
    where
      by : (answer : Step) (mid : LaneView) → ResumesAs (Some h.chart) sys x.ceiling level x.object y V mid answer → y.taken ≡ x.object.taken
      by step.Point mid (same, t) = ap (λ z. z.taken) same
      by step.Done mid (same, t) = ap (λ z. z.taken) same
      by step.Stopped mid (same, t) = ap (λ z. z.taken) same
      by step.Memory mid (same, t) = ap (λ z. z.taken) same

  -- No record of a take comes.

  inside-takes : (g : List Told) (mid : LaneView) (new : List ToldItem) → new ≡ mid.told → Grows g V mid → AreInside g → AddsNoTake v.told new
  inside-takes g mid new same grows inside = record { ts = map (for_object o) g; told = same ∙ grown g mid grows; none = inside-none o g inside }

  pub step-takes : (level : ℕ) (y : Object) (w : LaneView) (answer : Step) → ObjectResumes sys x.ceiling level x.object y v w answer → AddsNoTake v.told w.told
  step-takes level y w answer r = by answer r.0 (subst (λ c. ResumesAs c sys x.ceiling level x.object y V r.0 answer) has-chart r.1) r.2
    where
      by : (answer : Step) (mid : LaneView) → ResumesAs (Some h.chart) sys x.ceiling level x.object y V mid answer → w ≡ works_for v.by mid → AddsNoTake v.told w.told
      by step.Point mid (same, t) is =
          inside-takes t.g mid w.told (ap (λ u. u.told) is) t.grows
          (point-inside sys h.d h.chart its.some waits v.told h.es h.points h.ev h.e h.left h.c h.records.1 (due level y mid w is same t) (config_of y.lasting) t.g
          (as-known (λ s a ev e left c. StepAdvances s a ev e left c (tell t.g ++ Point ∷ []) (due level y mid w is same t) (config_of y.lasting)) t.advances) (ready-due level y mid w is same t)).0
      by step.Done mid (same, t) is =
          inside-takes t.1.g mid w.told (ap (λ u. u.told) is) t.1.grows
          (done-inside t.1.g
          (done-form sys (actor h.d h.chart) h.ev h.e h.left h.c h.records.1.ready.closing t.1.g (config_of y.lasting)
          (as-known (λ s a ev e left c. StepGoesOn s a ev e left c (tell t.1.g) (Some (config_of y.lasting))) t.1.goes)))
      by step.Stopped mid (same, inl a) is =
          inside-takes a.g a.mid w.told (ap (λ u. u.told) is ∙ ap (λ u. u.told) a.stops) a.grows
          (own-inside a.g
          (failed-form sys (actor h.d h.chart) h.ev h.e h.left h.c h.records.1.ready.closing o a.g (as-known (λ s a1 ev e left c. StepGoesOn s a1 ev e left c (tell a.g) None) a.goes)).own)
      by step.Stopped mid (same, inr b) is =
          no-take-then v.told b.mid.told w.told (inside-takes b.g b.mid b.mid.told refl b.grows (cut-inside b.g b.begins))
          (record { ts = spill_told (length b.mid.told) ∷ []; told = ap (λ u. u.told) is ∙ ap (λ u. u.told) b.stops ∙ b.spills.told; none = refl })
      by step.Memory mid (same, t) is = inside-takes t.g t.mid w.told (ap (λ u. u.told) is ∙ ap (λ u. u.told) t.dry.stops) t.grows (cut-inside t.g t.begins)
