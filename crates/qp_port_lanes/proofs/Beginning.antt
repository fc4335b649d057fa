-- The step of an object begins with the entry that its lane has taken.
use Rattle.std.proofs.Common.{◌≡◌, ℕ, suc, ◌+◌, ◌<◌, ◌≤◌, true, false, [], ◌∷◌, ◌++◌, map, refl, sym, ◌∙◌, ap, subst, arith, append-nil, length-append}
use Rattle.std.specs.List.{list_all}
use Rattle.qp_model.specs.declared.systems.System.{System}
use Rattle.qp_model.specs.Course.{actor}
use Rattle.qp_model.specs.Sound.{IsSound}
use Rattle.qp_model.specs.Step.{whole_step}
use Rattle.qp_model.specs.Told.{Event, for_object, told_took}
use Rattle.qp_calls.specs.declared.tokens.HeldEntry.{HeldEntry}
use Rattle.qp_calls.specs.Clauses.{TakesIt, entry_of}
use Rattle.qp_calls.specs.Counting.{count_of}
use Rattle.qp_calls.specs.Deferring.{ChangeAlike, StandAll, is_named}
use Rattle.qp_calls.specs.LaneView.{LaneView, ceiling_in}
use Rattle.qp_calls.specs.Tokens.{Token}
use Rattle.qp_dispatch.specs.declared.lasting.Lasting.{Lasting}
use Rattle.qp_dispatch.specs.declared.objects.Object.{Object}
use Rattle.qp_dispatch.specs.Lasts.{actor_of, config_of}
use Rattle.qp_dispatch.specs.Objects.{BeginsStep, setting_for}
use Rattle.qp_dispatch.specs.Resume.{IsTaken, event_in_hand, held_in}
use Rattle.qp_dispatch.proofs.Quiet.{spills-append}
use Rattle.qp_dispatch.proofs.Taking.{taken-is}
use Rattle.qp_kernel_turns.specs.Knowing.{IsInTurn, own_count}
use Rattle.qp_port_law.specs.HomeLaws.{IsBusy}
use Rattle.qp_port_law.proofs.HomeGrows.{not-looked}
use Rattle.qp_port_law.proofs.HomeLaws.{home_step_begins}
use Rattle.qp_port_lanes.specs.declared.home.Home.{Home}
use Rattle.qp_port_lanes.specs.At.{IsBusyHome, IsHome}
use Rattle.qp_port_lanes.proofs.Resting.{home-of, more-own}
use Rattle.qp_kernel_turns.proofs.Visiting.{taken-alike, event-is, took-ceiling}

module _ (sys : System) (sound : IsSound sys) (budget : ℕ) (x : Home) (v w : LaneView) (e : HeldEntry) (y : Object) (h : IsHome sys budget x v) (few : x.object.taken < budget) (takes : TakesIt x.me e v w)
    (begins : BeginsStep e x.object y) (more : suc (x.object.taken + h.points) ≤ v.asked) where
  abbrev o : ℕ
  o = h.d.priority

  abbrev k : Lasting
  k = x.object.lasting

  abbrev ev : Event
  ev = w.event (entry_of e)

  -- the deferred entries stand in the hands
  stand-before : StandAll k.list.entries.items v
  stand-before = subst (λ es. StandAll es v) (append-nil k.list.entries.items) (subst (λ st. StandAll (held_in k st) v) h.rest.between all)
    where
      all : StandAll (held_in k x.object.stage) v
      all = record { named = subst (λ s. list_all (is_named s) (held_in k x.object.stage) ≡ true) (sym h.at.lane) h.at.named; counts = λ t. let same = h.at.only t in omega (arith, same) }

  is-taken : IsTaken k e w
  is-taken = taken-is k x.me e v w stand-before h.rest.few takes

  sys-w : w.sys ≡ sys
  sys-w = takes.adds.grows.sys ∙ h.at.lane

  only : (t : Token) → count_of t w.hands ≡ own_count t y
  only t = let changed = alike t in let before = h.at.only t in omega (arith, changed, before)
    where
      alike : ChangeAlike (map entry_of (held_in k x.object.stage)) (map entry_of (held_in y.lasting y.stage)) v w
      alike = rw (begins, h.rest.between) (taken-alike k x.me e v w takes)

  turn : IsInTurn (setting_for sys h.chart y) ev (entry_of e) (whole_step (actor h.d h.chart) h.c ev) h.c y w
  turn = rw begins (record {
    started = h.rest.started;
    under_way = is-taken;
    event = event-is e w takes.fixed;
    entry = refl;
    left = lefts;
    config = h.rest.config;
  })
    where
      lefts : whole_step (actor h.d h.chart) h.c ev ≡ whole_step (actor_of x.object.me h.chart k) (config_of k) (event_in_hand e w)
      lefts =
          ap (λ i. whole_step (record { o = i; chart = h.chart; room = h.d.defer }) h.c ev) (sym h.at.object)
          ∙ ap (λ r. whole_step (record { o = x.object.me; chart = h.chart; room = r }) h.c ev) (sym h.at.room)
          ∙ ap (λ c. whole_step (actor_of x.object.me h.chart k) c ev) h.rest.config
          ∙ ap (λ i. whole_step (actor_of x.object.me h.chart k) (config_of k) i) (event-is e w takes.fixed)

  told-w : v.told ++ for_object o (told_took takes.f takes.l takes.m (entry_of e) ev) ∷ [] ≡ w.told
  told-w = ap (λ p. v.told ++ for_object p (told_took takes.f takes.l takes.m (entry_of e) ev) ∷ []) (sym h.at.me) ∙ sym takes.adds.grows.told

  records : IsBusy sys h.d h.chart budget (w.own o) false false (v.told ++ for_object o (told_took takes.f takes.l takes.m (entry_of e) ev) ∷ []) (h.es ++ entry_of e ∷ []) h.points ev (entry_of e) (whole_step (actor h.d h.chart) h.c ev) h.c
  records =
      home_step_begins sys h.d h.chart budget (v.own o) (w.own o) x.looked v.told h.es h.points h.c takes.f takes.l takes.m (entry_of e) ev (home-of sys sound h.d h.chart h.at.found h.at.its)
      (more-own o (for_object x.me (told_took takes.f takes.l takes.m (entry_of e) ev) ∷ []) v w (takes.adds.grows.own o)) (let count = h.taken in omega (arith, few, count)) h.records

  pub begun : IsBusyHome sys budget false (record x { object = y; busy = true }) w
  begun = record {
    d = h.d;
    chart = h.chart;
    at = record {
      found = h.at.found;
      its = h.at.its;
      me = h.at.me;
      object = rw begins h.at.object;
      of = rw begins h.at.of;
      compiled = rw begins h.at.compiled;
      room = rw begins h.at.room;
      named = rw begins (subst (λ s. list_all (is_named s) (k.list.entries.items ++ e ∷ []) ≡ true) sys-w is-taken.stand.named);
      lane = sys-w;
      serves = takes.adds.grows.serves o ∙ h.at.serves;
      ceiling = h.at.ceiling ∙ sym (ap (ceiling_in 0) takes.adds.grows.told ∙ took-ceiling v.told takes.f takes.l takes.m (entry_of e) ev x.me);
      spills = rw takes.adds.grows.told (spills-append x.me v.told (told_took takes.f takes.l takes.m (entry_of e) ev ∷ []) h.at.spills refl);
      only = only;
    };
    es = h.es ++ entry_of e ∷ [];
    points = h.points;
    ev = ev;
    e = entry_of e;
    left = whole_step (actor h.d h.chart) h.c ev;
    c = h.c;
    busy = refl;
    unseen = not-looked o budget (v.own o) x.looked v.told h.es h.records.0 (let count = h.taken in omega (arith, few, count));
    turn = turn;
    taken = rw begins (ap (λ n. n + 1) h.taken ∙ sym (length-append h.es (entry_of e ∷ [])));
    records = subst (λ ts. IsBusy sys h.d h.chart budget (w.own o) false false ts (h.es ++ entry_of e ∷ []) h.points ev (entry_of e) (whole_step (actor h.d h.chart) h.c ev) h.c) told-w records;
    asked = rw begins (let same = takes.adds.grows.asked in omega (arith, more, same));
  }
