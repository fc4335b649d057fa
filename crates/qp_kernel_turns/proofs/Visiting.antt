-- An object whose queue is seen with an entry.
use Rattle.std.proofs.Common.{◌≡◌, ℕ, ◌+◌, ◌<◌, ◌≤◌, ◌==◌, cond, Bool, true, false, ◌||◌, List, [], ◌∷◌, ◌++◌, map, length, refl, sym, ◌∙◌, ap, subst, Some, arith, append-nil, length-append}
use Rattle.std.specs.List.{list_all}
use Rattle.std.proofs.lemmas.List.{map-append, reverse-append}
use Rattle.std.proofs.lemmas.Bool.Decides.{nat_tests}
use Rattle.qp_chart.specs.StateTree.{has}
use Rattle.qp_model.specs.declared.systems.System.{System}
use Rattle.qp_model.specs.declared.systems.ObjectDef.{ObjectDef}
use Rattle.qp_model.specs.declared.bodies.Entry as model
use Rattle.qp_model.specs.declared.bodies.Body.TheVariants as body
use Rattle.qp_model.specs.Acts.{Config}
use Rattle.qp_model.specs.Course.{actor}
use Rattle.qp_model.specs.Ends.{may_cut}
use Rattle.qp_model.specs.KernelLane.{Chosen, Inside}
use Rattle.qp_model.specs.Sites.{object_at}
use Rattle.qp_model.specs.Sound.{IsSound}
use Rattle.qp_model.specs.Step.{whole_step}
use Rattle.qp_model.specs.Told.{Event, ToldItem, for_object, plain, told_took}
use Rattle.qp_model_order.specs.RunOrder.{has_stim}
use Rattle.qp_calls.specs.Clauses.{EventIs, TakesIt, entry_of}
use Rattle.qp_calls.specs.Counting.{count_of}
use Rattle.qp_calls.specs.Deferring.{ChangeAlike, StandAll, is_named, tokens_in}
use Rattle.qp_calls.specs.LaneView.{LaneView, ceiling_in}
use Rattle.qp_calls.specs.Notes.{spills_told}
use Rattle.qp_calls.specs.declared.tokens.HeldEntry.{HeldEntry}
use Rattle.qp_calls.specs.declared.tokens.HeldEntry.TheVariants as token
use Rattle.qp_calls.proofs.CountLemmas.{count-with, tokens-append, taken-hands}
use Rattle.qp_calls.proofs.NoteLemmas.{ceiling-append}
use Rattle.qp_dispatch.specs.declared.lasting.Lasting.{Lasting}
use Rattle.qp_dispatch.specs.declared.steps.Position.TheVariants as standing
use Rattle.qp_dispatch.specs.Lasts.{actor_of, config_of}
use Rattle.qp_dispatch.specs.Objects.{BeginsStep, setting_for}
use Rattle.qp_dispatch.specs.Resume.{IsTaken, event_in_hand, held_in}
use Rattle.qp_dispatch.proofs.Quiet.{spills-append}
use Rattle.qp_dispatch.proofs.Taking.{taken-is}
use Rattle.qp_kernel.specs.Happenings.{lanes_of}
use Rattle.qp_kernel.specs.Stages as stage
use Rattle.qp_kernel.specs.Stages.{Stage, is_resting}
use Rattle.qp_kernel.specs.Turning.{IsObject, KernelState, Stands, having, moved, seen_told, Terms}
use Rattle.qp_kernel.proofs.KernelLaws.{budget_ends, entry_is_seen, step_begins}
use Rattle.qp_kernel_turns.specs.BaseRows.{HasStep, InRow, SameRow, reading_in}
use Rattle.qp_kernel_turns.specs.declared.objects.Objects.{Objects}
use Rattle.qp_kernel_turns.specs.declared.objects.Slot.{Slot}
use Rattle.qp_kernel_turns.specs.Objects.{IsAt, IsSlotPut}
use Rattle.qp_kernel_turns.specs.Knowing.{HandsCover, HandsFollow, IsAtRest, IsInTurn, IsLane, IsObjectWithChart, IsObjectAt, IsRunning, IsScanning, Knows, KnowsAt, KnowsObject, StageIs, is_busy, is_paused}
use Rattle.qp_kernel_turns.proofs.BaseRows.{reading-is}
use Rattle.qp_kernel_turns.proofs.Ends.{EndsFew}
use Rattle.qp_kernel_turns.proofs.Places.{cover-follows, follow-put, own-stand}
use Rattle.qp_kernel_turns.proofs.SoundObjects.{able, numbered}
use Rattle.qp_kernel_turns.proofs.Rows.{above-not}
use Rattle.qp_kernel_turns.proofs.Staying.{all-put, all-wait}
use Rattle.qp_kernel_turns.proofs.Halted.{agreed, last-told, same-lanes}
use Rattle.qp_kernel_turns.proofs.Looking.{looks-at}

-- an object at rest has a configuration
pub resting-is : (s : Stage) → is_resting s ≡ true → (c : Config) × (s ≡ stage.Resting c)
resting-is (stage.Resting c) h = (c, refl)
resting-is stage.Unstarted h = absurd (cc)
resting-is (stage.Begun ev e left c) h = absurd (cc)
resting-is (stage.Paused ev e left c) h = absurd (cc)

pub self-moved : (stages : ℕ → Stage) (p : ℕ) (s : Stage) → moved stages p s p ≡ s
self-moved stages p s = let self : (p == p) ≡ true = grind (arith, nat_tests) in rw self refl

pub taken-alike : (k : Lasting) (me : ℕ) (e : HeldEntry) (v w : LaneView) → TakesIt me e v w → ChangeAlike (map entry_of (held_in k standing.Between)) (map entry_of (held_in k (standing.Taken e))) v w
taken-alike k me e v w t x =
    let hands : count_of x w.hands ≡ _ = ap (count_of x) (taken-hands me e v w t) ∙ count-with x (entry_of e) v.hands in
    let old : count_of x (tokens_in (map entry_of (k.list.entries.items ++ []))) ≡ count_of x (tokens_in (map entry_of k.list.entries.items)) = ap (λ es. count_of x (tokens_in (map entry_of es))) (append-nil k.list.entries.items) in
    let new : count_of x (tokens_in (map entry_of (k.list.entries.items ++ e ∷ []))) ≡ _ =
    ap (λ es. count_of x (tokens_in es)) (map-append entry_of k.list.entries.items (e ∷ [])) ∙ tokens-append x (map entry_of k.list.entries.items) (entry_of e) in
    omega (arith, hands, old, new)

pub event-is : (e : HeldEntry) (w : LaneView) → EventIs e w → w.event (entry_of e) ≡ event_in_hand e w
unfolding entry_of
event-is (token.Static sig) w h = h
event-is (token.Pool x) w h = refl

pub took-ceiling : (told : List ToldItem) (f l m : ℕ) (e : model.Entry) (ev : Event) (p : ℕ) → ceiling_in 0 (told ++ for_object p (told_took f l m e ev) ∷ []) ≡ ceiling_in 0 told
unfolding ceiling_in
took-ceiling told f l m e ev p = ceiling-append 0 told (for_object p (told_took f l m e ev) ∷ [])

took-spills : (told : List ToldItem) (f l m : ℕ) (e : model.Entry) (ev : Event) (p : ℕ) → spills_told told ≡ false → spills_told (told ++ for_object p (told_took f l m e ev) ∷ []) ≡ false
took-spills told f l m e ev p none = spills-append p told (told_took f l m e ev ∷ []) none refl

module _ (sys : System) (sound : IsSound sys) (terms : Terms) (looks : ℕ) (stack : List ℕ) (xs : Objects) (v : LaneView) (p : ℕ) (others : List ℕ) (f l m : ℕ)
    (k : Knows sys terms looks stack xs v) (at : IsScanning sys terms (p ∷ others) k.state) (some : m < f + l) where
  abbrev n : IsObjectWithChart sys p
  n = at.above.0.0

  abbrev s : KernelState
  s = k.state

  pub object-is : IsObject sys p n.object n.chart
  object-is = record { priority = n.is; found = n.found; its = n.its }

  positive : 0 < p
  positive = let one = numbered sys sound n.object n.found in omega (arith, n.is, one)

  pub apart : has s.reading.running p ≡ false
  apart = above-not p s.reading.running at.above.0.1

  abbrev its : KnowsObject sys n.object n.chart xs v (s.stages n.object.priority) (length (s.entries n.object.priority))
  its = k.objects n.object n.chart n.found n.its

  rests-at : is_resting (s.stages n.object.priority) ≡ true
  rests-at = at.stack.rests n.object n.found (ap (has s.reading.running) n.is ∙ apart)

  rests : is_resting (s.stages p) ≡ true
  rests = subst (λ x. is_resting (s.stages x) ≡ true) n.is rests-at

  pub at-place : IsAt xs p its.slot
  at-place = subst (λ x. IsAt xs x its.slot) n.is its.there

  -- how many entries it has taken up
  pub counted : its.slot.object.taken ≡ length (s.entries p)
  counted = its.is.taken ∙ ap (λ x. length (s.entries x)) n.is

  pub config : (c : Config) × (s.stages p ≡ stage.Resting c)
  config = resting-is (s.stages p) rests

  pub at-rest : IsAtRest config.0 its.slot.object
  at-rest = subst (λ x. StageIs sys n.object n.chart its.slot.object v x) (ap s.stages n.is ∙ config.1) its.is.stage

  -- it has taken its budget
  pub spent-ends : (w : LaneView) → lanes_of w ≡ lanes_of v → terms.budget ≤ its.slot.object.taken → w.told ≡ v.told ++ seen_told p f l m ∷ for_object p (plain body.Spent) ∷ []
      → (end : ℕ) → may_cut end ≡ true → EndsFew sys terms end s.reading.idle w.told (has_stim (lanes_of w))
  spent-ends w lanes full told end cut =
      let most = k.stands.budgets p in
      let now : s.now ≡ has_stim (lanes_of w) = k.now ∙ ap has_stim (sym lanes) in
      subst (λ ts. EndsFew sys terms end s.reading.idle ts (has_stim (lanes_of w))) (ap (λ ts. ts ++ seen_told p f l m ∷ for_object p (plain body.Spent) ∷ []) k.told ∙ sym told)
      (budget_ends sys terms end s (has_stim (lanes_of w)) p others f l m (numbered sys sound) (able sys sound) k.stands (agreed s (has_stim (lanes_of w)) now) cut at.owed at.stack.started
      (looks-at sys sound terms looks stack xs v w p others f l m k at lanes) some (omega (arith, most, full, counted)) positive rests (all-wait sys s at.stack))

  -- the row has gone on to it
  pub row-was : (u : LaneView) → InRow sys terms (p ∷ others) u v → SameRow (reading_in sys terms u) s.reading
  row-was u r =
      let was = reading-is sys terms s v k.stands k.told k.now in
      record { stepped = ap (λ x. x.stepped) (sym was ∙ r.same) ∙ r.row.stepped; idle = ap (λ x. x.idle) (sym was ∙ r.same) ∙ r.row.idle }

  -- the entry is seen
  abbrev pub found : KernelState
  found = record s { told = s.told ++ seen_told p f l m ∷ []; reading = record (s.reading) { place = Chosen p } }

  pub found-stands : Stands sys terms found
  found-stands = entry_is_seen sys terms s p others f l m (numbered sys sound) k.stands at.owed at.stack.started (looks-at sys sound terms looks stack xs v v p others f l m k at refl) some

  -- it takes its entry up
  module _ (w z : LaneView) (e : HeldEntry) (ys : Objects) (later : Slot) (seen : w.told ≡ v.told ++ seen_told p f l m ∷ []) (same-hands : w.hands ≡ v.hands) (same-sys : w.sys ≡ v.sys) (lanes-w : lanes_of w ≡ lanes_of v)
      (lane-w : IsLane sys xs.ceiling w) (takes : TakesIt p e w z) (few : its.slot.object.taken < terms.budget) (put : IsSlotPut xs ys p later) (threshold : later.threshold ≡ its.slot.threshold)
      (begins : BeginsStep e its.slot.object later.object) where
    abbrev c : Config
    c = config.0

    abbrev ev : Event
    ev = z.event (entry_of e)

    abbrev begun : Stage
    begun = stage.Begun ev (entry_of e) (whole_step (actor n.object n.chart) c ev) c

    abbrev taken-up : List model.Entry
    taken-up = s.entries p ++ entry_of e ∷ []

    abbrev after : KernelState
    after = record found {
      told = found.told ++ for_object p (told_took takes.f takes.l takes.m (entry_of e) ev) ∷ [];
      reading = record (found.reading) { running = p ∷ s.reading.running; place = Inside; stepped = true };
      stages = moved s.stages p begun;
      entries = having s.entries p taken-up;
    }

    after-stands : Stands sys terms after
    after-stands =
        step_begins sys terms found p n.object n.chart takes.f takes.l takes.m (entry_of e) ev c (numbered sys sound) (able sys sound) object-is positive found-stands at.owed at.stack.started refl config.1
        (omega (arith, few, counted))

    alike : ChangeAlike (map entry_of (held_in its.slot.object.lasting its.slot.object.stage)) (map entry_of (held_in later.object.lasting later.object.stage)) w z
    alike = rw (begins, at-rest.between) (taken-alike its.slot.object.lasting p e w z takes)

    pub follows : HandsFollow xs v ys z
    follows =
        let here = follow-put xs ys p its.slot later w z at-place put.slots alike in
        record {
          counts = λ t.
              let now = here.counts t in
              let same : count_of t w.hands ≡ count_of t v.hands = ap (count_of t) same-hands in
              omega (arith, now, same);
          seats = here.seats;
        }

    cover : HandsCover ys z
    cover = cover-follows xs ys v z k.hands follows

    stand-before : StandAll its.slot.object.lasting.list.entries.items w
    stand-before =
        let all = own-stand sys xs p its.slot w (λ t. rw same-hands (k.hands t)) at-place (same-sys ∙ k.lane.of) its.is.named in
        subst (λ es. StandAll es w) (append-nil its.slot.object.lasting.list.entries.items) (subst (λ st. StandAll (held_in its.slot.object.lasting st) w) at-rest.between all)

    is-taken : IsTaken its.slot.object.lasting e z
    is-taken = taken-is its.slot.object.lasting p e w z stand-before at-rest.few takes

    z-sys : z.sys ≡ sys
    z-sys = takes.adds.grows.sys ∙ same-sys ∙ k.lane.of

    turn : IsInTurn (setting_for sys n.chart later.object) ev (entry_of e) (whole_step (actor n.object n.chart) c ev) c later.object z
    turn = rw begins (record {
      started = at-rest.started;
      under_way = is-taken;
      event = event-is e z takes.fixed;
      entry = refl;
      left = lefts;
      config = at-rest.config;
    })
      where
        lefts : whole_step (actor n.object n.chart) c ev ≡ whole_step (actor_of its.slot.object.me n.chart its.slot.object.lasting) (config_of its.slot.object.lasting) (event_in_hand e z)
        lefts =
            ap (λ o. whole_step (record { o = o; chart = n.chart; room = n.object.defer }) c ev) (sym its.is.me)
            ∙ ap (λ r. whole_step (record { o = its.slot.object.me; chart = n.chart; room = r }) c ev) (sym its.is.room)
            ∙ ap (λ x. whole_step (actor_of its.slot.object.me n.chart its.slot.object.lasting) x ev) at-rest.config
            ∙ ap (λ x. whole_step (actor_of its.slot.object.me n.chart its.slot.object.lasting) (config_of its.slot.object.lasting) x) (event-is e z takes.fixed)

    object-later : IsObjectAt sys n.object n.chart later z begun (length taken-up)
    object-later = record {
      threshold = threshold ∙ its.is.threshold;
      me = rw begins its.is.me;
      of = rw begins its.is.of;
      compiled = rw begins its.is.compiled;
      room = rw begins its.is.room;
      named = rw begins (subst (λ y. list_all (is_named y) (its.slot.object.lasting.list.entries.items ++ e ∷ []) ≡ true) z-sys is-taken.stand.named);
      taken = rw begins (ap (λ x. x + 1) counted ∙ sym (length-append (s.entries p) (entry_of e ∷ [])));
      stage = turn;
    }

    lane-z : IsLane sys ys.ceiling z
    lane-z = record {
      of = z-sys;
      told = put.ceiling ∙ lane-w.told ∙ sym same-ceiling;
      spills = no-spill;
      serves = λ d found. takes.adds.grows.serves d.priority ∙ lane-w.serves d found;
    }
      where
        same-ceiling : ceiling_in 0 z.told ≡ ceiling_in 0 w.told
        same-ceiling = rw takes.adds.grows.told (took-ceiling w.told takes.f takes.l takes.m (entry_of e) ev p)

        no-spill : spills_told z.told ≡ false
        no-spill = rw takes.adds.grows.told (took-spills w.told takes.f takes.l takes.m (entry_of e) ev p lane-w.spills)

    lanes-z : lanes_of z ≡ lanes_of v
    lanes-z = same-lanes w z takes.adds.grows.plan takes.adds.grows.happened ∙ lanes-w

    told-after : after.told ≡ z.told
    told-after =
        ap (λ ts. (ts ++ seen_told p f l m ∷ []) ++ for_object p (told_took takes.f takes.l takes.m (entry_of e) ev) ∷ []) k.told
        ∙ ap (λ ts. ts ++ for_object p (told_took takes.f takes.l takes.m (entry_of e) ev) ∷ []) (sym seen) ∙ sym takes.adds.grows.told

    now-after : s.now ≡ has_stim (lanes_of z)
    now-after = k.now ∙ ap has_stim (sym lanes-z)

    -- and the row has a step
    pub entered-row : (u : LaneView) → InRow sys terms (p ∷ others) u v → HasStep (reading_in sys terms u) (reading_in sys terms z)
    entered-row u r =
        let is = reading-is sys terms after z after-stands told-after now-after in
        record { stepped = ap (λ x. x.stepped) is; idle = ap (λ x. x.idle) is ∙ (row-was u r).idle }

    -- its step is under way
    pub entered : KnowsAt (IsRunning sys p) sys terms looks (stack ++ p ∷ []) ys z
    entered = record {
      knows = record {
        state = after;
        told = told-after;
        stands = after-stands;
        counted = k.counted;
        ceiling = k.ceiling ∙ sym put.ceiling;
        lane = lane-z;
        running = ap (λ ps. p ∷ ps) k.running ∙ sym (reverse-append stack (p ∷ []));
        settled = k.settled;
        now = now-after;
        later = λ i lt. ap (λ x. has_stim x i) lanes-z ∙ k.later i lt;
        objects = all-put sys xs ys v z s.stages s.entries p n.object n.chart its.slot later begun taken-up n.is n.found n.its (takes.adds.grows.sys ∙ same-sys) k.lane.of cover at-place put.slots
            (λ d found other. all-wait sys s at.stack d found) object-later k.objects;
        hands = cover;
      };
      at = record {
        outer = s.reading.running;
        stack = record {
          started = at.stack.started;
          named = (n, at.stack.named);
          descends = (at.above.0.1, at.stack.descends);
          rests = λ d found none. rest-of d found none;
          waits = λ o is. wait-of o is;
        };
        owed = at.owed;
        step = record { started = at.stack.started; running = refl; inside = refl };
        under_way = ap is_busy (self-moved s.stages p begun);
        behind = λ none. last-told p (s.told ++ seen_told p f l m ∷ []) (told_took takes.f takes.l takes.m (entry_of e) ev);
      };
    }
      where
        rest-of : (d : ObjectDef) → object_at sys d.priority ≡ Some d → ((p == d.priority) || has s.reading.running d.priority) ≡ false → is_resting (moved s.stages p begun d.priority) ≡ true
        rest-of d found none = by (p == d.priority) none
          where
            by : (b : Bool) → (b || has s.reading.running d.priority) ≡ false → is_resting (cond b begun (s.stages d.priority)) ≡ true
            by true h = absurd (cc)
            by false h = at.stack.rests d found h

        wait-of : (o : ℕ) → has s.reading.running o ≡ true → is_paused (moved s.stages p begun o) ≡ true
        wait-of o is = by (p == o) refl
          where
            by : (b : Bool) → (p == o) ≡ b → is_paused (cond b begun (s.stages o)) ≡ true
            by true same =
                let equal : p ≡ o = grind (arith, nat_tests) in
                let wrong : has s.reading.running p ≡ true = subst (λ x. has s.reading.running x ≡ true) (sym equal) is in
                let never : true ≡ false = sym wrong ∙ apart in absurd (cc)
            by false other = at.stack.waits o is
