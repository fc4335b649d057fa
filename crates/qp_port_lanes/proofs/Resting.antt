-- An object at rest: its queue is found empty, or its lane ends.
use Rattle.std.proofs.Common.{◌≡◌, ℕ, suc, ◌+◌, ◌<◌, ◌≤◌, ◌==◌, nat_le, Bool, true, false, ◌&&◌, List, [], ◌∷◌, ◌++◌, length, refl, sym, ◌∙◌, ap, subst, inl, inr, Some, arith, append-nil, append_assoc, IsTrue}
use Rattle.std.specs.Bool.{MatchBool}
use Rattle.std.proofs.lemmas.Bool.{and_parts}
use Rattle.std.proofs.lemmas.Bool.Decides.{nat_tests}
use Rattle.qp_chart.specs.declared.checked.Chart.{Chart}
use Rattle.qp_model.specs.declared.systems.System.{System}
use Rattle.qp_model.specs.declared.systems.ObjectDef.{ObjectDef}
use Rattle.qp_model.specs.declared.bodies.Body.TheVariants as body
use Rattle.qp_model.specs.declared.words.Word.TheVariants as word
use Rattle.qp_model.specs.Course.{chart_at}
use Rattle.qp_model.specs.Ends.{may_cut}
use Rattle.qp_model.specs.Lawful.{dispatched}
use Rattle.qp_model.specs.OutputSummary.{CourseLeaves}
use Rattle.qp_model.specs.Sites.{object_at}
use Rattle.qp_model.specs.Sound.{IsSound}
use Rattle.qp_model.specs.Told.{ToldItem, for_object, plain}
use Rattle.qp_model.specs.WordLaw.{is_object}
use Rattle.qp_model.proofs.AbleLemmas.{some-same}
use Rattle.qp_calls.specs.declared.answers.Counts as counts
use Rattle.qp_calls.specs.Clauses.{Counted, Sees, Stops, TakesNone, last_nil, same_counts}
use Rattle.qp_calls.specs.Counting.{count_of}
use Rattle.qp_calls.specs.LaneView as shown
use Rattle.qp_calls.specs.LaneView.{AddsOf, Gains, GrowsOf, LaneView, Looks, NotShown, Own, Roomier, ceiling_in, own_after}
use Rattle.qp_calls.specs.Notes.{spills_told}
use Rattle.qp_calls.specs.Tokens.{hands_after, hands_by}
use Rattle.qp_calls.proofs.NoteLemmas.{ceiling-append}
use Rattle.qp_dispatch.specs.Lasts.{config_of}
use Rattle.qp_dispatch.proofs.Quiet.{spills-append}
use Rattle.qp_kernel.specs.Turning.{seen_told, spill_told}
use Rattle.qp_kernel.specs.ZeroEnds.{own_told}
use Rattle.qp_port_law.specs.Homes.{HomeEnds}
use Rattle.qp_kernel_turns.specs.declared.halting.Halt.{Halt}
use Rattle.qp_kernel_turns.specs.declared.halting.Halt.TheVariants as halt
use Rattle.qp_kernel_turns.specs.Halting.{TurnHalts, asked_once}
use Rattle.qp_kernel_turns.proofs.Resting.{pass-both, pass-kernel, pass-spent}
use Rattle.qp_kernel_turns.proofs.SoundObjects.{able, numbered}
use Rattle.qp_kernel_turns.proofs.Taking.{seen-mark_own, nil-mark_own}
use Rattle.qp_port_law.specs.HomeLaws.{HasMore, IsHomeOf, HomeRests}
use Rattle.qp_port_law.proofs.HomeRecords.{last-append}
use Rattle.qp_port_law.proofs.HomeLaws.{full_home_ends, look_is_told, nil_is_told, own_rises, resting_home_ends, resting_home_leaves, spent_home_ends}
use Rattle.qp_port_lanes.specs.declared.home.Home.{Home}
use Rattle.qp_port_lanes.specs.At.{IsHome, IsIn}
use Rattle.qp_port_lanes.proofs.Lanes.{counts-goes}
use Rattle.qp_port_lanes.specs.Turning.{HomeHalts, HomeIdles, HomeStops, KnowsEntry, StaysEmpty}

pub home-of : (sys : System) (sound : IsSound sys) (d : ObjectDef) (chart : Chart) → object_at sys d.priority ≡ Some d → chart_at sys d.chart ≡ Some chart → IsHomeOf sys d chart
home-of sys sound d chart found its = record { some = numbered sys sound d found; its = its; able = able sys sound d chart found its }

-- a lane has posted and taken as much before its records as behind them
pub more-own : (a : ℕ) (ts : List ToldItem) (v w : LaneView) → w.own a ≡ own_after a (v.own a) ts → HasMore (v.own a) (w.own a)
more-own a ts v w is = subst (HasMore (v.own a)) (sym is) (own_rises a (v.own a) ts)

-- the object is one of the system of its lane
pub object-in : (sys : System) (d : ObjectDef) (chart : Chart) (x : Home) (v w : LaneView) → IsIn sys d chart x v → w.sys ≡ v.sys → IsTrue (is_object w.sys x.me)
unfolding is_object
object-in sys d chart x v w at of = rw (of, at.lane, at.me, at.found) refl

-- and of a lane with more room
pub object-room : (sys : System) (d : ObjectDef) (chart : Chart) (x : Home) (v w : LaneView) → IsIn sys d chart x v → Roomier (asked_once v) w → IsTrue (is_object w.sys x.me)
object-room sys d chart x v w at room = object-in sys d chart x v w at (ap (λ u. u.sys) room.same)

-- what shows the same counts is these counts
counts-same : (s : shown.Shown) (f l m : ℕ) → same_counts s f l m ≡ true → s ≡ shown.Counts f l m
counts-same (shown.Counts g k n) f l m same =
    let parts = and_parts ((g == f) && (k == l)) (n == m) same in
    let front = and_parts (g == f) (k == l) parts.0 in
    let one = front.0 in
    let two = front.1 in
    let three = parts.1 in
    let g-is : g ≡ f = grind (arith, nat_tests) in
    let k-is : k ≡ l = grind (arith, nat_tests) in
    let n-is : n ≡ m = grind (arith, nat_tests) in
    rw (g-is, k-is, n-is) refl
counts-same (shown.FreeBlocks n) f l m same = absurd (cc)
counts-same (shown.References n) f l m same = absurd (cc)
counts-same shown.NotShown f l m same = absurd (cc)

nil-last : (p f l m : ℕ) (told : List ToldItem) → last_nil p NotShown (told ++ for_object p (plain (body.Nil f l m)) ∷ []) ≡ shown.Counts f l m
unfolding last_nil
nil-last p f l m told = let self : (p == p) ≡ true = grind (arith, nat_tests) in last-append p NotShown told (for_object p (plain (body.Nil f l m)) ∷ []) ∙ rw self refl

nil-own : (p a f l m : ℕ) (o : Own) → own_after a o (for_object p (plain (body.Nil f l m)) ∷ []) ≡ o
unfolding own_after
nil-own p a f l m o = refl

seen-own : (p a f l m : ℕ) (o : Own) → own_after a o (seen_told p f l m ∷ []) ≡ o
unfolding own_after
seen-own p a f l m o = refl

-- `nil` and `seen` leave the ceiling, the hands and the `spill` as they are
pub record IsQuiet (t : ToldItem) : Type 0 where
  pub ceiling : (n : ℕ) → ceiling_in n (t ∷ []) ≡ n
  pub hands : (v w : LaneView) → Gains (t ∷ []) v w → w.hands ≡ v.hands
  pub spills : (ts : List ToldItem) → spills_told ts ≡ false → spills_told (ts ++ t ∷ []) ≡ false

nil-quiet : (p f l m : ℕ) → IsQuiet (for_object p (plain (body.Nil f l m)))
unfolding ceiling_in hands_after hands_by
nil-quiet p f l m = record { ceiling = λ n. refl; hands = λ v w g. g.hands; spills = λ ts none. spills-append p ts (plain (body.Nil f l m) ∷ []) none refl }

seen-quiet : (p f l m : ℕ) → IsQuiet (seen_told p f l m)
unfolding ceiling_in hands_after hands_by
seen-quiet p f l m = record { ceiling = λ n. refl; hands = λ v w g. g.hands; spills = λ ts none. spills-append 0 ts (plain (body.Seen p f l m) ∷ []) none refl }

module _ (sys : System) (sound : IsSound sys) (budget : ℕ) (x : Home) (v : LaneView) (h : IsHome sys budget x v) where
  its : IsHomeOf sys h.d h.chart
  its = home-of sys sound h.d h.chart h.at.found h.at.its

  -- At rest again.

  abbrev resting : (looked : Bool) (w : LaneView) → w.sys ≡ v.sys → ((o : ℕ) → w.serves o ≡ v.serves o) → w.hands ≡ v.hands → ceiling_in 0 w.told ≡ ceiling_in 0 v.told → spills_told w.told ≡ false → v.asked ≤ w.asked
      → HomeRests sys h.d h.chart budget (w.own h.d.priority) looked w.told h.es h.points h.c → IsHome sys budget (record x { looked = looked }) w
  resting looked w of serves hands ceiling spills more records = record {
    d = h.d;
    chart = h.chart;
    at = record {
      found = h.at.found;
      its = h.at.its;
      me = h.at.me;
      object = h.at.object;
      of = h.at.of;
      compiled = h.at.compiled;
      room = h.at.room;
      named = h.at.named;
      lane = of ∙ h.at.lane;
      serves = serves h.d.priority ∙ h.at.serves;
      ceiling = h.at.ceiling ∙ sym ceiling;
      spills = spills;
      only = λ t. ap (count_of t) hands ∙ h.at.only t;
    };
    es = h.es;
    points = h.points;
    c = h.c;
    calm = h.calm;
    rest = record { started = h.rest.started; between = h.rest.between; config = h.rest.config; few = h.rest.few };
    taken = h.taken;
    records = records;
    asked = let had = h.asked in omega (arith, had, more);
  }

  pub room-asked : (w : LaneView) → Roomier (asked_once v) w → v.asked ≤ w.asked
  room-asked w room = let one = ap (λ u. u.asked) room.same in omega (arith, one)

  -- no record came
  abbrev pub resting-same : (w : LaneView) → w.sys ≡ v.sys → w.told ≡ v.told → ((o : ℕ) → w.serves o ≡ v.serves o) → w.own h.d.priority ≡ v.own h.d.priority → w.hands ≡ v.hands → v.asked ≤ w.asked → IsHome sys budget x w
  resting-same w of told serves own hands more =
      resting x.looked w of serves hands (ap (ceiling_in 0) told) (ap spills_told told ∙ h.at.spills) more
      (subst (λ o. HomeRests sys h.d h.chart budget o x.looked w.told h.es h.points h.c) (sym own) (subst (λ ts. HomeRests sys h.d h.chart budget (v.own h.d.priority) x.looked ts h.es h.points h.c) (sym told) h.records))

  abbrev pub resting-room : (w : LaneView) → Roomier (asked_once v) w → IsHome sys budget x w
  resting-room w room = resting-same w (ap (λ u. u.sys) room.same) (ap (λ u. u.told) room.same) (λ o. ap (λ u. u.serves o) room.same) (ap (λ u. u.own h.d.priority) room.same) (ap (λ u. u.hands) room.same) (room-asked w room)

  -- the question is one more than those before
  pub room-more : (w : LaneView) → Roomier (asked_once v) w → suc (x.object.taken + h.points) ≤ w.asked
  room-more w room = let one = ap (λ u. u.asked) room.same in let had = h.asked in omega (arith, one, had)

  -- one record came, which changes nothing for the object
  resting-behind : (looked : Bool) (t : ToldItem) (w : LaneView) → IsQuiet t → Gains (t ∷ []) v w → HomeRests sys h.d h.chart budget (w.own h.d.priority) looked (v.told ++ t ∷ []) h.es h.points h.c
      → IsHome sys budget (record x { looked = looked }) w
  resting-behind looked t w quiet g records =
      resting looked w g.sys g.serves (quiet.hands v w g) (ap (ceiling_in 0) g.told ∙ ceiling-append 0 v.told (t ∷ []) ∙ quiet.ceiling (ceiling_in 0 v.told))
      (subst (λ ts. spills_told ts ≡ false) (sym g.told) (quiet.spills v.told h.at.spills)) (let same = g.asked in omega (arith, same)) (subst (λ ts. HomeRests sys h.d h.chart budget (w.own h.d.priority) looked ts h.es h.points h.c) (sym g.told) records)

  -- The queue is found empty.

  my-serves : v.serves x.me ≡ true
  my-serves = ap v.serves h.at.me ∙ h.at.serves

  looked-at : (f l m : ℕ) (w : LaneView) → Looks (word.Queue x.me) (f + l + m) (shown.Counts f l m) v w → f + l ≡ m → m ≡ (w.own x.me).m → (x.looked ≡ false → last_nil x.me NotShown v.told ≡ shown.Counts f l m) → HomeIdles sys budget x w
  looked-at f l m w looks empty own told = record {
    home = resting-same w looks.sys looks.told looks.serves (looks.own h.d.priority) looks.hands (let same = looks.asked in omega (arith, same));
    empty = record { f = f; l = l; m = m; says = looks.says; none = empty; mark = looks.here; own = sym own };
    told = λ unseen. ap (last_nil x.me NotShown) looks.told ∙ told unseen;
  }

  pub counts-home : (w : LaneView) (c : counts.Counts) → Counted x.me v w c → IsHome sys budget x w
  counts-home w c looks = resting-same w looks.0.sys looks.0.told looks.0.serves (looks.0.own h.d.priority) looks.0.hands (let same = looks.0.asked in omega (arith, same))

  pub counts-idles : (w : LaneView) (c : counts.Counts) → Counted x.me v w c → x.looked ≡ true → c.f + c.l ≤ c.m → HomeIdles sys budget x w
  counts-idles w c looks seen none =
      let most = looks.2 in
      looked-at c.f c.l c.m w looks.0 (omega (arith, none, most)) (looks.1.own (looks.0.serves x.me ∙ my-serves)).1 (λ unseen. let wrong : true ≡ false = sym seen ∙ unseen in absurd (cc))

  -- it has taken its budget, where it has taken no less
  is-full : budget ≤ x.object.taken → length h.es ≡ budget
  is-full full = let most = h.records.0.budgets in let count = h.taken in omega (arith, full, most, count)

  -- by a `seen` in the place of a take
  module _ (w : LaneView) (c : counts.Counts) (sees : Sees x.me v w c) where
    told-seen : w.told ≡ v.told ++ seen_told h.d.priority c.f c.l c.m ∷ []
    told-seen = sees.0.grows.told ∙ ap (λ p. v.told ++ seen_told p c.f c.l c.m ∷ []) h.at.me

    own-seen : w.own x.me ≡ v.own x.me
    own-seen = sees.0.grows.own x.me ∙ seen-own x.me x.me c.f c.l c.m (v.own x.me)

    is-own : (c.l ≡ (w.own x.me).l) × (c.m ≡ (w.own x.me).m)
    is-own = sees.1.own (sees.0.grows.serves x.me ∙ my-serves)

    -- as much as the lane has posted and taken
    is-l : c.l ≡ (v.own h.d.priority).l
    is-l = is-own.0 ∙ ap (λ o. o.l) own-seen ∙ ap (λ p. (v.own p).l) h.at.me

    is-m : c.m ≡ (v.own h.d.priority).m
    is-m = is-own.1 ∙ ap (λ o. o.m) own-seen ∙ ap (λ p. (v.own p).m) h.at.me

    pub seen-idles : x.looked ≡ false → budget ≤ x.object.taken → c.f + c.l ≤ c.m → HomeIdles sys budget (record x { looked = true }) w
    seen-idles unseen full none = record {
      home = resting-behind true (seen_told x.me c.f c.l c.m) w (seen-quiet x.me c.f c.l c.m) sees.0.grows
          (subst (λ o. HomeRests sys h.d h.chart budget o true (v.told ++ seen_told x.me c.f c.l c.m ∷ []) h.es h.points h.c) (sym (sees.0.grows.own h.d.priority ∙ seen-own x.me h.d.priority c.f c.l c.m (v.own h.d.priority)))
          (subst (λ p. HomeRests sys h.d h.chart budget (v.own h.d.priority) true (v.told ++ seen_told p c.f c.l c.m ∷ []) h.es h.points h.c) (sym h.at.me)
          (look_is_told sys h.d h.chart budget (v.own h.d.priority) v.told h.es h.points h.c c.f c.l c.m its is-l is-m empty (is-full full)
          (subst (λ b. HomeRests sys h.d h.chart budget (v.own h.d.priority) b v.told h.es h.points h.c) unseen h.records))));
      empty = record { f = c.f; l = c.l; m = c.m; says = sees.1.says; none = empty; mark = sees.0.grows.mark (word.Queue x.me) ∙ seen-mark_own x.me (v.mark (word.Queue x.me)) c.f c.l c.m; own = sym is-own.1 };
      told = λ wrong. absurd (cc);
    }
      where
        empty : c.f + c.l ≡ c.m
        empty = let most = sees.2 in omega (arith, none, most)

  -- by a take
  pub takes-none : (w : LaneView) (f l m : ℕ) → TakesNone x.me f l m v w → HomeIdles sys budget x w
  takes-none w f l m t = by (same_counts (last_nil x.me NotShown v.told) f l m) refl t.adds
    where
      by : (b : Bool) → same_counts (last_nil x.me NotShown v.told) f l m ≡ b → MatchBool b (Looks (word.Queue x.me) (f + l + m) (shown.Counts f l m) v w) (AddsOf x.me (plain (body.Nil f l m) ∷ []) v w) → HomeIdles sys budget x w
      by true is looks = looked-at f l m w looks t.empty (t.shows.own (looks.serves x.me ∙ my-serves)).1 (λ unseen. counts-same (last_nil x.me NotShown v.told) f l m is)
      by false is adds =
          let own : w.own x.me ≡ v.own x.me = adds.grows.own x.me ∙ nil-own x.me x.me f l m (v.own x.me) in
          let mine = t.shows.own (adds.grows.serves x.me ∙ my-serves) in
          let is-l : l ≡ (v.own h.d.priority).l = mine.0 ∙ ap (λ o. o.l) own ∙ ap (λ p. (v.own p).l) h.at.me in
          let is-m : m ≡ (v.own h.d.priority).m = mine.1 ∙ ap (λ o. o.m) own ∙ ap (λ p. (v.own p).m) h.at.me in
          record {
            home = resting-behind x.looked (for_object x.me (plain (body.Nil f l m))) w (nil-quiet x.me f l m) adds.grows
                (subst (λ o. HomeRests sys h.d h.chart budget o x.looked (v.told ++ for_object x.me (plain (body.Nil f l m)) ∷ []) h.es h.points h.c) (sym (adds.grows.own h.d.priority ∙ nil-own x.me h.d.priority f l m (v.own h.d.priority)))
                (subst (λ p. HomeRests sys h.d h.chart budget (v.own h.d.priority) x.looked (v.told ++ for_object p (plain (body.Nil f l m)) ∷ []) h.es h.points h.c) (sym h.at.me)
                (nil_is_told sys h.d h.chart budget (v.own h.d.priority) x.looked v.told h.es h.points h.c f l m its is-l is-m t.empty (subst (λ p. same_counts (last_nil p NotShown v.told) f l m ≡ false) h.at.me is) h.records)));
            empty = record { f = f; l = l; m = m; says = t.shows.says; none = t.empty; mark = adds.grows.mark (word.Queue x.me) ∙ nil-mark_own x.me (v.mark (word.Queue x.me)) f l m; own = sym mine.1 };
            told = λ unseen. ap (last_nil x.me NotShown) adds.grows.told ∙ nil-last x.me f l m v.told;
          }

  -- The lane ends.

  stops-with : (y : Home) (w : LaneView) (ts : List ToldItem) → y.object ≡ x.object → w.told ≡ v.told ++ ts → dispatched (own_told h.d.priority ts) ≡ []
      → ((end : ℕ) → may_cut end ≡ true → HomeEnds sys h.d budget end (v.told ++ ts)) → HomeStops sys budget x.me y w
  stops-with y w ts same told pass ends = record {
    ends = λ d found end early. subst (λ (e : ObjectDef). HomeEnds sys e budget end w.told) (is-d d found) (subst (HomeEnds sys h.d budget end) (sym told) (ends end early));
    rests = λ d chart found is started calm.
        let at = is-d d found in
        let here : h.chart ≡ chart = some-same (sym h.at.its ∙ ap (λ (e : ObjectDef). chart_at sys e.chart) at ∙ is) in
        subst (λ (e : ObjectDef). CourseLeaves sys e chart (own_told e.priority w.told) (config_of y.object.lasting)) at
        (subst (λ i. CourseLeaves sys h.d i (own_told h.d.priority w.told) (config_of y.object.lasting)) here
        (subst (λ us. CourseLeaves sys h.d h.chart (own_told h.d.priority us) (config_of y.object.lasting)) (sym told)
        (subst (CourseLeaves sys h.d h.chart (own_told h.d.priority (v.told ++ ts))) (h.rest.config ∙ ap (λ o. config_of o.lasting) (sym same))
        (resting_home_leaves sys h.d h.chart budget (v.own h.d.priority) x.looked v.told ts h.es h.points h.c h.records pass))));
  }
    where
      is-d : (d : ObjectDef) → object_at sys x.me ≡ Some d → h.d ≡ d
      is-d d found = some-same (sym (ap (object_at sys) h.at.me ∙ h.at.found) ∙ found)

  -- in another lane, or for want of room
  pub stops-found : (w : LaneView) → w.told ≡ v.told → HomeStops sys budget x.me x w
  stops-found w same =
      stops-with x w [] refl (same ∙ sym (append-nil v.told)) refl
      (λ end early. subst (HomeEnds sys h.d budget end) (sym (append-nil v.told)) (resting_home_ends sys h.d h.chart budget end (v.own h.d.priority) x.looked v.told h.es h.points h.c its early h.records))

  pub stops-full : (w : LaneView) → 999992 < length v.told → w.told ≡ v.told ++ spill_told (length v.told) ∷ [] → HomeStops sys budget x.me x w
  stops-full w many told =
      stops-with x w (spill_told (length v.told) ∷ []) refl told (pass-kernel h.d.priority (plain (body.Spill (length v.told))) its.some)
      (λ end early. full_home_ends sys h.d h.chart budget end (v.own h.d.priority) x.looked v.told h.es h.points h.c (length v.told) its early h.records refl many)

  pub halts : (w : LaneView) (e : Halt) → TurnHalts v w e → HomeHalts sys budget x.me x w e
  halts w halt.Memory e = tt
  halts w halt.Stopped (inl e) = stops-found w (ap (λ u. u.told) e.answered)
  halts w halt.Stopped (inr e) = stops-full w e.few (ap (λ u. u.told) e.stops ∙ e.spills.told)

  -- at its budget, with an entry
  pub stops-spent : (w1 w2 w3 : LaneView) (c : counts.Counts) → Sees x.me v w1 c → c.m < c.f + c.l → budget ≤ x.object.taken → GrowsOf x.me (plain body.Spent ∷ []) w1 w2 → Stops 6 w2 w3 → HomeStops sys budget x.me x w3
  stops-spent w1 w2 w3 c sees some full spent stops =
      stops-with x w3 (seen_told h.d.priority c.f c.l c.m ∷ for_object h.d.priority (plain body.Spent) ∷ []) refl
      (ap (λ u. u.told) stops ∙ spent.told ∙ ap (λ ts. ts ++ for_object x.me (plain body.Spent) ∷ []) (told-seen w1 c sees) ∙ ap (λ p. (v.told ++ seen_told h.d.priority c.f c.l c.m ∷ []) ++ for_object p (plain body.Spent) ∷ []) h.at.me
      ∙ append_assoc v.told (seen_told h.d.priority c.f c.l c.m ∷ []) (for_object h.d.priority (plain body.Spent) ∷ []))
      (pass-both h.d.priority (seen_told h.d.priority c.f c.l c.m ∷ []) (for_object h.d.priority (plain body.Spent) ∷ []) (pass-kernel h.d.priority (plain (body.Seen h.d.priority c.f c.l c.m)) its.some) (pass-spent h.d.priority h.d.priority))
      (λ end early. spent_home_ends sys h.d h.chart budget end (v.own h.d.priority) x.looked v.told h.es h.points h.c c.f c.l c.m its early h.records (is-l w1 c sees) (is-m w1 c sees) some (is-full full))

  -- a look that adds nothing showed an entry
  pub counts-entry : (w : LaneView) (c : counts.Counts) → Counted x.me v w c → c.m < c.f + c.l → KnowsEntry x.me w
  counts-entry w c looks some =
      let own = looks.1.own (looks.0.serves x.me ∙ my-serves) in
      let l-is = own.0 in
      let m-is = own.1 in
      let here = looks.0.here in
      record { f = c.f; mark = omega (arith, here, l-is, m-is); some = omega (arith, some, l-is, m-is) }

  -- it was found empty, and is so still, or isn't
  pub stays : (w : LaneView) (c : counts.Counts) → Counted x.me v w c → x.looked ≡ true → (b : Bool) → nat_le (c.f + c.l) c.m ≡ b → StaysEmpty sys budget x v w b
  stays w c looks seen true e = (counts-idles w c looks seen (grind (arith, nat_tests, e)), counts-goes x.me v w c looks, looks.0.told)
  stays w c looks seen false e = record {
    home = counts-home w c looks;
    goes = counts-goes x.me v w c looks;
    told = looks.0.told;
    spare = looks.0.spare;
    entry = λ on. counts-entry w c looks (grind (arith, nat_tests, e));
  }

  -- a `seen` shows no less than what the lane knew
  pub unlooked : (w : LaneView) (d : counts.Counts) → (x.looked ≡ true → KnowsEntry x.me v) → Sees x.me v w d → d.f + d.l ≤ d.m → x.looked ≡ false
  unlooked w d knows sees none = by x.looked refl
    where
      by : (b : Bool) → x.looked ≡ b → x.looked ≡ false
      by false e = e
      by true e =
          let k = knows e in
          let shown = sees.1.own (sees.0.grows.serves x.me ∙ my-serves) in
          let l-is : d.l ≡ (v.own x.me).l = shown.0 ∙ ap (λ o. o.l) (own-seen w d sees) in
          let m-is : d.m ≡ (v.own x.me).m = shown.1 ∙ ap (λ o. o.m) (own-seen w d sees) in
          let before = k.mark in
          let some = k.some in
          let after : w.mark (word.Queue x.me) ≡ d.f + d.l + d.m = sees.0.grows.mark (word.Queue x.me) ∙ seen-mark_own x.me (v.mark (word.Queue x.me)) d.f d.l d.m in
          let up = sees.0.grows.rise (word.Queue x.me) in
          absurd (omega (arith, some, none, l-is, m-is, before, after, up))
