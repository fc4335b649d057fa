-- Steps that go on, by runs of their agendas.
use Rattle.std.proofs.Common.{◌≡◌, ℕ, zero, suc, ◌+◌, ◌-◌, ◌≤◌, true, List, [], ◌∷◌, ◌++◌, map, length, take, slice_get, refl, sym, ◌∙◌, ap, subst, arith, inl, inr, Option, Some, None, append_assoc, append-nil}
use Rattle.std.specs.List.{AllByRecursion, list_all}
use Rattle.std.specs.Option.{option_map_or}
use Rattle.qp_chart.specs.Expr.{Names}
use Rattle.qp_chart.specs.declared.checked.Chart.{Chart}
use Rattle.qp_chart.specs.Agenda.{step_plan}
use Rattle.qp_chart.specs.Task.{Task}
use Rattle.qp_model.specs.declared.systems.SignalDef.{SignalDef}
use Rattle.qp_model.specs.Sound.{IsSound}
use Rattle.qp_model.specs.declared.systems.System.{System}
use Rattle.qp_model.specs.declared.bodies.Entry as model
use Rattle.qp_model.specs.declared.bodies.Body.TheVariants as item
use Rattle.qp_model.specs.Told.{Told, Event, plain}
use Rattle.qp_model.specs.Shapes.{Drops, releases_by}
use Rattle.qp_model.specs.Pieces.{Piece, Point, records_in, tell}
use Rattle.qp_model.specs.Acts.{Config, Actor}
use Rattle.qp_model.specs.Step.{Remainder, DoesLeft, StepGoesOn, Closes, at_leaf, moment, tasks_left, publishing_left, whole_step}
use Rattle.qp_model.specs.Standing.{StepAdvances, AgendaReaches}
use Rattle.qp_model.specs.Able.{task_able}
use Rattle.qp_model.proofs.Completes.{release, release_drops}
use Rattle.qp_model.proofs.PublicationLemmas.{tell-append}
use Rattle.qp_model.proofs.StepLemmas.{advances-reaches, goes_on-done, goes_on-failed}
use Rattle.qp_calls.specs.declared.tokens.HeldEntry.{HeldEntry}
use Rattle.qp_calls.specs.Tokens.{Token, hands_after, hands_by}
use Rattle.qp_calls.specs.LaneView.{LaneView, Grows, GrowsOf}
use Rattle.qp_calls.specs.Clauses.{Stops, entry_of, event_of}
use Rattle.qp_model.specs.Parts.{params_of}
use Rattle.qp_calls.specs.Entries.{Released}
use Rattle.qp_calls.specs.Deferring.{ChangeAlike, StandAll, is_named, kept_in, tokens_in}
use Rattle.qp_calls.specs.Counting.{times, count_of}
use Rattle.qp_calls.proofs.CountLemmas.{stand-same}
use Rattle.qp_calls.proofs.Growing.{grows-then}
use Rattle.qp_dispatch.specs.declared.lasting.Lasting.{Lasting}
use Rattle.qp_dispatch.specs.declared.part.Under.{Under}
use Rattle.qp_dispatch.specs.declared.runs.Left.{Left}
use Rattle.qp_dispatch.specs.declared.steps.Going.{Going}
use Rattle.qp_dispatch.specs.declared.steps.Step.{Step}
use Rattle.qp_dispatch.specs.declared.steps.Step.TheVariants as step
use Rattle.qp_dispatch.specs.declared.steps.Position.{Position}
use Rattle.qp_dispatch.specs.declared.steps.Position.TheVariants as stage
use Rattle.qp_dispatch.specs.declared.work.Work.{Work}
use Rattle.qp_dispatch.specs.Lasts.{config_of, actor_of, moment_of_work, names_at}
use Rattle.qp_dispatch.specs.CallsDone.{StandsIn}
use Rattle.qp_dispatch.specs.Parts.{held_by, left_by}
use Rattle.qp_dispatch.specs.SoundFor.{MayTask}
use Rattle.qp_dispatch.specs.Runs.{RunAsserts, RunCut, Runs, ObjectSetting, hand_of, tasks_in}
use Rattle.qp_dispatch.specs.Resume.{BeginsOn, EndsAsserted, StepHalts, IsGoing, IsLaneOf, ReleasesEntry, Resumes, ToEnd, ToPoint, entry_here, event_in_hand, step_event, held_in, remainder_of, step_entry}
use Rattle.qp_dispatch.proofs.ActLemmas.{calm-quiet, counts-join, stand-change, all-right}
use Rattle.qp_dispatch.proofs.Quiet.{quiet-drops}
use Rattle.qp_model.proofs.GroupLemmas.{bare-append}
use Rattle.qp_dispatch.proofs.PartLemmas.{stand-in}
use Rattle.qp_dispatch.proofs.PublishLemmas.{one-less}
use Rattle.qp_dispatch.proofs.RunLemmas.{stand-hand, stand-left}
use Rattle.qp_model.proofs.ListLemmas.{list_all-front, every-at, nil-front, every-behind}

-- What is left of a step.

pub unleafed : (leaf : ℕ) (end : Option Config) → at_leaf leaf end ≡ None → end ≡ None
unleafed leaf None h = refl
unleafed leaf (Some c) h = absurd (cc)

leaf-of : (u : Option Under) (ts : List Task) (leaf : ℕ) → (left_by u ts leaf).leaf ≡ leaf
unfolding tasks_left publishing_left
leaf-of None ts leaf = refl
leaf-of (Some u) ts leaf = refl

pub tasks-of : (u : Option Under) (ts : List Task) (leaf : ℕ) → (left_by u ts leaf).tasks ≡ ts
unfolding tasks_left publishing_left
tasks-of None ts leaf = refl
tasks-of (Some u) ts leaf = refl

moment-is : (work : Work) (hand : HeldEntry) → work.entry ≡ Some hand → moment_of_work work ≡ moment (event_of work.ev) (entry_here work.entry)
moment-is work hand is = rw is refl

more-alike : (es ds fs : List HeldEntry) (v w : LaneView) → ChangeAlike (map entry_of es) (map entry_of ds) v w → ChangeAlike (map entry_of (es ++ fs)) (map entry_of (ds ++ fs)) v w
more-alike es ds fs v w alike t = omega (arith, alike t, counts-join t es fs, counts-join t ds fs)

drops_are : (e : model.Entry) (rel : List Told) → releases_by e.pool e rel → Drops e rel
unfolding Drops
drops_are e rel h = h

none-counts : (t : Token) → count_of t (tokens_in []) ≡ 0
unfolding times
none-counts t = refl

-- a lane that stopped has its hands
pub stopped-stand : (code : ℕ) (w z : LaneView) (es : List HeldEntry) → Stops code w z → StandAll es w → StandAll es z
stopped-stand code w z es stops all = stand-same es w z all (rw stops refl) (rw stops refl)

pub spilled-stand : (n : ℕ) (w z : LaneView) (es : List HeldEntry) → GrowsOf 0 (plain (item.Spill n) ∷ []) w z → StandAll es w → StandAll es z
unfolding hands_after hands_by
spilled-stand n w z es grown all = stand-same es w z all grown.hands grown.sys

-- the lane halted behind records that begin something
pub halted : (home : ObjectSetting) (ceiling later : ℕ) (k m : Lasting) (s y : Position) (g : List Told) (v w z : LaneView) (answer : Step) → Grows g v w
    → BeginsOn v.sys (actor_of home.me home.chart k) (step_event s v) (step_entry s) (remainder_of home k s v) (config_of k) g → StandAll (held_in m y) w → StepHalts w z answer
    → Resumes home ceiling later k s m y v z answer
halted home ceiling later k m s y g v w z step.Point grows begins all h = absurd h
halted home ceiling later k m s y g v w z step.Done grows begins all h = absurd h
halted home ceiling later k m s y g v w z step.Stopped grows begins all h =
    inr
    (record {
      g = g;
      mid = w;
      full = h.full;
      grows = grows;
      begins = begins;
      few = h.few;
      spills = h.spills;
      stops = h.stops;
      stand = stopped-stand 6 h.full z (held_in m y) h.stops (spilled-stand (length w.told) w h.full (held_in m y) h.spills all);
    })
halted home ceiling later k m s y g v w z step.Memory grows begins all h =
    record { g = g; mid = w; grows = grows; begins = begins; dry = h; stand = stopped-stand 7 w z (held_in m y) h.stops all }

module _ (home : ObjectSetting) (ceiling later : ℕ) (k m : Lasting) (g : Going) (v w : LaneView) (lane : IsLaneOf home ceiling v) (going : IsGoing home k g v) where
  abbrev pub a : Actor
  a = actor_of home.me home.chart k

  abbrev pub ev : Event
  ev = event_of g.work.ev

  abbrev pub e : model.Entry
  e = entry_here g.work.entry

  -- a run within the step, as the step advances
  advanced : (ends : List Piece) (y : Option Under) (rest : List Task) (r : Runs true home (moment_of_work g.work) ends ceiling later k g.left.under (tasks_in home g.left) m y rest v w)
      → StepAdvances v.sys a ev e (left_by g.left.under (tasks_in home g.left) g.leaf) (config_of k) (tell (records_in r.ps) ++ ends) (left_by y rest g.leaf) (config_of m)
  advanced ends y rest r =
      let here : AgendaReaches v.sys a (moment ev e) (left_by g.left.under (tasks_in home g.left) g.leaf) (config_of k) (r.ps ++ ends) (left_by y rest g.leaf) (config_of m) =
      subst (λ at. AgendaReaches v.sys a at (left_by g.left.under (tasks_in home g.left) g.leaf) (config_of k) (r.ps ++ ends) (left_by y rest g.leaf) (config_of m)) (moment-is g.work going.hand going.is) (r.reaches g.leaf) in
      advances-reaches v.sys a ev e (left_by g.left.under (tasks_in home g.left) g.leaf) (left_by y rest g.leaf) (config_of k) (config_of m) (tell (records_in r.ps) ++ ends)
      (leaf-of g.left.under (tasks_in home g.left) g.leaf ∙ sym (leaf-of y rest g.leaf))
      (subst (λ ps. AgendaReaches v.sys a (moment ev e) (left_by g.left.under (tasks_in home g.left) g.leaf) (config_of k) (ps ++ ends) (left_by y rest g.leaf) (config_of m)) (r.plain refl) here)

  reached : (ends : List Piece) (y : Option Under) (rest : List Task) (r : Runs true home (moment_of_work g.work) ends ceiling later k g.left.under (tasks_in home g.left) m y rest v w)
      → AgendaReaches v.sys a (moment ev e) (left_by g.left.under (tasks_in home g.left) g.leaf) (config_of k) (tell (records_in r.ps) ++ ends) (left_by y rest g.leaf) (config_of m)
  reached ends y rest r =
      let here : AgendaReaches v.sys a (moment ev e) (left_by g.left.under (tasks_in home g.left) g.leaf) (config_of k) (r.ps ++ ends) (left_by y rest g.leaf) (config_of m) =
      subst (λ at. AgendaReaches v.sys a at (left_by g.left.under (tasks_in home g.left) g.leaf) (config_of k) (r.ps ++ ends) (left_by y rest g.leaf) (config_of m)) (moment-is g.work going.hand going.is) (r.reaches g.leaf) in
      subst (λ ps. AgendaReaches v.sys a (moment ev e) (left_by g.left.under (tasks_in home g.left) g.leaf) (config_of k) (ps ++ ends) (left_by y rest g.leaf) (config_of m)) (r.plain refl) here

  lane-on : (ends : List Piece) (y : Option Under) (rest : List Task) → Runs true home (moment_of_work g.work) ends ceiling later k g.left.under (tasks_in home g.left) m y rest v w → IsLaneOf home later w
  lane-on ends y rest r = record {
    of = r.grows.sys ∙ lane.of;
    mine = r.grows.by ∙ lane.mine;
    serves = r.grows.serves home.me ∙ lane.serves;
    told = r.lane lane.told;
    spills = r.spills lane.spills;
  }

  -- to a scheduling point
  pub to-point : (left : Left) → Runs true home (moment_of_work g.work) (Point ∷ []) ceiling later k g.left.under (tasks_in home g.left) m left.under (tasks_in home left) v w
      → ToPoint home ceiling later k (stage.Within g) m (stage.Within (record { work = g.work; left = left; leaf = g.leaf })) v w
  to-point left r = record {
    g = records_in r.ps;
    grows = r.grows;
    advances = advanced (Point ∷ []) left.under (tasks_in home left) r;
    going = record { work = g.work; left = left; leaf = g.leaf };
    stands = refl;
    done = r.done;
    split = tasks-of g.left.under (tasks_in home g.left) g.leaf ∙ r.split ∙ ap (λ ts. r.done ++ ts) (sym (tasks-of left.under (tasks_in home left) g.leaf));
    reaches = reached (Point ∷ []) left.under (tasks_in home left) r;
    same_event = refl;
    same_entry = refl;
    room = r.keeps.room;
    lane = lane-on (Point ∷ []) left.under (tasks_in home left) r;
    under_way = record {
      hand = going.hand;
      is = going.is;
      may = every-behind (MayTask home.sys home.me (Some going.hand)) r.done (tasks_in home left) (subst (λ ts. AllByRecursion (MayTask home.sys home.me (Some going.hand)) ts) r.split going.may);
      able = all-right (task_able home.sys true) r.done (tasks_in home left) (subst (λ ts. list_all (task_able home.sys true) ts ≡ true) r.split going.able);
      publishing = r.publishing;
      stand = r.stand (going.hand ∷ []) going.stand;
      few = subst (λ n. length (kept_in m.list) ≤ n) (sym r.keeps.room) (r.keeps.few going.few);
    };
    hands = more-alike (held_by k g.left.under) (held_by m left.under) (hand_of g.work.entry) v w r.hands;
  }

  hand-stands : StandAll (held_by k g.left.under ++ hand_of g.work.entry) v
  hand-stands = rw going.is going.stand

  -- to an assertion
  pub to-assert : (left : Left) (code : ℕ) (z : LaneView) → RunAsserts true home (moment_of_work g.work) code k g.left.under (tasks_in home g.left) m left.under v w → Stops code w z
      → EndsAsserted home k (stage.Within g) m (stage.Within (record { work = g.work; left = left; leaf = g.leaf })) v z
  to-assert left code z r stops =
      let does = subst (λ at. DoesLeft v.sys a at (left_by g.left.under (tasks_in home g.left) g.leaf).publishing (left_by g.left.under (tasks_in home g.left) g.leaf).posts (left_by g.left.under (tasks_in home g.left) g.leaf).tasks (config_of k) r.ps None)
      (moment-is g.work going.hand going.is) (r.does g.leaf) in
      record {
        g = records_in r.ps;
        mid = w;
        code = code;
        grows = r.grows;
        goes = subst (λ ps. StepGoesOn v.sys a ev e (left_by g.left.under (tasks_in home g.left) g.leaf) (config_of k) ps None) (r.plain refl)
            (goes_on-failed v.sys a ev e (left_by g.left.under (tasks_in home g.left) g.leaf) (config_of k) r.ps does);
        some = r.some;
        last = r.last;
        stops = stops;
        stand = stopped-stand code w z (held_by m left.under ++ hand_of g.work.entry) stops (r.stand (hand_of g.work.entry) hand-stands);
      }

  -- the records of a run that was cut begin something
  pub cut-begins : (y : Option Under) → (r : RunCut true home (moment_of_work g.work) k g.left.under (tasks_in home g.left) m y v w)
      → BeginsOn v.sys a ev e (left_by g.left.under (tasks_in home g.left) g.leaf) (config_of k) (records_in r.ps)
  unfolding StepGoesOn Closes
  cut-begins y r =
      let b = r.begins g.leaf in
      let does = subst (λ at. DoesLeft v.sys a at (left_by g.left.under (tasks_in home g.left) g.leaf).publishing (left_by g.left.under (tasks_in home g.left) g.leaf).posts (left_by g.left.under (tasks_in home g.left) g.leaf).tasks (config_of k) (r.ps ++ b.0) b.1)
      (moment-is g.work going.hand going.is) b.2 in
      let rel = closed b.1 in
      let same : tell (records_in r.ps) ++ (b.0 ++ tell rel.0) ≡ (r.ps ++ b.0) ++ tell rel.0 = ap (λ x. x ++ (b.0 ++ tell rel.0)) (sym (r.plain refl)) ∙ sym (append_assoc r.ps b.0 (tell rel.0)) in
      (b.0 ++ tell rel.0, at_leaf (left_by g.left.under (tasks_in home g.left) g.leaf).leaf b.1, (r.ps ++ b.0, rel.0, b.1, does, rel.1, same, refl), λ none is. b.3 (unleafed (left_by g.left.under (tasks_in home g.left) g.leaf).leaf b.1 none) (nil-front (records_in b.0) (records_in (tell rel.0)) (sym (bare-append b.0 (tell rel.0)) ∙ is)))
    where
      closed : (mid : Option Config) → (rel : List Told) × Closes e mid rel
      closed None = ([], refl)
      closed (Some d) = (release e.pool e, release_drops e.pool e)

  -- nothing is left but the release
  pub to-end : (hand : HeldEntry) (z : LaneView) (r : Runs true home (moment_of_work g.work) [] ceiling later k g.left.under (tasks_in home g.left) m None [] v w) → g.work.entry ≡ Some hand → Released (entry_of hand) w z
      → ToEnd home ceiling later k (stage.Within g) (record m { leaf = g.leaf }) v z
  unfolding StepAdvances
  to-end hand z r is rel =
      let grown : Grows (records_in r.ps ++ rel.g) v z = grows-then (records_in r.ps) rel.g v w z r.grows rel.grows in
      let drops : Drops e rel.g = subst (λ x. Drops (entry_here x) rel.g) (sym is) rel.drops in
      let calm = calm-quiet rel.g w z rel.grows (quiet-drops (entry_of hand) rel.g rel.drops) in
      let lane_mid = lane-on [] None [] r in
      let goes = advanced [] None [] r (tell rel.g) (Some (record (config_of m) { leaf = g.leaf })) (goes_on-done v.sys a ev e g.leaf (config_of m) rel.g drops) in
      let same : (tell (records_in r.ps) ++ []) ++ tell rel.g ≡ tell (records_in r.ps ++ rel.g) = ap (λ x. x ++ tell rel.g) (append-nil (tell (records_in r.ps))) ∙ sym (tell-append (records_in r.ps) rel.g) in
      let stood : StandAll ((m.list.entries.items ++ []) ++ hand_of g.work.entry) w = r.stand (hand_of g.work.entry) hand-stands in
      let stood_is : StandAll ((m.list.entries.items ++ []) ++ hand ∷ []) w = subst (λ x. StandAll ((m.list.entries.items ++ []) ++ hand_of x) w) is stood in
      let plain_stood : StandAll (m.list.entries.items ++ hand ∷ []) w = subst (λ x. StandAll (x ++ hand ∷ []) w) (append-nil m.list.entries.items) stood_is in
      let stands = stand-in m.list.entries.items hand [] w plain_stood in
      let less = one-less m.list.entries.items hand w z stands rel.hands in
      record {
        g = records_in r.ps ++ rel.g;
        grows = grown;
        goes = subst (λ ps. StepGoesOn v.sys a ev e (left_by g.left.under (tasks_in home g.left) g.leaf) (config_of k) ps (Some (record (config_of m) { leaf = g.leaf }))) same goes;
        room = r.keeps.room;
        lane = record {
          of = rel.grows.sys ∙ lane_mid.of;
          mine = rel.grows.by ∙ lane_mid.mine;
          serves = rel.grows.serves home.me ∙ lane_mid.serves;
          told = lane_mid.told ∙ sym calm.ceiling;
          spills = calm.spills lane_mid.spills;
        };
        few = subst (λ n. length (kept_in m.list) ≤ n) (sym r.keeps.room) (r.keeps.few going.few);
        hands = λ t.
            rw is
            (omega (
              arith,
              r.hands t,
              less t,
              counts-join t (held_by k g.left.under) (hand ∷ []),
              counts-join t (m.list.entries.items ++ []) [],
              counts-join t m.list.entries.items [],
              counts-join t m.list.entries.items (hand ∷ []),
              none-counts t,
            ));
        stand = subst (λ es. StandAll es z) (append-nil m.list.entries.items)
            (stand-left (m.list.entries.items ++ []) [] z
            (stand-change (m.list.entries.items ++ hand ∷ []) (m.list.entries.items ++ []) [] w z less
            (subst (λ es. list_all (λ x. is_named z.sys x) es ≡ true) (sym (append-nil m.list.entries.items))
            (subst (λ s. list_all (λ x. is_named s x) m.list.entries.items ≡ true) (sym rel.grows.sys) (list_all-front (λ x. is_named w.sys x) m.list.entries.items (hand ∷ []) plain_stood.named)))
            rel.grows.sys (subst (λ es. StandAll es w) (sym (append-nil (m.list.entries.items ++ hand ∷ []))) plain_stood)));
      }

  -- a run to the end, before the release
  pub over-begins : (r : Runs true home (moment_of_work g.work) [] ceiling later k g.left.under (tasks_in home g.left) m None [] v w)
      → BeginsOn v.sys a ev e (left_by g.left.under (tasks_in home g.left) g.leaf) (config_of k) (records_in r.ps)
  unfolding StepAdvances
  over-begins r =
      let drops = release_drops e.pool e in
      let goes = advanced [] None [] r (tell (release e.pool e)) (Some (record (config_of m) { leaf = g.leaf })) (goes_on-done v.sys a ev e g.leaf (config_of m) (release e.pool e) (drops_are e (release e.pool e) drops)) in
      let same : (tell (records_in r.ps) ++ []) ++ tell (release e.pool e) ≡ tell (records_in r.ps) ++ tell (release e.pool e) = ap (λ x. x ++ tell (release e.pool e)) (append-nil (tell (records_in r.ps))) in (
        tell (release e.pool e),
        Some (record (config_of m) { leaf = g.leaf }),
        subst (λ ps. StepGoesOn v.sys a ev e (left_by g.left.under (tasks_in home g.left) g.leaf) (config_of k) ps (Some (record (config_of m) { leaf = g.leaf }))) same goes,
        λ none. absurd (cc),
      )

  pub finish-may : (ends : List Piece) (y : Option Under) (rest : List Task) → Runs true home (moment_of_work g.work) ends ceiling later k g.left.under (tasks_in home g.left) m y rest v w → StandsIn g.work.entry w
  finish-may ends y rest r = stand-hand (held_by m y) g.work.entry w (r.stand (hand_of g.work.entry) hand-stands)

  pub over-stand : (r : Runs true home (moment_of_work g.work) [] ceiling later k g.left.under (tasks_in home g.left) m None [] v w) → StandAll (held_in m stage.Between) w
  over-stand r = stand-left (held_by m None) (hand_of g.work.entry) w (r.stand (hand_of g.work.entry) hand-stands)

  pub cut-stand : (left : Left) → RunCut true home (moment_of_work g.work) k g.left.under (tasks_in home g.left) m left.under v w
      → StandAll (held_in m (stage.Within (record { work = g.work; left = left; leaf = g.leaf }))) w
  cut-stand left r = r.stand (hand_of g.work.entry) hand-stands

pub released-is : (hand : Option HeldEntry) (e : HeldEntry) (v w : LaneView) → hand ≡ Some e → ReleasesEntry hand v w → Released (entry_of e) v w
released-is hand e v w is h = subst (λ x. ReleasesEntry x v w) is h

-- a step that was just taken up goes on as one under way
advances-as : (sys : System) (a : Actor) (x y : Event) (d e : model.Entry) (l r : Remainder) (c : Config) (ps : List Piece) (later : Remainder) (f : Config) → x ≡ y → d ≡ e → l ≡ r
    → StepAdvances sys a x d l c ps later f → StepAdvances sys a y e r c ps later f
advances-as sys a x y d e l r c ps later f ev en le h =
    subst (λ z. StepAdvances sys a y e z c ps later f) le (subst (λ z. StepAdvances sys a y z l c ps later f) en (subst (λ z. StepAdvances sys a z d l c ps later f) ev h))

goes-as : (sys : System) (a : Actor) (x y : Event) (d e : model.Entry) (l r : Remainder) (c : Config) (ps : List Piece) (end : Option Config) → x ≡ y → d ≡ e → l ≡ r
    → StepGoesOn sys a x d l c ps end → StepGoesOn sys a y e r c ps end
goes-as sys a x y d e l r c ps end ev en le h =
    subst (λ z. StepGoesOn sys a y e z c ps end) le (subst (λ z. StepGoesOn sys a y z l c ps end) en (subst (λ z. StepGoesOn sys a z d l c ps end) ev h))

-- the entries of a step that was just taken up
taken-held : (k : Lasting) (g : Going) (e : HeldEntry) → g.work.entry ≡ Some e → g.left.under ≡ None → held_in k (stage.Within g) ≡ held_in k (stage.Taken e)
taken-held k g e is none = rw (is, none) (ap (λ x. x ++ e ∷ []) (append-nil k.list.entries.items))

pub resumes-taken : (home : ObjectSetting) (ceiling later : ℕ) (k m : Lasting) (s z : Position) (e : HeldEntry) (g : Going) (v u w : LaneView) (answer : Step) → stage.Taken e ≡ s → u ≡ v
    → event_of g.work.ev ≡ event_in_hand e v → g.work.entry ≡ Some e → g.left.under ≡ None
    → left_by g.left.under (tasks_in home g.left) g.leaf ≡ whole_step (actor_of home.me home.chart k) (config_of k) (event_in_hand e v)
    → Resumes home ceiling later k (stage.Within g) m z u w answer → Resumes home ceiling later k s m z v w answer
resumes-taken home ceiling later k m s z e g v u w answer taken still ev is none left h =
    subst (λ x. Resumes home ceiling later k x m z v w answer) taken (by answer (subst (λ x. Resumes home ceiling later k (stage.Within g) m z x w answer) still h))
  where
    a : Actor
    a = actor_of home.me home.chart k

    entry_is : entry_here g.work.entry ≡ entry_of e
    entry_is = ap entry_here is

    held : held_in k (stage.Within g) ≡ held_in k (stage.Taken e)
    held = taken-held k g e is none

    goes : (ps : List Piece) (end : Option Config) → StepGoesOn v.sys a (event_of g.work.ev) (entry_here g.work.entry) (left_by g.left.under (tasks_in home g.left) g.leaf) (config_of k) ps end
        → StepGoesOn v.sys a (event_in_hand e v) (entry_of e) (whole_step a (config_of k) (event_in_hand e v)) (config_of k) ps end
    goes ps end h =
        goes-as v.sys a (event_of g.work.ev) (event_in_hand e v) (entry_here g.work.entry) (entry_of e) (left_by g.left.under (tasks_in home g.left) g.leaf) (whole_step a (config_of k) (event_in_hand e v)) (config_of k) ps end ev entry_is left h

    by : (answer : Step) → Resumes home ceiling later k (stage.Within g) m z v w answer → Resumes home ceiling later k (stage.Taken e) m z v w answer
    by step.Point h = record {
      g = h.g;
      grows = h.grows;
      advances =
          advances-as v.sys a (event_of g.work.ev) (event_in_hand e v) (entry_here g.work.entry) (entry_of e) (left_by g.left.under (tasks_in home g.left) g.leaf) (whole_step a (config_of k) (event_in_hand e v)) (config_of k)
          (tell h.g ++ Point ∷ []) (remainder_of home m z w) (config_of m) ev entry_is left h.advances;
      going = h.going;
      stands = h.stands;
      done = h.done;
      split = ap (λ (l : Remainder). l.tasks) (sym left) ∙ h.split;
      reaches = subst (λ x. AgendaReaches v.sys a (moment x (entry_of e)) (whole_step a (config_of k) (event_in_hand e v)) (config_of k) (tell h.g ++ Point ∷ []) (remainder_of home m z w) (config_of m)) ev
          (subst (λ x. AgendaReaches v.sys a (moment (event_of g.work.ev) x) (whole_step a (config_of k) (event_in_hand e v)) (config_of k) (tell h.g ++ Point ∷ []) (remainder_of home m z w) (config_of m)) entry_is
          (subst (λ l. AgendaReaches v.sys a (moment (event_of g.work.ev) (entry_here g.work.entry)) l (config_of k) (tell h.g ++ Point ∷ []) (remainder_of home m z w) (config_of m)) left h.reaches));
      same_event = h.same_event ∙ ev;
      same_entry = h.same_entry ∙ entry_is;
      room = h.room;
      lane = h.lane;
      under_way = h.under_way;
      hands = subst (λ es. ChangeAlike (map entry_of es) (map entry_of (held_in m z)) v w) held h.hands;
    }
    by step.Done h = (
      h.0,
      record {
        g = h.1.g;
        grows = h.1.grows;
        goes = goes (tell h.1.g) (Some (config_of m)) h.1.goes;
        room = h.1.room;
        lane = h.1.lane;
        few = h.1.few;
        hands = subst (λ es. ChangeAlike (map entry_of es) (map entry_of m.list.entries.items) v w) held h.1.hands;
        stand = h.1.stand;
      },
    )
    by step.Stopped (inl h) =
        inl (record { g = h.g; mid = h.mid; code = h.code; grows = h.grows; goes = goes (tell h.g) None h.goes; some = h.some; last = h.last; stops = h.stops; stand = h.stand })
    by step.Stopped (inr h) =
        inr
        (record {
          g = h.g;
          mid = h.mid;
          full = h.full;
          grows = h.grows;
          begins = (h.begins.0, h.begins.1, goes (tell h.g ++ h.begins.0) h.begins.1 h.begins.2, h.begins.3);
          few = h.few;
          spills = h.spills;
          stops = h.stops;
          stand = h.stand;
        })
    by step.Memory h =
        record { g = h.g; mid = h.mid; grows = h.grows; begins = (h.begins.0, h.begins.1, goes (tell h.g ++ h.begins.0) h.begins.1 h.begins.2, h.begins.3); dry = h.dry; stand = h.stand }

-- the agenda that was chosen is that of the whole step
pub whole-left : (me : ℕ) (chart : Chart) (k : Lasting) (work : Work) (ts : List Task) (leaf : ℕ) (names : Names) (x : Event) → names ≡ names_at me k work → event_of work.ev ≡ x
    → ts ≡ (step_plan chart k.leaf names work.ev.sig).tasks → leaf ≡ (step_plan chart k.leaf names work.ev.sig).leaf → tasks_left ts leaf ≡ whole_step (actor_of me chart k) (config_of k) x
unfolding tasks_left whole_step
whole-left me chart k work ts leaf names x same ev tasks last = rw (sym ev, tasks, last, same) refl

-- What the event of a reference has.

pub params-most : (sys : System) (sig : ℕ) → IsSound sys → params_of sys sig ≤ 8
params-most sys sig sound = go (slice_get sys.signals (sig - 4)) refl
  where
    go : (o : Option SignalDef) → slice_get sys.signals (sig - 4) ≡ o → option_map_or (λ (d : SignalDef). d.params) o 0 ≤ 8
    go None at = omega arith
    go (Some d) at = every-at (λ (x : SignalDef). x.params ≤ 8) sys.signals sound.params (sig - 4) d at

pub take-one : (xs : List ℕ) (j x : ℕ) → slice_get xs j ≡ Some x → take j xs ++ x ∷ [] ≡ take (j + 1) xs
take-one xs j x at = let next : j + 1 ≡ suc j = omega arith in rw next (by xs j at)
  where
    by : (xs : List ℕ) (j : ℕ) → slice_get xs j ≡ Some x → take j xs ++ x ∷ [] ≡ take (suc j) xs
    by [] j at = absurd (cc)
    by (y ∷ ys) zero at = let same : y ≡ x = cc in rw same refl
    by (y ∷ ys) (suc j) at = ap (λ zs. y ∷ zs) (by ys j at)

pub take-whole : (xs : List ℕ) (j : ℕ) → length xs ≡ j → take j xs ≡ xs
take-whole [] j h = by j
  where
    by : (j : ℕ) → take {A = ℕ} j [] ≡ []
    by zero = refl
    by (suc j) = refl
take-whole (x ∷ xs) zero h = absurd (omega (arith, h))
take-whole (x ∷ xs) (suc j) h = ap (λ ys. x ∷ ys) (take-whole xs j (omega (arith, h)))

pub event-parts : (x : Event) (sig : ℕ) (pars : List ℕ) → sig ≡ x.sig → pars ≡ x.pars → record { sig = sig; pars = pars } ≡ x
event-parts x sig pars s p = rw (s, p) refl
