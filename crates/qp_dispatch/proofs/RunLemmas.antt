-- Runs of an agenda, part after part.
use Rattle.std.proofs.Common.{◌≡◌, ℕ, zero, suc, ◌/◌, ◌%◌, ◌^◌, ◌==◌, ◌<◌, ◌≤◌, Bool, true, false, List, [], ◌∷◌, ◌++◌, length, drop, refl, sym, ◌∙◌, ap, subst, arith, inl, inr, ◌⊎◌, Option, Some, None, append_assoc, append-nil, is_some, if◌then◌else◌}
use Rattle.std.specs.Prelude.{pos}
use Rattle.std.specs.List.{AllByRecursion, list_all}
use Rattle.qp_chart.specs.Task.{Task}
use Rattle.qp_model.specs.declared.systems.System.{System}
use Rattle.qp_model.specs.declared.bodies.Body.TheVariants as item
use Rattle.qp_model.specs.Told.{Told, plain}
use Rattle.qp_model.specs.Parts.{members, members_below}
use Rattle.qp_model.specs.Shapes.{Drops, Posts, PostsOne, PublishesLast, restoring}
use Rattle.qp_model.specs.Pieces.{Piece, Point, records_in, tell}
use Rattle.qp_model.specs.Acts.{Config, Actor, Moment}
use Rattle.qp_model.specs.Step.{Publishing, GoesOnPublishing, DoesLeft, tasks_left, publishing_left}
use Rattle.qp_model.specs.Standing.{AgendaReaches}
use Rattle.qp_model.specs.Able.{task_able}
use Rattle.qp_model.proofs.Completes.{completes, release, release_drops, again_any}
use Rattle.qp_model.proofs.GroupLemmas.{bare-append, bare-tell}
use Rattle.qp_model.proofs.PublicationLemmas.{tell-append}
use Rattle.qp_model.proofs.ReachLemmas.{reaches-none, reaches-trans, reaches-asserted}
use Rattle.qp_calls.specs.declared.tokens.HeldEntry.{HeldEntry}
use Rattle.qp_calls.specs.declared.answers.RoomFault.{RoomFault}
use Rattle.qp_chart_compiled.specs.AsTask.{first_task}
use Rattle.qp_calls.specs.LaneView.{LaneView, Grows}
use Rattle.qp_calls.specs.Clauses.{IsFault}
use Rattle.qp_calls.specs.Deferring.{StandAll, is_named, kept_in}
use Rattle.qp_calls.proofs.Growing.{gains-none, grows-then}
use Rattle.qp_dispatch.specs.declared.lasting.Lasting.{Lasting}
use Rattle.qp_dispatch.specs.declared.part.Under.{Under}
use Rattle.qp_dispatch.specs.declared.part.Part.{Part}
use Rattle.qp_dispatch.specs.declared.part.Part.TheVariants as part
use Rattle.qp_dispatch.specs.declared.work.Work.{Work}
use Rattle.qp_dispatch.specs.Lasts.{config_of, actor_of, moment_of_work}
use Rattle.qp_dispatch.specs.CallsDone.{StandsIn}
use Rattle.qp_dispatch.specs.Acting.{ActionKeeps}
use Rattle.qp_dispatch.specs.Parts.{PartGoes, Asserts, CutShort, FewerLeft, GoesFurther, IsPublishing, Parts, held_by, left_by, publishing_of, entries_under}
use Rattle.qp_dispatch.specs.SoundFor.{MayTask}
use Rattle.qp_dispatch.specs.Runs.{MayRun, NothingLeft, PartDoes, RunAsserts, RunCut, Runs, ObjectSetting, hand_of, weight}
use Rattle.qp_dispatch.proofs.ActLemmas.{counts-join, all-right}
use Rattle.qp_dispatch.proofs.FailLemmas.{left-tells, point-behind}
use Rattle.qp_dispatch.proofs.PartLemmas.{stand-fewer, stand-in}
use Rattle.qp_model.proofs.ListLemmas.{list_all-front, every-behind}

-- What a run rests on, at each part.

pub stand-left : (es fs : List HeldEntry) (v : LaneView) → StandAll (es ++ fs) v → StandAll es v
stand-left es fs v all = stand-fewer (es ++ fs) es v (list_all-front (λ e. is_named v.sys e) es fs all.named) (λ t. omega (arith, counts-join t es fs)) all

pub stand-hand : (es : List HeldEntry) (hand : Option HeldEntry) (v : LaneView) → StandAll (es ++ hand_of hand) v → StandsIn hand v
stand-hand es None v all = tt
stand-hand es (Some e) v all = stand-in es e [] v all

pub stand-list : (k : Lasting) (u : Option Under) (hand : Option HeldEntry) (v : LaneView) → StandAll (held_by k u ++ hand_of hand) v → StandAll k.list.entries.items v
stand-list k u hand v all = stand-left k.list.entries.items (entries_under u) v (stand-left (held_by k u) (hand_of hand) v all)

pub stand-under : (k : Lasting) (u : Option Under) (from : Under) (hand : Option HeldEntry) (v : LaneView) → u ≡ Some from → StandAll (held_by k u ++ hand_of hand) v → StandAll (held_by k (Some from)) v
stand-under k u from hand v is all = stand-left (held_by k (Some from)) (hand_of hand) v (subst (λ o. StandAll (held_by k o ++ hand_of hand) v) is all)

-- Weights.

below-few : (n set : ℕ) → length (members_below n set) ≤ n
unfolding members_below
below-few zero set = omega arith
below-few (suc n) set = go ((set / 2 ^ n) % 2 == 1) (below-few n set)
  where
    go : (b : Bool) → length (members_below n set) ≤ n → length (if b then suc n ∷ members_below n set else members_below n set) ≤ suc n
    go true h = omega (arith, h)
    go false h = omega (arith, h)

members-few : (set : ℕ) → length (members set) ≤ 32
unfolding members
members-few set = below-few 32 set

pub task-less : (y : Option Under) (t : Task) (ts : List Task) → weight y ts < weight None (t ∷ ts)
task-less None t ts = omega arith
task-less (Some u) t ts = let few = members-few u.publication.left in omega (arith, few)

pub under-less : (from : Under) (y : Option Under) (ts : List Task) → FewerLeft from y → weight y ts < weight (Some from) ts
under-less from None ts h = omega arith
under-less from (Some u) ts h = omega (arith, h)

pub first-split : (t : Task) (ts : List Task) → Some t ≡ first_task ts → ts ≡ t ∷ drop 1 ts
first-split t [] h = absurd (cc)
first-split t (x ∷ ts) h = let same : t ≡ x = cc in rw same refl

-- a part of a publication under way
pub part-under : (home : ObjectSetting) (work : Work) (ceiling later : ℕ) (k : Lasting) (u : Option Under) (from : Under) (ts : List Task) (m : Lasting) (y : Option Under) (v w : LaneView) (p : Part)
    → u ≡ Some from → ((at : Moment) → Parts home.me at [] ceiling later k (Some from) m y v w p) → FewerLeft from y → PartDoes home work ceiling later k u ts m y ts v w p
part-under home work ceiling later k u from ts m y v w p is goes fewer = rw is (record { pre = []; split = refl; does = goes (moment_of_work work); less = under-less from y ts fewer })

-- a task
pub part-task : (home : ObjectSetting) (work : Work) (ceiling later : ℕ) (k : Lasting) (u : Option Under) (t : Task) (ts rest : List Task) (m : Lasting) (y : Option Under) (v w : LaneView) (p : Part)
    → u ≡ None → Some t ≡ first_task ts → rest ≡ drop 1 ts → Parts home.me (moment_of_work work) (t ∷ []) ceiling later k None m y v w p → PartDoes home work ceiling later k u ts m y rest v w p
part-task home work ceiling later k u t ts rest m y v w p is at next does =
    let split : ts ≡ t ∷ rest = first-split t ts at ∙ ap (λ x. t ∷ x) (sym next) in
    rw is (record { pre = t ∷ []; split = split; does = does; less = subst (λ x. weight y rest < weight None x) (sym split) (task-less y t rest) })

-- what a run rests on stays
pub may-on : (stops : Bool) (home : ObjectSetting) (at : Moment) (hand : Option HeldEntry) (ceiling later : ℕ) (k : Lasting) (u : Option Under) (ts : List Task) (m : Lasting) (y : Option Under) (rest : List Task)
    (v w : LaneView) → MayRun home hand k u ts ceiling v → Runs stops home at [] ceiling later k u ts m y rest v w → MayRun home hand m y rest later w
may-on stops home at hand ceiling later k u ts m y rest v w may r = record {
  of = r.grows.sys ∙ may.of;
  mine = r.grows.by ∙ may.mine;
  some = may.some;
  serves = r.grows.serves home.me ∙ may.serves;
  may = every-behind (MayTask home.sys home.me hand) r.done rest (subst (λ us. AllByRecursion (MayTask home.sys home.me hand) us) r.split may.may);
  publishing = r.publishing;
  stand = r.stand (hand_of hand) may.stand;
  lane = r.lane may.lane;
}

-- what is left of an agenda can be done
pub complete-left : (sys : System) (a : Actor) (at : Moment) (u : Option Under) (ts : List Task) (leaf : ℕ) (c : Config) → list_all (task_able sys (is_some at.entry)) ts ≡ true → length c.kept ≤ a.room
    → (body : List Piece) × (end : Option Config) × DoesLeft sys a at (left_by u ts leaf).publishing (left_by u ts leaf).posts (left_by u ts leaf).tasks c body end
unfolding DoesLeft GoesOnPublishing PostsOne Posts PublishesLast Drops tasks_left publishing_left
complete-left sys a at None ts leaf c able few = completes sys a at ts c able few
complete-left sys a at (Some u) ts leaf c able few = by (members u.publication.left)
  where
    p : Publishing
    p = publishing_of u

    Can : List ℕ → Type 0
    Can posts = (body : List Piece) × (end : Option Config) × DoesLeft sys a at (Some p) posts ts c body end

    by : (posts : List ℕ) → Can posts
    by [] =
        let last : List Told = restoring a.o p.former p.members ++ release p.entry.pool p.entry in
        let rest = completes sys a at ts (record c { ok = pos 1 }) able few in
        (tell last ++ (Point ∷ rest.0), rest.1, (last, rest.0, (release p.entry.pool p.entry, release_drops p.entry.pool p.entry, refl), refl, rest.2))
    by (to ∷ others) =
        let made = again_any p.entry in
        let g : List Told = made.0 ++ (plain (item.NoEntry to 0 0 0) ∷ []) in
        (tell g, None, inl (g, (made.0, made.1, made.2, (0, 0, 0, refl)), refl, refl))

-- A run grows by a part.

same-actor : (home : ObjectSetting) (k m : Lasting) → ActionKeeps k m → actor_of home.me home.chart m ≡ actor_of home.me home.chart k
same-actor home k m keeps = ap (λ room. record { o = home.me; chart = home.chart; room = room }) keeps.room

module _ (stops : Bool) (home : ObjectSetting) (at : Moment) (ceiling : ℕ) (k : Lasting) (u : Option Under) (ts : List Task) (v : LaneView) where
  pub runs-none : IsPublishing u v → Runs stops home at [] ceiling ceiling k u ts k u ts v v
  unfolding records_in
  runs-none publishing = record {
    ps = [];
    grows = gains-none v;
    plain = λ e. refl;
    reaches = λ leaf. reaches-none v.sys (actor_of home.me home.chart k) at (left_by u ts leaf) (config_of k);
    done = [];
    split = refl;
    lane = λ here. here;
    spills = λ none. none;
    keeps = record { leaf = refl; room = refl; few = λ few. few };
    hands = λ t. refl;
    stand = λ others all. all;
    publishing = publishing;
  }

  module _ (mid later : ℕ) (l m : Lasting) (x y : Option Under) (pre mids rest : List Task) (w z : LaneView) (r : Runs stops home at [] ceiling mid k u ts l x mids v w) (split : mids ≡ pre ++ rest) where
    -- what a part reaches, a run reaches behind it
    reached : (points : List Piece) (h : PartGoes home.me at pre points mid later l x m y w z) (leaf : ℕ)
        → AgendaReaches v.sys (actor_of home.me home.chart k) at (left_by u ts leaf) (config_of k) (r.ps ++ (tell h.g ++ points)) (left_by y rest leaf) (config_of m)
    reached points h leaf =
        let before : AgendaReaches v.sys (actor_of home.me home.chart k) at (left_by u ts leaf) (config_of k) r.ps (left_by x mids leaf) (config_of l) =
        subst (λ ps. AgendaReaches v.sys (actor_of home.me home.chart k) at (left_by u ts leaf) (config_of k) ps (left_by x mids leaf) (config_of l)) (append-nil r.ps) (r.reaches leaf) in
        let here : AgendaReaches w.sys (actor_of home.me home.chart l) at (left_by x mids leaf) (config_of l) (tell h.g ++ points) (left_by y rest leaf) (config_of m) =
        subst (λ us. AgendaReaches w.sys (actor_of home.me home.chart l) at (left_by x us leaf) (config_of l) (tell h.g ++ points) (left_by y rest leaf) (config_of m)) (sym split) (h.reaches home.chart rest leaf) in
        let there : AgendaReaches v.sys (actor_of home.me home.chart k) at (left_by x mids leaf) (config_of l) (tell h.g ++ points) (left_by y rest leaf) (config_of m) =
        subst (λ a. AgendaReaches v.sys a at (left_by x mids leaf) (config_of l) (tell h.g ++ points) (left_by y rest leaf) (config_of m)) (same-actor home k l r.keeps)
        (subst (λ s. AgendaReaches s (actor_of home.me home.chart l) at (left_by x mids leaf) (config_of l) (tell h.g ++ points) (left_by y rest leaf) (config_of m)) r.grows.sys here) in
        reaches-trans v.sys (actor_of home.me home.chart k) at (left_by u ts leaf) (left_by x mids leaf) (left_by y rest leaf) (config_of k) (config_of l) (config_of m) r.ps (tell h.g ++ points) before there

    bare-more : (g : List Told) → records_in (r.ps ++ tell g) ≡ records_in r.ps ++ g
    bare-more g = bare-append r.ps (tell g) ∙ ap (λ x. records_in r.ps ++ x) (bare-tell g)

    tells-more : (g : List Told) → stops ≡ true → r.ps ++ tell g ≡ tell (records_in (r.ps ++ tell g))
    tells-more g e = ap (λ x. x ++ tell g) (r.plain e) ∙ sym (tell-append (records_in r.ps) g) ∙ ap tell (sym (bare-more g))

    split-more : ts ≡ (r.done ++ pre) ++ rest
    split-more = r.split ∙ ap (λ x. r.done ++ x) split ∙ sym (append_assoc r.done pre rest)

    grows-more : (g : List Told) → Grows g w z → Grows (records_in (r.ps ++ tell g)) v z
    grows-more g h = subst (λ x. Grows x v z) (sym (bare-more g)) (grows-then (records_in r.ps) g v w z r.grows h)

    keeps-then : ActionKeeps l m → ActionKeeps k m
    keeps-then h = record {
      leaf = h.leaf ∙ r.keeps.leaf;
      room = h.room ∙ r.keeps.room;
      few = λ few. subst (λ n. length (kept_in m.list) ≤ n) r.keeps.room (h.few (subst (λ n. length (kept_in l.list) ≤ n) (sym r.keeps.room) (r.keeps.few few)));
    }

    -- with the points behind the part
    pub runs-then : (points : List Piece) → PartGoes home.me at pre points mid later l x m y w z → Runs stops home at points ceiling later k u ts m y rest v z
    runs-then points h = record {
      ps = r.ps ++ tell h.g;
      grows = grows-more h.g h.grows;
      plain = tells-more h.g;
      reaches = λ leaf.
          subst (λ ps. AgendaReaches v.sys (actor_of home.me home.chart k) at (left_by u ts leaf) (config_of k) ps (left_by y rest leaf) (config_of m)) (sym (append_assoc r.ps (tell h.g) points)) (reached points h leaf);
      done = r.done ++ pre;
      split = split-more;
      lane = λ here. h.lane (r.lane here);
      spills = λ none. h.spills (r.spills none);
      keeps = keeps-then h.keeps;
      hands = λ t. omega (arith, r.hands t, h.hands t);
      stand = λ others all. h.stand others (r.stand others all);
      publishing = h.publishing;
    }

    pub runs-asserts : (code : ℕ) → Asserts home.me at pre code l x m y w z → RunAsserts stops home at code k u ts m y v z
    runs-asserts code h = record {
      ps = r.ps ++ tell h.g;
      grows = grows-more h.g h.grows;
      plain = tells-more h.g;
      does = λ leaf. ended leaf;
      some = h.some;
      last = h.last;
      stand = λ others all. h.stand others (r.stand others all);
    }
      where
        ended : (leaf : ℕ) → DoesLeft v.sys (actor_of home.me home.chart k) at (left_by u ts leaf).publishing (left_by u ts leaf).posts (left_by u ts leaf).tasks (config_of k) (r.ps ++ tell h.g) None
        ended leaf =
            let before : AgendaReaches v.sys (actor_of home.me home.chart k) at (left_by u ts leaf) (config_of k) r.ps (left_by x mids leaf) (config_of l) =
            subst (λ ps. AgendaReaches v.sys (actor_of home.me home.chart k) at (left_by u ts leaf) (config_of k) ps (left_by x mids leaf) (config_of l)) (append-nil r.ps) (r.reaches leaf) in
            let here = subst
            (λ us. DoesLeft w.sys (actor_of home.me home.chart l) at (left_by x us leaf).publishing (left_by x us leaf).posts (left_by x us leaf).tasks (config_of l) (tell h.g) None) (sym split)
            (h.does home.chart rest leaf) in
            let there = subst
            (λ a. DoesLeft v.sys a at (left_by x mids leaf).publishing (left_by x mids leaf).posts (left_by x mids leaf).tasks (config_of l) (tell h.g) None) (same-actor home k l r.keeps)
            (subst (λ s. DoesLeft s (actor_of home.me home.chart l) at (left_by x mids leaf).publishing (left_by x mids leaf).posts (left_by x mids leaf).tasks (config_of l) (tell h.g) None) r.grows.sys here) in
            reaches-asserted v.sys (actor_of home.me home.chart k) at (left_by u ts leaf) (left_by x mids leaf) (config_of k) (config_of l) r.ps (tell h.g) before there

    -- what was cut could go on to the end
    pub runs-cut : list_all (task_able v.sys (is_some at.entry)) ts ≡ true → length (kept_in k.list) ≤ k.list.entries.capacity
        → CutShort home.me at pre l x m y w z → RunCut stops home at k u ts m y v z
    unfolding AgendaReaches tasks_left
    runs-cut able few h = record {
      ps = r.ps ++ tell h.g;
      grows = grows-more h.g h.grows;
      plain = tells-more h.g;
      begins = λ leaf. by leaf h.front;
      spills = λ none. h.spills (r.spills none);
      stand = λ others all. h.stand others (r.stand others all);
    }
      where
        a : Actor
        a = actor_of home.me home.chart k

        Begun : ℕ → List Piece → Type 0
        Begun leaf ps = (more : List Piece) × (end : Option Config)
            × DoesLeft v.sys a at (left_by u ts leaf).publishing (left_by u ts leaf).posts (left_by u ts leaf).tasks (config_of k) (ps ++ more) end × (end ≡ None → records_in more ≡ [] → ⊥)

        before : (leaf : ℕ) → AgendaReaches v.sys a at (left_by u ts leaf) (config_of k) r.ps (left_by x mids leaf) (config_of l)
        before leaf = subst (λ ps. AgendaReaches v.sys a at (left_by u ts leaf) (config_of k) ps (left_by x mids leaf) (config_of l)) (append-nil r.ps) (r.reaches leaf)

        able_mids : list_all (task_able v.sys (is_some at.entry)) mids ≡ true
        able_mids = all-right (task_able v.sys (is_some at.entry)) r.done mids (subst (λ us. list_all (task_able v.sys (is_some at.entry)) us ≡ true) r.split able)

        able_rest : list_all (task_able v.sys (is_some at.entry)) rest ≡ true
        able_rest = all-right (task_able v.sys (is_some at.entry)) pre rest (subst (λ us. list_all (task_able v.sys (is_some at.entry)) us ≡ true) split able_mids)

        by : (leaf : ℕ) → (h.g ≡ []) ⊎ GoesFurther home.me at pre l x h.g w → Begun leaf (r.ps ++ tell h.g)
        by leaf (inl none) =
            let rest = complete-left v.sys a at x mids leaf (config_of l) able_mids (r.keeps.few few) in
            let nothing : r.ps ++ tell h.g ≡ r.ps = ap (λ g. r.ps ++ tell g) none ∙ append-nil r.ps in
            subst (λ ps. Begun leaf ps) (sym nothing) (rest.0, rest.1, before leaf rest.0 rest.1 rest.2, λ fails. left-tells v.sys a at x mids leaf (config_of l) rest.0 rest.1 fails rest.2)
        by leaf (inr f) =
            let on = complete-left v.sys a at None rest leaf f.after able_rest (subst (λ n. length f.after.kept ≤ n) r.keeps.room f.few) in
            let here : AgendaReaches w.sys (actor_of home.me home.chart l) at (left_by x mids leaf) (config_of l) (tell (h.g ++ f.rest) ++ Point ∷ []) (tasks_left rest leaf) f.after =
            subst (λ us. AgendaReaches w.sys (actor_of home.me home.chart l) at (left_by x us leaf) (config_of l) (tell (h.g ++ f.rest) ++ Point ∷ []) (tasks_left rest leaf) f.after) (sym split) (f.reaches home.chart rest leaf) in
            let there : AgendaReaches v.sys a at (left_by x mids leaf) (config_of l) (tell (h.g ++ f.rest) ++ Point ∷ []) (tasks_left rest leaf) f.after =
            subst (λ b. AgendaReaches v.sys b at (left_by x mids leaf) (config_of l) (tell (h.g ++ f.rest) ++ Point ∷ []) (tasks_left rest leaf) f.after) (same-actor home k l r.keeps)
            (subst (λ s. AgendaReaches s (actor_of home.me home.chart l) at (left_by x mids leaf) (config_of l) (tell (h.g ++ f.rest) ++ Point ∷ []) (tasks_left rest leaf) f.after) r.grows.sys here) in
            let whole = before leaf ((tell (h.g ++ f.rest) ++ Point ∷ []) ++ on.0) on.1 (there on.0 on.1 on.2) in
            let same : r.ps ++ ((tell (h.g ++ f.rest) ++ Point ∷ []) ++ on.0) ≡ (r.ps ++ tell h.g) ++ (tell f.rest ++ (Point ∷ on.0)) =
            ap (λ x. r.ps ++ ((x ++ Point ∷ []) ++ on.0)) (tell-append h.g f.rest)
            ∙ ap (λ x. r.ps ++ x) (append_assoc (tell h.g ++ tell f.rest) (Point ∷ []) on.0 ∙ append_assoc (tell h.g) (tell f.rest) (Point ∷ on.0))
            ∙ sym (append_assoc r.ps (tell h.g) (tell f.rest ++ (Point ∷ on.0))) in (
              tell f.rest ++ (Point ∷ on.0),
              on.1,
              subst (λ ps. DoesLeft v.sys a at (left_by u ts leaf).publishing (left_by u ts leaf).posts (left_by u ts leaf).tasks (config_of k) ps on.1) same whole,
              λ fails is. left-tells v.sys a at None rest leaf f.after on.0 on.1 fails on.2 (point-behind (tell f.rest) (tell f.rest ++ (Point ∷ on.0)) on.0 is refl),
            )

    -- what a part did to the run
    pub part-on : (p : Part) → Parts home.me at pre mid later l x m y w z p → p ≡ part.On → Runs stops home at [] ceiling later k u ts m y rest v z
    part-on p d is = runs-then [] (subst (λ q. Parts home.me at pre mid later l x m y w z q) is d)

    pub part-point : (p : Part) → Parts home.me at pre mid later l x m y w z p → p ≡ part.Point → Runs stops home at (Point ∷ []) ceiling later k u ts m y rest v z
    part-point p d is = runs-then (Point ∷ []) (subst (λ q. Parts home.me at pre mid later l x m y w z q) is d)

    pub part-asserts : (code : ℕ) (p : Part) → Parts home.me at pre mid later l x m y w z p → p ≡ part.Asserted code → RunAsserts stops home at code k u ts m y v z
    part-asserts code p d is = runs-asserts code (subst (λ q. Parts home.me at pre mid later l x m y w z q) is d)

    pub part-cut : (fault : RoomFault) (p : Part) → list_all (task_able home.sys (is_some at.entry)) ts ≡ true → v.sys ≡ home.sys → length (kept_in k.list) ≤ k.list.entries.capacity
        → Parts home.me at pre mid later l x m y w z p → p ≡ part.Cut fault → RunCut stops home at k u ts m y v z × IsFault z fault
    part-cut fault p able of few d is =
        let h : CutShort home.me at pre l x m y w z × IsFault z fault = subst (λ q. Parts home.me at pre mid later l x m y w z q) is d in
        (runs-cut (rw of able) few h.0, h.1)

  -- nothing is left
  pub runs-over : (mid later : ℕ) (l m : Lasting) (x y : Option Under) (mids : List Task) (w z : LaneView) → Runs stops home at [] ceiling mid k u ts l x mids v w → NothingLeft mid later l x mids m y w z
      → Runs stops home at [] ceiling later k u ts m None [] v z
  runs-over mid later l m x y mids w z r n =
      rw (n.still, n.lasting, n.lane)
      (subst (λ o. Runs stops home at [] ceiling mid k u ts l o [] v w) n.none (subst (λ us. Runs stops home at [] ceiling mid k u ts l x us v w) n.tasks r))

  -- a run that doesn't stop goes on behind a point
  pub runs-past : (later : ℕ) (m : Lasting) (y : Option Under) (rest : List Task) (z : LaneView) → stops ≡ false → Runs stops home at (Point ∷ []) ceiling later k u ts m y rest v z
      → Runs stops home at [] ceiling later k u ts m y rest v z
  unfolding records_in
  runs-past later m y rest z never r =
      let same : records_in (r.ps ++ Point ∷ []) ≡ records_in r.ps = bare-append r.ps (Point ∷ []) ∙ append-nil (records_in r.ps) in
      record {
        ps = r.ps ++ Point ∷ [];
        grows = subst (λ g. Grows g v z) (sym same) r.grows;
        plain = λ e. let wrong : true ≡ false = sym e ∙ never in absurd (cc);
        reaches = λ leaf.
            subst (λ ps. AgendaReaches v.sys (actor_of home.me home.chart k) at (left_by u ts leaf) (config_of k) ps (left_by y rest leaf) (config_of m)) (sym (append-nil (r.ps ++ Point ∷ []))) (r.reaches leaf);
        done = r.done;
        split = r.split;
        lane = r.lane;
        spills = r.spills;
        keeps = r.keeps;
        hands = r.hands;
        stand = r.stand;
        publishing = r.publishing;
      }
