-- Before the first start, and behind the last.
use Rattle.std.proofs.Common.{◌≡◌, ℕ, suc, ◌+◌, ◌<◌, ◌==◌, cond, Bool, true, false, ◌||◌, List, [], ◌∷◌, ◌++◌, map, length, refl, sym, ◌∙◌, ap, subst, Option, Some, None, arith}
use Rattle.std.specs.Prelude.{slice_get}
use Rattle.std.specs.List.{AllByRecursion, find, list_all}
use Rattle.qp_chart.specs.StateTree.{has}
use Rattle.qp_chart.specs.declared.checked.Chart.{Chart}
use Rattle.qp_model.specs.declared.stimulus.Stim.{Stim}
use Rattle.qp_model.specs.declared.systems.System.{System}
use Rattle.qp_model.specs.declared.systems.ObjectDef.{ObjectDef}
use Rattle.qp_model.specs.Course.{chart_at}
use Rattle.qp_model.specs.KernelLane.{unread}
use Rattle.qp_model.specs.Sites.{object_at}
use Rattle.qp_model.specs.Sound.{IsSound}
use Rattle.qp_model.specs.Sources.{SourceRuns}
use Rattle.qp_model_order.specs.RunOrder.{has_stim}
use Rattle.qp_model_order.proofs.OrderLaws.{order_begins}
use Rattle.qp_calls.specs.Tokens.{Token}
use Rattle.qp_calls.specs.Clauses.{entry_of}
use Rattle.qp_calls.specs.Counting.{count_of, times}
use Rattle.qp_calls.specs.Deferring.{is_named, tokens_in}
use Rattle.qp_calls.specs.LaneView.{IsNew, LaneView, ceiling_in}
use Rattle.qp_dispatch.specs.declared.objects.Object.{Object}
use Rattle.qp_dispatch.specs.Objects.{IsObjectMade}
use Rattle.qp_dispatch.specs.Resume.{held_in}
use Rattle.qp_kernel.specs.Happenings.{IsInOrder, SourcesMarch, begun_by, lanes_from, lanes_of, rises, run_order, told_by_source}
use Rattle.qp_kernel.specs.Stages as stage
use Rattle.qp_kernel.proofs.KernelLaws.{lane_begins}
use Rattle.qp_kernel_turns.specs.declared.objects.Objects.{Objects}
use Rattle.qp_kernel_turns.specs.declared.objects.Slot.{Slot}
use Rattle.qp_kernel_turns.specs.Objects.{AreMade, IsPlace}
use Rattle.qp_kernel_turns.specs.Knowing.{KnowsAt, KnowsObject, MayLook, kept_count, own_count}
use Rattle.qp_kernel_turns.specs.Starting.{HasBegun, HaveBegun, IsFreshLane, priorities_from}
use Rattle.qp_kernel_turns.proofs.SoundObjects.{numbered, sound-object}
use Rattle.qp_kernel.specs.Turning.{Terms}
use Rattle.qp_model.proofs.AbleLemmas.{some-same}
use Rattle.qp_model.proofs.ListLemmas.{some-there}

-- The order of a lane that has done nothing.

lanes-empty : (n : ℕ) (plan : List (List Stim)) → AllByRecursion (λ l. l ≡ []) (lanes_from n plan [])
unfolding lanes_from told_by_source
lanes-empty n [] = tt
lanes-empty n (ss ∷ more) = (refl, lanes-empty (n + 1) more)

no-stims : (n k : ℕ) (plan : List (List Stim)) → has_stim (lanes_from n plan []) k ≡ false
unfolding lanes_from told_by_source
no-stims n k [] = refl
no-stims n k (ss ∷ more) = no-stims (n + 1) k more

march-begins : (sys : System) (n : ℕ) (plan : List (List Stim)) → SourcesMarch sys n plan []
unfolding SourcesMarch begun_by told_by_source SourceRuns
march-begins sys n [] = tt
march-begins sys n (ss ∷ more) = (record { alone = refl; runs = (refl, refl); calm = refl; settled = refl }, march-begins sys (n + 1) more)

order-begins : (sys : System) (v : LaneView) → IsNew v → IsInOrder sys 0 v
unfolding run_order rises
order-begins sys v new = record {
  order = rw (new.told, new.happened) (order_begins sys v.plan (lanes_from 1 v.plan []) (lanes-empty 1 v.plan));
  sources = rw (new.happened) (march-begins sys 1 v.plan);
  rises = rw (new.happened, new.told) refl;
}

-- Objects before their start.

has-found : (ds : List ObjectDef) (o : ℕ) (d : ObjectDef) → find (λ x. x.priority == o) ds ≡ Some d → has (map (λ x. x.priority) ds) o ≡ true
has-found [] o d h = absurd (cc)
has-found (x ∷ xs) o d h = by (x.priority == o) h (λ k. has-found xs o d k)
  where
    by : (b : Bool) → cond b (Some x) (find (λ y. y.priority == o) xs) ≡ Some d → (find (λ y. y.priority == o) xs ≡ Some d → has (map (λ y. y.priority) xs) o ≡ true) → (b || has (map (λ y. y.priority) xs) o) ≡ true
    by true k go = refl
    by false k go = go k

pub made-held : (d : ObjectDef) (chart : Chart) (x : Object) → IsObjectMade d chart x → held_in x.lasting x.stage ≡ []
made-held d chart x made = ap (held_in x.lasting) made.between ∙ ap (λ es. es ++ []) made.first.empty

pub kept-none : (t : Token) (slots : List (Option Slot)) → ((p : ℕ) (slot : Slot) → slice_get slots p ≡ Some (Some slot) → held_in slot.object.lasting slot.object.stage ≡ []) → kept_count t slots ≡ 0
unfolding kept_count times
kept-none t [] none = refl
kept-none t (None ∷ xs) none = kept-none t xs (λ p slot at. none (suc p) slot at)
kept-none t (Some x ∷ xs) none =
    let own : own_count t x.object ≡ 0 = ap (λ es. count_of t (tokens_in (map entry_of es))) (none 0 x refl) in
    let rest = kept-none t xs (λ p slot at. none (suc p) slot at) in
    omega (arith, own, rest)

made-object : (sys : System) (xs : Objects) (v : LaneView) (d : ObjectDef) (chart : Chart) → IsSound sys → AreMade sys xs → object_at sys d.priority ≡ Some d → chart_at sys d.chart ≡ Some chart
    → KnowsObject sys d chart xs v stage.Unstarted 0
made-object sys xs v d chart sound made found its = by there.0 there.1 (made.each d.priority there.0 there.1)
  where
    few : d.priority < length xs.slots.items
    few = let is = sound-object sys sound d.priority d found in omega (arith, is.threshold, is.few_thresholds, made.places)

    there : (o : Option Slot) × (slice_get xs.slots.items d.priority ≡ Some o)
    there = some-there xs.slots.items d.priority few

    by : (o : Option Slot) → slice_get xs.slots.items d.priority ≡ Some o → IsPlace sys d.priority o → KnowsObject sys d chart xs v stage.Unstarted 0
    by None at none = let wrong : None ≡ Some d = sym none ∙ found in absurd (cc)
    by (Some slot) at is =
        let same : is.0.object ≡ d = some-same (sym is.0.of ∙ found) in
        let drawn : is.0.chart ≡ chart = some-same (sym is.0.has ∙ ap (λ x. chart_at sys x.chart) same ∙ its) in
        let one : IsObjectMade d is.0.chart slot.object = subst (λ x. IsObjectMade x is.0.chart slot.object) same is.0.made in
        let new : IsObjectMade d chart slot.object = subst (λ x. IsObjectMade d x slot.object) drawn one in
        record {
          slot = slot;
          there = at;
          is = record {
            threshold = is.1 d found;
            me = new.me;
            of = new.of;
            compiled = new.compiled;
            room = new.first.room;
            named = subst (λ es. list_all (is_named sys) es ≡ true) (sym (made-held d chart slot.object new)) refl;
            taken = new.taken;
            stage = record { unstarted = new.unstarted; between = new.between; first = new.first };
          };
        }

-- before the first start
pub begun : (sys : System) (xs : Objects) (v : LaneView) → IsSound sys → AreMade sys xs → IsFreshLane sys v → HaveBegun sys (priorities_from sys 0) xs v
unfolding unread object_at ceiling_in
begun sys xs v sound made fresh = record { knows = knows; order = order-begins sys v fresh.new; no_stim = rw (fresh.new.told) refl }
  where
    now : ℕ → Bool
    now = has_stim (lanes_of v)

    none : (t : Token) → kept_count t xs.slots.items ≡ 0
    none t = kept-none t xs.slots.items (λ p slot at. let is = made.each p (Some slot) at in made-held is.0.object is.0.chart slot.object is.0.made)

    knows : (terms : Terms) → KnowsAt (HasBegun sys (priorities_from sys 0)) sys terms 0 [] xs v
    knows terms = record {
      knows = record {
        state = record { told = []; now = has_stim (lanes_of v); upto = 0; reading = unread sys; owed = 0; stages = λ o. stage.Unstarted; entries = λ o. [] };
        told = sym fresh.new.told;
        stands = lane_begins sys terms (has_stim (lanes_of v)) 0 (numbered sys sound);
        counted = refl;
        ceiling = sym made.ceiling;
        lane = record { of = fresh.of; told = rw (fresh.new.told) made.ceiling; spills = rw (fresh.new.told) refl; serves = fresh.serves };
        running = refl;
        settled = refl;
        now = refl;
        later = λ n lt. rw (fresh.new.happened) (no-stims 1 n v.plan);
        objects = λ d chart found its. made-object sys xs v d chart sound made found its;
        hands = λ t. let k = none t in omega (arith, k);
      };
      at = record {
        unstarted = refl;
        fresh = λ o is. refl;
        rests = λ d found no. let wrong : true ≡ false = sym (has-found sys.objects d.priority d found) ∙ no in absurd (cc);
        owed = refl;
        base = refl;
        place = refl;
        idle = refl;
      };
    }

-- behind the last
pub all-begun : (sys : System) (terms : Terms) (xs : Objects) (v : LaneView) → KnowsAt (HasBegun sys []) sys terms 0 [] xs v → KnowsAt (MayLook sys terms) sys terms 0 [] xs v
all-begun sys terms xs v k = record {
  knows = k.knows;
  at = record {
    stack = record {
      started = k.at.unstarted;
      named = rw (k.at.base) tt;
      descends = rw (k.at.base) tt;
      rests = λ d found none. k.at.rests d found refl;
      waits = λ o is. let wrong : true ≡ false = sym is ∙ ap (λ ps. has ps o) k.at.base in absurd (cc);
    };
    place = rw (k.at.place, k.at.base) tt;
    owed = rw (k.at.place, k.at.base) (k.at.owed);
  };
}
