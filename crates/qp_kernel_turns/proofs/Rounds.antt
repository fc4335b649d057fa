-- From one look of a row to the next, and to its end.
use Rattle.std.proofs.Common.{◌≡◌, ℕ, suc, cond, ◌-◌, ◌==◌, Bool, true, false, List, [], ◌∷◌, ◌++◌, length, reverse, refl, sym, ◌∙◌, ap, subst, Some, None, arith}
use Rattle.std.specs.Prelude.{slice_get}
use Rattle.std.specs.List.{AllByRecursion, find}
use Rattle.std.specs.Option.{option_map_or}
use Rattle.std.proofs.lemmas.List.{reverse-append, reverse-reverse}
use Rattle.std.proofs.lemmas.Bool.Decides.{nat_tests}
use Rattle.std.proofs.lemmas.Bool.{or_right}
use Rattle.qp_chart.specs.StateTree.{has}
use Rattle.qp_model.specs.declared.systems.System.{System}
use Rattle.qp_model.specs.declared.systems.ObjectDef.{ObjectDef}
use Rattle.qp_model.specs.Kernels.{sim, qk, qv}
use Rattle.qp_model.specs.Sound.{IsSound}
use Rattle.qp_model.specs.KernelLane.{Again, Over, floor_in, looking_at, threshold_of}
use Rattle.qp_model.specs.Sites.{object_at}
use Rattle.qp_model_order.specs.RunOrder.{has_stim}
use Rattle.qp_calls.specs.LaneView.{LaneView}
use Rattle.qp_kernel.specs.Happenings.{lanes_of}
use Rattle.qp_kernel.specs.LaneZero.{row_of, setting}
use Rattle.qp_kernel.specs.Stages as stage
use Rattle.qp_kernel.specs.Stages.{Stage}
use Rattle.qp_kernel.specs.Turning.{IsLookPlace, KernelState, Terms, kernel_in}
use Rattle.qp_kernel.proofs.RowLemmas.{looking-again, looking-over, looking-over_qk, looking-within}
use Rattle.qp_kernel_turns.specs.declared.objects.Objects.{Objects}
use Rattle.qp_kernel_turns.specs.Objects.{threshold_in, threshold_there}
use Rattle.qp_kernel_turns.specs.Knowing.{HasStack, IsObjectWithChart, IsRunning, IsScanning, KnowsAt, MayLook, is_busy, is_paused}
use Rattle.qp_kernel_turns.specs.Turning.{AreHeld, Entered, GoesOnward, Idled, IsOver, Looked, Passed, Stepped, RunsTop, Stand, Stood, floor_of, row_below}
use Rattle.qp_kernel_turns.specs.Ordering.{AreSeenEmpty, IdlesInOrder, IsSeenEmpty, LookedInOrder, NoneActs, PassedInOrder}
use Rattle.qp_kernel_turns.proofs.SoundObjects.{numbered}
use Rattle.qp_kernel_turns.proofs.Places.{follow-none, follow-then}
use Rattle.qp_kernel_turns.proofs.Tops.{empty-is, some-last}
use Rattle.qp_kernel_turns.proofs.Rows.{SameButPlace, looking-same}
use Rattle.qp_model.proofs.NumberLemmas.{every}
use Rattle.qp_model.proofs.KernelLaneLemmas.{AllByRecursion-reverse}

-- Going onward.

pub onward-none : (xs : Objects) (v : LaneView) → GoesOnward xs v xs v
onward-none xs v = record { hands = follow-none xs v v refl; answered = refl; plan = refl }

pub onward-then : (xs : Objects) (v : LaneView) (ys : Objects) (w : LaneView) (zs : Objects) (u : LaneView) → GoesOnward xs v ys w → GoesOnward ys w zs u → GoesOnward xs v zs u
onward-then xs v ys w zs u one two = record { hands = follow-then xs v ys w zs u one.hands two.hands; answered = two.answered ∙ one.answered; plan = two.plan ∙ one.plan }

-- The thresholds of the objects under way.

pub held-of : (sys : System) (terms : Terms) (looks : ℕ) (stack : List ℕ) (xs : Objects) (v : LaneView) → KnowsAt (MayLook sys terms) sys terms looks stack xs v → AreHeld sys stack xs
unfolding threshold_of object_at
held-of sys terms looks stack xs v k =
    let names : AllByRecursion (IsObjectWithChart sys) (reverse stack) = subst (AllByRecursion (IsObjectWithChart sys)) k.knows.running k.at.stack.named in
    let straight : AllByRecursion (IsObjectWithChart sys) stack = subst (AllByRecursion (IsObjectWithChart sys)) (reverse-reverse stack) (AllByRecursion-reverse (IsObjectWithChart sys) (reverse stack) names) in
    every (IsObjectWithChart sys) (λ p. threshold_in xs.slots.items p ≡ threshold_of sys p)
    (λ p n.
    let o = k.knows.objects n.object n.chart n.found n.its in
    let here : threshold_of sys n.object.priority ≡ n.object.threshold = ap (λ d. option_map_or (λ x. x.threshold) d 0) n.found in
    let there : threshold_in xs.slots.items n.object.priority ≡ n.object.threshold = ap threshold_there o.there ∙ o.is.threshold in
    subst (λ q. threshold_in xs.slots.items q ≡ threshold_of sys q) n.is (there ∙ sym here))
    stack straight

-- At the end of a row.

kernel-is_qk : (terms : Terms) → terms.threaded ≡ true → kernel_in terms ≡ qk
kernel-is_qk terms threaded = ap (λ b. cond b qk (cond terms.cooperative qv sim)) threaded

module _ (sys : System) (terms : Terms) (looks : ℕ) (stack : List ℕ) (xs : Objects) (v : LaneView) (k : KnowsAt (IsScanning sys terms []) sys terms looks stack xs v) where
  abbrev s : KernelState
  s = k.knows.state

  same : SameButPlace k.at.here s.reading
  same = subst (SameButPlace k.at.here) (sym k.at.same) (looking-same sys terms s.now k.at.here [])

  has-first : (p : ℕ) (outer : List ℕ) → s.reading.running ≡ p ∷ outer → has s.reading.running p ≡ true
  has-first p outer is = let self : (p == p) ≡ true = grind (arith, nat_tests) in ap (λ ps. has ps p) is ∙ rw self refl

  paused-busy : (st : Stage) → is_paused st ≡ true → is_busy st ≡ true
  paused-busy (stage.Paused ev e left c) h = refl
  paused-busy stage.Unstarted h = absurd (cc)
  paused-busy (stage.Resting c) h = absurd (cc)
  paused-busy (stage.Begun ev e left c) h = absurd (cc)

  -- the step at the top goes on
  pub runs-on : (front : List ℕ) (p : ℕ) → stack ≡ front ++ p ∷ [] → KnowsAt (IsRunning sys p) sys terms looks stack xs v
  runs-on front p is =
      let running : s.reading.running ≡ p ∷ reverse front = k.knows.running ∙ ap reverse is ∙ reverse-append front (p ∷ []) in
      let paused : is_paused (s.stages p) ≡ true = k.at.stack.waits p (has-first p (reverse front) running) in
      record {
        knows = k.knows;
        at = record {
          outer = reverse front;
          stack = record {
            started = k.at.stack.started;
            named = k.at.stack.named;
            descends = k.at.stack.descends;
            rests = k.at.stack.rests;
            waits = λ o h. k.at.stack.waits o (ap (λ ps. has ps o) running ∙ or_right (p == o) (has (reverse front) o) h);
          };
          owed = k.at.owed;
          step = record {
            started = k.at.stack.started;
            running = running;
            inside = ap (λ r. r.place) (k.at.same ∙ looking-within (setting sys (kernel_in terms) s.now) k.at.here p (reverse front) (sym same.running ∙ running));
          };
          under_way = paused-busy (s.stages p) paused;
          behind = λ not. let wrong : true ≡ false = sym paused ∙ not in absurd (cc);
        };
      }

  pub base-is : stack ≡ [] → k.at.here.running ≡ []
  base-is none = sym same.running ∙ k.knows.running ∙ ap reverse none

  pub stim-is : (came : Bool) → has_stim (lanes_of v) looks ≡ came → s.now k.at.here.looks ≡ came
  stim-is came h = ap (λ f. f k.at.here.looks) k.knows.now ∙ ap (has_stim (lanes_of v)) (k.at.counted ∙ k.knows.settled) ∙ h

  -- the row at the base, where no `rest` comes
  plainly : (threaded : Bool) → terms.threaded ≡ threaded → terms.cooperative ≡ false → s.reading ≡ looking_at (setting sys (cond threaded qk sim) s.now) k.at.here []
  plainly threaded is plain =
      k.at.same ∙ ap (λ n. looking_at (setting sys n s.now) k.at.here []) (ap (λ b. cond b qk (cond terms.cooperative qv sim)) is ∙ ap (λ b. cond threaded qk (cond b qv sim)) plain)

  -- it goes on: under `qk` by another row
  pub looks-again : terms.cooperative ≡ false → stack ≡ [] → has_stim (lanes_of v) looks ≡ true → KnowsAt (MayLook sys terms) sys terms looks stack xs v
  looks-again plain none came = record {
    knows = k.knows;
    at = record {
      stack = k.at.stack;
      place = (by terms.threaded refl).0;
      owed = k.at.owed ∙ sym (by terms.threaded refl).1;
    };
  }
    where
      by : (threaded : Bool) → terms.threaded ≡ threaded → IsLookPlace (kernel_in terms) s.reading.place s.reading.running × (row_of s.reading.place s.reading.running ≡ 0)
      by false is =
          let at : s.reading.place ≡ Again = ap (λ r. r.place) (plainly false is plain ∙ looking-again sys s.now k.at.here (base-is none) (stim-is true came)) in
          (subst (λ pl. IsLookPlace (kernel_in terms) pl s.reading.running) (sym at) tt, ap (λ pl. row_of pl s.reading.running) at)
      by true is =
          let at : s.reading.place ≡ Over = ap (λ r. r.place) (plainly true is plain ∙ looking-over_qk sys s.now k.at.here (base-is none)) in
          (subst (λ pl. IsLookPlace (kernel_in terms) pl s.reading.running) (sym at) (kernel-is_qk terms is), ap (λ pl. row_of pl s.reading.running) at)

  -- or it is over
  pub is-over : terms.cooperative ≡ false → stack ≡ [] → has_stim (lanes_of v) looks ≡ false → KnowsAt (IsOver sys) sys terms looks stack xs v
  is-over plain none still = record {
    knows = k.knows;
    at = record {
      stack = record {
        started = k.at.stack.started;
        named = k.at.stack.named;
        descends = k.at.stack.descends;
        rests = k.at.stack.rests;
        waits = λ o h. absurd (cc);
      };
      owed = k.at.owed;
      base = k.knows.running ∙ ap reverse none;
      over = by terms.threaded refl;
    };
  }
    where
      by : (threaded : Bool) → terms.threaded ≡ threaded → s.reading.place ≡ Over
      by false is = ap (λ r. r.place) (plainly false is plain ∙ looking-over sys s.now k.at.here (base-is none) (stim-is false still))
      by true is = ap (λ r. r.place) (plainly true is plain ∙ looking-over_qk sys s.now k.at.here (base-is none))

-- behind a row that is over `qk` may look again
pub may-again : (sys : System) (terms : Terms) (looks : ℕ) (stack : List ℕ) (xs : Objects) (v : LaneView) → KnowsAt (IsOver sys) sys terms looks stack xs v → terms.threaded ≡ true
    → KnowsAt (MayLook sys terms) sys terms looks stack xs v
may-again sys terms looks stack xs v k threaded = record {
  knows = k.knows;
  at = record {
    stack = subst (λ ps. HasStack sys ps k.knows.state) (sym k.at.base) k.at.stack;
    place = subst (λ pl. IsLookPlace (kernel_in terms) pl k.knows.state.reading.running) (sym k.at.over) (kernel-is_qk terms threaded);
    owed = k.at.owed ∙ sym (ap (λ pl. row_of pl k.knows.state.reading.running) k.at.over);
  };
}

pub idled-by : (sys : System) (terms : Terms) (a b : Stand) → Stood (IsOver sys) sys terms b → GoesOnward a.objects a.lane b.objects b.lane → Idled sys terms a b
idled-by sys terms a b over on = record { knows = over; onward = on; again = may-again sys terms b.looks b.stack b.objects b.lane over }

pub row-none : (sys : System) (floor : ℕ) → row_below sys floor 0 ≡ []
row-none sys floor = refl

-- A round: a look, the objects visited, and what comes then.
module _ (sys : System) (terms : Terms) (xs : Objects) (v : LaneView) (a b d : Stand) (on : GoesOnward xs v a.objects a.lane) where
  pub onward-all : (came : Bool) → Looked sys terms a b came → Passed [] sys terms b d → GoesOnward xs v d.objects d.lane
  onward-all came look pass = onward-then xs v b.objects b.lane d.objects d.lane (onward-then xs v a.objects a.lane b.objects b.lane on look.onward) pass.onward

  pub entered-all : (came : Bool) → Looked sys terms a b came → Entered sys terms b d → GoesOnward xs v d.objects d.lane
  entered-all came look enter = onward-then xs v b.objects b.lane d.objects d.lane (onward-then xs v a.objects a.lane b.objects b.lane on look.onward) enter.onward

  pub came-is : (came : Bool) → Looked sys terms a b came → Passed [] sys terms b d → has_stim (lanes_of d.lane) d.looks ≡ came
  came-is came look pass = ap (λ l. has_stim l d.looks) pass.lanes ∙ ap (has_stim (lanes_of b.lane)) pass.looks ∙ look.happened

  pub round-over : terms.cooperative ≡ false → Looked sys terms a b false → Passed [] sys terms b d → None ≡ slice_get d.stack (length d.stack - 1) → Idled sys terms (record a { objects = xs; lane = v }) d
  round-over plain look pass none =
      idled-by sys terms (record a { objects = xs; lane = v }) d
      (is-over sys terms d.looks d.stack d.objects d.lane pass.knows plain (empty-is d.stack none) (came-is false look pass)) (onward-all false look pass)

  pub round-again : terms.cooperative ≡ false → Looked sys terms a b true → Passed [] sys terms b d → None ≡ slice_get d.stack (length d.stack - 1) → Stood (MayLook sys terms) sys terms d × GoesOnward xs v d.objects d.lane
  round-again plain look pass none = (looks-again sys terms d.looks d.stack d.objects d.lane pass.knows plain (empty-is d.stack none) (came-is true look pass), onward-all true look pass)

  pub round-step : (came : Bool) (z : Stand) → Looked sys terms a b came → Passed [] sys terms b d → Stepped sys terms d z → Stood (MayLook sys terms) sys terms z × GoesOnward xs v z.objects z.lane
  round-step came z look pass stepped = (stepped.knows, onward-then xs v d.objects d.lane z.objects z.lane (onward-all came look pass) stepped.onward)

  pub round-found : (came : Bool) (z : Stand) → Looked sys terms a b came → Entered sys terms b d → Stepped sys terms d z → Stood (MayLook sys terms) sys terms z × GoesOnward xs v z.objects z.lane
  round-found came z look enter stepped =
      (stepped.knows, onward-then xs v d.objects d.lane z.objects z.lane (entered-all came look enter) stepped.onward)

pub round-top : (sys : System) (terms : Terms) (p : ℕ) (b d : Stand) → Passed [] sys terms b d → Some p ≡ slice_get d.stack (length d.stack - 1) → RunsTop sys terms d
round-top sys terms p b d pass some =
    let s = some-last d.stack p some in
    record { p = p; outer = s.0; top = s.1; knows = runs-on sys terms d.looks d.stack d.objects d.lane pass.knows s.0 p s.1 }

-- The order of all records behind the last look at the base.

found-at : (ds : List ObjectDef) (o : ℕ) (d : ObjectDef) → find (λ x. x.priority == o) ds ≡ Some d → (i : ℕ) × (slice_get ds i ≡ Some d)
found-at [] o d h = absurd (cc)
found-at (x ∷ xs) o d h = by (x.priority == o) h (λ k. found-at xs o d k)
  where
    by : (b : Bool) → cond b (Some x) (find (λ y. y.priority == o) xs) ≡ Some d → (find (λ y. y.priority == o) xs ≡ Some d → (i : ℕ) × (slice_get xs i ≡ Some d)) → (i : ℕ) × (slice_get (x ∷ xs) i ≡ Some d)
    by true k go = (0, k)
    by false k go = let later = go k in (suc later.0, later.1)

pub base-floor : (sys : System) (terms : Terms) (s : Stand) → s.stack ≡ [] → floor_of sys terms s ≡ 0
unfolding floor_in
base-floor sys terms s none = ap (λ st. floor_in sys (kernel_in terms) (reverse st) s.objects.ceiling) none

-- every queue was seen empty
pub round-empties : (sys : System) → IsSound sys → (v : LaneView) → AreSeenEmpty sys 0 0 v → (o : ObjectDef) → object_at sys o.priority ≡ Some o → IsSeenEmpty o.priority v
unfolding object_at
round-empties sys sound v seen o found = let i = found-at sys.objects o.priority o found in let some = numbered sys sound o found in seen i.0 o (omega arith) i.1 (omega (arith, some))

pub round-idle : (acts : Bool) (sys : System) → IsSound sys → (terms : Terms) (a b d : Stand) (low : ℕ) → low ≡ floor_of sys terms a → Looked sys terms a b false → LookedInOrder acts sys (floor_of sys terms a == 0) b false → Passed [] sys terms b d
    → PassedInOrder acts sys low 0 b d → None ≡ slice_get d.stack (length d.stack - 1) → IdlesInOrder acts sys d
round-idle acts sys sound terms a b d low is look ordered pass seen none = record {
  order = seen.order;
  none = λ acting. seen.none true acting (subst (λ f. NoneActs (f == 0) sys b.lane) base (ordered.none refl acting));
  empties = λ o found. round-empties sys sound d.lane (subst (λ f. AreSeenEmpty sys f 0 d.lane) (is ∙ base) seen.empty) o found;
}
  where
    base : floor_of sys terms a ≡ 0
    base = base-floor sys terms a (sym look.stack ∙ sym pass.stack ∙ empty-is d.stack none)
