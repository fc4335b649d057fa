-- From one look of the cooperative kernel to the next.
use Rattle.std.proofs.Common.{◌≡◌, ℕ, ◌-◌, ◌==◌, nat_lt, Bool, true, false, List, [], ◌∷◌, length, map, reverse, refl, sym, ◌∙◌, ap, subst, Some, None, arith}
use Rattle.std.specs.Prelude.{slice_get}
use Rattle.std.specs.List.{AllByRecursion, filter}
use Rattle.std.proofs.lemmas.Bool.Decides.{nat_tests}
use Rattle.qp_chart.specs.declared.checked.Chart.{Chart}
use Rattle.qp_model.specs.declared.systems.System.{System}
use Rattle.qp_model.specs.declared.systems.ObjectDef.{ObjectDef}
use Rattle.qp_model.specs.KernelLane.{above}
use Rattle.qp_model.specs.Sound.{IsSound, IsSoundObject}
use Rattle.qp_calls.specs.LaneView.{LaneView}
use Rattle.qp_kernel.specs.Turning.{Terms}
use Rattle.qp_kernel_turns.specs.declared.objects.Objects.{Objects}
use Rattle.qp_kernel_turns.specs.Knowing.{IsScanning, MayLook}
use Rattle.qp_kernel_turns.specs.Ordering.{AreSeenEmpty, IdlesInOrder, LookedInOrder, NoneActs, PassedInOrder}
use Rattle.qp_kernel_turns.specs.Turning.{GoesOnward, Idled, Looked, Passed, RunsTop, Stand, Stood, floor_of}
use Rattle.qp_kernel_turns.proofs.Rounds.{base-floor, came-is, idled-by, onward-all, onward-then, round-empties, runs-on}
use Rattle.qp_kernel_turns.proofs.Tops.{empty-is, floor-within, some-last}
use Rattle.qp_vanilla.specs.Resting.{Rested}

pub onward-look : (sys : System) (terms : Terms) (xs : Objects) (v : LaneView) (a b : Stand) → GoesOnward xs v a.objects a.lane → (came : Bool) → Looked sys terms a b came → GoesOnward xs v b.objects b.lane
onward-look sys terms xs v a b on came look = onward-then xs v a.objects a.lane b.objects b.lane on look.onward

-- no object is above 32
none-above : (charts : List Chart) (ds : List ObjectDef) → AllByRecursion (IsSoundObject charts) ds → filter (λ d. nat_lt 32 d.priority) ds ≡ []
none-above charts [] h = refl
none-above charts (d ∷ ds) h =
    let first = h.0 in
    let low : nat_lt 32 d.priority ≡ false = grind (arith, nat_tests, first.threshold, first.few_thresholds) in
    rw low (none-above charts ds h.1)

above-all : (sys : System) → IsSound sys → above sys 32 ≡ []
unfolding above
above-all sys sound = ap (λ ds. reverse (map (λ d. d.priority) ds)) (none-above sys.charts sys.objects sound.objects)

-- A look within a step starts no object: the step goes on.
module _ (sys : System) (sound : IsSound sys) (terms : Terms) (single : terms.threaded ≡ false) (cooperative : terms.cooperative ≡ true) (a b : Stand) (came : Bool) (look : Looked sys terms a b came) (p : ℕ)
    (top : Some p ≡ slice_get b.stack (length b.stack - 1)) where
  floor-is : floor_of sys terms a ≡ 32
  floor-is = sym (floor-within sys terms a.stack a.objects p single cooperative (top ∙ ap (λ st. slice_get st (length st - 1)) look.stack))

  scanned : Stood (IsScanning sys terms []) sys terms b
  scanned = subst (λ ps. Stood (IsScanning sys terms ps) sys terms b) (ap (above sys) floor-is ∙ above-all sys sound) look.knows

  pub goes-within : RunsTop sys terms b
  goes-within =
      let s = some-last b.stack p top in
      record { p = p; outer = s.0; top = s.1; knows = runs-on sys terms b.looks b.stack b.objects b.lane scanned s.0 p s.1 }

-- A look at the base that has found nothing.
module _ (sys : System) (terms : Terms) (a b d : Stand) (came : Bool) (look : Looked sys terms a b came) (pass : Passed [] sys terms b d) (none : None ≡ slice_get b.stack (length b.stack - 1)) where
  pub at-base : d.stack ≡ []
  at-base = pass.stack ∙ empty-is b.stack none

  pub low-floor : floor_of sys terms a ≡ 0
  low-floor = base-floor sys terms a (sym look.stack ∙ empty-is b.stack none)

  pub all-empty : (acts : Bool) (low : ℕ) → low ≡ floor_of sys terms a → PassedInOrder acts sys low 0 b d → AreSeenEmpty sys 0 0 d.lane
  all-empty acts low is seen = subst (λ f. AreSeenEmpty sys f 0 d.lane) (is ∙ low-floor) seen.empty

  module _ (xs : Objects) (v : LaneView) (on : GoesOnward xs v a.objects a.lane) (z : Stand) (rest : Rested sys terms d z) where
    onward-rest : GoesOnward xs v z.objects z.lane
    onward-rest = onward-then xs v d.objects d.lane z.objects z.lane (onward-all sys terms xs v a b d on came look pass) rest.onward

    -- the row goes on
    pub rests-again : came ≡ true → Stood (MayLook sys terms) sys terms z × GoesOnward xs v z.objects z.lane
    rests-again did = (rest.again (came-is sys terms xs v a b d on came look pass ∙ did), onward-rest)

    -- or the turn is over
    pub rests-over : came ≡ false → Idled sys terms (record a { objects = xs; lane = v }) z
    rests-over never = idled-by sys terms (record a { objects = xs; lane = v }) z (rest.over (came-is sys terms xs v a b d on came look pass ∙ never)) onward-rest

pub rests-idle : (acts : Bool) (sys : System) → IsSound sys → (terms : Terms) (a b d z : Stand) (came : Bool) (low : ℕ) → low ≡ floor_of sys terms a → Looked sys terms a b came
    → LookedInOrder acts sys (floor_of sys terms a == 0) b came → came ≡ false → Passed [] sys terms b d
    → PassedInOrder acts sys low 0 b d → PassedInOrder acts sys 0 0 d z → None ≡ slice_get b.stack (length b.stack - 1) → IdlesInOrder acts sys z
rests-idle acts sys sound terms a b d z came low is look ordered never pass seen rest none = record {
  order = rest.order;
  none = λ acting. rest.none true acting (seen.none true acting (subst (λ f. NoneActs (f == 0) sys b.lane) (low-floor sys terms a b d came look pass none) (ordered.none never acting)));
  empties = λ o found. round-empties sys sound z.lane rest.empty o found;
}
