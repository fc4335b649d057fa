-- Looks, and rows of them.
use Rattle.std.proofs.Common.{◌≡◌, ℕ, ◌+◌, ◌<◌, ◌≤◌, max, ◌==◌, cond, Bool, true, false, List, [], ◌∷◌, ◌++◌, reverse, refl, sym, ◌∙◌, ap, subst, arith}
use Rattle.std.specs.List.{AllByRecursion}
use Rattle.std.specs.Option.{option_map_or}
use Rattle.qp_model.specs.declared.systems.System.{System}
use Rattle.qp_model.specs.Kernels.{qv}
use Rattle.qp_model.specs.Sites.{object_at}
use Rattle.qp_model.specs.Sound.{IsSound}
use Rattle.qp_model.specs.Told.{ToldItem}
use Rattle.qp_model.specs.KernelLane.{Reading, Looking, above, floor_in, looking_at, threshold_of}
use Rattle.qp_model_order.specs.RunOrder.{has_stim}
use Rattle.qp_calls.specs.LaneView.{LaneView, ceiling_in}
use Rattle.qp_calls.specs.Notes.{spills_told}
use Rattle.qp_kernel.specs.Happenings.{lanes_of}
use Rattle.qp_kernel.specs.LaneZero.{setting}
use Rattle.qp_model.specs.Ends.{end_asserted, may_cut}
use Rattle.qp_kernel.specs.Turning.{KernelState, Stands, look_told, seen_told, Terms, kernel_in}
use Rattle.qp_kernel.proofs.KernelLaws.{empty_is_seen, look_is_added, looks_are_settled, run_stops_elsewhere}
use Rattle.qp_kernel_turns.specs.BaseRows.{InRow, reading_in}
use Rattle.qp_kernel_turns.specs.TurnRows.{bare_row, idle_rows}
use Rattle.qp_kernel_turns.proofs.BaseRows.{idle-is, look-adds, reading-is}
use Rattle.qp_kernel_turns.specs.declared.objects.Objects.{Objects}
use Rattle.qp_kernel_turns.specs.Knowing.{Descends, HandsCover, HasStack, IsAbove, IsLane, IsObjectWithChart, IsScanning, Knows, KnowsAt, MayLook, is_paused}
use Rattle.qp_chart.specs.StateTree.{has}
use Rattle.qp_kernel.specs.Stages.{is_resting}
use Rattle.qp_kernel_turns.proofs.Ends.{EndsFew, ends-few}
use Rattle.qp_kernel_turns.proofs.SoundObjects.{able, named, numbered, sound-object}
use Rattle.qp_kernel_turns.proofs.Rows.{SameButPlace, above-floor, above-more, looking-agrees, looking-same, row-named}
use Rattle.qp_kernel_turns.proofs.Staying.{all-still, all-wait}

-- The lane goes on by records of no object, and the objects stay.
pub record GoesFor (ts : List ToldItem) (v w : LaneView) : Type 0 where
  pub of : w.sys ≡ v.sys
  pub told : w.told ≡ v.told ++ ts
  pub serves : (o : ℕ) → w.serves o ≡ v.serves o
  pub hands : w.hands ≡ v.hands
  pub ceiling : ceiling_in 0 w.told ≡ ceiling_in 0 v.told
  pub spills : spills_told w.told ≡ false

pub lane-on : (sys : System) (ceiling : ℕ) (ts : List ToldItem) (v w : LaneView) → IsLane sys ceiling v → GoesFor ts v w → IsLane sys ceiling w
lane-on sys ceiling ts v w lane goes = record {
  of = goes.of ∙ lane.of;
  told = lane.told ∙ sym goes.ceiling;
  spills = goes.spills;
  serves = λ d found. goes.serves d.priority ∙ lane.serves d found;
}

-- the objects under way stand below the floor
under-floor : (sys : System) (sound : IsSound sys) (terms : Terms) (running : List ℕ) (ceiling : ℕ) → AllByRecursion (IsObjectWithChart sys) running → Descends running → (p : ℕ) → floor_in sys (kernel_in terms) running ceiling < p → IsAbove p running
unfolding floor_in threshold_of object_at
under-floor sys sound terms [] ceiling names descends p lt = tt
under-floor sys sound terms (o ∷ outer) ceiling names descends p lt =
    let n = names.0 in
    let is = sound-object sys sound n.object.priority n.object n.found in
    let here : threshold_of sys n.object.priority ≡ n.object.threshold = ap (λ d. option_map_or (λ x. x.threshold) d 0) n.found in
    let same : threshold_of sys o ≡ n.object.threshold = subst (λ x. threshold_of sys x ≡ n.object.threshold) n.is here in
    let above_it : o < p = by n.object.priority n.object.threshold n.is same is.threshold is.few_thresholds (kernel_in terms == qv) lt in
    (above_it, above-more p o outer (omega (arith, above_it)) descends.0)
  where
    by : (priority threshold : ℕ) → priority ≡ o → threshold_of sys o ≡ threshold → priority ≤ threshold → threshold ≤ 32 → (b : Bool) → cond b 32 (max (threshold_of sys o) ceiling) < p → o < p
    by priority threshold mine same least most true lt = omega (arith, mine, least, most, lt)
    by priority threshold mine same least most false lt = let more : threshold_of sys o ≤ max (threshold_of sys o) ceiling = omega arith in omega (arith, mine, same, least, more, lt)

-- the objects under way are the same
pub stack-on : (sys : System) (waiting : List ℕ) (s t : KernelState) → t.reading.unstarted ≡ s.reading.unstarted → t.reading.running ≡ s.reading.running → t.stages ≡ s.stages → HasStack sys waiting s → HasStack sys waiting t
stack-on sys waiting s t unstarted running stages stack = record {
  started = unstarted ∙ stack.started;
  named = subst (AllByRecursion (IsObjectWithChart sys)) (sym running) stack.named;
  descends = subst Descends (sym running) stack.descends;
  rests = λ d found none. subst (λ f. is_resting (f d.priority) ≡ true) (sym stages) (stack.rests d found (ap (λ ps. has ps d.priority) (sym running) ∙ none));
  waits = λ o is. subst (λ f. is_paused (f o) ≡ true) (sym stages) (stack.waits o is);
}

module _ (sys : System) (sound : IsSound sys) (terms : Terms) (looks : ℕ) (stack : List ℕ) (xs : Objects) (v w : LaneView) (n floor : ℕ)
    (k : Knows sys terms looks stack xs v) (may : MayLook sys terms k.state) (count : n ≡ looks + 1) (low : floor ≡ floor_in sys (kernel_in terms) (reverse stack) xs.ceiling)
    (early : (m : ℕ) → m ≤ looks → has_stim (lanes_of w) m ≡ has_stim (lanes_of v) m) where
  abbrev s : KernelState
  s = k.state

  abbrev now : ℕ → Bool
  now = has_stim (lanes_of w)

  abbrev settled : KernelState
  settled = record s { now = now; upto = n }

  abbrev here : Reading
  here = record (s.reading) { looks = n }

  abbrev next : Reading
  next = looking_at (setting sys (kernel_in terms) now) here (above sys floor)

  abbrev after : KernelState
  after = record settled { told = s.told ++ look_told n floor ∷ []; reading = next; owed = 0 }

  stands-settled : Stands sys terms settled
  stands-settled =
      looks_are_settled sys terms s now n k.stands (omega (arith, k.settled, count))
      (λ m le. early m (omega (arith, k.settled, le)) ∙ sym (ap (λ f. f m) k.now))

  low-here : floor ≡ floor_in sys (kernel_in terms) s.reading.running s.reading.ceiling
  low-here = low ∙ ap (λ ps. floor_in sys (kernel_in terms) ps xs.ceiling) (sym k.running) ∙ ap (λ c. floor_in sys (kernel_in terms) s.reading.running c) (sym k.ceiling)

  stands-after : Stands sys terms after
  stands-after =
      look_is_added sys terms settled n floor next (numbered sys sound) stands-settled may.stack.started may.place may.owed (count ∙ ap (λ m. m + 1) (sym k.counted)) low-here
      (λ has agree. looking-agrees sys terms n now has here (above sys floor) (omega arith) agree)

  same : SameButPlace here next
  same = looking-same sys terms now here (above sys floor)

  -- the run stops in the look
  pub look-stops : w.told ≡ v.told ++ look_told n floor ∷ [] → (end : ℕ) → may_cut end ≡ true → EndsFew sys terms end next.idle w.told (has_stim (lanes_of w))
  look-stops told end cut =
      subst (λ ts. EndsFew sys terms end next.idle ts now) (ap (λ ts. ts ++ look_told n floor ∷ []) k.told ∙ sym told)
      (run_stops_elsewhere sys terms end after now (numbered sys sound) (able sys sound) stands-after (λ m le. refl) cut (same.unstarted ∙ may.stack.started) (all-wait sys s may.stack))

  -- in a row that is no longer than it was
  pub look-few : w.told ≡ v.told ++ look_told n floor ∷ [] → terms.threaded ≡ true → idle_rows sys terms w ≤ idle_rows sys terms v + bare_row sys
  unfolding floor_in
  look-few told threaded =
      let few = ends-few sys terms end_asserted next.idle w.told now (look-stops told end_asserted refl) threaded in
      let most = look-adds sys sound (setting sys (kernel_in terms) now) here floor (λ base. low-here ∙ ap (λ ps. floor_in sys (kernel_in terms) ps s.reading.ceiling) base) in
      let own = idle-is sys terms v s k.stands k.told k.now in
      omega (arith, few, most, own)

  module _ (goes : GoesFor (look_told n floor ∷ []) v w) (late : (m : ℕ) → n < m → has_stim (lanes_of w) m ≡ false) where
    cover : HandsCover xs w
    cover t = rw goes.hands (k.hands t)

    row : AllByRecursion (λ p. IsObjectWithChart sys p × IsAbove p next.running) (above sys floor)
    row =
        subst (λ ps. AllByRecursion (λ p. IsObjectWithChart sys p × IsAbove p ps) (above sys floor)) (sym same.running)
        (above-floor sys floor (above sys floor) s.reading.running (row-named sys floor (named sys sound))
        (λ p lt. under-floor sys sound terms s.reading.running s.reading.ceiling may.stack.named may.stack.descends p (subst (λ x. x < p) low-here lt)))

    told-after : after.told ≡ w.told
    told-after = ap (λ ts. ts ++ look_told n floor ∷ []) k.told ∙ sym goes.told

    -- the row goes on
    pub looked-row : InRow sys terms (above sys floor) v w
    looked-row =
        let was = reading-is sys terms s v k.stands k.told k.now in
        record {
          here = here;
          row = record { stepped = ap (λ r. r.stepped) (sym was); idle = ap (λ r. r.idle) (sym was) };
          same = reading-is sys terms after w stands-after told-after refl;
        }

    -- a look is added, and its stimulus is known
    pub looked : KnowsAt (IsScanning sys terms (above sys floor)) sys terms n stack xs w
    looked = record {
      knows = record {
        state = after;
        told = told-after;
        stands = stands-after;
        counted = same.looks;
        ceiling = same.ceiling ∙ k.ceiling;
        lane = lane-on sys xs.ceiling (look_told n floor ∷ []) v w k.lane goes;
        running = same.running ∙ k.running;
        settled = refl;
        now = refl;
        later = late;
        objects = all-still sys xs v w s.stages s.entries goes.of k.lane.of cover (all-wait sys s may.stack) k.objects;
        hands = cover;
      };
      at = record {
        stack = waits-on (stack-on sys s.reading.running s after same.unstarted same.running refl may.stack);
        owed = refl;
        here = here;
        same = refl;
        counted = refl;
        above = row;
      };
    }
      where
        waits-on : HasStack sys s.reading.running after → HasStack sys after.reading.running after
        waits-on h = subst (λ ps. HasStack sys ps after) (sym same.running) h

module _ (sys : System) (sound : IsSound sys) (terms : Terms) (looks : ℕ) (stack : List ℕ) (xs : Objects) (v w : LaneView) (p : ℕ) (others : List ℕ) (f l m : ℕ)
    (k : Knows sys terms looks stack xs v) (at : IsScanning sys terms (p ∷ others) k.state) (lanes : lanes_of w ≡ lanes_of v) where
  -- the object looked at comes next
  pub looks-at : k.state.reading.place ≡ Looking p others
  looks-at = ap (λ r. r.place) at.same

  module _ (goes : GoesFor (seen_told p f l m ∷ []) v w) (empty : f + l ≤ m) where
    abbrev next-one : Reading
    next-one = looking_at (setting sys (kernel_in terms) k.state.now) k.state.reading others

    abbrev after-one : KernelState
    after-one = record (k.state) { told = k.state.told ++ seen_told p f l m ∷ []; reading = next-one }

    same-one : SameButPlace (k.state.reading) next-one
    same-one = looking-same sys terms k.state.now k.state.reading others

    cover-one : HandsCover xs w
    cover-one t = rw goes.hands (k.hands t)

    few : k.state.reading.looks ≤ k.state.upto
    few = let a = k.counted in let b = k.settled in omega (arith, a, b)

    told-one : after-one.told ≡ w.told
    told-one = ap (λ ts. ts ++ seen_told p f l m ∷ []) k.told ∙ sym goes.told

    now-one : k.state.now ≡ has_stim (lanes_of w)
    now-one = k.now ∙ ap has_stim (sym lanes)

    stands-one : Stands sys terms after-one
    stands-one = empty_is_seen sys terms k.state p others f l m next-one (numbered sys sound) k.stands at.owed at.stack.started looks-at empty
        (λ has agree. looking-agrees sys terms k.state.upto k.state.now has k.state.reading others few agree)

    -- the row goes on
    pub passed-row : (u : LaneView) → InRow sys terms (p ∷ others) u v → InRow sys terms others u w
    passed-row u r = record {
      here = reading_in sys terms v;
      row = record { stepped = ap (λ x. x.stepped) r.same ∙ r.row.stepped; idle = ap (λ x. x.idle) r.same ∙ r.row.idle };
      same =
          reading-is sys terms after-one w stands-one told-one now-one
          ∙ ap (λ x. looking_at (setting sys (kernel_in terms) k.state.now) x others) (sym (reading-is sys terms k.state v k.stands k.told k.now))
          ∙ ap (λ x. looking_at (setting sys (kernel_in terms) x) (reading_in sys terms v) others) now-one;
    }

    -- its queue is empty
    pub passed : KnowsAt (IsScanning sys terms others) sys terms looks stack xs w
    passed = record {
      knows = record {
        state = after-one;
        told = told-one;
        stands = stands-one;
        counted = same-one.looks ∙ k.counted;
        ceiling = same-one.ceiling ∙ k.ceiling;
        lane = lane-on sys xs.ceiling (seen_told p f l m ∷ []) v w k.lane goes;
        running = same-one.running ∙ k.running;
        settled = k.settled;
        now = now-one;
        later = λ n lt. ap (λ x. has_stim x n) lanes ∙ k.later n lt;
        objects = all-still sys xs v w k.state.stages k.state.entries goes.of k.lane.of cover-one (all-wait sys k.state at.stack) k.objects;
        hands = cover-one;
      };
      at = record {
        stack = subst (λ ps. HasStack sys ps after-one) (sym same-one.running) (stack-on sys k.state.reading.running k.state after-one same-one.unstarted same-one.running refl at.stack);
        owed = at.owed;
        here = k.state.reading;
        same = refl;
        counted = k.counted ∙ sym k.settled;
        above = subst (λ ps. AllByRecursion (λ q. IsObjectWithChart sys q × IsAbove q ps) others) (sym same-one.running) at.above.1;
      };
    }
