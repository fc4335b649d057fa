-- The lane of a kernel that has rested: what is known of it goes on.
use Rattle.std.proofs.Common.{◌≡◌, ℕ, ◌≤◌, cond, Bool, true, false, List, [], ◌∷◌, ◌++◌, reverse, refl, sym, ◌∙◌, ap, subst, arith}
use Rattle.qp_model.specs.declared.systems.System.{System}
use Rattle.qp_model.specs.Kernels.{sim, qk, qv}
use Rattle.qp_model.specs.KernelLane.{Reading, Resting, Again, base_ended, looking_at}
use Rattle.qp_model.specs.Sound.{IsSound}
use Rattle.qp_model_order.specs.RunOrder.{has_stim}
use Rattle.qp_calls.specs.LaneView.{LaneView}
use Rattle.qp_kernel.specs.Happenings.{lanes_of}
use Rattle.qp_kernel.specs.LaneZero.{row_of, setting}
use Rattle.qp_kernel.specs.Turning.{IsLookPlace, KernelState, Stands, Terms, kernel_in, rest_told}
use Rattle.qp_kernel.proofs.KernelLaws.{rest_is_added}
use Rattle.qp_kernel.proofs.RowLemmas.{looking-rests, resting-again, resting-over}
use Rattle.qp_kernel_turns.specs.declared.objects.Objects.{Objects}
use Rattle.qp_kernel_turns.specs.Knowing.{HandsCover, HasStack, IsScanning, Knows, KnowsAt, MayLook}
use Rattle.qp_kernel_turns.specs.Turning.{IsOver}
use Rattle.qp_kernel_turns.proofs.Looking.{GoesFor, lane-on, stack-on}
use Rattle.qp_kernel_turns.proofs.Rounds.{base-is}
use Rattle.qp_kernel_turns.proofs.Rows.{SameButPlace, ended-agrees, ended-same}
use Rattle.qp_kernel_turns.proofs.SoundObjects.{numbered}
use Rattle.qp_kernel_turns.proofs.Staying.{all-still, all-wait}

module _ (sys : System) (sound : IsSound sys) (terms : Terms) (single : terms.threaded ≡ false) (cooperative : terms.cooperative ≡ true) (looks : ℕ) (stack : List ℕ) (xs : Objects) (v w : LaneView)
    (k : KnowsAt (IsScanning sys terms []) sys terms looks stack xs v) (base : stack ≡ []) (lanes : lanes_of w ≡ lanes_of v) (goes : GoesFor (rest_told looks ∷ []) v w) where
  abbrev s : KernelState
  s = k.knows.state

  kernel-is : kernel_in terms ≡ qv
  kernel-is = ap (λ b. cond b qk (cond terms.cooperative qv sim)) single ∙ ap (λ b. cond b qv sim) cooperative

  -- the look has ended so that the kernel rests
  at-rest : s.reading.place ≡ Resting
  at-rest =
      ap (λ (r : Reading). r.place) (k.at.same ∙ ap (λ n. looking_at (setting sys n s.now) k.at.here []) kernel-is ∙ looking-rests sys s.now k.at.here (base-is sys terms looks stack xs v k base))

  abbrev next : Reading
  next = base_ended (setting sys (kernel_in terms) s.now) s.reading

  same : SameButPlace s.reading next
  same = ended-same sys terms s.now s.reading

  abbrev after : KernelState
  after = record s { told = s.told ++ rest_told looks ∷ []; reading = next }

  few : s.reading.looks ≤ s.upto
  few = let a = k.knows.counted in let b = k.knows.settled in omega (arith, a, b)

  stands-after : Stands sys terms after
  stands-after =
      rest_is_added sys terms s looks next (numbered sys sound) k.knows.stands k.at.owed k.at.stack.started at-rest (sym k.knows.counted)
      (λ has agree. ended-agrees sys terms s.upto s.now has s.reading few agree)

  cover : HandsCover xs w
  cover t = rw goes.hands (k.knows.hands t)

  known : Knows sys terms looks stack xs w
  known = record {
    state = after;
    told = ap (λ ts. ts ++ rest_told looks ∷ []) k.knows.told ∙ sym goes.told;
    stands = stands-after;
    counted = same.looks ∙ k.knows.counted;
    ceiling = same.ceiling ∙ k.knows.ceiling;
    lane = lane-on sys xs.ceiling (rest_told looks ∷ []) v w k.knows.lane goes;
    running = same.running ∙ k.knows.running;
    settled = k.knows.settled;
    now = k.knows.now ∙ ap has_stim (sym lanes);
    later = λ n lt. ap (λ x. has_stim x n) lanes ∙ k.knows.later n lt;
    objects = all-still sys xs v w s.stages s.entries goes.of k.knows.lane.of cover (all-wait sys s k.at.stack) k.knows.objects;
    hands = cover;
  }

  bare : after.reading.running ≡ []
  bare = same.running ∙ k.knows.running ∙ ap reverse base

  stack-after : HasStack sys s.reading.running after
  stack-after = stack-on sys s.reading.running s after same.unstarted same.running refl k.at.stack

  stim : (came : Bool) → has_stim (lanes_of v) looks ≡ came → s.now s.reading.looks ≡ came
  stim came h = ap (λ (f : ℕ → Bool). f s.reading.looks) k.knows.now ∙ ap (has_stim (lanes_of v)) k.knows.counted ∙ h

  ended : base_ended (setting sys (kernel_in terms) s.now) s.reading ≡ base_ended (setting sys qv s.now) s.reading
  ended = ap (λ n. base_ended (setting sys n s.now) s.reading) kernel-is

  -- the row goes on
  pub goes-again : has_stim (lanes_of v) looks ≡ true → KnowsAt (MayLook sys terms) sys terms looks stack xs w
  unfolding known
  goes-again came =
      let at : next.place ≡ Again = ap (λ (r : Reading). r.place) (ended ∙ resting-again sys s.now s.reading (stim true came)) in
      record {
        knows = known;
        at = record {
          stack = subst (λ ps. HasStack sys ps after) (sym same.running) stack-after;
          place = subst (λ pl. IsLookPlace (kernel_in terms) pl after.reading.running) (sym at) tt;
          owed = k.at.owed ∙ sym (ap (λ pl. row_of pl after.reading.running) at);
        };
      }

  -- or it is over
  pub goes-over : has_stim (lanes_of v) looks ≡ false → KnowsAt (IsOver sys) sys terms looks stack xs w
  unfolding known
  goes-over none = record {
    knows = known;
    at = record {
      stack = subst (λ ps. HasStack sys ps after) (k.knows.running ∙ ap reverse base) stack-after;
      owed = k.at.owed;
      base = bare;
      over = ap (λ (r : Reading). r.place) (ended ∙ resting-over sys s.now s.reading (stim false none));
    };
  }
