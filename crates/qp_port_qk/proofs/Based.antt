-- A quiet end of the kernel's lane under `qk`, whether or not a row of looks stands in it.
use Rattle.std.proofs.Common.{◌≡◌, ℕ, Bool, true, List, [], ◌++◌, refl, sym, ◌∙◌, ap, subst, Some, arith, append-nil}
use Rattle.qp_model.specs.declared.systems.System.{System}
use Rattle.qp_model.specs.declared.systems.ObjectDef.{ObjectDef}
use Rattle.qp_model.specs.Course.{FollowsTo, Whole, actor, first_config}
use Rattle.qp_model.specs.End.{spents_follow, spills_state, took_count}
use Rattle.qp_model.specs.Ends.{ends_last, quiet, spills_cut}
use Rattle.qp_model.specs.KernelLane.{is_over, lane_on, unread}
use Rattle.qp_model.specs.Kernels.{qk}
use Rattle.qp_model.specs.Pieces.{Piece}
use Rattle.qp_model.specs.Sites.{object_at}
use Rattle.qp_kernel.specs.LaneZero.{Agree, owed_point, setting, told_pieces}
use Rattle.qp_kernel.specs.Stages.{ComesTo, is_resting}
use Rattle.qp_kernel.specs.Turning.{AreAble, AreNumbered, KernelState, Stands, under_qk}
use Rattle.qp_kernel.specs.ZeroEnds.{ZeroEnds}
use Rattle.qp_kernel.proofs.ToldPieces.{none-owed}
use Rattle.qp_kernel.proofs.WaitLemmas.{follows-resting}
use Rattle.qp_kernel.proofs.ZeroEndLemmas.{ends-with}

pub based-quiet : (sys : System) (budget : ℕ) (s : KernelState) (has : ℕ → Bool) → AreNumbered sys → AreAble sys → Stands sys (under_qk budget) s → Agree s.upto has s.now → s.owed ≡ 0
    → s.reading.unstarted ≡ [] → s.reading.running ≡ [] → is_over qk s.reading.place ≡ true → ((d : ObjectDef) → object_at sys d.priority ≡ Some d → is_resting (s.stages d.priority) ≡ true)
    → ZeroEnds sys qk budget quiet s.reading.idle s.told has
unfolding lane_on spills_cut ends_last spents_follow spills_state took_count told_pieces
based-quiet sys budget s has numbered able stands agree none started base whole rest =
    subst (λ ts. ZeroEnds sys qk budget quiet s.reading.idle ts has) (append-nil s.told)
    (ends-with sys qk budget s.told s.now has s.upto s.reading s.owed s.stages s.entries stands agree quiet [] s.reading
    (record {
      read = refl;
      idle = omega arith;
      spills = refl;
      stands = rw (started, base, whole) refl;
      ends = refl;
      spents = λ shown. refl;
      spent = refl;
      states = refl;
      takes = λ o. refl;
    }) refl
    (λ d chart at is.
    let pieces : List Piece = told_pieces (setting sys qk has) d.priority (unread sys) s.told in
    let its : ComesTo sys (actor d chart) (first_config d) (s.entries d.priority) pieces (s.stages d.priority) =
    subst (λ x. ComesTo sys (actor d chart) (first_config d) (s.entries d.priority) x (s.stages d.priority))
    (ap (λ x. pieces ++ owed_point x d.priority) none ∙ ap (λ x. pieces ++ x) (none-owed d.priority (numbered d at)) ∙ append-nil pieces)
    (stands.pieces has agree d chart at is) in
    subst (λ x. FollowsTo sys d Whole x) (sym (append-nil pieces)) (follows-resting sys d chart is (able d chart at is) (s.entries d.priority) pieces (s.stages d.priority) its (rest d at))))
