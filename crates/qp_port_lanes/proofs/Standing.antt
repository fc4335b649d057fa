-- Where a source stands before its first turn, and how its lane ends where it rests.
use Rattle.std.proofs.Common.{◌≡◌, ℕ, ◌-◌, ◌==◌, Bool, true, false, List, [], ◌∷◌, ◌++◌, take, drop, cond, refl, sym, ◌∙◌, ap, subst, arith, append-nil}
use Rattle.std.specs.List.{list_all, list_any, AllByRecursion}
use Rattle.std.proofs.lemmas.Bool.{or_parts}
use Rattle.std.proofs.lemmas.List.{take-append-drop}
use Rattle.qp_model.specs.declared.stimulus.Stim.{Stim}
use Rattle.qp_model.specs.declared.systems.System.{System}
use Rattle.qp_model.specs.Kernels.{may_try}
use Rattle.qp_model.specs.Knowing.{told_alone}
use Rattle.qp_model.specs.Ends.{is_end, may_cut}
use Rattle.qp_model.specs.Sources.{AllDone, AfterTry, BeforeStimulus, none_twice}
use Rattle.qp_model_order.specs.SourceRun.{untold_all}
use Rattle.qp_model_order.proofs.SourceLemmas.{runs-before, runs-new}
use Rattle.qp_calls.specs.LaneView.{IsNew, LaneView}
use Rattle.qp_port_law.specs.SourcesLeft.{SourceLeaves}
use Rattle.qp_port_lanes.specs.CursorAt.{IsKnownTry, IsSourceAt, stimuli_done, is_some_left, mine, tries_in}
use Rattle.qp_port_lanes.specs.Laws.{CursorsMayStop, CursorsStay, DoneCursorsEnd, NewCursorsStand}
use Rattle.qp_port_lanes.proofs.Leaving.{Calm, still}
use Rattle.qp_port_lanes.proofs.Going.{done-at, known-later}
use Rattle.qp_port_lanes.proofs.Waiting.{runs-tried}

source-new : (sys : System) (ss : List Stim) (v : LaneView) → v.sys ≡ sys → IsNew v → IsSourceAt sys ss 0 false v
unfolding none_twice
source-new sys ss v of new = record {
  of = of;
  none = new.by;
  front = [];
  behind = [];
  told = new.told;
  runs = λ kernel may. runs-new sys kernel;
  few = omega arith;
  under_way = refl;
  alone = ap (λ ts. list_all (λ i. i.of == 0) (untold_all ts)) new.told;
  calm = ap (λ ts. list_any (λ i. is_end i.body) (untold_all ts)) new.told;
  tries = ap (λ ts. none_twice (tries_in ts)) new.told;
  known = subst (λ ts. AllByRecursion (IsKnownTry v) (tries_in ts)) (sym new.told) tt;
  hands = new.hands;
}

pub new-stand : NewCursorsStand
new-stand sys x v none of new = record {
  fits = none.fits;
  some = none.some;
  there = none.there;
  begun = λ settling. let wrong : true ≡ false = sym settling ∙ none.settling in absurd (cc);
  at =
      subst (λ b. IsSourceAt sys (mine x) (cond b (x.begun - 1) x.begun) b v) (sym none.settling)
      (subst (λ n. IsSourceAt sys (mine x) n false v) (sym none.begun) (source-new sys (mine x) v of new));
  asked = let begun = none.begun in omega (arith, begun);
}

pub stay : CursorsStay
stay sys x v w at more = record { fits = at.fits; some = at.some; there = at.there; begun = at.begun; at = here; asked = let had = at.asked in let up = more.asked in omega (arith, had, up) }
  where
    here : IsSourceAt sys (mine x) (stimuli_done x) x.settling w
    here = record {
      of = more.sys ∙ at.at.of;
      none = more.by ∙ at.at.none;
      front = at.at.front;
      behind = at.at.behind;
      told = more.told ∙ at.at.told;
      runs = at.at.runs;
      few = at.at.few;
      under_way = at.at.under_way;
      alone = ap (λ ts. list_all (λ i. i.of == 0) (untold_all ts)) more.told ∙ at.at.alone;
      calm = ap (λ ts. list_any (λ i. is_end i.body) (untold_all ts)) more.told ∙ at.at.calm;
      tries = ap (λ ts. none_twice (tries_in ts)) more.told ∙ at.at.tries;
      known = subst (λ ts. AllByRecursion (IsKnownTry w) (tries_in ts)) (sym more.told) (known-later v w more.rise more.shown (tries_in v.told) at.at.known);
      hands = more.hands ∙ at.at.hands;
    }

module _ (sys : System) (ss : List Stim) (kernel end : ℕ) (may : may_try kernel ≡ true) (v : LaneView) where
  calm-source : (n : ℕ) (b : Bool) → IsSourceAt sys ss n b v → Calm v.told
  calm-source n b at = record { alone = at.alone; calm = at.calm; tries = at.tries }

  -- whole stimuli stand in the lane, and nothing is left
  whole : (n : ℕ) → IsSourceAt sys ss n false v → drop n ss ≡ [] → SourceLeaves sys kernel end ss v.told
  whole n at none =
      let all : take n ss ≡ ss = sym (append-nil (take n ss)) ∙ ap (λ xs. take n ss ++ xs) (sym none) ∙ take-append-drop n ss in
      subst (λ xs. SourceLeaves sys kernel end xs v.told) all (still sys kernel end (take n ss) v.told AllDone (calm-source n false at) ((done-at sys ss n v at).runs kernel may) refl)

  -- behind them the lane may stop
  stops : (n : ℕ) (rest : List Stim) → may_cut end ≡ true → IsSourceAt sys ss n false v → drop n ss ≡ rest → SourceLeaves sys kernel end ss v.told
  stops n [] early at is = whole n at is
  stops n (s ∷ rest) early at is =
      let all : take n ss ++ s ∷ rest ≡ ss = ap (λ xs. take n ss ++ xs) (sym is) ∙ take-append-drop n ss in
      subst (λ xs. SourceLeaves sys kernel end xs v.told) all
      (still sys kernel end (take n ss ++ s ∷ rest) v.told BeforeStimulus (calm-source n false at) (runs-before sys kernel (take n ss) (told_alone v.told) ((done-at sys ss n v at).runs kernel may) s rest) early)

pub may-stop : CursorsMayStop
may-stop sys x v kernel end at may early = by x.settling at.at
  where
    by : (b : Bool) → IsSourceAt sys (mine x) (cond b (x.begun - 1) x.begun) b v → SourceLeaves sys kernel end (mine x) v.told
    by true here = still sys kernel end (mine x) v.told AfterTry (calm-source sys (mine x) kernel end may v (x.begun - 1) true here) (runs-tried sys (mine x) (x.begun - 1) v kernel may here) early
    by false here = stops sys (mine x) kernel end may v x.begun (drop x.begun (mine x)) early here refl

pub done-end : DoneCursorsEnd
done-end sys x v kernel end at may none =
    let parts = or_parts x.settling (is_some_left (drop x.begun (mine x))) none in
    whole sys (mine x) kernel end may v x.begun
    (subst (λ b. IsSourceAt sys (mine x) (cond b (x.begun - 1) x.begun) b v) parts.0 at.at) (no-more (drop x.begun (mine x)) parts.1)
  where
    no-more : (xs : List Stim) → is_some_left xs ≡ false → xs ≡ []
    no-more [] h = refl
    no-more (x ∷ xs) h = absurd (cc)
