-- A `settle` is under way.
use Rattle.std.proofs.Common.{◌≡◌, ℕ, suc, ◌+◌, ◌-◌, ◌==◌, true, false, ◌||◌, List, [], ◌∷◌, ◌++◌, map, drop, cond, refl, sym, ◌∙◌, ap, subst, arith, append-nil}
use Rattle.std.specs.List.{list_all, list_any, AllByRecursion}
use Rattle.qp_model.specs.declared.words.Word.TheVariants as word
use Rattle.qp_model.specs.declared.bodies.Body.TheVariants as body
use Rattle.qp_model.specs.declared.systems.System.{System}
use Rattle.qp_model.specs.Told.{plain, for_object}
use Rattle.qp_model.specs.Ends.{is_end}
use Rattle.qp_model.specs.Sources.{Tries, none_twice, priorities}
use Rattle.qp_model.proofs.FitsLemmas.{all-append}
use Rattle.qp_calls.specs.LaneView.{AddsTold, GrowsOf, LaneView, mark_after, mark_by}
use Rattle.qp_calls.specs.Tokens.{hands_after, hands_by}
use Rattle.qp_model_order.specs.SourceRun.{untold_all}
use Rattle.qp_model_order.proofs.StimLemmas.{any-both}
use Rattle.qp_port_lanes.specs.declared.cursor.Cursor.{Cursor}
use Rattle.qp_port_lanes.specs.CursorAt.{IsCursorAt, IsKnownTry, IsSourceAt, at_settle_in, begins_settle, stimuli_done, mine, tries_in}
use Rattle.qp_port_lanes.specs.Passing.{IsInSettle, Opens, opening_of}
use Rattle.qp_port_lanes.proofs.Leaving.{tries-quiet}
use Rattle.qp_model_order.proofs.SourceLanes.{untold-append}
use Rattle.qp_port_lanes.proofs.Going.{done-at, known-later}
use Rattle.qp_port_lanes.proofs.Waiting.{begins-is}
use Rattle.qp_port_lanes.proofs.Along.{along-gains, along-none}

no-tries : (os : List ℕ) → Tries os 0 []
unfolding Tries
no-tries os = refl

-- it was before
module _ (sys : System) (x : Cursor) (v : LaneView) (at : IsCursorAt sys x v) (settling : x.settling ≡ true) where
  whole : IsSourceAt sys (mine x) (stimuli_done x) true v
  whole = subst (λ b. IsSourceAt sys (mine x) (stimuli_done x) b v) settling at.at

  next_place : x.begun ≡ stimuli_done x + 1
  next_place =
      let some = at.begun settling in
      let is : stimuli_done x ≡ x.begun - 1 = ap (λ b. cond b (x.begun - 1) x.begun) settling in
      omega (arith, some, is)

  whole_told : v.told ≡ v.told ++ map (for_object 0) (opening_of x)
  whole_told = sym (append-nil v.told) ∙ ap (λ b. v.told ++ map (for_object 0) (cond b [] (plain (body.Stim (stimuli_done x + 1) 0) ∷ []))) (sym settling)

  pub opens-still : Opens sys x x v v
  opens-still =
      let t = whole.under_way in
      record {
        cursor = ap (λ n. record x { begun = n }) next_place ∙ ap (λ b. record x { begun = stimuli_done x + 1; settling = b }) settling;
        opened = whole_told;
        here = record {
          of = whole.of;
          none = whole.none;
          front = whole.front;
          tries = t.tries;
          told = whole.told ∙ ap (λ b. whole.front ++ map (for_object 0) b) t.records;
          rest = t.rest;
          next = t.next;
          count = suc t.n;
          fits = t.fits;
          runs = whole.runs;
          alone = whole.alone;
          calm = whole.calm;
          differ = whole.tries;
          known = whole.known;
          hands = whole.hands;
        };
        along = along-none v;
        clear = λ p k. k;
      }

-- its `stim` has just come
module _ (sys : System) (x : Cursor) (v w : LaneView) (at : IsCursorAt sys x v) (calm : x.settling ≡ false) (stands : at_settle_in x ≡ true) (adds : AddsTold (plain (body.Stim (x.begun + 1) 0) ∷ []) v w) where
  begins : IsSourceAt sys (mine x) x.begun false v
  begins = subst (λ b. IsSourceAt sys (mine x) (cond b (x.begun - 1) x.begun) b v) calm at.at

  grown : GrowsOf 0 (plain (body.Stim (x.begun + 1) 0) ∷ []) v w
  grown = subst (λ o. GrowsOf o (plain (body.Stim (x.begun + 1) 0) ∷ []) v w) begins.none adds.grows

  same_hands : w.hands ≡ v.hands
  unfolding hands_after hands_by
  same_hands = grown.hands

  same_mark : (p : ℕ) → w.mark (word.Queue p) ≡ v.mark (word.Queue p)
  unfolding mark_after mark_by
  same_mark p = grown.mark (word.Queue p)

  counted : stimuli_done x ≡ x.begun
  counted = ap (λ b. cond b (x.begun - 1) x.begun) calm

  open_here : IsInSettle sys (mine x) x.begun w
  open_here =
      let ts = map (for_object 0) (plain (body.Stim (x.begun + 1) 0) ∷ []) in
      let next = begins-is (drop x.begun (mine x)) (subst (λ b. (b || begins_settle (drop x.begun (mine x))) ≡ true) calm stands) in
      let all = untold-append v.told ts in
      let quiet : tries_in (v.told ++ ts) ≡ tries_in v.told = tries-quiet v.told ts refl in
      let tries : tries_in w.told ≡ tries_in v.told = ap tries_in grown.told ∙ quiet in
      record {
        of = grown.sys ∙ begins.of;
        none = grown.by ∙ begins.none;
        front = v.told;
        tries = [];
        told = grown.told;
        rest = next.0;
        next = next.1;
        count = 0;
        fits = no-tries (priorities sys);
        runs = (done-at sys (mine x) x.begun v begins).runs;
        alone = ap (λ us. list_all (λ i. i.of == 0) (untold_all us)) grown.told ∙ rw all (all-append (λ i. i.of == 0) (untold_all v.told) (untold_all ts) begins.alone refl);
        calm = ap (λ us. list_any (λ i. is_end i.body) (untold_all us)) grown.told ∙ rw all (any-both (λ i. is_end i.body) (untold_all v.told) (untold_all ts) begins.calm refl);
        differ = ap none_twice tries ∙ begins.tries;
        known = subst (AllByRecursion (IsKnownTry w)) (sym tries) (known-later v w (λ p. grown.rise (word.Queue p)) (λ p. grown.shown (word.Queue p)) (tries_in v.told) begins.known);
        hands = same_hands ∙ begins.hands;
      }

  pub opens-new : Opens sys x (record x { begun = x.begun + 1; settling = true }) v w
  opens-new = record {
    cursor = ap (λ n. record x { begun = n + 1; settling = true }) (sym counted);
    opened = grown.told ∙ ap (λ n. v.told ++ map (for_object 0) (plain (body.Stim (n + 1) 0) ∷ [])) (sym counted) ∙ ap (λ b. v.told ++ map (for_object 0) (cond b [] (plain (body.Stim (stimuli_done x + 1) 0) ∷ []))) (sym calm);
    here = subst (λ n. IsInSettle sys (mine x) n w) (sym counted) open_here;
    along = along-gains (map (for_object 0) (plain (body.Stim (x.begun + 1) 0) ∷ [])) v w grown same_hands;
    clear = λ p k. record { f = k.f; l = k.l; m = k.m; mark = same_mark p ∙ k.mark; shown = grown.shown (word.Queue p) (same_mark p) ∙ k.shown; empty = k.empty };
  }
