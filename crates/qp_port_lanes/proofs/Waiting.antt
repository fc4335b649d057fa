-- Where a source stands at a `settle`, and stays there.
use Rattle.std.proofs.Common.{◌≡◌, ◌⊎◌, ℕ, ◌+◌, ◌-◌, ◌<◌, ◌==◌, ◌&&◌, Bool, true, false, ◌||◌, List, [], ◌∷◌, ◌++◌, length, take, drop, cond, refl, sym, ◌∙◌, ap, subst, inl, inr, arith, append-nil, append_assoc}
use Rattle.std.specs.List.{list_all, list_any, AllByRecursion}
use Rattle.std.proofs.lemmas.List.{length-take-le, take-append-drop}
use Rattle.qp_model.specs.declared.stimulus.Stim.{Stim}
use Rattle.qp_model.specs.declared.stimulus.Stim.TheVariants as stim
use Rattle.qp_model.specs.declared.systems.System.{System}
use Rattle.qp_model.specs.declared.words.Word.TheVariants as word
use Rattle.qp_model.specs.declared.bodies.Body.TheVariants as body
use Rattle.qp_model.specs.Told.{ToldItem, plain, for_object}
use Rattle.qp_model.specs.Knowing.{told_alone}
use Rattle.qp_model.specs.Kernels.{may_try}
use Rattle.qp_model.specs.Ends.{is_end, may_cut}
use Rattle.qp_model.specs.Sources.{SourceEnd, SourceRuns, AfterTry, BeforeStimulus, EndsIn, none_twice, may_end, priorities}
use Rattle.qp_calls.specs.declared.answers.Counts as counts
use Rattle.qp_calls.specs.LaneView.{LaneView, is_codeless, no_code}
use Rattle.qp_kernel.specs.Interrupting.{is_unset}
use Rattle.qp_calls.proofs.Advancing.{advances-none}
use Rattle.qp_calls.specs.Notes.{last_code}
use Rattle.qp_calls.specs.Tokens.{hands_after, hands_by}
use Rattle.qp_calls.specs.Halting.{HaltsDry, HaltsFull}
use Rattle.qp_kernel_turns.specs.Lanes.{HandsCode, HasFound}
use Rattle.qp_model_order.specs.SourceRun.{untold_all}
use Rattle.qp_model_order.proofs.SourceLemmas.{runs-append, runs-before}
use Rattle.qp_port_law.specs.SourcesLeft.{SourceLeaves}
use Rattle.qp_kernel_turns.specs.declared.halting.Halt.{Halt}
use Rattle.qp_kernel_turns.specs.declared.halting.Halt.TheVariants as halt
use Rattle.qp_kernel_turns.specs.Halting.{FindsStop, TurnHalts, asked_once}
use Rattle.qp_port_lanes.specs.declared.cursor.Cursor.{Cursor}
use Rattle.qp_port_lanes.specs.CursorAt.{IsKnownTry, IsSourceAt, IsCursorAt, tries_in, mine, stimuli_done, at_settle_in, begins_settle}
use Rattle.qp_port_lanes.specs.SourceTurning.{SourceStarves, SourceHasStopped}
use Rattle.qp_port_lanes.specs.Passing.{FindsEntry, FindsNone, Glances, GoesAlong, IsClear, ShowsEntry, StarvesThere, StopsThere}
use Rattle.qp_port_lanes.proofs.Leaving.{Calm, still, full-lane, no-look}
use Rattle.qp_model_order.proofs.SourceLanes.{alone-append}
use Rattle.qp_port_lanes.proofs.Going.{known-later, done-at, same-gains, same-stops}
use Rattle.qp_port_lanes.proofs.Turned.{handed, same-then, spill-code}
use Rattle.qp_port_lanes.proofs.Along.{along-glances, along-once, along-then}
use Rattle.qp_port_lanes.proofs.Finding.{finds-dry, finds-full, finds-glanced, finds-once, finds-stopped}

-- looks that add nothing keep what is known of the lane
pub source-glanced : (sys : System) (ss : List Stim) (n : ℕ) (b : Bool) (v w : LaneView) → IsSourceAt sys ss n b v → Glances v w → IsSourceAt sys ss n b w
source-glanced sys ss n b v w at g = record {
  of = g.keeps.sys ∙ at.of;
  none = g.by ∙ at.none;
  front = at.front;
  behind = at.behind;
  told = g.told ∙ at.told;
  runs = at.runs;
  few = at.few;
  under_way = at.under_way;
  alone = ap (λ ts. list_all (λ i. i.of == 0) (untold_all ts)) g.told ∙ at.alone;
  calm = ap (λ ts. list_any (λ i. is_end i.body) (untold_all ts)) g.told ∙ at.calm;
  tries = ap (λ ts. none_twice (tries_in ts)) g.told ∙ at.tries;
  known = subst (λ ts. AllByRecursion (IsKnownTry w) (tries_in ts)) (sym g.told) (known-later v w (λ p. g.rise (word.Queue p)) (λ p. g.shown (word.Queue p)) (tries_in v.told) at.known);
  hands = g.hands ∙ at.hands;
}

pub cursor-glanced : (sys : System) (x : Cursor) (v w : LaneView) → IsCursorAt sys x v → Glances v w → IsCursorAt sys x w
cursor-glanced sys x v w at g = record { fits = at.fits; some = at.some; there = at.there; begun = at.begun; at = source-glanced sys (mine x) (stimuli_done x) x.settling v w at.at g; asked = let had = at.asked in let same = g.asked in omega (arith, had, same) }

-- a look found an entry
pub found-here : (sys : System) (x : Cursor) (v w : LaneView) (p : ℕ) (c : counts.Counts) → IsCursorAt sys x v → at_settle_in x ≡ true → Glances v w → ShowsEntry sys p c w → FindsEntry sys p c x x v w
found-here sys x v w p c at stands g shows = record {
  stays = record { at = cursor-glanced sys x v w at g; stim = refl; source = refl; lane = refl; along = along-glances v w g };
  same = refl;
  stands = stands;
  shows = shows;
  told = inl (g.told, refl);
}

-- The run may stop at a `settle`: behind a try, or before it.
module _ (sys : System) (ss : List Stim) (n : ℕ) (v : LaneView) where
  pub runs-tried : (kernel : ℕ) → may_try kernel ≡ true → IsSourceAt sys ss n true v → SourceRuns sys kernel 1 ss AfterTry (told_alone v.told)
  unfolding SourceRuns EndsIn
  runs-tried kernel may at =
      let t = at.under_way in
      let long = length-take-le n ss at.few in
      let count : n + 1 ≡ 1 + length (take n ss) = omega (arith, long) in
      let records : at.behind ≡ plain (body.Stim (1 + length (take n ss)) 0) ∷ t.tries = t.records ∙ ap (λ k. plain (body.Stim k 0) ∷ t.tries) count in
      let told : told_alone v.told ≡ told_alone at.front ++ plain (body.Stim (1 + length (take n ss)) 0) ∷ t.tries =
      ap told_alone at.told ∙ alone-append at.front at.behind ∙ ap (λ g. told_alone at.front ++ g) records in
      let whole : take n ss ++ stim.Settle ∷ t.rest ≡ ss = ap (λ xs. take n ss ++ xs) (sym t.next) ∙ take-append-drop n ss in
      subst (λ xs. SourceRuns sys kernel 1 xs AfterTry (told_alone v.told)) whole
      (subst (SourceRuns sys kernel 1 (take n ss ++ stim.Settle ∷ t.rest) AfterTry) (sym told)
      (runs-append sys kernel 1 (take n ss) (stim.Settle ∷ t.rest) AfterTry (told_alone at.front) (plain (body.Stim (1 + length (take n ss)) 0) ∷ t.tries) (at.runs kernel may)
      (inr (inl (0, t.tries, refl, no-look kernel may, (t.n, t.fits, may))))))

  runs-next : (kernel : ℕ) → may_try kernel ≡ true → (rest : List Stim) → drop n ss ≡ stim.Settle ∷ rest → IsSourceAt sys ss n false v → SourceRuns sys kernel 1 ss BeforeStimulus (told_alone v.told)
  runs-next kernel may rest next at =
      let whole : take n ss ++ stim.Settle ∷ rest ≡ ss = ap (λ xs. take n ss ++ xs) (sym next) ∙ take-append-drop n ss in
      subst (λ xs. SourceRuns sys kernel 1 xs BeforeStimulus (told_alone v.told)) whole
      (runs-before sys kernel (take n ss) (told_alone v.told) ((done-at sys ss n v at).runs kernel may) stim.Settle rest)

  -- behind these the lane may stop
  module _ (stop : SourceEnd) (may_stop : (end : ℕ) (b : Bool) → may_cut end ≡ true → may_end end b stop ≡ true) (calm : Calm v.told)
      (runs : (kernel : ℕ) → may_try kernel ≡ true → SourceRuns sys kernel 1 ss stop (told_alone v.told)) where
    pub stops-still : (w : LaneView) (kernel end : ℕ) → may_try kernel ≡ true → may_cut end ≡ true → w.told ≡ v.told → SourceLeaves sys kernel end ss w.told
    stops-still w kernel end may early told = subst (SourceLeaves sys kernel end ss) (sym told) (still sys kernel end ss v.told stop calm (runs kernel may) (may_stop end false early))

    pub stops-full : (w : LaneView) (kernel end : ℕ) → may_try kernel ≡ true → may_cut end ≡ true → HaltsFull v w → SourceLeaves sys kernel end ss w.told
    stops-full w kernel end may early h =
        let told : w.told ≡ v.told ++ for_object 0 (plain (body.Spill (length v.told))) ∷ [] = ap (λ x. x.told) h.stops ∙ h.spills.told in
        subst (SourceLeaves sys kernel end ss) (sym told) (full-lane sys kernel end ss v.told stop (length v.told) early calm (runs kernel may) (may_stop end true early) refl h.few)

-- where the lane may stop
record MayStopAt (sys : System) (ss : List Stim) (v : LaneView) : Type 0 where
  pub stop : SourceEnd
  pub may_stop : (end : ℕ) (b : Bool) → may_cut end ≡ true → may_end end b stop ≡ true
  pub calm : Calm v.told
  pub runs : (kernel : ℕ) → may_try kernel ≡ true → SourceRuns sys kernel 1 ss stop (told_alone v.told)

pub begins-is : (ss : List Stim) → begins_settle ss ≡ true → (rest : List Stim) × (ss ≡ stim.Settle ∷ rest)
begins-is [] h = absurd (cc)
begins-is (stim.Settle ∷ rest) h = (rest, refl)
begins-is (stim.Post to ev margin reserve ∷ rest) h = absurd (cc)
begins-is (stim.Publish ev reserve ∷ rest) h = absurd (cc)
begins-is (stim.Tick rate ∷ rest) h = absurd (cc)

may-stop-at : (sys : System) (x : Cursor) (v : LaneView) → IsCursorAt sys x v → at_settle_in x ≡ true → MayStopAt sys (mine x) v
may-stop-at sys x v at stands = by x.settling refl
  where
    by : (b : Bool) → x.settling ≡ b → MayStopAt sys (mine x) v
    by true e =
        let here : IsSourceAt sys (mine x) (x.begun - 1) true v = subst (λ c. IsSourceAt sys (mine x) (cond c (x.begun - 1) x.begun) c v) e at.at in
        record {
          stop = AfterTry;
          may_stop = λ end b early. early;
          calm = record { alone = here.alone; calm = here.calm; tries = here.tries };
          runs = λ kernel may. runs-tried sys (mine x) (x.begun - 1) v kernel may here;
        }
    by false e =
        let here : IsSourceAt sys (mine x) x.begun false v = subst (λ c. IsSourceAt sys (mine x) (cond c (x.begun - 1) x.begun) c v) e at.at in
        let begins : begins_settle (drop x.begun (mine x)) ≡ true = subst (λ c. (c || begins_settle (drop x.begun (mine x))) ≡ true) e stands in
        let next = begins-is (drop x.begun (mine x)) begins in
        record {
          stop = BeforeStimulus;
          may_stop = λ end b early. early;
          calm = record { alone = here.alone; calm = here.calm; tries = here.tries };
          runs = λ kernel may. runs-next sys (mine x) x.begun v kernel may next.0 next.1 here;
        }

-- it stops behind what it was
pub stops-behind : (sys : System) (x : Cursor) (u v w : LaneView) → GoesAlong u v → SourceHasStopped sys x x v w → SourceHasStopped sys x x u w
stops-behind sys x u v w a h = record {
  leaves = h.leaves;
  why = by h.why;
  ts = a.ts ++ h.ts;
  told = h.told ∙ ap (λ ts. ts ++ h.ts) a.told ∙ append_assoc u.told a.ts h.ts;
  keeps = same-then u v w a.keeps h.keeps;
}
  where
    by : HandsCode v w ⊎ HasFound v w → HandsCode u w ⊎ HasFound u w
    by (inl k) = inl (record { some = k.some; stops = k.stops ∙ ap (λ cs. last_code w.told ∷ cs) a.stops })
    by (inr k) = inr (record { found = subst (λ xs. length xs < length w.answered) a.answered k.found; stops = k.stops ∙ a.stops })

pub starves-behind : (u v w : LaneView) → GoesAlong u v → HaltsDry v w → SourceStarves u w
starves-behind u v w a h = record {
  ts = a.ts;
  told = ap (λ x. x.told) h.stops ∙ a.told;
  stops = ap (λ x. x.stops) h.stops ∙ ap (λ cs. 7 ∷ cs) a.stops;
  keeps = same-stops 7 u v w a.keeps h.stops;
}

-- a full lane stops
pub full-stops : (sys : System) (x : Cursor) (u w : LaneView) → ((kernel end : ℕ) → may_try kernel ≡ true → may_cut end ≡ true → SourceLeaves sys kernel end (mine x) w.told) → HaltsFull u w → SourceHasStopped sys x x u w
full-stops sys x u w leaves f =
    let last : List ToldItem = for_object 0 (plain (body.Spill (length u.told))) ∷ [] in
    record {
      leaves = leaves;
      why = inl (handed 6 u f.full w (omega arith) (spill-code u f.full (length u.told) f.spills.told) f.spills.stops f.stops);
      ts = last;
      told = ap (λ y. y.told) f.stops ∙ f.spills.told;
      keeps = same-stops 6 u f.full w (same-gains _ u f.full f.spills) f.stops;
    }

-- what a halt leaves of the hands
full-hands : (v w : LaneView) → HaltsFull v w → w.hands ≡ v.hands
unfolding hands_after hands_by
full-hands v w f = ap (λ y. y.hands) f.stops ∙ f.spills.hands

pub full-there : (sys : System) (x y : Cursor) (u v w : LaneView) → GoesAlong u v → FindsNone sys u v → HaltsFull v w → stimuli_done y ≡ stimuli_done x → SourceHasStopped sys x y u w → StopsThere sys x y u w
full-there sys x y u v w a none f same stops = record { stops = stops; hands = full-hands v w f ∙ a.hands; same = same; finds = finds-full sys u v w none f }

pub starves-there : (sys : System) (x y : Cursor) (u v w : LaneView) → GoesAlong u v → FindsNone sys u v → HaltsDry v w → stimuli_done y ≡ stimuli_done x → StarvesThere sys x y u w
starves-there sys x y u v w a none h same = record { starves = starves-behind u v w a h; hands = ap (λ z. z.hands) h.stops ∙ a.hands; same = same; finds = finds-dry sys u v w none h }

-- `ready` has stopped the turn
pub halts-stop : (sys : System) (x : Cursor) (v u w : LaneView) (h : Halt) → IsCursorAt sys x v → at_settle_in x ≡ true → Glances v u → AllByRecursion (IsClear u) (priorities sys) → h ≡ halt.Stopped → TurnHalts u w h
    → StopsThere sys x x v w
halts-stop sys x v u w h at stands g clear is halts = by (subst (TurnHalts u w) is halts)
  where
    so_far : GoesAlong v u
    so_far = along-glances v u g

    none : FindsNone sys v u
    none = finds-glanced sys v u g clear

    here : MayStopAt sys (mine x) u
    here = may-stop-at sys x u (cursor-glanced sys x v u at g) stands

    -- behind the question
    once : GoesAlong v (asked_once u)
    once = along-then v u (asked_once u) so_far (along-once u)

    by : FindsStop u w ⊎ HaltsFull (asked_once u) w → StopsThere sys x x v w
    by (inl f) = record {
      stops = stops-behind sys x v u w so_far
          (record {
            leaves = λ kernel end may early. stops-still sys (mine x) (stimuli_done x) u here.stop here.may_stop here.calm here.runs w kernel end may early (ap (λ y. y.told) f.answered);
            why = inr (record { found = rw f.answered (omega arith); stops = ap (λ y. y.stops) f.answered });
            ts = [];
            told = ap (λ y. y.told) f.answered ∙ sym (append-nil u.told);
            keeps = rw f.answered (record { sys = refl; lane = refl; world = refl; plan = refl; happened = refl; serves = λ o. refl; advances = advances-none u });
          });
      hands = ap (λ y. y.hands) f.answered ∙ so_far.hands;
      same = refl;
      finds = finds-stopped sys v u w none f;
    }
    by (inr f) =
        full-there sys x x v (asked_once u) w once (finds-once sys v u none) f refl
        (stops-behind sys x v (asked_once u) w once
        (full-stops sys x (asked_once u) w (λ kernel end may early. stops-full sys (mine x) (stimuli_done x) (asked_once u) here.stop here.may_stop here.calm here.runs w kernel end may early f) f))

pub halts-starve : (sys : System) (x : Cursor) (v u w : LaneView) (h : Halt) → Glances v u → AllByRecursion (IsClear u) (priorities sys) → h ≡ halt.Memory → TurnHalts u w h → StarvesThere sys x x v w
halts-starve sys x v u w h g clear is halts =
    starves-there sys x x v (asked_once u) w (along-then v u (asked_once u) (along-glances v u g) (along-once u)) (finds-once sys v u (finds-glanced sys v u g clear)) (subst (TurnHalts u w) is halts) refl

-- The stop word was found unset behind looks that add nothing.
left-two : (a b c : Bool) → (a && b && c) ≡ true → (a && b) ≡ true
left-two true true c h = refl
left-two true false c h = h
left-two false b c h = h

pub unset-before : (v u : LaneView) → Glances v u → is_unset u ≡ true → (no_code v.stops && no_code v.answered) ≡ true
unset-before v u glances unset =
    ap (λ c. no_code c && no_code v.answered) (sym glances.stops)
    ∙ ap (λ c. no_code u.stops && no_code c) (sym glances.answered)
    ∙ left-two (no_code u.stops) (no_code u.answered) (list_all is_codeless u.aside.purses) unset
