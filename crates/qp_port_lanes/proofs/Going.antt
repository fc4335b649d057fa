-- A stimulus of a source's lane, as the turn does it.
use Rattle.std.proofs.Common.{◌≡◌, ℕ, ◌+◌, ◌<◌, ◌≤◌, ◌==◌, true, false, not, List, [], ◌∷◌, ◌++◌, map, length, take, drop, get_or, refl, sym, ◌∙◌, ap, subst, inl, inr, arith, append-nil, append_assoc, length-append}
use Rattle.std.specs.List.{list_all, list_any, count_by, AllByRecursion}
use Rattle.std.proofs.lemmas.List.{length-map, length-take-le, take_more, take-append-drop, drop_more}
use Rattle.std.proofs.lemmas.Bool.{or_parts}
use Rattle.qp_model.specs.declared.stimulus.Stim.{Stim}
use Rattle.qp_model.specs.declared.stimulus.Stim.TheVariants as stim
use Rattle.qp_model.specs.declared.systems.System.{System}
use Rattle.qp_model.specs.declared.words.Word.TheVariants as word
use Rattle.qp_model.specs.declared.bodies.Body.TheVariants as body
use Rattle.qp_model.specs.Told.{Told, ToldItem, plain, for_object}
use Rattle.qp_model.specs.Knowing.{told_alone}
use Rattle.qp_model.specs.Kernels.{may_try}
use Rattle.qp_model.specs.Ends.{is_end, is_spill, may_cut}
use Rattle.qp_model.specs.Sources.{SourceRuns, AllDone, BeforeStimulus, EndsIn, none_twice}
use Rattle.qp_calls.specs.LaneView.{Advances, LaneView, Gains, Grows, GrowsOf}
use Rattle.qp_calls.specs.LaneLaws.{IsWithinLimit}
use Rattle.qp_calls.specs.Notes.{spills_told}
use Rattle.qp_calls.specs.Clauses.{Stops}
use Rattle.qp_calls.proofs.Advancing.{advances-gains}
use Rattle.qp_model_order.specs.SourceRun.{untold_all}
use Rattle.qp_model_order.specs.Laws.{stimulus_told}
use Rattle.qp_model_order.proofs.SourceLemmas.{runs-before}
use Rattle.qp_kernel.proofs.HappeningLemmas.{one as as_one, count-cons}
use Rattle.qp_port_law.specs.SourcesLeft.{SourceLeaves}
use Rattle.qp_calls.specs.Halting.{HaltsFull}
use Rattle.qp_calls_stimulus.specs.Stimulating.{StimulusHappens, StimulusAsserts, Spills, begun_records}
use Rattle.qp_kernel_turns.specs.Lanes.{SameLane}
use Rattle.qp_port_lanes.specs.CursorAt.{IsKnownTry, IsSourceAt, tries_in}
use Rattle.qp_port_lanes.proofs.Leaving.{Calm, Done, still, full-lane, done-more, quiet-more, asserted-lane, cut-lane, tries-quiet}

-- What the lane knows of tries stays known.
module _ (v w : LaneView) (rise : (p : ℕ) → v.mark (word.Queue p) ≤ w.mark (word.Queue p))
    (shown : (p : ℕ) → w.mark (word.Queue p) ≡ v.mark (word.Queue p) → w.shown (word.Queue p) ≡ v.shown (word.Queue p)) where
  one-known : (x : List ℕ) → IsKnownTry v x → IsKnownTry w x
  one-known [] h = absurd h
  one-known (p ∷ []) h = absurd h
  one-known (p ∷ f ∷ []) h = absurd h
  one-known (p ∷ f ∷ l ∷ []) h = absurd h
  one-known (p ∷ f ∷ l ∷ m ∷ []) h =
      let up = rise p in
      let low = h.0 in
      (omega (arith, up, low), h.1, λ e. let same : w.mark (word.Queue p) ≡ v.mark (word.Queue p) = omega (arith, up, low, e) in shown p same ∙ h.2 (e ∙ same))
  one-known (p ∷ f ∷ l ∷ m ∷ n ∷ xs) h = absurd h

  pub known-later : (xs : List (List ℕ)) → AllByRecursion (IsKnownTry v) xs → AllByRecursion (IsKnownTry w) xs
  known-later [] h = tt
  known-later (x ∷ xs) h = (one-known x h.0, known-later xs h.1)

-- The lane between two stimuli.
module _ (sys : System) (ss : List Stim) (n : ℕ) (v : LaneView) (at : IsSourceAt sys ss n false v) where
  pub front-is : at.front ≡ v.told
  front-is = sym (at.told ∙ ap (λ g. at.front ++ map (for_object 0) g) at.under_way ∙ append-nil at.front)

  pub calm-at : Calm v.told
  calm-at = record { alone = at.alone; calm = at.calm; tries = at.tries }

  pub done-at : Done sys (take n ss) v.told
  done-at = record { is_calm = calm-at; runs = λ kernel may. subst (λ ts. SourceRuns sys kernel 1 (take n ss) AllDone (told_alone ts)) front-is (at.runs kernel may) }

-- no record of a calm lane is a `spill`
pub unspilled-told : (told : List ToldItem) → list_any (λ i. is_end i.body) (untold_all told) ≡ false → spills_told told ≡ false
unspilled-told [] h = refl
unspilled-told (t ∷ ts) h =
    let parts = or_parts (is_end t.told.body) (list_any (λ i. is_end i.body) (untold_all ts)) h in
    let none : is_spill t.told.body ≡ false = (or_parts _ (is_spill t.told.body) parts.0).1 in
    rw (none, unspilled-told ts parts.1) refl

none-done : (sys : System) (kernel : ℕ) (s : Stim) (g : List Told) → EndsIn sys kernel s AllDone g → ⊥
unfolding EndsIn
none-done sys kernel stim.Settle g h = h
none-done sys kernel _ g h = h

-- so many stimuli have at least as many records
pub runs-long : (sys : System) (kernel k : ℕ) (ss : List Stim) (g : List Told) → SourceRuns sys kernel k ss AllDone g → length ss ≤ length g
unfolding SourceRuns
runs-long sys kernel k [] g h = omega arith
runs-long sys kernel k (s ∷ ss) g (inl h) = absurd (let wrong = h.1 in cc)
runs-long sys kernel k (s ∷ ss) g (inr (inl h)) = absurd (none-done sys kernel s h.1 h.4)
runs-long sys kernel k (s ∷ ss) g (inr (inr h)) =
    let later = runs-long sys kernel (k + 1) ss h.2 h.6 in
    let long = ap length h.3 in
    let both = length-append h.1 h.2 in
    omega (arith, later, long, both)

regular-all : (told : List ToldItem) → spills_told told ≡ false → count_by (λ t. not (is_spill t.told.body)) told ≡ length told
regular-all [] h = refl
regular-all (t ∷ ts) h =
    let parts = or_parts (is_spill t.told.body) (spills_told ts) h in
    let later = regular-all ts parts.1 in
    let first = count-cons (λ (u : ToldItem). not (is_spill u.told.body)) t ts in
    let here : as_one (not (is_spill t.told.body)) ≡ 1 = ap (λ b. as_one (not b)) parts.0 in
    omega (arith, first, here, later)

-- a lane has at most so many records, and so many stimuli
pub few-done : (sys : System) (ss : List Stim) (n : ℕ) (v : LaneView) → IsSourceAt sys ss n false v → IsWithinLimit v → n ≤ 1000000
few-done sys ss n v at within =
    let long = runs-long sys 1 1 (take n ss) (told_alone v.told) ((done-at sys ss n v at).runs 1 refl) in
    let taken = length-take-le n ss at.few in
    let all = regular-all v.told (unspilled-told v.told at.calm) in
    let same = length-map v.told (λ t. t.told) in
    omega (arith, long, taken, all, same, within)

-- what a gain keeps
pub same-gains : (ts : List ToldItem) (v w : LaneView) → Gains ts v w → SameLane v w
same-gains ts v w g = record { sys = g.sys; lane = g.lane; world = g.world; plan = g.plan; happened = g.happened; serves = g.serves; advances = advances-gains ts v w g }

pub same-stops : (code : ℕ) (u v w : LaneView) → SameLane u v → Stops code v w → SameLane u w
same-stops code u v w same e = record {
  sys = ap (λ x. x.sys) e ∙ same.sys;
  lane = ap (λ x. x.lane) e ∙ same.lane;
  world = ap (λ x. x.world) e ∙ same.world;
  plan = ap (λ x. x.plan) e ∙ same.plan;
  happened = ap (λ x. x.happened) e ∙ same.happened;
  serves = λ o. ap (λ x. x.serves o) e ∙ same.serves o;
  advances = subst (Advances u) (sym e) same.advances;
}

-- The next stimulus.
module _ (sys : System) (ss : List Stim) (n : ℕ) (v w : LaneView) (at : IsSourceAt sys ss n false v) (s d : Stim) (lt : n < length ss) (is : s ≡ get_or ss n d) where
  left : List Stim
  left = drop (n + 1) ss

  more : take (n + 1) ss ≡ take n ss ++ s ∷ []
  more = take_more ss n d lt ∙ ap (λ x. take n ss ++ x ∷ []) (sym is)

  whole : take n ss ++ s ∷ left ≡ ss
  unfolding left
  whole = ap (λ xs. take n ss ++ xs) (ap (λ x. x ∷ drop (n + 1) ss) is ∙ sym (drop_more ss n d lt)) ∙ take-append-drop n ss

  count : 1 + length (take n ss) ≡ n + 1
  count = let long = length-take-le n ss (omega (arith, lt)) in omega (arith, long)

  its : (g : List Told) (u : LaneView) → Grows g v u → GrowsOf 0 g v u
  its g u grows = subst (λ o. GrowsOf o g v u) at.none grows

  pub went : (h : StimulusHappens sys s (n + 1) 0 v w) → IsSourceAt sys ss (n + 1) false w
  went h =
      let g = its (begun_records (n + 1) 0 h.one) w h.grows in
      let told : w.told ≡ v.told ++ stimulus_told (1 + length (take n ss)) 0 h.one = g.told ∙ ap (λ k. v.told ++ stimulus_told k 0 h.one) (sym count) in
      let next = done-more sys (take n ss) v.told (done-at sys ss n v at) s h.one h.fits in
      let quiet = quiet-more sys (take n ss) v.told (done-at sys ss n v at) s h.one h.fits in
      let tries : tries_in w.told ≡ tries_in v.told = ap tries_in told ∙ tries-quiet v.told (stimulus_told (1 + length (take n ss)) 0 h.one) quiet in
      record {
        of = g.sys ∙ at.of;
        none = g.by ∙ at.none;
        front = w.told;
        behind = [];
        told = sym (append-nil w.told);
        runs = λ kernel may. subst (λ xs. SourceRuns sys kernel 1 xs AllDone (told_alone w.told)) (sym more) (subst (λ ts. SourceRuns sys kernel 1 (take n ss ++ s ∷ []) AllDone (told_alone ts)) (sym told) (next.runs kernel may));
        few = omega (arith, lt);
        under_way = refl;
        alone = ap (λ ts. list_all (λ i. i.of == 0) (untold_all ts)) told ∙ next.is_calm.alone;
        calm = ap (λ ts. list_any (λ i. is_end i.body) (untold_all ts)) told ∙ next.is_calm.calm;
        tries = ap none_twice tries ∙ at.tries;
        known = subst (AllByRecursion (IsKnownTry w)) (sym tries) (known-later v w (λ p. g.rise (word.Queue p)) (λ p. g.shown (word.Queue p)) (tries_in v.told) at.known);
        hands = h.hands ∙ at.hands;
      }

  -- it ends in its assertion
  pub failed : (kernel end : ℕ) → may_try kernel ≡ true → may_cut end ≡ true → StimulusAsserts sys s (n + 1) 0 v w → SourceLeaves sys kernel end ss w.told
  failed kernel end try early h =
      let g = its (begun_records (n + 1) 0 h.one) h.mid h.grows in
      let told : w.told ≡ v.told ++ stimulus_told (1 + length (take n ss)) 0 h.one = ap (λ x. x.told) h.stops ∙ g.told ∙ ap (λ k. v.told ++ stimulus_told k 0 h.one) (sym count) in
      subst (λ xs. SourceLeaves sys kernel end xs w.told) whole (subst (SourceLeaves sys kernel end (take n ss ++ s ∷ left)) (sym told)
      (asserted-lane sys (take n ss) v.told (done-at sys ss n v at) s kernel end left h.one try early h.fits))

  -- a `spill` cuts it
  pub spilled : (kernel end : ℕ) → may_try kernel ≡ true → may_cut end ≡ true → Spills sys s (n + 1) 0 v w → SourceLeaves sys kernel end ss w.told
  spilled kernel end try early h =
      let g = its (begun_records (n + 1) 0 h.one) h.mid h.grows in
      let size = length h.mid.told in
      let spill : List ToldItem = for_object 0 (plain (body.Spill size)) ∷ [] in
      let mid : h.mid.told ≡ v.told ++ stimulus_told (1 + length (take n ss)) 0 h.one = g.told ∙ ap (λ k. v.told ++ stimulus_told k 0 h.one) (sym count) in
      let told : w.told ≡ v.told ++ (stimulus_told (1 + length (take n ss)) 0 h.one ++ spill) =
      ap (λ x. x.told) h.halts.stops ∙ h.halts.spills.told ∙ ap (λ ts. ts ++ spill) mid ∙ append_assoc v.told (stimulus_told (1 + length (take n ss)) 0 h.one) spill in
      let wide : length (stimulus_told (1 + length (take n ss)) 0 h.one) ≡ 1 + length h.one = length-map (plain (body.Stim (1 + length (take n ss)) 0) ∷ h.one) (for_object 0) ∙ omega arith in
      let all = ap length mid in
      let sum = length-append v.told (stimulus_told (1 + length (take n ss)) 0 h.one) in
      let long : size ≡ length v.told + (1 + length h.one) = omega (arith, all, sum, wide) in
      subst (λ xs. SourceLeaves sys kernel end xs w.told) whole (subst (SourceLeaves sys kernel end (take n ss ++ s ∷ left)) (sym told)
      (cut-lane sys (take n ss) v.told (done-at sys ss n v at) s kernel end left size h.one h.back h.asserted try early h.some h.fits long h.halts.few))

  -- the lane has no room for its `stim`
  pub full : (kernel end : ℕ) → may_try kernel ≡ true → may_cut end ≡ true → HaltsFull v w → SourceLeaves sys kernel end ss w.told
  full kernel end try early h =
      let told : w.told ≡ v.told ++ for_object 0 (plain (body.Spill (length v.told))) ∷ [] = ap (λ x. x.told) h.stops ∙ h.spills.told in
      subst (λ xs. SourceLeaves sys kernel end xs w.told) whole (subst (SourceLeaves sys kernel end (take n ss ++ s ∷ left)) (sym told)
      (full-lane sys kernel end (take n ss ++ s ∷ left) v.told BeforeStimulus (length v.told) early (calm-at sys ss n v at)
      (runs-before sys kernel (take n ss) (told_alone v.told) ((done-at sys ss n v at).runs kernel try) s left) early refl h.few))

  -- the stop word was set
  pub elsewhere : (kernel end : ℕ) → may_try kernel ≡ true → may_cut end ≡ true → w.told ≡ v.told → SourceLeaves sys kernel end ss w.told
  elsewhere kernel end try early told =
      subst (λ xs. SourceLeaves sys kernel end xs w.told) whole (subst (SourceLeaves sys kernel end (take n ss ++ s ∷ left)) (sym told)
      (still sys kernel end (take n ss ++ s ∷ left) v.told BeforeStimulus (calm-at sys ss n v at)
      (runs-before sys kernel (take n ss) (told_alone v.told) ((done-at sys ss n v at).runs kernel try) s left) early))
