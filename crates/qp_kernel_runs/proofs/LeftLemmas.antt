-- The journal of what a run leaves, as its lanes were seen.
use Rattle.std.proofs.Common.{◌≡◌, ℕ, suc, ◌+◌, ◌<◌, ◌==◌, false, cond, List, [], ◌∷◌, map, length, drop, refl, sym, ◌∙◌, ap, arith}
use Rattle.std.specs.Prelude.{slice_get}
use Rattle.std.specs.Option.{unwrap_or}
use Rattle.std.proofs.lemmas.Option.{unwrap_or-slice_get}
use Rattle.qp_model.specs.declared.record.Rec.{Rec}
use Rattle.qp_model.specs.declared.stimulus.Stim.{Stim}
use Rattle.qp_model.specs.declared.systems.System.{System}
use Rattle.qp_model.specs.declared.journals.Journal.{Journal}
use Rattle.qp_model.specs.History.{lane_items}
use Rattle.qp_model.specs.Home.{lane_at}
use Rattle.qp_model.specs.Kernels.{port}
use Rattle.qp_model.specs.Knowing.{Facts, told_lane}
use Rattle.qp_model.specs.Lawful.{facts_of, source_lanes}
use Rattle.qp_model.proofs.TakenLemmas.{drop-head}
use Rattle.qp_calls.specs.LaneView.{LaneView}
use Rattle.qp_model_order.specs.SourceRun.{untold_all}
use Rattle.qp_model_order.specs.Stimulus.{source_items}
use Rattle.qp_plain_sound.specs.Log.{lane_recs}
use Rattle.qp_plain_sound.specs.Sound.{facts_in}
use Rattle.qp_kernel.specs.Happenings.{lanes_from, lanes_of, lane_told, told_by_source}
use Rattle.qp_model_order.proofs.SourceLanes.{untold-lane}
use Rattle.qp_kernel_runs.specs.Left.{IsLeft}

module _ (sys : System) (stimuli : List (List Stim)) (lanes : List (List Rec)) (v : LaneView) (left : IsLeft sys stimuli lanes v) (j : Journal) (at : j.lanes ≡ lanes) where
  pub lane-is : (n : ℕ) → lane_at j n ≡ lane_recs lanes n
  lane-is n = ap (λ x. unwrap_or (slice_get x n) []) at ∙ unwrap_or-slice_get lanes n []

  pub facts-are : facts_of sys j ≡ facts_in sys lanes
  unfolding facts_of
  facts-are = ap (facts_in sys) at

  pub told-is : (n : ℕ) → told_lane (facts_of sys j) 0 (lane_items (lane_at j n)) ≡ told_lane (facts_in sys lanes) 0 (lane_items (lane_recs lanes n))
  told-is n =
      ap (λ (w : Facts). told_lane w 0 (lane_items (lane_at j n))) facts-are
      ∙ ap (λ (l : List Rec). told_lane (facts_in sys lanes) 0 (lane_items l)) (lane-is n)

  pub zero-told : told_lane (facts_of sys j) 0 (lane_items (lane_at j 0)) ≡ v.told
  zero-told = told-is 0 ∙ left.zero

  pub zero-items : lane_items (lane_at j 0) ≡ untold_all v.told
  zero-items = sym (untold-lane (facts_of sys j) 0 (lane_items (lane_at j 0))) ∙ ap untold_all zero-told

  pub source-told : (n : ℕ) → 0 < n → n < length lanes → told_lane (facts_of sys j) 0 (lane_items (lane_at j n)) ≡ lane_told n v.happened
  source-told n some few = told-is n ∙ left.sources n some few

  items-are : (n : ℕ) → 0 < n → n < length lanes → (l : List Rec) → lane_recs lanes n ≡ l → lane_items l ≡ source_items (told_by_source n v.happened)
  items-are n some few l is =
      ap (λ (x : List Rec). lane_items x) (sym is)
      ∙ sym (untold-lane (facts_in sys lanes) 0 (lane_items (lane_recs lanes n)))
      ∙ ap untold_all (left.sources n some few)

  -- from lane n on
  from : (n : ℕ) (ss : List (List Stim)) (ls : List (List Rec)) → 0 < n → drop n lanes ≡ ls → length ls ≡ length ss → n + length ls ≡ length lanes
      → map (λ (lane : List Rec). lane_items lane) ls ≡ lanes_from n ss v.happened
  unfolding lanes_from
  from n [] [] some is same all = refl
  from n [] (l ∷ ls) some is same all = absurd (omega (arith, same))
  from n (s ∷ ss) [] some is same all = absurd (omega (arith, same))
  from n (s ∷ ss) (l ∷ ls) some is same all =
      let behind = drop-head n lanes l ls is in
      let here : lane_recs lanes n ≡ l = sym (unwrap_or-slice_get lanes n []) ∙ ap (λ x. unwrap_or x []) behind.0 in
      let one = items-are n some (omega (arith, all)) l here in
      let more = from (n + 1) ss ls (omega arith) behind.1 (omega (arith, same)) (omega (arith, all)) in
      rw (one, more) refl

  first-lane : (ls : List (List Rec)) → lanes ≡ ls → length ls ≡ 1 + length stimuli → map (λ (lane : List Rec). lane_items lane) (drop 1 ls) ≡ lanes_from 1 stimuli v.happened
  first-lane [] is all = absurd (omega (arith, all))
  first-lane (l ∷ ls) is all =
      let long : length lanes ≡ suc (length ls) = ap length is in
      from 1 stimuli ls (omega arith) (ap (drop 1) is) (omega (arith, all)) (omega (arith, long))

  pub sources-are : (j.kernel == port) ≡ false → source_lanes sys j ≡ lanes_of v
  unfolding source_lanes
  sources-are kernel =
      ap (λ b. map (λ (lane : List Rec). lane_items lane) (drop (cond b (length sys.objects + 1) 1) j.lanes)) kernel
      ∙ ap (λ (ls : List (List Rec)). map (λ (lane : List Rec). lane_items lane) (drop 1 ls)) at
      ∙ first-lane lanes refl left.count
      ∙ ap (λ p. lanes_from 1 p v.happened) (sym left.plan)
