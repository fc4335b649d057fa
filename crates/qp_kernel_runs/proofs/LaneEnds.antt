-- Nothing follows a record that ends a lane of a run that stopped early.
use Rattle.std.proofs.Common.{◌≡◌, ℕ, suc, ◌+◌, ◌<◌, Bool, true, List, [], ◌∷◌, length, drop, refl, sym, ◌∙◌, ap, subst, arith}
use Rattle.std.specs.Option.{unwrap_or}
use Rattle.std.specs.List.{list_all}
use Rattle.std.proofs.lemmas.Option.{unwrap_or-slice_get}
use Rattle.qp_model.specs.declared.record.Rec.{Rec}
use Rattle.qp_model.specs.declared.stimulus.Stim.{Stim}
use Rattle.qp_model.specs.declared.systems.System.{System}
use Rattle.qp_model.specs.Ends.{end_asserted, ends_last}
use Rattle.qp_model.specs.History.{lane_items}
use Rattle.qp_model.specs.Knowing.{told_lane}
use Rattle.qp_model.specs.Told.{ToldItem}
use Rattle.qp_model.proofs.TakenLemmas.{drop-head}
use Rattle.qp_calls.specs.LaneView.{LaneView}
use Rattle.qp_model_order.specs.SourceRun.{untold_all}
use Rattle.qp_plain_sound.specs.Log.{lane_recs}
use Rattle.qp_plain_sound.specs.Sound.{facts_in}
use Rattle.qp_kernel.specs.Happenings.{SourcesHalt}
use Rattle.qp_kernel.specs.Turning.{Terms}
use Rattle.qp_model_order.proofs.SourceLanes.{untold-lane}
use Rattle.qp_kernel_runs.specs.Left.{IsLeft, HasStoppedEarly}

module _ (sys : System) (stimuli : List (List Stim)) (lanes : List (List Rec)) (v : LaneView) (left : IsLeft sys stimuli lanes v) where
  -- what ends with nothing behind it ends so as a lane that was told
  lane-last : (n : ℕ) (ts : List ToldItem) (l : List Rec) → lane_recs lanes n ≡ l → told_lane (facts_in sys lanes) 0 (lane_items (lane_recs lanes n)) ≡ ts
      → ends_last (untold_all ts) ≡ true → ends_last (lane_items l) ≡ true
  lane-last n ts l at is h =
      ap (λ (x : List Rec). ends_last (lane_items x)) (sym at)
      ∙ ap ends_last (sym (untold-lane (facts_in sys lanes) 0 (lane_items (lane_recs lanes n))))
      ∙ ap (λ x. ends_last (untold_all x)) is
      ∙ h

  -- the lanes of the sources from number n on
  sources-last : (cuts : Bool) (n : ℕ) (ss : List (List Stim)) (ls : List (List Rec)) → 0 < n → drop n lanes ≡ ls → length ls ≡ length ss → n + length ls ≡ length lanes
      → SourcesHalt sys end_asserted cuts n ss v.happened → list_all (λ lane. ends_last (lane_items lane)) ls ≡ true
  unfolding SourcesHalt
  sources-last cuts n [] [] some is same all h = refl
  sources-last cuts n [] (l ∷ ls) some is same all h = absurd (omega (arith, same))
  sources-last cuts n (s ∷ ss) [] some is same all h = absurd (omega (arith, same))
  sources-last cuts n (s ∷ ss) (l ∷ ls) some is same all h =
      let behind = drop-head n lanes l ls is in
      let here : lane_recs lanes n ≡ l = sym (unwrap_or-slice_get lanes n []) ∙ ap (λ x. unwrap_or x []) behind.0 in
      let one = lane-last n _ l here (left.sources n some (omega (arith, all))) h.0.ends in
      let more = sources-last cuts (n + 1) ss ls (omega arith) behind.1 (omega (arith, same)) (omega (arith, all)) h.1 in
      rw (one, more) refl

  pub stopped-last : (terms : Terms) → HasStoppedEarly sys terms v → list_all (λ lane. ends_last (lane_items lane)) lanes ≡ true
  stopped-last terms stop = by lanes refl
    where
      by : (ls : List (List Rec)) → lanes ≡ ls → list_all (λ lane. ends_last (lane_items lane)) ls ≡ true
      by [] is = refl
      by (l ∷ ls) is =
          let order = stop.in_order end_asserted refl in
          let long : length lanes ≡ suc (length ls) = ap length is in
          let count = left.count in
          let zero = lane-last 0 v.told l (ap (λ (x : List (List Rec)). lane_recs x 0) is) left.zero (stop.zero end_asserted refl).ends in
          let halt = subst (λ p. SourcesHalt sys end_asserted order.cuts 1 p v.happened) left.plan order.sources in
          let more = sources-last order.cuts 1 stimuli ls (omega arith) (ap (drop 1) is) (omega (arith, long, count)) (omega (arith, long)) halt in
          rw (zero, more) refl
