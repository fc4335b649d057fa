-- What is true of the world stays so while lane 0 goes on.
use Rattle.std.proofs.Common.{◌≡◌, ℕ, ◌+◌, Bool, true, List, [], ◌++◌, map, length, get_or, sym, ◌∙◌, ap, subst, arith, length-append, IsFalse}
use Rattle.std.specs.List.{list_all}
use Rattle.std.proofs.lemmas.List.{map-append, append-nil, length-map}
use Rattle.qp_model.specs.declared.stimulus.Stim.{Stim}
use Rattle.qp_model.specs.declared.words.Word.{Word}
use Rattle.qp_model.specs.Told.{ToldItem, untold}
use Rattle.qp_calls.specs.LaneView.{LaneView, Happening, Shown, Gains, Looks, placed_by, is_codeless}
use Rattle.qp_model_order.specs.SourceRun.{untold_all}
use Rattle.qp_kernel.specs.Happenings.{run_order, rises}
use Rattle.qp_kernel_runs.specs.SimHolds.{SimHolds}
use Rattle.qp_kernel.proofs.HappeningLemmas.{order-more, rises-more}
use Rattle.qp_kernel_runs.proofs.OrderLemmas.{placed-untold}

module _ (plan : List (List Stim)) (begun : List ℕ) (last : ℕ) (halted : Bool) (hs : List Happening) where
  abbrev Holds : LaneView → Type 0
  Holds v = SimHolds plan begun last halted hs v

  rises-told : (v : LaneView) → rises 0 hs (length v.told) ≡ true → rises 0 hs (0 + length (untold_all v.told)) ≡ true
  rises-told v r = let n = length-map v.told untold in subst (λ k. rises 0 hs k ≡ true) (omega (arith, n)) r

  -- these records come to its end
  pub holds-grown : (ts : List ToldItem) (v w : LaneView) → w.told ≡ v.told ++ ts → w.lane ≡ v.lane → w.log ≡ v.log ++ map (placed_by v.lane) ts → w.aside ≡ v.aside
      → Holds v → Holds w
  holds-grown ts v w told lane log aside h = record {
    home = lane ∙ h.home;
    lanes = ap (λ a. length a.told) aside ∙ h.lanes;
    purses = ap (λ a. length a.purses) aside ∙ h.purses;
    counted = h.counted;
    recent = h.recent;
    order =
        log ∙ ap (λ l. l ++ map (placed_by v.lane) ts) h.order
        ∙ ap (λ k. run_order 0 (untold_all v.told) hs ++ map (placed_by k) ts) h.home
        ∙ ap (λ l. run_order 0 (untold_all v.told) hs ++ l) (placed-untold 0 ts)
        ∙ sym (order-more 0 (untold_all v.told) (untold_all ts) hs (rises-told v h.rises))
        ∙ ap (λ l. run_order 0 l hs) (sym (map-append untold v.told ts))
        ∙ ap (λ l. run_order 0 (untold_all l) hs) (sym told);
    sources = λ n some few. ap (λ a. get_or a.told n []) aside ∙ h.sources n some few;
    rises =
        rises-more 0 hs (length v.told) (length w.told)
        (let n : length w.told ≡ length v.told + length ts = ap length told ∙ length-append v.told ts in omega (arith, n)) h.rises;
    counts = h.counts;
    halts = λ e. subst (λ a. IsFalse (list_all is_codeless a.purses)) (sym aside) (h.halts e);
  }

  pub holds-gains : (ts : List ToldItem) (v w : LaneView) → Gains ts v w → Holds v → Holds w
  holds-gains ts v w g h = holds-grown ts v w g.told g.lane g.log g.aside h

  -- none comes
  pub holds-still : (v w : LaneView) → w.told ≡ v.told → w.lane ≡ v.lane → w.log ≡ v.log → w.aside ≡ v.aside → Holds v → Holds w
  holds-still v w told lane log aside h = holds-grown [] v w (told ∙ sym (append-nil v.told)) lane (log ∙ sym (append-nil v.log)) aside h

  pub holds-looks : (a : Word) (n : ℕ) (x : Shown) (v w : LaneView) → Looks a n x v w → Holds v → Holds w
  holds-looks a n x v w l h = holds-still v w l.told l.lane l.log l.aside h
