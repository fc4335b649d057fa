-- A run that stopped early leaves a lawful journal.
use Rattle.std.proofs.Common.{◌≡◌, ℕ, ◌+◌, ◌<◌, ◌==◌, Bool, true, false, List, [], ◌∷◌, length, refl, sym, ◌∙◌, ap, subst, arith}
use Rattle.std.specs.List.{list_all}
use Rattle.qp_model.specs.declared.record.Rec.{Rec}
use Rattle.qp_model.specs.declared.stimulus.Stim.{Stim}
use Rattle.qp_model.specs.declared.systems.System.{System}
use Rattle.qp_model.specs.declared.journals.Journal.{Journal}
use Rattle.qp_model.specs.Told.{ToldItem}
use Rattle.qp_model.specs.History.{all_items, lane_items}
use Rattle.qp_model.specs.Home.{lane_at}
use Rattle.qp_model.specs.Kernels.{sim, has_one_order}
use Rattle.qp_model.specs.Knowing.{told_lane}
use Rattle.qp_model.specs.Lawful.{Lawful, facts_of, source_lanes}
use Rattle.qp_model.specs.Places.{in_order}
use Rattle.qp_model.specs.WordLaw.{Words}
use Rattle.qp_model.specs.Sound.{IsSound}
use Rattle.qp_model.specs.Ends.{may_cut, quiet}
use Rattle.qp_model.specs.End.{end_of, has_room}
use Rattle.qp_calls.specs.LaneView.{LaneView}
use Rattle.qp_model_order.specs.RunOrder.{has_stim, EndsInOrder}
use Rattle.qp_model.specs.OneOrder.{items_placed}
use Rattle.qp_model_order.specs.SourceRun.{SourceEnds, untold_all}
use Rattle.qp_plain_sound.proofs.LawLemmas.{log-numbered, by-the_book}
use Rattle.qp_kernel.specs.ZeroEnds.{ZeroEnds}
use Rattle.qp_kernel.specs.Run.{SourcesEnd, IsRun}
use Rattle.qp_kernel.specs.Happenings.{SourcesHalt, lanes_of, lane_order}
use Rattle.qp_kernel.proofs.LawfulLemmas.{lawful}
use Rattle.qp_kernel_runs.specs.Left.{IsLeft, HasStoppedEarly}
use Rattle.qp_kernel.proofs.AlikeKernels.{one-order}
use Rattle.qp_kernel_runs.proofs.LeftLemmas.{zero-told, zero-items, source-told, sources-are}
use Rattle.qp_kernel.specs.Turning.{Terms, kernel_in}
use Rattle.qp_kernel.proofs.DeferredLemmas.{no-port}

module _ (sys : System) (stimuli : List (List Stim)) (lanes : List (List Rec)) (v : LaneView) (left : IsLeft sys stimuli lanes v) (j : Journal) (at : j.lanes ≡ lanes) where
  pub words-hold : Words sys j.lanes
  words-hold = subst (Words sys) (sym at) (by-the_book sys lanes left.order 0 0 0 [] [] [] left.world).words

  pub numbers-are : in_order [] (items_placed (lane_order v)) ≡ true
  numbers-are = subst (λ log. in_order [] (items_placed log) ≡ true) left.log (log-numbered sys lanes left.order left.world)

  pub lanes-roomy : list_all (λ lane. has_room (lane_items lane)) j.lanes ≡ true
  lanes-roomy = subst (λ (ls : List (List Rec)). list_all (λ lane. has_room (lane_items lane)) ls ≡ true) (sym at) left.room

  pub count-is : length j.lanes ≡ 1 + length stimuli
  count-is = ap length at ∙ left.count

  halted : (end : ℕ) (cuts : Bool) (n : ℕ) (more : List (List Stim)) → 0 < n → n + length more ≡ length lanes → j.end ≡ end → SourcesHalt sys end cuts n more v.happened → SourcesEnd sys j cuts n more
  unfolding SourcesHalt SourcesEnd
  halted end cuts n [] some all is h = tt
  halted end cuts n (ss ∷ more) some all is h =
      let one = subst (λ (ts : List ToldItem). SourceEnds sys sim end cuts ss ts) (sym (source-told sys stimuli lanes v left j at n some (omega (arith, all)))) h.0 in (
        subst (λ e. SourceEnds sys sim e cuts ss (told_lane (facts_of sys j) 0 (lane_items (lane_at j n)))) (sym is) one,
        halted end cuts (n + 1) more (omega arith) (omega (arith, all)) is h.1,
      )

  pub stopped-is_run : (terms : Terms) → IsSound sys → j.kernel ≡ kernel_in terms → j.budget ≡ terms.budget → may_cut j.end ≡ true → (j.end == end_of (all_items lanes)) ≡ true → HasStoppedEarly sys terms v → IsRun sys stimuli j
  stopped-is_run terms sound kernel same cut stated stop =
      let order = stop.in_order j.end cut in
      let sources = sources-are sys stimuli lanes v left j at (no-port terms j.kernel kernel) in
      let items = zero-items sys stimuli lanes v left j at in
      let loud : (b : Bool) → j.end ≡ quiet → b ≡ true = λ b e. let wrong : false ≡ true = ap may_cut (sym e) ∙ cut in cc in
      record {
        sound = sound;
        kernel = ap has_one_order kernel ∙ one-order terms stop.single;
        words = words-hold;
        count = count-is;
        room = lanes-roomy;
        log = lane_order v;
        numbers = numbers-are;
        zero =
            subst (λ ts. ZeroEnds sys j.kernel j.budget j.end 1 ts (has_stim (source_lanes sys j))) (sym (zero-told sys stimuli lanes v left j at))
            (subst (λ x. ZeroEnds sys j.kernel j.budget j.end 1 v.told (has_stim x)) (sym sources)
            (subst (λ n. ZeroEnds sys n j.budget j.end 1 v.told (has_stim (lanes_of v))) (sym kernel)
            (subst (λ b. ZeroEnds sys (kernel_in terms) b j.end 1 v.told (has_stim (lanes_of v))) (sym same) (stop.zero j.end cut))));
        cuts = order.cuts;
        sources = halted j.end order.cuts 1 stimuli (omega arith) (sym left.count) refl (subst (λ p. SourcesHalt sys j.end order.cuts 1 p v.happened) left.plan order.sources);
        order =
            subst (λ x. EndsInOrder sys stimuli x (source_lanes sys j) order.cuts (lane_order v)) (sym items)
            (subst (λ x. EndsInOrder sys stimuli (untold_all v.told) x order.cuts (lane_order v)) (sym sources)
            (subst (λ p. EndsInOrder sys p (untold_all v.told) (lanes_of v) order.cuts (lane_order v)) left.plan order.order));
        stated = ap (λ (ls : List (List Rec)). j.end == end_of (all_items ls)) at ∙ stated;
        queues = loud _;
        blocks = loud _;
      }

  pub stopped-lawful : (terms : Terms) → IsSound sys → j.kernel ≡ kernel_in terms → j.budget ≡ terms.budget → may_cut j.end ≡ true → (j.end == end_of (all_items lanes)) ≡ true → HasStoppedEarly sys terms v → Lawful sys stimuli j
  stopped-lawful terms sound kernel same cut stated stop = lawful sys stimuli j (stopped-is_run terms sound kernel same cut stated stop)
