-- A run that was sealed left a lawful journal.
use Rattle.std.proofs.Common.{◌≡◌, ◌+◌, ◌≤◌, ◌==◌, Bool, true, false, cond, List, ◌∷◌, refl, sym, ◌∙◌, ap, subst, inl, inr, arith}
use Rattle.std.specs.Prelude.{◌⊎◌}
use Rattle.std.specs.List.{list_any}
use Rattle.std.proofs.lemmas.Bool.Decides.{nat_tests}
use Rattle.qp_model.specs.declared.journals.Journal.{Journal}
use Rattle.qp_model.specs.Record.{Item}
use Rattle.qp_model.specs.Ends.{is_assert, is_end, may_cut, quiet}
use Rattle.qp_model.specs.End.{end_of}
use Rattle.qp_model.specs.History.{all_items}
use Rattle.qp_model.specs.Kernels.{qk}
use Rattle.qp_model_order.specs.RunOrder.{has_stim}
use Rattle.qp_kernel.specs.Happenings.{lanes_of}
use Rattle.qp_kernel.specs.Turning.{under_qk}
use Rattle.qp_kernel_end.specs.Rests.{AreRestsIn}
use Rattle.qp_kernel_turns.specs.Turning.{EndsSo}
use Rattle.qp_kernel_turns.specs.TurnRows.{idle_rows}
use Rattle.qp_port_law.specs.Sealed.{SealsLanes}
use Rattle.qp_port_law.specs.Lanes.{SourcesAre, settles_in}
use Rattle.qp_port_law.specs.QkLanes.{AreQkLanes}
use Rattle.qp_port_law.proofs.QkLemmas.{sealed-qk}
use Rattle.qp_port_law.proofs.RestLemmas.{qk-rests}
use Rattle.qp_port_law.proofs.StartsLemmas.{zero-first}
use Rattle.qp_port_law.specs.ThreadRun.{IsThreadRun}
use Rattle.qp_port_qk.specs.Laws.{SealedQkRunsAreLawful}

-- a run ended quietly, or stopped early
end-is : (j : Journal) → (j.end == end_of (all_items j.lanes)) ≡ true → (j.end ≡ quiet) ⊎ (may_cut j.end ≡ true)
end-is j stated = by (list_any (λ (i : Item). is_assert i.body) items) (list_any (λ (i : Item). is_end i.body) items) is
  where
    items : List Item
    items = all_items j.lanes

    is : j.end ≡ end_of (all_items j.lanes)
    is = grind (arith, nat_tests, stated)

    by : (a b : Bool) → j.end ≡ cond a 3 (cond b 4 0) → (j.end ≡ quiet) ⊎ (may_cut j.end ≡ true)
    by true b e = inr (rw e refl)
    by false true e = inr (rw e refl)
    by false false e = inl e

pub sealed : SealedQkRunsAreLawful
sealed sys stimuli budget done rests vs j sound run seals whole = by (end-is j seals.stated)
  where
    its : SealsLanes sys qk budget (run.first ∷ run.sources) j
    its = subst (λ us. SealsLanes sys qk budget us j) run.are seals

    told : AreRestsIn sys j rests
    told = qk-rests sys budget run.first run.sources j rests its run.told

    few : idle_rows sys (under_qk budget) run.first ≤ settles_in (run.first ∷ run.sources) + 1
    few = subst (λ us. idle_rows sys (under_qk budget) run.first ≤ settles_in us + 1) run.are run.rows

    by-lanes : AreQkLanes sys stimuli budget run.first run.sources j → IsThreadRun qk sys stimuli budget j × AreRestsIn sys j rests
    by-lanes are = (
      record { kernel_is = seals.kernel_is; budget_is = seals.budget_is; lawful = sealed-qk sys stimuli budget run.first run.sources j are; first = zero-first sys budget run.first run.sources j its run.starts },
      told,
    )

    by : (j.end ≡ quiet) ⊎ (may_cut j.end ≡ true) → IsThreadRun qk sys stimuli budget j × AreRestsIn sys j rests
    by (inl is) =
        let end = run.quietly (whole is) in
        by-lanes (record {
          sound = sound;
          seals = its;
          most = idle_rows sys (under_qk budget) run.first;
          now = has_stim (lanes_of run.first);
          zero = subst (λ n. EndsSo sys (under_qk budget) n run.first.told (has_stim (lanes_of run.first))) (sym is) end.ends.zero;
          rows = few;
          leave = subst (λ n. SourcesAre sys qk n stimuli run.sources) (sym is) end.ends.leave;
          rests = λ again. end.rests;
        })
    by (inr early) =
        let end = run.early j.end early in
        by-lanes (record {
          sound = sound;
          seals = its;
          most = idle_rows sys (under_qk budget) run.first;
          now = has_stim (lanes_of run.first);
          zero = end.zero;
          rows = few;
          leave = end.leave;
          rests = λ is. absurd (let wrong : true ≡ false = sym early ∙ ap may_cut is in cc);
        })
