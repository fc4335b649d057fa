-- A run that was sealed left a lawful journal.
use Rattle.std.proofs.Common.{◌≡◌, ◌==◌, Bool, true, false, cond, List, ◌∷◌, ◌++◌, refl, sym, ◌∙◌, ap, subst, inl, inr, arith}
use Rattle.std.specs.Prelude.{◌⊎◌}
use Rattle.std.specs.List.{list_any}
use Rattle.std.proofs.lemmas.Bool.Decides.{nat_tests}
use Rattle.qp_model.specs.declared.journals.Journal.{Journal}
use Rattle.qp_model.specs.Record.{Item}
use Rattle.qp_model.specs.Ends.{is_assert, is_end, may_cut, quiet}
use Rattle.qp_model.specs.End.{end_of}
use Rattle.qp_model.specs.History.{all_items}
use Rattle.qp_model.specs.Kernels.{port}
use Rattle.qp_kernel_end.specs.Rests.{AreRestsIn}
use Rattle.qp_port_law.specs.Sealed.{SealsLanes}
use Rattle.qp_port_law.specs.Lanes.{HomesAre, SourcesAre}
use Rattle.qp_port_law.specs.PortLanes.{ArePortLanes}
use Rattle.qp_port_law.proofs.LaneLemmas.{homes-count}
use Rattle.qp_port_law.proofs.PortLemmas.{sealed-port}
use Rattle.qp_port_law.proofs.StartsLemmas.{homes-first}
use Rattle.qp_port_law.proofs.RestLemmas.{port-rests}
use Rattle.qp_port_law.specs.ThreadRun.{IsThreadRun}
use Rattle.qp_port.specs.Laws.{SealedRunsAreLawful}

-- a run ended quietly, or stopped early
end-is : (j : Journal) → (j.end == end_of (all_items j.lanes)) ≡ true → (j.end ≡ quiet) ⊎ (may_cut j.end ≡ true)
end-is j stated = by (list_any (λ (i : Item). is_assert i.body) items) (list_any (λ (i : Item). is_end i.body) items) is
  where
    items : List Item
    items = all_items j.lanes

    is : j.end ≡ end_of (all_items j.lanes)
    is = grind (arith, nat_tests, stated)

    by : (a b : Bool) → j.end ≡ cond a 3 (cond b 4 0) → (j.end ≡ quiet) ⊎ (may_cut j.end ≡ true)
    by true b e = inr (rw e refl)
    by false true e = inr (rw e refl)
    by false false e = inl e

pub sealed : SealedRunsAreLawful
sealed sys stimuli budget done rests vs j sound run seals whole = by (end-is j seals.stated)
  where
    its : SealsLanes sys port budget (run.first ∷ run.homes ++ run.sources) j
    its = subst (λ us. SealsLanes sys port budget us j) run.are seals

    told : AreRestsIn sys j rests
    told = port-rests sys budget run.first run.homes run.sources j rests sound its run.told

    by-lanes : ArePortLanes sys stimuli budget run.first run.homes run.sources j → IsThreadRun port sys stimuli budget j × AreRestsIn sys j rests
    by-lanes are = (
      record { kernel_is = seals.kernel_is; budget_is = seals.budget_is; lawful = sealed-port sys stimuli budget run.first run.homes run.sources j are; first = homes-first sys budget run.first run.homes run.sources j its run.empty (homes-count sys budget j.end sys.objects run.homes are.ends) run.starts },
      told,
    )

    by : (j.end ≡ quiet) ⊎ (may_cut j.end ≡ true) → IsThreadRun port sys stimuli budget j × AreRestsIn sys j rests
    by (inl is) =
        let end = run.quietly (whole is) in
        by-lanes (record {
          sound = sound;
          seals = its;
          empty = run.empty;
          ends = subst (λ n. HomesAre sys budget n sys.objects run.homes) (sym is) end.homes_end;
          leave = subst (λ n. SourcesAre sys port n stimuli run.sources) (sym is) end.sources_end;
          rests = λ again. end.rests;
        })
    by (inr early) =
        by-lanes (record {
          sound = sound;
          seals = its;
          empty = run.empty;
          ends = run.early.homes_end j.end early;
          leave = run.early.sources_end j.end early;
          rests = λ is. absurd (let wrong : true ≡ false = sym early ∙ ap may_cut is in cc);
        })
