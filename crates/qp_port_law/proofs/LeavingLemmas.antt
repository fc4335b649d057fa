-- The lanes of sources with threads of their own.
use Rattle.std.proofs.Common.{◌≡◌, ℕ, ◌+◌, ◌==◌, true, List, [], ◌∷◌, length, drop, sym, ◌∙◌, ap, subst, arith}
use Rattle.std.specs.Option.{unwrap_or}
use Rattle.std.specs.List.{list_any, list_all, filter_map, AllByRecursion}
use Rattle.qp_model.specs.declared.record.Rec.{Rec}
use Rattle.qp_model.specs.declared.stimulus.Stim.{Stim}
use Rattle.qp_model.specs.declared.systems.System.{System}
use Rattle.qp_model.specs.declared.journals.Journal.{Journal}
use Rattle.qp_model.specs.Record.{Item}
use Rattle.qp_model.specs.History.{lane_items}
use Rattle.qp_model.specs.Home.{lane_at}
use Rattle.qp_model.specs.Knowing.{told_lane}
use Rattle.qp_model.specs.Ends.{is_spent, spills_in, spills_cut, ends_last}
use Rattle.qp_model.specs.End.{spills_state}
use Rattle.qp_model.specs.Sources.{SourceRuns, IsSourceLane, entry_seen, none_twice, may_end}
use Rattle.qp_model.specs.Lawful.{facts_of, SourceLanes}
use Rattle.qp_model.proofs.TakenLemmas.{drop-head}
use Rattle.qp_model_order.specs.SourceRun.{untold_all}
use Rattle.qp_model_order.proofs.SourceLanes.{untold-lane}
use Rattle.qp_kernel.proofs.TellLemmas.{source-lane}
use Rattle.qp_kernel.proofs.ZeroLawful.{IsBeside}
use Rattle.qp_port_law.specs.SourcesLeft.{SourceLeaves}
use Rattle.qp_port_law.specs.PortRun.{SourcesLeave}

module _ (sys : System) (j : Journal) where
  module _ (ss : List Stim) (is : List Item) (h : SourceLeaves sys j.kernel j.end ss (told_lane (facts_of sys j) 0 is)) where
    same-items : untold_all (told_lane (facts_of sys j) 0 is) ≡ is
    same-items = untold-lane (facts_of sys j) 0 is

    alone-here : list_all (λ i. i.of == 0) is ≡ true
    alone-here = ap (list_all (λ i. i.of == 0)) (sym same-items) ∙ h.alone

    is-lane : IsSourceLane (facts_of sys j) j.kernel j.end ss is
    unfolding facts_of none_twice
    is-lane = record {
      alone = alone-here;
      spills = ap (spills_cut j.end) (sym same-items) ∙ h.spills;
      tries = ap (λ x. none_twice (filter_map (λ i. entry_seen i.body) x)) (sym same-items) ∙ h.tries;
      stimuli = (
        h.stop,
        subst (SourceRuns sys j.kernel 1 ss h.stop) (sym (source-lane (facts_of sys j) is alone-here)) h.runs,
        ap (λ x. may_end j.end (spills_in x) h.stop) (sym same-items) ∙ h.may,
      );
    }

    pub leaves-beside : IsBeside is
    leaves-beside = record {
      alone = alone-here;
      ends = ap ends_last (sym same-items) ∙ h.ends;
      unspent = ap (list_any (λ i. is_spent i.body)) (sym same-items) ∙ h.unspent;
      states = ap (spills_state 0) (sym same-items) ∙ h.states;
    }

  -- from lane n on each is that of its source
  pub lanes-from : (n : ℕ) (more : List (List Stim)) → SourcesLeave sys j n more → SourceLanes sys j n more
  unfolding SourceLanes SourcesLeave facts_of
  lanes-from n [] h = tt
  lanes-from n (ss ∷ more) h = (is-lane ss (lane_items (lane_at j n)) h.0, lanes-from (n + 1) more h.1)

  -- and has no record of an object
  pub beside-from : (n : ℕ) (ls : List (List Rec)) (more : List (List Stim)) → drop n j.lanes ≡ ls → SourcesLeave sys j n more → length ls ≡ length more → AllByRecursion (λ l. IsBeside (lane_items l)) ls
  unfolding SourcesLeave
  beside-from n [] more at h len = tt
  beside-from n (l ∷ ls) [] at h len = absurd (omega (arith, len))
  beside-from n (l ∷ ls) (ss ∷ more) at h len =
      let behind = drop-head n j.lanes l ls at in
      let here_l : lane_at j n ≡ l = ap (λ x. unwrap_or x []) behind.0 in
      let shorter : length ls ≡ length more = omega (arith, len) in
      (subst (λ x. IsBeside (lane_items x)) here_l (leaves-beside ss (lane_items (lane_at j n)) h.0), beside-from (n + 1) ls more behind.1 h.1 shorter)
