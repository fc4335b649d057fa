-- A world of `sim` in which nothing has happened.
use Rattle.std.proofs.Common.{◌≡◌, ℕ, ◌+◌, ◌==◌, false, List, [], length, get_or, replicate, refl, sym, ◌∙◌, ap, arith}
use Rattle.std.specs.List.{filter}
use Rattle.std.proofs.lemmas.Bool.{le-leb}
use Rattle.std.proofs.lemmas.List.{length-replicate, get_or-replicate}
use Rattle.qp_model.specs.declared.stimulus.Stim.{Stim}
use Rattle.qp_model.specs.History.{lane_items}
use Rattle.qp_model.specs.Knowing.{told_lane}
use Rattle.qp_model_order.specs.SourceRun.{untold_all}
use Rattle.qp_kernel.specs.Happenings.{run_order, rises, told_by_source, begun_by}
use Rattle.qp_plain_sound.specs.Log.{lane_recs}
use Rattle.qp_model.specs.OneOrder.{items_placed}
use Rattle.qp_plain_sound.specs.Sound.{facts_in}
use Rattle.qp_plain_sound.specs.View.{view_of}
use Rattle.qp_plain_sound.proofs.Logs.{lanes-log}
use Rattle.qp_plain.specs.declared.world.PlainWorld.{PlainWorld}
use Rattle.qp_plain.specs.Book.{lists_of}
use Rattle.qp_plain.specs.NewWorld.{lanes_in}
use Rattle.qp_plain.specs.WorldView.{world_view}
use Rattle.qp_kernel_runs.specs.NewSim.{IsNewSim}
use Rattle.qp_kernel_runs.specs.SimHolds.{SimHolds, BegunCounts, last_source}
use Rattle.qp_kernel_runs.proofs.Worlds.{tells, told-here, told-of, told-other, lane-is, long-aside, long-beside}

module _ (w : PlainWorld) (first : IsNewSim w) where
  bare : (k : ℕ) → lane_items (lane_recs (lists_of w.book) k) ≡ []
  bare k =
      sym (lanes-log (lists_of w.book) w.book.order.items w.holds.world.orders k)
      ∙ ap (λ log. items_placed (filter (λ x. x.lane == k) log)) first.log

  untold : (k : ℕ) → tells w (lane_recs (lists_of w.book) k) ≡ []
  unfolding told_lane
  untold k = ap (told_lane (facts_in w.sys.now (lists_of w.book)) 0) (bare k)

  told-none : (world_view w).told ≡ []
  told-none = told-here w ∙ told-of w w.book.at ∙ untold w.book.at

  order-first : (world_view w).log ≡ run_order 0 (untold_all (world_view w).told) []
  unfolding view_of run_order
  order-first = first.log ∙ sym (ap (λ t. run_order 0 (untold_all t) []) told-none)

  module _ (plan : List (List Stim)) (begun : List ℕ) (lanes : lanes_in w ≡ 1 + length plan) (zero : begun ≡ replicate (length plan) 0) where
    counts-first : BegunCounts plan begun 0 []
    unfolding begun_by last_source
    counts-first = record {
      whole = refl;
      calm = refl;
      sources = refl;
      begun_are = λ n lt. ap (λ b. get_or b n 0) zero ∙ get_or-replicate (length plan) n 0 0 lt;
      few = λ n lt. let none = ap (λ b. get_or b n 0) zero ∙ get_or-replicate (length plan) n 0 0 lt in omega (arith, none);
      last_is = refl;
    }

    pub sim-begins : SimHolds plan begun 0 false [] (world_view w)
    unfolding told_by_source rises
    sim-begins = record {
      home = lane-is w ∙ first.first;
      lanes = long-aside w ∙ lanes;
      purses = long-beside w ∙ lanes;
      counted = ap length zero ∙ length-replicate (length plan) 0;
      recent = omega arith;
      order = order-first;
      sources = λ n some few. told-other w n (λ e. let at = first.first in omega (arith, at, e, some)) ∙ told-of w n ∙ untold n;
      rises = le-leb 0 (length (world_view w).told) (omega arith);
      counts = λ e. counts-first;
      halts = λ e. absurd (cc);
    }
