-- The lane of a new world.
use Rattle.std.proofs.Common.{ℕ, List, refl, sym, ◌∙◌, ap, subst}
use Rattle.qp_model.specs.declared.stimulus.Stim.{Stim}
use Rattle.qp_model.specs.declared.systems.System.{System}
use Rattle.qp_stim.specs.Rules.{StimuliFit}
use Rattle.qp_calls.specs.LaneView.{IsNew, LaneView}
use Rattle.qp_plain.specs.declared.world.PlainWorld.{PlainWorld}
use Rattle.qp_plain.specs.NewWorld.{IsNewWorld}
use Rattle.qp_plain_sound.specs.View.{view_of}
use Rattle.qp_kernel_runs.specs.declared.world.SimWorld.{SimWorld}
use Rattle.qp_kernel_runs.specs.NewSim.{IsSim}
use Rattle.qp_kernel_runs.specs.SimView.{sim_view}
use Rattle.qp_kernel_turns.specs.Starting.{IsFreshLane}

module _ (sys : System) (stimuli : List (List Stim)) (n : ℕ) (plain : PlainWorld) (w : SimWorld) (new : IsNewWorld sys n plain) (is : IsSim plain stimuli w) where
  pub fresh-world : IsFreshLane sys (sim_view w)
  unfolding view_of
  fresh-world =
      let v = new.view in
      record {
        new = subst IsNew (sym is) (record {
          told = v.told;
          by = v.by;
          stops = v.stops;
          answered = v.answered;
          asked = v.asked;
          mark = v.mark;
          shown = v.shown;
          own = v.own;
          hands = v.hands;
          happened = refl;
        });
        of = ap (λ (u : LaneView). u.sys) is ∙ new.sys_is;
        serves = λ d found. ap (λ (u : LaneView). u.serves d.priority) is;
      }

  pub fit-world : StimuliFit sys stimuli → StimuliFit sys (sim_view w).plan
  unfolding view_of
  fit-world fit = subst (λ (u : LaneView). StimuliFit sys u.plan) (sym is) fit
