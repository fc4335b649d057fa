-- The journal that a run leaves, and what it begins with.
use Rattle.std.proofs.Common.{◌≡◌, ◌≢◌, ℕ, ◌==◌, Bool, true, false, cond, List, refl, sym, ◌∙◌, ap, subst, arith}
use Rattle.std.specs.List.{list_any}
use Rattle.std.proofs.lemmas.Bool.Decides.{nat_tests}
use Rattle.qp_model.specs.declared.record.Rec.{Rec}
use Rattle.qp_model.specs.declared.stimulus.Stim.{Stim}
use Rattle.qp_model.specs.declared.systems.System.{System}
use Rattle.qp_model.specs.Record.{Item}
use Rattle.qp_model.specs.Ends.{is_assert, is_end, may_cut}
use Rattle.qp_model.specs.End.{end_of}
use Rattle.qp_model.specs.History.{all_items}
use Rattle.qp_stim.specs.Rules.{StimuliFit}
use Rattle.qp_calls.specs.LaneView.{IsNew, LaneView}
use Rattle.qp_kernel_end.specs.declared.journal.Outcome.{Outcome}
use Rattle.qp_kernel_end.specs.Outcome.{end_by, outcome_of}
use Rattle.qp_kernel_end.proofs.OutcomeLemmas.{its-end}
use Rattle.qp_plain.specs.declared.world.PlainWorld.{PlainWorld}
use Rattle.qp_plain.specs.NewWorld.{IsNewWorld}
use Rattle.qp_plain_sound.specs.View.{view_of}
use Rattle.qp_kernel_runs.specs.declared.world.SimWorld.{SimWorld}
use Rattle.qp_kernel_runs.specs.NewSim.{IsSim}
use Rattle.qp_kernel_runs.specs.SimView.{sim_view}
use Rattle.qp_kernel_turns.specs.declared.objects.Objects.{Objects}
use Rattle.qp_kernel_turns.specs.Objects.{AreMade}
use Rattle.qp_kernel_runs.specs.Running.{IsClosed, MayRunKernel}
use Rattle.qp_kernel.specs.Turning.{Terms, kernel_in}

-- a journal with the end of its outcome
pub closed-is : (lanes : List (List Rec)) (terms : Terms) (kernel n : ℕ) (o : Outcome) → kernel ≡ kernel_in terms
    → o ≡ outcome_of (record { kernel = kernel; budget = terms.budget; lanes = lanes; end = 0 }) → end_by o ≡ n → IsClosed lanes terms (record { kernel = kernel; budget = terms.budget; lanes = lanes; end = n })
closed-is lanes terms kernel n o by is ends =
    let same : n ≡ end_of (all_items lanes) = sym ends ∙ ap end_by is ∙ its-end (record { kernel = kernel; budget = terms.budget; lanes = lanes; end = 0 }) in
    record { kernel = by; budget_is = refl; lanes_are = refl; stated = grind (arith, nat_tests, same) }

-- an end other than 0 that the records state is that of a run that stopped early
pub cut-of : (items : List Item) (n : ℕ) → (n == end_of items) ≡ true → n ≢ 0 → may_cut n ≡ true
cut-of items n is some =
    let same : n ≡ end_of items = grind (arith, nat_tests, is) in
    subst (λ e. may_cut e ≡ true) (sym same)
    (go (list_any (λ i. is_assert i.body) items) (list_any (λ i. is_end i.body) items) (subst (λ e. e ≢ 0) same some))
  where
    go : (b c : Bool) → ◌≢◌ {A = ℕ} (cond b 3 (cond c 4 0)) 0 → may_cut (cond b 3 (cond c 4 0)) ≡ true
    go true c h = refl
    go false true h = refl
    go false false h = absurd (h refl)

-- the world of a run that begins
pub may-run : (sys : System) (stimuli : List (List Stim)) (n : ℕ) (plain : PlainWorld) (w : SimWorld) (xs : Objects) → IsNewWorld sys n plain → IsSim plain stimuli w → AreMade sys xs
    → StimuliFit sys stimuli → MayRunKernel sys xs (sim_view w)
unfolding view_of
may-run sys stimuli n plain w xs new is made fit =
    let v = new.view in
    record {
      made = made;
      fresh = record {
        new = subst IsNew (sym is) (record {
          told = v.told;
          by = v.by;
          stops = v.stops;
          answered = v.answered;
          asked = v.asked;
          mark = v.mark;
          shown = v.shown;
          own = v.own;
          hands = v.hands;
          happened = refl;
        });
        of = ap (λ (u : LaneView). u.sys) is ∙ new.sys_is;
        serves = λ d found. ap (λ (u : LaneView). u.serves d.priority) is;
      };
      fit = subst (λ (u : LaneView). StimuliFit sys u.plan) (sym is) fit;
    }

pub seen-as : (sys : System) (stimuli : List (List Stim)) (n : ℕ) (plain : PlainWorld) (w : SimWorld) → IsNewWorld sys n plain → IsSim plain stimuli w
    → ((sim_view w).sys ≡ sys) × ((sim_view w).plan ≡ stimuli)
unfolding view_of
seen-as sys stimuli n plain w new is = (ap (λ (u : LaneView). u.sys) is ∙ new.sys_is, ap (λ (u : LaneView). u.plan) is)
