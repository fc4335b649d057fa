-- A journal in range for one form is in range for each other that it has.
use Rattle.std.proofs.Common.{◌≡◌, ℕ, ◌<◌, ◌≤◌, Bool, true, false, cond, List, [], ◌∷◌, length, refl, arith}
use Rattle.std.specs.Prelude.{◌==◌, not, nat_le}
use Rattle.std.specs.List.{list_all}
use Rattle.std.proofs.lemmas.Bool.{false≢true, and_from, and_parts}
use Rattle.std.proofs.lemmas.Bool.Decides.{nat_tests}
use Rattle.qp_model.specs.Kernels.{port, qk, qv}
use Rattle.qp_model.specs.declared.journals.Journal.{Journal}
use Rattle.qp_model.specs.Kinds.{LOOK, REST}
use Rattle.qp_model.specs.declared.record.Rec.{Rec}
use Rattle.qp_model.specs.Output.{has_form, has_no_rest, is_in_range, is_lane_in_range, is_record_in_range}
use Rattle.qp_model.specs.declared.stimulus.Stim as stimulus
use Rattle.qp_model.specs.declared.systems.System.{System}
use Rattle.qp_unique.specs.FormLaws.{CanBeWritten}
use Rattle.qp_unique.proofs.FormLemmas.{written, written-qk, written-qv}
use Rattle.qp_unique.proofs.PortForms.{written-port}
use Rattle.qp_port_law.specs.ThreadRun.{IsThreadRun}
use Rattle.qp_model.specs.Sound.{IsSound}
use Rattle.qp_model.specs.Ends.{ends_last}
use Rattle.qp_model.specs.History.{lane_items}
use Rattle.qp_model.specs.Lawful.{EndHolds, Lawful, deferred_of}
use Rattle.qp_summary.specs.Written.{HasStimuli}
use Rattle.qp_kernel_runs.specs.SimRun.{IsQvRun, IsSimRun}
use Rattle.qp_run_parts.specs.Printed.{IsRunUnder}
use Rattle.qp_commands.specs.declared.values.KernelName.{KernelName}
use Rattle.qp_commands.specs.declared.values.KernelName.TheVariants.{Sim, Qk, Port, Wait, Qv}
use Rattle.qp_commands.specs.declared.values.Form.{Form}
use Rattle.qp_commands.specs.declared.values.Form.TheVariants.{One, Two}
use Rattle.qp_commands.specs.WordTable.{is_form_of, number_of_form}

kind-one : (b : Bool) (kind : ℕ) → nat_le kind (cond b REST LOOK) ≡ true → not (kind == REST) ≡ true → nat_le kind LOOK ≡ true
kind-one true kind within other = grind (arith, nat_tests)
kind-one false kind within other = within

kind-two : (b : Bool) (kind : ℕ) → nat_le kind (cond b REST LOOK) ≡ true → nat_le kind REST ≡ true
kind-two true kind within = within
kind-two false kind within = grind (arith, nat_tests)

kernel-one : (b : Bool) (kernel : ℕ) → nat_le kernel (cond b 3 2) ≡ true → not (kernel == qv) ≡ true → nat_le kernel 2 ≡ true
kernel-one true kernel within other = grind (arith, nat_tests)
kernel-one false kernel within other = within

kernel-two : (b : Bool) (kernel : ℕ) → nat_le kernel (cond b 3 2) ≡ true → nat_le kernel 3 ≡ true
kernel-two true kernel within = within
kernel-two false kernel within = grind (arith, nat_tests)

module _ (form : ℕ) where
  record-one : (r : Rec) → is_record_in_range form r ≡ true → not (r.kind == REST) ≡ true → is_record_in_range 1 r ≡ true
  record-one r within other =
      let object = and_parts _ _ within in
      let count = and_parts _ _ object.0 in
      let kinds = and_parts _ _ count.0 in
      and_from _ _ (and_from _ _ (and_from _ _ kinds.0 (kind-one (form == 2) r.kind kinds.1 other)) count.1) object.1

  record-two : (r : Rec) → is_record_in_range form r ≡ true → is_record_in_range 2 r ≡ true
  record-two r within =
      let object = and_parts _ _ within in
      let count = and_parts _ _ object.0 in
      let kinds = and_parts _ _ count.0 in
      and_from _ _ (and_from _ _ (and_from _ _ kinds.0 (kind-two (form == 2) r.kind kinds.1)) count.1) object.1

  records-one : (rs : List Rec) → list_all (is_record_in_range form) rs ≡ true → list_all (λ (r : Rec). not (r.kind == REST)) rs ≡ true → list_all (is_record_in_range 1) rs ≡ true
  records-one [] within other = refl
  records-one (r ∷ rs) within other =
      let a = and_parts (is_record_in_range form r) _ within in
      let b = and_parts (not (r.kind == REST)) _ other in
      and_from (is_record_in_range 1 r) _ (record-one r a.0 b.0) (records-one rs a.1 b.1)

  records-two : (rs : List Rec) → list_all (is_record_in_range form) rs ≡ true → list_all (is_record_in_range 2) rs ≡ true
  records-two [] within = refl
  records-two (r ∷ rs) within =
      let a = and_parts (is_record_in_range form r) _ within in
      and_from (is_record_in_range 2 r) _ (record-two r a.0) (records-two rs a.1)

  lanes-one : (lanes : List (List Rec)) → list_all (is_lane_in_range form) lanes ≡ true → has_no_rest lanes ≡ true → list_all (is_lane_in_range 1) lanes ≡ true
  lanes-one [] within other = refl
  lanes-one (lane ∷ lanes) within other =
      let a = and_parts (is_lane_in_range form lane) _ within in
      let b = and_parts (list_all (λ (r : Rec). not (r.kind == REST)) lane) _ other in
      let short = and_parts (nat_le (length lane) 1000001) _ a.0 in
      and_from (is_lane_in_range 1 lane) _ (and_from (nat_le (length lane) 1000001) _ short.0 (records-one lane short.1 b.0)) (lanes-one lanes a.1 b.1)

  lanes-two : (lanes : List (List Rec)) → list_all (is_lane_in_range form) lanes ≡ true → list_all (is_lane_in_range 2) lanes ≡ true
  lanes-two [] within = refl
  lanes-two (lane ∷ lanes) within =
      let a = and_parts (is_lane_in_range form lane) _ within in
      let short = and_parts (nat_le (length lane) 1000001) _ a.0 in
      and_from (is_lane_in_range 2 lane) _ (and_from (nat_le (length lane) 1000001) _ short.0 (records-two lane short.1)) (lanes-two lanes a.1)

-- a journal in range for one form is in range for another that it has
pub range-moves : (form : ℕ) (to : Form) (j : Journal) → is_in_range form j ≡ true → has_form (number_of_form to) j ≡ true → is_in_range (number_of_form to) j ≡ true
range-moves form One j within has =
    let lanes = and_parts _ _ within in
    let few = and_parts _ _ lanes.0 in
    let end = and_parts _ _ few.0 in
    let most = and_parts _ _ end.0 in
    let budget = and_parts _ _ most.0 in
    let form_has = and_parts (not (j.kernel == qv)) (has_no_rest j.lanes) has in
    let kernel : nat_le j.kernel 2 ≡ true = kernel-one (form == 2) j.kernel budget.0 form_has.0 in
    and_from _ _ (and_from _ _ (and_from _ _ (and_from _ _ (and_from _ _ kernel budget.1) most.1) end.1) few.1) (lanes-one form j.lanes lanes.1 form_has.1)
range-moves form Two j within has =
    let lanes = and_parts _ _ within in
    let few = and_parts _ _ lanes.0 in
    let end = and_parts _ _ few.0 in
    let most = and_parts _ _ end.0 in
    let budget = and_parts _ _ most.0 in
    let kernel : nat_le j.kernel 3 ≡ true = kernel-two (form == 2) j.kernel budget.0 in
    and_from _ _ (and_from _ _ (and_from _ _ (and_from _ _ (and_from _ _ kernel budget.1) most.1) end.1) few.1) (lanes-two form j.lanes lanes.1)

-- the journal of a run is lawful
pub run-lawful : (sys : System) (sources : List (List stimulus.Stim)) (kernel : KernelName) (budget : ℕ) (j : Journal) → IsRunUnder kernel sys sources budget j
    → Lawful sys sources j
run-lawful sys sources Sim budget j is = is.run.lawful
run-lawful sys sources Qk budget j is = is.lawful
run-lawful sys sources Port budget j is = is.lawful
run-lawful sys sources Wait budget j is = is.lawful
run-lawful sys sources Qv budget j is = is.run.run.lawful

-- it has each form of its kernel, and is in range for it
module _ (sys : System) (sources : List (List stimulus.Stim)) (budget : ℕ) (j : Journal) (sound : IsSound sys) (few : length sources ≤ 16)
    (some : 0 < budget) (most : budget ≤ 1000000) where
  sim-written : IsSimRun sys sources budget j → CanBeWritten 1 j
  sim-written is = written sys sources j sound few is.kernel (rw is.budget_is some) (rw is.budget_is most) is.lawful

  qv-written : IsQvRun sys sources budget j → CanBeWritten 2 j
  qv-written is = written-qv sys sources j sound few is.run.kernel (rw is.run.budget_is some) (rw is.run.budget_is most) is.run.lawful

  qk-written : IsThreadRun qk sys sources budget j → CanBeWritten 1 j
  qk-written is = written-qk sys sources j sound few is.kernel_is (rw is.budget_is some) (rw is.budget_is most) is.lawful

  port-written : IsThreadRun port sys sources budget j → CanBeWritten 1 j
  port-written is = written-port sys sources j sound few is.kernel_is (rw is.budget_is some) (rw is.budget_is most) is.lawful

  pub run-form : (kernel : KernelName) → IsRunUnder kernel sys sources budget j → (to : Form) → is_form_of kernel to ≡ true
      → has_form (number_of_form to) j ≡ true
  run-form Sim is One fits = (sim-written is.run).has
  run-form Sim is Two fits = refl
  run-form Qk is One fits = (qk-written is).has
  run-form Qk is Two fits = refl
  run-form Port is One fits = (port-written is).has
  run-form Port is Two fits = refl
  run-form Wait is One fits = (port-written is).has
  run-form Wait is Two fits = refl
  run-form Qv is One fits = absurd (false≢true fits)
  run-form Qv is Two fits = refl

  pub run-range : (kernel : KernelName) → IsRunUnder kernel sys sources budget j → (to : Form) → is_form_of kernel to ≡ true
      → is_in_range (number_of_form to) j ≡ true
  run-range Sim is to fits = range-moves 1 to j (sim-written is.run).range (run-form Sim is to fits)
  run-range Qk is to fits = range-moves 1 to j (qk-written is).range (run-form Qk is to fits)
  run-range Port is to fits = range-moves 1 to j (port-written is).range (run-form Port is to fits)
  run-range Wait is to fits = range-moves 1 to j (port-written is).range (run-form Wait is to fits)
  run-range Qv is to fits = range-moves 2 to j (qv-written is.run).range (run-form Qv is to fits)

-- it has few lanes
pub lanes-few : (form : ℕ) (j : Journal) → is_in_range form j ≡ true → length j.lanes ≤ 49
lanes-few form j within =
    let lanes = and_parts _ (list_all (is_lane_in_range form) j.lanes) within in
    let few : nat_le (length j.lanes) 49 ≡ true = (and_parts _ (nat_le (length j.lanes) 49) lanes.0).1 in
    grind (arith, nat_tests, few)

-- and nothing follows a record that ends a lane of a lawful one
pub lanes-end : (sys : System) (j : Journal) → HasStimuli sys j → list_all (λ lane. ends_last (lane_items lane)) j.lanes ≡ true
unfolding EndHolds deferred_of
lanes-end sys j lawful = lawful.1.end.last
