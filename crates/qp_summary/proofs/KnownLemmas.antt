-- The line of an object by its counts and its rest.
use Rattle.std.proofs.Common.{◌≡◌, ◌≢◌, ◌∙◌, ℕ, ◌+◌, ◌==◌, ◌&&◌, Bool, true, false, cond, List, [], ◌∷◌, ◌++◌, refl, sym, ap, subst, Some, arith}
use Rattle.std.specs.Prelude.{codes, decimal}
use Rattle.std.specs.List.{AllByRecursion, count_by, find}
use Rattle.std.proofs.lemmas.Bool.Decides.{nat_tests}
use Rattle.std.proofs.lemmas.List.Sums.{sum_by-cons}
use Rattle.qp_chart.specs.declared.checked.Chart.{Chart}
use Rattle.qp_model.specs.declared.bodies.Body.{Body}
use Rattle.qp_model.specs.declared.journals.Journal.{Journal}
use Rattle.qp_model.specs.declared.systems.System.{System}
use Rattle.qp_model.specs.declared.systems.ObjectDef.{ObjectDef}
use Rattle.qp_model.specs.Course.{chart_at}
use Rattle.qp_model.specs.History.{lane_items}
use Rattle.qp_model.specs.Home.{by_object, home_of, lane_at}
use Rattle.qp_model.specs.Kernels.{port}
use Rattle.qp_model.specs.Knowing.{Facts, ceiling_after, records_of, told}
use Rattle.qp_model.specs.Lawful.{facts_of}
use Rattle.qp_model.specs.OutputSummary.{IsObjectLine, IsStateText, all_done, config_text, is_done_record, is_took, name_in, count_events_taken, values_text}
use Rattle.qp_model.specs.Record.{Item}
use Rattle.qp_model.specs.Told.{Told}
use Rattle.qp_kernel_end.specs.declared.rest.Rest.{Rest}
use Rattle.qp_kernel_end.specs.Rests.{IsRestOf}
use Rattle.qp_summary.specs.Resting.{LeavesRest}
use Rattle.qp_summary.specs.Counting.{done_of, took_of}
use Rattle.qp_check_course.proofs.DoneLemmas.{one_if}

module _ (sys : System) (d : ObjectDef) (chart : Chart) (own : chart_at sys d.chart ≡ Some chart) (ts : List Told) (text : List ℕ) where
  -- its start or a step is under way
  pub text-away : all_done ts ≡ false → text ≡ codes "-" → IsStateText sys d (chart_at sys d.chart) ts text
  unfolding IsStateText
  text-away short is = subst (λ o. IsStateText sys d o ts text) (sym own) (rw short is)

  -- it rests
  pub text-rest : (x : Rest) → all_done ts ≡ true → LeavesRest sys d chart ts (Some x) → text ≡ name_in chart.state x.leaf ++ values_text chart.vars x.vars.items → IsStateText sys d (chart_at sys d.chart) ts text
  unfolding IsStateText LeavesRest
  text-rest x done (c, leaves, shows) is =
      let whole : text ≡ config_text chart c = is ∙ rw (shows.leaf, shows.vars) refl in
      subst (λ o. IsStateText sys d o ts text) (sym own) (rw done (c, leaves, whole))

-- the rest that is found for an object is its own
pub found-rest : (sys : System) (d : ObjectDef) (chart : Chart) (ts : List Told) (xs : List Rest) → chart_at sys d.chart ≡ Some chart → AllByRecursion (IsRestOf sys d ts) xs
    → LeavesRest sys d chart ts (find (λ x. x.priority == d.priority) xs)
unfolding LeavesRest IsRestOf
found-rest sys d chart ts [] own all = tt
found-rest sys d chart ts (x ∷ xs) own all = by (x.priority == d.priority) refl (found-rest sys d chart ts xs own all.1)
  where
    by : (b : Bool) → (x.priority == d.priority) ≡ b → LeavesRest sys d chart ts (find (λ y. y.priority == d.priority) xs)
        → LeavesRest sys d chart ts (cond b (Some x) (find (λ y. y.priority == d.priority) xs))
    by true is rest = let same : x.priority ≡ d.priority = grind (arith, nat_tests, is) in all.0 same chart own
    by false is rest = rest

-- what is counted of the records of an object is counted in its lane
own-count : (w : Facts) (f : Body → Bool) (o c : ℕ) (items : List Item) → count_by (λ (t : Told). f t.body) (records_of w o c items) ≡ count_by (λ (i : Item). (i.of == o) && f i.body) items
unfolding records_of told
own-count w f o c [] = refl
own-count w f o c (i ∷ is) =
    by (i.of == o) (own-count w f o (ceiling_after c i.body) is) ∙ sym (sum_by-cons (λ (x : Item). cond ((x.of == o) && f x.body) 1 0) i is)
  where
    by : (b : Bool) → count_by (λ (t : Told). f t.body) (records_of w o (ceiling_after c i.body) is) ≡ count_by (λ (x : Item). (x.of == o) && f x.body) is
        → count_by (λ (t : Told). f t.body) (cond b (told w o c i.body ∷ records_of w o (ceiling_after c i.body) is) (records_of w o (ceiling_after c i.body) is))
        ≡ one_if (b && f i.body) + count_by (λ (x : Item). (x.of == o) && f x.body) is
    by true more = sum_by-cons (λ (t : Told). cond (f t.body) 1 0) (told w o c i.body) (records_of w o (ceiling_after c i.body) is) ∙ ap (λ n. one_if (f i.body) + n) more
    by false more = more ∙ (let none : count_by (λ (x : Item). (x.of == o) && f x.body) is ≡ 0 + count_by (λ (x : Item). (x.of == o) && f x.body) is = omega arith in none)

-- but under `port` an object works in lane 0
pub home-first : (sys : System) (j : Journal) (o : ℕ) → j.kernel ≢ port → home_of sys j o ≡ 0
unfolding home_of
home-first sys j o other =
    let no : (j.kernel == port) ≡ false = grind (arith, nat_tests, other) in
    rw no refl

module _ (sys : System) (j : Journal) (o : ℕ) where
  abbrev pub its : List Told
  its = by_object (facts_of sys j) j o

  home-count : (f : Body → Bool) → count_by (λ (t : Told). f t.body) its ≡ count_by (λ (i : Item). (i.of == o) && f i.body) (lane_items (lane_at j (home_of sys j o)))
  unfolding by_object facts_of
  home-count f = own-count (facts_of sys j) f o 0 (lane_items (lane_at j (home_of sys j o)))

  module _ (taken done : ℕ) (took : taken ≡ count_by (took_of o) (lane_items (lane_at j (home_of sys j o)))) (dones : done ≡ count_by (done_of o) (lane_items (lane_at j (home_of sys j o)))) where
    pub its-taken : taken ≡ count_events_taken its
    its-taken = took ∙ sym (home-count is_took)

    pub its-done : (done == taken + 1) ≡ all_done its
    its-done = ap (λ n. n == taken + 1) (dones ∙ sym (home-count is_done_record)) ∙ ap (λ n. count_by (λ (t : Told). is_done_record t.body) its == n + 1) its-taken

-- the line with its text
pub known-line : (sys : System) (j : Journal) (d : ObjectDef) (text line : List ℕ) (taken : ℕ) → taken ≡ count_events_taken (by_object (facts_of sys j) j d.priority)
    → IsStateText sys d (chart_at sys d.chart) (by_object (facts_of sys j) j d.priority) text → line ≡ codes "object " ++ d.name ++ 32 ∷ decimal taken ++ 32 ∷ text ++ codes "\n" → IsObjectLine sys j d line
unfolding IsObjectLine
known-line sys j d text line taken same state is = (text, state, is ∙ ap (λ n. codes "object " ++ d.name ++ 32 ∷ decimal n ++ 32 ∷ text ++ codes "\n") same)
