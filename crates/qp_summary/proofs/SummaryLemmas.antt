-- What the lines say is what the summary of the journal has.
use Rattle.std.proofs.Common.{◌≡◌, ◌∙◌, ℕ, zero, suc, ◌+◌, ◌==◌, Bool, true, false, not, List, [], ◌∷◌, ◌++◌, length, take, get_or, cond, refl, ◌<◌, sym, ap, subst, Option, Some, None, Ok, Err, arith}
use Rattle.std.specs.Prelude.{codes, decimal}
use Rattle.std.specs.List.{filter, count_by}
use Rattle.std.proofs.lemmas.List.Sums.{sum_by-cons}
use Rattle.qp_chart.specs.declared.checked.Chart.{Chart}
use Rattle.qp_model.specs.declared.journals.Journal.{Journal}
use Rattle.qp_model.specs.declared.systems.System.{System}
use Rattle.qp_model.specs.declared.systems.ObjectDef.{ObjectDef}
use Rattle.qp_model.specs.declared.systems.PoolDef.{PoolDef}
use Rattle.qp_model.specs.declared.bodies.Body.{Body}
use Rattle.qp_model.specs.declared.bodies.Body.TheVariants as body
use Rattle.qp_model.specs.Course.{chart_at}
use Rattle.qp_model.specs.Ends.{is_turn_mark}
use Rattle.qp_model.specs.History.{all_items}
use Rattle.qp_model.specs.Home.{by_object}
use Rattle.qp_model.specs.Lawful.{CourseHolds, cut_of, dispatched, facts_of}
use Rattle.qp_model.specs.OutputSummary.{is_took, is_done_record, count_events_taken, all_done, CourseLeaves, config_text, name_in, values_text, IsStateText, IsObjectLine, AreObjectLines, IsSummary, pool_line, pool_lines}
use Rattle.qp_model.specs.Record.{Item}
use Rattle.qp_model.specs.Told.{Told}
use Rattle.qp_check_course.specs.Followable.{IsFollowable}
use Rattle.qp_check_course.specs.Standing.{FollowSomehow, LeavesAt, StandsAt}
use Rattle.qp_check_course.specs.declared.standing.Standing.{Standing}
use Rattle.qp_base.specs.Counts.{Rose}
use Rattle.qp_base.specs.Sink.{appended, AppendsPrefix}
use Rattle.qp_summary.specs.declared.summary.SummaryFault.TheVariants as fault
use Rattle.qp_summary.specs.Written.{lines_joined, Writes, SummaryFails}
use Rattle.qp_check_course.proofs.DoneLemmas.{one_if}

-- what is counted of a list is counted of those that pass a test, where it passes the test
filter-counts : {X : Type 0} (p q : X → Bool) → ((x : X) → p x ≡ true → q x ≡ true) → (xs : List X) → count_by p (filter q xs) ≡ count_by p xs
filter-counts p q pass [] = refl
filter-counts {X = X} p q pass (x ∷ xs) = by (filter-counts p q pass xs) (q x) refl (p x) refl
  where
    first : (ys : List X) → count_by p (x ∷ ys) ≡ cond (p x) 1 0 + count_by p ys
    first ys = sum_by-cons (λ x. cond (p x) 1 0) x ys

    by : count_by p (filter q xs) ≡ count_by p xs → (b : Bool) → q x ≡ b → (c : Bool) → p x ≡ c → count_by p (cond b (x ∷ filter q xs) (filter q xs)) ≡ count_by p (x ∷ xs)
    by more true is c counts = first (filter q xs) ∙ ap (λ n. cond (p x) 1 0 + n) more ∙ sym (first xs)
    by more false is true counts = let wrong : true ≡ false = sym (pass x counts) ∙ is in absurd (cc)
    by more false is false counts =
        let whole : count_by p (x ∷ xs) ≡ one_if (p x) + count_by p xs = first xs in
        let none = ap one_if counts in
        more ∙ omega (arith, whole, none)

took-steps : (b : Body) → is_took b ≡ true → not (is_turn_mark b) ≡ true
took-steps (body.Took f l m e) h = refl
took-steps b h = absurd (cc)

done-steps : (b : Body) → is_done_record b ≡ true → not (is_turn_mark b) ≡ true
done-steps body.Done h = refl
done-steps b h = absurd (cc)

dispatched-done : (ts : List Told) → all_done (dispatched ts) ≡ all_done ts
dispatched-done ts =
    let dones = filter-counts (λ (t : Told). is_done_record t.body) (λ t. not (is_turn_mark t.body)) (λ t h. done-steps t.body h) ts in
    let tooks = filter-counts (λ (t : Told). is_took t.body) (λ t. not (is_turn_mark t.body)) (λ t h. took-steps t.body h) ts in
    ap (λ n. n == count_events_taken (dispatched ts) + 1) dones ∙ ap (λ n. count_by (λ t. is_done_record t.body) ts == n + 1) tooks

module _ (sys : System) (d : ObjectDef) (f : IsFollowable sys d) (g : List Told) where
  -- an object that stands somewhere
  pub stands-text : (s : Standing) (text : List ℕ) → StandsAt sys d g (Some s)
      → ((chart : Chart) → chart_at sys d.chart ≡ Some chart → text ≡ name_in chart.state s.leaf ++ values_text chart.vars s.vars.items) → (ts : List Told) → dispatched ts ≡ g → IsStateText sys d (chart_at sys d.chart) ts text
  unfolding StandsAt LeavesAt IsStateText CourseLeaves
  stands-text s text (done, own, c, found, leaves, shows) told ts same =
      let all : all_done ts ≡ true = sym (dispatched-done ts) ∙ ap all_done same ∙ done in
      let whole : text ≡ config_text own c = told own found ∙ rw (shows.leaf, shows.vars) refl in
      subst (λ o. IsStateText sys d o ts text) (sym found)
      (rw all (c, (leaves.0, leaves.1, leaves.2, leaves.3 ∙ sym same, leaves.4, leaves.5), whole))

  -- one whose start or step is under way
  pub away-text : (text : List ℕ) → StandsAt sys d g None → text ≡ codes "-" → (ts : List Told) → dispatched ts ≡ g → IsStateText sys d (chart_at sys d.chart) ts text
  unfolding StandsAt IsStateText
  away-text text short is ts same =
      let none : all_done ts ≡ false = sym (dispatched-done ts) ∙ ap all_done same ∙ short in
      subst (λ o. IsStateText sys d o ts text) (sym f.is_its) (rw none is)

  pub no-chart : chart_at sys d.chart ≡ None → ⊥
  no-chart none = let both : Some f.its ≡ None = sym f.is_its ∙ none in cc

-- the records of an object's start and steps follow its chart
pub course-follows : (sys : System) (j : Journal) (d : ObjectDef) (g : List Told) → g ≡ dispatched (by_object (facts_of sys j) j d.priority) → CourseHolds sys j d → FollowSomehow sys d g
unfolding CourseHolds FollowSomehow
course-follows sys j d g is h = (cut_of sys j d.priority, h.0, h.1 ∙ sym is, h.2)

-- one more line
pub lines-then : (sys : System) (j : Journal) (ds : List ObjectDef) (d : ObjectDef) (lines : List (List ℕ)) (line : List ℕ)
    → AreObjectLines sys j ds lines → IsObjectLine sys j d line → AreObjectLines sys j (ds ++ d ∷ []) (lines ++ line ∷ [])
unfolding AreObjectLines
lines-then sys j [] d lines line are is = (line, [], is, refl, ap (λ ls. ls ++ line ∷ []) are)
lines-then sys j (e ∷ ds) d lines line (first, rest, one, more, whole) is =
    (first, rest ++ line ∷ [], one, lines-then sys j ds d rest line more is, ap (λ ls. ls ++ line ∷ []) whole)

-- the lines of one pool more
pub pools-next : (items : List Item) (p : ℕ) (ds : List PoolDef) (i : ℕ) → i < length ds
    → pool_lines items p (take (i + 1) ds) ≡ pool_lines items p (take i ds) ++ pool_line items (p + i) ∷ []
pools-next items p [] i lt = absurd (omega arith)
pools-next items p (d ∷ ds) zero lt = let same : p ≡ p + 0 = omega arith in ap (λ n. pool_line items n ∷ []) same
pools-next items p (d ∷ ds) (suc i) lt =
    let e : suc i + 1 ≡ suc (i + 1) = omega arith in
    let n : p + 1 + i ≡ p + suc i = omega arith in
    rw e (ap (λ ls. pool_line items p ∷ ls) (pools-next items (p + 1) ds i (omega arith) ∙ ap (λ n. pool_lines items (p + 1) (take i ds) ++ pool_line items n ∷ []) n))

-- the front of a list with its next element
pub front-next : {X : Type 0} (xs : List X) (i : ℕ) (x : X) → i < length xs → x ≡ get_or xs i x → take (i + 1) xs ≡ take i xs ++ x ∷ []
front-next [] i x lt is = absurd (omega arith)
front-next (y ∷ ys) zero x lt is = rw is refl
front-next (y ∷ ys) (suc i) x lt is =
    let e : suc i + 1 ≡ suc (i + 1) = omega arith in
    rw e (ap (λ zs. y ∷ zs) (front-next ys i x (omega arith) is))

pub object-line : (sys : System) (j : Journal) (d : ObjectDef) (text line : List ℕ) → IsStateText sys d (chart_at sys d.chart) (by_object (facts_of sys j) j d.priority) text
    → line ≡ codes "object " ++ d.name ++ 32 ∷ decimal (count_events_taken (by_object (facts_of sys j) j d.priority)) ++ 32 ∷ text ++ codes "\n"
    → IsObjectLine sys j d line
unfolding IsObjectLine
object-line sys j d text line state is = (text, state, is)

-- the lines of a summary, part by part
pub summary-lines : (sys : System) (j : Journal) (end objects pools : List (List ℕ)) → end ≡ (codes "end " ++ decimal j.end ++ codes "\n") ∷ []
    → AreObjectLines sys j sys.objects objects → pools ≡ pool_lines (all_items j.lanes) 1 sys.pools → IsSummary sys j (end ++ (objects ++ pools))
unfolding IsSummary
summary-lines sys j end objects pools ended are held =
    (objects, are, ap (λ ls. ls ++ (objects ++ pools)) ended ∙ ap (λ ls. (codes "end " ++ decimal j.end ++ codes "\n") ∷ (objects ++ ls)) held)

-- what the calls leave in the sink
module _ {T : Type 0} (x : T) (sys : System) (j : Journal) (lines : List (List ℕ)) (is : IsSummary sys j lines) (w0 w1 : Option (List ℕ)) (f0 f1 : ℕ) where
  pub writes-all : (w1 ≡ appended w0 (lines_joined lines)) × (f1 ≡ f0) → Writes {T = T} (Ok x) sys j w0 w1 f0 f1
  unfolding Writes
  writes-all h = (lines, is, h.0, h.1)

  pub writes-front : AppendsPrefix w0 (lines_joined lines) w1 × Rose f0 f1 → Writes {T = T} (Err fault.Failed) sys j w0 w1 f0 f1
  unfolding Writes SummaryFails
  writes-front h = (lines, is, h.0, h.1)

pub writes-none : (T : Type 0) (sys : System) (j : Journal) (w : Option (List ℕ)) (f : ℕ) → Writes {T = T} (Err fault.Memory) sys j w w f f
unfolding Writes SummaryFails
writes-none T sys j w f = (refl, refl)
