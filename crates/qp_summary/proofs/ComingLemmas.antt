-- How far an object has come, record by record.
use Rattle.std.proofs.Common.{◌≡◌, ◌∙◌, ℕ, ◌+◌, ◌<◌, ◌≤◌, ◌==◌, Bool, true, false, not, cond, List, [], ◌∷◌, length, drop, get_or, sym, ap, subst, Some, None, arith}
use Rattle.std.proofs.lemmas.Bool.Decides.{nat_tests}
use Rattle.std.proofs.lemmas.List.{drop_all}
use Rattle.std.proofs.lemmas.List.Sums.{sum_by-cons}
use Rattle.qp_model.specs.declared.record.Rec.{Rec}
use Rattle.qp_model.specs.declared.systems.System.{System}
use Rattle.qp_model.specs.declared.systems.ObjectDef.{ObjectDef}
use Rattle.qp_model.specs.Ends.{is_turn_mark}
use Rattle.qp_model.specs.History.{lane_items}
use Rattle.qp_model.specs.Knowing.{Facts, ceiling_after, records_of, told}
use Rattle.qp_model.specs.declared.journals.Journal.{Journal}
use Rattle.qp_model.specs.Home.{by_object, home_of, lane_at}
use Rattle.qp_model.specs.Lawful.{dispatched, facts_of}
use Rattle.qp_model.specs.OutputSummary.{is_took, count_events_taken}
use Rattle.qp_model.specs.Record.{item_of}
use Rattle.qp_model.specs.Told.{Told}
use Rattle.qp_model.proofs.KindLemmas.{mark-is-no-take}
use Rattle.qp_check_lanes.proofs.ItemLemmas.{items-from, items-none}
use Rattle.qp_check_course.specs.Followable.{IsFollowable}
use Rattle.qp_check_course.specs.Reading.{LeavesOf, ReadsOn}
use Rattle.qp_check_course.specs.Standing.{FollowSomehow}
use Rattle.qp_summary.specs.Coming.{IsOnCourse}
use Rattle.qp_summary.specs.declared.coming.Came.{Came}
use Rattle.qp_check_course.proofs.DoneLemmas.{one_if}

module _ (t : Told) (left : List Told) where
  mark-dispatched : is_turn_mark t.body ≡ true → dispatched (t ∷ left) ≡ dispatched left
  mark-dispatched h = ap (λ b. cond (not b) (t ∷ dispatched left) (dispatched left)) h

  step-dispatched : is_turn_mark t.body ≡ false → dispatched (t ∷ left) ≡ t ∷ dispatched left
  step-dispatched h = ap (λ b. cond (not b) (t ∷ dispatched left) (dispatched left)) h

  taken-next : count_events_taken (t ∷ left) ≡ one_if (is_took t.body) + count_events_taken left
  taken-next = sum_by-cons (λ (x : Told). cond (is_took x.body) 1 0) t left

  module _ (sys : System) (d : ObjectDef) (all : List Told) (x : Came) (on : IsOnCourse sys d x (t ∷ left) all) where
    -- a mark of a turn is passed over
    pub on-mark : is_turn_mark t.body ≡ true → IsOnCourse sys d x left all
    on-mark mark =
        let none : one_if (is_took t.body) ≡ 0 = ap one_if (mark-is-no-take t.body mark) in
        record {
          can = on.can;
          taken = omega (arith, taken-next, none, on.taken);
          leaves = subst (λ g. LeavesOf sys d x.course g (dispatched all)) (mark-dispatched mark) on.leaves;
        }

    -- another record is read
    pub on-step : is_turn_mark t.body ≡ false → (y : Came) → y.taken ≡ x.taken + one_if (is_took t.body) → ReadsOn x.course t (Some y.course) → IsOnCourse sys d y left all
    on-step step y more reads =
        record {
          can = reads.0;
          taken = omega (arith, taken-next, more, on.taken);
          leaves = reads.1 sys d (dispatched left) (dispatched all) (subst (λ g. LeavesOf sys d x.course g (dispatched all)) (step-dispatched step) on.leaves);
        }

    pub on-none : is_turn_mark t.body ≡ false → ReadsOn x.course t None → IsFollowable sys d → FollowSomehow sys d (dispatched all) → ⊥
    on-none step reads f follow =
        reads sys d (dispatched left) (dispatched all) (subst (λ g. LeavesOf sys d x.course g (dispatched all)) (step-dispatched step) on.leaves) f follow

-- the records of o from one place of its lane on
module _ (w : Facts) (o ceiling after : ℕ) (lane : List Rec) (i : ℕ) (r : Rec) (inside : i < length lane) (is : r ≡ get_or lane i r)
    (next : after ≡ ceiling_after ceiling (item_of r).body) where
  abbrev behind : List Told
  behind = records_of w o after (lane_items (drop (i + 1) lane))

  records-at : (mine : Bool) → ((item_of r).of == o) ≡ mine → records_of w o ceiling (lane_items (drop i lane)) ≡ cond mine (told w o ceiling (item_of r).body ∷ behind) behind
  unfolding records_of
  records-at mine e =
      ap (records_of w o ceiling) (items-from lane i r inside is)
      ∙ ap (λ c. cond ((item_of r).of == o) (told w o ceiling (item_of r).body ∷ records_of w o c (lane_items (drop (i + 1) lane))) (records_of w o c (lane_items (drop (i + 1) lane)))) (sym next)
      ∙ ap (λ b. cond b (told w o ceiling (item_of r).body ∷ behind) behind) e

  pub records-mine : r.of ≡ o → records_of w o ceiling (lane_items (drop i lane)) ≡ told w o ceiling (item_of r).body ∷ behind
  unfolding item_of
  records-mine same = let e : (r.of == o) ≡ true = grind (arith, nat_tests, same) in records-at true e

  pub records-other : (r.of ≡ o → ⊥) → records_of w o ceiling (lane_items (drop i lane)) ≡ behind
  unfolding item_of
  records-other other = let e : (r.of == o) ≡ false = grind (arith, nat_tests, other) in records-at false e

-- none are left behind the last one
pub records-end : (w : Facts) (o ceiling : ℕ) (lane : List Rec) (i : ℕ) → length lane ≤ i → records_of w o ceiling (lane_items (drop i lane)) ≡ []
unfolding records_of
records-end w o ceiling lane i past = ap (records_of w o ceiling) (ap lane_items (drop_all i lane past) ∙ items-none)

-- the records of the lane in which an object works are those of the object
pub records-home : (own sys : System) (k j : Journal) (o home : ℕ) (lane : List Rec) → own ≡ sys → k ≡ j → home ≡ home_of sys j o → lane ≡ lane_at j home
    → records_of (facts_of own k) o 0 (lane_items lane) ≡ by_object (facts_of sys j) j o
unfolding by_object facts_of
records-home own sys k j o home lane one two there is =
    ap (λ s. records_of (facts_of s k) o 0 (lane_items lane)) one ∙ ap (λ x. records_of (facts_of sys x) o 0 (lane_items lane)) two
    ∙ ap (λ l. records_of (facts_of sys j) o 0 (lane_items l)) (is ∙ ap (lane_at j) there)
