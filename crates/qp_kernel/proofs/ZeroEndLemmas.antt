-- Lane 0 of a kernel where the run ends: quietly, by a stop elsewhere, or by its own last records.
use Rattle.std.proofs.Common.{◌≡◌, ℕ, ◌+◌, ◌<◌, ◌≤◌, ◌==◌, nat_lt, Bool, true, false, ◌||◌, ◌&&◌, cond, List, [], ◌∷◌, ◌++◌, map, length, refl, sym, ◌∙◌, ap, subst, arith, Option, Some, None, append-nil}
use Rattle.std.specs.List.{list_any, list_all, count_by}
use Rattle.std.proofs.lemmas.List.{map-append, length-map}
use Rattle.std.proofs.lemmas.List.Folds.{list_any-append}
use Rattle.std.proofs.lemmas.Bool.Decides.{nat_tests}
use Rattle.qp_chart.specs.declared.checked.Chart.{Chart}
use Rattle.qp_model.specs.declared.systems.System.{System}
use Rattle.qp_model.specs.declared.systems.ObjectDef.{ObjectDef}
use Rattle.qp_model.specs.declared.bodies.Entry.{Entry}
use Rattle.qp_model.specs.declared.bodies.Body.{Body}
use Rattle.qp_model.specs.declared.bodies.Body.TheVariants as body
use Rattle.qp_model.specs.Record.{Item}
use Rattle.qp_model.specs.Told.{Told, ToldItem, Event, for_object, plain, untold}
use Rattle.qp_model.specs.Pieces.{Piece, Point, tell}
use Rattle.qp_model.specs.KernelLane.{Setting, Reading, Upcoming, Looking, Chosen, Ended, Over, Halted, lane_next, lane_on, unread, role_of, role_next, Drops}
use Rattle.std.specs.Option.{unwrap_or, option_and_then}
use Rattle.qp_model.specs.Points.{begins_row}
use Rattle.qp_model.specs.Ends.{is_turn_mark, is_assert, is_spent, is_spill, is_end, may_cut, spills_cut, ends_last, spills_in}
use Rattle.qp_model.specs.End.{took_count, takes_of, spents_follow, spills_state}
use Rattle.qp_model.specs.Kernels.{qk}
use Rattle.qp_model.specs.Sites.{object_at}
use Rattle.qp_model.specs.Course.{actor, first_config, chart_at, Starts, Whole, Stopped, Anywhere, FollowsTo}
use Rattle.qp_model.specs.Step.{Remainder, StepGoesOn}
use Rattle.qp_model.specs.Acts.{Config}
use Rattle.qp_model.specs.Lawful.{spill_cuts}
use Rattle.qp_model.proofs.KernelRowLemmas.{lane_on-then, spent-next, IsOwnRole, IsWithin, seen-entry, no-row}
use Rattle.qp_kernel.specs.Stages as stage
use Rattle.qp_kernel.specs.Stages.{Stage, ComesTo, may_wait, is_resting}
use Rattle.qp_kernel.specs.LaneZero.{told_pieces_at, told_pieces, Agree, setting, owed_point, HasOneRow, HasRows, LaneZero}
use Rattle.qp_model.specs.ObjectShape.{HasShape}
use Rattle.qp_kernel.specs.ZeroEnds.{cut_in, may_stand, is_spent_right, own_told, most_rows, ZeroEnds}
use Rattle.qp_kernel.specs.Turning.{AreNumbered, AreAble, IsWithinStep}
use Rattle.qp_model_order.proofs.CalmLemmas.{are_calm, calm-parts, calm-no_spill, calm-ends_last, calm-spills_cut, calm-spents_follow, calm-states, calm-all, no_spill-cuts, IsMild, mild-follow, mild-cut, mild-states, mild-all, mild-no_spill}
use Rattle.qp_model_order.proofs.StimLemmas.{any-both}
use Rattle.qp_kernel.proofs.BareLemmas.{own-unmarked, own-calm, own-append, follows-own, shape-spent}
use Rattle.qp_kernel.proofs.WaitLemmas.{stopped-anywhere, follows-resting, follows-waiting, follows-failed, follows-failed_start, follows-cut, follows-cut_start}
use Rattle.qp_kernel.proofs.ZeroLemmas.{own-takes, ends-told, told-unmarked, AreDrops, drops-told, done-takes, reads-done}
use Rattle.qp_kernel.proofs.ToldPieces.{pieces-then, pieces-one, pieces-other, none-owed, not-zero, pieces-told, AreOwn, AreTold, own-told, told-append, ceiling_through, pieces_for, reads-own, reads-start}
use Rattle.qp_model.proofs.NumberLemmas.{count-append}

row-idle : (place : Upcoming) (idle : ℕ) → HasOneRow place idle → idle ≤ 1
row-idle Over idle h = h
row-idle _ idle h = omega (arith, h)

few-rows : (kernel : ℕ) (place : Upcoming) (idle : ℕ) → HasRows kernel place idle → idle ≤ most_rows kernel idle
few-rows kernel place idle h = by (kernel == qk) refl
  where
    by : (b : Bool) → (kernel == qk) ≡ b → idle ≤ most_rows kernel idle
    by true e = rw e (omega arith)
    by false e = rw e (row-idle place idle (h e))

-- it may have more rows
pub more-rows : {sys : System} {kernel budget end most more : ℕ} {told : List ToldItem} {has : ℕ → Bool} → most ≤ more
    → ZeroEnds sys kernel budget end most told has → ZeroEnds sys kernel budget end more told has
more-rows {sys} {kernel} {budget} {end} {most} {more} le ends = record {
  last = ends.last;
  read = ends.read;
  idle = let few = ends.idle in omega (arith, few, le);
  spills = ends.spills;
  stands = ends.stands;
  follows = ends.follows;
  shapes = ends.shapes;
  ends = ends.ends;
  spents = ends.spents;
  spent = ends.spent;
  states = ends.states;
  budgets = ends.budgets;
}

module _ (sys : System) (kernel budget : ℕ) (told : List ToldItem) (now has : ℕ → Bool) (upto : ℕ) (k : Reading) (owed : ℕ) (stages : ℕ → Stage) (entries : ℕ → List Entry)
    (old : LaneZero sys kernel budget told now upto k owed stages entries) (agree : Agree upto has now) where
  abbrev here : Setting
  here = setting sys kernel has

  -- what the last records of a lane must be
  pub record AreLast (end : ℕ) (ts : List ToldItem) (last : Reading) : Type 0 where
    pub read : lane_on (setting sys kernel has) k (map untold ts) ≡ Some last
    pub idle : last.idle ≤ most_rows kernel k.idle
    pub spills : spills_cut end (map untold ts) ≡ true
    pub stands : may_stand kernel end last (map untold (told ++ ts)) ≡ true
    pub ends : ends_last (map untold ts) ≡ true
    pub spents : (shown : Option ℕ) → spents_follow shown (map untold ts) ≡ true
    pub spent : list_all (is_spent_right budget (map untold (told ++ ts))) (map untold ts) ≡ true
    pub states : spills_state (length told) (map untold ts) ≡ true
    pub takes : (o : ℕ) → took_count (map untold ts) o ≡ 0

  -- Last records come to the lane, and each object follows its chart.
  pub ends-by : (end : ℕ) (ts : List ToldItem) (last : Reading) → AreLast end ts last
      → ((d : ObjectDef) (chart : Chart) → object_at sys d.priority ≡ Some d → chart_at sys d.chart ≡ Some chart
      → FollowsTo sys d (cut_in end d.priority (map untold (told ++ ts))) (told_pieces (setting sys kernel has) d.priority (unread sys) told ++ told_pieces (setting sys kernel has) d.priority k ts))
      → ((d : ObjectDef) (chart : Chart) → object_at sys d.priority ≡ Some d → chart_at sys d.chart ≡ Some chart
      → HasShape sys d.priority false (cut_in end d.priority (map untold (told ++ ts))) (own_told d.priority (told ++ ts)))
      → ZeroEnds sys kernel budget end (most_rows kernel k.idle) (told ++ ts) has
  unfolding took_count
  ends-by end ts last are follows shapes = record {
    last = last;
    read = rw whole (lane_on-then here (unread sys) k (map untold told) (map untold ts) (old.read has agree) ∙ are.read);
    idle = are.idle;
    spills = rw whole (calm-spills_cut end (map untold told) (map untold ts) old.calm are.spills);
    stands = are.stands;
    follows = λ d chart at is.
        subst (FollowsTo sys d (cut_in end d.priority (map untold (told ++ ts)))) (sym (pieces-then here d.priority (unread sys) k told ts (old.read has agree))) (follows d chart at is);
    shapes = shapes;
    ends = rw whole (calm-ends_last (map untold told) (map untold ts) old.calm are.ends);
    spents = rw whole (calm-spents_follow (map untold told) (map untold ts) None old.calm are.spents);
    spent =
        subst (λ x. list_all (is_spent_right budget (map untold (told ++ ts))) x ≡ true) (sym whole)
        (calm-all (is_spent_right budget (map untold (told ++ ts))) (map untold told) (map untold ts) (λ i h. rw (calm-parts i.body h).1 refl) old.calm are.spent);
    states = rw whole (calm-states 0 (map untold told) (map untold ts) old.calm (subst (λ n. spills_state n (map untold ts) ≡ true) (sym counted) are.states));
    budgets = λ o.
        let parts = count-append (takes_of o) (map untold told) (map untold ts) in
        let before = old.took o in
        let none = are.takes o in
        let few = old.budgets o in
        rw whole (omega (arith, parts, before, none, few));
  }
    where
      whole : map untold (told ++ ts) ≡ map untold told ++ map untold ts
      whole = map-append untold told ts

      counted : 0 + length (map untold told) ≡ length told
      counted = let long : length (map untold told) ≡ length told = length-map told untold in omega (arith, long)

  -- the same where none of them marks a turn
  pub ends-with : (end : ℕ) (ts : List ToldItem) (last : Reading) → AreLast end ts last → list_any (λ i. is_turn_mark i.body) (map untold ts) ≡ false
      → ((d : ObjectDef) (chart : Chart) → object_at sys d.priority ≡ Some d → chart_at sys d.chart ≡ Some chart
      → FollowsTo sys d (cut_in end d.priority (map untold (told ++ ts))) (told_pieces (setting sys kernel has) d.priority (unread sys) told ++ told_pieces (setting sys kernel has) d.priority k ts))
      → ZeroEnds sys kernel budget end (most_rows kernel k.idle) (told ++ ts) has
  ends-with end ts last are unmarked follows =
      ends-by end ts last are follows
      (λ d chart at is.
      follows-own sys d (cut_in end d.priority (map untold (told ++ ts))) here (unread sys) (told ++ ts)
      (own-unmarked d.priority (told ++ ts) (rw (map-append untold told ts) (any-both (λ i. is_turn_mark i.body) (map untold told) (map untold ts) old.unmarked unmarked)))
      (subst (FollowsTo sys d (cut_in end d.priority (map untold (told ++ ts)))) (sym (pieces-then here d.priority (unread sys) k told ts (old.read has agree))) (follows d chart at is)))

  abbrev old_pieces : ℕ → List Piece
  old_pieces o = told_pieces (setting sys kernel has) o (unread sys) told

  calm-cut : (end o : ℕ) → cut_in end o (map untold told) ≡ cond (may_cut end) Stopped Whole
  calm-cut end o = rw (no_spill-cuts o (map untold told) (calm-no_spill (map untold told) old.calm)) (go (may_cut end))
    where
      go : (b : Bool) → cond b (cond false Anywhere Stopped) Whole ≡ cond b Stopped Whole
      go true = refl
      go false = refl

  -- The run ends quietly: the row at the base is over, and every object rests.
  pub zero-quiet : owed ≡ 0 → k.unstarted ≡ [] → k.running ≡ [] → k.place ≡ Over → AreNumbered sys → AreAble sys
      → ((d : ObjectDef) → object_at sys d.priority ≡ Some d → is_resting (stages d.priority) ≡ true)
      → ZeroEnds sys kernel budget 0 (most_rows kernel k.idle) told has
  unfolding lane_on spills_cut ends_last spents_follow spills_state took_count told_pieces
  zero-quiet none started base over numbered able rest =
      subst (λ ts. ZeroEnds sys kernel budget 0 (most_rows kernel k.idle) ts has) (append-nil told)
      (ends-with 0 [] k
      (record {
        read = refl;
        idle = few-rows kernel k.place k.idle old.rows;
        spills = refl;
        stands = rw (started, base, over) refl;
        ends = refl;
        spents = λ shown. refl;
        spent = refl;
        states = refl;
        takes = λ o. refl;
      }) refl
      (λ d chart at is.
      let o : ℕ = d.priority in
      let its : ComesTo sys (actor d chart) (first_config d) (entries o) (old_pieces o) (stages o) =
      subst (λ x. ComesTo sys (actor d chart) (first_config d) (entries o) x (stages o))
      (ap (λ x. old_pieces o ++ owed_point x o) none ∙ ap (λ x. old_pieces o ++ x) (none-owed o (numbered d at)) ∙ append-nil (old_pieces o))
      (old.pieces has agree d chart at is) in
      subst (λ ts. FollowsTo sys d (cut_in 0 o (map untold ts)) (old_pieces o ++ [])) (sym (append-nil told))
      (subst (λ x. FollowsTo sys d (cut_in 0 o (map untold told)) x) (sym (append-nil (old_pieces o)))
      (subst (λ c. FollowsTo sys d c (old_pieces o)) (sym (calm-cut 0 o)) (follows-resting sys d chart is (able d chart at is) (entries o) (old_pieces o) (stages o) its (rest d at))))))

  -- The run stops elsewhere, in a look of this lane or between two steps.
  pub zero-waiting : (end : ℕ) → may_cut end ≡ true → k.unstarted ≡ [] → AreNumbered sys → AreAble sys
      → ((d : ObjectDef) → object_at sys d.priority ≡ Some d → may_wait (stages d.priority) ≡ true)
      → ZeroEnds sys kernel budget end (most_rows kernel k.idle) told has
  unfolding lane_on spills_cut ends_last spents_follow spills_state took_count told_pieces
  zero-waiting end early started numbered able wait =
      subst (λ ts. ZeroEnds sys kernel budget end (most_rows kernel k.idle) ts has) (append-nil told)
      (ends-with end [] k
      (record {
        read = refl;
        idle = few-rows kernel k.place k.idle old.rows;
        spills = refl;
        stands = rw (early, started) refl;
        ends = refl;
        spents = λ shown. refl;
        spent = refl;
        states = refl;
        takes = λ o. refl;
      }) refl
      (λ d chart at is.
      let o : ℕ = d.priority in
      subst (λ ts. FollowsTo sys d (cut_in end o (map untold ts)) (old_pieces o ++ [])) (sym (append-nil told))
      (subst (λ x. FollowsTo sys d (cut_in end o (map untold told)) x) (sym (append-nil (old_pieces o)))
      (subst (λ c. FollowsTo sys d c (old_pieces o)) (sym (calm-cut end o ∙ ap (λ b. cond b Stopped Whole) early))
      (follows-waiting sys d chart is (able d chart at is) (owed == o) (entries o) (old_pieces o) (stages o) (old.pieces has agree d chart at is) (wait d at))))))

  -- An object that waits, in a lane that got last records that are no pieces of it.
  waits-beside : (end : ℕ) (ts : List ToldItem) (d : ObjectDef) (chart : Chart) → may_cut end ≡ true → object_at sys d.priority ≡ Some d → chart_at sys d.chart ≡ Some chart → AreAble sys
      → may_wait (stages d.priority) ≡ true → told_pieces (setting sys kernel has) d.priority k ts ≡ []
      → FollowsTo sys d (cut_in end d.priority (map untold (told ++ ts))) (old_pieces d.priority ++ told_pieces (setting sys kernel has) d.priority k ts)
  waits-beside end ts d chart early at is able wait none =
      let o : ℕ = d.priority in
      let stopped : FollowsTo sys d Stopped (old_pieces o) =
      follows-waiting sys d chart is (able d chart at is) (owed == o) (entries o) (old_pieces o) (stages o) (old.pieces has agree d chart at is) wait in
      subst (λ x. FollowsTo sys d (cut_in end o (map untold (told ++ ts))) x) (sym (ap (λ x. old_pieces o ++ x) none ∙ append-nil (old_pieces o)))
      (rw early (by (spill_cuts o (map untold (told ++ ts))) stopped))
    where
      by : (b : Bool) → FollowsTo sys d Stopped (old_pieces d.priority) → FollowsTo sys d (cond b Anywhere Stopped) (old_pieces d.priority)
      by true h = stopped-anywhere sys d (old_pieces d.priority) h
      by false h = h

  spent_pieces : (p o f l m : ℕ) → 0 < o → told_pieces (setting sys kernel has) o k (for_object 0 (plain (body.Seen p f l m)) ∷ for_object p (plain body.Spent) ∷ []) ≡ []
  unfolding told_pieces told_pieces_at
  spent_pieces p o f l m some = rw (not-zero o some, no-row o k.place k.running) (by (unwrap_or (lane_next (setting sys kernel has) k (record { of = 0; body = body.Seen p f l m })) k) (p == o))
    where
      by : (n : Reading) (b : Bool) → cond b [] (cond (begins_row o n.place n.running false) (Point ∷ []) []) ++ [] ≡ []
      by n true = refl
      by n false = rw (no-row o n.place n.running) refl

  -- An object whose queue is seen with an entry has taken just its budget: the lane stops.
  pub zero-spent : (end p : ℕ) (others : List ℕ) (f l m : ℕ) → may_cut end ≡ true → k.unstarted ≡ [] → k.place ≡ Looking p others → m < f + l → length (entries p) ≡ budget → owed ≡ 0 → 0 < p
      → is_resting (stages p) ≡ true → AreNumbered sys → AreAble sys
      → ((d : ObjectDef) → object_at sys d.priority ≡ Some d → may_wait (stages d.priority) ≡ true)
      → ZeroEnds sys kernel budget end (most_rows kernel k.idle) (told ++ for_object 0 (plain (body.Seen p f l m)) ∷ for_object p (plain body.Spent) ∷ []) has
  unfolding lane_on spills_cut ends_last spents_follow spills_state took_count
  zero-spent end p others f l m early started at some just unowed named rests numbered able wait =
      let found = record k { place = Chosen p } in
      let halted = record k { place = Halted } in
      let one : lane_next here k (record { of = 0; body = body.Seen p f l m }) ≡ Some found = seen-entry here k p others f l m started at some in
      let two : lane_next here found (record { of = p; body = body.Spent }) ≡ Some halted = spent-next here found p started refl in
      let yes : nat_lt m (f + l) ≡ true = grind (arith, nat_tests, some) in
      let self : (p == p) ≡ true = grind (arith, nat_tests) in
      let positive : nat_lt 0 p ≡ true = grind (arith, nat_tests, named) in
      let ts = for_object 0 (plain (body.Seen p f l m)) ∷ for_object p (plain body.Spent) ∷ [] in
      let parts : count_by (takes_of p) (map untold told ++ map untold ts) ≡ count_by (takes_of p) (map untold told) + count_by (takes_of p) (map untold ts) = count-append (takes_of p) (map untold told) (map untold ts) in
      let before : count_by (takes_of p) (map untold told) ≡ length (entries p) = old.took p in
      let all : count_by (takes_of p) (map untold (told ++ ts)) ≡ budget = ap (count_by (takes_of p)) (map-append untold told ts) ∙ omega (arith, parts, before, just) in
      let taken : (count_by (takes_of p) (map untold (told ++ ts)) == budget) ≡ true = grind (arith, nat_tests, all) in
      ends-by end ts halted
      (record {
        read = rw (one, two) refl;
        idle = few-rows kernel k.place k.idle old.rows;
        spills = refl;
        stands = rw (early, started) refl;
        ends = refl;
        spents = λ shown. rw (yes, self) refl;
        spent = rw (taken, positive) refl;
        states = refl;
        takes = λ o. refl;
      })
      (λ d chart there is. waits-beside end ts d chart early there is able (wait d there) (spent_pieces p d.priority f l m (numbered d there)))
      (λ d chart there is. shape d chart there is (p == d.priority) refl)
    where
      tail : (o : ℕ) (v : Bool) → 0 < o → (p == o) ≡ v → own_told o (for_object 0 (plain (body.Seen p f l m)) ∷ for_object p (plain body.Spent) ∷ []) ≡ cond v (plain body.Spent ∷ []) []
      tail o true lt e = rw (not-zero o lt, e) refl
      tail o false lt e = rw (not-zero o lt, e) refl

      by : (d : ObjectDef) (chart : Chart) → object_at sys d.priority ≡ Some d → chart_at sys d.chart ≡ Some chart → (v : Bool) → (p == d.priority) ≡ v
          → HasShape sys d.priority false Stopped (own_told d.priority told ++ cond v (plain body.Spent ∷ []) [])
      by d chart there is true e =
          let same : p ≡ d.priority = grind (arith, nat_tests) in
          let its : ComesTo sys (actor d chart) (first_config d) (entries d.priority) (old_pieces d.priority) (stages d.priority) =
          subst (λ x. ComesTo sys (actor d chart) (first_config d) (entries d.priority) x (stages d.priority))
          (ap (λ x. old_pieces d.priority ++ owed_point x d.priority) unowed ∙ ap (λ x. old_pieces d.priority ++ x) (none-owed d.priority (numbered d there)) ∙ append-nil (old_pieces d.priority))
          (old.pieces has agree d chart there is) in
          let whole = follows-resting sys d chart is (able d chart there is) (entries d.priority) (old_pieces d.priority) (stages d.priority) its (ap (λ x. is_resting (stages x)) (sym same) ∙ rests) in
          shape-spent sys d.priority (own_told d.priority told) (own-unmarked d.priority told old.unmarked) (own-calm d.priority told old.calm)
          (follows-own sys d Whole here (unread sys) told (own-unmarked d.priority told old.unmarked) whole)
      by d chart there is false e =
          let waits = follows-waiting sys d chart is (able d chart there is) (owed == d.priority) (entries d.priority) (old_pieces d.priority) (stages d.priority) (old.pieces has agree d chart there is) (wait d there) in
          subst (HasShape sys d.priority false Stopped) (sym (append-nil (own_told d.priority told)))
          (follows-own sys d Stopped here (unread sys) told (own-unmarked d.priority told old.unmarked) waits)

      uncut_here : (o : ℕ) → cut_in end o (map untold (told ++ for_object 0 (plain (body.Seen p f l m)) ∷ for_object p (plain body.Spent) ∷ [])) ≡ Stopped
      uncut_here o =
          let none : spill_cuts o (map untold (told ++ for_object 0 (plain (body.Seen p f l m)) ∷ for_object p (plain body.Spent) ∷ [])) ≡ false =
          no_spill-cuts o (map untold (told ++ for_object 0 (plain (body.Seen p f l m)) ∷ for_object p (plain body.Spent) ∷ []))
          (ap spills_in (map-append untold told (for_object 0 (plain (body.Seen p f l m)) ∷ for_object p (plain body.Spent) ∷ []))
          ∙ any-both (λ i. is_spill i.body) (map untold told) (record { of = 0; body = body.Seen p f l m } ∷ record { of = p; body = body.Spent } ∷ []) (calm-no_spill (map untold told) old.calm) refl) in
          rw (early, none) refl

      shape : (d : ObjectDef) (chart : Chart) → object_at sys d.priority ≡ Some d → chart_at sys d.chart ≡ Some chart → (v : Bool) → (p == d.priority) ≡ v
          → HasShape sys d.priority false (cut_in end d.priority (map untold (told ++ for_object 0 (plain (body.Seen p f l m)) ∷ for_object p (plain body.Spent) ∷ [])))
          (own_told d.priority (told ++ for_object 0 (plain (body.Seen p f l m)) ∷ for_object p (plain body.Spent) ∷ []))
      shape d chart there is v e =
          subst (λ c. HasShape sys d.priority false c (own_told d.priority (told ++ for_object 0 (plain (body.Seen p f l m)) ∷ for_object p (plain body.Spent) ∷ []))) (sym (uncut_here d.priority))
          (subst (HasShape sys d.priority false Stopped) (sym (own-append d.priority told (for_object 0 (plain (body.Seen p f l m)) ∷ for_object p (plain body.Spent) ∷ [])))
          (subst (λ x. HasShape sys d.priority false Stopped (own_told d.priority told ++ x)) (sym (tail d.priority v (numbered d there) e)) (by d chart there is v e)))

  -- the pieces of records of p, and of others that are none
  own-and-rest : (p o : ℕ) (g : List Told) (rest : List ToldItem) (m : Reading) → lane_on here k (map untold (map (for_object p) g)) ≡ Some m → AreTold g
      → told_pieces here o m rest ≡ [] → told_pieces here o k (map (for_object p) g ++ rest) ≡ pieces_for p o g
  own-and-rest p o g rest m read are none =
      pieces-then here o k m (map (for_object p) g) rest read ∙ ap (λ x. told_pieces here o k (map (for_object p) g) ++ x) none
      ∙ append-nil (told_pieces here o k (map (for_object p) g)) ∙ pieces-told here p o k g are

  -- p follows its chart by its last records, and the others wait
  beside-own : (end p : ℕ) (g : List Told) (rest : List ToldItem) (m : Reading) (d : ObjectDef) (chart : Chart) → may_cut end ≡ true
      → lane_on here k (map untold (map (for_object p) g)) ≡ Some m → AreTold g → told_pieces here d.priority m rest ≡ []
      → object_at sys d.priority ≡ Some d → chart_at sys d.chart ≡ Some chart → AreAble sys → owed ≡ 0 → 0 < d.priority
      → ((p == d.priority) ≡ false → may_wait (stages d.priority) ≡ true)
      → (d.priority ≡ p → ComesTo sys (actor d chart) (first_config d) (entries p) (old_pieces d.priority) (stages p)
      → FollowsTo sys d (cut_in end d.priority (map untold (told ++ (map (for_object p) g ++ rest)))) (old_pieces d.priority ++ tell g))
      → FollowsTo sys d (cut_in end d.priority (map untold (told ++ (map (for_object p) g ++ rest)))) (old_pieces d.priority ++ told_pieces here d.priority k (map (for_object p) g ++ rest))
  beside-own end p g rest m d chart early read are none at is able unowed some waits own = go (p == d.priority) refl
    where
      pieces : told_pieces here d.priority k (map (for_object p) g ++ rest) ≡ pieces_for p d.priority g
      pieces = own-and-rest p d.priority g rest m read are none

      its : ComesTo sys (actor d chart) (first_config d) (entries d.priority) (old_pieces d.priority) (stages d.priority)
      its =
          subst (λ x. ComesTo sys (actor d chart) (first_config d) (entries d.priority) x (stages d.priority))
          (ap (λ x. old_pieces d.priority ++ owed_point x d.priority) unowed ∙ ap (λ x. old_pieces d.priority ++ x) (none-owed d.priority some) ∙ append-nil (old_pieces d.priority))
          (old.pieces has agree d chart at is)

      go : (v : Bool) → (p == d.priority) ≡ v
          → FollowsTo sys d (cut_in end d.priority (map untold (told ++ (map (for_object p) g ++ rest)))) (old_pieces d.priority ++ told_pieces here d.priority k (map (for_object p) g ++ rest))
      go true e =
          let same : d.priority ≡ p = grind (arith, nat_tests) in
          subst (λ x. FollowsTo sys d (cut_in end d.priority (map untold (told ++ (map (for_object p) g ++ rest)))) (old_pieces d.priority ++ x)) (sym (pieces ∙ ap (λ v. cond v (tell g) []) e))
          (own same (subst (λ x. ComesTo sys (actor d chart) (first_config d) (entries x) (old_pieces d.priority) (stages x)) same its))
      go false e = waits-beside end (map (for_object p) g ++ rest) d chart early at is able (waits e) (pieces ∙ ap (λ v. cond v (tell g) []) e)

  own-neither : (b : Body) → IsOwnRole (role_of b) → (is_spent b ≡ false) × (is_spill b ≡ false)
  unfolding role_of
  own-neither body.Spent h = absurd h
  own-neither (body.Spill n) h = absurd h
  own-neither _ h = (refl, refl)

  own-mild : (p : ℕ) (g : List Told) → AreOwn g → IsMild (map untold (map (for_object p) g))
  own-mild p [] own = tt
  own-mild p (t ∷ ts) own = let is = own-neither t.body own.0 in (is.0, is.1, own-mild p ts own.2)

  own-plain : (p : ℕ) (g : List Told) → AreOwn g → list_any (λ i. is_turn_mark i.body) (map untold (map (for_object p) g ++ [])) ≡ false
  own-plain p g own = ap (λ x. list_any (λ i. is_turn_mark i.body) (map untold x)) (append-nil (map (for_object p) g)) ∙ told-unmarked p g (own-told g own)

  spill-plain : (p : ℕ) (g : List Told) (n : ℕ) → AreTold g → list_any (λ i. is_turn_mark i.body) (map untold (map (for_object p) g ++ for_object 0 (plain (body.Spill n)) ∷ [])) ≡ false
  spill-plain p g n are =
      ap (list_any (λ i. is_turn_mark i.body)) (map-append untold (map (for_object p) g) (for_object 0 (plain (body.Spill n)) ∷ []))
      ∙ any-both (λ i. is_turn_mark i.body) (map untold (map (for_object p) g)) (record { of = 0; body = body.Spill n } ∷ []) (told-unmarked p g are) refl

  -- no `spill` stands behind records without an end and mild ones
  uncut : (p o : ℕ) (g : List Told) → AreOwn g → spill_cuts o (map untold (told ++ (map (for_object p) g ++ []))) ≡ false
  uncut p o g own =
      no_spill-cuts o (map untold (told ++ (map (for_object p) g ++ [])))
      (ap (λ x. spills_in (map untold (told ++ x))) (append-nil (map (for_object p) g)) ∙ ap spills_in (map-append untold told (map (for_object p) g))
      ∙ any-both (λ i. is_spill i.body) (map untold told) (map untold (map (for_object p) g)) (calm-no_spill (map untold told) old.calm) (mild-no_spill (map untold (map (for_object p) g)) (own-mild p g own)))

  failed-last : (end p : ℕ) (g : List Told) (last : Reading) → lane_on here k (map untold (map (for_object p) g)) ≡ Some last → last.idle ≡ k.idle → AreOwn g
      → ends_last (map untold (map (for_object p) g)) ≡ true → may_stand kernel end last (map untold (told ++ (map (for_object p) g ++ []))) ≡ true
      → AreLast end (map (for_object p) g ++ []) last
  unfolding took_count spills_cut spents_follow spills_state
  failed-last end p g last read idle own ends stands =
      let same = append-nil (map (for_object p) g) in
      let none = append-nil (map untold (map (for_object p) g)) in
      let mild = own-mild p g own in
      record {
        read = ap (λ x. lane_on here k (map untold x)) same ∙ read;
        idle = let few = few-rows kernel k.place k.idle old.rows in omega (arith, few, idle);
        spills = ap (λ x. spills_cut end (map untold x)) same ∙ ap (spills_cut end) (sym none) ∙ mild-cut end (map untold (map (for_object p) g)) [] mild refl;
        stands = stands;
        ends = ap (λ x. ends_last (map untold x)) same ∙ ends;
        spents = λ shown. ap (λ x. spents_follow shown (map untold x)) same ∙ ap (spents_follow shown) (sym none) ∙ mild-follow shown (map untold (map (for_object p) g)) [] mild (λ s. refl);
        spent =
            let test = is_spent_right budget (map untold (told ++ (map (for_object p) g ++ []))) in
            ap (λ x. list_all test (map untold x)) same ∙ ap (list_all test) (sym none) ∙ mild-all test (map untold (map (for_object p) g)) [] (λ i h. rw h refl) mild refl;
        states = ap (λ x. spills_state (length told) (map untold x)) same ∙ ap (spills_state (length told)) (sym none) ∙ mild-states (length told) (map untold (map (for_object p) g)) [] mild refl;
        takes = λ o. ap (λ x. took_count (map untold x) o) same ∙ own-takes p g o own;
      }

  -- A step ends in its assertion, which is the lane's last record.
  pub zero-failed : (end p : ℕ) (outer : List ℕ) (g : List Told) (ev : Event) (e : Entry) (left : Remainder) (c : Config) → may_cut end ≡ true → owed ≡ 0 → IsWithin k p outer → AreOwn g
      → ends_last (map untold (map (for_object p) g)) ≡ true → IsWithinStep (stages p) ev e left c → AreNumbered sys → AreAble sys
      → ((d : ObjectDef) (chart : Chart) → d.priority ≡ p → object_at sys d.priority ≡ Some d → chart_at sys d.chart ≡ Some chart → StepGoesOn sys (actor d chart) ev e left c (tell g) None)
      → ((d : ObjectDef) → object_at sys d.priority ≡ Some d → (p == d.priority) ≡ false → may_wait (stages d.priority) ≡ true)
      → ZeroEnds sys kernel budget end (most_rows kernel k.idle) (told ++ map (for_object p) g) has
  unfolding told_pieces
  zero-failed end p outer g ev e left c early unowed at own ends within numbered able goes wait =
      let last = record k { ceiling = ceiling_through k.ceiling g } in
      let read : lane_on here k (map untold (map (for_object p) g)) ≡ Some last = reads-own here p outer k g at own in
      subst (λ x. ZeroEnds sys kernel budget end (most_rows kernel k.idle) (told ++ x) has) (append-nil (map (for_object p) g))
      (ends-with end (map (for_object p) g ++ []) last (failed-last end p g last read refl own ends (rw (early, at.started) refl)) (own-plain p g own)
      (λ d chart there is.
      beside-own end p g [] last d chart early read (own-told g own) refl there is able unowed (numbered d there) (wait d there)
      (λ same its.
      rw (early, uncut p d.priority g own)
      (follows-failed sys d chart is (able d chart there is) (entries p) (old_pieces d.priority) (stages p) ev e left c (tell g) within its (goes d chart same there is)))))

  -- So does a start.
  pub zero-failed_start : (end p : ℕ) (others : List ℕ) (g : List Told) → may_cut end ≡ true → owed ≡ 0 → k.unstarted ≡ p ∷ others → AreOwn g
      → ends_last (map untold (map (for_object p) g)) ≡ true → list_any (λ i. is_assert i.body) (map untold (map (for_object p) g)) ≡ true → stages p ≡ stage.Unstarted → AreNumbered sys → AreAble sys
      → ((d : ObjectDef) (chart : Chart) → d.priority ≡ p → object_at sys d.priority ≡ Some d → chart_at sys d.chart ≡ Some chart → Starts sys (actor d chart) (first_config d) (tell g) None)
      → ((d : ObjectDef) → object_at sys d.priority ≡ Some d → (p == d.priority) ≡ false → may_wait (stages d.priority) ≡ true)
      → ZeroEnds sys kernel budget end (most_rows kernel k.idle) (told ++ map (for_object p) g) has
  unfolding told_pieces
  zero-failed_start end p others g early unowed first own ends asserts unstarted numbered able goes wait =
      let last = record k { ceiling = ceiling_through k.ceiling g } in
      let read : lane_on here k (map untold (map (for_object p) g)) ≡ Some last = reads-start here p others k g first own in
      let any : list_any (λ i. is_assert i.body) (map untold (told ++ (map (for_object p) g ++ []))) ≡ true =
      ap (λ x. list_any (λ i. is_assert i.body) (map untold (told ++ x))) (append-nil (map (for_object p) g)) ∙ ap (list_any (λ i. is_assert i.body)) (map-append untold told (map (for_object p) g))
      ∙ list_any-append (λ i. is_assert i.body) (map untold told) (map untold (map (for_object p) g)) ∙ rw (asserts, or-right (list_any (λ i. is_assert i.body) (map untold told))) refl in
      subst (λ x. ZeroEnds sys kernel budget end (most_rows kernel k.idle) (told ++ x) has) (append-nil (map (for_object p) g))
      (ends-with end (map (for_object p) g ++ []) last (failed-last end p g last read refl own ends (rw (early, any, or-right (length k.unstarted == 0)) refl)) (own-plain p g own)
      (λ d chart there is.
      beside-own end p g [] last d chart early read (own-told g own) refl there is able unowed (numbered d there) (wait d there)
      (λ same its.
      rw (early, uncut p d.priority g own)
      (follows-failed_start sys d chart is (able d chart there is) (entries p) (old_pieces d.priority) (tell g) (subst (ComesTo sys (actor d chart) (first_config d) (entries p) (old_pieces d.priority)) unstarted its) (goes d chart same there is)))))
    where
      or-right : (b : Bool) → (b || true) ≡ true
      or-right true = refl
      or-right false = refl

  -- a `spill`, as told
  abbrev spilled : ℕ → List ToldItem
  spilled n = for_object 0 (plain (body.Spill n)) ∷ []

  spill_pieces : (o n : ℕ) (m : Reading) → 0 < o → told_pieces here o m (spilled n) ≡ []
  spill_pieces o n m some = pieces-one here o m (for_object 0 (plain (body.Spill n))) ∙ pieces-other o m (for_object 0 (plain (body.Spill n))) (not-zero o some) refl

  spill-next : (m : Reading) (n : ℕ) → lane_next here m (record { of = 0; body = body.Spill n }) ≡ Some (record m { unstarted = []; place = Halted })
  unfolding lane_next role_of role_next
  spill-next m n = refl

  -- The last records of a lane that a `spill` ends: those of one object, and it.
  spilled-last : (end n p : ℕ) (g : List Told) (m : Reading) → may_cut end ≡ true → lane_on here k (map untold (map (for_object p) g)) ≡ Some m → m.idle ≡ k.idle
      → IsMild (map untold (map (for_object p) g)) → ((o : ℕ) → took_count (map untold (map (for_object p) g)) o ≡ 0)
      → list_any (λ t. is_end t.body) g ≡ false → n ≡ length told + length g → 999992 < n
      → AreLast end (map (for_object p) g ++ spilled n) (record m { unstarted = []; place = Halted })
  unfolding lane_on took_count spills_cut spents_follow spills_state ends_last
  spilled-last end n p g m early read idle mild taken calm count many =
      let front : List Item = map untold (map (for_object p) g) in
      let parts : map untold (map (for_object p) g ++ spilled n) ≡ front ++ record { of = 0; body = body.Spill n } ∷ [] = map-append untold (map (for_object p) g) (spilled n) in
      let quiet : are_calm front ≡ false = ends-told p g calm in
      record {
        read =
            rw parts (lane_on-then here k m front (record { of = 0; body = body.Spill n } ∷ []) read ∙ ap (λ o. option_and_then (λ x. Some x) o) (spill-next m n));
        idle = let few = few-rows kernel k.place k.idle old.rows in omega (arith, few, idle);
        spills = rw parts (mild-cut end front (record { of = 0; body = body.Spill n } ∷ []) mild early);
        stands = rw early refl;
        ends = rw parts (calm-ends_last front (record { of = 0; body = body.Spill n } ∷ []) quiet refl);
        spents = λ shown. rw parts (mild-follow shown front (record { of = 0; body = body.Spill n } ∷ []) mild (λ s. refl));
        spent = rw parts (mild-all (is_spent_right budget (map untold (told ++ (map (for_object p) g ++ spilled n)))) front (record { of = 0; body = body.Spill n } ∷ []) (λ i h. rw h refl) mild refl);
        states =
            let long : length front ≡ length g = length-map (map (for_object p) g) untold ∙ length-map g (for_object p) in
            let at : n ≡ length told + length front = omega (arith, long, count) in
            rw parts (mild-states (length told) front (record { of = 0; body = body.Spill n } ∷ []) mild (stated n (length told + length front) at many));
        takes = λ o.
            let none : count_by (takes_of o) front ≡ 0 = taken o in
            rw parts (count-append (takes_of o) front (record { of = 0; body = body.Spill n } ∷ []) ∙ rw none refl);
      }
    where
      stated : (n at : ℕ) → n ≡ at → 999992 < n → ((n == at) && nat_lt 999992 at && true) ≡ true
      stated n at same many =
          let one : (n == at) ≡ true = grind (arith, nat_tests, same) in
          let two : nat_lt 999992 at ≡ true = grind (arith, nat_tests, many, same) in
          rw (one, two) refl

  -- A step is cut by a `spill` right behind its object's record: what came goes on to something that would fit.
  spilled-by : (end n p : ℕ) (g : List Told) (m : Reading) (ev : Event) (e : Entry) (left : Remainder) (c : Config) → may_cut end ≡ true → owed ≡ 0
      → lane_on here k (map untold (map (for_object p) g)) ≡ Some m → m.idle ≡ k.idle → IsMild (map untold (map (for_object p) g)) → ((o : ℕ) → took_count (map untold (map (for_object p) g)) o ≡ 0) → AreTold g
      → list_any (λ t. is_end t.body) g ≡ false → n ≡ length told + length g → 999992 < n → spill_cuts p (map untold (told ++ (map (for_object p) g ++ spilled n))) ≡ true
      → IsWithinStep (stages p) ev e left c → AreNumbered sys → AreAble sys
      → ((d : ObjectDef) (chart : Chart) → d.priority ≡ p → object_at sys d.priority ≡ Some d → chart_at sys d.chart ≡ Some chart
      → (qs : List Piece) × (last : Option Config) × StepGoesOn sys (actor d chart) ev e left c (tell g ++ qs) last)
      → ((d : ObjectDef) → object_at sys d.priority ≡ Some d → (p == d.priority) ≡ false → may_wait (stages d.priority) ≡ true)
      → ZeroEnds sys kernel budget end (most_rows kernel k.idle) (told ++ (map (for_object p) g ++ spilled n)) has
  spilled-by end n p g m ev e left c early unowed read idle mild taken are calm count many cuts within numbered able goes wait =
      ends-with end (map (for_object p) g ++ spilled n) (record m { unstarted = []; place = Halted }) (spilled-last end n p g m early read idle mild taken calm count many) (spill-plain p g n are)
      (λ d chart there is.
      beside-own end p g (spilled n) m d chart early read are (spill_pieces d.priority n m (numbered d there)) there is able unowed (numbered d there) (wait d there)
      (λ same its.
      let on = goes d chart same there is in
      let here_cut : spill_cuts d.priority (map untold (told ++ (map (for_object p) g ++ spilled n))) ≡ true = ap (λ o. spill_cuts o (map untold (told ++ (map (for_object p) g ++ spilled n)))) same ∙ cuts in
      rw (early, here_cut)
      (follows-cut sys d chart is (able d chart there is) (entries p) (old_pieces d.priority) (stages p) ev e left c (tell g) on.0 on.1 within its on.2)))

  pub zero-spilled : (end n p : ℕ) (outer : List ℕ) (g : List Told) (ev : Event) (e : Entry) (left : Remainder) (c : Config) → may_cut end ≡ true → owed ≡ 0 → IsWithin k p outer → AreOwn g
      → list_any (λ t. is_end t.body) g ≡ false → n ≡ length told + length g → 999992 < n → spill_cuts p (map untold (told ++ (map (for_object p) g ++ spilled n))) ≡ true
      → IsWithinStep (stages p) ev e left c → AreNumbered sys → AreAble sys
      → ((d : ObjectDef) (chart : Chart) → d.priority ≡ p → object_at sys d.priority ≡ Some d → chart_at sys d.chart ≡ Some chart
      → (qs : List Piece) × (last : Option Config) × StepGoesOn sys (actor d chart) ev e left c (tell g ++ qs) last)
      → ((d : ObjectDef) → object_at sys d.priority ≡ Some d → (p == d.priority) ≡ false → may_wait (stages d.priority) ≡ true)
      → ZeroEnds sys kernel budget end (most_rows kernel k.idle) (told ++ (map (for_object p) g ++ spilled n)) has
  zero-spilled end n p outer g ev e left c early unowed at own =
      spilled-by end n p g (record k { ceiling = ceiling_through k.ceiling g }) ev e left c early unowed (reads-own here p outer k g at own) refl (own-mild p g own) (λ o. own-takes p g o own) (own-told g own)

  drop-mild : (b : Body) → role_of b ≡ Drops → (is_spent b ≡ false) × (is_spill b ≡ false)
  unfolding role_of
  drop-mild body.Spent h = absurd (cc)
  drop-mild (body.Spill n) h = absurd (cc)
  drop-mild _ h = (refl, refl)

  drops-mild : (p : ℕ) (rel : List Told) → AreDrops rel → IsMild (map untold (map (for_object p) rel))
  drops-mild p [] h = tt
  drops-mild p (t ∷ ts) h = let is = drop-mild t.body h.0 in (is.0, is.1, drops-mild p ts h.1)

  mild-append : (xs ys : List Item) → IsMild xs → IsMild ys → IsMild (xs ++ ys)
  mild-append [] ys a b = b
  mild-append (x ∷ xs) ys a b = (a.0, a.1, mild-append xs ys a.2 b)

  -- The same behind its `done`, within its release.
  pub zero-spilled_done : (end n p : ℕ) (outer : List ℕ) (g rel : List Told) (ev : Event) (e : Entry) (left : Remainder) (c : Config) → may_cut end ≡ true → owed ≡ 0 → IsWithin k p outer → AreOwn g → AreDrops rel
      → list_any (λ t. is_end t.body) (g ++ plain body.Done ∷ rel) ≡ false → n ≡ length told + length (g ++ plain body.Done ∷ rel) → 999992 < n
      → spill_cuts p (map untold (told ++ (map (for_object p) (g ++ plain body.Done ∷ rel) ++ spilled n))) ≡ true
      → IsWithinStep (stages p) ev e left c → AreNumbered sys → AreAble sys
      → ((d : ObjectDef) (chart : Chart) → d.priority ≡ p → object_at sys d.priority ≡ Some d → chart_at sys d.chart ≡ Some chart
      → (qs : List Piece) × (last : Option Config) × StepGoesOn sys (actor d chart) ev e left c (tell (g ++ plain body.Done ∷ rel) ++ qs) last)
      → ((d : ObjectDef) → object_at sys d.priority ≡ Some d → (p == d.priority) ≡ false → may_wait (stages d.priority) ≡ true)
      → ZeroEnds sys kernel budget end (most_rows kernel k.idle) (told ++ (map (for_object p) (g ++ plain body.Done ∷ rel) ++ spilled n)) has
  zero-spilled_done end n p outer g rel ev e left c early unowed at own drops =
      spilled-by end n p (g ++ plain body.Done ∷ rel) (record k { ceiling = ceiling_through k.ceiling g; running = outer; place = Ended p }) ev e left c early unowed
      (reads-done here p outer k g rel at own drops) refl
      (subst IsMild (sym (ap (map untold) (map-append (for_object p) g (plain body.Done ∷ rel)) ∙ map-append untold (map (for_object p) g) (map (for_object p) (plain body.Done ∷ rel))))
      (mild-append (map untold (map (for_object p) g)) (map untold (map (for_object p) (plain body.Done ∷ rel))) (own-mild p g own) (refl, refl, drops-mild p rel drops)))
      (λ o. done-takes p g rel o own drops)
      (told-append g (plain body.Done ∷ rel) (own-told g own) (refl, refl, drops-told rel drops))

  -- So is a start.
  pub zero-spilled_start : (end n p : ℕ) (others : List ℕ) (g : List Told) → may_cut end ≡ true → owed ≡ 0 → k.unstarted ≡ p ∷ others → AreOwn g
      → list_any (λ t. is_end t.body) g ≡ false → n ≡ length told + length g → 999992 < n → spill_cuts p (map untold (told ++ (map (for_object p) g ++ spilled n))) ≡ true
      → stages p ≡ stage.Unstarted → AreNumbered sys → AreAble sys
      → ((d : ObjectDef) (chart : Chart) → d.priority ≡ p → object_at sys d.priority ≡ Some d → chart_at sys d.chart ≡ Some chart
      → (qs : List Piece) × (last : Option Config) × Starts sys (actor d chart) (first_config d) (tell g ++ qs) last)
      → ((d : ObjectDef) → object_at sys d.priority ≡ Some d → (p == d.priority) ≡ false → may_wait (stages d.priority) ≡ true)
      → ZeroEnds sys kernel budget end (most_rows kernel k.idle) (told ++ (map (for_object p) g ++ spilled n)) has
  zero-spilled_start end n p others g early unowed first own calm count many cuts unstarted numbered able goes wait =
      let mid = record k { ceiling = ceiling_through k.ceiling g } in
      let read : lane_on here k (map untold (map (for_object p) g)) ≡ Some mid = reads-start here p others k g first own in
      ends-with end (map (for_object p) g ++ spilled n) (record mid { unstarted = []; place = Halted }) (spilled-last end n p g mid early read refl (own-mild p g own) (λ o. own-takes p g o own) calm count many) (spill-plain p g n (own-told g own))
      (λ d chart there is.
      beside-own end p g (spilled n) mid d chart early read (own-told g own) (spill_pieces d.priority n mid (numbered d there)) there is able unowed (numbered d there) (wait d there)
      (λ same its.
      let on = goes d chart same there is in
      let here_cut : spill_cuts d.priority (map untold (told ++ (map (for_object p) g ++ spilled n))) ≡ true = ap (λ o. spill_cuts o (map untold (told ++ (map (for_object p) g ++ spilled n)))) same ∙ cuts in
      rw (early, here_cut)
      (follows-cut_start sys d chart is (able d chart there is) (entries p) (old_pieces d.priority) (tell g) on.0 on.1 (subst (ComesTo sys (actor d chart) (first_config d) (entries p) (old_pieces d.priority)) unstarted its) on.2)))

  -- The lane has no room for the kernel's own next records, nor for those of a step's next part or of the next start: nothing came but the `spill`.
  pub zero-full : (end n : ℕ) → may_cut end ≡ true → n ≡ length told → 999992 < n → AreNumbered sys → AreAble sys
      → ((d : ObjectDef) → object_at sys d.priority ≡ Some d → may_wait (stages d.priority) ≡ true)
      → ZeroEnds sys kernel budget end (most_rows kernel k.idle) (told ++ spilled n) has
  unfolding lane_on took_count
  zero-full end n early count many numbered able wait =
      ends-with end (spilled n) (record k { unstarted = []; place = Halted }) (spilled-last end n 0 [] k early refl refl tt (λ o. refl) refl (omega (arith, count)) many) refl
      (λ d chart there is. waits-beside end (spilled n) d chart early there is able (wait d there) (spill_pieces d.priority n k (numbered d there)))
