-- What the states decide is whether the pieces follow the chart.
use Rattle.std.proofs.Common.{◌≡◌, ◌≤◌, Bool, true, false, List, ◌++◌, refl, sym, ◌∙◌, subst, Some, arith}
use Rattle.std.proofs.lemmas.Bool.{and_from, and_parts}
use Rattle.qp_chart.specs.declared.checked.Chart.{Chart}
use Rattle.qp_model.specs.declared.systems.System.{System}
use Rattle.qp_model.specs.declared.systems.ObjectDef.{ObjectDef}
use Rattle.qp_model.specs.Told.{Told}
use Rattle.qp_model.specs.Pieces.{Piece, records_in}
use Rattle.qp_model.specs.ObjectShape.{asserts_none}
use Rattle.qp_model.specs.Course.{Cut, Whole, Stopped, Anywhere, Follows, FollowsAs, FollowsTo, actor, first_config}
use Rattle.qp_model.proofs.ThroughLemmas.{through-quiet, quiet-through}
use Rattle.qp_check_calls.specs.Decides.{Decides}
use Rattle.qp_check_calls.specs.CallStateLaws.{ReadsBegin, ReadsWhole, ReadsNext, OpenBegin, OpenNext, OpenReads}
use Rattle.qp_check_course.specs.Goes.{anywhere, CourseGoes}
use Rattle.qp_check_course.specs.Decided.{reads_to, HasChart}
use Rattle.qp_check_course.proofs.CourseLemmas.{any-end, course-goes, goes-course}
use Rattle.qp_check_course.specs.Passing.{told_to}
use Rattle.qp_check_course.proofs.RunLemmas.{Fronts, fronts-well, well-fronts}
use Rattle.qp_check_course.proofs.ToldLemmas.{fronts-told, told-fronts}

module _ (sys : System) (d : ObjectDef) (chart : Chart) (has : HasChart sys d chart) where
  pub into-follows : (ps : List Piece) → Follows sys d ps → CourseGoes sys (actor d chart) anywhere (first_config d) ps
  unfolding Follows FollowsAs
  into-follows ps h =
      let at : FollowsAs sys d (Some chart) ps = subst (λ o. FollowsAs sys d o ps) has.is h in
      course-goes sys (actor d chart) anywhere (first_config d) at.0 ps at.1 at.2 (any-end at.1)

  pub back-follows : (ps : List Piece) → CourseGoes sys (actor d chart) anywhere (first_config d) ps → Follows sys d ps
  unfolding Follows FollowsAs
  back-follows ps h =
      let course = goes-course sys (actor d chart) anywhere (first_config d) ps h in
      let at : FollowsAs sys d (Some chart) ps = (course.0, course.1, course.2) in
      subst (λ o. FollowsAs sys d o ps) (sym has.is) at

  module _ (begin : ReadsBegin) (whole : ReadsWhole) (reads_next : ReadsNext) (first : OpenBegin) (open_next : OpenNext) (open_reads : OpenReads) where
    pub empty : 0 ≤ d.defer
    empty = omega arith

    -- pieces that follow the chart are read
    follows-read : (cut : Cut) (ps : List Piece) → FollowsTo sys d cut ps → reads_to sys d chart cut ps ≡ true
    unfolding FollowsTo reads_to Fronts
    follows-read Whole ps h =
        let parts = through-quiet sys d ps h in
        and_from _ _ (fronts-well begin whole reads_next first open_next open_reads sys (actor d chart) has.able (first_config d) empty Whole ps (into-follows ps parts.0)) parts.1
    follows-read Stopped ps (back, h, at) =
        and_from _ _ (fronts-well begin whole reads_next first open_next open_reads sys (actor d chart) has.able (first_config d) empty Stopped ps (back, into-follows (ps ++ back) h, at)) refl
    follows-read Anywhere ps (back, h) =
        and_from _ _ (fronts-well begin whole reads_next first open_next open_reads sys (actor d chart) has.able (first_config d) empty Anywhere ps (back, into-follows (ps ++ back) h)) refl

    -- and back
    read-follows : (cut : Cut) (ps : List Piece) → reads_to sys d chart cut ps ≡ true → FollowsTo sys d cut ps
    unfolding FollowsTo reads_to Fronts
    read-follows Whole ps h =
        let parts = and_parts _ _ h in
        quiet-through sys d ps (back-follows ps (well-fronts begin whole reads_next first open_next open_reads sys (actor d chart) has.able (first_config d) empty Whole ps parts.0)) parts.1
    read-follows Stopped ps h =
        let k = well-fronts begin whole reads_next first open_next open_reads sys (actor d chart) has.able (first_config d) empty Stopped ps (and_parts _ _ h).0 in
        (k.0, back-follows (ps ++ k.0) k.1, k.2)
    read-follows Anywhere ps h =
        let k = well-fronts begin whole reads_next first open_next open_reads sys (actor d chart) has.able (first_config d) empty Anywhere ps (and_parts _ _ h).0 in
        (k.0, back-follows (ps ++ k.0) k.1)

    -- the states decide whether the pieces follow the chart
    pub read-decides : (cut : Cut) (ps : List Piece) → Decides (reads_to sys d chart cut ps) (FollowsTo sys d cut ps)
    unfolding Decides
    read-decides cut ps = by (reads_to sys d chart cut ps) refl
      where
        by : (b : Bool) → reads_to sys d chart cut ps ≡ b → Decides b (FollowsTo sys d cut ps)
        by true e = read-follows cut ps e
        by false e = λ h. let wrong : true ≡ false = sym (follows-read cut ps h) ∙ e in cc

    -- records that follow the chart with some points between them are read
    told-read : (cut : Cut) (g : List Told) → (ps : List Piece) × (records_in ps ≡ g) × FollowsTo sys d cut ps → told_to sys d chart cut g ≡ true
    unfolding FollowsTo told_to Fronts
    told-read Whole g (ps, e, h) =
        let parts = through-quiet sys d ps h in
        and_from _ _ (fronts-told begin whole reads_next first open_next open_reads sys (actor d chart) has.able (first_config d) empty Whole g ps e (into-follows ps parts.0))
        (subst (λ us. asserts_none us ≡ true) e parts.1)
    told-read Stopped g (ps, e, (back, h, at)) =
        and_from _ _ (fronts-told begin whole reads_next first open_next open_reads sys (actor d chart) has.able (first_config d) empty Stopped g ps e (back, into-follows (ps ++ back) h, at)) refl
    told-read Anywhere g (ps, e, (back, h)) =
        and_from _ _ (fronts-told begin whole reads_next first open_next open_reads sys (actor d chart) has.able (first_config d) empty Anywhere g ps e (back, into-follows (ps ++ back) h)) refl

    -- and back
    read-told : (cut : Cut) (g : List Told) → told_to sys d chart cut g ≡ true → (ps : List Piece) × (records_in ps ≡ g) × FollowsTo sys d cut ps
    unfolding FollowsTo told_to Fronts
    read-told Whole g h =
        let parts = and_parts _ _ h in
        let k = told-fronts begin whole reads_next first open_next open_reads sys (actor d chart) has.able (first_config d) empty Whole g parts.0 in
        (k.0, k.1, quiet-through sys d k.0 (back-follows k.0 k.2) (subst (λ us. asserts_none us ≡ true) (sym k.1) parts.1))
    read-told Stopped g h =
        let k = told-fronts begin whole reads_next first open_next open_reads sys (actor d chart) has.able (first_config d) empty Stopped g (and_parts _ _ h).0 in
        (k.0, k.1, (k.2.0, back-follows (k.0 ++ k.2.0) k.2.1, k.2.2))
    read-told Anywhere g h =
        let k = told-fronts begin whole reads_next first open_next open_reads sys (actor d chart) has.able (first_config d) empty Anywhere g (and_parts _ _ h).0 in
        (k.0, k.1, (k.2.0, back-follows (k.0 ++ k.2.0) k.2.1))

    -- the states decide whether the records follow the chart with some points between them
    pub told-decides : (cut : Cut) (g : List Told) → Decides (told_to sys d chart cut g) ((ps : List Piece) × (records_in ps ≡ g) × FollowsTo sys d cut ps)
    unfolding Decides
    told-decides cut g = by (told_to sys d chart cut g) refl
      where
        by : (b : Bool) → told_to sys d chart cut g ≡ b → Decides b ((ps : List Piece) × (records_in ps ≡ g) × FollowsTo sys d cut ps)
        by true e = read-told cut g e
        by false e = λ h. let wrong : true ≡ false = sym (told-read cut g h) ∙ e in cc
