use Rattle.std.proofs.Common.{◌≡◌, ◌∙◌, ◌++◌, ap, map, length, Some, IsTrue}
use Rattle.std.proofs.lemmas.List.{length-map}
use Rattle.qp_model.specs.declared.systems.ObjectDef.{ObjectDef}
use Rattle.qp_model.specs.Home.{by_object}
use Rattle.qp_model.specs.Lawful.{CourseHolds, ShapesHold, deferral_holds, dispatched, facts_of}
use Rattle.qp_check.specs.Judged.{at_objects, object_trials}
use Rattle.qp_check.proofs.FindLemmas.{finds-before, finds-behind, found, found-none}
use Rattle.qp_check.proofs.JudgedLemmas.{hold-both}
use Rattle.qp_check.proofs.ObjectTestLemmas.{mapped-twice, written-whole}
use Rattle.qp_check.proofs.object_tests.objects_broken.Goals as goal

pub returns-in-Some : goal.returns-in-Some
unfolding object_trials
returns-in-Some c =
    let shapes = at_objects 15 (ShapesHold c.args.sys.now c.args.j.now) c.args.sys.now.objects in
    let deferral = at_objects 17 (λ d. IsTrue (deferral_holds c.args.sys.now c.args.j.now d)) c.args.sys.now.objects in
    let course = at_objects 7 (CourseHolds c.args.sys.now c.args.j.now) c.args.sys.now.objects in
    finds-before (shapes ++ deferral) course c.in-Some.broken (finds-before shapes deferral c.in-Some.broken (found shapes c.in_ok-shapes.shapes c.in-Some.broken c.in_ok-shapes.ensures c.in-Some.is))

pub returns-in-Some-deferral : goal.returns-in-Some-deferral
unfolding object_trials
returns-in-Some-deferral c =
    let shapes = at_objects 15 (ShapesHold c.args.sys.now c.args.j.now) c.args.sys.now.objects in
    let deferral = at_objects 17 (λ d. IsTrue (deferral_holds c.args.sys.now c.args.j.now d)) c.args.sys.now.objects in
    let course = at_objects 7 (CourseHolds c.args.sys.now c.args.j.now) c.args.sys.now.objects in
    finds-before (shapes ++ deferral) course c.in-Some-deferral.broken
    (finds-behind shapes deferral (Some c.in-Some-deferral.broken) (found-none shapes c.in_ok-shapes.shapes c.in_ok-shapes.ensures c.in-None.is)
    (found deferral c.in_ok-deferral.deferral c.in-Some-deferral.broken c.in_ok-deferral.ensures c.in-Some-deferral.is))

pub course_broken-requires-clause-told : goal.course_broken-requires-clause-told
course_broken-requires-clause-told c =
    let old = c.in_ok-told.told.items in
    let new = c.drop_all_marks.new.all in
    let dropped : new ≡ map dispatched old = c.drop_all_marks.ensures ∙ ap (map dispatched) c.deref_mut.ensures.value in
    c.deref-2.ensures.value ∙ written-whole c.in_ok-told.told.len old new c.in_ok-told.told.ok.0 (ap length dropped ∙ length-map old dispatched)
    ∙ dropped ∙ ap (map dispatched) c.in_ok-told.ensures
    ∙ mapped-twice (λ (d : ObjectDef). by_object (facts_of c.args.sys.now c.args.j.now) c.args.j.now d.priority) dispatched c.args.sys.now.objects

pub returns : goal.returns
unfolding object_trials
returns c =
    let shapes = at_objects 15 (ShapesHold c.args.sys.now c.args.j.now) c.args.sys.now.objects in
    let deferral = at_objects 17 (λ d. IsTrue (deferral_holds c.args.sys.now c.args.j.now d)) c.args.sys.now.objects in
    let course = at_objects 7 (CourseHolds c.args.sys.now c.args.j.now) c.args.sys.now.objects in
    finds-behind (shapes ++ deferral) course c.in_ok-course.course
    (hold-both shapes deferral (found-none shapes c.in_ok-shapes.shapes c.in_ok-shapes.ensures c.in-None.is) (found-none deferral c.in_ok-deferral.deferral c.in_ok-deferral.ensures c.in-None-deferral.is))
    c.in_ok-course.ensures
