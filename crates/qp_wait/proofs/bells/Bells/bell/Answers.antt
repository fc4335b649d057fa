use Rattle.std.proofs.Common.{map, ap, subst, ◌∙◌}
use Rattle.std.specs.Prelude.{IfSome}
use Rattle.qp_wait.specs.Ropes.{IsPerchAt, parkers_of}
use Rattle.qp_wait.proofs.bells.Bells.bell.Goals as goal

pub returns-clause-hangs : goal.returns-clause-hangs
returns-clause-hangs c =
    let posts = c.in-Ok.ensures.cords in
    let cords = c.in-Ok-cords.ensures.cords in
    record {
      objects = ap (map (λ x. x.object)) c.new-ringing.ensures.cords ∙ posts.objects;
      posts = ap parkers_of c.new-ringing.ensures.cords ∙ posts.parkers;
      same = cords.objects;
      farewells = cords.parkers;
      perch = subst (λ ws. IfSome c.perch_of-perch.result (IsPerchAt ws)) c.as_slice.ensures.value c.perch_of-perch.ensures.parker;
    }

pub returns-clause-parks : goal.returns-clause-parks
returns-clause-parks c = c.perch_of-perch.ensures.object
