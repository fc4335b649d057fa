-- The promises of courses.
use Rattle.qp_model.specs.CourseLaws.{NothingFollowsAnAssertion, WholeListsAssertNothing, CoursesHaveTheirShape, CoursesKeepTheirList}
use Rattle.std.specs.Prelude.{true}
use Rattle.qp_model.specs.Course.{FollowsTo}
use Rattle.qp_model.proofs.LastLemmas.{follows-shape}
use Rattle.qp_model.proofs.DeferralLemmas.{follows-deferral}
use Rattle.qp_model.proofs.ThroughLemmas.{through-quiet, quiet-through}

pub nothing_follows_an_assertion : NothingFollowsAnAssertion
unfolding NothingFollowsAnAssertion
nothing_follows_an_assertion sys d cut ps h = (follows-shape sys d true cut ps h).last

pub whole_lists_assert_nothing : WholeListsAssertNothing
unfolding WholeListsAssertNothing FollowsTo
whole_lists_assert_nothing sys d ps = (λ h. through-quiet sys d ps h, λ h. quiet-through sys d ps h.0 h.1)

pub courses_have_their_shape : CoursesHaveTheirShape
unfolding CoursesHaveTheirShape
courses_have_their_shape sys d nils cut ps h = follows-shape sys d nils cut ps h

pub courses_keep_their_list : CoursesKeepTheirList
unfolding CoursesKeepTheirList
courses_keep_their_list sys d cut ps h = follows-deferral sys d cut ps h
