-- States whose tasks make events of at most eight parameters.
use Rattle.std.specs.Prelude.{◌≡◌, true, List, is_some}
use Rattle.std.specs.List.{list_all}
use Rattle.qp_chart.specs.Task.{Task}
use Rattle.qp_model.specs.Able.{task_able}
use Rattle.qp_check_course.specs.Goes.{Way, Stepping, moment_of}
use Rattle.qp_check_course.specs.Machine.{State, Telling, Raising, AtPoint, InCall, AtPost}
use Rattle.qp_check_course.specs.Followable.{with_eight}

-- these tasks do
abbrev pub AreFew : Way → List Task → Type 0
AreFew way ts = list_all (task_able with_eight (is_some (moment_of way).entry)) ts ≡ true

-- the tasks left do
abbrev pub FewLeft : State → Type 0
FewLeft (Telling way n ends ts leaf c) = AreFew way ts
FewLeft (Raising way ceiling ts leaf c) = AreFew way ts
FewLeft (AtPoint ev e ts leaf c) = AreFew (Stepping ev e) ts
FewLeft (InCall way inner rest ts leaf c) = AreFew way ts
FewLeft (AtPost way rest ts leaf c) = AreFew way ts
FewLeft s = Unit {0}
