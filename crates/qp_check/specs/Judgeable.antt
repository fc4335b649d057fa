-- What a judge asks of a system. Every system that is read from a file has it.
use Rattle.std.specs.Prelude.{◌≤◌, length}
use Rattle.std.specs.List.{AllByRecursion}
use Rattle.qp_model.specs.declared.systems.System.{System}
use Rattle.qp_model.specs.Laws.{Ascend}
use Rattle.qp_check_words.specs.Numbers.{WordsFit}
use Rattle.qp_check_course.specs.Followable.{IsFollowable}

-- its words have numbers of their types, its priorities are from 1 to 32 and ascend, and its charts can be followed
pub record IsJudgeable (sys : System) : Type 0 where
  pub words : WordsFit sys
  pub few_objects : length sys.objects ≤ 32
  pub ascend : Ascend sys.objects
  pub priorities : AllByRecursion (λ d. d.priority ≤ 32) sys.objects
  pub followable : AllByRecursion (IsFollowable sys) sys.objects
