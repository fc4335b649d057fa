-- The laws of the orders that a replay answers.
use Rattle.std.specs.Prelude.{List, [], IsTrue}
use Rattle.qp_model.specs.declared.record.Rec.{Rec}
use Rattle.qp_model.specs.declared.stimulus.Stim.{Stim}
use Rattle.qp_model.specs.declared.systems.System.{System}
use Rattle.qp_model.specs.declared.journals.Journal.{Journal}
use Rattle.qp_model.specs.Lawful.{Lawful}
use Rattle.qp_model.specs.Places.{IsSerial, RecordPlace, items_at}
use Rattle.qp_model.specs.Sound.{IsSound}
use Rattle.qp_stim.specs.Rules.{StimuliFit}
use Rattle.qp_replay.specs.Numbers.{TouchKnownWords, has_word, numbers_stand}
use Rattle.qp_replay.specs.Orders.{IsLowestOrder}

-- each record of a lawful journal that touches a word touches one of the system
abbrev pub LawfulRecordsAreNamed : Type 0
LawfulRecordsAreNamed = (sys : System) (stimuli : List (List Stim)) (j : Journal) → IsSound sys → StimuliFit sys stimuli → Lawful sys stimuli j → TouchKnownWords sys j.lanes

-- where each record touches no word but the system's, the order is serial by the law book
abbrev pub NamedOrdersAreSerial : Type 0
NamedOrdersAreSerial =
    (sys : System) (lanes : List (List Rec)) (order : List RecordPlace) → TouchKnownWords sys lanes → IsLowestOrder lanes order → IsTrue (numbers_stand (has_word sys) [] (items_at lanes order)) → IsSerial lanes order
