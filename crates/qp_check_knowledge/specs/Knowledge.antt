-- What the tables of a journal know.
use Rattle.std.specs.Prelude.{◌≡◌}
use Rattle.qp_model.specs.declared.systems.System.{System}
use Rattle.qp_model.specs.declared.journals.Journal.{Journal}
use Rattle.qp_model.specs.Knowing.{Facts}
use Rattle.qp_model.specs.Lawful.{facts_of}
use Rattle.qp_check_knowledge.specs.KnownWords.{IsKnowledge}
use Rattle.qp_check_knowledge.specs.declared.knowledge.Knowledge.{Knowledge}

-- the tables are those of the system and the journal
abbrev pub HasItsTables : Knowledge → Type 0
HasItsTables k = IsKnowledge k.sys.now k.journal.now.lanes k.records.now k.pools k.blocks k.signals

-- what the definitions know of them
abbrev pub known_facts : Knowledge → Facts
known_facts k = facts_of k.sys.now k.journal.now

-- the tables are those of this system and this journal
abbrev pub IsKnowledgeOf : Knowledge → System → Journal → Type 0
IsKnowledgeOf k sys j = HasItsTables k × (k.sys.now ≡ sys) × (k.journal.now ≡ j)
