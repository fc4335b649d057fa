use Rattle.std.proofs.Common.{sym, subst}
use Rattle.qp_stim.specs.Maps.{dictionary}
use Rattle.qp_stim.specs.Names.{Dictionary, FewParams}
use Rattle.qp_stim.proofs.RulesLemmas.{names_of-few, answers-names, answers-fit}
use Rattle.qp_stim.proofs.reader.stimuli_of_bytes.Goals as goal

pub read-requires : goal.read-requires
read-requires c =
    let P : Dictionary → Type 0 = FewParams in subst P (sym c.in_ok-names.ensures) (names_of-few c.args.sys.now c.requires.params)

pub returns-clause-exact : goal.returns-clause-exact
returns-clause-exact c = answers-names c.args.sys.now (dictionary c.in_ok-names.names) c.args.bytes.now c.read.result c.in_ok-names.ensures c.read.ensures

pub returns-clause-rules : goal.returns-clause-rules
returns-clause-rules c =
    answers-fit c.args.sys.now c.args.bytes.now c.read.result
    (answers-names c.args.sys.now (dictionary c.in_ok-names.names) c.args.bytes.now c.read.result c.in_ok-names.ensures c.read.ensures)
