use Rattle.qp_replay.proofs.NamedRecords.{named-records}
use Rattle.qp_replay.proofs.SerialLemmas.{serial-also}
use Rattle.qp_replay.proofs.SizeLemmas.{small-journal}
use Rattle.qp_replay.proofs.replaying.replay.Goals as goal

pub ordered-requires : goal.ordered-requires
ordered-requires c = small-journal c.args._sys.now c.args._stim.now c.args.j.now c.requires.sound c.requires.fit.few c.requires.lawful

pub returns : goal.returns
returns c =
    let named = named-records c.args._sys.now c.args._stim.now c.args.j.now c.requires.sound c.requires.fit c.requires.lawful in
    serial-also c.args._sys.now c.args.j.now.lanes c.requires.lawful.words named c.in-Ok.replayed c.in-Ok.ensures
