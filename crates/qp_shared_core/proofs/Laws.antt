-- All steps of a lane are the core's.
use Rattle.qp_shared_core.specs.Laws.{StepsAreCore}
use Rattle.qp_shared_core.proofs.BlockSteps.{drop-is, first-is, more-is, back-is, beginning-is, fill-is, read-is}
use Rattle.qp_shared_core.proofs.PoolSteps.{pool-eye-is, give-is}
use Rattle.qp_shared_core.proofs.QueueSteps.{look-is, seen-is, eye-is, try-is, lay-is, swap-is, nil-is, eye-last-is, try-last-is, free-is}

pub steps-are-core : StepsAreCore
steps-are-core = record {
  drops = λ sys o v room p b k mine words views id u holds at after told. drop-is sys words views holds id v at o room p b k mine u told;
  first_references = λ sys o v room p b mine begun written words views id u holds at after told. first-is sys words views holds id v at o room p b mine begun written u told;
  more_references = λ sys o v room p b k mine words views id u holds at after told. more-is sys words views holds id v at o room p b k mine u told;
  backs = λ sys o v room p b m k is small mine words views id u holds at after told. back-is sys words views holds id v at o room p b m k is small mine u told;
  beginnings = λ sys o v p b m words views id u holds at after told. beginning-is sys words views holds id v at o p b m u told;
  fills = λ sys o v p b j x left asked words views id u holds at after told. fill-is sys words views holds id v at o p b j x left asked u told;
  reads = λ sys o v p b k j pos mine inside words views id u holds at after told. read-is sys words views holds id v at o p b k j pos mine inside u told;
  pool_eyes = λ sys o v room p pool reserve words views id u holds at after told. pool-eye-is sys words views holds id v at o room p pool reserve u told;
  gives = λ sys o v room p pool reserve ev b old new done roomy content low new_is words views id u holds at after told. give-is sys words views holds id v at o room p pool reserve ev b old new done roomy content low new_is u after told;
  looks = λ sys o v a object words views id u holds at after told. look-is sys words views holds id v at o a object u told.0;
  seen_counts = λ sys o v room a object words views id u holds at after told. seen-is sys words views holds id v at o a object room u told;
  empty_queues = λ sys v room a object is_new words views id u holds at after told. nil-is sys words views holds id v at a object room is_new u told;
  eyes = λ sys o v room a object margin words views id u holds at after told. eye-is sys words views holds id v at o a object room margin u told;
  tries = λ sys o v room a object margin e old mine some_free words views id u holds at after told. try-is sys words views holds id v at o a object room margin e old mine some_free u told;
  last_eyes = λ sys v room a object words views id u holds at after told. eye-last-is sys words views holds id v at a object room u told;
  last_tries = λ sys v room a object e old mine serves idle some_free words views id u holds at after told. try-last-is sys words views holds id v at a object room e old mine serves idle some_free u told;
  lays = λ sys o v a j e object inside mine first words views id u holds at after told. lay-is sys words views holds id v at o a object j e inside mine first u told;
  swaps = λ sys o v a l m object serves l_is m_is idle words views id u holds at after told. swap-is sys words views holds id v at o a object l m serves l_is m_is idle u told;
  frees = λ sys v room a j e object serves mine words views id u holds at after told. free-is sys words views holds id v at a object room j e serves mine u told;
}
