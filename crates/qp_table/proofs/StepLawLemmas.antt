-- The laws of the steps of a lane.
use Rattle.qp_table.specs.StepLaws.{ReadsTell, PoolEyesTell, GivesTell, DropsTell, FirstReferencesTell, MoreReferencesTell, BacksTell, BeginningsTell, FillsTell, LooksTell, SeenCountsTell, EmptyQueuesTell, EyesTell, TriesTell, LastEyesTell, LastTriesTell, LaysTell, SwapsTell, FreesTell}
use Rattle.qp_table.proofs.Blocks.{drops-tell, first-tells, more-tells, backs-tell, beginnings-tell, fills-tell}
use Rattle.qp_table.proofs.Queues.{looks-tell, seen-tells, nil-tells, lays-tell, swaps-tell, frees-tell}
use Rattle.qp_table.proofs.Claims.{eyes-tell, tries-tell, last-eyes-tell, last-tries-tell}
use Rattle.qp_table.proofs.Reading.{reads-tell}
use Rattle.qp_table.proofs.Pools.{pool-eyes-tell, gives-tell}

pub drops_tell : DropsTell
drops_tell sys id v own o p b k pos mine words views holds at small = drops-tell sys id v own o p b k pos mine words views holds at small

pub first_references_tell : FirstReferencesTell
first_references_tell sys id v own o p b mine given written words views holds at small = first-tells sys id v own o p b mine given written words views holds at small

pub more_references_tell : MoreReferencesTell
more_references_tell sys id v own o p b k pos mine words views holds at small = more-tells sys id v own o p b k pos mine words views holds at small

pub backs_tell : BacksTell
backs_tell sys id v own o p b m k is small_k mine words views holds at small = backs-tell sys id v own o p b m k is small_k mine words views holds at small

pub beginnings_tell : BeginningsTell
beginnings_tell sys id v p b m mine words views holds at small = beginnings-tell sys id v p b m mine words views holds at small

pub fills_tell : FillsTell
fills_tell sys id v p b j x mine low left asked words views holds at small = fills-tell sys id v p b j x mine low left asked words views holds at small

pub looks_tell : LooksTell
looks_tell sys id v a object words views holds at small = looks-tell sys id v a object words views holds at small

pub seen_counts_tell : SeenCountsTell
seen_counts_tell sys id v room a object words views holds at small = seen-tells sys id v room a object words views holds at small

pub empty_queues_tell : EmptyQueuesTell
empty_queues_tell sys id v room a object is_new words views holds at small = nil-tells sys id v room a object is_new words views holds at small

pub eyes_tell : EyesTell
eyes_tell sys id v own a object o margin words views holds at small = eyes-tell sys id v own a object o margin words views holds at small

pub tries_tell : TriesTell
tries_tell sys id v own a object o margin e old mine last free words views holds at small = tries-tell sys id v own a object o margin e old mine last free words views holds at small

pub last_eyes_tell : LastEyesTell
last_eyes_tell sys id v own a object words views holds at small = last-eyes-tell sys id v own a object words views holds at small

pub last_tries_tell : LastTriesTell
last_tries_tell sys id v own a object e old mine serves idle last free words views holds at small = last-tries-tell sys id v own a object e old mine serves idle last free words views holds at small

pub lays_tell : LaysTell
lays_tell sys id v a j e object inside mine first words views holds at small = lays-tell sys id v a j e object inside mine first words views holds at small

pub swaps_tell : SwapsTell
swaps_tell sys id v a l m object has_log serves l_is m_is idle words views holds at small = swaps-tell sys id v a l m object has_log serves l_is m_is idle words views holds at small

pub frees_tell : FreesTell
frees_tell sys id v room a j e object serves mine words views holds at small = frees-tell sys id v room a j e object serves mine words views holds at small

pub reads_tell : ReadsTell
reads_tell sys id v p b k j pos mine known words views holds at small = reads-tell sys id v p b k j pos mine known words views holds at small

pub pool_eyes_tell : PoolEyesTell
pool_eyes_tell sys id v own p pool o reserve words views holds at small = pool-eyes-tell sys id v own p pool o reserve words views holds at small

pub gives_tell : GivesTell
gives_tell sys id v own p pool o reserve b sig pars old new done fits content last lowest new_is words views holds at small = gives-tell sys id v own p pool o reserve b sig pars old new done fits content last lowest new_is words views holds at small
