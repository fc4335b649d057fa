-- A sound system's journals can be judged.
use Rattle.std.proofs.Common.{◌≤◌, List, [], ◌∷◌, arith}
use Rattle.std.specs.List.{AllByRecursion}
use Rattle.qp_model.specs.declared.systems.PoolDef.{PoolDef}
use Rattle.qp_model.specs.declared.systems.System.{System}
use Rattle.qp_model.specs.Sound.{IsSound, IsSoundPool}
use Rattle.qp_check.specs.Judgeable.{IsJudgeable}
use Rattle.qp_check_words.specs.Numbers.{WordsFit}
use Rattle.qp_unique.proofs.FollowLemmas.{sound-followable}

module _ (sys : System) (sound : IsSound sys) where
  few-blocks : (ps : List PoolDef) → AllByRecursion IsSoundPool ps → AllByRecursion (λ d. d.blocks ≤ 256) ps
  few-blocks [] all = tt
  few-blocks (p ∷ ps) all = (omega (arith, all.0.few_blocks), few-blocks ps all.1)

  words-fit : WordsFit sys
  words-fit = record {
    pools = omega (arith, sound.few_pools);
    blocks = few-blocks sys.pools sound.pools;
    signals = omega (arith, sound.few_signals);
    timers = omega (arith, sound.few_timers);
  }

  pub sound-judgeable : IsJudgeable sys
  sound-judgeable = record {
    words = words-fit;
    few_objects = sound.few_objects;
    ascend = sound.ascend;
    priorities = sound.priorities;
    followable = sound-followable sys sound;
  }
