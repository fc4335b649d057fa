-- Rows of looks in a kernel of one thread: how they begin, go on and end.
use Rattle.std.proofs.Common.{◌≡◌, ℕ, ◌+◌, ◌≤◌, ◌==◌, Bool, true, false, not, ◌&&◌, cond, List, [], ◌∷◌, refl, ◌∙◌, ap, arith}
use Rattle.std.proofs.lemmas.Bool.Decides.{nat_tests}
use Rattle.qp_model.specs.declared.systems.System.{System}
use Rattle.qp_model.specs.Kernels.{sim, qk, qv}
use Rattle.qp_model.specs.KernelLane.{Setting, Reading, Upcoming, Inside, Resting, Again, Over, base_ended, found_none, looking_at, lane_on, unread}
use Rattle.qp_model.specs.End.{took_count}
use Rattle.qp_model.proofs.KernelRowLemmas.{MayLook}
use Rattle.qp_kernel.specs.Stages as stage
use Rattle.qp_kernel.specs.Stages.{ComesTo}
use Rattle.qp_kernel.specs.LaneZero.{told_pieces, setting, HasOneRow, LaneZero}
use Rattle.qp_kernel.proofs.ToldPieces.{none-owed}
use Rattle.qp_kernel.specs.Turning.{AreNumbered}

-- nothing has been recorded yet
pub zero-new : (sys : System) (kernel budget : ℕ) (now : ℕ → Bool) (upto : ℕ) → AreNumbered sys → LaneZero sys kernel budget [] now upto (unread sys) 0 (λ o. stage.Unstarted) (λ o. [])
unfolding lane_on told_pieces took_count unread ComesTo
zero-new sys kernel budget now upto numbered = record {
  read = λ has agree. refl;
  pieces = λ has agree d chart at is. (none-owed d.priority (numbered d at), refl);
  took = λ o. refl;
  budgets = λ o. omega arith;
  calm = refl;
  unmarked = refl;
  rows = λ single. refl;
}

-- a look that may stand where the kernel isn't `qk` stands in its only row, which isn't over
pub look-idle : (kernel : ℕ) (place : Upcoming) (running : List ℕ) (idle : ℕ) → (kernel == qk) ≡ false → MayLook kernel place running → HasOneRow place idle → idle ≡ 0
look-idle kernel Over running idle single may h = let no : (kernel == qk) ≡ true = grind (arith, nat_tests, may) in absurd (cc)
look-idle kernel _ running idle single may h = h

-- at the end of a row at the base, one row stays one row
pub one-row_base : (s : Setting) (k : Reading) → k.idle ≡ 0 → HasOneRow (base_ended s k).place (base_ended s k).idle
one-row_base s k h = base (not (s.kernel == qk) && s.has_stimulus k.looks)
  where
    more : (b : Bool) → cond b k.idle (k.idle + 1) ≤ 1
    more true = omega (arith, h)
    more false = omega (arith, h)

    base : (b : Bool) → HasOneRow (cond b (record k { place = Again }) (record k { place = Over; idle = cond k.stepped k.idle (k.idle + 1); stepped = false })).place
        (cond b (record k { place = Again }) (record k { place = Over; idle = cond k.stepped k.idle (k.idle + 1); stepped = false })).idle
    base true = h
    base false = more k.stepped

-- and looking at objects
pub one-row : (s : Setting) (k : Reading) (os : List ℕ) → k.idle ≡ 0 → HasOneRow (looking_at s k os).place (looking_at s k os).idle
one-row s k (p ∷ others) h = h
one-row s k [] h = by k.running
  where
    rests : (b : Bool) → HasOneRow (cond b (record k { place = Resting }) (base_ended s k)).place (cond b (record k { place = Resting }) (base_ended s k)).idle
    rests true = h
    rests false = one-row_base s k h

    by : (os : List ℕ) → HasOneRow (found_none s k os).place (found_none s k os).idle
    by (o ∷ outer) = h
    by [] = rests (s.kernel == qv)

-- within a step a row ends whatever stimuli come
pub looking-within : (s : Setting) (k : Reading) (p : ℕ) (outer : List ℕ) → k.running ≡ p ∷ outer → looking_at s k [] ≡ record k { place = Inside }
looking-within s k p outer h = ap (found_none s k) h

-- under `sim` at the base it goes on where a stimulus came in its look, and is over where none did
pub looking-again : (sys : System) (has : ℕ → Bool) (k : Reading) → k.running ≡ [] → has k.looks ≡ true → looking_at (setting sys sim has) k [] ≡ record k { place = Again }
looking-again sys has k base came = ap (found_none (setting sys sim has) k) base ∙ rw came refl

pub looking-over : (sys : System) (has : ℕ → Bool) (k : Reading) → k.running ≡ [] → has k.looks ≡ false
    → looking_at (setting sys sim has) k [] ≡ record k { place = Over; idle = cond k.stepped k.idle (k.idle + 1); stepped = false }
looking-over sys has k base none = ap (found_none (setting sys sim has) k) base ∙ rw none refl

-- under `qk` it is over whatever comes
pub looking-over_qk : (sys : System) (has : ℕ → Bool) (k : Reading) → k.running ≡ []
    → looking_at (setting sys qk has) k [] ≡ record k { place = Over; idle = cond k.stepped k.idle (k.idle + 1); stepped = false }
looking-over_qk sys has k base = ap (found_none (setting sys qk has) k) base

-- under `qv` the kernel rests at the base, and then the row goes on or is over in the same way
pub looking-rests : (sys : System) (has : ℕ → Bool) (k : Reading) → k.running ≡ [] → looking_at (setting sys qv has) k [] ≡ record k { place = Resting }
looking-rests sys has k base = ap (found_none (setting sys qv has) k) base

pub resting-again : (sys : System) (has : ℕ → Bool) (k : Reading) → has k.looks ≡ true → base_ended (setting sys qv has) k ≡ record k { place = Again }
resting-again sys has k came = rw came refl

pub resting-over : (sys : System) (has : ℕ → Bool) (k : Reading) → has k.looks ≡ false
    → base_ended (setting sys qv has) k ≡ record k { place = Over; idle = cond k.stepped k.idle (k.idle + 1); stepped = false }
resting-over sys has k none = rw none refl
