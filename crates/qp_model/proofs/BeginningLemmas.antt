-- The words before any record.
use Rattle.std.proofs.Common.{◌≡◌, ℕ, zero, suc, true, [], refl, replicate}
use Rattle.qp_model.specs.declared.systems.System.{System}
use Rattle.qp_model.specs.declared.words.Word.{Word}
use Rattle.qp_model.specs.declared.words.Word.TheVariants as word
use Rattle.qp_model.specs.Lists.{all_below}
use Rattle.qp_model.specs.History.{all_items, lane_items, hist, numbered, total, is_numbered, marks_rise}
use Rattle.qp_model.specs.Machine.{Machine, after, after_from, is_allowed, allowed_from, is_shown}
use Rattle.qp_model.specs.FreeBlocks.{free_blocks}
use Rattle.qp_model.specs.References.{references}
use Rattle.qp_model.specs.Line.{line}
use Rattle.qp_model.specs.Subscribers.{subscribers}
use Rattle.qp_model.specs.TimeEvents.{time_event}
use Rattle.qp_model.specs.Lives.{edges, edges_empty, lives_cover, lives_referred}
use Rattle.qp_model.specs.Sites.{ring_of, blocks_of}
use Rattle.qp_model.specs.WordLaw.{Words}
use Rattle.qp_model.proofs.WordLemmas.{Held}

-- so many lanes without records
pub all_items-empty : (n : ℕ) → all_items (replicate n []) ≡ []
unfolding all_items lane_items
all_items-empty zero = refl
all_items-empty (suc n) = all_items-empty n

marks_rise-empty : (w : Word) (n : ℕ) → marks_rise w (replicate n []) ≡ true
unfolding marks_rise lane_items
marks_rise-empty w zero = refl
marks_rise-empty w (suc n) = marks_rise-empty w n

-- each word keeps its law, and holds what it holds at first
pub held-first : {S : Type 0} (m : Machine S) (w : Word) (n : ℕ) → Held S m w (replicate n []) m.first
unfolding is_numbered is_allowed is_shown allowed_from hist numbered total after after_from all_below
held-first m w n = record {
  keeps = record {
    numbers = rw all_items-empty refl;
    allowed = rw all_items-empty refl;
    shown = rw all_items-empty refl;
    marks = marks_rise-empty w n;
  };
  state = rw all_items-empty refl;
}

pub words-first : (sys : System) (n : ℕ) → Words sys (replicate n [])
unfolding hist numbered total is_allowed allowed_from edges_empty edges lives_cover lives_referred after after_from all_below
words-first sys n = record {
  pools = λ p h. (held-first (free_blocks (blocks_of sys p)) (word.Pool p) n).keeps;
  blocks = λ p b h. (held-first references (word.Block p b) n).keeps;
  lives = λ p b h. rw all_items-empty (record { alternate = refl; empty = refl; cover = refl; referred = refl });
  queues = λ a h. (held-first (line (ring_of sys a)) (word.Queue a) n).keeps;
  signals = λ s h. (held-first subscribers (word.Signal s) n).keeps;
  timers = λ t h. (held-first time_event (word.Timer t) n).keeps;
}
