-- A world in which nothing has happened.
use Rattle.std.specs.Prelude.{◌≡◌, ℕ, zero, suc, ◌==◌, Bool, true, false, not, ◌&&◌, List, [], ◌∷◌, ◌++◌, length}
use Rattle.std.specs.List.{list_all}
use Rattle.qp_model.specs.declared.record.Rec.{Rec}
use Rattle.qp_model.specs.declared.systems.System.{System}
use Rattle.qp_model.specs.FreeBlocks.{Pool}
use Rattle.qp_model.specs.Lists.{count_up}
use Rattle.qp_model.specs.Sites.{ring_of, blocks_of}
use Rattle.qp_plain_words.specs.Queue.{Queue, empty_line}
use Rattle.qp_calls_log.specs.declared.log.Log.{Log}
use Rattle.qp_plain.specs.declared.book.Book.{Book}
use Rattle.qp_plain.specs.Book.{logs_of}
use Rattle.qp_plain.specs.World.{no_codes}

-- what the function gives of 0, 1 and so on below n
unfoldable pub tabulated : {X : Type 0} → (ℕ → X) → ℕ → List X
tabulated f zero = []
tabulated f (suc n) = tabulated f n ++ f n ∷ []

-- the pool in this place, all of whose blocks are free
abbrev pub free_pool : System → ℕ → Pool
free_pool sys k = record { count = 0; free = count_up 0 (blocks_of sys (suc k)) }

-- the queue of this priority, which is empty
abbrev pub first_queue : System → ℕ → Queue
first_queue sys a = record { line = empty_line; ring = ring_of sys a }

-- a lane with no record and no spare
abbrev pub no_recs : List Rec → Bool
no_recs [] = true
no_recs (r ∷ rs) = false

abbrev pub is_fresh_log : Log → Bool
is_fresh_log g = (no_recs g.recs.items && (g.spare == 0)) && (not g.spilled && (no_codes g.stops.list && no_codes g.answered.list))

pub record IsNewBook (n : ℕ) (b : Book) : Type 0 where
  pub all : list_all is_fresh_log (logs_of b) ≡ true
  pub here : is_fresh_log b.here ≡ true
  pub long : length b.others.items ≡ n
  pub order : b.order.items ≡ []
  pub at : b.at ≡ 0
