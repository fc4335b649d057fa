-- The line of a queue: its entries in order, and how many came and went.
use Rattle.std.specs.Prelude.{ℕ, ◌+◌, ◌-◌, ◌==◌, nat_le, Bool, false, ◌&&◌, List, [], ◌∷◌, ◌++◌, length, drop}
use Rattle.qp_model.specs.declared.bodies.Entry.{Entry}
use Rattle.qp_model.specs.declared.bodies.Body.{Body}
use Rattle.qp_model.specs.declared.bodies.Body.TheVariants.{Post, Lifo, Took, Nil, Seen, Full, NoEntry, NoLifo}
use Rattle.qp_model.specs.Machine.{Machine}

pub record Line : Type 0 where
  pub entries : List Entry
  -- first-in posts, last-in posts and takes
  pub f : ℕ
  pub l : ℕ
  pub m : ℕ

abbrev pub same_entry : Entry → Entry → Bool
same_entry d e = (d.pool == e.pool) && (d.block == e.block) && (d.name == e.name)

-- the entry is the first of the list
abbrev pub is_front : Entry → List Entry → Bool
is_front e [] = false
is_front e (x ∷ xs) = same_entry x e

abbrev pub counts_are : ℕ → ℕ → ℕ → Line → Bool
counts_are f l m s = (s.f == f) && (s.l == l) && (s.m == m)

-- the free entries: the ring's, and the place of the front
abbrev pub room_in : ℕ → Line → ℕ
room_in ring s = ring + 1 - length s.entries

-- a post appends its entry, a last-in post puts it in front, a take removes the front
abbrev pub line_next : Line → Body → Line
line_next s (Post a f l m e) = record { entries = s.entries ++ e ∷ []; f = s.f + 1; l = s.l; m = s.m }
line_next s (Lifo f l m e) = record { entries = e ∷ s.entries; f = s.f; l = s.l + 1; m = s.m }
line_next s (Took f l m e) = record { entries = drop 1 s.entries; f = s.f; l = s.l; m = s.m + 1 }
line_next s _ = s

-- the counts stated are those after it; a post needs room, and a take states the front
abbrev pub line_may : ℕ → Line → Body → Bool
line_may ring s (Post a f l m e) = (f == s.f + 1) && (l == s.l) && (m == s.m) && nat_le (length s.entries) ring
line_may ring s (Lifo f l m e) = (f == s.f) && (l == s.l + 1) && (m == s.m) && nat_le (length s.entries) ring
line_may ring s (Took f l m e) = (f == s.f) && (l == s.l) && (m == s.m + 1) && is_front e s.entries
line_may ring s _ = false

-- what shows a queue states its counts; by these it is empty for `nil`, has at most the margin free for `full`, and is full for
-- assertions 1 and 5
abbrev pub line_says : ℕ → Line → Body → Bool
line_says ring s (Nil f l m) = counts_are f l m s && (f + l == m)
line_says ring s (Seen p f l m) = counts_are f l m s
line_says ring s (Full a f l m margin) = counts_are f l m s && nat_le (ring + 1 - (f + l - m)) margin
line_says ring s (NoEntry a f l m) = counts_are f l m s && (f + l - m == ring + 1)
line_says ring s (NoLifo a f l m) = counts_are f l m s && (f + l - m == ring + 1)
line_says ring s _ = false

-- a queue with a ring of this length
abbrev pub line : ℕ → Machine Line
line ring = record {
  first = record { entries = []; f = 0; l = 0; m = 0 };
  next = λ s i. line_next s i.body;
  may = λ s i. line_may ring s i.body;
  count = λ s. s.f + s.l + s.m;
  says = line_says ring;
}
