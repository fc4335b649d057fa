-- Each kind of step on a queue or a cell keeps the rule of the event table, from any state that meets it.
use Rattle.std.specs.Prelude.{◌≡◌, ◌≢◌, ℕ, ◌+◌, ◌-◌, ◌*◌, ◌/◌, ◌%◌, ◌<◌, List, length, slice_index, IsTrue}
use Rattle.qp_model.specs.declared.record.Rec.{Rec}
use Rattle.qp_model.specs.declared.bodies.Entry.{Entry}
use Rattle.qp_model.specs.declared.bodies.Body.TheVariants.{Post, Lifo, Took}
use Rattle.qp_model.specs.declared.systems.System.{System}
use Rattle.qp_model.specs.Record.{item_of}
use Rattle.qp_model.specs.Sites.{ring_of}
use Rattle.qp_model.specs.WordLaw.{is_object}
use Rattle.qp_table.specs.Counting.{many}
use Rattle.qp_table.specs.Rule.{queue_at, cell_at, mark_in, code, Codable, is_place, on_queue, is_serve}
use Rattle.qp_table.specs.After.{FromAnyState, HoldsWith, HasRoom, InHand, claimed, laid, emptied, view_took, put_first}

-- the counts that a queue's word shows
abbrev pub f_in : ℕ → ℕ
f_in w = w % 2097152

abbrev pub l_in : ℕ → ℕ
l_in w = w / 2097152 % 2097152

abbrev pub m_in : ℕ → ℕ
m_in w = w / 4398046511104

-- the word of queue a, and how many cells it has
abbrev pub queue_word : List ℕ → ℕ → ℕ
queue_word words a = slice_index words (queue_at a)

abbrev pub cells_of : System → ℕ → ℕ
cells_of sys a = ring_of sys a + 1

-- the cell of the front entry, and the one before it
abbrev pub front_cell : System → ℕ → ℕ → ℕ → ℕ
front_cell sys a l m = (m + (cells_of sys a - 1) * l) % cells_of sys a

abbrev pub cell_before : System → ℕ → ℕ → ℕ → ℕ
cell_before sys a l m = (m + (cells_of sys a - 1) * l + (cells_of sys a - 1)) % cells_of sys a

-- an entry is claimed for the cell behind the last, where one is free
abbrev pub ClaimsKeepTheRule : Type 0
ClaimsKeepTheRule = FromAnyState
    (λ sys words views holds id v. (o a : ℕ) (e : Entry) (r : Rec) → HasRoom v → IsTrue (is_object sys a) → InHand sys e v → f_in (queue_word words a) + l_in (queue_word words a) < m_in (queue_word words a) + cells_of sys a
    → item_of r ≡ record { of = o; body = Post a (f_in (queue_word words a) + 1) (l_in (queue_word words a)) (m_in (queue_word words a)) e }
    → HoldsWith sys words (queue_at a) (queue_word words a + 1) views id (claimed v a (queue_word words a + 1) r (f_in (queue_word words a) % cells_of sys a) e (mark_in (queue_at a) (queue_word words a + 1))))

-- a claim is laid
abbrev pub LaysKeepTheRule : Type 0
LaysKeepTheRule = FromAnyState (λ sys words views holds id v. (a j : ℕ) (e : Entry) → IsTrue (is_object sys a) → j < cells_of sys a → 0 < many (is_place a j e) v.claims → HoldsWith sys words (cell_at a j) (code e) views id (laid v a j e))

-- the home lane empties the front cell, in which an entry is laid
abbrev pub EmptiesKeepTheRule : Type 0
EmptiesKeepTheRule = FromAnyState
    (λ sys words views holds id v. (a j : ℕ) → IsTrue (is_object sys a) → 0 < length v.logs → j ≡ front_cell sys a (holds.now.line a).l (holds.now.line a).m → slice_index words (cell_at a j) ≢ 0 → 0 < many (is_serve a) v.serves → many (on_queue a) v.takes ≡ 0
    → (e : Entry) × Codable sys e × (slice_index words (cell_at a j) ≡ code e) × HoldsWith sys words (cell_at a j) 0 views id (emptied v a j e))

-- the home lane frees the entry of its take
abbrev pub FreesKeepTheRule : Type 0
FreesKeepTheRule = FromAnyState
    (λ sys words views holds id v. (a j : ℕ) (e : Entry) (r : Rec) → HasRoom v → IsTrue (is_object sys a) → 0 < many (is_place a j e) v.takes → 0 < many (is_serve a) v.serves
    → item_of r ≡ record { of = a; body = Took (f_in (queue_word words a)) (l_in (queue_word words a)) (m_in (queue_word words a) + 1) e }
    → HoldsWith sys words (queue_at a) (queue_word words a + 4398046511104) views id (view_took v a (queue_word words a + 4398046511104) r j e))

-- the home lane claims the cell before the front, where an entry is free and no take of it is under way
abbrev pub LastInClaimsKeepTheRule : Type 0
LastInClaimsKeepTheRule = FromAnyState
    (λ sys words views holds id v. (a j : ℕ) (e : Entry) (r : Rec) → HasRoom v → IsTrue (is_object sys a) → j ≡ cell_before sys a (holds.now.line a).l (holds.now.line a).m → InHand sys e v
    → f_in (queue_word words a) + l_in (queue_word words a) < m_in (queue_word words a) + cells_of sys a → 0 < many (is_serve a) v.serves → many (on_queue a) v.takes ≡ 0
    → item_of r ≡ record { of = a; body = Lifo (f_in (queue_word words a)) (l_in (queue_word words a) + 1) (m_in (queue_word words a)) e }
    → HoldsWith sys words (queue_at a) (queue_word words a + 2097152) views id (put_first v a (queue_word words a + 2097152) r j e (mark_in (queue_at a) (queue_word words a + 2097152))))
