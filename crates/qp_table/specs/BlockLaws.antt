-- Each kind of step on a pool or a block keeps the rule of the event table, from any state that meets it.
use Rattle.std.specs.Prelude.{◌≡◌, ℕ, ◌+◌, ◌/◌, ◌^◌, ◌<◌, ◌≤◌, List, ◌∷◌, length, slice_index, IsTrue}
use Rattle.qp_model.specs.declared.record.Rec.{Rec}
use Rattle.qp_model.specs.declared.bodies.Body.TheVariants.{New, Inc, Dec, Back}
use Rattle.qp_model.specs.Record.{item_of}
use Rattle.qp_model.specs.Lists.{is_first}
use Rattle.qp_model.specs.WordLaw.{is_block}
use Rattle.qp_table.specs.Counting.{many}
use Rattle.qp_table.specs.Rule.{pool_at, block_at, event_word_at, is_spot, is_ref, fills_of, IsContent}
use Rattle.qp_table.specs.After.{FromAnyState, HoldsWith, HasRoom, began, doubled, reference_dropped, gave, filled, put_back}

-- the lowest free block is given out for an event of the system; its words are still to be written
abbrev pub GivesKeepTheRule : Type 0
GivesKeepTheRule = FromAnyState
    (λ sys words views holds id v. (o p b n sig : ℕ) (pars : List ℕ) (r : Rec) → HasRoom v → IsTrue (is_block sys p b) → IsTrue (is_first b (holds.now.pool p).free)
    → item_of r ≡ record { of = o; body = New p (slice_index words (pool_at p) / 4294967296) b (holds.now.refs p b).count sig pars } → IsContent sys sig pars → length pars ≤ 8
    → n + 2 ^ b ≡ slice_index words (pool_at p) + 4294967296 → HoldsWith sys words (pool_at p) n views id (gave v (pool_at p) n r p b (holds.now.refs p b).count (sig ∷ pars)))

-- a word of the give under way is written, the first time or again
abbrev pub FillsKeepTheRule : Type 0
FillsKeepTheRule = FromAnyState
    (λ sys words views holds id v. (p b j : ℕ) (event : List ℕ) → IsTrue (is_block sys p b) → 0 < many (is_spot p b) v.fresh → event ≡ holds.now.content p b → j < length event
    → HoldsWith sys words (event_word_at p b j) (slice_index event j) views id (filled v p b j (slice_index event j)))

-- the first reference to a fresh block whose words are all written
abbrev pub FirstReferencesKeepTheRule : Type 0
FirstReferencesKeepTheRule = FromAnyState
    (λ sys words views holds id v. (o p b : ℕ) (r : Rec) → HasRoom v → IsTrue (is_block sys p b) → item_of r ≡ record { of = o; body = Inc p b (slice_index words (block_at p b) / 4294967296) }
    → 0 < many (is_spot p b) v.fresh → many (fills_of p b) v.fills ≡ 0
    → HoldsWith sys words (block_at p b) (slice_index words (block_at p b) + 4294967297) views id (began v (block_at p b) (slice_index words (block_at p b) + 4294967297) r p b (slice_index words (block_at p b) / 4294967296)))

-- another reference, by who holds one
abbrev pub ReferencesKeepTheRule : Type 0
ReferencesKeepTheRule = FromAnyState
    (λ sys words views holds id v. (o p b k : ℕ) (r : Rec) → HasRoom v → IsTrue (is_block sys p b) → item_of r ≡ record { of = o; body = Inc p b (slice_index words (block_at p b) / 4294967296) } → 0 < many (is_ref p b k) v.hands
    → HoldsWith sys words (block_at p b) (slice_index words (block_at p b) + 4294967297) views id (doubled v (block_at p b) (slice_index words (block_at p b) + 4294967297) r p b (slice_index words (block_at p b) / 4294967296)))

-- a reference in hand is dropped; the block is used where none is left
abbrev pub DropsKeepTheRule : Type 0
DropsKeepTheRule = FromAnyState
    (λ sys words views holds id v. (o p b k : ℕ) (r : Rec) → HasRoom v → IsTrue (is_block sys p b) → item_of r ≡ record { of = o; body = Dec p b (slice_index words (block_at p b) / 4294967296) k } → 0 < many (is_ref p b k) v.hands
    → HoldsWith sys words (block_at p b) (slice_index words (block_at p b) + 4294967295) views id (reference_dropped v (block_at p b) (slice_index words (block_at p b) + 4294967295) r p b k))

-- a used block comes back
abbrev pub BacksKeepTheRule : Type 0
BacksKeepTheRule = FromAnyState
    (λ sys words views holds id v. (o p b n : ℕ) (r : Rec) → HasRoom v → IsTrue (is_block sys p b) → item_of r ≡ record { of = o; body = Back p (slice_index words (pool_at p) / 4294967296) b (holds.now.refs p b).count } → 0 < many (is_spot p b) v.used
    → n ≡ slice_index words (pool_at p) + 4294967296 + 2 ^ b → HoldsWith sys words (pool_at p) n views id (put_back v (pool_at p) n r p b))

-- who holds a reference reads what the block was given last
abbrev pub HoldersReadTheEvent : Type 0
HoldersReadTheEvent = FromAnyState
    (λ sys words views holds id v. (p b k j : ℕ) → IsTrue (is_block sys p b) → 0 < many (is_ref p b k) v.hands → j < length (holds.now.content p b) → slice_index words (event_word_at p b j) ≡ slice_index (holds.now.content p b) j)
