-- Entries whose references are dropped, and entries that get another reference.
use Rattle.std.proofs.Common.{◌≡◌, ℕ, zero, suc, ◌+◌, ◌<◌, true, List, [], ◌∷◌, refl, sym, ◌∙◌, subst, arith, add-one, IsTrue, inl, inr}
use Rattle.qp_model.specs.declared.words.Word.TheVariants as word
use Rattle.qp_model.specs.declared.bodies.Body.TheVariants.{Back, Inc}
use Rattle.qp_model.specs.Record.{entry}
use Rattle.qp_model.specs.Told.{Told, plain, dropped}
use Rattle.qp_model.specs.Shapes.{Drops, Releases, MakesAgain}
use Rattle.qp_calls.specs.declared.tokens.Fresh.{Fresh}
use Rattle.qp_calls.specs.declared.tokens.HeldEntry.TheVariants as token
use Rattle.qp_calls.specs.Tokens.{Hold, Token, Held, Loose, take_out, stands, with_entry, without_entry, hands_after, hands_by}
use Rattle.qp_calls.specs.LaneView.{LaneView, Grows, AddsTold, mark_after, mark_by}
use Rattle.qp_calls.specs.Clauses.{DropsOne, GoesBack, MakesMore, EntryStands, entry_of}
use Rattle.qp_calls.specs.Entries.{Release, Again}
use Rattle.qp_calls.proofs.HandLemmas.{loose-first, held-first, same-self}
use Rattle.qp_calls.proofs.Growing.{grows-then, gains-none}
use Rattle.qp_model.proofs.LineLemmas.{same_number}
use Rattle.qp_model.proofs.NumberLemmas.{not-zero}

-- a token in front is the first of its kind
pub take_out-first : (t : Token) (hands : List Token) → take_out t (t ∷ hands) ≡ hands
unfolding take_out
take_out-first t hands = rw (same-self t) refl

pub without-pool : (p b r : ℕ) (hands : List Token) → 0 < p → without_entry (entry p b r) hands ≡ take_out (Held p b r) hands
without-pool p b r hands some = rw (not-zero p some) refl

pub with-pool : (p b r : ℕ) (hands : List Token) → 0 < p → with_entry (entry p b r) hands ≡ Held p b r ∷ hands
with-pool p b r hands some = rw (not-zero p some) refl

drops : (p b r : ℕ) (g : List Told) → 0 < p → Releases p b r g → Drops (entry p b r) g
unfolding Drops
drops zero b r g h rel = absurd (omega arith)
drops (suc p) b r g h rel = rel

pub release-kept : (h : Hold) (others : ℕ) (a v : LaneView) → 0 < h.pool → DropsOne h (suc others) a v → Release (entry h.pool h.block h.name) a v
unfolding hands_after hands_by
release-kept h others a v some one = record {
  released = record {
    g = dropped h.pool h.block one.number h.name (suc others) ∷ [];
    grows = one.adds.grows;
    drops = drops h.pool h.block h.name _ some (inl (one.number, others, refl));
    hands = one.adds.grows.hands ∙ sym (without-pool h.pool h.block h.name a.hands some);
  };
  spare = omega (arith, one.adds.spare);
}

-- the mark of the block after its last reference was dropped
block_mark : (p b d k : ℕ) (a v : LaneView) → Grows (dropped p b d k 0 ∷ []) a v → v.mark (word.Block p b) ≡ suc d
unfolding mark_after mark_by
block_mark p b d k a v grown = grown.mark (word.Block p b) ∙ rw (same_number p, same_number b) refl

-- the hands without the reference, and the block in front
last_hands : (p b d k : ℕ) (a v : LaneView) → Grows (dropped p b d k 0 ∷ []) a v → v.hands ≡ Loose p b true ∷ take_out (Held p b k) a.hands
unfolding hands_after hands_by
last_hands p b d k a v grown = grown.hands

back_hands : (p n b to : ℕ) (v w : LaneView) → Grows (plain (Back p n b to) ∷ []) v w → w.hands ≡ take_out (Loose p b true) v.hands
unfolding hands_after hands_by
back_hands p n b to v w grown = grown.hands

-- the block stands in the hands
pub last-stands : (h : Hold) (f : Fresh) (a v : LaneView) → 0 < h.pool → DropsOne h 0 a v → f.pool ≡ h.pool → f.block ≡ h.block → f.used ≡ true
    → (0 < f.pool) × IsTrue (stands (Loose f.pool f.block f.used) v.hands)
last-stands h f a v some one pool block used =
    (rw pool some, rw (pool, block, used, last_hands h.pool h.block one.number h.name a v one.adds.grows) (loose-first h.pool h.block true _))

pub release-last : (h : Hold) (f : Fresh) (a v w : LaneView) → 0 < h.pool → DropsOne h 0 a v → f.pool ≡ h.pool → f.block ≡ h.block → GoesBack f v w
    → Release (entry h.pool h.block h.name) a w
release-last h f a v w some one pool block back =
    let p = h.pool in
    let b = h.block in
    let d = one.number in
    let to_pool : AddsTold (plain (Back p back.number f.block (v.mark (word.Block p f.block))) ∷ []) v w =
    subst (λ x. AddsTold (plain (Back x back.number f.block (v.mark (word.Block x f.block))) ∷ []) v w) pool back.adds in
    let moved : AddsTold (plain (Back p back.number b (v.mark (word.Block p b))) ∷ []) v w =
    subst (λ x. AddsTold (plain (Back p back.number x (v.mark (word.Block p x))) ∷ []) v w) block to_pool in
    let at : v.mark (word.Block p b) ≡ d + 1 = block_mark p b d h.name a v one.adds.grows ∙ sym (add-one d) in
    let last : Grows (plain (Back p back.number b (d + 1)) ∷ []) v w =
    subst (λ t. Grows (plain (Back p back.number b t) ∷ []) v w) at moved.grows in
    let first : Grows (dropped p b d h.name 0 ∷ []) a v = one.adds.grows in
    let hands : w.hands ≡ take_out (Held p b h.name) a.hands =
    back_hands p back.number b (d + 1) v w last ∙ rw (last_hands p b d h.name a v first) (take_out-first (Loose p b true) (take_out (Held p b h.name) a.hands)) in
    record {
      released = record {
        g = dropped p b d h.name 0 ∷ plain (Back p back.number b (d + 1)) ∷ [];
        grows = grows-then (dropped p b d h.name 0 ∷ []) (plain (Back p back.number b (d + 1)) ∷ []) a v w first last;
        drops = drops p b h.name _ some (inr (d, back.number, refl));
        hands = hands ∙ sym (without-pool p b h.name a.hands some);
      };
      spare = omega (arith, one.adds.spare, moved.spare);
    }

pub release-static : (sig : ℕ) (a : LaneView) → Release (entry 0 sig 0) a a
unfolding Drops
release-static sig a = record { released = record { g = []; grows = gains-none a; drops = refl; hands = refl }; spare = omega arith }

-- Another entry of the same event.

pub again-static : (sig : ℕ) (a : LaneView) → EntryStands (token.Static sig) a → Again (entry 0 sig 0) (token.Static sig) a a
unfolding MakesAgain entry_of
again-static sig a fixed = record {
  head = [];
  grows = gains-none a;
  again = (refl, refl);
  stands = fixed;
  hands = refl;
  spare = omega arith;
}

again_made : (p b r k : ℕ) → 0 < p → MakesAgain (entry p b k) (plain (Inc p b r) ∷ []) (entry p b r)
unfolding MakesAgain
again_made zero b r k h = absurd (omega arith)
again_made (suc p) b r k h = (r, refl, refl)

pub again-pool : (h made : Hold) (a v : LaneView) → 0 < h.pool → MakesMore h a v made → Again (entry h.pool h.block h.name) (token.Pool made) a v
unfolding entry_of
again-pool h made a v some more =
    let pool : made.pool ≡ h.pool = more.makes.its_pool in
    let block : made.block ≡ h.block = more.makes.its_block in
    record {
      head = plain (Inc h.pool h.block made.name) ∷ [];
      grows = more.makes.adds.grows;
      again = rw (pool, block) (again_made h.pool h.block made.name h.name some);
      stands = (rw pool some, rw (pool, block, more.hands) (held-first h.pool h.block made.name a.hands));
      hands = rw (pool, block) (more.hands ∙ sym (with-pool h.pool h.block made.name a.hands some));
      spare = omega (arith, more.makes.adds.spare);
    }
