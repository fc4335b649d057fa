-- All words and all tokens at the end.
use Rattle.std.proofs.Common.{◌≡◌, ℕ, zero, suc, ◌+◌, ◌≤◌, ◌==◌, Bool, true, false, not, ◌&&◌, cond, List, [], ◌∷◌, refl, sym, ◌∙◌, ap, arith, eqb, true≢false, IsTrue, if◌then◌else◌}
use Rattle.qp_chart.specs.StateTree.{has}
use Rattle.qp_model.specs.declared.record.Rec.{Rec}
use Rattle.qp_model.specs.declared.bodies.Entry.{Entry}
use Rattle.qp_model.specs.declared.systems.System.{System}
use Rattle.qp_model.specs.History.{touch}
use Rattle.qp_model.specs.References.{Refs}
use Rattle.qp_model.specs.WordLaw.{is_block, is_object}
use Rattle.qp_calls.specs.Tokens.{Token, Held, Loose, same_token}
use Rattle.qp_calls.specs.Counting.{one_if, times, count_of}
use Rattle.qp_plain_sound.specs.WordStates.{life_in, refs_in, line_in}
use Rattle.qp_plain_sound.specs.Sound.{sum_below, is_token_of as is_token, entries_in, queued, BlockIn}
use Rattle.qp_table.specs.Counting.{sum_over, many, upto}
use Rattle.qp_table.specs.TwoTables.{on_table, Thins}
use Rattle.qp_table.specs.Rule.{is_spot, is_spot_at, is_ref, free_bit, lives, spots, in_lines, Holds}
use Rattle.qp_table.specs.declared.view.View.{View}
use Rattle.qp_table.proofs.Counting.{total-at}
use Rattle.qp_table.proofs.Tokens.{at-some}
use Rattle.qp_table.proofs.Hands.{eq-turned}
use Rattle.qp_shared_ends.specs.Lanes.{lanes_recs}
use Rattle.qp_shared_ends.specs.SeatEnd.{AtEnd}
use Rattle.qp_shared_ends.specs.End.{AreHands}
use Rattle.qp_shared_ends.proofs.Histories.{alone, refs-is, line-is, edge-is, free-is}

-- counts
one-cond : (b : Bool) → one_if b ≡ cond b 1 0
one-cond true = refl
one-cond false = refl

pub times-many : {X : Type 0} (p : X → Bool) (xs : List X) → times p xs ≡ many p xs
unfolding times
times-many p [] = refl
times-many p (x ∷ xs) = let o = one-cond (p x) in let r = times-many p xs in omega arith

pub many-alike : {X : Type 0} (p q : X → Bool) → ((x : X) → p x ≡ q x) → (xs : List X) → many p xs ≡ many q xs
many-alike p q h [] = refl
many-alike p q h (x ∷ xs) = let e = ap (λ (b : Bool). cond {A = ℕ} b 1 0) (h x) in let r = many-alike p q h xs in omega arith

sums-alike : (n : ℕ) (f g : ℕ → ℕ) → ((a : ℕ) → f a ≡ g a) → sum_below n f ≡ upto n g
unfolding sum_below
sums-alike zero f g h = refl
sums-alike (suc n) f g h = let r = sums-alike n f g h in let e = h n in omega arith

token-is : (p b k : ℕ) (e : Entry) → is_token (Held p b k) e ≡ is_ref p b k e
token-is p b k e = (λ i. (sym (eq-turned e.pool p) i && sym (eq-turned e.block b) i) && sym (eq-turned e.name k) i)

lives-bare : (xs : List ℕ) → lives xs ≡ 0 → xs ≡ []
lives-bare [] e = refl
lives-bare (x ∷ xs) e = absurd (omega arith)

lives-one : (xs : List ℕ) → lives xs ≤ 1
lives-one [] = omega arith
lives-one (x ∷ xs) = omega arith

one-cases : (t : Bool) → cond {A = ℕ} t 1 0 ≡ 0 → t ≡ false
one-cases true e = absurd (omega arith)
one-cases false e = refl

pub not-out : (x f : Bool) → f ≡ not x → f ≡ false → x ≡ true
not-out true f e n = refl
not-out false f e n = absurd (true≢false (sym e ∙ n))

module _ (sys : System) (v : View) (end : AtEnd sys v) (js : List (List Rec)) (thin : Thins (λ i. on_table (touch i)) js (lanes_recs v.logs)) (hands : List Token) (are : AreHands hands v) where
  abbrev h : Holds sys end.words end.views
  h = end.holds

  held-is : (p b k : ℕ) → count_of (Held p b k) hands ≡ many (is_ref p b k) v.hands
  held-is p b k = times-many (λ x. same_token (Held p b k) x) hands ∙ are.counts (Held p b k)

  fresh-is : (p b : ℕ) → count_of (Loose p b false) hands ≡ many (is_spot p b) v.fresh
  fresh-is p b = times-many (λ x. same_token (Loose p b false) x) hands ∙ are.counts (Loose p b false)

  used-is : (p b : ℕ) → count_of (Loose p b true) hands ≡ many (is_spot p b) v.used
  used-is p b = times-many (λ x. same_token (Loose p b true) x) hands ∙ are.counts (Loose p b true)

  entries-are : (a : ℕ) → entries_in sys js a ≡ (h.now.line a).entries
  unfolding entries_in is_object
  entries-are a = go (is_object sys a) refl
    where
      go : (t : Bool) → is_object sys a ≡ t → (if t then (line_in sys js a).entries else []) ≡ (h.now.line a).entries
      go true e = ap (λ l. l.entries) (line-is sys end.words end.views h end.id v end.is end.all js thin a e)
      go false e = sym ((h.queues.none a e).1)

  pub queued-is : (p b k : ℕ) → queued sys js (Held p b k) ≡ in_lines h.now p b k
  unfolding queued
  queued-is p b k = sums-alike 33 (λ a. times (is_token (Held p b k)) (entries_in sys js a)) (λ a. many (is_ref p b k) (h.now.line a).entries)
      (λ a. times-many (is_token (Held p b k)) (entries_in sys js a) ∙ (many-alike (is_token (Held p b k)) (is_ref p b k) (token-is p b k) (entries_in sys js a) ∙ ap (many (is_ref p b k)) (entries-are a)))

  refs-alone : (p b k : ℕ) → sum_over (λ (z : View). many (is_ref p b k) z.hands) end.views ≡ many (is_ref p b k) v.hands
  refs-alone p b k = alone sys end.words end.views h end.id v end.is end.all (λ z. many (is_ref p b k) z.hands) (λ z i. ap (many (is_ref p b k)) i.hands)

  fresh-alone : (p b : ℕ) → spots (λ z. z.fresh) end.views p b ≡ many (is_spot p b) v.fresh
  fresh-alone p b = alone sys end.words end.views h end.id v end.is end.all (λ z. many (is_spot p b) z.fresh) (λ z i. ap (many (is_spot p b)) i.fresh)

  used-alone : (p b : ℕ) → spots (λ z. z.used) end.views p b ≡ many (is_spot p b) v.used
  used-alone p b = alone sys end.words end.views h end.id v end.is end.all (λ z. many (is_spot p b) z.used) (λ z i. ap (many (is_spot p b)) i.used)

  module _ (p b : ℕ) (block : IsTrue (is_block sys p b)) where
    refs : refs_in js p b ≡ h.now.refs p b
    refs = refs-is sys end.words end.views h end.id v end.is end.all js thin p b block

    edge : (life_in js p b).edge ≡ h.now.edge p b
    edge = edge-is sys end.words end.views h end.id v end.is end.all js thin p b block

    free : has (h.now.pool p).free b ≡ not (life_in js p b).out
    free = free-is sys end.words end.views h end.id v end.is end.all js thin p b block

    -- the block is in one place
    place : free_bit h.now p b + count_of (Loose p b false) hands + count_of (Loose p b true) hands + lives (refs_in js p b).names ≡ 1
    place = let t = h.tokens.place p b in let f = fresh-alone p b in let u = used-alone p b in let a = fresh-is p b in let c = used-is p b in
        let l = ap (λ (r : Refs). lives r.names) refs in let o = ap (λ (t : Bool). cond {A = ℕ} t 1 0) block in omega arith

    taken-out : free_bit h.now p b ≡ 0 → (life_in js p b).out ≡ true
    taken-out e = not-out (life_in js p b).out (has (h.now.pool p).free b) free (one-cases (has (h.now.pool p).free b) e)

    free-out : (life_in js p b).out ≡ false → free_bit h.now p b ≡ 1
    free-out e = ap (λ (t : Bool). cond {A = ℕ} t 1 0) (free ∙ ap not e)

    out-taken : (life_in js p b).out ≡ true → free_bit h.now p b ≡ 0
    out-taken e = ap (λ (t : Bool). cond {A = ℕ} t 1 0) (free ∙ ap not e)

    pub block-in : BlockIn sys js hands p b
    block-in = record {
      owned = λ r. let pos = (h.fitting.pools p b block).0 in let t = h.tokens.hand p b r pos in let a = refs-alone p b r in let d = held-is p b r in let q = queued-is p b r in
          let n = times-many (λ x. x == r) (refs_in js p b).names in let m = ap (λ (s : Refs). many (λ x. eqb x r) s.names) refs in omega arith;
      lone = let z = place in omega arith;
      fresh_is = λ some_there. let z = place in
          let n = at-some p b v.fresh (let f = fresh-is p b in omega arith) in let n1 = n.1 in let begun = h.tokens.begun p b n.0 (let t = total-at (λ (z : View). many (is_spot_at p b n.0) z.fresh) end.views end.id v end.is in omega arith) in
          let c = ap (λ (r : Refs). r.count) refs in (lives-bare (refs_in js p b).names (omega arith), taken-out (omega arith), edge ∙ (begun.0 ∙ (sym begun.1 ∙ sym c)));
      used_is = λ some_there. let z = place in
          let n = at-some p b v.used (let f = used-is p b in omega arith) in let n1 = n.1 in let worn = h.tokens.worn p b n.0 (let t = total-at (λ (z : View). many (is_spot_at p b n.0) z.used) end.views end.id v end.is in omega arith) in
          let c = ap (λ (r : Refs). r.count) refs in let w0 = worn.0 in let w1 = worn.1 in let e = edge in (lives-bare (refs_in js p b).names (omega arith), taken-out (omega arith), omega arith);
      kept = λ out bare. let z = place in let t = out-taken out in let l = ap lives bare in omega arith;
      idle = λ in_pool. let z = place in let t = free-out in_pool in lives-bare (refs_in js p b).names (omega arith);
    }
