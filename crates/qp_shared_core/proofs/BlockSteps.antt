-- The steps on blocks are the core's.
use Rattle.std.proofs.Common.{◌≡◌, ℕ, ◌+◌, ◌/◌, ◌%◌, ◌^◌, ◌<◌, ◌≤◌, ◌==◌, ◌&&◌, ◌||◌, nat_lt, nat_le, List, [], ◌∷◌, ◌++◌, Bool, true, false, not, cond, length, set, get_or, refl, sym, ap, ◌∙◌, arith, eqb, eq-eqb, eqb-true, mod-eq_of_lt, IsTrue, None}
use Rattle.std.specs.List.{list_any}
use Rattle.std.proofs.lemmas.Bool.{and_from, and_parts, or_left, or_right}
use mathlib.Core.Option.{some}
use lib.ListN.{get_elem?}
use lib.Seq.{set-get_or}
use Rattle.qp_model.specs.declared.record.Rec.{Rec}
use Rattle.qp_model.specs.declared.systems.System.{System}
use Rattle.qp_model.specs.declared.bodies.Entry.{Entry}
use Rattle.qp_model.specs.declared.bodies.Body.TheVariants.{Back}
use Rattle.qp_model.specs.declared.words.Word.TheVariants as word
use Rattle.qp_model.specs.WordLaw.{is_block}
use Rattle.qp_table.specs.Counting.{many, without}
use Rattle.qp_table.specs.Rule.{pool_at, block_at, event_word_at, is_ref, is_spot, is_spot_at, fills_with, fills_of, gives_of, Holds}
use Rattle.qp_table.specs.After.{HasRoom, rec_of, spot, ref}
use Rattle.qp_table.specs.declared.view.PendingGive.{PendingGive}
use Rattle.qp_table.specs.declared.view.Glance.{Glance}
use Rattle.qp_table.specs.declared.view.Spot.{Spot}
use Rattle.qp_table.specs.declared.view.View.{View}
use Rattle.qp_table.proofs.Counting.{total-at}
use Rattle.qp_table.proofs.Tokens.{fresh-alone, used-alone, standing, held-stands}
use Rattle.qp_table.proofs.Steps.{inc-says, dec-says, back-says, block-below, x-count, y-is}
use Rattle.qp_table.specs.Asked.{is_begun, is_asked, size_of as room_of, is_unfinished}
use Rattle.qp_table.specs.Told.{DropTold, FirstTold, MoreTold, BackTold, FromTold, FillTold, ReadTold}
use Rattle.qp_core_steps.specs.Seats.{seat_may_act, may_add, glance, noting}
use Rattle.qp_core_steps.specs.Blocks.{added, number_of_word, bit_of, block_size, has_left, asks_for, is_ref_to, is_give_over, has_ready, with_ref, without_ref}
use Rattle.qp_core_steps.specs.declared.seats.Seat.{Seat}
use Rattle.qp_core_steps.specs.declared.ops.Op.TheVariants as op
use Rattle.qp_shared_core.specs.CoreStep.{seat_of, IsCoreStep}
use Rattle.qp_shared_core.proofs.Seating.{lt-of, le-of, many-any, none-any, any-then, if-list, same-number, size-is, acts, adds}

-- a reference to the block is in hand, by whatever name
ref-to : (p b k : ℕ) (hands : List Entry) → 0 < many (is_ref p b k) hands → list_any (is_ref_to p b) hands ≡ true
ref-to p b k hands mine = any-then (is_ref p b k) (is_ref_to p b) (λ e h. (and_parts (is_ref_to p b e) (eqb e.name k) h).0) hands (many-any (is_ref p b k) hands mine)

named : (p b : ℕ) (hands : List Entry) → list_any (is_ref_to p b) hands ≡ true → (k : ℕ) × (0 < many (is_ref p b k) hands)
named p b [] e = absurd (cc)
named p b (y ∷ ys) e = go (is_ref_to p b y) refl e (named p b ys)
  where
    go : (t : Bool) → is_ref_to p b y ≡ t → (t || list_any (is_ref_to p b) ys) ≡ true → (list_any (is_ref_to p b) ys ≡ true → (k : ℕ) × (0 < many (is_ref p b k) ys)) → (k : ℕ) × (0 < many (is_ref p b k) (y ∷ ys))
    go true here h rest = (y.name, let one : cond {A = ℕ} (is_ref p b y.name y) 1 0 ≡ 1 = (λ i. cond {A = ℕ} (here i && eq-eqb y.name y.name refl i) 1 0) in omega arith)
    go false here h rest = let r = rest h in let r1 = r.1 in (r.0, omega arith)

with-more : (x : Seat) (r : Rec) (g : Glance) (p b k : ℕ) → list_any (is_ref_to p b) x.hands ≡ true → with_ref x r g p b k ≡ record (noting r g x) { hands = x.hands ++ ref p b k ∷ [] }
with-more x r g p b k here = rw here refl

with-first : (x : Seat) (r : Rec) (g : Glance) (p b k : ℕ) → list_any (is_ref_to p b) x.hands ≡ false → with_ref x r g p b k ≡ record (noting r g x) { fresh = without (is_spot p b) x.fresh; gives = without (gives_of p b) x.gives; hands = x.hands ++ ref p b k ∷ [] }
with-first x r g p b k here = rw here refl

module _ (sys : System) (words : List ℕ) (views : List View) (holds : Holds sys words views) (id : ℕ) (v : View) (at : get_elem? views id ≡ some v) (o : ℕ) where
  abbrev x : Seat
  x = seat_of o v

  pub drop-is : HasRoom v → (p b k : ℕ) → 0 < many (is_ref p b k) v.hands → (u : View) → DropTold sys o p b k v (get_or words (block_at p b) 0) u
      → IsCoreStep sys o (op.Drop p b k) words v (set words (block_at p b) ((get_or words (block_at p b) 0 + 4294967295) % 18446744073709551616)) u
  drop-is room p b k mine u told =
      let n : ℕ = get_or words (block_at p b) 0 in
      let block : IsTrue (is_block sys p b) = told.1.saw.here in
      let r : Rec = rec_of 18 o (p ∷ b ∷ (n / 4294967296) ∷ k ∷ []) in
      let below = block-below sys words views holds id v at room o p b block in
      let m : n + 4294967295 ≡ added n 4294967295 = sym (mod-eq_of_lt (omega arith)) in
      record {
        may = and_from (may_add 49 x && is_block sys p b) (list_any (is_ref p b k) v.hands) (and_from (may_add 49 x) (is_block sys p b) (adds sys words views holds id v at o room) block) (many-any (is_ref p b k) v.hands mine);
        goes = (
          r,
          dec-says o p b (n / 4294967296) k,
          refl,
          ap (seat_of o) told.0
              ∙ ((λ i. record (without_ref x (n + 4294967295) r p b k) { number = same-number r v.logs i; used = if-list (eqb ((n + 4294967295) % 4294967296) 0) v.used (spot p b ((n + 4294967295) / 4294967296)) i })
              ∙ (λ i. without_ref x (m i) r p b k)),
        );
      }

  none-named : (p b : ℕ) → 0 < many (is_spot p b) v.fresh → list_any (is_ref_to p b) v.hands ≡ false
  none-named p b mine = go (list_any (is_ref_to p b) v.hands) refl
    where
      alone : IsTrue (is_block sys p b)
      alone = (fresh-alone sys views holds.now id v at holds.tokens p b mine).0

      go : (t : Bool) → list_any (is_ref_to p b) v.hands ≡ t → t ≡ false
      go false e = refl
      go true e =
          let k = named p b v.hands e in
          let s = standing sys views holds.now id v at holds.tokens p b k.0 (held-stands sys views holds.now id v at holds.tokens p b k.0 (holds.fitting.pools p b alone).0 k.1) in
          let f = total-at (λ (z : View). many (is_spot p b) z.fresh) views id v at in let s3 = s.3 in absurd (omega arith)

  -- a give that was read is finished, where no word is left
  done : (p b : ℕ) → many (fills_of p b) v.fills ≡ 0 → 0 < many (is_begun p b) v.gives → list_any (is_give_over v.fills p b) v.gives ≡ true
  done p b written begun = any-then (is_begun p b) (is_give_over v.fills p b) finished v.gives (many-any (is_begun p b) v.gives begun)
    where
      finished : (g : PendingGive) → is_begun p b g ≡ true → is_give_over v.fills p b g ≡ true
      finished g h =
          let a = and_parts (gives_of p b g) g.read h in let c = and_parts (eqb g.pool p) (eqb g.block b) a.0 in
          let left : has_left v.fills g ≡ false = (λ i. list_any (fills_of (eqb-true g.pool p c.0 i) (eqb-true g.block b c.1 i)) v.fills) ∙ none-any (fills_of p b) v.fills written in
          and_from (gives_of p b g) (not (is_unfinished v.fills g)) a.0 (λ i. not (not (a.1 i) || left i))

  pub first-is : HasRoom v → (p b : ℕ) → 0 < many (is_spot p b) v.fresh → 0 < many (is_begun p b) v.gives → many (fills_of p b) v.fills ≡ 0 → (u : View) → FirstTold sys o p b v (get_or words (block_at p b) 0) u
      → IsCoreStep sys o (op.Make p b) words v (set words (block_at p b) ((get_or words (block_at p b) 0 + 4294967297) % 18446744073709551616)) u
  first-is room p b mine begun written u told =
      let n : ℕ = get_or words (block_at p b) 0 in
      let block : IsTrue (is_block sys p b) = told.2.saw.here in
      let r : Rec = rec_of 17 o (p ∷ b ∷ (n / 4294967296) ∷ []) in
      let below = block-below sys words views holds id v at room o p b block in
      let m : n + 4294967297 ≡ added n 4294967297 = sym (mod-eq_of_lt (omega arith)) in
      record {
        may = and_from (may_add 49 x && is_block sys p b) (list_any (is_ref_to p b) v.hands || has_ready x p b) (and_from (may_add 49 x) (is_block sys p b) (adds sys words views holds id v at o room) block)
            (or_right (list_any (is_ref_to p b) v.hands) (has_ready x p b) (and_from (list_any (is_spot p b) v.fresh) (list_any (is_give_over v.fills p b) v.gives) (many-any (is_spot p b) v.fresh mine) (done p b written begun)));
        goes = (
          r,
          inc-says o p b (n / 4294967296),
          refl,
          ap (seat_of o) told.1
              ∙ ((λ i. record (noting r (glance (block_at p b) (m i)) x) { number = same-number r v.logs i; fresh = without (is_spot p b) v.fresh; gives = without (gives_of p b) v.gives; hands = v.hands ++ ref p b (n / 4294967296) ∷ [] })
              ∙ sym (with-first x r (glance (block_at p b) (added n 4294967297)) p b (n / 4294967296) (none-named p b mine))),
        );
      }

  pub more-is : HasRoom v → (p b k : ℕ) → 0 < many (is_ref p b k) v.hands → (u : View) → MoreTold sys o p b v (get_or words (block_at p b) 0) u
      → IsCoreStep sys o (op.Make p b) words v (set words (block_at p b) ((get_or words (block_at p b) 0 + 4294967297) % 18446744073709551616)) u
  more-is room p b k mine u told =
      let n : ℕ = get_or words (block_at p b) 0 in
      let block : IsTrue (is_block sys p b) = told.2.saw.here in
      let r : Rec = rec_of 17 o (p ∷ b ∷ (n / 4294967296) ∷ []) in
      let here = ref-to p b k v.hands mine in
      let below = block-below sys words views holds id v at room o p b block in
      let m : n + 4294967297 ≡ added n 4294967297 = sym (mod-eq_of_lt (omega arith)) in
      record {
        may = and_from (may_add 49 x && is_block sys p b) (list_any (is_ref_to p b) v.hands || has_ready x p b) (and_from (may_add 49 x) (is_block sys p b) (adds sys words views holds id v at o room) block)
            (or_left (list_any (is_ref_to p b) v.hands) (has_ready x p b) here);
        goes = (
          r,
          inc-says o p b (n / 4294967296),
          refl,
          ap (seat_of o) told.1
              ∙ ((λ i. record (noting r (glance (block_at p b) (m i)) x) { number = same-number r v.logs i; hands = v.hands ++ ref p b (n / 4294967296) ∷ [] })
              ∙ sym (with-more x r (glance (block_at p b) (added n 4294967297)) p b (n / 4294967296) here)),
        );
      }

  pub back-is : HasRoom v → (p b m k : ℕ) → k ≡ 4294967296 + 2 ^ b → k < 9000000000 → 0 < many (is_spot_at p b m) v.used → (u : View) → BackTold sys o p b m k v (get_or words (pool_at p) 0) u
      → IsCoreStep sys o (op.Back p b) words v (set words (pool_at p) ((get_or words (pool_at p) 0 + k) % 18446744073709551616)) u
  back-is room p b m k is small mine u told =
      let n : ℕ = get_or words (pool_at p) 0 in
      let some_used = many-any (is_spot p b) v.used (many-fewer v.used mine) in
      let alone = used-alone sys views holds.now id v at holds.tokens p b (many-fewer v.used mine) in
      let block : IsTrue (is_block sys p b) = alone.0 in
      let r : Rec = rec_of 19 o (p ∷ (n / 4294967296) ∷ b ∷ m ∷ []) in
      let t = total-at (λ (y : View). many (is_spot_at p b m) y.used) views id v at in
      let worn = holds.tokens.worn p b m (omega arith) in
      let y = y-is sys words views holds id v at room o p b block in let y0 = y.0 in let y1 = y.1 in let y2 = y.2 in
      let place = holds.fitting.pools p b block in
      let bit : bit_of b ≡ 2 ^ b = bit-is b place.2 in
      let k_is : k ≡ 4294967296 + bit_of b = is ∙ ap (λ z. 4294967296 + z) (sym bit) in
      let wraps : n + k ≡ added n (4294967296 + bit_of b) = sym (mod-eq_of_lt (omega arith)) ∙ ap (added n) k_is in
      let to : m ≡ number_of_word (get_or words (block_at p b) 0) = sym worn.1 ∙ sym (x-count sys words views holds id v at room o p b block) in
      record {
        may = and_from (may_add 49 x && is_block sys p b) (list_any (is_spot p b) v.used) (and_from (may_add 49 x) (is_block sys p b) (adds sys words views holds id v at o room) block) some_used;
        goes = (
          r,
          back-says o p (n / 4294967296) b m ∙ (λ i. record { of = o; body = Back p (n / 4294967296) b (to i) }),
          ap (λ z. set words (pool_at p) (added n z)) k_is,
          ap (seat_of o) told.0 ∙ (λ i. record (noting r (glance (pool_at p) (wraps i)) x) { number = same-number r v.logs i; used = without (is_spot p b) v.used }),
        );
      }
    where
      many-fewer : (xs : List Spot) → 0 < many (is_spot_at p b m) xs → 0 < many (is_spot p b) xs
      many-fewer [] h = absurd (omega arith)
      many-fewer (s ∷ ss) h = go (is_spot p b s) (eqb s.at m) h (many-fewer ss)
        where
          go : (c d : Bool) → 0 < cond {A = ℕ} (c && d) 1 0 + many (is_spot_at p b m) ss → (0 < many (is_spot_at p b m) ss → 0 < many (is_spot p b) ss) → 0 < cond {A = ℕ} c 1 0 + many (is_spot p b) ss
          go true d h rest = omega arith
          go false d h rest = let r = rest (omega arith) in omega arith

      bit-is : (b : ℕ) → b < 32 → bit_of b ≡ 2 ^ b
      bit-is b l = let t = lt-of b 64 (omega arith) in rw t refl

  pub beginning-is : (p b m : ℕ) → (u : View) → FromTold sys p b m v (get_or words (block_at p b) 0) u
      → IsCoreStep sys o (op.Look (word.Block p b) None) words v (set words (block_at p b) (get_or words (block_at p b) 0)) u
  beginning-is p b m u told = record {
    may = and_from (is_block sys p b) true told.1.saw.here refl;
    goes = (set-get_or words (block_at p b) 0, ap (seat_of o) told.0);
  }

  pub fill-is : (p b j n : ℕ) → 0 < many (fills_with p b j n) v.fills → IsTrue (list_any (is_asked p b j n) v.gives) → (u : View) → FillTold p b j n v (get_or words (event_word_at p b j) 0) u
      → IsCoreStep sys o (op.Fill p b j n) words v (set words (event_word_at p b j) n) u
  fill-is p b j n left asked u told = record {
    may = and_from (seat_may_act 49 x) (list_any (asks_for v.fills p b j n) v.gives) (acts sys words views holds id v at o) (any-then (is_asked p b j n) (asks_for v.fills p b j n) asks v.gives asked);
    goes = (refl, ap (seat_of o) told);
  }
    where
      filling : list_any (fills_of p b) v.fills ≡ true
      filling = any-then (fills_with p b j n) (fills_of p b) (λ f h. (and_parts (fills_of p b f) (eqb f.place j) (and_parts (fills_of p b f && eqb f.place j) (eqb f.value n) h).0).0) v.fills (many-any (fills_with p b j n) v.fills left)

      asks : (g : PendingGive) → is_asked p b j n g ≡ true → asks_for v.fills p b j n g ≡ true
      asks g h =
          let a = and_parts (gives_of p b g && nat_lt j (length g.event)) (get_or g.event j 0 == n) h in let c = and_parts (gives_of p b g) (nat_lt j (length g.event)) a.0 in
          let d = and_parts (eqb g.pool p) (eqb g.block b) c.0 in
          let there : has_left v.fills g ≡ true = (λ i. list_any (fills_of (eqb-true g.pool p d.0 i) (eqb-true g.block b d.1 i)) v.fills) ∙ filling in
          and_from ((gives_of p b g && is_unfinished v.fills g) && nat_lt j (length g.event)) (get_or g.event j 0 == n)
          (and_from (gives_of p b g && is_unfinished v.fills g) (nat_lt j (length g.event)) (and_from (gives_of p b g) (is_unfinished v.fills g) c.0 (or_right (not g.read) (has_left v.fills g) there)) c.1) a.1

  pub read-is : (p b k j : ℕ) → 0 < p → 0 < many (is_ref p b k) v.hands → j ≤ room_of sys p → (u : View) → ReadTold sys p b k j v (get_or words (event_word_at p b j) 0) u
      → IsCoreStep sys o (op.Read p b j) words v (set words (event_word_at p b j) (get_or words (event_word_at p b j) 0)) u
  read-is p b k j pos mine inside u told =
      let stands = standing sys views holds.now id v at holds.tokens p b k (held-stands sys views holds.now id v at holds.tokens p b k pos mine) in
      let size = size-is sys p in
      record {
        may = and_from (is_block sys p b && list_any (is_ref_to p b) v.hands) (nat_le j (block_size sys p)) (and_from (is_block sys p b) (list_any (is_ref_to p b) v.hands) stands.0 (ref-to p b k v.hands mine)) (le-of j (block_size sys p) (omega arith));
        goes = (set-get_or words (event_word_at p b j) 0, ap (seat_of o) told.0);
      }
