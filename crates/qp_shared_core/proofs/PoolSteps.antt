-- Looks at pools and gives are the core's.
use Rattle.std.proofs.Common.{◌≡◌, ◌≢◌, ℕ, ◌+◌, ◌-◌, ◌*◌, ◌/◌, ◌%◌, ◌^◌, ◌<◌, ◌≤◌, ◌==◌, ◌&&◌, nat_lt, nat_le, List, [], ◌∷◌, Bool, true, false, not, cond, length, set, get_or, refl, sym, ap, subst, ◌∙◌, arith, eqb, eq-eqb, ne_eqb, eqb-true, leb, leb-true, mod-eq_of_lt, get_or-set_other, IsTrue, IsFalse, Option, Some, None}
use Rattle.std.specs.Prelude.{count_ones}
use Rattle.std.specs.List.{list_any}
use Rattle.std.specs.Option.{unwrap_or}
use Rattle.std.proofs.lemmas.Bool.{and_from}
use Rattle.std.proofs.lemmas.Nat.{pow_pos}
use prog.Atomic.{either}
use mathlib.Core.Option.{some}
use mathlib.Core.Logic.{dite}
use native.Mathlib.Decide.{ℕ_discrete}
use lib.ListN.{get_elem?}
use lib.Seq.{set-get_or}
use Rattle.qp_base.specs.declared.event.Ev.{Ev}
use Rattle.qp_model.specs.declared.record.Rec.{Rec}
use Rattle.qp_model.specs.declared.systems.System.{System}
use Rattle.qp_model.specs.declared.bodies.Body.{Body}
use Rattle.qp_model.specs.declared.bodies.Body.TheVariants.{New}
use Rattle.qp_model.specs.declared.words.Word.TheVariants as word
use Rattle.qp_model.specs.Lists.{is_first}
use Rattle.qp_model.specs.Sites.{blocks_of}
use Rattle.qp_model.specs.WordLaw.{is_pool, is_block}
use Rattle.qp_table.specs.Counting.{many}
use Rattle.qp_table.specs.Rule.{pool_at, block_at, bits_value, is_spot_at, IsContent, Holds}
use Rattle.qp_model.specs.Parts.{params_of}
use Rattle.qp_table.specs.After.{HasRoom, rec_of, spot, gave, glanced, noted}
use Rattle.qp_table.specs.declared.view.View.{View}
use Rattle.qp_table.proofs.Counting.{total-at, many-snoc}
use Rattle.qp_table.proofs.Bounds.{Ascends, pool-ascends, pool-count, map-small, refs-count}
use Rattle.qp_table.proofs.Steps.{new-says}
use Rattle.qp_table.proofs.Looks.{short-says, no_block-says}
use Rattle.qp_table.specs.Asked.{is_unfinished, size_of as room_of}
use Rattle.qp_table.specs.Told.{EyePoolTold, GiveTold, IsLowest, free_of, shortage_rec}
use Rattle.qp_table.proofs.Found.{get-set}
use Rattle.qp_table.proofs.Maps.{ones-length, give-map}
use Rattle.qp_core_steps.specs.Seats.{may_add, glance, noting}
use Rattle.qp_core_steps.specs.Blocks.{added, number_of_word, low_in, lowest, bit_of, block_size, fits, with_give}
use Rattle.qp_core_steps.specs.declared.seats.Seat.{Seat}
use Rattle.qp_core_steps.proofs.BlockLemmas.{lowest-first}
use Rattle.qp_core_steps.specs.Looks.{ones, states_pool, states}
use Rattle.qp_core_steps.specs.declared.ops.Op.TheVariants as op
use Rattle.qp_core_steps.proofs.LookLemmas.{ones-length as core-ones}
use Rattle.qp_shared_core.specs.CoreStep.{seat_of, IsCoreStep}
use Rattle.qp_shared_core.specs.Ops.{look_with, look_at_pool, give_or_look}
use Rattle.qp_shared_core.proofs.Seating.{lt-of, le-of, same-number, body-is, size-is, adds}

no-bits : (xs : List ℕ) → length xs ≡ 0 → bits_value xs ≡ 0
no-bits [] e = refl
no-bits (x ∷ xs) e = absurd (omega arith)

one-first : (b c : ℕ) (xs : List ℕ) → is_first b xs ≡ true → is_first c xs ≡ true → b ≡ c
one-first b c [] h k = absurd (cc)
one-first b c (y ∷ ys) h k = sym (eqb-true y b h) ∙ eqb-true y c k

bit-is : (b : ℕ) → b < 32 → bit_of b ≡ 2 ^ b
bit-is b l = let t = lt-of b 64 (omega arith) in rw t refl

module _ (sys : System) (words : List ℕ) (views : List View) (holds : Holds sys words views) (id : ℕ) (v : View) (at : get_elem? views id ≡ some v) (o : ℕ) (room : HasRoom v) (p : ℕ) (pool : IsTrue (is_pool sys p)) where
  abbrev x : Seat
  x = seat_of o v

  abbrev n : ℕ
  n = get_or words (pool_at p) 0

  abbrev free : List ℕ
  free = (holds.now.pool p).free

  ascends : Ascends 0 (blocks_of sys p) free
  ascends = pool-ascends sys holds.lanes holds.now holds.leaves holds.logs.count holds.logs.room p pool

  small : (p < 16) × (blocks_of sys p ≤ 32)
  small = holds.fitting.small p pool

  word-is : (n ≡ (holds.now.pool p).count * 4294967296 + bits_value free) × ((holds.now.pool p).count ≤ 49000049) × (bits_value free < 4294967296)
  word-is = (holds.shows.pools p pool, pool-count sys holds.lanes holds.now holds.leaves holds.logs.count holds.logs.room p pool, map-small (blocks_of sys p) free small.1 ascends)

  low-is : n % 4294967296 ≡ bits_value free
  low-is = let w = word-is in let w0 = w.0 in let w2 = w.2 in omega arith

  ones-is : count_ones (n % 4294967296) ≡ ones 32 (n % 4294967296)
  ones-is = ap (λ k. count_ones k) low-is ∙ (ones-length 0 (blocks_of sys p) free ascends ∙ (sym (core-ones 32 (blocks_of sys p) free ascends small.1) ∙ ap (ones 32) (sym low-is)))

  none-low : count_ones (n % 4294967296) ≡ 0 → n % 4294967296 ≡ 0
  none-low e = low-is ∙ no-bits free (sym (ones-length 0 (blocks_of sys p) free ascends) ∙ (ap (λ k. count_ones k) (sym low-is) ∙ e))

  shortage : (reserve : Option ℕ) → free_of n ≤ unwrap_or reserve 0 → states sys words (word.Pool p) o (shortage_rec reserve o p n) ≡ true
  shortage (Some k) few = subst (λ (b : Body). states_pool n p o o b ≡ true) (sym (body-is _ _ (short-says o p (n / 4294967296) (free_of n) k)))
      (and_from ((((o == o) && (p == p)) && (n / 4294967296 == n / 4294967296)) && (free_of n == ones 32 (low_in n))) (nat_le (free_of n) k)
      (and_from (((o == o) && (p == p)) && (n / 4294967296 == n / 4294967296)) (free_of n == ones 32 (low_in n)) (λ i. ((eq-eqb o o refl i && eq-eqb p p refl i) && eq-eqb (n / 4294967296) (n / 4294967296) refl i)) (eq-eqb (free_of n) (ones 32 (low_in n)) ones-is))
      (le-of (free_of n) k few))
  shortage None few = subst (λ (b : Body). states_pool n p o o b ≡ true) (sym (body-is _ _ (no_block-says o p (n / 4294967296))))
      (and_from ((((o == o) && (p == p)) && (n / 4294967296 == n / 4294967296)) && (0 == 0)) (low_in n == 0)
      (λ i. ((eq-eqb o o refl i && eq-eqb p p refl i) && eq-eqb (n / 4294967296) (n / 4294967296) refl i) && true)
      (eq-eqb (low_in n) 0 (none-low (omega arith))))

  module _ (reserve : Option ℕ) (u : View) where
    abbrev short : Rec
    short = shortage_rec reserve o p n

    eye-case : (t : Bool) → leb (free_of n) (unwrap_or reserve 0) ≡ t → u ≡ cond {A = View} t (noted v (pool_at p) n short) (glanced v (pool_at p) n) → IsCoreStep sys o (look_with (word.Pool p) t short) words v (set words (pool_at p) n) u
    eye-case true e is = record {
      may = and_from (is_pool sys p) (may_add 49 x && states sys words (word.Pool p) o short) pool (and_from (may_add 49 x) (states sys words (word.Pool p) o short) (adds sys words views holds id v at o room) (shortage reserve (leb-true _ (unwrap_or reserve 0) e)));
      goes = (set-get_or words (pool_at p) 0, ap (seat_of o) is ∙ (λ i. record (noting short (glance (pool_at p) n) x) { number = same-number short v.logs i }));
    }
    eye-case false e is = record { may = and_from (is_pool sys p) true pool refl; goes = (set-get_or words (pool_at p) 0, ap (seat_of o) is) }

    pub pool-eye-is : EyePoolTold sys p o reserve v n u → IsCoreStep sys o (look_at_pool p o reserve n) words v (set words (pool_at p) n) u
    pool-eye-is told = eye-case (leb (free_of n) (unwrap_or reserve 0)) refl told.0

  module _ (reserve : Option ℕ) (ev : Ev) (b old new : ℕ) (done : IsFalse (list_any (is_unfinished v.fills) v.gives)) (roomy : length ev.pars.items ≤ room_of sys p) (content : IsContent sys ev.sig ev.pars.items)
      (low : IsLowest b (old % 4294967296)) (new_is : new + 2 ^ b ≡ old + 4294967296) (u : View) where
    abbrev pars : List ℕ
    pars = ev.pars.items

    abbrev c : ℕ
    c = lowest 32 (low_in n)

    fitting : fits sys p ev.sig pars ≡ true
    fitting = let size = size-is sys p in let f = content.from in let w = content.within in
        and_from ((nat_le 4 ev.sig && nat_lt ev.sig (length sys.signals + 4)) && (length pars == params_of sys ev.sig)) (nat_le (length pars) (block_size sys p))
        (and_from (nat_le 4 ev.sig && nat_lt ev.sig (length sys.signals + 4)) (length pars == params_of sys ev.sig) (and_from (nat_le 4 ev.sig) (nat_lt ev.sig (length sys.signals + 4)) (le-of 4 ev.sig f) (lt-of ev.sig (length sys.signals + 4) w)) (eq-eqb (length pars) (params_of sys ev.sig) content.params))
        (le-of (length pars) (block_size sys p) (omega arith))

    module _ (same : n ≡ old) (after : Holds sys (set words (pool_at p) new) (set views id u)) (from : ℕ)
        (is : u ≡ gave v (pool_at p) new (rec_of 15 o (p ∷ (old / 4294967296) ∷ b ∷ from ∷ ev.sig ∷ pars)) p b from (ev.sig ∷ pars)) where
      abbrev r : Rec
      r = rec_of 15 o (p ∷ (old / 4294967296) ∷ b ∷ from ∷ ev.sig ∷ pars)

      low-here : IsLowest b (bits_value free)
      low-here = subst (IsLowest b) (ap (λ k. k % 4294967296) (sym same) ∙ low-is) low

      map : (is_first b free ≡ true) × (b < blocks_of sys p) × (2 ^ b ≤ bits_value free)
      map = let g = give-map (blocks_of sys p) free ascends b low-here in (g.0, g.1, g.2)

      first-is : b ≡ c
      first-is = one-first b c free map.0 (ap (λ k. is_first (lowest 32 k) free) low-is ∙ lowest-first 32 (blocks_of sys p) free ascends small.1 (let up : 0 < 2 ^ b = pow_pos b in let m = map.2 in omega arith))

      below : b < 32
      below = let m = map.1 in let s1 = small.1 in omega arith

      some-low : low_in n ≢ 0
      some-low e = let up : 0 < 2 ^ b = pow_pos b in let m = map.2 in let l = low-is in absurd (omega arith)

      word-new : new ≡ added n 4294967296 - bit_of c
      word-new =
          let w = word-is in let w0 = w.0 in let w1 = w.1 in let w2 = w.2 in
          let sum : added n 4294967296 ≡ n + 4294967296 = mod-eq_of_lt (omega arith) in
          let bit : bit_of c ≡ 2 ^ b = ap bit_of (sym first-is) ∙ bit-is b below in
          omega arith

      block : is_block sys p b ≡ true
      unfolding is_block
      block = and_from (is_pool sys p) (nat_lt b (blocks_of sys p)) pool (lt-of b (blocks_of sys p) map.1)

      -- the block's word, which stays, shows where the life begins
      from-here : from ≡ number_of_word (get_or words (block_at p b) 0)
      from-here =
          let there : get_elem? (set views id u) id ≡ some u = get-set views id v u at in
          let t = total-at (λ (z : View). many (is_spot_at p b from) z.fresh) (set views id u) id u there in
          let s = many-snoc (is_spot_at p b from) v.fresh (spot p b from) in let f = ap (λ (z : View). many (is_spot_at p b from) z.fresh) is in
          let one : cond {A = ℕ} (is_spot_at p b from (spot p b from)) 1 0 ≡ 1 = (λ i. cond {A = ℕ} ((eq-eqb p p refl i && eq-eqb b b refl i) && eq-eqb from from refl i) 1 0) in
          let begun = after.tokens.begun p b from (omega arith) in let b1 = begun.1 in
          let shows = after.shows.blocks p b block in
          let few = refs-count sys after.lanes after.now after.leaves after.logs.count after.logs.room p b block in let f0 = few.0 in let f1 = few.1 in
          let low16 = small.0 in let bb = below in
          let stays : get_or (set words (pool_at p) new) (block_at p b) 0 ≡ get_or words (block_at p b) 0 = get_or-set_other words (pool_at p) (block_at p b) new 0 (λ e. absurd (omega arith)) in
          omega arith

      from-is : from ≡ number_of_word (get_or words (block_at p c) 0)
      from-is = from-here ∙ ap (λ k. number_of_word (get_or words (block_at p k) 0)) first-is

      given : IsCoreStep sys o (op.Give p ev) words v (set words (pool_at p) new) u
      given = record {
        may = and_from (((may_add 49 x && is_pool sys p) && fits sys p ev.sig pars) && not (list_any (is_unfinished v.fills) v.gives)) (not (low_in n == 0))
            (and_from ((may_add 49 x && is_pool sys p) && fits sys p ev.sig pars) (not (list_any (is_unfinished v.fills) v.gives))
            (and_from (may_add 49 x && is_pool sys p) (fits sys p ev.sig pars) (and_from (may_add 49 x) (is_pool sys p) (adds sys words views holds id v at o room) pool) fitting) (ap not done))
            (ap not (ne_eqb (low_in n) 0 some-low));
        goes = (
          r,
          new-says o p (old / 4294967296) b from ev.sig pars ∙ (λ i. record { of = o; body = New p (sym same i / 4294967296) (first-is i) (from-is i) ev.sig pars }),
          ap (set words (pool_at p)) word-new,
          ap (seat_of o) is ∙ (λ i. record (with_give x r (glance (pool_at p) (word-new i)) p (first-is i) (from-is i) (ev.sig ∷ pars)) { number = same-number r v.logs i }),
        );
      }

    pub give-is : Holds sys (set words (pool_at p) (either (eqb n old) new n)) (set views id u) → GiveTold sys p o reserve b ev.sig pars v old new n u
        → IsCoreStep sys o (give_or_look p o reserve ev old n) words v (set words (pool_at p) (either (eqb n old) new n)) u
    give-is after told = dite (ℕ_discrete n old)
        (λ same. let t = told.0 same in
        let then : Holds sys (set words (pool_at p) new) (set views id u) = subst (λ (d : Bool). Holds sys (set words (pool_at p) (either d new n)) (set views id u)) (eq-eqb n old same) after in
        rw (eq-eqb n old same) (given same then t.0 t.1))
        (λ ne. rw (ne_eqb n old ne) (pool-eye-is reserve u (told.1 ne).1))
