-- The calls on blocks do what their clauses say.
use Rattle.std.proofs.Common.{◌≡◌, ℕ, suc, ◌+◌, ◌<◌, ◌≤◌, ◌==◌, Bool, true, false, ◌&&◌, [], ◌∷◌, length, take, refl, sym, ◌∙◌, ap, subst, arith, IsTrue, inl, inr, Option, Some, None, take_all, length-append}
use Rattle.std.specs.Option.{unwrap_or}
use Rattle.std.proofs.lemmas.Bool.{and_from, lt-ltb, not-true}
use Rattle.std.proofs.lemmas.List.{take-append-le}
use Rattle.qp_chart.specs.StateTree.{has}
use Rattle.qp_model.specs.declared.words.Word.TheVariants as word
use Rattle.qp_model.specs.declared.bodies.Body.{Body}
use Rattle.qp_model.specs.declared.bodies.Body.TheVariants.{New, Inc, Dec, Back}
use Rattle.qp_model.specs.Told.{Event, plain, told_new, dropped}
use Rattle.qp_model.specs.History.{Draws, touch_of, drawn_on, hist, total, all_items}
use Rattle.qp_model.specs.Machine.{after}
use Rattle.qp_model.specs.References.{references}
use Rattle.qp_model.specs.FreeBlocks.{free_blocks}
use Rattle.qp_model.specs.Sites.{blocks_of}
use Rattle.qp_model.specs.Knowing.{free_before, references_after, known_of, told}
use Rattle.qp_model.specs.WordLaw.{is_block, is_pool}
use Rattle.qp_model.proofs.HistoryLemmas.{length-hist}
use Rattle.qp_calls.specs.declared.tokens.Fresh.{Fresh}
use Rattle.qp_calls.specs.declared.answers.Give.TheVariants as give
use Rattle.qp_calls.specs.LaneView.{FreeBlocks, References}
use Rattle.qp_calls.specs.Tokens.{Hold, Held, Loose, stands, take_out}
use Rattle.qp_calls.specs.Clauses.{GivesBlock, Makes, DropsOne, shortage_of, StandsHold, StandsFresh}
use Rattle.qp_plain_sound.specs.WordStates.{pool_in, refs_in}
use Rattle.qp_plain_sound.specs.Sound.{SoundWorld, facts_in, hands_in, names_block}
use Rattle.qp_plain_sound.specs.May.{May, MayGive, MayMake, IsPool}
use Rattle.qp_plain_sound.specs.View.{view_of, shown_in}
use Rattle.qp_plain_sound.specs.Step.{WorldStep, Extends, MayCome, before, behind, hands_before}
use Rattle.qp_plain_sound.specs.Calls.{GiveIsDone, GiveIsRefused, FirstIsDone, IncIsDone, DecKeeps, DecIsLast, BackIsDone}
use Rattle.qp_plain_sound.proofs.Times.{all-stands, take_out-absent, stands-times}
use Rattle.qp_plain_sound.proofs.Standing.{block-pool, pool-count, refs-count, free-life, out-not_free, held-stands}
use Rattle.qp_plain_sound.proofs.FreeLemmas.{free-ascends, length-without_first, length-with_number, length-without_one}
use Rattle.qp_plain_sound.proofs.CallParts.{adds, draws-up, hands-after, hist-after, pool-after, refs-after, pool-same, refs-same}
use Rattle.qp_model.proofs.LineLemmas.{same_number}
use Rattle.qp_model.proofs.PromiseLemmas.{first-has}

-- A block is given out.
module _ (s : WorldStep) (p n b from : ℕ) (ev : Event) (ext : Extends s s.by (New p n b from ev.sig ev.pars)) (m : MayGive s.sys s.lanes p n b from ev) where
  abbrev body : Body
  body = New p n b from ev.sig ev.pars

  may : MayCome s s.by body
  unfolding May
  may = m

  in_pool : IsTrue (is_pool s.sys p)
  in_pool = (block-pool s.sys p b m.block).0

  counted : n ≡ total (word.Pool p) (all_items s.lanes)
  counted = m.number ∙ pool-count s.sys s.lanes ext.world.sound.words p in_pool

  draws : touch_of s.by body ≡ Draws (word.Pool p) (suc (total (word.Pool p) (all_items s.lanes)))
  draws = ap (λ x. Draws (word.Pool p) (suc x)) counted

  -- so many blocks were free before it
  free_is : free_before (facts_in s.sys s.more) p n ≡ length (pool_in s.sys s.lanes p).free
  unfolding free_before pool_in
  free_is =
      let now = hist-after s s.by body ext.world ext.grown ext.says may (word.Pool p) (same_number p) (ext.world.sound.words.pools p in_pool).numbers draws in
      let long = length-hist (word.Pool p) (all_items s.lanes) (ext.world.sound.words.pools p in_pool).numbers in
      let is_n : n ≡ length (hist (word.Pool p) (all_items s.lanes)) = counted ∙ sym long in
      let front : take n (hist (word.Pool p) (all_items s.more)) ≡ hist (word.Pool p) (all_items s.lanes) =
      ap (take n) now ∙ take-append-le n (hist (word.Pool p) (all_items s.lanes)) _ (omega (arith, is_n)) ∙ take_all n (hist (word.Pool p) (all_items s.lanes)) (omega (arith, is_n)) in
      ap (λ h. length (after (free_blocks (blocks_of s.sys p)) h).free) front

  told_is : (c : ℕ) → told (facts_in s.sys s.more) s.by c body ≡ told_new p n b from ev.sig ev.pars (length (pool_in s.sys s.lanes p).free)
  unfolding told known_of
  told_is c = ap (λ x. told_new p n b from ev.sig ev.pars x) free_is

  pool_after : length (pool_in s.sys s.more p).free + 1 ≡ length (pool_in s.sys s.lanes p).free
  unfolding pool_in
  pool_after =
      ap (λ x. length x.free + 1) (pool-after s s.by body ext.world ext.grown ext.says may p in_pool draws)
      ∙ length-without_first b (pool_in s.sys s.lanes p).free (free-ascends (blocks_of s.sys p) (hist (word.Pool p) (all_items s.lanes)) (ext.world.sound.words.pools p in_pool).allowed) m.lowest

  bare_after : (refs_in s.more p b).names ≡ []
  bare_after =
      ap (λ x. x.names) (refs-same s s.by body ext.world ext.grown ext.says may p b refl)
      ∙ (ext.world.sound.block p b m.block).idle (not-true _ (sym (free-life s.sys s.lanes ext.world.sound.words p b m.block) ∙ first-has b _ m.lowest))

  pub given-done : (reserve : Option ℕ) → unwrap_or reserve 0 < length (pool_in s.sys s.lanes p).free
      → GivesBlock p reserve ev (before s) (behind s) (give.Given (record { pool = p; block = b; used = false }))
  unfolding view_of shown_in
  given-done reserve enough = record {
    number = n;
    from = from;
    free = length (pool_in s.sys s.lanes p).free;
    adds = adds s s.by body ext.world ext.grown ext.says may ext.less _ told_is;
    its_pool = refl;
    unused = refl;
    enough = lt-ltb _ _ enough;
    draws = record {
      up = draws-up s s.by body ext.world ext.grown ext.says may (word.Pool p) (same_number p) draws;
      says = ap FreeBlocks (omega (arith, pool_after));
    };
    was = λ at. refl;
    bare = ap (λ x. References (length x)) bare_after;
  }

pub give-done : GiveIsDone
give-done s p n b from ev reserve ext m enough = given-done s p n b from ev ext m reserve enough

-- None is given out.
short_may : (s : WorldStep) (p n free : ℕ) (reserve : Option ℕ) → IsPool s.sys s.lanes p n free → free ≤ unwrap_or reserve 0 → MayCome s s.by (shortage_of reserve p n free)
unfolding May
short_may s p n free (Some k) is few = (is, few)
short_may s p n free None is few = (is, omega (arith, few))

short_told : (s : WorldStep) (p n free c : ℕ) (reserve : Option ℕ) → told (facts_in s.sys s.more) s.by c (shortage_of reserve p n free) ≡ plain (shortage_of reserve p n free)
unfolding told known_of
short_told s p n free c (Some k) = refl
short_told s p n free c None = refl

short_off : (p q n free o : ℕ) (reserve : Option ℕ) → drawn_on (word.Pool q) (touch_of o (shortage_of reserve p n free)) ≡ false
short_off p q n free o (Some k) = refl
short_off p q n free o None = refl

pub give-refused : GiveIsRefused
unfolding view_of shown_in
give-refused s p n free ev reserve ext is few =
    let may = short_may s p n free reserve is few in
    record {
      adds = adds s s.by (shortage_of reserve p n free) ext.world ext.grown ext.says may ext.less _ (λ c. short_told s p n free c reserve);
      few = few;
      says = ap (λ x. FreeBlocks (length x.free)) (pool-same s s.by (shortage_of reserve p n free) ext.world ext.grown ext.says may p (short_off p p n free s.by reserve)) ∙ ap FreeBlocks (sym is.free_blocks);
    }

-- A reference is made.
module _ (s : WorldStep) (p b r : ℕ) (ext : Extends s s.by (Inc p b r)) (m : MayMake s.sys s.lanes (hands_before s) p b r) where
  inc_may : MayCome s s.by (Inc p b r)
  unfolding May
  inc_may = m

  inc_draws : touch_of s.by (Inc p b r) ≡ Draws (word.Block p b) (suc (total (word.Block p b) (all_items s.lanes)))
  inc_draws = ap (λ x. Draws (word.Block p b) (suc x)) (m.number ∙ refs-count s.sys s.lanes ext.world.sound.words p b m.block)

  inc_told : (c : ℕ) → told (facts_in s.sys s.more) s.by c (Inc p b r) ≡ plain (Inc p b r)
  unfolding told known_of
  inc_told c = refl

  pub makes : (count : ℕ) → count ≡ suc (length (refs_in s.lanes p b).names) → Makes p b count (before s) (behind s) (record { pool = p; block = b; name = r })
  unfolding view_of shown_in
  makes count is = record {
    adds = adds s s.by (Inc p b r) ext.world ext.grown ext.says inc_may ext.less _ inc_told;
    its_pool = refl;
    its_block = refl;
    draws = record {
      up = draws-up s s.by (Inc p b r) ext.world ext.grown ext.says inc_may (word.Block p b) (and_from _ _ (same_number p) (same_number b)) inc_draws;
      says = ap (λ x. References (length x.names)) (refs-after s s.by (Inc p b r) ext.world ext.grown ext.says inc_may p b m.block inc_draws) ∙ ap References (sym is);
    };
  }

  pub inc_hands : hands_in s.sys s.more s.longer ≡ Held p b r ∷ take_out (Loose p b false) (hands_before s)
  unfolding known_of
  inc_hands = hands-after s s.by (Inc p b r) ext.world ext.grown ext.says inc_may

-- what stands in the hands is on a block of the system
hold_block : (s : WorldStep) (h : Hold) → SoundWorld s.sys s.lanes s.order → StandsHold h (before s) → IsTrue (is_block s.sys h.pool h.block) × IsTrue (stands (Held h.pool h.block h.name) (hands_before s))
unfolding view_of
hold_block s h world stand = (all-stands (names_block s.sys) (Held h.pool h.block h.name) (hands_before s) world.sound.tokens stand.1, stand.1)

fresh_block : (s : WorldStep) (f : Fresh) → SoundWorld s.sys s.lanes s.order → StandsFresh f (before s) → IsTrue (is_block s.sys f.pool f.block) × IsTrue (stands (Loose f.pool f.block f.used) (hands_before s))
unfolding view_of
fresh_block s f world stand = (all-stands (names_block s.sys) (Loose f.pool f.block f.used) (hands_before s) world.sound.tokens stand.1, stand.1)

pub first-done : FirstIsDone
first-done s f r ext stand unused number =
    let at = fresh_block s f ext.world stand in
    let loose : IsTrue (stands (Loose f.pool f.block false) (hands_before s)) = subst (λ u. IsTrue (stands (Loose f.pool f.block u) (hands_before s))) unused at.1 in
    let some = stands-times (Loose f.pool f.block false) (hands_before s) loose in
    let empty = ((ext.world.sound.block f.pool f.block at.0).fresh_is some).0 in
    makes s f.pool f.block r ext (record { block = at.0; number = number; token = inl loose }) 1 (ap (λ x. suc (length x)) (sym empty))

-- no block is loose of which a reference is in the hands
not_loose : (s : WorldStep) (p b k : ℕ) → SoundWorld s.sys s.lanes s.order → IsTrue (is_block s.sys p b) → IsTrue (stands (Held p b k) (hands_before s)) → stands (Loose p b false) (hands_before s) ≡ false
not_loose s p b k world h held = go (stands (Loose p b false) (hands_before s)) refl
  where
    standing : has (refs_in s.lanes p b).names k ≡ true
    standing = held-stands s.sys s.lanes (hands_before s) world.sound p b h k held

    go : (u : Bool) → stands (Loose p b false) (hands_before s) ≡ u → u ≡ false
    go false e = refl
    go true e =
        let some = stands-times (Loose p b false) (hands_before s) e in
        let empty = ((world.sound.block p b h).fresh_is some).0 in
        let wrong = rw empty at standing in
        absurd (cc)

pub inc-done : IncIsDone
unfolding view_of
inc-done s h r ext stand number =
    let at = hold_block s h ext.world stand in
    let m : MayMake s.sys s.lanes (hands_before s) h.pool h.block r = record { block = at.0; number = number; token = inr (h.name, at.1) } in
    record {
      others = length (refs_in s.lanes h.pool h.block).names;
      makes = makes s h.pool h.block r ext m _ refl;
      hands = inc_hands s h.pool h.block r ext m ∙ ap (λ ts. Held h.pool h.block r ∷ ts) (take_out-absent (Loose h.pool h.block false) (hands_before s) (not_loose s h.pool h.block h.name ext.world at.0 at.1));
    }

-- A reference is dropped.
module _ (s : WorldStep) (h : Hold) (d : ℕ) (ext : Extends s s.by (Dec h.pool h.block d h.name)) (stand : StandsHold h (before s)) (number : d ≡ (refs_in s.lanes h.pool h.block).count) where
  abbrev dec_body : Body
  dec_body = Dec h.pool h.block d h.name

  block : IsTrue (is_block s.sys h.pool h.block)
  block = (hold_block s h ext.world stand).0

  dec_may : MayCome s s.by dec_body
  unfolding May
  dec_may = record { block = block; number = number; token = (hold_block s h ext.world stand).1 }

  dec_counted : d ≡ total (word.Block h.pool h.block) (all_items s.lanes)
  dec_counted = number ∙ refs-count s.sys s.lanes ext.world.sound.words h.pool h.block block

  dec_draws : touch_of s.by dec_body ≡ Draws (word.Block h.pool h.block) (suc (total (word.Block h.pool h.block) (all_items s.lanes)))
  dec_draws = ap (λ x. Draws (word.Block h.pool h.block) (suc x)) dec_counted

  self : ((h.pool == h.pool) && (h.block == h.block)) ≡ true
  self = and_from _ _ (same_number h.pool) (same_number h.block)

  refs_now : length (refs_in s.more h.pool h.block).names + 1 ≡ length (refs_in s.lanes h.pool h.block).names
  refs_now =
      ap (λ x. length x.names + 1) (refs-after s s.by dec_body ext.world ext.grown ext.says dec_may h.pool h.block block dec_draws)
      ∙ length-without_one (refs_in s.lanes h.pool h.block).names h.name (held-stands s.sys s.lanes (hands_before s) ext.world.sound h.pool h.block block h.name (hold_block s h ext.world stand).1)

  left_is : references_after (facts_in s.sys s.more) h.pool h.block d ≡ length (refs_in s.more h.pool h.block).names
  unfolding references_after refs_in
  left_is =
      let now = hist-after s s.by dec_body ext.world ext.grown ext.says dec_may (word.Block h.pool h.block) self (ext.world.sound.words.blocks h.pool h.block block).numbers dec_draws in
      let long = length-hist (word.Block h.pool h.block) (all_items s.lanes) (ext.world.sound.words.blocks h.pool h.block block).numbers in
      let longer : length (hist (word.Block h.pool h.block) (all_items s.more)) ≡ length (hist (word.Block h.pool h.block) (all_items s.lanes)) + 1 =
      ap length now ∙ length-append (hist (word.Block h.pool h.block) (all_items s.lanes)) (record { of = s.by; body = dec_body } ∷ []) in
      let whole : take (d + 1) (hist (word.Block h.pool h.block) (all_items s.more)) ≡ hist (word.Block h.pool h.block) (all_items s.more) =
      take_all (d + 1) (hist (word.Block h.pool h.block) (all_items s.more)) (omega (arith, longer, long, dec_counted)) in
      ap (λ z. length (after references z).names) whole

  pub drops : (left : ℕ) → length (refs_in s.lanes h.pool h.block).names ≡ left + 1 → DropsOne h left (before s) (behind s)
  unfolding view_of shown_in
  drops left is =
      let now : length (refs_in s.more h.pool h.block).names ≡ left = omega (arith, refs_now, is) in
      record {
        number = d;
        adds = adds s s.by dec_body ext.world ext.grown ext.says dec_may ext.less _ (λ c. told_dec left now c);
        draws = record {
          up = draws-up s s.by dec_body ext.world ext.grown ext.says dec_may (word.Block h.pool h.block) self dec_draws;
          says = ap References now;
        };
      }
    where
      told_dec : (left : ℕ) → length (refs_in s.more h.pool h.block).names ≡ left → (c : ℕ) → told (facts_in s.sys s.more) s.by c dec_body ≡ dropped h.pool h.block d h.name left
      told_dec left now c = ap (λ x. dropped h.pool h.block d h.name x) (left_is ∙ now)

pub dec-keeps : DecKeeps
dec-keeps s h d others ext stand number is = (others, drops s h d ext stand number (suc others) (omega (arith, is)))

pub dec-last : DecIsLast
dec-last s h d ext stand number is = (drops s h d ext stand number 0 (omega (arith, is)), refl, refl, refl)

-- A block comes back.
pub back-done : BackIsDone
unfolding view_of shown_in May
back-done s f n to ext stand used number until =
    let at = fresh_block s f ext.world stand in
    let loose : IsTrue (stands (Loose f.pool f.block true) (hands_before s)) = subst (λ u. IsTrue (stands (Loose f.pool f.block u) (hands_before s))) used at.1 in
    let may : MayCome s s.by (Back f.pool n f.block to) = record { block = at.0; number = number; until = until; token = loose } in
    let some = stands-times (Loose f.pool f.block true) (hands_before s) loose in
    let out = ((ext.world.sound.block f.pool f.block at.0).used_is some).1 in
    let taken = out-not_free s.sys s.lanes (hands_before s) ext.world.sound f.pool f.block at.0 out in
    let pool = (block-pool s.sys f.pool f.block at.0).0 in
    let draws : touch_of s.by (Back f.pool n f.block to) ≡ Draws (word.Pool f.pool) (suc (total (word.Pool f.pool) (all_items s.lanes))) =
    ap (λ x. Draws (word.Pool f.pool) (suc x)) (number ∙ pool-count s.sys s.lanes ext.world.sound.words f.pool pool) in
    record {
      number = n;
      others = length (pool_in s.sys s.lanes f.pool).free;
      adds = adds s s.by (Back f.pool n f.block to) ext.world ext.grown ext.says may ext.less _
          (λ c. back_told c (until ∙ refs-count s.sys s.lanes ext.world.sound.words f.pool f.block at.0));
      draws = record {
        up = draws-up s s.by (Back f.pool n f.block to) ext.world ext.grown ext.says may (word.Pool f.pool) (same_number f.pool) draws;
        says = ap (λ x. FreeBlocks (length x.free)) (pool-after s s.by (Back f.pool n f.block to) ext.world ext.grown ext.says may f.pool pool draws)
            ∙ ap FreeBlocks (length-with_number f.block (pool_in s.sys s.lanes f.pool).free taken);
      };
    }
  where
    back_told : (c : ℕ) → to ≡ total (word.Block f.pool f.block) (all_items s.lanes)
        → told (facts_in s.sys s.more) s.by c (Back f.pool n f.block to) ≡ plain (Back f.pool n f.block (total (word.Block f.pool f.block) (all_items s.lanes)))
    back_told c is = ap (λ x. plain (Back f.pool n f.block x)) is
