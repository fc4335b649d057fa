-- Gives: a look at the pool's word, and tries to take its lowest free block.
use Rattle.std.proofs.Common.{◌≡◌, ◌≢◌, ℕ, ◌+◌, ◌/◌, ◌%◌, ◌^◌, ◌<◌, ◌≤◌, ◌&&◌, nat_lt, List, [], ◌∷◌, ◌++◌, Bool, true, false, cond, length, set, get_or, refl, sym, ap, subst, ◌∙◌, arith, leb, leb-true, eq-eqb, ne_eqb, IsTrue}
use Rattle.std.proofs.lemmas.Bool.Decides.{nat_tests}
use mathlib.Core.Option.{some}
use mathlib.Core.Logic.{dite}
use native.Mathlib.Decide.{ℕ_discrete}
use lib.Seq.{set-get_or}
use lib.ListN.{get_elem?}
use Rattle.std.specs.Prelude.{Some, None, count_ones}
use Rattle.std.specs.declared.option.Option.{Option}
use Rattle.std.specs.Option.{unwrap_or}
use Rattle.qp_model.specs.declared.systems.System.{System}
use Rattle.qp_model.specs.declared.bodies.Body.TheVariants.{Short, NoBlock}
use Rattle.qp_model.specs.declared.words.Word.{Word}
use Rattle.qp_model.specs.declared.words.Word.TheVariants as word
use Rattle.qp_model.specs.Sites.{blocks_of}
use Rattle.qp_model.specs.WordLaw.{is_pool, is_block}
use Rattle.qp_table.specs.Rule.{pool_at, mark_in, bits_value, Holds}
use Rattle.qp_table.specs.After.{rec_of, glanced, noted, gave, HasRoom}
use Rattle.qp_table.specs.declared.view.View.{View}
use Rattle.qp_table.proofs.Bounds.{Ascends, pool-ascends, pool-count, map-small}
use Rattle.qp_table.proofs.Marks.{low-mark}
use Rattle.qp_table.proofs.Steps.{new-says, gives}
use Rattle.qp_table.proofs.Looks.{looks, short-says, no_block-says, shows-short, shows-no_block}
use Rattle.qp_table.specs.Words.{place_of, value_seen, Ahead}
use Rattle.qp_table.proofs.Facts.{found-ahead}
use Rattle.qp_table.specs.Told.{WordTold, HasPlace, free_of, shortage_rec, eyed_pool, IsLowest}
use Rattle.qp_table.specs.StepLaws.{PoolEyesTell, GivesTell}
use Rattle.qp_table.proofs.Found.{word-told, look-word, block-place}
use Rattle.qp_table.proofs.Maps.{ones-length, give-map}

-- a word that is no longer the value seen last shows more operations
more-seen : (sys : System) (w : Word) (v : View) (old x : ℕ) → value_seen sys w v.seen ≡ old → Ahead sys w v x → x ≢ old → mark_in (place_of w) old < mark_in (place_of w) x
more-seen sys w v old x last ahead ne = dite (ℕ_discrete (mark_in (place_of w) old) (mark_in (place_of w) x))
    (λ m. absurd (ne (sym (ahead.same (ap (mark_in (place_of w)) last ∙ m)) ∙ last)))
    (λ m. let l : mark_in (place_of w) old ≤ mark_in (place_of w) x = subst (λ z. mark_in (place_of w) z ≤ mark_in (place_of w) x) last ahead.le in omega arith)

block-is : (sys : System) (p b : ℕ) → is_pool sys p ≡ true → b < blocks_of sys p → is_block sys p b ≡ true
unfolding is_block
block-is sys p b pool lt = let test : nat_lt b (blocks_of sys p) ≡ true = grind (arith, nat_tests) in λ i. pool i && test i

module _ (sys : System) (id : ℕ) (v : View) (own : HasRoom v) (p : ℕ) (pool : IsTrue (is_pool sys p)) (words : List ℕ) (views : List View) (holds : Holds sys words views) (at : get_elem? views id ≡ some v) where
  abbrev found : ℕ
  found = get_or words (pool_at p) 0

  abbrev free : List ℕ
  free = (holds.now.pool p).free

  ascends : Ascends 0 (blocks_of sys p) free
  ascends = pool-ascends sys holds.lanes holds.now holds.leaves holds.logs.count holds.logs.room p pool

  map-is : found % 4294967296 ≡ bits_value free
  map-is = let s = holds.shows.pools p pool in let m = map-small (blocks_of sys p) free (holds.fitting.small p pool).1 ascends in omega arith

  count-is : found / 4294967296 ≡ (holds.now.pool p).count
  count-is = let s = holds.shows.pools p pool in let m = map-small (blocks_of sys p) free (holds.fitting.small p pool).1 ascends in omega arith

  free-is : free_of found ≡ length free
  free-is = ap count_of map-is ∙ ones-length 0 (blocks_of sys p) free ascends
    where
      count_of : ℕ → ℕ
      count_of = count_ones

  refused : (o : ℕ) (reserve : Option ℕ) → free_of found ≤ unwrap_or reserve 0 → Holds sys words (set views id (noted v (pool_at p) found (shortage_rec reserve o p found)))
  refused o (Some k) few = shows-short sys words views holds id v at own p pool o k _ (short-says o p (found / 4294967296) (free_of found) k ∙ (λ i. record { of = o; body = Short p (count-is i) (free-is i) k })) (let f = free-is in omega arith)
  refused o None few = shows-no_block sys words views holds id v at own p pool o _ (no_block-says o p (found / 4294967296) ∙ (λ i. record { of = o; body = NoBlock p (count-is i) 0 })) (let f = free-is in omega arith)

  pub eye-holds : (o : ℕ) (reserve : Option ℕ) → Holds sys words (set views id (eyed_pool p o reserve v found)) × ((eyed_pool p o reserve v found).seen ≡ v.seen ++ record { word = pool_at p; value = found } ∷ [])
  eye-holds o reserve = let z = holds.fitting.small p pool in let z0 = z.0 in go (leb (free_of found) (unwrap_or reserve 0)) refl (omega arith)
    where
      go : (t : Bool) → leb (free_of found) (unwrap_or reserve 0) ≡ t → pool_at p < 4488 → let u = cond {A = View} t (noted v (pool_at p) found (shortage_rec reserve o p found)) (glanced v (pool_at p) found) in
          Holds sys words (set views id u) × (u.seen ≡ v.seen ++ record { word = pool_at p; value = found } ∷ [])
      go true e low = (refused o reserve (leb-true _ (unwrap_or reserve 0) e), refl)
      go false e low = (looks sys words views holds id v at (pool_at p) low, refl)

  same-word : (u : View) → Holds sys words (set views id u) → Holds sys (set words (pool_at p) found) (set views id u)
  same-word u h = subst (λ (ws : List ℕ). Holds sys ws (set views id u)) (sym (set-get_or words (pool_at p) 0)) h

  -- what a try tells that finds this word
  abbrev Given : ℕ → ℕ → ℕ → List ℕ → ℕ → ℕ → Type 0
  Given o b sig pars new z = (u : View) × Holds sys (set words (pool_at p) new) (set views id u)
      × ((from : ℕ) × (u ≡ gave v (pool_at p) new (rec_of 15 o (p ∷ (z / 4294967296) ∷ b ∷ from ∷ sig ∷ pars)) p b from (sig ∷ pars)) × WordTold sys (word.Pool p) v u z new × (free_of new + 1 ≡ free_of z) × HasPlace p b)

pub pool-eyes-tell : PoolEyesTell
pool-eyes-tell sys id v own p pool o reserve words views holds at small =
    let x = get_or words (pool_at p) 0 in let u = eyed_pool p o reserve v x in let h = eye-holds sys id v own p pool words views holds at o reserve in
    (u, same-word sys id v own p pool words views holds at u h.0, (refl, look-word sys words views holds id v u at (word.Pool p) pool h.1))

pub gives-tell : GivesTell
gives-tell sys id v own p pool o reserve b sig pars old new done fits content last lowest new_is words views holds at small =
    let x = get_or words (pool_at p) 0 in
    dite (ℕ_discrete (get_or words (pool_at p) 0) old)
    (λ same.
    let map = map-is sys id v own p pool words views holds at in
    let g = give-map (blocks_of sys p) (holds.now.pool p).free (ascends sys id v own p pool words views holds at) b
    (subst (IsLowest b) (ap (λ z. z % 4294967296) (sym same) ∙ map) lowest) in
    let g2 = g.2 in
    let block = block-is sys p b pool g.1 in
    let place = block-place sys words views holds id v v at p b block in let p1 = place.1 in
    let count = (holds.now.refs p b).count in
    let few = pool-count sys holds.lanes holds.now holds.leaves holds.logs.count holds.logs.room p pool in let ci = count-is sys id v own p pool words views holds at in
    let r = rec_of 15 o (p ∷ (x / 4294967296) ∷ b ∷ count ∷ sig ∷ pars) in
    let u : View = gave v (pool_at p) new r p b count (sig ∷ pars) in
    let h : Holds sys (set words (pool_at p) new) (set views id u) = gives sys words views holds id v at own o p b block new sig pars r (new-says o p (x / 4294967296) b count sig pars) content (let l = holds.fitting.params sig in let fp = content.params in omega arith) g.0 (omega arith) in
    let mk = low-mark (pool_at p) x (omega arith) in let mk' = low-mark (pool_at p) new (omega arith) in
    let rest : new % 4294967296 + 2 ^ b ≡ bits_value (holds.now.pool p).free = omega arith in
    let here : Given sys id v own p pool words views holds at o b sig pars new x = (u, h, (count, refl, word-told sys words views holds id v u at (word.Pool p) pool new (omega arith) refl, (let c = g.3 (new % 4294967296) rest in let e = ap (λ z. count_ones z) map in omega arith), place)) in
    let z = subst (λ y. Given sys id v own p pool words views holds at o b sig pars new y) same here in (
      z.0,
      rw (eq-eqb (get_or words (pool_at p) 0) old same) z.1,
      ((λ _. z.2), λ ne. absurd (ne same)),
    ))
    (λ ne.
    let u = eyed_pool p o reserve v x in let h = eye-holds sys id v own p pool words views holds at o reserve in (
      u,
      rw (ne_eqb (get_or words (pool_at p) 0) old ne) (same-word sys id v own p pool words views holds at u h.0),
      ((λ e. absurd (ne e)), λ _. (more-seen sys (word.Pool p) v old x last (found-ahead sys words views holds id v at (word.Pool p) pool) ne, (refl, look-word sys words views holds id v u at (word.Pool p) pool h.1))),
    ))
