-- The steps on blocks.
use Rattle.std.proofs.Common.{◌≡◌, ℕ, ◌+◌, ◌/◌, ◌%◌, ◌<◌, List, [], ◌∷◌, ◌++◌, Bool, cond, length, set, get_or, refl, sym, ap, subst, ◌∙◌, arith, eq-eqb}
use lib.Seq.{set-get_or}
use Rattle.qp_model.specs.declared.words.Word.TheVariants as word
use Rattle.qp_model.specs.declared.bodies.Body.TheVariants.{Back as back_body}
use Rattle.qp_table.specs.Counting.{many}
use Rattle.qp_table.specs.Rule.{pool_at, block_at, lives, is_ref, is_spot, is_spot_at, Holds}
use Rattle.qp_table.specs.After.{rec_of, ref, learned, put_back, read_from, filled}
use Rattle.qp_table.specs.declared.view.View.{View}
use Rattle.qp_table.proofs.Counting.{many-snoc, total-at}
use Rattle.qp_table.proofs.Marks.{low-mark}
use Rattle.qp_table.proofs.Tokens.{fresh-alone, used-alone, standing, held-stands, at-le, ref-here}
use Rattle.qp_table.proofs.Steps.{pool-of, back-says, puts_back, x-is, y-is, dec-counts}
use Rattle.qp_table.proofs.Contents.{fills}
use Rattle.qp_table.proofs.Looks.{looks_from}
use Rattle.qp_table.proofs.Running.{drop-steps, begin-steps, double-steps}
use Rattle.qp_table.proofs.Facts.{found-ahead}
use Rattle.qp_table.specs.StepLaws.{DropsTell, FirstReferencesTell, MoreReferencesTell, BacksTell, BeginningsTell, FillsTell}
use Rattle.qp_table.proofs.Found.{word-told, look-word, block-place, learns-then}

none-named : (xs : List ℕ) → lives xs ≡ 0 → length xs ≡ 0
none-named [] e = refl
none-named (x ∷ xs) e = absurd (omega arith)

pub drops-tell : DropsTell
drops-tell sys id v own o p b k pos mine words views holds at small =
    let z = drop-steps sys id v own o p b k pos mine words views holds at small in
    let there = held-stands sys views holds.now id v at holds.tokens p b k pos mine in
    let alone = standing sys views holds.now id v at holds.tokens p b k there in
    let n = get_or words (block_at p b) 0 in let low = z.2.3 in let some_left = z.2.1 in
    let m = low-mark (block_at p b) n low in let m' = low-mark (block_at p b) (n + 4294967295) low in
    let f = total-at (λ (y : View). many (is_spot p b) y.used) views id v at in let g = alone.4 in (
      z.0,
      z.1,
      (z.2.0, word-told sys words views holds id v z.0 at (word.Block p b) alone.0 (n + 4294967295) (omega arith) (ap (λ (y : View). y.seen) z.2.0), some_left, omega arith),
    )

ref-held : (p b k : ℕ) (v u : View) → u.hands ≡ v.hands ++ ref p b k ∷ [] → 0 < many (is_ref p b k) u.hands
ref-held p b k v u e =
    let a = ap (many (is_ref p b k)) e in let m = many-snoc (is_ref p b k) v.hands (ref p b k) in
    let one : cond {A = ℕ} (is_ref p b k (ref p b k)) 1 0 ≡ 1 = ap (λ (t : Bool). cond {A = ℕ} t 1 0) (ref-here p b k k ∙ eq-eqb k k refl) in omega arith

pub first-tells : FirstReferencesTell
first-tells sys id v own o p b mine given written words views holds at small =
    let z = begin-steps sys id v own o p b mine written words views holds at small in
    let alone = fresh-alone sys views holds.now id v at holds.tokens p b mine in
    let n = get_or words (block_at p b) 0 in
    let place = block-place sys words views holds id v v at p b alone.0 in let p1 = place.1 in let p2 = place.2 in
    let none : length (holds.now.refs p b).names ≡ 0 = none-named (holds.now.refs p b).names alone.2 in
    let x = x-is sys words views holds id v at own o p b alone.0 in let x0 = x.0 in let x1 = x.1 in let x2 = x.2 in
    let m = low-mark (block_at p b) n (omega arith) in let m' = low-mark (block_at p b) (n + 4294967297) (omega arith) in
    let l = learns-then sys (set words (block_at p b) ((n + 4294967297) % 18446744073709551616)) views id v z.0 at z.1 p b (n / 4294967296) place.0 (ref-held p b (n / 4294967296) v z.0 (ap (λ (y : View). y.hands) z.2)) in
    let u : View = learned z.0 (ref p b (n / 4294967296)) l.0 in (
      u,
      l.1,
      (l.0, ap (λ (y : View). learned y (ref p b (n / 4294967296)) l.0) z.2, word-told sys words views holds id v u at (word.Block p b) alone.0 (n + 4294967297) (omega arith) (ap (λ (y : View). y.seen) z.2), omega arith, l.2, l.3),
    )

pub more-tells : MoreReferencesTell
more-tells sys id v own o p b k pos mine words views holds at small =
    let z = double-steps sys id v own o p b k pos mine words views holds at small in
    let there = held-stands sys views holds.now id v at holds.tokens p b k pos mine in
    let alone = standing sys views holds.now id v at holds.tokens p b k there in
    let n = get_or words (block_at p b) 0 in
    let place = block-place sys words views holds id v v at p b alone.0 in let p1 = place.1 in let p2 = place.2 in
    let c = dec-counts k (holds.now.refs p b).names there in
    let x = x-is sys words views holds id v at own o p b alone.0 in let x0 = x.0 in let x1 = x.1 in let x2 = x.2 in
    let m = low-mark (block_at p b) n (omega arith) in let m' = low-mark (block_at p b) (n + 4294967297) (omega arith) in
    let f = total-at (λ (y : View). many (is_spot p b) y.fresh) views id v at in let g = alone.3 in
    let f' = total-at (λ (y : View). many (is_spot p b) y.used) views id v at in let g' = alone.4 in
    let l = learns-then sys (set words (block_at p b) ((n + 4294967297) % 18446744073709551616)) views id v z.0 at z.1 p b (n / 4294967296) place.0 (ref-held p b (n / 4294967296) v z.0 (ap (λ (y : View). y.hands) z.2)) in
    let u : View = learned z.0 (ref p b (n / 4294967296)) l.0 in (
      u,
      l.1,
      (l.0, ap (λ (y : View). learned y (ref p b (n / 4294967296)) l.0) z.2, word-told sys words views holds id v u at (word.Block p b) alone.0 (n + 4294967297) (omega arith) (ap (λ (y : View). y.seen) z.2), omega arith, omega arith, omega arith, l.2, l.3),
    )

pub backs-tell : BacksTell
backs-tell sys id v own o p b m k is small_k mine words views holds at small =
    let a = at-le p b m v.used in
    let alone = used-alone sys views holds.now id v at holds.tokens p b (omega arith) in
    let n = get_or words (pool_at p) 0 in
    let t = total-at (λ (y : View). many (is_spot_at p b m) y.used) views id v at in
    let worn = holds.tokens.worn p b m (omega arith) in
    let y = y-is sys words views holds id v at own o p b alone.0 in let y0 = y.0 in let y1 = y.1 in let y2 = y.2 in
    let wraps : (n + k) % 18446744073709551616 ≡ n + k = omega arith in
    let place = block-place sys words views holds id v v at p b alone.0 in let p1 = place.1 in let p2 = place.2 in
    let u : View = put_back v (pool_at p) (n + k) (rec_of 19 o (p ∷ (n / 4294967296) ∷ b ∷ m ∷ [])) p b in
    let mk = low-mark (pool_at p) n (omega arith) in let mk' = low-mark (pool_at p) (n + k) (omega arith) in
    let x = x-is sys words views holds id v at own o p b alone.0 in let x0 = x.0 in let x1 = x.1 in let x2 = x.2 in
    let bk = low-mark (block_at p b) (get_or words (block_at p b) 0) (omega arith) in
    let ahead = (found-ahead sys words views holds id v at (word.Block p b) alone.0).le in let w1 = worn.1 in (
      u,
      subst (λ (q : ℕ). Holds sys (set words (pool_at p) q) (set views id u)) (sym wraps)
          (puts_back sys words views holds id v at own o p b alone.0 (n + k) (rec_of 19 o (p ∷ (n / 4294967296) ∷ b ∷ m ∷ [])) (back-says o p (n / 4294967296) b m ∙ (λ i. record { of = o; body = back_body p (n / 4294967296) b (sym worn.1 i) })) (omega arith) (omega arith)),
      (refl, word-told sys words views holds id v u at (word.Pool p) (pool-of sys p b alone.0).0 (n + k) (omega arith) refl, omega arith),
    )

pub beginnings-tell : BeginningsTell
beginnings-tell sys id v p b m mine words views holds at small =
    let a = at-le p b m v.fresh in
    let alone = fresh-alone sys views holds.now id v at holds.tokens p b (omega arith) in
    let n = get_or words (block_at p b) 0 in
    let t = total-at (λ (y : View). many (is_spot_at p b m) y.fresh) views id v at in
    let begun = holds.tokens.begun p b m (omega arith) in let b1 = begun.1 in
    let none : length (holds.now.refs p b).names ≡ 0 = none-named (holds.now.refs p b).names alone.2 in
    let shows = holds.shows.blocks p b alone.0 in
    let place = block-place sys words views holds id v v at p b alone.0 in let p1 = place.1 in let p2 = place.2 in
    let u : View = read_from v (block_at p b) n p b in (
      u,
      subst (λ (ws : List ℕ). Holds sys ws (set views id u)) (sym (set-get_or words (block_at p b) 0)) (looks_from sys words views holds id v at p b (omega arith)),
      (refl, look-word sys words views holds id v u at (word.Block p b) alone.0 refl, omega arith, omega arith),
    )

pub fills-tell : FillsTell
fills-tell sys id v p b j x mine low left asked words views holds at small =
    let alone = fresh-alone sys views holds.now id v at holds.tokens p b mine in (filled v p b j x, fills sys words views holds id v at p b alone.0 j x low left, refl)
