-- What a step tells of the word that it found.
use Rattle.std.proofs.Common.{◌≡◌, ◌⊎◌, ℕ, zero, suc, ◌+◌, ◌<◌, List, [], ◌∷◌, ◌++◌, set, get_or, refl, sym, ap, subst, ◌∙◌, arith, IsTrue, ⊎_elim}
use mathlib.Core.Option.{some, some-ne-none}
use lib.ListN.{get_elem?}
use Rattle.qp_model.specs.declared.systems.System.{System}
use Rattle.qp_model.specs.declared.words.Word.{Word}
use Rattle.qp_model.specs.declared.words.Word.TheVariants as word
use Rattle.qp_model.specs.WordLaw.{is_block, is_object}
use Rattle.qp_table.specs.Counting.{many}
use Rattle.qp_table.specs.Rule.{queue_at, mark_in, is_ref, Holds}
use Rattle.qp_table.specs.After.{ref, learned}
use Rattle.qp_table.specs.declared.view.View.{View}
use Rattle.qp_table.proofs.Marks.{line-shows, high-mark, own-counts, first-small}
use Rattle.qp_table.proofs.Tokens.{standing, held-stands}
use Rattle.qp_table.proofs.Looks.{learns}
use Rattle.qp_table.specs.Words.{place_of, is_here, Ahead}
use Rattle.qp_table.proofs.Facts.{found-ahead}
use Rattle.qp_table.proofs.Gaining.{glance-saw}
use Rattle.qp_table.proofs.Own.{served-own}
use Rattle.qp_table.specs.Told.{WordTold, HasPlace, IsGivenEvent, QueueTold}
use Rattle.qp_table.proofs.Reading.{content-some}

-- a later value is ahead too
pub ahead-later : (sys : System) (w : Word) (v : View) (n x : ℕ) → Ahead sys w v n → mark_in (place_of w) n < mark_in (place_of w) x → Ahead sys w v x
ahead-later sys w v n x a more = record { le = let l = a.le in omega arith; same = λ e. let l = a.le in absurd (omega arith) }

module _ {A : Type 0} where
  pub set-set : (xs : List A) (i : ℕ) (x y : A) → set (set xs i x) i y ≡ set xs i y
  set-set [] i x y = refl
  set-set (z ∷ xs) zero x y = refl
  set-set (z ∷ xs) (suc i) x y = ap (λ zs. z ∷ zs) (set-set xs i x y)

  pub get-set : (xs : List A) (i : ℕ) (x y : A) → get_elem? xs i ≡ some x → get_elem? (set xs i y) i ≡ some y
  get-set [] i x y e = absurd (some-ne-none x (sym e))
  get-set (z ∷ xs) zero x y e = refl
  get-set (z ∷ xs) (suc i) x y e = get-set xs i x y e

module _ (sys : System) (words : List ℕ) (views : List View) (holds : Holds sys words views) (id : ℕ) (v u : View) (at : get_elem? views id ≡ some v) where
  pub block-place : (p b : ℕ) → IsTrue (is_block sys p b) → HasPlace p b
  block-place p b block = holds.fitting.pools p b block

  -- the word became x, with more operations, or was looked at
  pub word-told : (w : Word) → IsTrue (is_here sys w) → (x : ℕ) → mark_in (place_of w) (get_or words (place_of w) 0) < mark_in (place_of w) x → u.seen ≡ v.seen ++ record { word = place_of w; value = x } ∷ [] → WordTold sys w v u (get_or words (place_of w) 0) x
  word-told w here x more seen = let found = found-ahead sys words views holds id v at w here in record {
    found = found;
    saw = glance-saw sys w v u x holds.fitting here seen (ahead-later sys w v (get_or words (place_of w) 0) x found more);
  }

  pub look-word : (w : Word) → IsTrue (is_here sys w) → u.seen ≡ v.seen ++ record { word = place_of w; value = get_or words (place_of w) 0 } ∷ [] → WordTold sys w v u (get_or words (place_of w) 0) (get_or words (place_of w) 0)
  look-word w here seen = let found = found-ahead sys words views holds id v at w here in record { found = found; saw = glance-saw sys w v u (get_or words (place_of w) 0) holds.fitting here seen found }

  pub queue-told-at : (a : ℕ) → IsTrue (is_object sys a) → (x : ℕ) → u.seen ≡ v.seen ++ record { word = queue_at a; value = x } ∷ [] → Ahead sys (word.Queue a) v x → QueueTold sys a v u (get_or words (queue_at a) 0) x
  queue-told-at a object x seen ahead_x =
      let n = get_or words (queue_at a) 0 in
      let s = line-shows sys words views holds a object in let s0 = s.0 in let s1 = s.1 in let s2 = s.2 in
      let q = holds.queues.queue a object in let c = q.counted in
      record {
        found = found-ahead sys words views holds id v at (word.Queue a) object;
        saw = glance-saw sys (word.Queue a) v u x holds.fitting object seen ahead_x;
        mark = high-mark (queue_at a) x (omega arith);
        small = let o = own-counts sys words views holds a object in let f = first-small sys words views holds a object in omega arith;
        takes = omega arith;
        own = λ serves. let z = served-own a holds.now v.logs v.serves serves (holds.queues.home id v at).counts in (s1 ∙ z.0, s2 ∙ z.1);
      }

  pub queue-told : (a : ℕ) → IsTrue (is_object sys a) → u.seen ≡ v.seen ++ record { word = queue_at a; value = get_or words (queue_at a) 0 } ∷ [] → QueueTold sys a v u (get_or words (queue_at a) 0) (get_or words (queue_at a) 0)
  queue-told a object seen = queue-told-at a object (get_or words (queue_at a) 0) seen (found-ahead sys words views holds id v at (word.Queue a) object)

  -- the same where the word became one with more operations
  pub queue-more : (a : ℕ) → IsTrue (is_object sys a) → (k : ℕ) → (k ≡ 1) ⊎ (k ≡ 2097152) ⊎ (k ≡ 4398046511104) → u.seen ≡ v.seen ++ record { word = queue_at a; value = get_or words (queue_at a) 0 + k } ∷ [] → QueueTold sys a v u (get_or words (queue_at a) 0) (get_or words (queue_at a) 0 + k)
  queue-more a object k kinds seen =
      let n = get_or words (queue_at a) 0 in
      let o = own-counts sys words views holds a object in let f = first-small sys words views holds a object in let s = line-shows sys words views holds a object in let s0 = s.0 in let s1 = s.1 in let s2 = s.2 in
      let h = high-mark (queue_at a) n (omega arith) in let h' = high-mark (queue_at a) (n + k) (omega arith) in
      let more : mark_in (queue_at a) n < mark_in (queue_at a) (n + k) = ⊎_elim (λ e. omega arith) (λ z. ⊎_elim (λ e. omega arith) (λ e. omega arith) z) kinds in
      queue-told-at a object (n + k) seen (ahead-later sys (word.Queue a) v n (n + k) (found-ahead sys words views holds id v at (word.Queue a) object) more)

-- A lane whose view is u after a step learns the event of a reference that it then has in hand
pub learns-then : (sys : System) (words : List ℕ) (views : List View) (id : ℕ) (v u : View) → get_elem? views id ≡ some v → Holds sys words (set views id u) → (p b k : ℕ) → 0 < p → 0 < many (is_ref p b k) u.hands
    → (event : List ℕ) × Holds sys words (set views id (learned u (ref p b k) event)) × IsGivenEvent sys event × HasPlace p b
learns-then sys words views id v u at holds p b k pos mine =
    let there : get_elem? (set views id u) id ≡ some u = get-set views id v u at in
    let stands = held-stands sys (set views id u) holds.now id u there holds.tokens p b k pos mine in
    let block = (standing sys (set views id u) holds.now id u there holds.tokens p b k stands).0 in
    let taken = (standing sys (set views id u) holds.now id u there holds.tokens p b k stands).1 in (
      holds.now.content p b,
      subst (Holds sys words) (set-set views id u (learned u (ref p b k) (holds.now.content p b))) (learns sys words (set views id u) holds id u there p b k block mine),
      (holds.events.event p b block, content-some sys words (set views id u) holds p b block taken),
      holds.fitting.pools p b block,
    )
