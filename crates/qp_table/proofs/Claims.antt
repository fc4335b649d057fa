-- Posts: a look at the queue's word, and tries to claim an entry.
use Rattle.std.proofs.Common.{◌≡◌, ◌≢◌, inl, inr, ℕ, ◌+◌, ◌-◌, ◌*◌, ◌/◌, ◌%◌, ◌<◌, ◌≤◌, List, [], ◌∷◌, ◌++◌, Bool, true, false, cond, set, get_or, refl, sym, ap, subst, ◌∙◌, arith, eqb, leb, leb-true, eqb-true, eq-eqb, ne_eqb, IsTrue}
use mathlib.Core.Option.{some}
use mathlib.Core.Logic.{dite}
use native.Mathlib.Decide.{ℕ_discrete}
use lib.Seq.{set-get_or}
use lib.ListN.{get_elem?}
use Rattle.std.specs.Prelude.{Some, None}
use Rattle.std.specs.declared.option.Option.{Option}
use Rattle.std.specs.Option.{unwrap_or}
use Rattle.qp_model.specs.declared.systems.System.{System}
use Rattle.qp_model.specs.declared.words.Word.TheVariants as word
use Rattle.qp_model.specs.Sites.{ring_of}
use Rattle.qp_model.specs.WordLaw.{is_object}
use Rattle.qp_table.specs.Rule.{queue_at, mark_in, Holds}
use Rattle.qp_table.specs.After.{rec_of, glanced, noted, HasRoom}
use Rattle.qp_table.specs.declared.view.View.{View}
use Rattle.qp_table.proofs.Marks.{line-shows}
use Rattle.qp_table.proofs.QueueSteps.{post-says, lifo-says, claims, lifos}
use Rattle.qp_table.proofs.Looks.{looks, full-says, no_entry-says, no_lifo-says, shows-full, shows-no_entry, shows-no_lifo}
use Rattle.qp_table.specs.Words.{value_seen, Ahead}
use Rattle.qp_table.proofs.Facts.{found-ahead}
use Rattle.qp_table.specs.Told.{free_in, refusal_rec, eyed_for, claimed_at, QueueTold, eyed_last, before_front, put_first_at}
use Rattle.qp_table.specs.StepLaws.{EyesTell, TriesTell, LastEyesTell, LastTriesTell}
use Rattle.qp_table.proofs.Found.{queue-told, queue-more}
use Rattle.qp_table.proofs.Queues.{some-serve}

-- a word that is no longer the value seen last shows more operations
more-seen : (sys : System) (a : ℕ) (v : View) (old x : ℕ) → value_seen sys (word.Queue a) v.seen ≡ old → Ahead sys (word.Queue a) v x → x ≢ old → mark_in (queue_at a) old < mark_in (queue_at a) x
more-seen sys a v old x last ahead ne = dite (ℕ_discrete (mark_in (queue_at a) old) (mark_in (queue_at a) x))
    (λ m. absurd (ne (sym (ahead.same (ap (mark_in (queue_at a)) last ∙ m)) ∙ last)))
    (λ m. let l : mark_in (queue_at a) old ≤ mark_in (queue_at a) x = subst (λ z. mark_in (queue_at a) z ≤ mark_in (queue_at a) x) last ahead.le in omega arith)

module _ (sys : System) (id : ℕ) (v : View) (own : HasRoom v) (a : ℕ) (object : IsTrue (is_object sys a)) (words : List ℕ) (views : List View) (holds : Holds sys words views) (at : get_elem? views id ≡ some v) where
  abbrev found : ℕ
  found = get_or words (queue_at a) 0

  -- where none is free, the queue has as many entries as cells
  full-at : free_in (ring_of sys a) found ≤ 0 → found % 2097152 + found / 2097152 % 2097152 - found / 4398046511104 ≡ ring_of sys a + 1
  full-at few = let s = line-shows sys words views holds a object in let s0 = s.0 in let s1 = s.1 in let s2 = s.2 in
      let q = holds.queues.queue a object in let c = q.counted in let sh = q.short in omega arith

  refused : (o : ℕ) (margin : Option ℕ) → free_in (ring_of sys a) found ≤ unwrap_or margin 0 → Holds sys words (set views id (noted v (queue_at a) found (refusal_rec margin o a found)))
  refused o (Some k) few = shows-full sys words views holds id v at own a object o k _ (full-says o a (found % 2097152) (found / 2097152 % 2097152) (found / 4398046511104) k) few
  refused o None few = shows-no_entry sys words views holds id v at own a object o _ (no_entry-says o a (found % 2097152) (found / 2097152 % 2097152) (found / 4398046511104)) (full-at few)

  pub eye-holds : (o : ℕ) (margin : Option ℕ) → Holds sys words (set views id (eyed_for (ring_of sys a) a o margin v found)) × ((eyed_for (ring_of sys a) a o margin v found).seen ≡ v.seen ++ record { word = queue_at a; value = found } ∷ [])
  eye-holds o margin = let i = (holds.fitting.objects a object).0 in go (leb (free_in (ring_of sys a) found) (unwrap_or margin 0)) refl (omega arith)
    where
      go : (t : Bool) → leb (free_in (ring_of sys a) found) (unwrap_or margin 0) ≡ t → queue_at a < 4488 → let u = cond {A = View} t (noted v (queue_at a) found (refusal_rec margin o a found)) (glanced v (queue_at a) found) in
          Holds sys words (set views id u) × (u.seen ≡ v.seen ++ record { word = queue_at a; value = found } ∷ [])
      go true e low = (refused o margin (leb-true _ (unwrap_or margin 0) e), refl)
      go false e low = (looks sys words views holds id v at (queue_at a) low, refl)

  pub last-holds : Holds sys words (set views id (eyed_last (ring_of sys a) a v found)) × ((eyed_last (ring_of sys a) a v found).seen ≡ v.seen ++ record { word = queue_at a; value = found } ∷ [])
  last-holds = let i = (holds.fitting.objects a object).0 in go (eqb (free_in (ring_of sys a) found) 0) refl (omega arith)
    where
      go : (t : Bool) → eqb (free_in (ring_of sys a) found) 0 ≡ t → queue_at a < 4488
          → let u = cond {A = View} t (noted v (queue_at a) found (rec_of 42 a (5 ∷ a ∷ (found % 2097152) ∷ (found / 2097152 % 2097152) ∷ (found / 4398046511104) ∷ []))) (glanced v (queue_at a) found) in
          Holds sys words (set views id u) × (u.seen ≡ v.seen ++ record { word = queue_at a; value = found } ∷ [])
      go true e low = (shows-no_lifo sys words views holds id v at own a object a _ (no_lifo-says a a (found % 2097152) (found / 2097152 % 2097152) (found / 4398046511104)) (full-at (let z = eqb-true (free_in (ring_of sys a) found) 0 e in omega arith)), refl)
      go false e low = (looks sys words views holds id v at (queue_at a) low, refl)

  same-word : (u : View) → Holds sys words (set views id u) → Holds sys (set words (queue_at a) found) (set views id u)
  same-word u h = subst (λ (ws : List ℕ). Holds sys ws (set views id u)) (sym (set-get_or words (queue_at a) 0)) h

pub eyes-tell : EyesTell
eyes-tell sys id v own a object o margin words views holds at small =
    let x = get_or words (queue_at a) 0 in let u = eyed_for (ring_of sys a) a o margin v x in let h = eye-holds sys id v own a object words views holds at o margin in
    (u, same-word sys id v own a object words views holds at u h.0, (refl, queue-told sys words views holds id v u at a object h.1))

pub tries-tell : TriesTell
tries-tell sys id v own a object o margin e old mine last free words views holds at small =
    let x = get_or words (queue_at a) 0 in
    dite (ℕ_discrete (get_or words (queue_at a) 0) old)
    (λ same.
    let here : Holds sys (set words (queue_at a) (old + 1)) (set views id (claimed_at (ring_of sys a) a o e v old)) = subst (λ (z : ℕ). Holds sys (set words (queue_at a) (z + 1)) (set views id (claimed_at (ring_of sys a) a o e v z))) same
    (claims sys words views holds id v at a object own o e _ (post-says o a (x % 2097152 + 1) (x / 2097152 % 2097152) (x / 4398046511104) e) mine (subst (λ (z : ℕ). z % 2097152 + z / 2097152 % 2097152 < z / 4398046511104 + (ring_of sys a + 1)) (sym same) (omega arith))) in
    let told : QueueTold sys a v (claimed_at (ring_of sys a) a o e v x) x (x + 1) = queue-more sys words views holds id v (claimed_at (ring_of sys a) a o e v x) at a object 1 (inl refl) refl in (
      claimed_at (ring_of sys a) a o e v old,
      rw (eq-eqb (get_or words (queue_at a) 0) old same) here,
      ((λ _. (refl, subst (λ (z : ℕ). QueueTold sys a v (claimed_at (ring_of sys a) a o e v z) z (z + 1)) same told)), λ ne. absurd (ne same)),
    ))
    (λ ne.
    let u = eyed_for (ring_of sys a) a o margin v x in let h = eye-holds sys id v own a object words views holds at o margin in (
      u,
      rw (ne_eqb (get_or words (queue_at a) 0) old ne) (same-word sys id v own a object words views holds at u h.0),
      ((λ e. absurd (ne e)), λ _. (more-seen sys a v old x last (found-ahead sys words views holds id v at (word.Queue a) object) ne, (refl, queue-told sys words views holds id v u at a object h.1))),
    ))

pub last-eyes-tell : LastEyesTell
last-eyes-tell sys id v own a object words views holds at small =
    let x = get_or words (queue_at a) 0 in let u = eyed_last (ring_of sys a) a v x in let h = last-holds sys id v own a object words views holds at in
    (u, same-word sys id v own a object words views holds at u h.0, (refl, queue-told sys words views holds id v u at a object h.1))

pub last-tries-tell : LastTriesTell
last-tries-tell sys id v own a object e old mine serves idle last free words views holds at small =
    let x = get_or words (queue_at a) 0 in
    let s = line-shows sys words views holds a object in
    dite (ℕ_discrete (get_or words (queue_at a) 0) old)
    (λ same.
    let front : before_front sys a x ≡ ((holds.now.line a).m + (ring_of sys a + 1 - 1) * (holds.now.line a).l + (ring_of sys a + 1 - 1)) % (ring_of sys a + 1) = (λ i. (s.2 i + (ring_of sys a + 1 - 1) * s.1 i + (ring_of sys a + 1 - 1)) % (ring_of sys a + 1)) in
    let here : Holds sys (set words (queue_at a) (old + 2097152)) (set views id (put_first_at sys a e v old)) = subst (λ (z : ℕ). Holds sys (set words (queue_at a) (z + 2097152)) (set views id (put_first_at sys a e v z))) same
    (lifos sys words views holds id v at a object own (before_front sys a x) e _ (lifo-says a (x % 2097152) (x / 2097152 % 2097152 + 1) (x / 4398046511104) e) front mine (subst (λ (z : ℕ). z % 2097152 + z / 2097152 % 2097152 < z / 4398046511104 + (ring_of sys a + 1)) (sym same) (omega arith)) (some-serve a v.serves serves) idle) in
    let told : QueueTold sys a v (put_first_at sys a e v x) x (x + 2097152) = queue-more sys words views holds id v (put_first_at sys a e v x) at a object 2097152 (inr (inl refl)) refl in (
      put_first_at sys a e v old,
      rw (eq-eqb (get_or words (queue_at a) 0) old same) here,
      ((λ _. (refl, subst (λ (z : ℕ). QueueTold sys a v (put_first_at sys a e v z) z (z + 2097152)) same told)), λ ne. absurd (ne same)),
    ))
    (λ ne.
    let u = eyed_last (ring_of sys a) a v x in let h = last-holds sys id v own a object words views holds at in (
      u,
      rw (ne_eqb (get_or words (queue_at a) 0) old ne) (same-word sys id v own a object words views holds at u h.0),
      ((λ e. absurd (ne e)), λ _. (more-seen sys a v old x last (found-ahead sys words views holds id v at (word.Queue a) object) ne, (refl, queue-told sys words views holds id v u at a object h.1))),
    ))
