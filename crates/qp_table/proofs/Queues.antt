-- Looks at queues, cells that are laid, and entries that are taken.
use Rattle.std.proofs.Common.{◌≡◌, inr, ℕ, ◌+◌, ◌-◌, ◌*◌, ◌/◌, ◌%◌, ◌<◌, ◌&&◌, ◌||◌, List, [], ◌∷◌, ◌++◌, Bool, true, false, cond, set, get_or, refl, sym, ap, subst, ◌∙◌, arith, eqb, eqb-true, eq-eqb, ne_eqb, mod-eq_of_lt, IsTrue}
use Rattle.std.proofs.lemmas.Bool.{and_parts}
use Rattle.std.specs.List.{list_any}
use lib.Seq.{set-get_or}
use mathlib.Core.Logic.{dite}
use native.Mathlib.Decide.{ℕ_discrete}
use Rattle.atomic_table.proofs.Lists.{set_again}
use Rattle.qp_model.specs.declared.bodies.Entry.{Entry}
use Rattle.qp_model.specs.Sites.{ring_of}
use Rattle.qp_table.specs.Counting.{many}
use Rattle.qp_table.specs.Rule.{queue_at, cell_at, is_ref, is_serve, Holds}
use Rattle.qp_table.specs.After.{rec_of, glanced, noted, learned, laid, emptied}
use Rattle.qp_table.specs.declared.view.Serve.{Serve}
use Rattle.qp_table.specs.declared.view.View.{View}
use Rattle.qp_table.proofs.Counting.{many-snoc}
use Rattle.qp_table.proofs.Marks.{line-shows, own-counts, first-small}
use Rattle.qp_table.proofs.Tokens.{ref-here}
use Rattle.qp_table.specs.QueueLaws.{f_in, l_in, m_in, front_cell}
use Rattle.qp_table.proofs.QueueSteps.{took-says, frees}
use Rattle.qp_table.proofs.Cells.{lays, empties}
use Rattle.qp_table.proofs.Looks.{looks, seen-says, nil-says, shows-seen, shows-nil}
use Rattle.qp_table.proofs.Own.{served-own}
use Rattle.qp_table.specs.Told.{nil_rec, nil_at, freed}
use Rattle.qp_table.specs.StepLaws.{LooksTell, SeenCountsTell, EmptyQueuesTell, LaysTell, SwapsTell, FreesTell}
use Rattle.qp_table.proofs.Found.{queue-told, queue-more, learns-then}

pub looks-tell : LooksTell
looks-tell sys id v a object words views holds at small =
    let n = get_or words (queue_at a) 0 in let i = (holds.fitting.objects a object).0 in (
      glanced v (queue_at a) n,
      subst (λ (ws : List ℕ). Holds sys ws (set views id (glanced v (queue_at a) n))) (sym (set-get_or words (queue_at a) 0)) (looks sys words views holds id v at (queue_at a) (omega arith)),
      (refl, queue-told sys words views holds id v (glanced v (queue_at a) n) at a object refl),
    )

pub seen-tells : SeenCountsTell
seen-tells sys id v room a object words views holds at small =
    let n = get_or words (queue_at a) 0 in
    let r = rec_of 7 0 (a ∷ (n % 2097152) ∷ (n / 2097152 % 2097152) ∷ (n / 4398046511104) ∷ []) in (
      noted v (queue_at a) n r,
      subst (λ (ws : List ℕ). Holds sys ws (set views id (noted v (queue_at a) n r))) (sym (set-get_or words (queue_at a) 0)) (shows-seen sys words views holds id v at room a object 0 r (seen-says a (n % 2097152) (n / 2097152 % 2097152) (n / 4398046511104))),
      (refl, queue-told sys words views holds id v (noted v (queue_at a) n r) at a object refl),
    )

pub nil-tells : EmptyQueuesTell
nil-tells sys id v room a object is_new words views holds at small =
    let n = get_or words (queue_at a) 0 in let i = (holds.fitting.objects a object).0 in
    let z = go (eqb (f_in n + l_in n) (m_in n) && is_new n) refl (omega arith) in (
      nil_at is_new a v n,
      subst (λ (ws : List ℕ). Holds sys ws (set views id (nil_at is_new a v n))) (sym (set-get_or words (queue_at a) 0)) z.0,
      (refl, queue-told sys words views holds id v (nil_at is_new a v n) at a object z.1),
    )
  where
    go : (t : Bool) → (eqb (f_in (get_or words (queue_at a) 0) + l_in (get_or words (queue_at a) 0)) (m_in (get_or words (queue_at a) 0)) && is_new (get_or words (queue_at a) 0)) ≡ t → queue_at a < 4488
        → let n = get_or words (queue_at a) 0 in let u = cond {A = View} t (noted v (queue_at a) n (nil_rec a n)) (glanced v (queue_at a) n) in
        Holds sys words (set views id u) × (u.seen ≡ v.seen ++ record { word = queue_at a; value = n } ∷ [])
    go true e low = let n = get_or words (queue_at a) 0 in
        (shows-nil sys words views holds id v at room a object (nil_rec a n) (nil-says a (n % 2097152) (n / 2097152 % 2097152) (n / 4398046511104)) (eqb-true (f_in n + l_in n) (m_in n) (and_parts (eqb (f_in n + l_in n) (m_in n)) (is_new n) e).0), refl)
    go false e low = (looks sys words views holds id v at (queue_at a) low, refl)

pub lays-tell : LaysTell
lays-tell sys id v a j e object inside mine first words views holds at small = (laid v a j e, lays sys words views holds id v at a object j e inside mine, refl)

pub some-serve : (a : ℕ) (xs : List Serve) → IsTrue (list_any (is_serve a) xs) → 0 < many (is_serve a) xs
some-serve a [] h = absurd (cc)
some-serve a (x ∷ xs) h = go (is_serve a x) h (some-serve a xs)
  where
    go : (t : Bool) → (t || list_any (is_serve a) xs) ≡ true → (list_any (is_serve a) xs ≡ true → 0 < many (is_serve a) xs) → 0 < cond {A = ℕ} t 1 0 + many (is_serve a) xs
    go true h r = omega arith
    go false h r = let z = r h in omega arith

pub swaps-tell : SwapsTell
swaps-tell sys id v a l m object has_log serves l_is m_is idle words views holds at small =
    let own = served-own a holds.now v.logs v.serves serves (holds.queues.home id v at).counts in
    let front : front_cell sys a l m ≡ ((holds.now.line a).m + (ring_of sys a + 1 - 1) * (holds.now.line a).l) % (ring_of sys a + 1) = (λ i. ((m_is ∙ sym own.1) i + (ring_of sys a + 1 - 1) * (l_is ∙ sym own.0) i) % (ring_of sys a + 1)) in
    dite (ℕ_discrete (get_or words (cell_at a (front_cell sys a l m)) 0) 0)
    (λ none_there. (
      v,
      subst (λ (z : List ℕ × List View). Holds sys z.0 z.1) (λ i. (sym (ap (set words (cell_at a (front_cell sys a l m))) (sym none_there) ∙ set-get_or words (cell_at a (front_cell sys a l m)) 0) i, sym (set_again views id v at) i)) holds,
      ((λ _. refl), λ ne. absurd (ne none_there)),
    ))
    (λ full. let r = empties sys words views holds id v at a object has_log (front_cell sys a l m) front full (some-serve a v.serves serves) idle in (
      emptied v a (front_cell sys a l m) r.0,
      r.3,
      ((λ none_there. absurd (full none_there)), λ _. (r.0, r.1, r.2, refl)),
    ))

pub frees-tell : FreesTell
frees-tell sys id v room a j e object serves mine words views holds at small =
    let n = get_or words (queue_at a) 0 in
    let s = line-shows sys words views holds a object in let s0 = s.0 in let s1 = s.1 in let s2 = s.2 in
    let o = own-counts sys words views holds a object in let f = first-small sys words views holds a object in
    let wraps : (n + 4398046511104) % 18446744073709551616 ≡ n + 4398046511104 = mod-eq_of_lt (omega arith) in
    let h : Holds sys (set words (queue_at a) ((n + 4398046511104) % 18446744073709551616)) (set views id (freed a j e v n)) = subst (λ (y : ℕ). Holds sys (set words (queue_at a) y) (set views id (freed a j e v n))) (sym wraps)
    (frees sys words views holds id v at a object room j e _ (took-says a (n % 2097152) (n / 2097152 % 2097152) (n / 4398046511104 + 1) e) mine (some-serve a v.serves serves)) in
    dite (ℕ_discrete e.pool 0)
    (λ static. (
      freed a j e v n,
      h,
      ([], ap (λ (t : Bool). cond {A = View} t (freed a j e v n) (learned (freed a j e v n) e [])) (sym (eq-eqb e.pool 0 static)), queue-more sys words views holds id v (freed a j e v n) at a object 4398046511104 (inr (inr refl)) refl, λ pos. absurd (omega arith)),
    ))
    (λ pooled.
    let off : eqb e.pool 0 ≡ false = ne_eqb e.pool 0 pooled in
    let held : 0 < many (is_ref e.pool e.block e.name) (freed a j e v n).hands = (
    let g = ap (λ (t : Bool). many (is_ref e.pool e.block e.name) (cond {A = List Entry} t v.hands (v.hands ++ e ∷ []))) off in
    let m = many-snoc (is_ref e.pool e.block e.name) v.hands e in
    let one : cond {A = ℕ} (is_ref e.pool e.block e.name e) 1 0 ≡ 1 = ap (λ (t : Bool). cond {A = ℕ} t 1 0) (ref-here e.pool e.block e.name e.name ∙ eq-eqb e.name e.name refl) in omega arith) in
    let l = learns-then sys (set words (queue_at a) ((n + 4398046511104) % 18446744073709551616)) views id v (freed a j e v n) at h e.pool e.block e.name (omega arith) held in (
      learned (freed a j e v n) e l.0,
      l.1,
      (l.0, ap (λ (t : Bool). cond {A = View} t (freed a j e v n) (learned (freed a j e v n) e l.0)) (sym off), queue-more sys words views holds id v (learned (freed a j e v n) e l.0) at a object 4398046511104 (inr (inr refl)) refl, λ pos. (l.2, l.3)),
    ))
