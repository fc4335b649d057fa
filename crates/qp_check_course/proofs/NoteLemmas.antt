-- Notes and other single records, and what is read of them.
use Rattle.std.proofs.Common.{◌≡◌, ℕ, ◌+◌, ◌==◌, max, true, false, ◌&&◌, refl, ◌∙◌, ap, subst, Some}
use Rattle.std.proofs.lemmas.Bool.{and_from, eqb-true, and_parts, false≢true}
use Rattle.std.proofs.lemmas.Option.{none-some, same_Some}
use Rattle.qp_model.specs.declared.bodies.Entry.{Entry}
use Rattle.qp_model.specs.declared.bodies.Body.{Body}
use Rattle.qp_model.specs.declared.bodies.Body.TheVariants as item
use Rattle.qp_model.specs.Told as told
use Rattle.qp_model.specs.Told.{Told, Event, Known, plain, raised, told_took, dropped}
use Rattle.qp_check_course.specs.Note.{Note, Begin, Run, Unhandled, Exit, Enter, Init, Done, Say, Unlock, body_of_note, note_in, same_note, is_noted, tells, raised_from, entry_and_event_taken, dropped_by, comes_back}
use Rattle.qp_model.proofs.KernelLaneLemmas.{granted}
use Rattle.qp_model.proofs.LineLemmas.{same_number}

-- a record by its parts
abbrev pub record_of : Body → Known → Told
record_of body known = record { body = body; known = known }

same-is : (n m : Note) → same_note n m ≡ true → n ≡ m
unfolding same_note
same-is Begin Begin h = refl
same-is (Run s k) (Run t j) h =
    let one : s ≡ t = eqb-true s t (and_parts (s == t) (k == j) h).0 in
    let two : k ≡ j = eqb-true k j (and_parts (s == t) (k == j) h).1 in
    cc
same-is Unhandled Unhandled h = refl
same-is (Exit s) (Exit t) h = ap Exit (eqb-true s t h)
same-is (Enter s) (Enter t) h = ap Enter (eqb-true s t h)
same-is (Init s) (Init t) h = ap Init (eqb-true s t h)
same-is Done Done h = refl
same-is (Say v) (Say w) h = ap Say (eqb-true v w h)
same-is (Unlock c) (Unlock d) h = ap Unlock (eqb-true c d h)
same-is n m h = absurd (false≢true h)

is-same : (n : Note) → same_note n n ≡ true
unfolding same_note
is-same Begin = refl
is-same (Run s k) = and_from (s == s) (k == k) (same_number s) (same_number k)
is-same Unhandled = refl
is-same (Exit s) = same_number s
is-same (Enter s) = same_number s
is-same (Init s) = same_number s
is-same Done = refl
is-same (Say v) = same_number v
is-same (Unlock c) = same_number c

note-body : (b : Body) (n : Note) → is_noted (note_in b) n ≡ true → b ≡ body_of_note n
unfolding note_in
note-body item.Begin n h = ap body_of_note (same-is Begin n h)
note-body (item.Run s k) n h = ap body_of_note (same-is (Run s k) n h)
note-body item.Unhandled n h = ap body_of_note (same-is Unhandled n h)
note-body (item.Exit s) n h = ap body_of_note (same-is (Exit s) n h)
note-body (item.Enter s) n h = ap body_of_note (same-is (Enter s) n h)
note-body (item.Init s) n h = ap body_of_note (same-is (Init s) n h)
note-body item.Done n h = ap body_of_note (same-is Done n h)
note-body (item.Say v) n h = ap body_of_note (same-is (Say v) n h)
note-body (item.Unlock c) n h = ap body_of_note (same-is (Unlock c) n h)
note-body b n h = absurd (false≢true h)

body-note : (n : Note) → note_in (body_of_note n) ≡ Some n
unfolding note_in
body-note Begin = refl
body-note (Run s k) = refl
body-note Unhandled = refl
body-note (Exit s) = refl
body-note (Enter s) = refl
body-note (Init s) = refl
body-note Done = refl
body-note (Say v) = refl
body-note (Unlock c) = refl

-- a record tells a note exactly where it is the note's record
pub tells-is : (n : Note) (body : Body) (known : Known) → tells n body known ≡ true → record_of body known ≡ plain (body_of_note n)
unfolding tells
tells-is n body told.Nothing h = ap plain (note-body body n h)
tells-is n body known h = absurd (false≢true h)

pub is-tells : (n : Note) → tells n (body_of_note n) told.Nothing ≡ true
unfolding tells
is-tells n = rw (body-note n) (is-same n)

pub raised-is : (ceiling former : ℕ) (body : Body) (known : Known) → raised_from ceiling body known ≡ Some former → record_of body known ≡ raised (max former ceiling) former
unfolding raised_from
raised-is ceiling former (item.Lock r) (told.Former f) h =
    let at = granted (r == max f ceiling) f former h in
    let same : f ≡ former = at.1 in
    let top : r ≡ max f ceiling = eqb-true r (max f ceiling) at.0 in
    subst (λ x. record_of (item.Lock r) (told.Former f) ≡ raised (max x ceiling) x) same (ap (λ x. raised x f) top)
raised-is ceiling former body known h = absurd (none-some _ h)

pub is-raised : (ceiling former : ℕ) → raised_from ceiling (item.Lock (max former ceiling)) (told.Former former) ≡ Some former
unfolding raised_from
is-raised ceiling former = rw (same_number (max former ceiling)) refl

pub taken-is : (e : Entry) (ev : Event) (body : Body) (known : Known) → entry_and_event_taken body known ≡ Some (e, ev)
    → (f l m : ℕ) × (record_of body known ≡ told_took f l m e ev)
unfolding entry_and_event_taken
taken-is e ev (item.Took f l m d) (told.OfEvent w) h =
    let entry : d ≡ e = ap (λ (x : Entry × Event). x.0) (same_Some _ _ h) in
    let event : w ≡ ev = ap (λ (x : Entry × Event). x.1) (same_Some _ _ h) in
    (f, l, m, subst (λ x. record_of (item.Took f l m d) (told.OfEvent w) ≡ told_took f l m x ev) entry (ap (λ x. told_took f l m d x) event))
taken-is e ev body known h = absurd (none-some _ h)

pub dropped-is : (e : Entry) (x : ℕ × ℕ) (body : Body) (known : Known) → dropped_by e body known ≡ Some x
    → record_of body known ≡ dropped e.pool e.block x.0 e.name x.1
unfolding dropped_by
dropped-is e x (item.Dec p b d k) (told.Left left) h =
    let at = granted ((p == e.pool) && (b == e.block) && (k == e.name)) (d, left) x h in
    let name : k ≡ e.name = eqb-true k e.name (and_parts ((p == e.pool) && (b == e.block)) (k == e.name) at.0).1 in
    let front : ((p == e.pool) && (b == e.block)) ≡ true = (and_parts ((p == e.pool) && (b == e.block)) (k == e.name) at.0).0 in
    let pool : p ≡ e.pool = eqb-true p e.pool (and_parts (p == e.pool) (b == e.block) front).0 in
    let block : b ≡ e.block = eqb-true b e.block (and_parts (p == e.pool) (b == e.block) front).1 in
    subst (λ y. dropped p b d k left ≡ dropped e.pool e.block y.0 e.name y.1) at.1
    (ap (λ z. dropped z b d k left) pool ∙ ap (λ z. dropped e.pool z d k left) block ∙ ap (λ z. dropped e.pool e.block d z left) name)
dropped-is e x body known h = absurd (none-some _ h)

pub is-dropped : (e : Entry) (d left : ℕ) → dropped_by e (item.Dec e.pool e.block d e.name) (told.Left left) ≡ Some (d, left)
unfolding dropped_by
is-dropped e d left = rw (same_number e.pool, same_number e.block, same_number e.name) refl

pub back-is : (p b d : ℕ) (body : Body) (known : Known) → comes_back p b d body known ≡ true → (n : ℕ) × (record_of body known ≡ plain (item.Back p n b (d + 1)))
unfolding comes_back
back-is p b d (item.Back q n c to) told.Nothing h =
    let last : to ≡ d + 1 = eqb-true to (d + 1) (and_parts ((q == p) && (c == b)) (to == d + 1) h).1 in
    let front : ((q == p) && (c == b)) ≡ true = (and_parts ((q == p) && (c == b)) (to == d + 1) h).0 in
    let pool : q ≡ p = eqb-true q p (and_parts (q == p) (c == b) front).0 in
    let block : c ≡ b = eqb-true c b (and_parts (q == p) (c == b) front).1 in
    (n, ap (λ z. plain (item.Back z n c to)) pool ∙ ap (λ z. plain (item.Back p n z to)) block ∙ ap (λ z. plain (item.Back p n b z)) last)
back-is p b d body known h = absurd (false≢true h)

pub is-back : (p b d n : ℕ) → comes_back p b d (item.Back p n b (d + 1)) told.Nothing ≡ true
unfolding comes_back
is-back p b d n = rw (same_number p, same_number b, same_number (d + 1)) refl
