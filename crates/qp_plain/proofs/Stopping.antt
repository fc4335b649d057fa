-- The stop word.
use Rattle.std.proofs.Common.{◌≡◌, ◌≢◌, ℕ, zero, suc, ◌<◌, ◌≤◌, ◌==◌, Bool, true, false, ◌&&◌, ◌||◌, cond, List, [], ◌∷◌, length, map, slice_set, refl, sym, ◌∙◌, ap, subst, arith}
use Rattle.std.specs.List.{list_all, list_any}
use Rattle.std.proofs.lemmas.Bool.{and_from, and_parts, or_right}
use Rattle.std.proofs.lemmas.Bool.Decides.{nat_tests}
use Rattle.qp_calls.specs.LaneView.{Purse, codes_in, no_code, is_codeless}
use Rattle.qp_calls_log.specs.declared.log.Log.{Log}
use Rattle.qp_plain.specs.declared.book.Book.{Book}
use Rattle.qp_plain.specs.Book.{Hands, BookAnswers, logs_of, purse_of, no_purse, purses_of}
use Rattle.qp_plain.specs.Books.{all_logs}
use Rattle.qp_plain.specs.World.{StopIs, fits_stop, was_handed, no_codes}
use Rattle.qp_model.proofs.LineLemmas.{same_number}

all-at : {X : Type 0} (p : X → Bool) (xs : List X) (k : ℕ) (x : X) → k < length xs → list_all p (slice_set xs k x) ≡ true → p x ≡ true
all-at p [] k x lt h = absurd (omega (arith, lt))
all-at p (z ∷ zs) zero x lt h = (and_parts _ _ h).0
all-at p (z ∷ zs) (suc k) x lt h = all-at p zs k x (omega (arith, lt)) (and_parts _ _ h).1

-- what all but one pass, and the new one
all-put : {X : Type 0} (p q : X → Bool) (xs : List X) (k : ℕ) (x y : X) → ((z : X) → p z ≡ true → q z ≡ true) → q y ≡ true → list_all p (slice_set xs k x) ≡ true → list_all q (slice_set xs k y) ≡ true
all-put p q [] k x y more here h = refl
all-put {X} p q (z ∷ zs) zero x y more here h = and_from _ _ here (rest zs (and_parts _ _ h).1)
  where
    rest : (us : List X) → list_all p us ≡ true → list_all q us ≡ true
    rest [] e = refl
    rest (u ∷ us) e = and_from _ _ (more u (and_parts _ _ e).0) (rest us (and_parts _ _ e).1)
all-put p q (z ∷ zs) (suc k) x y more here h = and_from _ _ (more z (and_parts _ _ h).0) (all-put p q zs k x y more here (and_parts _ _ h).1)

any-put : {X : Type 0} (p : X → Bool) (xs : List X) (k : ℕ) (y : X) → k < length xs → p y ≡ true → list_any p (slice_set xs k y) ≡ true
any-put p [] k y lt here = absurd (omega (arith, lt))
any-put p (z ∷ zs) zero y lt here = rw here refl
any-put p (z ∷ zs) (suc k) y lt here = rw (any-put p zs k y (omega (arith, lt)) here) (or_right (p z) true refl)

any-kept : {X : Type 0} (p : X → Bool) (xs : List X) (k : ℕ) (x y : X) → (p x ≡ true → p y ≡ true) → list_any p (slice_set xs k x) ≡ true → list_any p (slice_set xs k y) ≡ true
any-kept p [] k x y keeps h = h
any-kept p (z ∷ zs) zero x y keeps h = go (p x) refl h
  where
    go : (b : Bool) → p x ≡ b → (b || list_any p zs) ≡ true → (p y || list_any p zs) ≡ true
    go true e g = rw (keeps e) refl
    go false e g = rw g (or_right (p y) true refl)
any-kept p (z ∷ zs) (suc k) x y keeps h = go (p z) h (any-kept p zs k x y keeps)
  where
    go : (b : Bool) → (b || list_any p (slice_set zs k x)) ≡ true → (list_any p (slice_set zs k x) ≡ true → list_any p (slice_set zs k y) ≡ true) → (b || list_any p (slice_set zs k y)) ≡ true
    go true g later = refl
    go false g later = later g

pub not-zero : (n : ℕ) → n ≢ 0 → (n == 0) ≡ false
not-zero n h = grind (arith, nat_tests)

hands-logs : (code : ℕ) (old new : Book) → Hands code old new → logs_of new ≡ all_logs old.others.items old.at new.here
hands-logs code old new h = ap (λ xs. all_logs xs new.at new.here) h.others ∙ ap (λ k. all_logs old.others.items k new.here) h.at

found : (stop : ℕ) (g : Log) → (stop == 0) ≡ false → fits_stop stop g ≡ true → list_all (λ c. c == stop) (codes_in g.answered.list) ≡ true
found stop g nz h = subst (λ v. cond v (no_codes g.stops.list && no_codes (codes_in g.answered.list)) (list_all (λ c. c == stop) (codes_in g.answered.list)) ≡ true) nz h

-- The first code is handed in.
pub stop-first : (code : ℕ) (old new : Book) → Hands code old new → 0 < code → code ≤ 7 → old.at < length old.others.items → StopIs 0 (logs_of old) → StopIs code (logs_of new)
stop-first code old new h some few lt is = record {
  few = few;
  fits = ap (list_all (fits_stop code)) (hands-logs code old new h) ∙ all-put (fits_stop 0) (fits_stop code) old.others.items old.at old.here new.here loosen here is.fits;
  handed = rw (nz, ap (list_any (was_handed code)) (hands-logs code old new h), any-put (was_handed code) old.others.items old.at new.here lt handed) refl;
}
  where
    nz : (code == 0) ≡ false
    nz = not-zero code (omega (arith, some))

    none-all : (cs : List ℕ) → no_codes cs ≡ true → list_all (λ c. c == code) cs ≡ true
    none-all [] e = refl
    none-all (c ∷ cs) e = absurd (cc)

    loosen : (g : Log) → fits_stop 0 g ≡ true → fits_stop code g ≡ true
    loosen g e = rw nz (none-all (codes_in g.answered.list) (and_parts (no_codes g.stops.list) (no_codes (codes_in g.answered.list)) e).1)

    before : fits_stop 0 old.here ≡ true
    before = all-at (fits_stop 0) old.others.items old.at old.here lt is.fits

    here : fits_stop code new.here ≡ true
    here = rw (nz, h.answered) (none-all (codes_in old.here.answered.list) (and_parts (no_codes old.here.stops.list) (no_codes (codes_in old.here.answered.list)) before).1)

    handed : was_handed code new.here ≡ true
    handed = rw (h.stops, same_number code) refl

-- A later one changes nothing.
pub stop-later : (stop code : ℕ) (old new : Book) → Hands code old new → stop ≢ 0 → old.at < length old.others.items → StopIs stop (logs_of old) → StopIs stop (logs_of new)
stop-later stop code old new h set lt is = record {
  few = is.few;
  fits = ap (list_all (fits_stop stop)) (hands-logs code old new h) ∙ all-put (fits_stop stop) (fits_stop stop) old.others.items old.at old.here new.here (λ g e. e) here is.fits;
  handed = rw (nz, ap (list_any (was_handed stop)) (hands-logs code old new h)) (any-kept (was_handed stop) old.others.items old.at old.here new.here keeps was);
}
  where
    nz : (stop == 0) ≡ false
    nz = not-zero stop set

    was : list_any (was_handed stop) (logs_of old) ≡ true
    was = subst (λ v. (v || list_any (was_handed stop) (logs_of old)) ≡ true) nz is.handed

    keeps : was_handed stop old.here ≡ true → was_handed stop new.here ≡ true
    keeps e = rw (h.stops, e) (or_right (code == stop) true refl)

    here : fits_stop stop new.here ≡ true
    here = rw (nz, h.answered) (found stop old.here nz (all-at (fits_stop stop) old.others.items old.at old.here lt is.fits))

-- What the lane chosen found is the code.
pub stop-answered : (stop : ℕ) (old new : Book) → BookAnswers stop old new → stop ≢ 0 → old.at < length old.others.items → StopIs stop (logs_of old) → StopIs stop (logs_of new)
stop-answered stop old new h set lt is = record {
  few = is.few;
  fits = ap (list_all (fits_stop stop)) same ∙ all-put (fits_stop stop) (fits_stop stop) old.others.items old.at old.here new.here (λ g e. e) here is.fits;
  handed = rw (nz, ap (list_any (was_handed stop)) same) (any-kept (was_handed stop) old.others.items old.at old.here new.here (λ e. rw h.stops e) was);
}
  where
    same : logs_of new ≡ all_logs old.others.items old.at new.here
    same = ap (λ xs. all_logs xs new.at new.here) h.others ∙ ap (λ k. all_logs old.others.items k new.here) h.at

    nz : (stop == 0) ≡ false
    nz = not-zero stop set

    was : list_any (was_handed stop) (logs_of old) ≡ true
    was = subst (λ v. (v || list_any (was_handed stop) (logs_of old)) ≡ true) nz is.handed

    here : fits_stop stop new.here ≡ true
    here = rw (h.answered, nz, same_number stop) (found stop old.here nz (all-at (fits_stop stop) old.others.items old.at old.here lt is.fits))

-- Where the word is 0, the lane chosen found none.
none-answered : (old new : Book) → BookAnswers 0 old new → old.at < length old.others.items → StopIs 0 (logs_of old) → StopIs 0 (logs_of new)
none-answered old new h lt is = record {
  few = is.few;
  fits = ap (list_all (fits_stop 0)) same ∙ all-put (fits_stop 0) (fits_stop 0) old.others.items old.at old.here new.here (λ g e. e) here is.fits;
  handed = refl;
}
  where
    same : logs_of new ≡ all_logs old.others.items old.at new.here
    same = ap (λ xs. all_logs xs new.at new.here) h.others ∙ ap (λ k. all_logs old.others.items k new.here) h.at

    here : fits_stop 0 new.here ≡ true
    here = rw (h.stops, h.answered) (all-at (fits_stop 0) old.others.items old.at old.here lt is.fits)

-- whatever it found
pub stop-asked : (stop : ℕ) (old new : Book) → BookAnswers stop old new → old.at < length old.others.items → StopIs stop (logs_of old) → StopIs stop (logs_of new)
stop-asked zero old new h lt is = none-answered old new h lt is
stop-asked (suc n) old new h lt is = stop-answered (suc n) old new h (λ e. omega (arith, e)) lt is

-- Where the word is 0, no lane handed in a code or found one.
pub nothing-handed : (old : Book) → old.at < length old.others.items → StopIs 0 (logs_of old) → (old.here.stops.list ≡ []) × (codes_in old.here.answered.list ≡ [])
nothing-handed old lt is =
    let both = and_parts (no_codes old.here.stops.list) (no_codes (codes_in old.here.answered.list)) (all-at (fits_stop 0) old.others.items old.at old.here lt is.fits) in
    (empty old.here.stops.list both.0, empty (codes_in old.here.answered.list) both.1)
  where
    empty : (cs : List ℕ) → no_codes cs ≡ true → cs ≡ []
    empty [] e = refl
    empty (c ∷ cs) e = absurd (cc)

pub all-answered : (stop : ℕ) (old : Book) → stop ≢ 0 → old.at < length old.others.items → StopIs stop (logs_of old) → list_all (λ c. c == stop) (codes_in old.here.answered.list) ≡ true
all-answered stop old set lt is = found stop old.here (not-zero stop set) (all-at (fits_stop stop) old.others.items old.at old.here lt is.fits)

-- none is in the purses where the stop word is 0
pub purses-codeless : (b : Book) → StopIs 0 (logs_of b) → list_all is_codeless (purses_of b) ≡ true
purses-codeless b is = left (map purse_of (logs_of b)) b.at (all-codeless (logs_of b) is.fits)
  where
    same : (cs : List ℕ) → no_codes cs ≡ no_code cs
    same [] = refl
    same (c ∷ cs) = refl

    all-codeless : (gs : List Log) → list_all (fits_stop 0) gs ≡ true → list_all is_codeless (map purse_of gs) ≡ true
    all-codeless [] h = refl
    all-codeless (g ∷ gs) h = and_from _ _ (rw (sym (same g.stops.list), sym (same (codes_in g.answered.list))) (and_parts _ _ h).0) (all-codeless gs (and_parts _ _ h).1)

    left : (ps : List Purse) (k : ℕ) → list_all is_codeless ps ≡ true → list_all is_codeless (slice_set ps k no_purse) ≡ true
    left [] k h = refl
    left (p ∷ ps) zero h = (and_parts _ _ h).1
    left (p ∷ ps) (suc k) h = and_from _ _ (and_parts _ _ h).0 (left ps k (and_parts _ _ h).1)
