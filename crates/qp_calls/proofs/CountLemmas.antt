-- How often tokens stand in hands and lists.
use Rattle.std.proofs.Common.{◌≡◌, ℕ, ◌+◌, ◌<◌, ◌≤◌, ◌==◌, nat_lt, Bool, true, false, ◌||◌, List, [], ◌∷◌, ◌++◌, map, refl, ◌∙◌, arith, if◌then◌else◌}
use Rattle.std.proofs.lemmas.List.{map-append}
use Rattle.std.proofs.lemmas.Bool.{and_parts, lt-ltb, ltb-true}
use Rattle.std.specs.List.{list_any, list_all}
use Rattle.qp_model.specs.declared.bodies.Entry as model
use Rattle.qp_model.specs.Record.{entry}
use Rattle.qp_model.specs.Parts.{is_static}
use Rattle.qp_calls.specs.declared.tokens.HeldEntry.{HeldEntry}
use Rattle.qp_calls.specs.declared.tokens.HeldEntry.TheVariants as token
use Rattle.qp_calls.specs.Tokens.{Token, Held, same_token, token_of, take_out, stands, with_entry, without_entry, hands_after, hands_by}
use Rattle.qp_calls.specs.LaneView.{LaneView}
use Rattle.qp_calls.specs.Clauses.{EntryStands, entry_of, TakesIt}
use Rattle.qp_calls.specs.Counting.{one_if, times, count_of}
use Rattle.qp_calls.specs.Deferring.{tokens_in, is_named, StandAll}
use Rattle.qp_calls.proofs.HandLemmas.{same-equal, same-self}
use Rattle.qp_calls.proofs.Releasing.{with-pool}
use Rattle.qp_model.proofs.ListLemmas.{all-push}
use Rattle.qp_model.proofs.NumberLemmas.{not-zero}

-- how often an entry is this token
abbrev pub count_in : Token → model.Entry → ℕ
count_in t e = if e.pool == 0 then 0 else one_if (same_token t (token_of e))

pub count-with : (t : Token) (e : model.Entry) (hands : List Token) → count_of t (with_entry e hands) ≡ count_in t e + count_of t hands
unfolding times
count-with t e hands = go (e.pool == 0)
  where
    go : (u : Bool) → count_of t (if u then hands else token_of e ∷ hands) ≡ (if u then 0 else one_if (same_token t (token_of e))) + count_of t hands
    go true = omega arith
    go false = refl

-- a token that is there, taken out
count-take_out : (t x : Token) (hands : List Token) → stands x hands ≡ true → count_of t (take_out x hands) + one_if (same_token t x) ≡ count_of t hands
unfolding stands take_out times
count-take_out t x [] h = absurd (cc)
count-take_out t x (y ∷ ys) h = go (same_token x y) refl h (count-take_out t x ys)
  where
    go : (u : Bool) → same_token x y ≡ u → (u || list_any (λ z. same_token x z) ys) ≡ true
        → (list_any (λ z. same_token x z) ys ≡ true → count_of t (take_out x ys) + one_if (same_token t x) ≡ count_of t ys)
        → count_of t (if u then ys else y ∷ take_out x ys) + one_if (same_token t x) ≡ count_of t (y ∷ ys)
    go true is k ih = let same : x ≡ y = same-equal x y is in rw same (omega arith)
    go false is k ih = let less = ih k in omega (arith, less)

-- an entry may be handed in: it is static, or its reference stands
abbrev pub is_in : model.Entry → List Token → Bool
is_in e hands = (e.pool == 0) || stands (token_of e) hands

pub count-without : (t : Token) (e : model.Entry) (hands : List Token) → is_in e hands ≡ true → count_of t (without_entry e hands) + count_in t e ≡ count_of t hands
count-without t e hands h = go (e.pool == 0) h
  where
    go : (u : Bool) → (u || stands (token_of e) hands) ≡ true
        → count_of t (if u then hands else take_out (token_of e) hands) + (if u then 0 else one_if (same_token t (token_of e))) ≡ count_of t hands
    go true k = omega arith
    go false k = count-take_out t (token_of e) hands k

-- what occurs stands
pub count-stands : (t : Token) (hands : List Token) → 0 < count_of t hands → stands t hands ≡ true
unfolding stands times
count-stands t [] h = absurd (omega arith)
count-stands t (y ∷ ys) h = go (same_token t y) h (count-stands t ys)
  where
    go : (u : Bool) → 0 < one_if u + count_of t ys → (0 < count_of t ys → list_any (λ z. same_token t z) ys ≡ true) → (u || list_any (λ z. same_token t z) ys) ≡ true
    go true k ih = refl
    go false k ih = ih (omega arith)

-- tokens of one more entry at the end
pub tokens-append : (t : Token) (es : List model.Entry) (e : model.Entry) → count_of t (tokens_in (es ++ e ∷ [])) ≡ count_of t (tokens_in es) + count_in t e
tokens-append t [] e = count-with t e [] ∙ omega arith
tokens-append t (x ∷ es) e =
    let front = count-with t x (tokens_in (es ++ e ∷ [])) in
    let back = count-with t x (tokens_in es) in
    omega (arith, front, back, tokens-append t es e)

-- what may be handed in is in the hands
pub stands-in : (e : HeldEntry) (v : LaneView) → EntryStands e v → is_in (entry_of e) v.hands ≡ true
unfolding entry_of
stands-in (token.Static sig) v h = refl
stands-in (token.Pool k) v h = rw (not-zero k.pool h.0) h.1

front-counts : (p b r : ℕ) (hands : List Token) → 0 < p → 0 < count_of (Held p b r) (with_entry (entry p b r) hands)
unfolding times
front-counts p b r hands some = rw (with-pool p b r hands some, same-self (Held p b r)) (omega arith)

-- the first entry of a list may be handed in
pub stand-front : (k : HeldEntry) (ks : List HeldEntry) (v : LaneView) → StandAll (k ∷ ks) v → EntryStands k v
unfolding entry_of
stand-front (token.Static sig) ks v all = (and_parts (is_static v.sys sig) (list_all (λ e. is_named v.sys e) ks) all.named).0
stand-front (token.Pool h) ks v all =
    let some : 0 < h.pool = ltb-true 0 h.pool (and_parts (nat_lt 0 h.pool) (list_all (λ e. is_named v.sys e) ks) all.named).0 in
    let front = front-counts h.pool h.block h.name (tokens_in (map entry_of ks)) some in
    (some, count-stands (Held h.pool h.block h.name) v.hands (omega (arith, front, all.counts (Held h.pool h.block h.name))))

-- without it the others may
pub stand-rest : (k : HeldEntry) (ks : List HeldEntry) (v w : LaneView) → StandAll (k ∷ ks) v → w.hands ≡ without_entry (entry_of k) v.hands → w.sys ≡ v.sys → StandAll ks w
stand-rest k ks v w all hands sys = record {
  named = rw sys (and_parts (is_named v.sys k) (list_all (λ e. is_named v.sys e) ks) all.named).1;
  counts = λ t.
      let less = count-without t (entry_of k) v.hands (stands-in k v (stand-front k ks v all)) in
      let front = count-with t (entry_of k) (tokens_in (map entry_of ks)) in
      rw hands (omega (arith, less, front, all.counts t));
}

-- more in the hands takes nothing away
pub stand-still : (ks : List HeldEntry) (v w : LaneView) → StandAll ks v → ((t : Token) → count_of t v.hands ≤ count_of t w.hands) → w.sys ≡ v.sys → StandAll ks w
stand-still ks v w all more sys = record { named = rw sys all.named; counts = λ t. omega (arith, more t, all.counts t) }

pub stand-same : (ks : List HeldEntry) (v w : LaneView) → StandAll ks v → w.hands ≡ v.hands → w.sys ≡ v.sys → StandAll ks w
stand-same ks v w all hands sys = stand-still ks v w all (λ t. rw hands (omega arith)) sys

pub stands-named : (e : HeldEntry) (v : LaneView) → EntryStands e v → is_named v.sys e ≡ true
stands-named (token.Static sig) v h = h
stands-named (token.Pool k) v h = lt-ltb 0 k.pool h.0

-- one more entry at the end of a list, whose token came to the hands
pub stand-more : (ks : List HeldEntry) (e : HeldEntry) (v w : LaneView) → StandAll ks v → EntryStands e w → w.hands ≡ with_entry (entry_of e) v.hands → w.sys ≡ v.sys → StandAll (ks ++ e ∷ []) w
stand-more ks e v w all stands hands sys = record {
  named = all-push (λ x. is_named w.sys x) ks e (rw sys all.named) (stands-named e w stands);
  counts = λ t.
      let last = tokens-append t (map entry_of ks) (entry_of e) in
      let more = count-with t (entry_of e) v.hands in
      rw (hands, map-append entry_of ks (e ∷ [])) (omega (arith, last, more, all.counts t));
}

-- the others of a list may be handed in too
pub stand-tail : (k : HeldEntry) (ks : List HeldEntry) (v : LaneView) → StandAll (k ∷ ks) v → StandAll ks v
stand-tail k ks v all = record {
  named = (and_parts (is_named v.sys k) (list_all (λ e. is_named v.sys e) ks) all.named).1;
  counts = λ t. let front = count-with t (entry_of k) (tokens_in (map entry_of ks)) in omega (arith, front, all.counts t);
}

-- the hands have the entry that was taken, and the object keeps it
pub taken-hands : (me : ℕ) (e : HeldEntry) (v w : LaneView) → TakesIt me e v w → w.hands ≡ with_entry (entry_of e) v.hands
unfolding hands_after hands_by
taken-hands me e v w t = t.adds.grows.hands

pub none-stand : (v : LaneView) → StandAll [] v
unfolding times
none-stand v = record { named = refl; counts = λ t. omega arith }
