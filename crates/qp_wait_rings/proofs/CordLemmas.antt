-- A lane whose posts ring, behind more records.
use Rattle.std.proofs.Common.{◌≡◌, ℕ, ◌+◌, ◌%◌, ◌^◌, ◌<◌, ◌≤◌, ◌==◌, nat_lt, Bool, true, false, not, ◌||◌, List, [], ◌∷◌, ◌++◌, map, length, take, append-nil, get_or, slice_get, slice_set, zero, suc, cond, refl, sym, ◌∙◌, ap, subst, arith, Option, Some, None, IsTrue}
use Rattle.std.proofs.Math.ListN.{drop}
use Rattle.std.specs.List.{count_by, find, list_any}
use Rattle.std.proofs.lemmas.Bool.{and_parts}
use Rattle.std.proofs.lemmas.List.{length-map}
use Rattle.qp_model.proofs.AbleLemmas.{some-same}
use Rattle.std.specs.Option.{is_some}
use Rattle.std.proofs.lemmas.Bool.Decides.{nat_tests}
use Rattle.qp_model.specs.declared.bodies.Body.{Body}
use Rattle.qp_model.specs.declared.bodies.Body.TheVariants.{Post, Lifo, Full, NoEntry, NoLifo, Spill}
use Rattle.qp_model.specs.declared.systems.System.{System}
use Rattle.qp_model.specs.declared.systems.ObjectDef.{ObjectDef}
use Rattle.qp_model.specs.Ends.{is_spill}
use Rattle.qp_model.specs.Sites.{object_at}
use Rattle.qp_model.specs.Sources.{priorities}
use Rattle.qp_model.specs.Told.{Told, ToldItem, for_object, plain}
use Rattle.qp_model.specs.WordLaw.{is_object}
use Rattle.qp_calls.specs.declared.tokens.HeldEntry.{HeldEntry}
use Rattle.qp_calls.specs.declared.answers.Claim.{Claim}
use Rattle.qp_calls.specs.declared.answers.Claim.TheVariants as claim
use Rattle.qp_wait_bells.specs.declared.tally.Tally.{Tally}
use Rattle.qp_calls.specs.Clauses.{ClaimsEntry, ClaimsFront, PostsIt, PostsNot, PutsFront, PutsNot, entry_of}
use Rattle.qp_calls.specs.LaneLaws.{IsWithinLimit}
use Rattle.qp_calls.specs.LaneView.{AddsOf, LaneView}
use Rattle.qp_model.proofs.NumberLemmas.{count-append}
use Rattle.qp_wait_rings.specs.declared.cord.Cord.{Cord}
use Rattle.qp_wait_rings.specs.Cords.{AreLoose, RingsOne, SettlesClaim, are_unpulled, notes_given, has_cord}
use Rattle.qp_wait_rings.specs.Records.{has_posted, is_claim, is_post_on, tells_refusal, is_refused, rings_nothing, posts_on}
use Rattle.qp_wait_rings.specs.Rung.{HasRung}
use Rattle.qp_wait_rings.proofs.Counting.{count-more, count-none, count-one}
use Rattle.qp_wait_rings.proofs.Quiet.{Grown, Quietly}

-- What silent records aren't.

not-post : (a o : ℕ) (b : Body) → not (has_posted b || is_refused b) ≡ true → is_post_on a o b ≡ false
not-post a o (Post to f l m e) h = absurd (cc)
not-post a o (Lifo f l m e) h = absurd (cc)
not-post a o _ h = refl

not-claim : (x : Bool) → not x ≡ true → x ≡ false
not-claim false h = refl
not-claim true h = absurd (cc)

not-refused : (x y : Bool) → not (x || y) ≡ true → y ≡ false
not-refused x false h = refl
not-refused true true h = absurd (cc)
not-refused false true h = absurd (cc)

-- Records of a kind are at most all but a `spill`.

claim-plain : (b : Body) → (has_posted b || is_refused b) ≡ true → not (is_spill b) ≡ true
claim-plain (Spill n) h = absurd (cc)
claim-plain _ h = refl

refused-plain : (b : Body) → is_refused b ≡ true → not (is_spill b) ≡ true
refused-plain (Spill n) h = absurd (cc)
refused-plain _ h = refl

post-plain : (a o : ℕ) (b : Body) → is_post_on a o b ≡ true → not (is_spill b) ≡ true
post-plain a o (Spill n) h = absurd (cc)
post-plain a o _ h = refl

few-of : (p : ToldItem → Bool) (v : LaneView) → ((t : ToldItem) → p t ≡ true → not (is_spill t.told.body) ≡ true) → IsWithinLimit v → count_by p v.told + v.spare ≤ 1000000
few-of p v plain within =
    let more = count-more p (λ t. not (is_spill t.told.body)) v.told plain in
    omega (arith, more, within)

pub few-posts : (a : ℕ) (v : LaneView) → IsWithinLimit v → count_by (posts_on a) v.told + v.spare ≤ 1000000
few-posts a v within = few-of (posts_on a) v (λ t. post-plain a t.of t.told.body) within

pub few-claims : (v : LaneView) → IsWithinLimit v → count_by is_claim v.told + v.spare ≤ 1000000
few-claims v within = few-of is_claim v (λ t. claim-plain t.told.body) within

pub few-refusals : (v : LaneView) → IsWithinLimit v → count_by tells_refusal v.told + v.spare ≤ 1000000
few-refusals v within = few-of tells_refusal v (λ t. refused-plain t.told.body) within

-- The lane goes on.

module _ (opened refused : ℕ) (cords : List Cord) (v w : LaneView) (h : HasRung opened refused cords v) where
  counted : (p : ToldItem → Bool) (g : Grown v w) → count_by p w.told ≡ count_by p v.told + count_by p g.ts
  counted p g = ap (λ ts. count_by p ts) g.told ∙ count-append p v.told g.ts

  same-count : (p : ToldItem → Bool) (q : Quietly v w) → ((t : ToldItem) → rings_nothing t ≡ true → p t ≡ false) → count_by p w.told ≡ count_by p v.told
  same-count p q apart = let all = counted p q.grown in let none = count-none p rings_nothing q.grown.ts apart q.silent in omega (arith, all, none)

  -- by calls that add neither a post nor a refusal
  pub rung-still : Quietly v w → HasRung opened refused cords w
  rung-still q = record {
    objects = h.objects ∙ ap priorities (sym q.grown.sys);
    rang = λ a. h.rang a ∙ sym (same-count (posts_on a) q (λ t. not-post a t.of t.told.body));
    opened_is = h.opened_is ∙ sym (same-count is_claim q (λ t. not-claim (is_claim t)));
    refused_is = h.refused_is ∙ sym (same-count tells_refusal q (λ t. not-refused (has_posted t.told.body) (is_refused t.told.body)));
  }

  -- by a post
  module _ (a o : ℕ) (t : Told) (adds : AddsOf o (t ∷ []) v w) (claims : (has_posted t.body || is_refused t.body) ≡ true) where
    abbrev one : Grown v w
    one = record { sys = adds.grows.sys; ts = for_object o t ∷ []; told = adds.grows.told }

    one-count : (p : ToldItem → Bool) (b : Bool) → p (for_object o t) ≡ b → count_by p w.told ≡ count_by p v.told + cond b 1 0
    one-count p b is = counted p one ∙ ap (λ n. count_by p v.told + n) (count-one p (for_object o t) b is)

    opened-more : opened + 1 ≡ count_by is_claim w.told
    opened-more = let more = one-count is_claim true claims in let was = h.opened_is in omega (arith, more, was)

    pub rung-posted : (more : List Cord) → is_refused t.body ≡ false → is_post_on a o t.body ≡ true → ((b : ℕ) → (a == b) ≡ false → is_post_on b o t.body ≡ false)
        → map (λ c. c.object) more ≡ map (λ c. c.object) cords → notes_given a more ≡ (notes_given a cords + 1) % 2 ^ 64
        → ((b : ℕ) → (a == b) ≡ false → notes_given b more ≡ notes_given b cords) → count_by (posts_on a) v.told < 1000000 → HasRung (opened + 1) refused more w
    rung-posted more taken mine others objects its rest few = record {
      objects = objects ∙ h.objects ∙ ap priorities (sym one.sys);
      rang = λ b. by b (a == b) refl;
      opened_is = opened-more;
      refused_is = let same = one-count tells_refusal false taken in let was = h.refused_is in omega (arith, same, was);
    }
      where
        by : (b : ℕ) (test : Bool) → (a == b) ≡ test → notes_given b more ≡ count_by (posts_on b) w.told
        by b false other = rest b other ∙ h.rang b ∙ (let same = one-count (posts_on b) false (others b other) in omega (arith, same))
        by b true same =
            let here : a ≡ b = grind (arith, nat_tests, same) in
            subst (λ k. notes_given k more ≡ count_by (posts_on k) w.told) here
            (let up = one-count (posts_on a) true mine in let was = h.rang a in omega (arith, up, was, its, few))

    pub rung-refused : is_refused t.body ≡ true → ((b : ℕ) → is_post_on b o t.body ≡ false) → HasRung (opened + 1) (refused + 1) cords w
    rung-refused taken none = record {
      objects = h.objects ∙ ap priorities (sym one.sys);
      rang = λ b. h.rang b ∙ (let same = one-count (posts_on b) false (none b) in omega (arith, same));
      opened_is = opened-more;
      refused_is = let more = one-count tells_refusal true taken in let was = h.refused_is in omega (arith, more, was);
    }

  -- The two calls that post.

  self-test : (n : ℕ) → (n == n) ≡ true
  self-test n = grind (arith, nat_tests)

  module _ (a : ℕ) (more : List Cord) (rings : RingsOne a cords more) (within : IsWithinLimit v) (room : 0 < v.spare) where
    few : count_by (posts_on a) v.told < 1000000
    few = let most = few-posts a v within in omega (arith, most, room)

    pub claimed : (e : HeldEntry) (margin : Option ℕ) → PostsIt a e margin v w → HasRung (opened + 1) refused more w
    claimed e margin p = rung-posted a v.by (plain (Post a p.f p.l p.m (entry_of e))) p.adds refl more refl (self-test a) (λ b other. other) rings.objects rings.its rings.others few

    pub put-front : (e : HeldEntry) → a ≡ v.by → PutsFront e v w → HasRung (opened + 1) refused more w
    put-front e mine p =
        let here : (v.by == a) ≡ true = subst (λ n. (n == a) ≡ true) mine (self-test a) in
        rung-posted a v.by (plain (Lifo p.f p.l p.m (entry_of e))) p.adds refl more refl here (λ b other. subst (λ n. (n == b) ≡ false) mine other) rings.objects rings.its rings.others few

  pub claim-refused : (to : ℕ) (e same : HeldEntry) (margin : Option ℕ) (f l m : ℕ) → PostsNot to e same margin f l m v w → HasRung (opened + 1) (refused + 1) cords w
  claim-refused to e same (Some k) f l m p = rung-refused to v.by (plain (Full to f l m k)) p.adds refl refl (λ b. refl)
  claim-refused to e same None f l m p = rung-refused to v.by (plain (NoEntry to f l m)) p.adds refl refl (λ b. refl)

  pub front-refused : (e same : HeldEntry) (f l m : ℕ) → PutsNot e same f l m v w → HasRung (opened + 1) (refused + 1) cords w
  front-refused e same f l m p = rung-refused v.by v.by (plain (NoLifo v.by f l m)) p.adds refl refl (λ b. refl)

  -- a claim that was settled
  module _ (within : IsWithinLimit v) (room : 0 < v.spare) (later : ℕ) (one : later ≡ opened + 1) (more : List Cord) (refused_now : ℕ) (was is : Tally) where
    pub claim-settled : (to : ℕ) (e : HeldEntry) (margin : Option ℕ) (r : Claim) → ClaimsEntry to e margin v w r → SettlesClaim to cords more refused refused_now was is r → HasRung later refused_now more w
    claim-settled to e margin claim.Done p s = subst (λ n. HasRung n refused_now more w) (sym one) (subst (λ n. HasRung (opened + 1) n more w) (sym s.refused_is) (claimed to more s.cords within room e margin p))
    claim-settled to e margin (claim.Short same f l m) p s =
        subst (λ n. HasRung n refused_now more w) (sym one)
        (subst (λ n. HasRung (opened + 1) n more w) (sym s.refused_is) (subst (λ cs. HasRung (opened + 1) (refused + 1) cs w) (sym s.cords) (claim-refused to e same margin f l m p)))

    pub front-settled : (a : ℕ) (e : HeldEntry) (r : Claim) → a ≡ v.by → ClaimsFront e v w r → SettlesClaim a cords more refused refused_now was is r → HasRung later refused_now more w
    front-settled a e claim.Done mine p s = subst (λ n. HasRung n refused_now more w) (sym one) (subst (λ n. HasRung (opened + 1) n more w) (sym s.refused_is) (put-front a more s.cords within room e mine p))
    front-settled a e (claim.Short same f l m) mine p s =
        subst (λ n. HasRung n refused_now more w) (sym one)
        (subst (λ n. HasRung (opened + 1) n more w) (sym s.refused_is) (subst (λ cs. HasRung (opened + 1) (refused + 1) cs w) (sym s.cords) (front-refused e same f l m p)))

-- what the seat took off, behind a claim that was settled
pub settled-taken : (a : ℕ) (old new : List Cord) (refused more : ℕ) (was is : Tally) (r : Claim) → was.taken ≡ refused → SettlesClaim a old new refused more was is r → is.taken ≡ more
settled-taken a old new refused more was is claim.Done same s = ap (λ m. m.taken) s.taken ∙ same ∙ sym s.refused_is
settled-taken a old new refused more was is (claim.Short e f l m) same s = ap (λ m. m.taken) s.taken ∙ ap (λ n. n + 1) same ∙ sym s.refused_is

pub settled-added : (a : ℕ) (old new : List Cord) (refused more : ℕ) (was is : Tally) (r : Claim) → SettlesClaim a old new refused more was is r → is.added ≡ was.added
settled-added a old new refused more was is claim.Done s = ap (λ m. m.added) s.taken
settled-added a old new refused more was is (claim.Short e f l m) s = ap (λ m. m.added) s.taken

-- the object has a cord

has-of : (a : ℕ) (cords : List Cord) → list_any (λ p. p == a) (map (λ c. c.object) cords) ≡ has_cord a cords
has-of a [] = refl
has-of a (c ∷ cs) = ap (λ b. (c.object == a) || b) (has-of a cs)

found-any : (a : ℕ) (ds : List ObjectDef) → is_some (find (λ d. d.priority == a) ds) ≡ true → list_any (λ p. p == a) (map (λ d. d.priority) ds) ≡ true
found-any a [] h = absurd (cc)
found-any a (d ∷ ds) h = by (d.priority == a) h (found-any a ds)
  where
    by : (b : Bool) → is_some (cond b (Some d) (find (λ e. e.priority == a) ds)) ≡ true
        → (is_some (find (λ e. e.priority == a) ds) ≡ true → list_any (λ p. p == a) (map (λ e. e.priority) ds) ≡ true) → (b || list_any (λ p. p == a) (map (λ e. e.priority) ds)) ≡ true
    by true h rest = refl
    by false h rest = rest h

pub cord-there : (a : ℕ) (cords : List Cord) (sys : System) → map (λ c. c.object) cords ≡ priorities sys → IsTrue (is_object sys a) → has_cord a cords ≡ true
unfolding is_object object_at
cord-there a cords sys objects is = sym (has-of a cords) ∙ ap (list_any (λ p. p == a)) objects ∙ found-any a sys.objects is

-- Notes to one object, cord by cord.

module _ (a : ℕ) (c d : Cord) (cs : List Cord) where
  -- here
  pub rings-here : (c.object == a) ≡ true → d.object ≡ c.object → d.pulls ≡ (c.pulls + 1) % 2 ^ 64 → RingsOne a (c ∷ cs) (d ∷ cs)
  rings-here is same up = record {
    objects = ap (λ o. o ∷ map (λ x. x.object) cs) same;
    its = let there : (d.object == a) ≡ true = subst (λ o. (o == a) ≡ true) (sym same) is in rw (there, is) up;
    others = λ b other.
        let mine : c.object ≡ a = grind (arith, nat_tests, is) in
        let no : (c.object == b) ≡ false = subst (λ o. (o == b) ≡ false) (sym mine) other in
        let none : (d.object == b) ≡ false = subst (λ o. (o == b) ≡ false) (sym same) no in
        rw (none, no) refl;
  }

  -- or behind it
  pub rings-later : (ds : List Cord) → (c.object == a) ≡ false → RingsOne a cs ds → RingsOne a (c ∷ cs) (c ∷ ds)
  rings-later ds apart h = record {
    objects = ap (λ os. c.object ∷ os) h.objects;
    its = rw apart h.its;
    others = λ b other. by b (c.object == b) (h.others b other);
  }
    where
      by : (b : ℕ) (test : Bool) → notes_given b ds ≡ notes_given b cs → cond test c.pulls (notes_given b ds) ≡ cond test c.pulls (notes_given b cs)
      by b true same = refl
      by b false same = same

-- what stands at a place
pub got : (cs : List Cord) (i : ℕ) (c : Cord) → i < length cs → c ≡ get_or cs i c → slice_get cs i ≡ Some c
got [] i c less is = absurd (omega (arith, less))
got (x ∷ cs) zero c less is = ap Some (sym is)
got (x ∷ cs) (suc i) c less is = got cs i c (omega (arith, less)) is

-- at the first place of the object
pub rings-at : (a : ℕ) (cs : List Cord) (i : ℕ) (c d : Cord) → slice_get cs i ≡ Some c → ((k : ℕ) (x : Cord) → k < i → slice_get cs k ≡ Some x → (x.object == a) ≡ false)
    → (c.object == a) ≡ true → d.object ≡ c.object → d.pulls ≡ (c.pulls + 1) % 2 ^ 64 → RingsOne a cs (slice_set cs i d)
rings-at a [] i c d at none is same up = absurd (cc)
rings-at a (x ∷ cs) zero c d at none is same up =
    let here : x ≡ c = some-same at in
    subst (λ z. RingsOne a (z ∷ cs) (d ∷ cs)) (sym here) (rings-here a c d cs is same up)
rings-at a (x ∷ cs) (suc i) c d at none is same up =
    rings-later a x d cs (slice_set cs i d) (none 0 x (omega arith) refl) (rings-at a cs i c d at (λ k y less there. none (suc k) y (omega (arith, less)) there) is same up)

pub none-more : (a : ℕ) (cs : List Cord) (n : ℕ) (c : Cord) → ((k : ℕ) (x : Cord) → k < n → slice_get cs k ≡ Some x → (x.object == a) ≡ false) → slice_get cs n ≡ Some c → (c.object == a) ≡ false
    → (k : ℕ) (x : Cord) → k < n + 1 → slice_get cs k ≡ Some x → (x.object == a) ≡ false
none-more a cs n c before at apart k x less there = by (nat_lt k n) refl
  where
    by : (b : Bool) → nat_lt k n ≡ b → (x.object == a) ≡ false
    by true below = before k x (grind (arith, nat_tests, below)) there
    by false above =
        let most : n ≤ k = grind (arith, nat_tests, above) in
        let here : k ≡ n = omega (arith, most, less) in
        let same : c ≡ x = some-same (sym at ∙ subst (λ m. slice_get cs m ≡ Some x) here there) in
        subst (λ (y : Cord). (y.object == a) ≡ false) same apart

-- it stands somewhere
pub somewhere : (a : ℕ) (cs : List Cord) → ((k : ℕ) (x : Cord) → k < length cs → slice_get cs k ≡ Some x → (x.object == a) ≡ false) → has_cord a cs ≡ true → ⊥
somewhere a [] none has = absurd (cc)
somewhere a (x ∷ cs) none has = somewhere a cs (λ k y less there. none (suc k) y (omega (arith, less)) there) (by (x.object == a) (none 0 x (omega arith) refl) has)
  where
    by : (b : Bool) → b ≡ false → (b || has_cord a cs) ≡ true → has_cord a cs ≡ true
    by true wrong has = absurd (cc)
    by false is has = has

-- The first n gave one note more each.
abbrev pub HavePulled : ℕ → List Cord → List Cord → Type 0
HavePulled zero cs ds = ds ≡ cs
HavePulled (suc n) [] ds = ds ≡ []
HavePulled (suc n) (c ∷ cs) [] = ⊥
HavePulled (suc n) (c ∷ cs) (d ∷ ds) = (d.object ≡ c.object) × (d.pulls ≡ (c.pulls + 1) % 2 ^ 64) × HavePulled n cs ds

pub pulled-one : (n : ℕ) (cs ds : List Cord) (d e : Cord) → HavePulled n cs ds → slice_get ds n ≡ Some d → e.object ≡ d.object → e.pulls ≡ (d.pulls + 1) % 2 ^ 64 → HavePulled (suc n) cs (slice_set ds n e)
pulled-one zero cs [] d e h at same up = absurd (cc)
pulled-one zero [] (x ∷ ds) d e h at same up = absurd (cc)
pulled-one zero (c ∷ cs) (x ∷ ds) d e h at same up =
    let here : x ≡ d = some-same at in
    let first : x ≡ c = ap (λ zs. get_or zs 0 x) h in
    let rest : ds ≡ cs = ap (drop 1) h in
    (same ∙ ap (λ z. z.object) (sym here ∙ first), up ∙ ap (λ z. (z.pulls + 1) % 2 ^ 64) (sym here ∙ first), rest)
pulled-one (suc n) [] ds d e h at same up = absurd (let none : slice_get [] (suc n) ≡ Some d = subst (λ zs. slice_get zs (suc n) ≡ Some d) h at in cc)
pulled-one (suc n) (c ∷ cs) [] d e h at same up = absurd h
pulled-one (suc n) (c ∷ cs) (x ∷ ds) d e h at same up = (h.0, h.1, pulled-one n cs ds d e h.2 at same up)

pub all-pulls : (cs ds : List Cord) → HavePulled (length cs) cs ds → map (λ c. c.pulls) ds ≡ map (λ c. (c.pulls + 1) % 2 ^ 64) cs
all-pulls [] ds h = ap (map (λ c. c.pulls)) h
all-pulls (c ∷ cs) [] h = absurd h
all-pulls (c ∷ cs) (d ∷ ds) h = let rest = all-pulls cs ds h.2 in (λ i. h.1 i ∷ rest i)

pub all-objects : (cs ds : List Cord) → HavePulled (length cs) cs ds → map (λ c. c.object) ds ≡ map (λ c. c.object) cs
all-objects [] ds h = ap (map (λ c. c.object)) h
all-objects (c ∷ cs) [] h = absurd h
all-objects (c ∷ cs) (d ∷ ds) h = let rest = all-objects cs ds h.2 in (λ i. h.0 i ∷ rest i)

-- A lane begins to ring.

drop-all : {A : Type 0} (xs : List A) → drop (length xs) xs ≡ []
drop-all [] = refl
drop-all (x ∷ xs) = drop-all xs

none-in : (a : ℕ) (cs : List Cord) → are_unpulled cs ≡ true → notes_given a cs ≡ 0
none-in a [] h = refl
none-in a (c ∷ cs) h =
    let parts = and_parts (c.pulls == 0) (are_unpulled cs) h in
    let one = parts.0 in
    by (c.object == a) (grind (arith, nat_tests, one)) (none-in a cs parts.1)
  where
    by : (b : Bool) → c.pulls ≡ 0 → notes_given a cs ≡ 0 → cond b c.pulls (notes_given a cs) ≡ 0
    by true none rest = none
    by false none rest = rest

pub rung-begun : (cords : List Cord) (v : LaneView) → v.told ≡ [] → AreLoose v.sys cords → HasRung 0 0 cords v
rung-begun cords v none loose =
    record {
      objects = loose.objects;
      rang = λ a. none-in a cords loose.none ∙ sym (ap (count_by (posts_on a)) none);
      opened_is = sym (ap (count_by is_claim) none);
      refused_is = sym (ap (count_by tells_refusal) none);
    }

-- A list of cords that was lent, and comes back as long.

take-all : {A : Type 0} (xs : List A) → take (length xs) xs ≡ xs
take-all [] = refl
take-all (x ∷ xs) = ap (λ ys. x ∷ ys) (take-all xs)

pub whole : {A : Type 0} (n : ℕ) (xs ys : List A) → n ≡ length ys → length xs ≡ length ys → take n (xs ++ drop (length xs) ys) ≡ xs
whole n xs ys len same =
    ap (λ k. take n (xs ++ drop k ys)) same ∙ ap (λ zs. take n (xs ++ zs)) (drop-all ys) ∙ ap (take n) (append-nil xs) ∙ ap (λ k. take k xs) (len ∙ sym same) ∙ take-all xs

pub long-as : (cs ds : List Cord) → map (λ c. c.object) ds ≡ map (λ c. c.object) cs → length ds ≡ length cs
long-as cs ds same = sym (length-map ds (λ c. c.object)) ∙ ap length same ∙ length-map cs (λ c. c.object)

pub settled-long : (a : ℕ) (old new : List Cord) (refused more : ℕ) (was is : Tally) (r : Claim) → SettlesClaim a old new refused more was is r → length new ≡ length old
settled-long a old new refused more was is claim.Done s = long-as old new s.cords.objects
settled-long a old new refused more was is (claim.Short e f l m) s = ap length s.cords
