-- What is known beside a record stays when a record is added: the records are xs ++ ys before it, and xs ++ i ∷ ys after it.
use Rattle.std.proofs.Common.{◌≡◌, ℕ, suc, ◌+◌, ◌<◌, ◌≤◌, ◌==◌, nat_le, Bool, true, false, ◌&&◌, cond, List, [], ◌∷◌, ◌++◌, length, take, refl, sym, ◌∙◌, ap, subst, ◌⊎◌, inl, inr, Option, Some, None, arith, length-append, nat_lt, map, ◌-◌}
use Rattle.std.specs.List.{filter}
use Rattle.std.proofs.lemmas.Bool.{and_from, and_parts}
use Rattle.std.proofs.lemmas.List.{take-append-le}
use Rattle.std.proofs.lemmas.Bool.Decides.{nat_tests}
use Rattle.qp_chart.specs.StateTree.{has}
use Rattle.qp_model.specs.declared.systems.System.{System}
use Rattle.qp_model.specs.declared.words.Word.{Word}
use Rattle.qp_model.specs.declared.words.Word.TheVariants as word
use Rattle.qp_model.specs.declared.bodies.Entry.{Entry}
use Rattle.qp_model.specs.declared.bodies.Body.{Body}
use Rattle.qp_model.specs.declared.bodies.Body.TheVariants.{Took, New, Dec, Back, Same}
use Rattle.qp_model.specs.Record.{Item}
use Rattle.qp_model.specs.Told.{Event, Free, Left, Member, for_object, Told}
use Rattle.qp_model.specs.History.{touch, Draws, same_word, drawn_on, drawn_as, total, hist, is_numbered, Touch}
use Rattle.qp_model.specs.Machine.{after}
use Rattle.qp_model.specs.FreeBlocks.{free_blocks}
use Rattle.qp_model.specs.References.{references}
use Rattle.qp_model.specs.Subscribers.{subscribers}
use Rattle.qp_model.specs.Sites.{blocks_of}
use Rattle.qp_model.specs.Knowing.{Facts, free_before, references_after, set_at, given_by, last_given, event_of_entry, event_known, known_of, told, ceiling_after, records_of, ceiling_over, told_lane, told_alone, life_event}
use Rattle.qp_model.specs.Settled.{Settled, AllSettled}
use Rattle.qp_model.proofs.LineLemmas.{same_number}
use Rattle.qp_model.proofs.HistoryLemmas.{hist-draws, hist-other}
use Rattle.qp_model.specs.Places.{is_next}

-- the records of an object in a lane and its continuation
pub records_of-append : (w : Facts) (o c : ℕ) (xs ys : List Item) → records_of w o c (xs ++ ys) ≡ records_of w o c xs ++ records_of w o (ceiling_over c xs) ys
unfolding records_of ceiling_over
records_of-append w o c [] ys = refl
records_of-append w o c (x ∷ xs) ys = go (x.of == o) (records_of-append w o (ceiling_after c x.body) xs ys)
  where
    go : (mine : Bool) → records_of w o (ceiling_after c x.body) (xs ++ ys) ≡ records_of w o (ceiling_after c x.body) xs ++ records_of w o (ceiling_over (ceiling_after c x.body) xs) ys
        → cond mine (told w o c x.body ∷ records_of w o (ceiling_after c x.body) (xs ++ ys)) (records_of w o (ceiling_after c x.body) (xs ++ ys))
        ≡ cond mine (told w o c x.body ∷ records_of w o (ceiling_after c x.body) xs) (records_of w o (ceiling_after c x.body) xs) ++ records_of w o (ceiling_over (ceiling_after c x.body) xs) ys
    go true e = ap (λ rs. told w o c x.body ∷ rs) e
    go false e = e

-- all records of a lane with one more
pub told_lane-append : (w : Facts) (c : ℕ) (is : List Item) (i : Item)
    → told_lane w c (is ++ i ∷ []) ≡ told_lane w c is ++ for_object i.of (told w i.of (ceiling_over c is) i.body) ∷ []
unfolding told_lane ceiling_over
told_lane-append w c [] i = refl
told_lane-append w c (j ∷ js) i = ap (λ ts. for_object j.of (told w j.of c j.body) ∷ ts) (told_lane-append w (ceiling_after c j.body) js i)

-- those of one object among them
pub records_of-told : (w : Facts) (o c : ℕ) (is : List Item) → records_of w o c is ≡ told_alone (filter (λ t. t.of == o) (told_lane w c is))
unfolding records_of told_lane told
records_of-told w o c [] = refl
records_of-told w o c (i ∷ is) = go (i.of == o) refl (records_of-told w o (ceiling_after c i.body) is)
  where
    go : (v : Bool) → (i.of == o) ≡ v → records_of w o (ceiling_after c i.body) is ≡ told_alone (filter (λ t. t.of == o) (told_lane w (ceiling_after c i.body) is))
        → cond v (told w o c i.body ∷ records_of w o (ceiling_after c i.body) is) (records_of w o (ceiling_after c i.body) is)
        ≡ told_alone (cond v (for_object i.of (told w i.of c i.body) ∷ filter (λ t. t.of == o) (told_lane w (ceiling_after c i.body) is)) (filter (λ t. t.of == o) (told_lane w (ceiling_after c i.body) is)))
    go true e later =
        let is_o : i.of ≡ o = grind (arith, nat_tests) in
        rw (later, sym (ap (λ x. told w x c i.body) is_o)) refl
    go false e later = later

pub last_given-append : (b r : ℕ) (e : Option Event) (xs : List Item) (i : Item) → last_given b r e (xs ++ i ∷ []) ≡ given_by b r (last_given b r e xs) i.body
unfolding last_given
last_given-append b r e [] i = refl
last_given-append b r e (x ∷ xs) i = last_given-append b r (given_by b r e x.body) xs i

-- The record added draws the next number of its word, where it draws one; and where it gives out a block or takes it back, no reference
-- made so far is at or behind that edge of its lives.
pub record IsLater (xs : List Item) (i : Item) (ys : List Item) : Type 0 where
  pub next : (w : Word) → drawn_on w (touch i) ≡ true → (is_numbered w (xs ++ ys) ≡ true) × (drawn_as w (total w (xs ++ ys)) (touch i) ≡ true)
  pub fresh : (p b r : ℕ) → drawn_on (word.Pool p) (touch i) ≡ true → r < length (hist (word.Block p b) (xs ++ ys)) → (e : Option Event) → given_by b r e i.body ≡ e

module _ (sys : System) (xs : List Item) (i : Item) (ys : List Item) (later : IsLater xs i ys) where
  -- a word's history is as it was, or has the record at its end
  grows : (w : Word) → (hist w (xs ++ i ∷ ys) ≡ hist w (xs ++ ys)) ⊎ ((drawn_on w (touch i) ≡ true) × (hist w (xs ++ i ∷ ys) ≡ hist w (xs ++ ys) ++ i ∷ []))
  grows w = go (drawn_on w (touch i)) refl
    where
      go : (draws : Bool) → drawn_on w (touch i) ≡ draws → (hist w (xs ++ i ∷ ys) ≡ hist w (xs ++ ys)) ⊎ ((drawn_on w (touch i) ≡ true) × (hist w (xs ++ i ∷ ys) ≡ hist w (xs ++ ys) ++ i ∷ []))
      go true e = inr (e, hist-draws w xs i ys (later.next w e).0 (later.next w e).1)
      go false e = inl (hist-other w xs i ys e)

  longer : (w : Word) (n : ℕ) → n ≤ length (hist w (xs ++ ys)) → n ≤ length (hist w (xs ++ i ∷ ys))
  longer w n le = elim (grows w) [ inl e ↦ rw e le | inr e ↦ rw e.1 (more (hist w (xs ++ ys)) le) ]
    where
      more : (h : List Item) → n ≤ length h → n ≤ length (h ++ i ∷ [])
      more h k = omega (arith, length-append h (i ∷ []), k)

  -- the front of a history stays
  front_stays : (w : Word) (n : ℕ) → n ≤ length (hist w (xs ++ ys)) → take n (hist w (xs ++ i ∷ ys)) ≡ take n (hist w (xs ++ ys))
  front_stays w n le = elim (grows w) [ inl e ↦ ap (take n) e | inr e ↦ ap (take n) e.1 ∙ take-append-le n (hist w (xs ++ ys)) (i ∷ []) le ]

  event_stays : (e : Entry) → (e.pool ≡ 0) ⊎ (e.name < length (hist (word.Block e.pool e.block) (xs ++ ys)))
      → event_of_entry (record { sys = sys; items = xs ++ i ∷ ys }) e ≡ event_of_entry (record { sys = sys; items = xs ++ ys }) e
  unfolding event_of_entry life_event
  event_stays e (inl is) =
      let fixed : (e.pool == 0) ≡ true = grind (arith, nat_tests) in
      rw fixed refl
  event_stays e (inr lt) = go (e.pool == 0)
    where
      pooled : last_given e.block e.name None (hist (word.Pool e.pool) (xs ++ i ∷ ys)) ≡ last_given e.block e.name None (hist (word.Pool e.pool) (xs ++ ys))
      pooled =
          elim (grows (word.Pool e.pool)) [
            | inl same ↦ ap (last_given e.block e.name None) same
            | inr more ↦ ap (last_given e.block e.name None) more.1
                ∙ last_given-append e.block e.name None (hist (word.Pool e.pool) (xs ++ ys)) i
                ∙ later.fresh e.pool e.block e.name more.0 lt (last_given e.block e.name None (hist (word.Pool e.pool) (xs ++ ys)))
          ]

      below_old : nat_lt e.name (length (hist (word.Block e.pool e.block) (xs ++ ys))) ≡ true
      below_old = grind (arith, nat_tests, lt)

      below_new : nat_lt e.name (length (hist (word.Block e.pool e.block) (xs ++ i ∷ ys))) ≡ true
      below_new = let le : suc e.name ≤ length (hist (word.Block e.pool e.block) (xs ++ i ∷ ys)) = longer (word.Block e.pool e.block) (suc e.name) lt in grind (arith, nat_tests, le)

      go : (fixed : Bool)
          → cond fixed (Some (record { sig = e.block; pars = [] }))
          (cond (nat_lt e.name (length (hist (word.Block e.pool e.block) (xs ++ i ∷ ys)))) (last_given e.block e.name None (hist (word.Pool e.pool) (xs ++ i ∷ ys))) None)
          ≡ cond fixed (Some (record { sig = e.block; pars = [] }))
          (cond (nat_lt e.name (length (hist (word.Block e.pool e.block) (xs ++ ys)))) (last_given e.block e.name None (hist (word.Pool e.pool) (xs ++ ys))) None)
      go true = refl
      go false = rw (below_new, below_old) pooled

  pub known-stays : (o c : ℕ) (b : Body) → Settled (xs ++ ys) b
      → known_of (record { sys = sys; items = xs ++ i ∷ ys }) o c b ≡ known_of (record { sys = sys; items = xs ++ ys }) o c b
  unfolding Settled known_of free_before references_after set_at
  known-stays o c (Took f l m e) settled = ap event_known (event_stays e settled)
  known-stays o c (New p n b from sig pars) settled = ap (λ h. Free (length (after (free_blocks (blocks_of sys p)) h).free)) (front_stays (word.Pool p) n settled)
  known-stays o c (Dec p b d k) settled = ap (λ h. Left (length (after references h).names)) (front_stays (word.Block p b) (d + 1) (omega (arith, settled)))
  known-stays o c (Same sig n) settled = ap (λ h. Member (has (after subscribers h).members o)) (front_stays (word.Signal sig) n settled)
  known-stays o c _ settled = refl

  pub settled-stays : (b : Body) → Settled (xs ++ ys) b → Settled (xs ++ i ∷ ys) b
  unfolding Settled
  settled-stays (Took f l m e) settled = elim settled [ inl is ↦ inl is | inr lt ↦ inr (longer (word.Block e.pool e.block) (suc e.name) lt) ]
  settled-stays (New p n b from sig pars) settled = longer (word.Pool p) n settled
  settled-stays (Dec p b d k) settled = longer (word.Block p b) (suc d) settled
  settled-stays (Same sig n) settled = longer (word.Signal sig) n settled
  settled-stays _ settled = tt

  pub all_settled-stays : (lane : List Item) → AllSettled (xs ++ ys) lane → AllSettled (xs ++ i ∷ ys) lane
  unfolding AllSettled
  all_settled-stays [] settled = tt
  all_settled-stays (j ∷ js) settled = (settled-stays j.body settled.0, all_settled-stays js settled.1)

  -- and all records of a lane
  pub told_lane-stays : (c : ℕ) (lane : List Item) → AllSettled (xs ++ ys) lane
      → told_lane (record { sys = sys; items = xs ++ i ∷ ys }) c lane ≡ told_lane (record { sys = sys; items = xs ++ ys }) c lane
  unfolding AllSettled told_lane told
  told_lane-stays c [] settled = refl
  told_lane-stays c (j ∷ js) settled = rw (known-stays j.of c j.body settled.0, told_lane-stays (ceiling_after c j.body) js settled.1) refl

pub same_word-is : (v w : Word) → same_word v w ≡ true → v ≡ w
same_word-is (word.Pool p) (word.Pool q) h = let is : p ≡ q = grind (arith, nat_tests) in ap word.Pool is
same_word-is (word.Block p b) (word.Block q c) h =
    let one : (p == q) ≡ true = (and_parts _ _ h).0 in
    let two : (b == c) ≡ true = (and_parts _ _ h).1 in
    let is_p : p ≡ q = grind (arith, nat_tests) in
    let is_b : b ≡ c = grind (arith, nat_tests) in
    ap (λ x. word.Block x b) is_p ∙ ap (λ x. word.Block q x) is_b
same_word-is (word.Queue a) (word.Queue c) h = let is : a ≡ c = grind (arith, nat_tests) in ap word.Queue is
same_word-is (word.Signal s) (word.Signal t) h = let is : s ≡ t = grind (arith, nat_tests) in ap word.Signal is
same_word-is (word.Timer t) (word.Timer u) h = let is : t ≡ u = grind (arith, nat_tests) in ap word.Timer is
same_word-is (word.Pool p) (word.Block q c) h = cc
same_word-is (word.Pool p) (word.Queue a) h = cc
same_word-is (word.Pool p) (word.Signal s) h = cc
same_word-is (word.Pool p) (word.Timer t) h = cc
same_word-is (word.Block p b) (word.Pool q) h = cc
same_word-is (word.Block p b) (word.Queue a) h = cc
same_word-is (word.Block p b) (word.Signal s) h = cc
same_word-is (word.Block p b) (word.Timer t) h = cc
same_word-is (word.Queue a) (word.Pool q) h = cc
same_word-is (word.Queue a) (word.Block q c) h = cc
same_word-is (word.Queue a) (word.Signal s) h = cc
same_word-is (word.Queue a) (word.Timer t) h = cc
same_word-is (word.Signal s) (word.Pool q) h = cc
same_word-is (word.Signal s) (word.Block q c) h = cc
same_word-is (word.Signal s) (word.Queue a) h = cc
same_word-is (word.Signal s) (word.Timer t) h = cc
same_word-is (word.Timer t) (word.Pool q) h = cc
same_word-is (word.Timer t) (word.Block q c) h = cc
same_word-is (word.Timer t) (word.Queue a) h = cc
same_word-is (word.Timer t) (word.Signal s) h = cc

module _ (xs : List Item) (i : Item) (ys : List Item) where
  -- a record that draws no number is later than all
  pub later-undrawn : ((w : Word) → drawn_on w (touch i) ≡ false) → IsLater xs i ys
  later-undrawn none = record {
    next = λ w draws. let wrong : false ≡ true = sym (none w) ∙ draws in cc;
    fresh = λ p b r draws. let wrong : false ≡ true = sym (none (word.Pool p)) ∙ draws in cc;
  }

  -- one that draws the next number of w, and is no edge of a life, or one at the end of the block's history
  pub later-draws : (w : Word) → touch i ≡ Draws w (suc (total w (xs ++ ys))) → is_numbered w (xs ++ ys) ≡ true
      → ((p b r : ℕ) → w ≡ word.Pool p → r < length (hist (word.Block p b) (xs ++ ys)) → (e : Option Event) → given_by b r e i.body ≡ e) → IsLater xs i ys
  later-draws w draws numbers given = record {
    next = λ v on. subst (λ v. (is_numbered v (xs ++ ys) ≡ true) × (drawn_as v (total v (xs ++ ys)) (touch i) ≡ true)) (same_word-is w v (drawn draws v on))
        (numbers, rw draws (and_from _ _ (same_word-refl w) (same_number (suc (total w (xs ++ ys))))));
    fresh = λ p b r on lt e. given p b r (same_word-is w (word.Pool p) (drawn draws (word.Pool p) on)) lt e;
  }
    where
      drawn : {n : ℕ} → touch i ≡ Draws w n → (v : Word) → drawn_on v (touch i) ≡ true → same_word w v ≡ true
      drawn is v on = rw is at on

      same_word-refl : (w : Word) → same_word w w ≡ true
      same_word-refl (word.Pool p) = same_number p
      same_word-refl (word.Block p b) = and_from _ _ (same_number p) (same_number b)
      same_word-refl (word.Queue a) = same_number a
      same_word-refl (word.Signal s) = same_number s
      same_word-refl (word.Timer t) = same_number t

-- a `new` for a block whose word has had as many operations as it states begins a life of no reference made so far
pub new-fresh : (block : ℕ → ℕ → List Item) (q n c from sig : ℕ) (pars : List ℕ) → from ≡ length (block q c)
    → (p b r : ℕ) → word.Pool q ≡ word.Pool p → r < length (block p b) → (e : Option Event) → given_by b r e (New q n c from sig pars) ≡ e
new-fresh block q n c from sig pars from_is p b r same lt e = go (c == b) refl
  where
    is_p : q ≡ p
    is_p = cc

    go : (is : Bool) → (c == b) ≡ is → cond (is && nat_le from r) (Some (record { sig = sig; pars = pars })) e ≡ e
    go true eq =
        let is_b : c ≡ b = grind (arith, nat_tests) in
        let counted : from ≡ length (block p b) = from_is ∙ ap (λ x. length (block x c)) is_p ∙ ap (λ x. length (block p x)) is_b in
        let above : nat_le from r ≡ false = grind (arith, nat_tests) in
        rw above refl
    go false eq = refl

-- so a `back` ends a life behind all references made so far
pub back-fresh : (block : ℕ → ℕ → List Item) (q n c to : ℕ) → to ≡ length (block q c)
    → (p b r : ℕ) → word.Pool q ≡ word.Pool p → r < length (block p b) → (e : Option Event) → given_by b r e (Back q n c to) ≡ e
back-fresh block q n c to to_is p b r same lt e = go (c == b) refl
  where
    is_p : q ≡ p
    is_p = cc

    go : (is : Bool) → (c == b) ≡ is → cond (is && nat_le to r) None e ≡ e
    go true eq =
        let is_b : c ≡ b = grind (arith, nat_tests) in
        let counted : to ≡ length (block p b) = to_is ∙ ap (λ x. length (block x c)) is_p ∙ ap (λ x. length (block p x)) is_b in
        let above : nat_le to r ≡ false = grind (arith, nat_tests) in
        rw above refl
    go false eq = refl

-- a source's records, told alone
pub told-source : (g : List Told) → told_alone (map (for_object 0) g) ≡ g
told-source [] = refl
told-source (t ∷ ts) = ap (λ x. t ∷ x) (told-source ts)

-- the next record on the word draws its next number
pub next-draws : (w : Word) (before : List Item) (t : Touch) → drawn_on w t ≡ true → is_next before t ≡ true → drawn_as w (total w before) t ≡ true
unfolding is_next
next-draws w before (Draws v mark) on next =
    let is : v ≡ w = same_word-is v w on in
    let same : mark ≡ suc (total v before) = grind (arith, nat_tests, next) in
    let here : mark ≡ suc (total w before) = same ∙ ap (λ u. suc (total u before)) is in
    let test : (mark == suc (total w before)) ≡ true = grind (arith, nat_tests, here) in
    and_from _ _ on test
next-draws w before _ on next = absurd (cc)
