-- A queue's word when an entry is posted, taken or seen.
use Rattle.std.proofs.Common.{◌≡◌, ℕ, suc, ◌+◌, ◌-◌, ◌≤◌, ◌==◌, nat_le, true, List, [], ◌∷◌, ◌++◌, length, drop, refl, sym, ap, arith, length-append}
use Rattle.std.proofs.lemmas.Bool.{and_from, and_parts}
use Rattle.std.proofs.lemmas.Bool.Decides.{nat_tests}
use Rattle.qp_model.specs.declared.record.Rec.{Rec}
use Rattle.qp_model.specs.declared.words.Word.TheVariants as word
use Rattle.qp_model.specs.declared.bodies.Entry.{Entry}
use Rattle.qp_model.specs.declared.bodies.Body.{Body}
use Rattle.qp_model.specs.declared.bodies.Body.TheVariants.{Post, Lifo, Took, Nil, Seen, Full, NoEntry, NoLifo}
use Rattle.qp_model.specs.Record.{Item, item_of}
use Rattle.qp_model.specs.Line.{Line, line, line_may, line_next, same_entry, is_front, counts_are}
use Rattle.qp_model.specs.Machine.{after, is_allowed}
use Rattle.qp_model.proofs.MachineLemmas.{Counts, after-keeps}
use Rattle.qp_model.proofs.WordLemmas.{Held, held-draws, held-shows}

pub same_number : (a : ℕ) → (a == a) ≡ true
same_number a = grind (arith, nat_tests)

pub same_entry-refl : (e : Entry) → same_entry e e ≡ true
same_entry-refl e = rw (same_number e.pool, same_number e.block, same_number e.name) refl

line_rises : (ring : ℕ) (s : Line) (b : Body) → line_may ring s b ≡ true
    → let t : Line = line_next s b in t.f + t.l + t.m ≡ suc (s.f + s.l + s.m)
line_rises ring s (Post a f l m e) h = omega arith
line_rises ring s (Lifo f l m e) h = omega arith
line_rises ring s (Took f l m e) h = omega arith
line_rises ring s _ h = cc

pub line-counts : (ring : ℕ) → Counts Line (line ring)
line-counts ring = record { begins = refl; rises = λ s i h. line_rises ring s i.body h }

-- what a line is: its entries are those posted and not yet taken, and they fit the ring and the place of the front
pub record IsLine (ring : ℕ) (s : Line) : Type 0 where
  pub counted : length s.entries + s.m ≡ s.f + s.l
  pub fits : length s.entries ≤ ring + 1

line_stays : (ring : ℕ) (s : Line) (b : Body) → line_may ring s b ≡ true → IsLine ring s → IsLine ring (line_next s b)
line_stays ring s (Post a f l m e) h is =
    let room : nat_le (length s.entries) ring ≡ true = (and_parts _ _ h).1 in
    let le : length s.entries ≤ ring = grind (arith, nat_tests) in
    record { counted = omega (arith, length-append s.entries (e ∷ []), is.counted); fits = omega (arith, length-append s.entries (e ∷ [])) }
line_stays ring s (Lifo f l m e) h is =
    let room : nat_le (length s.entries) ring ≡ true = (and_parts _ _ h).1 in
    let le : length s.entries ≤ ring = grind (arith, nat_tests) in
    record { counted = omega (arith, is.counted); fits = omega arith }
line_stays ring s (Took f l m e) h is = go s.entries (and_parts _ _ h).1 is.counted is.fits
  where
    go : (es : List Entry) → is_front e es ≡ true → length es + s.m ≡ s.f + s.l → length es ≤ ring + 1 → IsLine ring (record { entries = drop 1 es; f = s.f; l = s.l; m = s.m + 1 })
    go [] front c k = cc
    go (x ∷ xs) front c k = record { counted = omega (arith, c); fits = omega (arith, k) }
line_stays ring s _ h is = cc

pub line_is : (ring : ℕ) (history : List Item) → is_allowed (line ring) history ≡ true → IsLine ring (after (line ring) history)
line_is ring history h = after-keeps (line ring) (IsLine ring) (λ s i may is. line_stays ring s i.body may is) (record { counted = refl; fits = omega arith }) history h

-- A record at the end of a lane that stands among others, for the queue of a, which has this line now.
module _ (before : List (List Rec)) (lane : List Rec) (behind : List (List Rec)) (r : Rec) (ring a : ℕ) (s : Line)
    (old : Held Line (line ring) (word.Queue a) (before ++ lane ∷ behind) s) where
  -- one entry more, where one is free
  pub held-post : (o : ℕ) (e : Entry) → item_of r ≡ record { of = o; body = Post a (s.f + 1) s.l s.m e } → length s.entries ≤ ring
      → Held Line (line ring) (word.Queue a) (before ++ (lane ++ r ∷ []) ∷ behind) (record { entries = s.entries ++ e ∷ []; f = s.f + 1; l = s.l; m = s.m })
  held-post o e is room =
      held-draws before lane behind r _ is (line ring) (word.Queue a) s (line-counts ring) old
      (and_from _ _ (same_number a) (grind (arith, nat_tests)))
      (let fits : nat_le (length s.entries) ring ≡ true = grind (arith, nat_tests) in
      rw (same_number (s.f + 1), same_number s.l, same_number s.m) fits)

  -- one entry more in front
  pub held-lifo : (e : Entry) → item_of r ≡ record { of = a; body = Lifo s.f (s.l + 1) s.m e } → length s.entries ≤ ring
      → Held Line (line ring) (word.Queue a) (before ++ (lane ++ r ∷ []) ∷ behind) (record { entries = e ∷ s.entries; f = s.f; l = s.l + 1; m = s.m })
  held-lifo e is room =
      held-draws before lane behind r _ is (line ring) (word.Queue a) s (line-counts ring) old
      (and_from _ _ (same_number a) (grind (arith, nat_tests)))
      (let fits : nat_le (length s.entries) ring ≡ true = grind (arith, nat_tests) in
      rw (same_number s.f, same_number (s.l + 1), same_number s.m) fits)

  -- the front is taken
  pub held-took : (e : Entry) (rest : List Entry) → item_of r ≡ record { of = a; body = Took s.f s.l (s.m + 1) e } → s.entries ≡ e ∷ rest
      → Held Line (line ring) (word.Queue a) (before ++ (lane ++ r ∷ []) ∷ behind) (record { entries = rest; f = s.f; l = s.l; m = s.m + 1 })
  held-took e rest is front =
      let new : Held Line (line ring) (word.Queue a) (before ++ (lane ++ r ∷ []) ∷ behind) (record { entries = drop 1 s.entries; f = s.f; l = s.l; m = s.m + 1 }) =
      held-draws before lane behind r _ is (line ring) (word.Queue a) s (line-counts ring) old
      (and_from _ _ (same_number a) (grind (arith, nat_tests)))
      (rw (same_number s.f, same_number s.l, same_number (s.m + 1), front) (same_entry-refl e)) in
      rw (sym (ap (drop 1) front)) new

  counted : counts_are s.f s.l s.m s ≡ true
  counted = rw (same_number s.f, same_number s.l, same_number s.m) refl

  -- its counts are seen
  pub held-seen : (o : ℕ) → item_of r ≡ record { of = o; body = Seen a s.f s.l s.m } → Held Line (line ring) (word.Queue a) (before ++ (lane ++ r ∷ []) ∷ behind) s
  held-seen o is =
      held-shows before lane behind r _ is (line ring) (word.Queue a) s (line-counts ring) old (rw (same_number a) refl) (same_number a) counted

  -- it is found empty
  pub held-nil : item_of r ≡ record { of = a; body = Nil s.f s.l s.m } → s.f + s.l ≡ s.m → Held Line (line ring) (word.Queue a) (before ++ (lane ++ r ∷ []) ∷ behind) s
  held-nil is empty =
      let none : (s.f + s.l == s.m) ≡ true = grind (arith, nat_tests) in
      held-shows before lane behind r _ is (line ring) (word.Queue a) s (line-counts ring) old (rw (same_number a) refl) (same_number a) (and_from _ _ counted none)

  -- at most the margin is free
  pub held-full : (o margin : ℕ) → item_of r ≡ record { of = o; body = Full a s.f s.l s.m margin } → ring + 1 - (s.f + s.l - s.m) ≤ margin
      → Held Line (line ring) (word.Queue a) (before ++ (lane ++ r ∷ []) ∷ behind) s
  held-full o margin is few =
      let short : nat_le (ring + 1 - (s.f + s.l - s.m)) margin ≡ true = grind (arith, nat_tests) in
      held-shows before lane behind r _ is (line ring) (word.Queue a) s (line-counts ring) old (rw (same_number a) refl) (same_number a) (and_from _ _ counted short)

  -- it is full, for a post and for a last-in post
  pub held-no_entry : (o : ℕ) → item_of r ≡ record { of = o; body = NoEntry a s.f s.l s.m } → s.f + s.l - s.m ≡ ring + 1
      → Held Line (line ring) (word.Queue a) (before ++ (lane ++ r ∷ []) ∷ behind) s
  held-no_entry o is full =
      let all : (s.f + s.l - s.m == ring + 1) ≡ true = grind (arith, nat_tests) in
      held-shows before lane behind r _ is (line ring) (word.Queue a) s (line-counts ring) old (rw (same_number a) refl) (same_number a) (and_from _ _ counted all)

  pub held-no_lifo : (o : ℕ) → item_of r ≡ record { of = o; body = NoLifo a s.f s.l s.m } → s.f + s.l - s.m ≡ ring + 1
      → Held Line (line ring) (word.Queue a) (before ++ (lane ++ r ∷ []) ∷ behind) s
  held-no_lifo o is full =
      let all : (s.f + s.l - s.m == ring + 1) ≡ true = grind (arith, nat_tests) in
      held-shows before lane behind r _ is (line ring) (word.Queue a) s (line-counts ring) old (rw (same_number a) refl) (same_number a) (and_from _ _ counted all)
