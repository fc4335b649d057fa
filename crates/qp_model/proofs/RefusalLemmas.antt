-- Why a refusal shows its numbers.
use Rattle.std.proofs.Common.{◌≡◌, ℕ, ◌+◌, ◌-◌, ◌≤◌, ◌==◌, nat_le, Bool, true, not, ◌&&◌, cond, List, [], ◌∷◌, ◌++◌, length, take, drop, refl, sym, ◌∙◌, subst, arith}
use Rattle.std.specs.List.{list_all}
use Rattle.std.proofs.lemmas.Bool.{and_parts}
use Rattle.std.proofs.lemmas.List.{take-append-drop}
use Rattle.std.proofs.lemmas.Bool.Decides.{nat_tests}
use Rattle.qp_model.specs.declared.record.Rec.{Rec}
use Rattle.qp_model.specs.declared.systems.System.{System}
use Rattle.qp_model.specs.declared.words.Word.{Word}
use Rattle.qp_model.specs.declared.words.Word.TheVariants as word
use Rattle.qp_model.specs.declared.bodies.Entry.{Entry}
use Rattle.qp_model.specs.declared.bodies.Body.{Body}
use Rattle.qp_model.specs.declared.bodies.Body.TheVariants.{Nil, Full, NoEntry, NoLifo, Short, NoBlock, Armed, Idle}
use Rattle.qp_model.specs.Record.{Item}
use Rattle.qp_model.specs.History.{touch, Touch, Shows, same_word, all_items, hist}
use Rattle.qp_model.specs.Machine.{Machine, after, is_allowed, shown_by, is_shown}
use Rattle.qp_model.specs.FreeBlocks.{free_blocks}
use Rattle.qp_model.specs.Line.{Line, line, counts_are}
use Rattle.qp_model.specs.TimeEvents.{time_event}
use Rattle.qp_model.specs.Sites.{ring_of, blocks_of}
use Rattle.qp_model.specs.WordLaw.{Keeps}
use Rattle.qp_model.specs.Promises.{operations}
use Rattle.qp_model.specs.Refusals as refusal
use Rattle.qp_model.specs.Refusals.{IsRecorded, HasCounts, line_at, pool_after, clock_at}
use Rattle.qp_model.proofs.MachineLemmas.{is_allowed-front}
use Rattle.qp_model.proofs.LineLemmas.{IsLine, line_is, same_number}

list_all-at : {X : Type 0} (p : X → Bool) (xs ys : List X) (x : X) → list_all p (xs ++ x ∷ ys) ≡ true → p x ≡ true
list_all-at p [] ys x h = (and_parts _ _ h).0
list_all-at p (y ∷ xs) ys x h = list_all-at p xs ys x (and_parts _ _ h).1

-- what a record says of the word that it shows, at its mark, which is within the word's history
shown_there : {S : Type 0} (m : Machine S) (w : Word) (lanes : List (List Rec)) (o : ℕ) (b : Body) (n : ℕ) → Keeps S m w lanes
    → IsRecorded lanes o b → touch (record { of = o; body = b }) ≡ Shows w n → same_word w w ≡ true
    → (nat_le n (length (operations w lanes)) && m.says (after m (take n (operations w lanes))) b) ≡ true
unfolding is_shown shown_by operations
shown_there m w lanes o b n keeps stands shows same =
    let all : list_all (λ i. shown_by m w (hist w (all_items lanes)) i.body (touch i)) (stands.0 ++ record { of = o; body = b } ∷ stands.1) ≡ true =
    subst (λ items. list_all (λ i. shown_by m w (hist w (all_items lanes)) i.body (touch i)) items ≡ true) stands.2 keeps.shown in
    let here : shown_by m w (hist w (all_items lanes)) b (touch (record { of = o; body = b })) ≡ true =
    list_all-at (λ i. shown_by m w (hist w (all_items lanes)) i.body (touch i)) stands.0 stands.1 (record { of = o; body = b }) all in
    said (touch (record { of = o; body = b })) shows here
  where
    said : (t : Touch) → t ≡ Shows w n → shown_by m w (hist w (all_items lanes)) b t ≡ true
        → (nat_le n (length (hist w (all_items lanes))) && m.says (after m (take n (hist w (all_items lanes)))) b) ≡ true
    said t is h =
        let there : shown_by m w (hist w (all_items lanes)) b (Shows w n) ≡ true = subst (λ t. shown_by m w (hist w (all_items lanes)) b t ≡ true) is h in
        opened same there
      where
        opened : (same : same_word w w ≡ true) → cond (same_word w w) (nat_le n (length (hist w (all_items lanes))) && m.says (after m (take n (hist w (all_items lanes)))) b) true ≡ true
            → (nat_le n (length (hist w (all_items lanes))) && m.says (after m (take n (hist w (all_items lanes)))) b) ≡ true
        opened same h = rw same at h

says_there : {S : Type 0} (m : Machine S) (w : Word) (lanes : List (List Rec)) (o : ℕ) (b : Body) (n : ℕ) → Keeps S m w lanes
    → IsRecorded lanes o b → touch (record { of = o; body = b }) ≡ Shows w n → same_word w w ≡ true → m.says (after m (take n (operations w lanes))) b ≡ true
says_there m w lanes o b n keeps stands shows same = (and_parts _ _ (shown_there m w lanes o b n keeps stands shows same)).1

stands_within : {S : Type 0} (m : Machine S) (w : Word) (lanes : List (List Rec)) (o : ℕ) (b : Body) (n : ℕ) → Keeps S m w lanes
    → IsRecorded lanes o b → touch (record { of = o; body = b }) ≡ Shows w n → same_word w w ≡ true → n ≤ length (operations w lanes)
stands_within m w lanes o b n keeps stands shows same =
    let test : nat_le n (length (operations w lanes)) ≡ true = (and_parts _ _ (shown_there m w lanes o b n keeps stands shows same)).0 in
    grind (arith, nat_tests)

-- the line at a place of the history is a line
line_there : (sys : System) (lanes : List (List Rec)) (a n : ℕ) → Keeps Line (line (ring_of sys a)) (word.Queue a) lanes → IsLine (ring_of sys a) (line_at sys lanes a n)
unfolding line_at operations
line_there sys lanes a n keeps =
    let h : List Item = hist (word.Queue a) (all_items lanes) in
    let whole : is_allowed (line (ring_of sys a)) (take n h ++ drop n h) ≡ true = subst (λ x. is_allowed (line (ring_of sys a)) x ≡ true) (sym (take-append-drop n h)) keeps.allowed in
    line_is (ring_of sys a) (take n h) (is_allowed-front (line (ring_of sys a)) (take n h) (drop n h) whole)

counts_from : (f l m : ℕ) (s : Line) → counts_are f l m s ≡ true → HasCounts f l m s
counts_from f l m s h =
    let first : (s.f == f) ≡ true = (and_parts _ _ (and_parts _ _ h).0).0 in
    let second : (s.l == l) ≡ true = (and_parts _ _ (and_parts _ _ h).0).1 in
    let third : (s.m == m) ≡ true = (and_parts _ _ h).1 in
    record { first_in = grind (arith, nat_tests); last_in = grind (arith, nat_tests); takes = grind (arith, nat_tests) }

pub full_shows : refusal.FullShows
unfolding line_at
full_shows sys lanes words a h o f l m margin stands =
    let says : (counts_are f l m (line_at sys lanes a (f + l + m)) && nat_le (ring_of sys a + 1 - (f + l - m)) margin) ≡ true =
    says_there (line (ring_of sys a)) (word.Queue a) lanes o (Full a f l m margin) (f + l + m) (words.queues a h) stands refl (same_number a) in
    let counts : HasCounts f l m (line_at sys lanes a (f + l + m)) = counts_from f l m (line_at sys lanes a (f + l + m)) (and_parts _ _ says).0 in
    (counts, few (line_at sys lanes a (f + l + m)) counts (line_there sys lanes a (f + l + m) (words.queues a h)) (and_parts _ _ says).1)
  where
    few : (s : Line) → HasCounts f l m s → IsLine (ring_of sys a) s → nat_le (ring_of sys a + 1 - (f + l - m)) margin ≡ true → ring_of sys a + 1 ≤ length s.entries + margin
    few s counts is le =
        let at_most : ring_of sys a + 1 - (f + l - m) ≤ margin = grind (arith, nat_tests) in
        omega (arith, counts.first_in, counts.last_in, counts.takes, is.counted, is.fits)

full_there : (sys : System) (a f l m : ℕ) (s : Line) → HasCounts f l m s → IsLine (ring_of sys a) s → (f + l - m == ring_of sys a + 1) ≡ true → length s.entries ≡ ring_of sys a + 1
full_there sys a f l m s counts is e =
    let all : f + l - m ≡ ring_of sys a + 1 = grind (arith, nat_tests) in
    omega (arith, counts.first_in, counts.last_in, counts.takes, is.counted, is.fits)

pub no_entry_shows : refusal.NoEntryShows
unfolding line_at
no_entry_shows sys lanes words a h o f l m stands =
    let says : (counts_are f l m (line_at sys lanes a (f + l + m)) && (f + l - m == ring_of sys a + 1)) ≡ true =
    says_there (line (ring_of sys a)) (word.Queue a) lanes o (NoEntry a f l m) (f + l + m) (words.queues a h) stands refl (same_number a) in
    let counts : HasCounts f l m (line_at sys lanes a (f + l + m)) = counts_from f l m (line_at sys lanes a (f + l + m)) (and_parts _ _ says).0 in
    (counts, full_there sys a f l m (line_at sys lanes a (f + l + m)) counts (line_there sys lanes a (f + l + m) (words.queues a h)) (and_parts _ _ says).1)

pub no_lifo_shows : refusal.NoLifoShows
unfolding line_at
no_lifo_shows sys lanes words a h o f l m stands =
    let says : (counts_are f l m (line_at sys lanes a (f + l + m)) && (f + l - m == ring_of sys a + 1)) ≡ true =
    says_there (line (ring_of sys a)) (word.Queue a) lanes o (NoLifo a f l m) (f + l + m) (words.queues a h) stands refl (same_number a) in
    let counts : HasCounts f l m (line_at sys lanes a (f + l + m)) = counts_from f l m (line_at sys lanes a (f + l + m)) (and_parts _ _ says).0 in
    (counts, full_there sys a f l m (line_at sys lanes a (f + l + m)) counts (line_there sys lanes a (f + l + m) (words.queues a h)) (and_parts _ _ says).1)

pub nil_shows : refusal.NilShows
unfolding line_at
nil_shows sys lanes words a h f l m stands =
    let says : (counts_are f l m (line_at sys lanes a (f + l + m)) && (f + l == m)) ≡ true =
    says_there (line (ring_of sys a)) (word.Queue a) lanes a (Nil f l m) (f + l + m) (words.queues a h) stands refl (same_number a) in
    let counts : HasCounts f l m (line_at sys lanes a (f + l + m)) = counts_from f l m (line_at sys lanes a (f + l + m)) (and_parts _ _ says).0 in
    (counts, none (line_at sys lanes a (f + l + m)) counts (line_there sys lanes a (f + l + m) (words.queues a h)) (and_parts _ _ says).1)
  where
    empty : (es : List Entry) → length es ≡ 0 → es ≡ []
    empty [] e = refl
    empty (x ∷ xs) e = absurd (omega arith)

    none : (s : Line) → HasCounts f l m s → IsLine (ring_of sys a) s → (f + l == m) ≡ true → s.entries ≡ []
    none s counts is e =
        let all : f + l ≡ m = grind (arith, nat_tests) in
        empty s.entries (omega (arith, counts.first_in, counts.last_in, counts.takes, is.counted))

pub short_shows : refusal.ShortShows
unfolding pool_after
short_shows sys lanes words p h o n free reserve stands =
    let says : ((length (pool_after sys lanes p n).free == free) && nat_le free reserve) ≡ true =
    says_there (free_blocks (blocks_of sys p)) (word.Pool p) lanes o (Short p n free reserve) n (words.pools p h) stands refl (same_number p) in
    let all : (length (pool_after sys lanes p n).free == free) ≡ true = (and_parts _ _ says).0 in
    let few : nat_le free reserve ≡ true = (and_parts _ _ says).1 in (
      stands_within (free_blocks (blocks_of sys p)) (word.Pool p) lanes o (Short p n free reserve) n (words.pools p h) stands refl (same_number p),
      grind (arith, nat_tests),
      grind (arith, nat_tests),
    )

pub no_block_shows : refusal.NoBlockShows
unfolding pool_after
no_block_shows sys lanes words p h o n free stands =
    let says : ((length (pool_after sys lanes p n).free == free) && (free == 0)) ≡ true =
    says_there (free_blocks (blocks_of sys p)) (word.Pool p) lanes o (NoBlock p n free) n (words.pools p h) stands refl (same_number p) in
    let all : (length (pool_after sys lanes p n).free == free) ≡ true = (and_parts _ _ says).0 in
    let few : (free == 0) ≡ true = (and_parts _ _ says).1 in
    let stated : length (pool_after sys lanes p n).free ≡ free = grind (arith, nat_tests) in
    let zero_free : free ≡ 0 = grind (arith, nat_tests) in (
      stands_within (free_blocks (blocks_of sys p)) (word.Pool p) lanes o (NoBlock p n free) n (words.pools p h) stands refl (same_number p),
      none (pool_after sys lanes p n).free (stated ∙ zero_free),
      zero_free,
    )
  where
    none : (xs : List ℕ) → length xs ≡ 0 → xs ≡ []
    none [] e = refl
    none (x ∷ xs) e = absurd (omega arith)

pub armed_shows : refusal.ArmedShows
unfolding clock_at
armed_shows sys lanes words t h o n counter stands =
    let says : (((clock_at lanes t n).counter == counter) && not (counter == 0)) ≡ true =
    says_there time_event (word.Timer t) lanes o (Armed t n counter) n (words.timers t h) stands refl (same_number t) in
    let is : ((clock_at lanes t n).counter == counter) ≡ true = (and_parts _ _ says).0 in
    let above : not (counter == 0) ≡ true = (and_parts _ _ says).1 in (
      stands_within time_event (word.Timer t) lanes o (Armed t n counter) n (words.timers t h) stands refl (same_number t),
      grind (arith, nat_tests),
      grind (arith, nat_tests),
    )

pub idle_shows : refusal.IdleShows
unfolding clock_at
idle_shows sys lanes words t h o n stands =
    let says : ((clock_at lanes t n).counter == 0) ≡ true = says_there time_event (word.Timer t) lanes o (Idle t n) n (words.timers t h) stands refl (same_number t) in
    (stands_within time_event (word.Timer t) lanes o (Idle t n) n (words.timers t h) stands refl (same_number t), grind (arith, nat_tests))
