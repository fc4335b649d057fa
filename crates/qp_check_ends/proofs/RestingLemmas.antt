-- A walk over a history, and a test of all numbers below another.
use Rattle.std.proofs.Common.{◌≡◌, ℕ, suc, ◌+◌, ◌≤◌, ◌<◌, ◌==◌, Bool, true, false, ◌&&◌, cond, List, [], ◌∷◌, ◌++◌, length, drop, get_or, refl, ap, sym, ◌∙◌, arith, append_assoc, append-nil}
use Rattle.std.proofs.lemmas.Bool.{and_from}
use Rattle.std.proofs.lemmas.List.{drop_all}
use Rattle.qp_model.specs.declared.bodies.Entry.{Entry}
use Rattle.qp_model.specs.End.{names_on}
use Rattle.qp_model.specs.Record.{Item}
use Rattle.qp_model.specs.FreeBlocks.{Pool, free_blocks}
use Rattle.qp_model.specs.Line.{Line, line}
use Rattle.qp_model.specs.Lists.{all_below, count_up}
use Rattle.qp_model.specs.Machine.{after, after_from}
use Rattle.qp_check_lanes.proofs.WalkLemmas.{rest_get}

-- a test of all numbers below one more
pub below-more : (p : ℕ → Bool) (k : ℕ) → all_below k p ≡ true → p k ≡ true → all_below (k + 1) p ≡ true
unfolding all_below
below-more p k h here = let e : k + 1 ≡ suc k = omega arith in rw e (and_from _ _ h here)

pub below-none : (p : ℕ → Bool) → all_below 0 p ≡ true
unfolding all_below
below-none p = refl

-- the references of entries to a block, with one entry more
module _ (p b : ℕ) (entries : List Entry) (i : ℕ) (d : Entry) (lt : i < length entries) (names : List ℕ) (before : names_on p b entries ≡ names ++ names_on p b (drop i entries)) where
  abbrev e : Entry
  e = get_or entries i d

  pub names-taken : ((e.pool == p) && (e.block == b)) ≡ true → names_on p b entries ≡ (names ++ e.name ∷ []) ++ names_on p b (drop (i + 1) entries)
  unfolding names_on
  names-taken on =
      before
      ∙ ap (λ es. names ++ names_on p b es) (rest_get entries i d lt)
      ∙ ap (λ c. names ++ cond c (e.name ∷ names_on p b (drop (i + 1) entries)) (names_on p b (drop (i + 1) entries))) on
      ∙ sym (append_assoc names (e.name ∷ []) (names_on p b (drop (i + 1) entries)))

  pub names-skipped : ((e.pool == p) && (e.block == b)) ≡ false → names_on p b entries ≡ names ++ names_on p b (drop (i + 1) entries)
  unfolding names_on
  names-skipped off =
      before
      ∙ ap (λ es. names ++ names_on p b es) (rest_get entries i d lt)
      ∙ ap (λ c. names ++ cond c (e.name ∷ names_on p b (drop (i + 1) entries)) (names_on p b (drop (i + 1) entries))) off

pub names-end : (p b : ℕ) (entries : List Entry) (i : ℕ) (names : List ℕ) → length entries ≤ i → names_on p b entries ≡ names ++ names_on p b (drop i entries) → names ≡ names_on p b entries
unfolding names_on
names-end p b entries i names le before = sym (before ∙ ap (λ es. names ++ names_on p b es) (drop_all i entries le) ∙ append-nil names)

-- what a pool and a queue hold after walks from their beginnings
pub pool-run : (blocks b count : ℕ) (free : List ℕ) (history h : List Item) (s : Pool) → b ≡ blocks → count ≡ 0 → free ≡ count_up 0 blocks → history ≡ h
    → s ≡ after_from (free_blocks b) (record { count = count; free = free }) history → s.free ≡ (after (free_blocks blocks) h).free
unfolding after
pool-run blocks b count free history h s same none all read is =
    ap (λ t. t.free)
    (is
    ∙ ap (after_from (free_blocks b) (record { count = count; free = free })) read
    ∙ ap (λ n. after_from (free_blocks n) (record { count = count; free = free }) h) same
    ∙ ap (λ n. after_from (free_blocks blocks) (record { count = n; free = free }) h) none
    ∙ ap (λ xs. after_from (free_blocks blocks) (record { count = 0; free = xs }) h) all)

pub line-run : (ring q f l m : ℕ) (entries : List Entry) (history h : List Item) (s : Line) → q ≡ ring → entries ≡ [] → f ≡ 0 → l ≡ 0 → m ≡ 0 → history ≡ h
    → s ≡ after_from (line q) (record { entries = entries; f = f; l = l; m = m }) history → s ≡ after (line ring) h
unfolding after
line-run ring q f l m entries history h s same none first last taken read is =
    is
    ∙ ap (after_from (line q) (record { entries = entries; f = f; l = l; m = m })) read
    ∙ ap (λ n. after_from (line n) (record { entries = entries; f = f; l = l; m = m }) h) same
    ∙ ap (λ es. after_from (line ring) (record { entries = es; f = f; l = l; m = m }) h) none
    ∙ ap (λ n. after_from (line ring) (record { entries = []; f = n; l = l; m = m }) h) first
    ∙ ap (λ n. after_from (line ring) (record { entries = []; f = 0; l = n; m = m }) h) last
    ∙ ap (λ n. after_from (line ring) (record { entries = []; f = 0; l = 0; m = n }) h) taken
