-- A flush that was cut can be brought to its end.
use Rattle.std.proofs.Common.{◌≡◌, ℕ, zero, suc, Bool, true, false, List, [], ◌∷◌, ◌++◌, drop, refl, sym, ◌∙◌, ap, subst, inl, inr, ◌⊎◌, Some, None, append_assoc, if◌then◌else◌}
use Rattle.std.specs.Option.{option_and_then}
use Rattle.qp_model.specs.declared.bodies.Entry.{Entry}
use Rattle.qp_model.specs.declared.bodies.Body.TheVariants as item
use Rattle.qp_model.specs.Told.{Told, plain}
use Rattle.qp_model.specs.Deferral.{keep, kept_after}
use Rattle.qp_model.specs.Line.{is_front}
use Rattle.qp_model.specs.Shapes.{Flushes, Drops}
use Rattle.qp_model.proofs.Completes.{release, release_drops}
use Rattle.qp_model.proofs.DeferralLemmas.{kept-append, kept-calm}
use Rattle.qp_model.proofs.FitsLemmas.{calm-drops}
use Rattle.qp_model.proofs.LineLemmas.{same_entry-refl}

-- these records begin a flush that leaves nothing of the list
pub record Finishes (room : ℕ) (kept : List Entry) (g : List Told) : Type 0 where
  pub count : ℕ
  pub rest : List Told
  pub flushes : Flushes count (g ++ rest)
  pub none : kept_after room kept (g ++ rest) ≡ Some []

-- a release leaves the list
after-drops : (room : ℕ) (kept : List Entry) (e : Entry) (rel rest : List Told) → Drops e rel → kept_after room kept (rel ++ rest) ≡ kept_after room kept rest
after-drops room kept e rel rest drops = kept-append room kept kept rel rest (kept-calm room kept rel (calm-drops e rel drops))

-- a whole flush of a list
pub flush-whole : (room : ℕ) (es : List Entry) → Finishes room es []
unfolding Flushes kept_after keep
flush-whole room [] = record { count = 0; rest = []; flushes = refl; none = refl }
flush-whole room (e ∷ es) =
    let on = flush-whole room es in
    let drops = release_drops e.pool e in
    record {
      count = suc on.count;
      rest = plain (item.Flush e) ∷ (release e.pool e ++ on.rest);
      flushes = (e, release e.pool e, on.rest, drops, on.flushes, refl);
      none = rw (same_entry-refl e) (after-drops room es e (release e.pool e) on.rest drops ∙ on.none);
    }

-- which of two fronts of a list is the longer
split : (a b c d : List Told) → a ++ b ≡ c ++ d → ((m : List Told) × (a ≡ c ++ m) × (m ++ b ≡ d)) ⊎ ((m : List Told) × (c ≡ a ++ m) × (b ≡ m ++ d))
split [] b c d e = inr (c, refl, e)
split (x ∷ a) b [] d e = inl (x ∷ a, refl, e)
split (x ∷ a) b (y ∷ c) d e = let head : x ≡ y = cc in let tail : a ++ b ≡ c ++ d = cc in go head (split a b c d tail)
  where
    go : x ≡ y → ((m : List Told) × (a ≡ c ++ m) × (m ++ b ≡ d)) ⊎ ((m : List Told) × (c ≡ a ++ m) × (b ≡ m ++ d))
        → ((m : List Told) × (x ∷ a ≡ y ∷ (c ++ m)) × (m ++ b ≡ d)) ⊎ ((m : List Told) × (y ∷ c ≡ x ∷ (a ++ m)) × (b ≡ m ++ d))
    go h (inl k) = let e1 = k.1 in let same : x ∷ a ≡ y ∷ (c ++ k.0) = cc in inl (k.0, same, k.2)
    go h (inr k) = let e1 = k.1 in let same : y ∷ c ≡ x ∷ (a ++ k.0) = cc in inr (k.0, same, k.2)

-- one entry was flushed before
finish-one : (room : ℕ) (kept : List Entry) (k : Entry) (rel g : List Told) → Drops k rel → is_front k kept ≡ true → Finishes room (drop 1 kept) g → Finishes room kept (plain (item.Flush k) ∷ (rel ++ g))
unfolding Flushes kept_after keep
finish-one room kept k rel g drops front on = record {
  count = suc on.count;
  rest = on.rest;
  flushes = (k, rel, g ++ on.rest, drops, on.flushes, ap (λ x. plain (item.Flush k) ∷ x) (append_assoc rel g on.rest));
  none = rw front (ap (λ x. kept_after room (drop 1 kept) x) (append_assoc rel g on.rest) ∙ after-drops room (drop 1 kept) k rel (g ++ on.rest) drops ∙ on.none);
}

-- or in part
finish-part : (room : ℕ) (kept : List Entry) (k : Entry) (rel g more : List Told) → Drops k rel → is_front k kept ≡ true → rel ≡ g ++ more → Finishes room kept (plain (item.Flush k) ∷ g)
unfolding Flushes kept_after keep
finish-part room kept k rel g more drops front is =
    let on = flush-whole room (drop 1 kept) in
    let same : g ++ (more ++ on.rest) ≡ rel ++ on.rest = sym (append_assoc g more on.rest) ∙ ap (λ x. x ++ on.rest) (sym is) in
    record {
      count = suc on.count;
      rest = more ++ on.rest;
      flushes = (k, rel, on.rest, drops, on.flushes, ap (λ x. plain (item.Flush k) ∷ x) same);
      none = rw front (ap (λ x. kept_after room (drop 1 kept) x) same ∙ after-drops room (drop 1 kept) k rel on.rest drops ∙ on.none);
    }

-- a front that the list can have
front-is : (room : ℕ) (kept more : List Entry) (k : Entry) (g : List Told) → kept_after room kept (plain (item.Flush k) ∷ g) ≡ Some more
    → (is_front k kept ≡ true) × (kept_after room (drop 1 kept) g ≡ Some more)
unfolding kept_after keep
front-is room kept more k g h = go (is_front k kept) refl h
  where
    go : (u : Bool) → is_front k kept ≡ u → option_and_then (λ rest. kept_after room rest g) (if u then Some (drop 1 kept) else None) ≡ Some more
        → (is_front k kept ≡ true) × (kept_after room (drop 1 kept) g ≡ Some more)
    go true is e = (is, e)
    go false is e = absurd (cc)

-- whatever front of a flush was added, the flush can go on to its end
pub flush-finish : (room n : ℕ) (kept more : List Entry) (g rest : List Told) → Flushes n (g ++ rest) → kept_after room kept g ≡ Some more → Finishes room kept g
unfolding Flushes
flush-finish room n kept more [] rest h k = flush-whole room kept
flush-finish room zero kept more (t ∷ g) rest h k = absurd (cc)
flush-finish room (suc n) kept more (t ∷ g) rest e k =
    let e5 = e.5 in
    let head : t ≡ plain (item.Flush e.0) = cc in
    let tail : g ++ rest ≡ e.1 ++ e.2 = cc in
    let here : kept_after room kept (plain (item.Flush e.0) ∷ g) ≡ Some more = subst (λ x. kept_after room kept (x ∷ g) ≡ Some more) head k in
    let front = front-is room kept more e.0 g here in
    subst (λ x. Finishes room kept (x ∷ g)) (sym head)
    (by e.0 e.1 e.2 e.3 front.0 front.1 (λ m flushes on. flush-finish room n (drop 1 kept) more m rest (subst (λ x. Flushes n x) (sym flushes) e.4) on) (split g rest e.1 e.2 tail))
  where
    by : (k : Entry) (rel after : List Told) → Drops k rel → is_front k kept ≡ true → kept_after room (drop 1 kept) g ≡ Some more
        → ((m : List Told) → m ++ rest ≡ after → kept_after room (drop 1 kept) m ≡ Some more → Finishes room (drop 1 kept) m)
        → ((m : List Told) × (g ≡ rel ++ m) × (m ++ rest ≡ after)) ⊎ ((m : List Told) × (rel ≡ g ++ m) × (rest ≡ m ++ after)) → Finishes room kept (plain (item.Flush k) ∷ g)
    by k rel after drops front is ih (inl s) =
        let on : kept_after room (drop 1 kept) s.0 ≡ Some more = sym (after-drops room (drop 1 kept) k rel s.0 drops) ∙ subst (λ x. kept_after room (drop 1 kept) x ≡ Some more) s.1 is in
        subst (λ x. Finishes room kept (plain (item.Flush k) ∷ x)) (sym s.1) (finish-one room kept k rel s.0 drops front (ih s.0 s.2 on))
    by k rel after drops front is ih (inr s) = finish-part room kept k rel g s.0 drops front s.1
