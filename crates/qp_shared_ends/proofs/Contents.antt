-- The events of blocks at the end, and what stands in hands and queues.
use Rattle.std.proofs.Common.{◌≡◌, ℕ, zero, suc, ◌+◌, ◌<◌, ◌≤◌, ◌==◌, nat_le, nat_lt, Bool, true, false, ◌&&◌, ◌||◌, cond, List, [], ◌∷◌, length, refl, sym, ◌∙◌, ap, subst, arith, eqb, eqb-true, eq-eqb, ne_eqb, IsTrue, Some, None, Option, if◌then◌else◌}
use Rattle.std.specs.List.{list_all}
use Rattle.std.specs.Option.{option_map_or}
use Rattle.std.proofs.lemmas.Bool.{and_from}
use Rattle.std.proofs.lemmas.Bool.Decides.{nat_tests}
use mathlib.Core.Logic.{dite}
use native.Mathlib.Decide.{ℕ_discrete}
use Rattle.qp_chart.specs.StateTree.{has}
use Rattle.qp_model.specs.declared.record.Rec.{Rec}
use Rattle.qp_model.specs.declared.bodies.Entry.{Entry}
use Rattle.qp_model.specs.declared.bodies.Body.{Body}
use Rattle.qp_model.specs.declared.bodies.Body.TheVariants.{New, Back}
use Rattle.qp_model.specs.declared.systems.System.{System}
use Rattle.qp_model.specs.declared.words.Word.TheVariants as word
use Rattle.qp_model.specs.Record.{Item}
use Rattle.qp_model.specs.Told.{Event}
use Rattle.qp_model.specs.History.{touch, hist, all_items}
use Rattle.qp_model.specs.Machine.{after, after_from}
use Rattle.qp_model.specs.References.{Refs, references}
use Rattle.qp_model.specs.Lives.{Life, life_of, life_next}
use Rattle.qp_model.specs.Line.{Line}
use Rattle.qp_model.specs.Knowing.{last_given, event_of_entry, life_event}
use Rattle.qp_model.specs.Parts.{is_static}
use Rattle.qp_model.specs.WordLaw.{is_block, is_object}
use Rattle.qp_model.proofs.MachineLemmas.{count-after}
use Rattle.qp_model.proofs.WordLawLemmas.{references-counts}
use Rattle.qp_calls.specs.Tokens.{Token, Held, Loose, same_token}
use Rattle.qp_calls.proofs.HandLemmas.{same-self}
use Rattle.qp_plain_sound.specs.WordStates.{life_in, line_in, cell_next, cell_after, cell_in}
use Rattle.qp_plain_sound.specs.Sound.{facts_in, is_event, is_good, names_block, EventIn}
use Rattle.qp_table.specs.Counting.{Each, many, upto}
use Rattle.qp_table.specs.TwoTables.{on_table, Thins}
use Rattle.qp_table.specs.Now.{content_by, content_from}
use Rattle.qp_table.specs.Rule.{is_ref, is_entry, HasEvent, IsContent, Codable, event_of_content, Holds}
use Rattle.qp_table.specs.declared.view.View.{View}
use Rattle.qp_table.proofs.Bounds.{refs-named}
use Rattle.qp_table.proofs.Tokens.{fresh-alone, used-alone, standing, held-stands, above-at}
use Rattle.qp_table.proofs.Growth.{tracks-first}
use Rattle.qp_shared_ends.specs.Lanes.{lanes_recs}
use Rattle.qp_shared_ends.specs.SeatEnd.{AtEnd}
use Rattle.qp_shared_ends.specs.End.{AreHands}
use Rattle.qp_shared_ends.proofs.Histories.{refs-is, line-is, edge-is, free-is, content-is, block-hist}
use Rattle.qp_shared_ends.proofs.Sounding.{not-out}

-- the event of a block that is given out is its content
abbrev IsGiven : Life → List ℕ → Option Event → Type 0
IsGiven s t e = s.out ≡ true → (sig : ℕ) × (pars : List ℕ) × (t ≡ sig ∷ pars) × (e ≡ Some (record { sig = sig; pars = pars }))

given-step : (b : ℕ) (s : Life) (t : List ℕ) (e : Option Event) (x : Body) → IsGiven s t e → IsGiven (life_next b s x) (content_by b t x) (cell_next b e x)
given-step b s t e (New p n c from sig pars) h = go (c == b)
  where
    go : (u : Bool) → IsGiven (cond u (record { out = true; edge = from }) s) (cond u (sig ∷ pars) t) (cond u (Some (record { sig = sig; pars = pars })) e)
    go true out = (sig, pars, refl, refl)
    go false out = h out
given-step b s t e (Back p n c to) h = go (c == b)
  where
    go : (u : Bool) → IsGiven (cond u (record { out = false; edge = to }) s) t (cond u None e)
    go true out = absurd (cc)
    go false out = h out
given-step b s t e _ h = h

given-from : (b : ℕ) (s : Life) (t : List ℕ) (e : Option Event) (xs : List Item) → IsGiven s t e → IsGiven (after_from (life_of b) s xs) (content_from b t xs) (cell_after b e xs)
unfolding after_from content_from cell_after
given-from b s t e [] h = h
given-from b s t e (x ∷ xs) h = given-from b (life_next b s x.body) (content_by b t x.body) (cell_next b e x.body) xs (given-step b s t e x.body h)

given : (b : ℕ) (xs : List Item) → IsGiven (after (life_of b) xs) (content_from b [] xs) (cell_after b None xs)
unfolding after
given b xs = given-from b (record { out = false; edge = 0 }) [] None xs (λ out. absurd (cc))

pub lt-true : (a b : ℕ) → a < b → nat_lt a b ≡ true
lt-true a b l = grind (arith, nat_tests)

le-true : (a b : ℕ) → a ≤ b → nat_le a b ≡ true
le-true a b l = grind (arith, nat_tests)

event-good : (sys : System) (sig : ℕ) (pars : List ℕ) → IsContent sys sig pars → is_event sys (record { sig = sig; pars = pars }) ≡ true
event-good sys sig pars c = and_from _ _ (and_from _ _ (le-true 4 sig c.from) (lt-true sig (length sys.signals + 4) c.within)) (eq-eqb (length pars) _ c.params)

has-many : (k : ℕ) (xs : List ℕ) → has xs k ≡ true → 0 < many (λ r. eqb r k) xs
has-many k [] e = absurd (cc)
has-many k (x ∷ xs) e = go (eqb x k) e (has-many k xs)
  where
    go : (t : Bool) → (t || has xs k) ≡ true → (has xs k ≡ true → 0 < many (λ r. eqb r k) xs) → 0 < cond t 1 0 + many (λ r. eqb r k) xs
    go true e r = omega arith
    go false e r = let z = r e in omega arith

-- what passes for each that stands passes for all
all-standing : {X : Type 0} (same : X → X → Bool) (P : X → Type 0) (p : X → Bool) → ((x : X) → same x x ≡ true) → (xs : List X) → Each P xs → ((x : X) → P x → 0 < many (same x) xs → p x ≡ true) → list_all p xs ≡ true
all-standing same P p self [] e h = refl
all-standing same P p self (x ∷ xs) e h = and_from (p x) (list_all p xs)
    (h x e.0 (let one = ap (λ (t : Bool). cond {A = ℕ} t 1 0) (self x) in omega arith))
    (all-standing same P p self xs e.1 (λ y q l. h y q (omega arith)))

each-any : {X : Type 0} (xs : List X) → Each (λ x. Unit {0}) xs
each-any [] = tt
each-any (x ∷ xs) = (tt, each-any xs)

entry-self : (e : Entry) → is_entry e e ≡ true
entry-self e = and_from _ _ (and_from _ _ (eq-eqb e.pool e.pool refl) (eq-eqb e.block e.block refl)) (eq-eqb e.name e.name refl)

upto-at : (n a : ℕ) (f : ℕ → ℕ) → a < n → f a ≤ upto n f
upto-at zero a f l = absurd (omega arith)
upto-at (suc n) a f l = dite (ℕ_discrete a n)
    (λ e. let z = ap f e in omega arith)
    (λ ne. let r = upto-at n a f (omega arith) in omega arith)

module _ (sys : System) (v : View) (end : AtEnd sys v) (js : List (List Rec)) (thin : Thins (λ i. on_table (touch i)) js (lanes_recs v.logs)) where
  abbrev h : Holds sys end.words end.views
  h = end.holds

  module _ (p b : ℕ) (block : IsTrue (is_block sys p b)) where
    content : content_from b [] (hist (word.Pool p) (all_items js)) ≡ h.now.content p b
    content = content-is sys end.words end.views h end.id v end.is end.all js thin p b block

    is-given : IsGiven (life_in js p b) (h.now.content p b) (cell_in js p b)
    unfolding life_in cell_in
    is-given = subst (λ t. IsGiven (life_in js p b) t (cell_in js p b)) content (given b (hist (word.Pool p) (all_items js)))

    tracks : (r : ℕ) → (life_in js p b).out ≡ true → (life_in js p b).edge ≤ r → last_given b r None (hist (word.Pool p) (all_items js)) ≡ Some (event_of_content (content_from b [] (hist (word.Pool p) (all_items js))))
    unfolding life_in
    tracks r out low = tracks-first b r (hist (word.Pool p) (all_items js)) out low

    pub event-in : EventIn sys js p b
    unfolding event_of_entry life_event
    event-in = record {
      good = λ out. let g = is-given out in
          subst (λ e. option_map_or (is_event sys) e false ≡ true) (sym g.3) (event-good sys g.0 g.1 (subst (HasEvent sys) g.2 (h.events.event p b block)));
      same = λ r there.
          let names = ap (λ (s : Refs). s.names) (refs-is sys end.words end.views h end.id v end.is end.all js thin p b block) in
          let some_there = has-many r (h.now.refs p b).names (ap (λ xs. has xs r) (sym names) ∙ there) in
          let alone = standing sys end.views h.now end.id v end.is h.tokens p b r some_there in
          let out = not-out (life_in js p b).out (has (h.now.pool p).free b) (free-is sys end.words end.views h end.id v end.is end.all js thin p b block) alone.1 in
          let g = is-given out in
          let pos = (h.fitting.pools p b block).0 in
          let named = refs-named sys h.lanes h.now h.leaves h.logs.count h.logs.room p b r block some_there in
          let low = above-at (h.now.edge p b) r (h.now.refs p b).names (h.tokens.named p b) some_there in
          subst (λ (t : Bool). (if t then Some (record { sig = b; pars = [] }) else life_event (facts_in sys js) p b r) ≡ cell_in js p b) (sym (ne_eqb p 0 (λ e. absurd (omega arith))))
          (subst (λ (t : Bool). (if t then last_given b r None (hist (word.Pool p) (all_items js)) else None) ≡ cell_in js p b) (sym (lt-true r (length (hist (word.Block p b) (all_items js))) (let c = counted in omega arith)))
          (tracks r out (let e = edge-is sys end.words end.views h end.id v end.is end.all js thin p b block in omega arith)
          ∙ (ap (λ t. Some (event_of_content t)) (content ∙ g.2) ∙ sym g.3)));
    }
      where
        counted : (h.now.refs p b).count ≡ length (hist (word.Block p b) (all_items js))
        counted = ap (λ (s : Refs). s.count) (sym (h.leaves.refs p b block)) ∙ (count-after references references-counts (hist (word.Block p b) (all_items h.lanes)) (h.leaves.law.blocks p b block).allowed
            ∙ ap length (sym (block-hist sys end.words end.views h end.id v end.is end.all js thin p b block)))

  pub tokens-named : (hands : List Token) → AreHands hands v → list_all (names_block sys) hands ≡ true
  tokens-named hands are = all-standing same_token (λ t. Unit {0}) (names_block sys) same-self hands (each-any hands) (λ t u l. named t l)
    where
      named : (t : Token) → 0 < many (same_token t) hands → names_block sys t ≡ true
      named (Held p b r) l = let c = are.counts (Held p b r) in let mine : 0 < many (is_ref p b r) v.hands = omega arith in let pos = are.pooled (record { pool = p; block = b; name = r }) mine in
          (standing sys end.views h.now end.id v end.is h.tokens p b r (held-stands sys end.views h.now end.id v end.is h.tokens p b r pos mine)).0
      named (Loose p b false) l = let c = are.counts (Loose p b false) in (fresh-alone sys end.views h.now end.id v end.is h.tokens p b (omega arith)).0
      named (Loose p b true) l = let c = are.counts (Loose p b true) in (used-alone sys end.views h.now end.id v end.is h.tokens p b (omega arith)).0

  pub entries-good : (a : ℕ) → IsTrue (is_object sys a) → IsTrue (list_all (is_good sys) (line_in sys js a).entries)
  entries-good a object = subst (λ (l : Line). list_all (is_good sys) l.entries ≡ true) (sym (line-is sys end.words end.views h end.id v end.is end.all js thin a object))
      (all-standing is_entry (Codable sys) (is_good sys) entry-self (h.now.line a).entries (h.queues.queue a object).bounded (λ e c l. good e c l (e.pool == 0) refl))
    where
      good : (e : Entry) → Codable sys e → 0 < many (is_entry e) (h.now.line a).entries → (t : Bool) → (e.pool == 0) ≡ t → (if t then is_static sys e.block && (e.name == 0) else is_block sys e.pool e.block) ≡ true
      good e c l true is = let s = c.static (eqb-true e.pool 0 is) in and_from _ _ s.0 (eq-eqb e.name 0 s.2)
      good e c l false is = let pos : 0 < e.pool = dite (ℕ_discrete e.pool 0) (λ z. let y = sym is ∙ eq-eqb e.pool 0 z in absurd (cc)) (λ ne. omega arith) in
          let few = (h.fitting.objects a object).0 in
          let some_there = upto-at 33 a (λ x. many (is_ref e.pool e.block e.name) (h.now.line x).entries) (omega arith) in
          let t = h.tokens.hand e.pool e.block e.name pos in
          (standing sys end.views h.now end.id v end.is h.tokens e.pool e.block e.name (omega arith)).0
