-- Event words are read by who holds the reference.
use Rattle.std.proofs.Common.{◌≡◌, ℕ, ◌<◌, ◌≤◌, ◌==◌, ◌&&◌, ◌||◌, List, [], ◌∷◌, Bool, true, false, cond, length, get_or, refl, sym, ap, subst, ◌∙◌, arith, eqb, ne_eqb, eqb-true, IsTrue, if◌then◌else◌}
use Rattle.std.proofs.lemmas.Bool.{and_parts}
use Rattle.std.specs.List.{list_any}
use Rattle.std.specs.Prelude.{Some, None}
use lib.Seq.{set-get_or}
use mathlib.Core.Option.{some}
use lib.ListN.{get_elem?}
use Rattle.atomic_table.proofs.Lists.{set_again}
use Rattle.qp_chart.specs.StateTree.{has}
use Rattle.qp_model.specs.declared.systems.System.{System}
use Rattle.qp_model.specs.declared.bodies.Body.{Body}
use Rattle.qp_model.specs.declared.bodies.Body.TheVariants.{New, Back}
use Rattle.qp_model.specs.declared.words.Word.TheVariants as word
use Rattle.qp_model.specs.Record.{Item}
use Rattle.qp_model.specs.Told.{Event}
use Rattle.qp_model.specs.History.{hist, all_items}
use Rattle.qp_model.specs.Machine.{after, after_from}
use Rattle.qp_model.specs.FreeBlocks.{Pool, free_blocks}
use Rattle.qp_model.specs.Knowing.{last_given}
use Rattle.qp_model.specs.Lives.{Life, life_next, life_of}
use Rattle.qp_model.specs.Sites.{blocks_of}
use Rattle.qp_model.specs.WordLaw.{is_block}
use Rattle.qp_model.proofs.LifeLemmas.{free-out}
use Rattle.qp_table.specs.Counting.{Each, many}
use Rattle.qp_table.specs.Now.{content_by, content_from}
use Rattle.qp_table.specs.Rule.{event_word_at, is_ref, is_entry, event_of_content, HasEvent, IsContent, IsKnown, Holds}
use Rattle.qp_table.specs.After.{ref}
use Rattle.qp_table.specs.declared.view.Content.{Content}
use Rattle.qp_table.specs.declared.view.View.{View}
use Rattle.qp_table.proofs.Tokens.{standing, held-stands, above-at}
use Rattle.qp_table.proofs.Growth.{tracks-first}
use Rattle.qp_table.proofs.Steps.{pool-of}
use Rattle.qp_table.proofs.Contents.{reads}
use Rattle.qp_table.specs.Lane.{event_read as event_known, event_seen, has_content}
use Rattle.qp_table.specs.StepLaws.{ReadsTell}
use Rattle.qp_table.proofs.Records.{not-not}

-- a block that is given out has a content
given-step : (b : ℕ) (s : Life) (t : List ℕ) (x : Body) → (s.out ≡ true → 0 < length t) → (life_next b s x).out ≡ true → 0 < length (content_by b t x)
given-step b s t (New p n c from sig pars) h = go (c == b)
  where
    go : (u : Bool) → (if u then (record { out = true; edge = from }) else s).out ≡ true → 0 < length (cond {A = List ℕ} u (sig ∷ pars) t)
    go true out = omega arith
    go false out = h out
given-step b s t (Back p n c to) h = go (c == b)
  where
    go : (u : Bool) → (if u then (record { out = false; edge = to }) else s).out ≡ true → 0 < length t
    go true out = absurd (cc)
    go false out = h out
given-step b s t _ h = h

given-from : (b : ℕ) (s : Life) (t : List ℕ) (xs : List Item) → (s.out ≡ true → 0 < length t) → (after_from (life_of b) s xs).out ≡ true → 0 < length (content_from b t xs)
unfolding after_from content_from
given-from b s t [] h = h
given-from b s t (x ∷ xs) h = given-from b (life_next b s x.body) (content_by b t x.body) xs (given-step b s t x.body h)

given-some : (b : ℕ) (xs : List Item) → (after (life_of b) xs).out ≡ true → 0 < length (content_from b [] xs)
unfolding after
given-some b xs = given-from b (record { out = false; edge = 0 }) [] xs (λ out. absurd (cc))

module _ (sys : System) (words : List ℕ) (views : List View) (holds : Holds sys words views) where
  out-is : (p b : ℕ) → is_block sys p b ≡ true → has (holds.now.pool p).free b ≡ false → (after (life_of b) (hist (word.Pool p) (all_items holds.lanes))).out ≡ true
  out-is p b block taken = let inside = pool-of sys p b block in
      not-not (after (life_of b) (hist (word.Pool p) (all_items holds.lanes))).out (has (after (free_blocks (blocks_of sys p)) (hist (word.Pool p) (all_items holds.lanes))).free b)
      (free-out (blocks_of sys p) b (hist (word.Pool p) (all_items holds.lanes)) inside.1) (ap (λ (t : Pool). has t.free b) (holds.leaves.pool p inside.0) ∙ taken)

  -- the content of a block to which a reference stands
  pub content-some : (p b : ℕ) → is_block sys p b ≡ true → has (holds.now.pool p).free b ≡ false → 0 < length (holds.now.content p b)
  content-some p b block taken = subst (λ t. 0 < length t) (holds.leaves.content p b block) (given-some b (hist (word.Pool p) (all_items holds.lanes)) (out-is p b block taken))

  module _ (id : ℕ) (v : View) (at : get_elem? views id ≡ some v) (p b k : ℕ) (pos : 0 < p) (mine : 0 < many (is_ref p b k) v.hands) where
    there : 0 < many (λ r. eqb r k) (holds.now.refs p b).names
    there = held-stands sys views holds.now id v at holds.tokens p b k pos mine

    block : is_block sys p b ≡ true
    block = (standing sys views holds.now id v at holds.tokens p b k there).0

    taken : has (holds.now.pool p).free b ≡ false
    taken = (standing sys views holds.now id v at holds.tokens p b k there).1

    last-is : last_given b k None (hist (word.Pool p) (all_items holds.lanes)) ≡ Some (event_of_content (holds.now.content p b))
    last-is = tracks-first b k (hist (word.Pool p) (all_items holds.lanes)) (out-is p b block taken)
        (let e = holds.leaves.edge p b block in let a = above-at (holds.now.edge p b) k (holds.now.refs p b).names (holds.tokens.named p b) there in omega arith)
        ∙ ap (λ (c : List ℕ). Some (event_of_content c)) (holds.leaves.content p b block)

    -- what was read of the entry is the block's content
    known-is : (qs : List Content) → Each (IsKnown sys holds.lanes holds.now) qs → list_any (λ (q : Content). is_entry (ref p b k) q.entry) qs ≡ true → event_known qs (ref p b k) ≡ event_of_content (holds.now.content p b)
    known-is [] all h = absurd (cc)
    known-is (q ∷ qs) all h = go (is_entry (ref p b k) q.entry) refl h (known-is qs all.1)
      where
        go : (t : Bool) → is_entry (ref p b k) q.entry ≡ t → (t || list_any (λ (q : Content). is_entry (ref p b k) q.entry) qs) ≡ true
            → (list_any (λ (q : Content). is_entry (ref p b k) q.entry) qs ≡ true → event_known qs (ref p b k) ≡ event_of_content (holds.now.content p b)) → cond {A = Event} t (event_of_content q.event) (event_known qs (ref p b k)) ≡ event_of_content (holds.now.content p b)
        go true is h rest =
            let t = and_parts (eqb q.entry.pool p && eqb q.entry.block b) (eqb q.entry.name k) is in let u = and_parts (eqb q.entry.pool p) (eqb q.entry.block b) t.0 in
            let ep = eqb-true q.entry.pool p u.0 in let eb = eqb-true q.entry.block b u.1 in let ek = eqb-true q.entry.name k t.1 in
            let given = all.0.given (omega arith) in
            let same : last_given b k None (hist (word.Pool p) (all_items holds.lanes)) ≡ Some (event_of_content q.event) = subst (λ (z : ℕ × ℕ × ℕ). last_given z.1 z.2 None (hist (word.Pool z.0) (all_items holds.lanes)) ≡ Some (event_of_content q.event)) (λ i. (ep i, eb i, ek i)) given in
            let both : Some (event_of_content q.event) ≡ Some (event_of_content (holds.now.content p b)) = sym same ∙ last-is in cc
        go false is h rest = rest h

    seen-is : IsTrue (has_content v.contents (ref p b k)) → event_seen v.contents (ref p b k) ≡ event_of_content (holds.now.content p b)
    unfolding event_seen
    seen-is h =
        let off : eqb p 0 ≡ false = ne_eqb p 0 (λ e. absurd (omega arith)) in
        ap (λ (t : Bool). cond {A = Event} t (record { sig = b; pars = [] }) (event_known v.contents (ref p b k))) off
        ∙ known-is v.contents (holds.contents id v at) (ap (λ (t : Bool). t || list_any (λ (q : Content). is_entry (ref p b k) q.entry) v.contents) (sym off) ∙ h)

    -- so a word that is read is that of the event
    pub word-is : IsTrue (has_content v.contents (ref p b k)) → (j : ℕ)
        → IsContent sys (event_seen v.contents (ref p b k)).sig (event_seen v.contents (ref p b k)).pars
        × (j ≤ length (event_seen v.contents (ref p b k)).pars → get_or words (event_word_at p b j) 0 ≡ get_or ((event_seen v.contents (ref p b k)).sig ∷ (event_seen v.contents (ref p b k)).pars) j 0)
    word-is h j = subst (λ (e : Event). IsContent sys e.sig e.pars × (j ≤ length e.pars → get_or words (event_word_at p b j) 0 ≡ get_or (e.sig ∷ e.pars) j 0)) (sym (seen-is h))
        (go (holds.now.content p b) refl (content-some p b block taken) (holds.events.event p b block))
      where
        go : (c : List ℕ) → holds.now.content p b ≡ c → 0 < length c → HasEvent sys c → IsContent sys (event_of_content c).sig (event_of_content c).pars × (j ≤ length (event_of_content c).pars → get_or words (event_word_at p b j) 0 ≡ get_or ((event_of_content c).sig ∷ (event_of_content c).pars) j 0)
        go [] is some_words event = absurd (omega arith)
        go (s ∷ ps) is some_words event = (event, λ le. reads sys words views holds id v at p b block k j mine (let l = ap length is in omega arith) ∙ ap (λ t. get_or t j 0) is)

pub reads-tell : ReadsTell
reads-tell sys id v p b k j pos mine known words views holds at small =
    let r = word-is sys words views holds id v at p b k pos mine known j in (
      v,
      subst (λ (z : List ℕ × List View). Holds sys z.0 z.1) (λ i. (sym (set-get_or words (event_word_at p b j) 0) i, sym (set_again views id v at) i)) holds,
      (refl, r.0, r.1),
    )
