-- What the tables of a journal say, as the definitions know it.
use Rattle.std.proofs.Common.{◌≡◌, ℕ, suc, ◌+◌, ◌-◌, ◌≤◌, ◌==◌, nat_lt, min, Bool, true, false, cond, List, [], length, get_or, refl, ap, sym, subst, ◌∙◌, Some, None, arith}
use Rattle.std.specs.declared.option.Option.{Option}
use Rattle.std.specs.Ordering.{is_eq}
use Rattle.std.proofs.lemmas.Option.{same_Some}
use Rattle.qp_check_lanes.specs.Keys.{key_cmp, same_key}
use Rattle.qp_check_lanes.proofs.KeyLemmas.{key-is, same-cmp}
use Rattle.qp_model.specs.Record.{Item}
use Rattle.qp_model.specs.declared.systems.System.{System}
use Rattle.qp_model.specs.declared.journals.Journal.{Journal}
use Rattle.qp_model.specs.declared.bodies.Entry.{Entry}
use Rattle.qp_model.specs.declared.words.Word.TheVariants as word
use Rattle.qp_model.specs.History.{all_items, hist}
use Rattle.qp_model.specs.Machine.{after}
use Rattle.qp_model.specs.FreeBlocks.{free_blocks}
use Rattle.qp_model.specs.References.{references}
use Rattle.qp_model.specs.Subscribers.{subscribers}
use Rattle.qp_model.specs.Sites.{blocks_of}
use Rattle.qp_model.specs.Knowing.{event_of_entry, life_event, free_before, last_given, references_after, set_at}
use Rattle.qp_model.specs.Lawful.{facts_of}
use Rattle.qp_check_knowledge.specs.KnownTables.{free_counts, left_counts, member_lists, value_at}
use Rattle.qp_check_knowledge.specs.KnownSteps.{last_from}
use Rattle.qp_check_knowledge.specs.KnownWords.{IsKnownBlock}
use Rattle.qp_check_knowledge.specs.declared.known_words.KnownBlock.{KnownBlock}
use Rattle.qp_check_knowledge.proofs.KnownEventLemmas.{last-own}
use Rattle.qp_check_knowledge.proofs.KnownTableLemmas.{length-values, value-at}

-- a block's table put among those that are there
pub block-put : (items : List Item) (old new : ℕ × ℕ × ℕ → Option KnownBlock) (p b : ℕ) (x : KnownBlock)
    → ((q : ℕ × ℕ × ℕ) → new q ≡ cond (is_eq (key_cmp (p, b, 0) q)) (Some x) (old q)) → IsKnownBlock items p b x
    → ((q c : ℕ) (t : KnownBlock) → old (q, c, 0) ≡ Some t → IsKnownBlock items q c t) → (q c : ℕ) (t : KnownBlock) → new (q, c, 0) ≡ Some t → IsKnownBlock items q c t
block-put items old new p b x puts here each q c t at = go (same_key (p, b, 0) (q, c, 0)) refl
  where
    go : (s : Bool) → same_key (p, b, 0) (q, c, 0) ≡ s → IsKnownBlock items q c t
    go true e =
        let is : (p, b, 0) ≡ (q, c, 0) = key-is (p, b, 0) (q, c, 0) e in
        let put : new (q, c, 0) ≡ Some x = puts (q, c, 0) ∙ ap (λ s. cond s (Some x) (old (q, c, 0))) (same-cmp (p, b, 0) (q, c, 0) ∙ e) in
        subst (λ y. IsKnownBlock items q c y) (same_Some x t (sym put ∙ at)) (subst (λ k. IsKnownBlock items k.0 k.1 x) is here)
    go false e =
        let kept : new (q, c, 0) ≡ old (q, c, 0) = puts (q, c, 0) ∙ ap (λ s. cond s (Some x) (old (q, c, 0))) (same-cmp (p, b, 0) (q, c, 0) ∙ e) in
        each q c t (sym kept ∙ at)

module _ (sys : System) (j : Journal) where
  pub free-at : (xs : List ℕ) (p n : ℕ) → xs ≡ free_counts (blocks_of sys p) (hist (word.Pool p) (all_items j.lanes)) → value_at 0 xs n ≡ free_before (facts_of sys j) p n
  unfolding free_before free_counts after facts_of
  free-at xs p n is =
      ap (λ l. value_at 0 l n) is ∙ value-at (free_blocks (blocks_of sys p)) (λ s. length s.free) 0 (free_blocks (blocks_of sys p)).first (hist (word.Pool p) (all_items j.lanes)) n

  -- the place behind operation d, which may be as large as its type allows
  pub left-at : (xs : List ℕ) (p b d n : ℕ) → n ≡ min (d + 1) 18446744073709551615 → length xs ≤ 18446744073709551615
      → xs ≡ left_counts (hist (word.Block p b) (all_items j.lanes)) → value_at 0 xs n ≡ references_after (facts_of sys j) p b d
  unfolding references_after left_counts after facts_of
  left-at xs p b d n at few is =
      let same : min n (length xs - 1) ≡ min (d + 1) (length xs - 1) = omega (arith, at, few) in
      ap (λ k. get_or xs k 0) same ∙ ap (λ l. value_at 0 l (d + 1)) is
      ∙ value-at references (λ s. length s.names) 0 references.first (hist (word.Block p b) (all_items j.lanes)) (d + 1)

  pub members-at : (xs : List (List ℕ)) (sig n : ℕ) → xs ≡ member_lists (hist (word.Signal sig) (all_items j.lanes)) → value_at [] xs n ≡ set_at (facts_of sys j) sig n
  unfolding set_at member_lists after facts_of
  members-at xs sig n is =
      ap (λ l. value_at [] l n) is ∙ value-at subscribers (λ s. s.members) [] subscribers.first (hist (word.Signal sig) (all_items j.lanes)) n

  pub event-in_pool : (e : Entry) → (e.pool == 0) ≡ false
      → event_of_entry (facts_of sys j) e
      ≡ cond (nat_lt e.name (length (hist (word.Block e.pool e.block) (all_items j.lanes)))) (last_given e.block e.name None (hist (word.Pool e.pool) (all_items j.lanes))) None
  unfolding event_of_entry life_event facts_of
  event-in_pool e other = rw other refl

  -- the length of a block's history by its table
  pub left-long : (xs : List ℕ) (p b : ℕ) → xs ≡ left_counts (hist (word.Block p b) (all_items j.lanes)) → length xs - 1 ≡ length (hist (word.Block p b) (all_items j.lanes))
  unfolding left_counts
  left-long xs p b is =
      let long : length xs ≡ suc (length (hist (word.Block p b) (all_items j.lanes))) =
      ap length is ∙ length-values references (λ s. length s.names) references.first (hist (word.Block p b) (all_items j.lanes)) in
      omega (arith, long)

  pub event-static : (e : Entry) → (e.pool == 0) ≡ true → event_of_entry (facts_of sys j) e ≡ Some (record { sig = e.block; pars = [] })
  unfolding event_of_entry facts_of
  event-static e same = rw same refl

  -- the event by a block's tables
  pub event-known : (e : Entry) → (e.pool == 0) ≡ false → (t : KnownBlock) → IsKnownBlock (all_items j.lanes) e.pool e.block t
      → cond (nat_lt e.name (length t.left.items - 1)) (last_from e.name None t.steps) None ≡ event_of_entry (facts_of sys j) e
  event-known e other t known =
      let pool = hist (word.Pool e.pool) (all_items j.lanes) in
      ap (λ n. cond (nat_lt e.name n) (last_from e.name None t.steps) None) (left-long t.left.items e.pool e.block known.left)
      ∙ ap (λ o. cond (nat_lt e.name (length (hist (word.Block e.pool e.block) (all_items j.lanes)))) o None) (known.steps.same e.name ∙ last-own e.block e.name None pool)
      ∙ sym (event-in_pool e other)
