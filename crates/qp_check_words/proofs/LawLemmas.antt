-- No definition of words fails exactly where the words keep their law.
use Rattle.std.proofs.Common.{◌≡◌, ℕ, ◌<◌, Bool, true, false, not, ◌&&◌, ◌||◌, List, [], ◌∷◌, ◌++◌, refl, sym, ◌∙◌, Some, None}
use Rattle.std.specs.declared.option.Option.{Option}
use Rattle.std.specs.List.{list_all, AllByRecursion}
use Rattle.std.proofs.lemmas.Bool.{and_from, and_parts}
use Rattle.qp_model.specs.declared.record.Rec.{Rec}
use Rattle.qp_model.specs.declared.systems.System.{System}
use Rattle.qp_model.specs.declared.words.Word.{Word}
use Rattle.qp_model.specs.declared.words.Word.TheVariants as word
use Rattle.qp_model.specs.Record.{Item}
use Rattle.qp_model.specs.History.{all_items, hist}
use Rattle.qp_model.specs.Lives.{HasLives, has_lives}
use Rattle.qp_model.specs.WordLaw.{Words}
use Rattle.qp_model.proofs.WordTestLemmas.{has_lives-is}
use Rattle.qp_check_words.specs.declared.verdict.Broken.{Broken}
use Rattle.qp_check_words.specs.declared.rules.Rule.{Rule}
use Rattle.qp_check_words.specs.declared.rules.Rule.TheVariants as rule
use Rattle.qp_check_words.specs.WordsLaw.{NoneFailsWhereWordsHold}
use Rattle.qp_check_words.specs.WordRules.{Try, first_broken, is_site, definition_of_rule, site_of, tries_at, tries_by, word_tries, rule_holds, lives_hold, operations_allowed, shown_right}
use Rattle.qp_check_words.specs.SystemWords.{words_of}
use Rattle.qp_check_words.proofs.BrokenLemmas.{broken-none, broken-some}
use Rattle.qp_check_words.proofs.SiteLemmas.{AllSites, sites-from, sites-to}

none-parts : (xs ys : List Try) → first_broken (xs ++ ys) ≡ None → (first_broken xs ≡ None) × (first_broken ys ≡ None)
none-parts xs ys h = go (first_broken xs) refl
  where
    go : (o : Option Broken) → first_broken xs ≡ o → (first_broken xs ≡ None) × (first_broken ys ≡ None)
    go None e = (e, sym (broken-none xs ys e) ∙ h)
    go (Some b) e = let some : Some b ≡ None = sym (broken-some xs ys b e) ∙ h in cc

-- the definition holds at each of these words that is a site of it
at-none : (h : Rule → Word → Bool) (r : Rule) (ws : List Word) → first_broken (tries_at h r ws) ≡ None → list_all (λ w. not (is_site r w) || h r w) ws ≡ true
unfolding first_broken
at-none h r [] none = refl
at-none h r (w ∷ ws) none = go (is_site r w) refl (h r w) refl none (at-none h r ws)
  where
    go : (s : Bool) → is_site r w ≡ s → (t : Bool) → h r w ≡ t → first_broken (tries_at h r (w ∷ ws)) ≡ None → (first_broken (tries_at h r ws) ≡ None → list_all (λ w. not (is_site r w) || h r w) ws ≡ true)
        → ((not (is_site r w) || h r w) && list_all (λ w. not (is_site r w) || h r w) ws) ≡ true
    go true e true f n later = rw (e, f) (later (sym (rw (e, f) refl) ∙ n))
    go true e false f n later = let some : first_broken (tries_at h r (w ∷ ws)) ≡ Some (record { definition = definition_of_rule r; site = site_of w }) = rw (e, f) refl in cc
    go false e t f n later = rw e (later (sym (rw e refl) ∙ n))

none-at : (h : Rule → Word → Bool) (r : Rule) (ws : List Word) → list_all (λ w. not (is_site r w) || h r w) ws ≡ true → first_broken (tries_at h r ws) ≡ None
unfolding first_broken
none-at h r [] all = refl
none-at h r (w ∷ ws) all = go (is_site r w) refl (h r w) refl (and_parts _ _ all).0 (none-at h r ws (and_parts _ _ all).1)
  where
    go : (s : Bool) → is_site r w ≡ s → (t : Bool) → h r w ≡ t → (not (is_site r w) || h r w) ≡ true → first_broken (tries_at h r ws) ≡ None → first_broken (tries_at h r (w ∷ ws)) ≡ None
    go true e true f k later = rw (e, f) later
    go true e false f k later = let no : (not (is_site r w) || h r w) ≡ false = rw (e, f) refl in cc
    go false e t f k later = rw e later

lives-to : (b : ℕ) (pool block : List Item) → HasLives b pool block → has_lives b pool block ≡ true
unfolding has_lives
lives-to b pool block h = and_from _ _ (and_from _ _ (and_from _ _ h.alternate h.empty) h.cover) h.referred

module _ (sys : System) (lanes : List (List Rec)) where
  -- the definition holds at all its sites
  abbrev Holds : Rule → Type 0
  Holds r = AllSites sys (λ w. not (is_site r w) || rule_holds sys lanes r w)

  record RulesHold : Type 0 where
    numbers : Holds rule.DrawnNumbers
    free : Holds rule.FreeBlocks
    references : Holds rule.References
    lives : Holds rule.Lives
    line : Holds rule.Line
    shown : Holds rule.ShownNumbers
    subscribers : Holds rule.Subscribers
    timers : Holds rule.TimeEvents

  module _ (bytes : AllByRecursion (λ d. d.priority < 256) sys.objects) where
    held : (r : Rule) → first_broken (tries_at (rule_holds sys lanes) r (words_of sys)) ≡ None → Holds r
    held r none = sites-from sys (λ w. not (is_site r w) || rule_holds sys lanes r w) bytes (at-none (rule_holds sys lanes) r (words_of sys) none)

    rules-from : first_broken (word_tries sys lanes) ≡ None → RulesHold
    unfolding word_tries
    rules-from none =
        let h = rule_holds sys lanes in
        let ws = words_of sys in
        let a = none-parts (tries_at h rule.DrawnNumbers ws) _ none in
        let b = none-parts (tries_at h rule.FreeBlocks ws) _ a.1 in
        let c = none-parts (tries_at h rule.References ws) _ b.1 in
        let d = none-parts (tries_at h rule.Lives ws) _ c.1 in
        let e = none-parts (tries_at h rule.Line ws) _ d.1 in
        let f = none-parts (tries_at h rule.ShownNumbers ws) _ e.1 in
        let g = none-parts (tries_at h rule.Subscribers ws) _ f.1 in
        let i = none-parts (tries_at h rule.TimeEvents ws) _ g.1 in
        record {
          numbers = held rule.DrawnNumbers a.0;
          free = held rule.FreeBlocks b.0;
          references = held rule.References c.0;
          lives = held rule.Lives d.0;
          line = held rule.Line e.0;
          shown = held rule.ShownNumbers f.0;
          subscribers = held rule.Subscribers g.0;
          timers = held rule.TimeEvents i.0;
        }

  rule-none : (r : Rule) → Holds r → first_broken (tries_at (rule_holds sys lanes) r (words_of sys)) ≡ None
  rule-none r h = none-at (rule_holds sys lanes) r (words_of sys) (sites-to sys (λ w. not (is_site r w) || rule_holds sys lanes r w) h)

  step : (r : Rule) (rs : List Rule) → Holds r → first_broken (tries_by (rule_holds sys lanes) rs (words_of sys)) ≡ None → first_broken (tries_by (rule_holds sys lanes) (r ∷ rs) (words_of sys)) ≡ None
  step r rs h none = broken-none (tries_at (rule_holds sys lanes) r (words_of sys)) (tries_by (rule_holds sys lanes) rs (words_of sys)) (rule-none r h) ∙ none

  rules-to : RulesHold → first_broken (word_tries sys lanes) ≡ None
  unfolding word_tries first_broken
  rules-to h =
      step rule.DrawnNumbers (rule.FreeBlocks ∷ rule.References ∷ rule.Lives ∷ rule.Line ∷ rule.ShownNumbers ∷ rule.Subscribers ∷ rule.TimeEvents ∷ []) h.numbers
      (step rule.FreeBlocks (rule.References ∷ rule.Lives ∷ rule.Line ∷ rule.ShownNumbers ∷ rule.Subscribers ∷ rule.TimeEvents ∷ []) h.free
      (step rule.References (rule.Lives ∷ rule.Line ∷ rule.ShownNumbers ∷ rule.Subscribers ∷ rule.TimeEvents ∷ []) h.references
      (step rule.Lives (rule.Line ∷ rule.ShownNumbers ∷ rule.Subscribers ∷ rule.TimeEvents ∷ []) h.lives
      (step rule.Line (rule.ShownNumbers ∷ rule.Subscribers ∷ rule.TimeEvents ∷ []) h.line
      (step rule.ShownNumbers (rule.Subscribers ∷ rule.TimeEvents ∷ []) h.shown
      (step rule.Subscribers (rule.TimeEvents ∷ []) h.subscribers
      (step rule.TimeEvents [] h.timers refl)))))))

  words-from-rules : RulesHold → Words sys lanes
  unfolding rule_holds operations_allowed shown_right lives_hold
  words-from-rules h = record {
    pools = λ p is. record { numbers = h.numbers.pools p is; allowed = h.free.pools p is; shown = (and_parts _ _ (h.shown.pools p is)).0; marks = (and_parts _ _ (h.shown.pools p is)).1 };
    blocks = λ p b is. record { numbers = h.numbers.blocks p b is; allowed = h.references.blocks p b is; shown = (and_parts _ _ (h.shown.blocks p b is)).0; marks = (and_parts _ _ (h.shown.blocks p b is)).1 };
    lives = λ p b is. has_lives-is b (hist (word.Pool p) (all_items lanes)) (hist (word.Block p b) (all_items lanes)) (h.lives.blocks p b is);
    queues = λ a is. record { numbers = h.numbers.queues a is; allowed = h.line.queues a is; shown = (and_parts _ _ (h.shown.queues a is)).0; marks = (and_parts _ _ (h.shown.queues a is)).1 };
    signals = λ s is. record { numbers = h.numbers.signals s is; allowed = h.subscribers.signals s is; shown = (and_parts _ _ (h.shown.signals s is)).0; marks = (and_parts _ _ (h.shown.signals s is)).1 };
    timers = λ t is. record { numbers = h.numbers.timers t is; allowed = h.timers.timers t is; shown = (and_parts _ _ (h.shown.timers t is)).0; marks = (and_parts _ _ (h.shown.timers t is)).1 };
  }

  rules-from-words : Words sys lanes → RulesHold
  unfolding rule_holds operations_allowed shown_right lives_hold
  rules-from-words w = record {
    numbers = record { pools = λ p is. (w.pools p is).numbers; blocks = λ p b is. (w.blocks p b is).numbers; queues = λ a is. (w.queues a is).numbers; signals = λ s is. (w.signals s is).numbers; timers = λ t is. (w.timers t is).numbers };
    free = record { pools = λ p is. (w.pools p is).allowed; blocks = λ p b is. refl; queues = λ a is. refl; signals = λ s is. refl; timers = λ t is. refl };
    references = record { pools = λ p is. refl; blocks = λ p b is. (w.blocks p b is).allowed; queues = λ a is. refl; signals = λ s is. refl; timers = λ t is. refl };
    lives = record { pools = λ p is. refl; blocks = λ p b is. lives-to b (hist (word.Pool p) (all_items lanes)) (hist (word.Block p b) (all_items lanes)) (w.lives p b is); queues = λ a is. refl; signals = λ s is. refl; timers = λ t is. refl };
    line = record { pools = λ p is. refl; blocks = λ p b is. refl; queues = λ a is. (w.queues a is).allowed; signals = λ s is. refl; timers = λ t is. refl };
    shown = record {
      pools = λ p is. and_from _ _ (w.pools p is).shown (w.pools p is).marks;
      blocks = λ p b is. and_from _ _ (w.blocks p b is).shown (w.blocks p b is).marks;
      queues = λ a is. and_from _ _ (w.queues a is).shown (w.queues a is).marks;
      signals = λ s is. and_from _ _ (w.signals s is).shown (w.signals s is).marks;
      timers = λ t is. and_from _ _ (w.timers t is).shown (w.timers t is).marks;
    };
    subscribers = record { pools = λ p is. refl; blocks = λ p b is. refl; queues = λ a is. refl; signals = λ s is. (w.signals s is).allowed; timers = λ t is. refl };
    timers = record { pools = λ p is. refl; blocks = λ p b is. refl; queues = λ a is. refl; signals = λ s is. refl; timers = λ t is. (w.timers t is).allowed };
  }

pub none_fails_where_words_hold : NoneFailsWhereWordsHold
none_fails_where_words_hold = λ sys lanes bytes.
    (λ none. words-from-rules sys lanes (rules-from sys lanes bytes none), λ words. rules-to sys lanes (rules-from-words sys lanes words))
