-- The first that fails, walked over words and over definitions.
use Rattle.std.proofs.Common.{◌≡◌, ◌+◌, ◌-◌, Bool, true, false, not, ◌&&◌, cond, List, [], ◌∷◌, ◌++◌, refl, ap, sym, ◌∙◌, Some, None}
use Rattle.std.specs.declared.option.Option.{Option}
use Rattle.qp_model.specs.declared.record.Rec.{Rec}
use Rattle.qp_model.specs.declared.systems.System.{System}
use Rattle.qp_model.specs.declared.words.Word.{Word}
use Rattle.qp_model.specs.declared.words.Word.TheVariants as word
use Rattle.qp_model.specs.History.{all_items, hist}
use Rattle.qp_model.specs.Machine.{is_allowed}
use Rattle.qp_model.specs.References.{references}
use Rattle.qp_check_words.specs.declared.verdict.Broken.{Broken}
use Rattle.qp_check_words.specs.declared.rules.Rule.{Rule}
use Rattle.qp_check_words.specs.declared.rules.Rule.TheVariants as rule
use Rattle.qp_check_words.specs.WordRules.{Try, first_broken, is_site, definition_of_rule, site_of, tries_at, tries_by, word_rules, word_tries, rule_holds, lives_hold, operations_allowed}
use Rattle.qp_check_words.specs.SystemWords.{words_of}
use Rattle.qp_check_words.specs.Judging.{rule_test, lives_of}

-- the word fails
pub at-fails : (h : Rule → Word → Bool) (r : Rule) (w : Word) (ws : List Word) → (is_site r w && not (h r w)) ≡ true
    → first_broken (tries_at h r (w ∷ ws)) ≡ Some (record { definition = definition_of_rule r; site = site_of w })
unfolding first_broken
at-fails h r w ws fails = go (is_site r w) refl (h r w) refl fails
  where
    go : (s : Bool) → is_site r w ≡ s → (t : Bool) → h r w ≡ t → (s && not t) ≡ true → first_broken (tries_at h r (w ∷ ws)) ≡ Some (record { definition = definition_of_rule r; site = site_of w })
    go true e false f k = rw (e, f) refl
    go true e true f k = cc
    go false e t f k = cc

-- it doesn't
pub at-next : (h : Rule → Word → Bool) (r : Rule) (w : Word) (ws : List Word) → (is_site r w && not (h r w)) ≡ false
    → first_broken (tries_at h r (w ∷ ws)) ≡ first_broken (tries_at h r ws)
unfolding first_broken
at-next h r w ws fails = go (is_site r w) refl (h r w) refl fails
  where
    go : (s : Bool) → is_site r w ≡ s → (t : Bool) → h r w ≡ t → (s && not t) ≡ false → first_broken (tries_at h r (w ∷ ws)) ≡ first_broken (tries_at h r ws)
    go true e true f k = rw (e, f) refl
    go true e false f k = cc
    go false e t f k = rw e refl

pub broken-none : (xs ys : List Try) → first_broken xs ≡ None → first_broken (xs ++ ys) ≡ first_broken ys
unfolding first_broken
broken-none [] ys h = refl
broken-none (t ∷ ts) ys h = go t.holds refl h (broken-none ts ys)
  where
    go : (b : Bool) → t.holds ≡ b → cond b (first_broken ts) (Some (record { definition = t.definition; site = t.site })) ≡ None → (first_broken ts ≡ None → first_broken (ts ++ ys) ≡ first_broken ys) → first_broken ((t ∷ ts) ++ ys) ≡ first_broken ys
    go true e k later = rw e (later k)
    go false e k later = cc

pub broken-some : (xs ys : List Try) (b : Broken) → first_broken xs ≡ Some b → first_broken (xs ++ ys) ≡ Some b
unfolding first_broken
broken-some [] ys b h = cc
broken-some (t ∷ ts) ys b h = go t.holds refl h (broken-some ts ys b)
  where
    go : (c : Bool) → t.holds ≡ c → cond c (first_broken ts) (Some (record { definition = t.definition; site = t.site })) ≡ Some b → (first_broken ts ≡ Some b → first_broken (ts ++ ys) ≡ Some b) → first_broken ((t ∷ ts) ++ ys) ≡ Some b
    go true e k later = rw e (later k)
    go false e k later = rw e k

-- behind the same front, the same where the front holds
broken-behind : (xs ys zs : List Try) → (first_broken xs ≡ None → first_broken ys ≡ first_broken zs) → first_broken (xs ++ ys) ≡ first_broken (xs ++ zs)
broken-behind xs ys zs same = go (first_broken xs) refl
  where
    go : (o : Option Broken) → first_broken xs ≡ o → first_broken (xs ++ ys) ≡ first_broken (xs ++ zs)
    go None e = broken-none xs ys e ∙ same e ∙ sym (broken-none xs zs e)
    go (Some b) e = broken-some xs ys b e ∙ sym (broken-some xs zs b e)

module _ (sys : System) (lanes : List (List Rec)) where
  -- where the references are allowed at these words, the lives are those of the definition
  same-lives : (ws : List Word) → first_broken (tries_at (rule_holds sys lanes) rule.References ws) ≡ None → tries_at (rule_test sys lanes) rule.Lives ws ≡ tries_at (rule_holds sys lanes) rule.Lives ws
  unfolding first_broken rule_holds rule_test lives_hold operations_allowed lives_of
  same-lives [] h = refl
  same-lives (word.Pool p ∷ ws) h = same-lives ws h
  same-lives (word.Queue a ∷ ws) h = same-lives ws h
  same-lives (word.Signal s ∷ ws) h = same-lives ws h
  same-lives (word.Timer t ∷ ws) h = same-lives ws h
  same-lives (word.Block p b ∷ ws) h = go (is_allowed references (hist (word.Block p b) (all_items lanes))) refl h (same-lives ws)
    where
      go : (c : Bool) → is_allowed references (hist (word.Block p b) (all_items lanes)) ≡ c
          → cond c (first_broken (tries_at (rule_holds sys lanes) rule.References ws)) (Some (record { definition = 11; site = site_of (word.Block p b) })) ≡ None
          → (first_broken (tries_at (rule_holds sys lanes) rule.References ws) ≡ None → tries_at (rule_test sys lanes) rule.Lives ws ≡ tries_at (rule_holds sys lanes) rule.Lives ws)
          → tries_at (rule_test sys lanes) rule.Lives (word.Block p b ∷ ws) ≡ tries_at (rule_holds sys lanes) rule.Lives (word.Block p b ∷ ws)
      go true e k later = rw (e, later k) refl
      go false e k later = cc

  -- the first definition and site that fails
  pub broken-tested : (ws : List Word) → first_broken (tries_by (rule_test sys lanes) word_rules ws) ≡ first_broken (tries_by (rule_holds sys lanes) word_rules ws)
  unfolding rule_test
  broken-tested ws =
      broken-behind (tries_at (rule_holds sys lanes) rule.DrawnNumbers ws) _ _
      (λ _. broken-behind (tries_at (rule_holds sys lanes) rule.FreeBlocks ws) _ _
      (λ _. broken-behind (tries_at (rule_holds sys lanes) rule.References ws) _ _
      (λ none. ap (λ ts. first_broken (ts ++ tries_by (rule_holds sys lanes) (rule.Line ∷ rule.ShownNumbers ∷ rule.Subscribers ∷ rule.TimeEvents ∷ []) ws)) (same-lives ws none))))

pub broken-all : (sys : System) (lanes : List (List Rec)) (ws : List Word) (b : Option Broken) → ws ≡ words_of sys
    → b ≡ first_broken (tries_by (rule_test sys lanes) word_rules ws) → b ≡ first_broken (word_tries sys lanes)
unfolding word_tries
broken-all sys lanes ws b words told = told ∙ ap (λ vs. first_broken (tries_by (rule_test sys lanes) word_rules vs)) words ∙ broken-tested sys lanes (words_of sys)
