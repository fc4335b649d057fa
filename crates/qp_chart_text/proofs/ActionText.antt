-- Reading an action keeps to the grammar.
use Rattle.std.proofs.Common.{◌≡◌, ℕ, List, [], ◌∷◌, ◌++◌, Some, None, Result, refl, ap, sym, ◌∙◌, subst, append-nil}
use Rattle.std.specs.Prelude.{IfOk}
use Rattle.std.specs.Prelude as result
use Rattle.qp_chart_text.specs.declared.trees.Action.{Action}
use Rattle.qp_chart_text.specs.declared.trees.ExprFault.{ExprFault}
use Rattle.qp_chart_text.specs.declared.trees.ExprFault.TheVariants as fault
use Rattle.qp_chart_text.specs.Terms.{Command, command_of}
use Rattle.qp_chart_text.specs.Tokens.{Tok, tokens_of_text}
use Rattle.qp_chart_text.specs.Reading.{Gives, all_of}
use Rattle.qp_chart_text.specs.ReadingActions.{command_at, command_of_text}
use Rattle.qp_chart_text.specs.ActionGrammar.{IsCommand, IsActionText}
use Rattle.qp_chart_text.proofs.GrammarLemmas.{bind_ok, some_of, none_some}
use Rattle.qp_chart_text.proofs.ActionSound.{command_sound}
use Rattle.qp_chart_text.proofs.ActionComplete.{command_complete}

whole : (x y : Command) (rest : List Tok) → all_of (y, rest) ≡ Some x → (y ≡ x) × (rest ≡ [])
whole x y [] h = (some_of y x h, refl)
whole x y (t ∷ ts) h = cc

pub action_sound : (text : List ℕ) (x : Command) → command_of_text text ≡ Some x → IsActionText text x
unfolding command_of_text
action_sound text x h =
    let i = bind_ok (tokens_of_text text) _ x h in
    let j = bind_ok (command_at i.0) _ x i.2 in
    let w = whole x j.0.0 j.0.1 j.2 in
    let t = command_sound i.0 j.0.0 j.0.1 j.1 in
    let all : i.0 ≡ t.front = t.splits ∙ ap (λ r. t.front ++ r) w.1 ∙ append-nil t.front in
    (i.0, i.1, subst (λ ts. IsCommand ts x) (sym all) (subst (λ y. IsCommand t.front y) w.0 t.is))

pub action_complete : (text : List ℕ) (x : Command) → IsActionText text x → command_of_text text ≡ Some x
unfolding command_of_text
action_complete text x (ts, tokens, is) = rw tokens (rw (command_complete ts x is) refl)

pub found_action : (text : List ℕ) (r : Result Action ExprFault) → Gives command_of r (command_of_text text) → IfOk r (λ a. IsActionText text (command_of a))
found_action text (result.Ok a) h = action_sound text (command_of a) h
found_action text (result.Err e) h = tt

pub no_action : (text : List ℕ) (r : Result Action ExprFault) → Gives command_of r (command_of_text text) → r ≡ result.Err fault.Bad → (x : Command) → IsActionText text x → ⊥
no_action text r h e x is =
    let P : Result Action ExprFault → Type 0 = λ r. Gives command_of r (command_of_text text) in
    let none : command_of_text text ≡ None = subst P e h in
    none_some x (sym none ∙ action_complete text x is)
