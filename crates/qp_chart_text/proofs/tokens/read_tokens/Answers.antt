use Rattle.std.proofs.Common.{◌∷◌, [], List, map, sym, ap, ◌∙◌, arith, subst}
use Rattle.std.proofs.lemmas.List.{map-append}
use Rattle.qp_chart_text.specs.Tokens.{tok_of, tokens_of_text, Tok}
use Rattle.qp_chart_text.proofs.TokenLemmas.{ThenRest, one_token, no_token, next_shorter}
use Rattle.qp_chart_text.proofs.tokens.read_tokens.Goals as goal

pub returns-in-None : goal.returns-in-None
returns-in-None c =
    no_token _ (map tok_of c.loop-rest.tokens.items) c.loop-rest.rest.now (grind arith) (sym c.in-None.ensures) c.loop-rest.invariant

pub loop-rest-smaller : goal.loop-rest-smaller
loop-rest-smaller c = next_shorter c.loop-rest.rest.now _ (sym c.in-Some.ensures)

pub loop-rest-preserved : goal.loop-rest-preserved
loop-rest-preserved c =
    let P : List Tok → Type 0 = λ done. ThenRest (tokens_of_text c.args.text.now) done c.in-Some.after.now in
    subst P (sym (ap (map tok_of) c.in_ok-push-in-Some.ensures.items ∙ map-append tok_of c.loop-rest.tokens.items (c.in-Some.token ∷ [])))
    (one_token (tokens_of_text c.args.text.now) (map tok_of c.loop-rest.tokens.items) c.loop-rest.rest.now _ (grind arith) (sym c.in-Some.ensures) c.loop-rest.invariant)
