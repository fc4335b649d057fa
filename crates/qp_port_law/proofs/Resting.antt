-- The end of a run by its lanes: what all hands have, and that nothing is left undone.
use Rattle.std.proofs.Common.{◌≡◌, ◌+◌, List, [], ◌∷◌, ◌++◌, refl, arith}
use Rattle.std.specs.List.{flat_map}
use Rattle.qp_model.specs.declared.bodies.Entry.{Entry}
use Rattle.qp_calls.specs.Counting.{count_of, times}
use Rattle.qp_calls.specs.Deferring.{tokens_in}
use Rattle.qp_calls.specs.Tokens.{Token, same_token}
use Rattle.qp_calls.proofs.CountLemmas.{count-with}
use Rattle.qp_plain_sound.proofs.EndLemmas.{quiet-end}
use Rattle.qp_plain_sound.proofs.Times.{times-append}
use Rattle.qp_port_law.specs.QuietLaws.{HandsAddUp, QuietRunsRest}
use Rattle.qp_port_law.specs.Sealed.{hands_of_all}
use Rattle.qp_port_law.proofs.Looks.{queues_are_empty}

tokens-both : (t : Token) (xs ys : List Entry) → count_of t (tokens_in (xs ++ ys)) ≡ count_of t (tokens_in xs) + count_of t (tokens_in ys)
unfolding times
tokens-both t [] ys = omega arith
tokens-both t (x ∷ xs) ys =
    let front = count-with t x (tokens_in (xs ++ ys)) in
    let back = count-with t x (tokens_in xs) in
    let later = tokens-both t xs ys in
    omega (arith, front, back, later)

pub hands_add_up : HandsAddUp
hands_add_up [] [] h t = refl
hands_add_up [] (v ∷ vs) h t = absurd h
hands_add_up (es ∷ more) [] h t = absurd h
hands_add_up (es ∷ more) (v ∷ vs) h t =
    let hands = times-append (λ x. same_token t x) v.hands (hands_of_all vs) in
    let tokens = tokens-both t es (flat_map (λ xs. xs) more) in
    let first = h.0 t in
    let later = hands_add_up more vs h.1 t in
    omega (arith, hands, tokens, first, later)

pub quiet_runs_rest : QuietRunsRest
quiet_runs_rest sys kernel budget vs j k v0 deferred seals at looks hands =
    quiet-end sys j.lanes (hands_of_all vs) (flat_map (λ es. es) deferred) seals.sound (record {
      queues = λ a object. queues_are_empty sys kernel budget vs j k a v0 seals at object (looks a object);
      hands_are = hands_add_up deferred vs hands;
    })
