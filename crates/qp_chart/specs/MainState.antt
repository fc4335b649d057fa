-- The main state of a transition, and what is exited and entered below it.
use Rattle.std.specs.Prelude.{ℕ, ◌==◌, List, reverse, if◌then◌else◌}
use Rattle.std.specs.Prelude.{Some}
use Rattle.std.specs.List.{find, filter}
use Rattle.std.specs.declared.option.Option.{Option}
use Rattle.qp_chart.specs.declared.checked.Chart.{Chart}
use Rattle.qp_chart.specs.StateTree.{has, parent_of, up, is_below}

-- the nearest state that the paths of s and t share, or None for the top
unfoldable pub nearest : Chart → ℕ → ℕ → Option ℕ
unfolding up
nearest chart s t = find (λ x. has (up chart t) x) (up chart s)

-- the main state: the parent of s where s is t, s where t is below s, t where s is below t, else the nearest common ancestor
unfoldable pub main_state : Chart → ℕ → ℕ → Option ℕ
unfolding is_below nearest parent_of
main_state chart s t =
    if s == t then parent_of chart s
    else (if is_below chart t (Some s) then Some s else (if is_below chart s (Some t) then Some t else nearest chart s t))

-- the states of the path of s strictly below the main state, from the innermost
unfoldable pub exited : Chart → Option ℕ → ℕ → List ℕ
unfolding is_below up
exited chart main s = filter (λ x. is_below chart x main) (up chart s)

-- the same from the outermost
unfoldable pub entered : Chart → Option ℕ → ℕ → List ℕ
unfolding exited
entered chart main t = reverse (exited chart main t)
