use Rattle.std.proofs.Common.{◌≡◌, ◌∙◌, sym, ℕ, List, map}
use Rattle.std.specs.List.{list_any}
use Rattle.std.specs.Str.{bytes_eq}
use Rattle.qp_model.specs.declared.systems.SignalDef.{SignalDef}
use Rattle.qp_model.proofs.ListLemmas.{list_any-map}
use Rattle.qp_system.specs.Between.{signal_fault}
use Rattle.qp_system.proofs.PassLemmas.{fault_if-holds, fault_if-fails, first-head, first-tail}
use Rattle.qp_chart_names.proofs.FaultLemmas.{none-next, none-last}
use Rattle.qp_system.proofs.twice.signal_passes.Goals as goal

named : (xs : List SignalDef) (name : List ℕ) → list_any (bytes_eq name) (map (λ (t : SignalDef). t.name) xs) ≡ list_any (λ (x : SignalDef). bytes_eq name x.name) xs
named xs name = list_any-map (bytes_eq name) (λ (t : SignalDef). t.name) xs

pub returns-then-signal_is_named : goal.returns-then-signal_is_named
unfolding signal_fault
returns-then-signal_is_named c =
    first-head _ _ _ (fault_if-holds _ _ _ _ (named c.args.earlier.now c.args.signal.now.name ∙ sym c.if-signal_is_named.ensures) c.member_fault.ensures)

pub returns-then-has_needless_parameters : goal.returns-then-has_needless_parameters
unfolding signal_fault
returns-then-has_needless_parameters c =
    first-tail _ _ _ (fault_if-fails _ _ _ (named c.args.earlier.now c.args.signal.now.name ∙ sym c.if-signal_is_named.ensures))
    (first-head _ _ _ (fault_if-holds _ _ _ _ (sym c.if-has_needless_parameters.ensures) c.member_fault-then-has_needless_parameters.ensures))

pub returns : goal.returns
unfolding signal_fault
returns c =
    none-next _ _ (fault_if-fails _ _ _ (named c.args.earlier.now c.args.signal.now.name ∙ sym c.if-signal_is_named.ensures))
    (none-next _ _ (fault_if-fails _ _ _ (sym c.if-has_needless_parameters.ensures)) none-last)
