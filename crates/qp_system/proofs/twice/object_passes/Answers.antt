use Rattle.std.proofs.Common.{◌≡◌, ◌∙◌, sym, ℕ, List, map}
use Rattle.std.specs.List.{list_any}
use Rattle.std.specs.Str.{bytes_eq}
use Rattle.qp_system_tables.specs.declared.raw.RawObject.{RawObject}
use Rattle.qp_system.specs.Between.{object_fault}
use Rattle.qp_system.proofs.PassLemmas.{fault_if-holds, fault_if-fails}
use Rattle.qp_model.proofs.ListLemmas.{list_any-map}
use Rattle.qp_system.proofs.twice.object_passes.Goals as goal

named : (xs : List RawObject) (name : List ℕ) → list_any (bytes_eq name) (map (λ (t : RawObject). t.name) xs) ≡ list_any (λ (x : RawObject). bytes_eq name x.name) xs
named xs name = list_any-map (bytes_eq name) (λ (t : RawObject). t.name) xs

pub returns-then-object_is_named : goal.returns-then-object_is_named
unfolding object_fault
returns-then-object_is_named c = fault_if-holds _ _ _ _ (named c.args.earlier.now c.args.object.now.name ∙ sym c.if-object_is_named.ensures) c.member_fault.ensures

pub returns : goal.returns
unfolding object_fault
returns c = fault_if-fails _ _ _ (named c.args.earlier.now c.args.object.now.name ∙ sym c.if-object_is_named.ensures)
