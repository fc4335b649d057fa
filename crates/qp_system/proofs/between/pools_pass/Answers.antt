use Rattle.std.proofs.Common.{◌∙◌, ◌+◌, sym, ap, refl, ◌∷◌, [], List, ℕ}
use Rattle.std.specs.declared.option.Option.{Option}
use Rattle.qp_chart_names.specs.declared.place.Part.{Part}
use Rattle.qp_chart_names.specs.declared.place.Part.TheVariants.{Key, Pos}
use Rattle.qp_chart_names.specs.Keys.{SIGNAL}
use Rattle.qp_chart_names.specs.Codes.{NO_POOL}
use Rattle.qp_chart_names.specs.Faults.{Fault, fault, fault_if}
use Rattle.qp_model.specs.declared.systems.PoolDef.{PoolDef}
use Rattle.qp_model.specs.declared.systems.SignalDef.{SignalDef}
use Rattle.qp_system_tables.specs.Refused.{fault_at}
use Rattle.qp_system.specs.Between.{is_without_pool, no_pool_fault}
use Rattle.qp_system.proofs.PassLemmas.{passed-none, passed-one, passed-at, passed-all, fault_if-holds, fault_if-fails}
use Rattle.qp_system.proofs.between.pools_pass.Goals as goal

abbrev without : List PoolDef → ℕ → SignalDef → Option Fault
without pools k s = fault_if (is_without_pool pools s) NO_POOL (Key SIGNAL ∷ Pos k ∷ [])

pub loop-i-init : goal.loop-i-init
loop-i-init c = passed-none (without c.args.pools.now) c.args.signals.now

pub returns-then-has_no_pool : goal.returns-then-has_no_pool
unfolding no_pool_fault
returns-then-has_no_pool c =
    passed-at (without c.args.pools.now) c.args.signals.now c.loop-i.i c.index-signals-i.result (fault_at NO_POOL (Key SIGNAL ∷ Pos (c.loop-i.i + 1) ∷ []))
    c.loop-i.invariant c.loop-i-test.true c.index-signals-i.is
    (fault_if-holds _ _ _ (fault_at NO_POOL (Key SIGNAL ∷ Pos (c.loop-i.i + 1) ∷ [])) (sym c.if-has_no_pool.ensures) refl)
    ∙ ap (λ (path : List Part). fault 15 path) (sym c.of.ensures)

pub loop-i-preserved : goal.loop-i-preserved
loop-i-preserved c =
    passed-one (without c.args.pools.now) c.args.signals.now c.loop-i.i c.index-signals-i.result c.loop-i.invariant c.loop-i-test.true c.index-signals-i.is
    (fault_if-fails _ _ _ (sym c.if-has_no_pool.ensures))

pub returns : goal.returns
unfolding no_pool_fault
returns c = passed-all (without c.args.pools.now) c.args.signals.now c.loop-i.i c.loop-i.invariant c.loop-i-test.false
