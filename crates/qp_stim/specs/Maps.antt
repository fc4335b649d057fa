-- The maps in which names are looked up.
use Rattle.std.specs.Prelude.{ℕ, List}
use Rattle.std.specs.declared.option.Option.{Option}
use Rattle.std.specs.BTreeMap.{BTreeMap, get_by}
use Rattle.std.specs.Cmp.Lexicographic.{slice_cmp}
use Rattle.std.specs.Ordering.{nat_cmp}
use denote.Ref.{Bor}
use Rattle.qp_stim.specs.Names.{Dictionary}
use Rattle.qp_stim.specs.declared.names.SystemNames.{SystemNames}

-- what a map has under these bytes
abbrev pub text_in : {X : Type 0} → BTreeMap (Bor (List ℕ)) X → List ℕ → Option X
text_in m name = get_by (λ key. slice_cmp nat_cmp name key.now) m

abbrev pub dictionary : SystemNames → Dictionary
dictionary names = record { object = text_in names.objects; signal = text_in names.signals }
