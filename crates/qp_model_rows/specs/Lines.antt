-- The lines of a journal, as its text has them: the word, the object, and the numbers.
use Rattle.std.specs.Prelude.{ℕ, List, [], ◌∷◌}
use Rattle.qp_model.specs.declared.record.Rec.{Rec}

abbrev pub line : ℕ → ℕ → List ℕ → Rec
line kind o nums = record { kind = kind; of = o; nums = record { items = nums } }

abbrev pub begin : ℕ → Rec
begin o = line 4 o []

abbrev pub took : ℕ → ℕ → ℕ → ℕ → ℕ → ℕ → ℕ → Rec
took o a b c d e f = line 5 o (a ∷ b ∷ c ∷ d ∷ e ∷ f ∷ [])

abbrev pub seen : ℕ → ℕ → ℕ → ℕ → ℕ → Rec
seen o a b c d = line 7 o (a ∷ b ∷ c ∷ d ∷ [])

abbrev pub run : ℕ → ℕ → ℕ → Rec
run o a b = line 8 o (a ∷ b ∷ [])

abbrev pub none : ℕ → Rec
none o = line 9 o []

abbrev pub exit : ℕ → ℕ → Rec
exit o a = line 10 o (a ∷ [])

abbrev pub enter : ℕ → ℕ → Rec
enter o a = line 11 o (a ∷ [])

abbrev pub say : ℕ → ℕ → Rec
say o a = line 13 o (a ∷ [])

abbrev pub done : ℕ → Rec
done o = line 14 o []

abbrev pub new : ℕ → ℕ → ℕ → ℕ → ℕ → ℕ → List ℕ → Rec
new o a b c d e pars = line 15 o (a ∷ b ∷ c ∷ d ∷ e ∷ pars)

abbrev pub inc : ℕ → ℕ → ℕ → ℕ → Rec
inc o a b c = line 17 o (a ∷ b ∷ c ∷ [])

abbrev pub dec : ℕ → ℕ → ℕ → ℕ → ℕ → Rec
dec o a b c d = line 18 o (a ∷ b ∷ c ∷ d ∷ [])

abbrev pub back : ℕ → ℕ → ℕ → ℕ → ℕ → Rec
back o a b c d = line 19 o (a ∷ b ∷ c ∷ d ∷ [])

abbrev pub post : ℕ → ℕ → ℕ → ℕ → ℕ → ℕ → ℕ → ℕ → Rec
post o a b c d e f g = line 20 o (a ∷ b ∷ c ∷ d ∷ e ∷ f ∷ g ∷ [])

abbrev pub full : ℕ → ℕ → ℕ → ℕ → ℕ → ℕ → Rec
full o a b c d e = line 22 o (a ∷ b ∷ c ∷ d ∷ e ∷ [])

abbrev pub lock : ℕ → ℕ → Rec
lock o a = line 24 o (a ∷ [])

abbrev pub unlock : ℕ → ℕ → Rec
unlock o a = line 25 o (a ∷ [])

abbrev pub defer : ℕ → ℕ → ℕ → ℕ → Rec
defer o a b c = line 26 o (a ∷ b ∷ c ∷ [])

abbrev pub stim : ℕ → ℕ → ℕ → Rec
stim o a b = line 40 o (a ∷ b ∷ [])

abbrev pub settle : ℕ → Rec
settle o = line 41 o []

abbrev pub budget_spent : ℕ → Rec
budget_spent o = line 43 o []

abbrev pub look : ℕ → ℕ → ℕ → Rec
look o a b = line 45 o (a ∷ b ∷ [])

abbrev pub rest : ℕ → ℕ → Rec
rest o a = line 46 o (a ∷ [])
