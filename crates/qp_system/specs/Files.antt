-- The two files that one number makes.
use Rattle.std.specs.Prelude.{ℕ, zero, suc, ◌+◌, ◌*◌, ◌%◌, List, [], ◌++◌, codes, decimal}

-- One pool of eight blocks for one parameter. The object `relay` forwards to `sum` what it is posted, and `sum` adds it up.
abbrev pub system_text : List ℕ
system_text = codes "qp = 1\npool = [{ size = 1, blocks = 8 }]\nsignal = [{ name = 'ADD', params = 1 }]\n[[chart]]\nname = 'sum'\ninit = 'wait'\nvars = { total = 0 }\n[[chart.state]]\nname = 'wait'\nrow = [{ on = 'ADD', do = ['total = total + p1'] }]\n[[chart]]\nname = 'relay'\ninit = 'wait'\n[[chart.state]]\nname = 'wait'\nrow = [{ on = 'ADD', do = ['forward sum'] }]\n[[object]]\nname = 'sum'\nchart = 'sum'\npriority = 1\nqueue = 15\n[[object]]\nname = 'relay'\nchart = 'relay'\npriority = 2\nqueue = 15\n"

-- the number that source i posts after k others
abbrev pub posted_number : ℕ → ℕ → ℕ
posted_number k i = (4 * k + i) * 7919 % 1000

-- a post, behind which the source waits until all queues are empty
abbrev pub post_lines : ℕ → ℕ → List ℕ
post_lines k i = codes "post relay ADD(" ++ decimal (posted_number k i) ++ codes ")\nsettle\n"

-- the first n posts of source i
abbrev pub posts_text : ℕ → ℕ → List ℕ
posts_text zero i = []
posts_text (suc k) i = posts_text k i ++ post_lines k i

-- source i
abbrev pub source_text : ℕ → ℕ → List ℕ
source_text n i = codes "source " ++ decimal i ++ codes "\n" ++ posts_text n i

-- four sources
abbrev pub stimuli_text : ℕ → List ℕ
stimuli_text n = source_text n 1 ++ source_text n 2 ++ source_text n 3 ++ source_text n 4
