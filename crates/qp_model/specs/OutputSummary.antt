-- The summary of a lawful journal: its end, where each object stands, and what each pool gave.
use Rattle.std.specs.Prelude.{◌≡◌, codes, ℕ, ◌+◌, ◌-◌, ◌==◌, ℤ, Bool, true, false, not, List, [], ◌∷◌, ◌++◌, slice_get, decimal, Some, None}
use Rattle.std.specs.declared.option.Option.{Option}
use Rattle.std.specs.Bool.{MatchBool}
use Rattle.std.specs.Option.{option_map_or}
use Rattle.std.specs.Fmt.{signed_decimal}
use Rattle.std.specs.List.{count_by, list_all}
use Rattle.qp_chart.specs.declared.checked.Chart.{Chart}
use Rattle.qp_chart.specs.declared.checked.State.{State}
use Rattle.qp_model.specs.declared.systems.System.{System}
use Rattle.qp_model.specs.declared.systems.ObjectDef.{ObjectDef}
use Rattle.qp_model.specs.declared.systems.PoolDef.{PoolDef}
use Rattle.qp_model.specs.declared.journals.Journal.{Journal}
use Rattle.qp_model.specs.declared.bodies.Entry.{Entry}
use Rattle.qp_model.specs.declared.bodies.Body.{Body}
use Rattle.qp_model.specs.declared.bodies.Body.TheVariants as body
use Rattle.qp_model.specs.Record.{Item}
use Rattle.qp_model.specs.Told.{Told}
use Rattle.qp_model.specs.History.{all_items}
use Rattle.qp_model.specs.Home.{by_object}
use Rattle.qp_model.specs.Pieces.{Piece, records_in}
use Rattle.qp_model.specs.Acts.{Config}
use Rattle.qp_model.specs.Course.{Course, actor, chart_at, first_config}
use Rattle.qp_model.specs.Lawful.{dispatched, facts_of}

abbrev pub is_took : Body → Bool
is_took (body.Took f l m e) = true
is_took _ = false

abbrev pub is_done_record : Body → Bool
is_done_record body.Done = true
is_done_record _ = false

-- how many events an object has taken
abbrev pub count_events_taken : List Told → ℕ
count_events_taken ts = count_by (λ t. is_took t.body) ts

-- a start and each step that began are done
abbrev pub all_done : List Told → Bool
all_done ts = count_by (λ t. is_done_record t.body) ts == count_events_taken ts + 1

-- the rest of a release, in which nothing begins
abbrev pub begins_nothing : List Piece → Bool
begins_nothing ps = list_all (λ t. not (is_took t.body)) (records_in ps)

-- the course of these records leaves the configuration; where a `spill` cut the last release, its rest is added
unfoldable pub CourseLeaves : System → ObjectDef → Chart → List Told → Config → Type 0
unfolding Course records_in
CourseLeaves sys d chart ts c =
    (ps back : List Piece) × (es : List Entry) × (records_in ps ≡ dispatched ts) × (begins_nothing back ≡ true)
    × Course sys (actor d chart) (first_config d) es (ps ++ back) (Some c)

-- the name of a state
abbrev pub name_in : List State → ℕ → List ℕ
name_in states leaf = option_map_or (λ s. s.name) (slice_get states (leaf - 1)) []

-- each variable with its value, after a space
abbrev pub values_text : List ((List ℕ) × ℤ) → List ℤ → List ℕ
values_text [] values = []
values_text (v ∷ vs) [] = []
values_text (v ∷ vs) (x ∷ xs) = 32 ∷ v.0 ++ codes "=" ++ signed_decimal x ++ values_text vs xs

-- the state and the variables of an object
abbrev pub config_text : Chart → Config → List ℕ
config_text chart c = name_in chart.state c.leaf ++ values_text chart.vars c.vars

-- what is told of an object: `-` where its start or a step isn't done, else the state and the variables that its course leaves
unfoldable pub IsStateText : System → ObjectDef → Option Chart → List Told → List ℕ → Type 0
unfolding CourseLeaves
IsStateText sys d None ts text = ⊥
IsStateText sys d (Some chart) ts text =
    MatchBool (all_done ts) ((c : Config) × CourseLeaves sys d chart ts c × (text ≡ config_text chart c)) (text ≡ codes "-")

-- the line of an object: its name, how many events it has taken, and where it stands
unfoldable pub IsObjectLine : System → Journal → ObjectDef → List ℕ → Type 0
unfolding IsStateText by_object chart_at facts_of
IsObjectLine sys j d line =
    (text : List ℕ) × IsStateText sys d (chart_at sys d.chart) (by_object (facts_of sys j) j d.priority) text
    × (line ≡ codes "object " ++ d.name ++ 32 ∷ decimal (count_events_taken (by_object (facts_of sys j) j d.priority)) ++ 32 ∷ text ++ codes "\n")

abbrev pub is_new_of : ℕ → Body → Bool
is_new_of p (body.New pool n b from sig pars) = pool == p
is_new_of p _ = false

abbrev pub is_back_of : ℕ → Body → Bool
is_back_of p (body.Back pool n b to) = pool == p
is_back_of p _ = false

-- the line of a pool: how many blocks it gave, and how many came back
abbrev pub pool_line : List Item → ℕ → List ℕ
pool_line items p =
    codes "pool " ++ decimal p ++ codes " given " ++ decimal (count_by (λ i. is_new_of p i.body) items)
    ++ codes " back " ++ decimal (count_by (λ i. is_back_of p i.body) items) ++ codes "\n"

-- the lines of the pools from this number on
abbrev pub pool_lines : List Item → ℕ → List PoolDef → List (List ℕ)
pool_lines items p [] = []
pool_lines items p (d ∷ ds) = pool_line items p ∷ pool_lines items (p + 1) ds

-- the lines of these objects
unfoldable pub AreObjectLines : System → Journal → List ObjectDef → List (List ℕ) → Type 0
unfolding IsObjectLine
AreObjectLines sys j [] lines = lines ≡ []
AreObjectLines sys j (d ∷ ds) lines =
    (line : List ℕ) × (rest : List (List ℕ)) × IsObjectLine sys j d line × AreObjectLines sys j ds rest × (lines ≡ line ∷ rest)

-- the lines of a journal's summary: the end, each object in ascending priority, each pool
unfoldable pub IsSummary : System → Journal → List (List ℕ) → Type 0
unfolding AreObjectLines all_items
IsSummary sys j lines =
    (objects : List (List ℕ)) × AreObjectLines sys j sys.objects objects
    × (lines ≡ (codes "end " ++ decimal j.end ++ codes "\n") ∷ objects ++ pool_lines (all_items j.lanes) 1 sys.pools)
