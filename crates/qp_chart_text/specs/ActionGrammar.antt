-- The grammar of actions, on their tokens.
use Rattle.std.specs.Prelude.{◌≡◌, ◌⊎◌, ℕ, ℤ, List, [], ◌∷◌, ◌++◌, Option, Some, None}
use Rattle.qp_chart_text.specs.declared.tokens.Keyword.{Keyword}
use Rattle.qp_chart_text.specs.declared.tokens.Keyword.TheVariants as key
use Rattle.qp_chart_text.specs.Terms.{Term, Address, ToMe, ToObject, EventTerm, Order, Set, Say, Post, Lifo, Forward, Publish, Defer, Recall, Flush, Subscribe, Unsubscribe, Arm, Rearm, Disarm, Command, Plain, Locked}
use Rattle.qp_chart_text.specs.Tokens.{Tok, Num, Key, Name, Me, Assign, Open, Close, OpenList, CloseList, Comma, Semicolon, tokens_of_text}
use Rattle.qp_chart_text.specs.Grammar.{IsExpr}

-- a whole expression
abbrev pub IsTerm : List Tok → Term → Type 0
IsTerm ts x = IsExpr 5 16 ts x

-- expressions with commas between them
pub data IsTerms : List Tok → List Term → Type 0 where
  one_term : {ts : List Tok} {x : Term} → IsTerm ts x → IsTerms ts (x ∷ [])
  one_more_term : {ts us : List Tok} {xs : List Term} {x : Term} → IsTerms ts xs → IsTerm us x → IsTerms (ts ++ Comma ∷ us) (xs ++ x ∷ [])

-- nothing, or expressions in parentheses
abbrev pub IsPars : List Tok → List Term → Type 0
IsPars ts pars = ((ts ≡ []) × (pars ≡ [])) ⊎ ((us : List Tok) × (ts ≡ Open ∷ (us ++ Close ∷ [])) × IsTerms us pars)

-- a signal and its parameters
abbrev pub IsEventText : List Tok → EventTerm → Type 0
IsEventText ts event = (us : List Tok) × (ts ≡ Name event.signal ∷ us) × IsPars us event.pars

abbrev pub receiver_token : Address → Tok
receiver_token ToMe = Me
receiver_token (ToObject name) = Name name

-- a number behind its word, or nothing
abbrev pub option_tokens : Keyword → Option ℤ → List Tok
option_tokens word None = []
option_tokens word (Some n) = Key word ∷ Num n ∷ []

-- a plain action
unfoldable pub IsOrder : List Tok → Order → Type 0
IsOrder ts (Set name x) = (us : List Tok) × (ts ≡ Name name ∷ Assign ∷ us) × IsTerm us x
IsOrder ts (Say x) = (us : List Tok) × (ts ≡ Key key.Say ∷ us) × IsTerm us x
IsOrder ts (Post to event margin reserve) =
    (us : List Tok) × (ts ≡ Key key.Post ∷ receiver_token to ∷ (us ++ (option_tokens key.Margin margin ++ option_tokens key.Reserve reserve))) × IsEventText us event
IsOrder ts (Lifo event reserve) = (us : List Tok) × (ts ≡ Key key.Lifo ∷ (us ++ option_tokens key.Reserve reserve)) × IsEventText us event
IsOrder ts (Forward to margin) = ts ≡ Key key.Forward ∷ receiver_token to ∷ option_tokens key.Margin margin
IsOrder ts (Publish event reserve) = (us : List Tok) × (ts ≡ Key key.Publish ∷ (us ++ option_tokens key.Reserve reserve)) × IsEventText us event
IsOrder ts Defer = ts ≡ Key key.Defer ∷ []
IsOrder ts Recall = ts ≡ Key key.Recall ∷ []
IsOrder ts Flush = ts ≡ Key key.Flush ∷ []
IsOrder ts (Subscribe signal) = ts ≡ Key key.Subscribe ∷ Name signal ∷ []
IsOrder ts (Unsubscribe signal) = ts ≡ Key key.Unsubscribe ∷ Name signal ∷ []
IsOrder ts (Arm timer x y) =
    (us vs : List Tok) × (ts ≡ Key key.Arm ∷ Name timer ∷ Open ∷ (us ++ Comma ∷ (vs ++ Close ∷ []))) × IsTerm us x × IsTerm vs y
IsOrder ts (Rearm timer x) = (us : List Tok) × (ts ≡ Key key.Rearm ∷ Name timer ∷ Open ∷ (us ++ Close ∷ [])) × IsTerm us x
IsOrder ts (Disarm timer) = ts ≡ Key key.Disarm ∷ Name timer ∷ []

-- plain actions with semicolons between them
pub data IsOrders : List Tok → List Order → Type 0 where
  one_order : {ts : List Tok} {x : Order} → IsOrder ts x → IsOrders ts (x ∷ [])
  one_more_order : {ts : List Tok} {xs : List Order} (us : List Tok) (x : Order) → IsOrders ts xs → IsOrder us x → IsOrders (ts ++ Semicolon ∷ us) (xs ++ x ∷ [])

-- an action
unfoldable pub IsCommand : List Tok → Command → Type 0
unfolding IsOrder
IsCommand ts (Plain order) = IsOrder ts order
IsCommand ts (Locked ceiling orders) =
    (us : List Tok) × (ts ≡ Key key.Locked ∷ Num ceiling ∷ OpenList ∷ (us ++ CloseList ∷ [])) × IsOrders us orders

-- the text is this action
abbrev pub IsActionText : List ℕ → Command → Type 0
IsActionText text command = (ts : List Tok) × (tokens_of_text text ≡ Some ts) × IsCommand ts command
