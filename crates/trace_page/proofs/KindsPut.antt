-- What is written of a value of each kind.
use Rattle.std.proofs.Common.{◌≡◌, List, ◌++◌, sym, subst, Result, Ok, Err, OnOk}
use Rattle.json.specs.Json.{Json}
use Rattle.json.specs.Token.{Token}
use Rattle.json.specs.Tree.{json_tokens}
use Rattle.trace_values.specs.Values.{Value}
use Rattle.trace_values.specs.Values as values
use Rattle.trace_wire.specs.Runs.{Pools}
use Rattle.trace_events.specs.Holding.{HoldsNone}
use Rattle.trace_json.specs.Put.{Stands}
use Rattle.trace_json.proofs.Tokens.{one_stands}
use Rattle.trace_page.specs.PageValues.{Tables, IsPageValue}

-- a value, as what it is
pub record KnownAs (v : Value) : Type 0 where
  pub value : Value
  pub same : v ≡ value

-- of a value that is another
put_as :
    {E : Type 0} (t : Tables) (p : Pools) (r : Result (Unit {0}) E) (v : Value) (known : KnownAs v)
    (old new : List Token) → OnOk r (Stands (IsPageValue t p known.value) old new) →
    OnOk r (Stands (IsPageValue t p v) old new)
put_as t p r v known old new done =
    subst (λ (u : Value). OnOk r (Stands (IsPageValue t p u) old new)) (sym known.same) done

-- JSON was put that the value is
pub json_put :
    {E : Type 0} (t : Tables) (p : Pools) (r : Result (Unit {0}) E) (v : Value) (known : KnownAs v) (j : Json)
    (old new : List Token) → IsPageValue t p known.value j → OnOk r (new ≡ old ++ json_tokens j) →
    OnOk r (Stands (IsPageValue t p v) old new)
json_put t p r v known j old new so put =
    put_as t p r v known old new (one_stands r (IsPageValue t p known.value) j old new so put)

stands_as :
    {E : Type 0} (r : Result (Unit {0}) E) (is also : Json → Type 0) (old new : List Token) →
    ((j : Json) → is j → also j) → OnOk r (Stands is old new) → OnOk r (Stands also old new)
stands_as (Ok u) is also old new f s = record { json = s.json; is_so = f s.json s.is_so; tokens = s.tokens }
stands_as (Err e) is also old new f s = tt

-- what the value is was put
pub kind_put :
    {E : Type 0} (t : Tables) (p : Pools) (r : Result (Unit {0}) E) (v : Value) (known : KnownAs v)
    (is : Json → Type 0) (old new : List Token) → ((j : Json) → is j → IsPageValue t p known.value j) →
    OnOk r (Stands is old new) → OnOk r (Stands (IsPageValue t p v) old new)
kind_put t p r v known is old new f put =
    put_as t p r v known old new (stands_as r is (IsPageValue t p known.value) old new f put)

-- a list holds others, and so does a map
pub list_holds : {A : Type 0} (v : Value) (vs : values.Items) → v ≡ values.list vs → HoldsNone v → A
list_holds v vs is none = absurd (subst HoldsNone is none)

pub map_holds : {A : Type 0} (v : Value) (ps : values.Pairs) → v ≡ values.map ps → HoldsNone v → A
map_holds v ps is none = absurd (subst HoldsNone is none)
