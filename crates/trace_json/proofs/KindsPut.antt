-- What is written of a value of each kind.
use Rattle.std.proofs.Common.{◌≡◌, ℕ, ℤ, Bool, List, [], ◌∷◌, ◌++◌, sym, ap, subst, refl, Result, OnOk}
use Rattle.std.specs.FinMap as finmap
use Rattle.std.specs.Fmt.{decimal, signed_decimal}
use Rattle.json.specs.Json.{string, number, boolean, null}
use Rattle.json.specs.Token.{Token}
use Rattle.json.specs.Token as token
use Rattle.json.specs.Tree.{json_tokens}
use Rattle.trace_values.specs.Values.{Value}
use Rattle.trace_values.specs.Values as values
use Rattle.trace_wire.specs.Runs.{Pools}
use Rattle.trace_events.specs.Holding.{HoldsNone}
use Rattle.trace_json.specs.EventJson.{IsValueJson, bytes_json, stack_json, texts_json}
use Rattle.trace_json.specs.EventJson.{pooled_text_json, pooled_stack_json}
use Rattle.trace_json.specs.Put.{Stands}
use Rattle.trace_json.proofs.Tokens.{one_stands}

-- of a value that is another
put_as :
    {E : Type 0} (p : Pools) (r : Result (Unit {0}) E) (v w : Value) (old new : List Token) → v ≡ w →
    OnOk r (Stands (IsValueJson p w) old new) → OnOk r (Stands (IsValueJson p v) old new)
put_as p r v w old new is done =
    subst (λ (u : Value). OnOk r (Stands (IsValueJson p u) old new)) (sym is) done

-- an integer was put
pub integer_put :
    {E : Type 0} (p : Pools) (r : Result (Unit {0}) E) (v : Value) (z y : ℤ) (old new : List Token) →
    v ≡ values.integer z → y ≡ z → OnOk r (new ≡ old ++ token.number (signed_decimal y) ∷ []) →
    OnOk r (Stands (IsValueJson p v) old new)
integer_put p r v z y old new is same put =
    put_as p r v (values.integer z) old new is
    (one_stands r (IsValueJson p (values.integer z)) (number (signed_decimal y)) old new
    (ap (λ (x : ℤ). number (signed_decimal x)) same) put)

-- a float was put
pub float_put :
    {E : Type 0} (p : Pools) (r : Result (Unit {0}) E) (v : Value) (n : ℕ) (old new : List Token) →
    v ≡ values.float n → OnOk r (Stands (IsValueJson p (values.float n)) old new) →
    OnOk r (Stands (IsValueJson p v) old new)
float_put p r v n old new is put = put_as p r v (values.float n) old new is put

-- a truth value was put
pub boolean_put :
    {E : Type 0} (p : Pools) (r : Result (Unit {0}) E) (v : Value) (b : Bool) (old new : List Token) →
    v ≡ values.boolean b → OnOk r (new ≡ old ++ token.boolean b ∷ []) →
    OnOk r (Stands (IsValueJson p v) old new)
boolean_put p r v b old new is put =
    put_as p r v (values.boolean b) old new is (one_stands r (IsValueJson p (values.boolean b)) (boolean b) old new refl
    put)

-- a text was put
pub text_put :
    {E : Type 0} (p : Pools) (r : Result (Unit {0}) E) (v : Value) (s : List ℕ) (old new : List Token) →
    v ≡ values.text s → OnOk r (new ≡ old ++ token.string s ∷ []) →
    OnOk r (Stands (IsValueJson p v) old new)
text_put p r v s old new is put =
    put_as p r v (values.text s) old new is (one_stands r (IsValueJson p (values.text s)) (string s) old new refl put)

-- bytes were put
pub bytes_put :
    {E : Type 0} (p : Pools) (r : Result (Unit {0}) E) (v : Value) (s : List ℕ) (old new : List Token) →
    v ≡ values.bytes s → OnOk r (new ≡ old ++ json_tokens (bytes_json s)) →
    OnOk r (Stands (IsValueJson p v) old new)
bytes_put p r v s old new is put =
    put_as p r v (values.bytes s) old new is
    (one_stands r (IsValueJson p (values.bytes s)) (bytes_json s) old new refl put)

-- the text of an id was put, or the id
pub pooled_text_put :
    {E : Type 0} (p : Pools) (r : Result (Unit {0}) E) (v : Value) (id : ℕ) (old new : List Token) →
    v ≡ values.pooled_text id → OnOk r (new ≡ old ++ json_tokens (pooled_text_json id (finmap.get p.strings id))) →
    OnOk r (Stands (IsValueJson p v) old new)
pooled_text_put p r v id old new is put =
    put_as p r v (values.pooled_text id) old new is
    (one_stands r (IsValueJson p (values.pooled_text id)) (pooled_text_json id (finmap.get p.strings id)) old new refl
    put)

-- the stack of an id was put, or the id
pub pooled_stack_put :
    {E : Type 0} (p : Pools) (r : Result (Unit {0}) E) (v : Value) (id : ℕ) (old new : List Token) →
    v ≡ values.pooled_stack id → OnOk r (new ≡ old ++ json_tokens (pooled_stack_json id (finmap.get p.stacks id))) →
    OnOk r (Stands (IsValueJson p v) old new)
pooled_stack_put p r v id old new is put =
    put_as p r v (values.pooled_stack id) old new is
    (one_stands r (IsValueJson p (values.pooled_stack id)) (pooled_stack_json id (finmap.get p.stacks id)) old new refl
    put)

-- a stack was put
pub stack_put :
    {E : Type 0} (p : Pools) (r : Result (Unit {0}) E) (v : Value) (xs : List ℕ) (old new : List Token) →
    v ≡ values.stack xs → OnOk r (new ≡ old ++ json_tokens (stack_json xs)) →
    OnOk r (Stands (IsValueJson p v) old new)
stack_put p r v xs old new is put =
    put_as p r v (values.stack xs) old new is
    (one_stands r (IsValueJson p (values.stack xs)) (stack_json xs) old new refl put)

-- a number was put
pub number_put :
    {E : Type 0} (p : Pools) (r : Result (Unit {0}) E) (v : Value) (n : ℕ) (old new : List Token) →
    v ≡ values.number n → OnOk r (new ≡ old ++ token.number (decimal n) ∷ []) →
    OnOk r (Stands (IsValueJson p v) old new)
number_put p r v n old new is put =
    put_as p r v (values.number n) old new is
    (one_stands r (IsValueJson p (values.number n)) (number (decimal n)) old new refl put)

-- a map of texts was put
pub texts_put :
    {E : Type 0} (p : Pools) (r : Result (Unit {0}) E) (v : Value) (ps : List (List ℕ × List ℕ)) (old new : List Token)
    →
    v ≡ values.texts ps → OnOk r (new ≡ old ++ json_tokens (texts_json ps)) →
    OnOk r (Stands (IsValueJson p v) old new)
texts_put p r v ps old new is put =
    put_as p r v (values.texts ps) old new is
    (one_stands r (IsValueJson p (values.texts ps)) (texts_json ps) old new refl put)

-- nothing was put for an absent value
pub null_put :
    {E : Type 0} (p : Pools) (r : Result (Unit {0}) E) (v : Value) (old new : List Token) →
    v ≡ values.absent → OnOk r (new ≡ old ++ token.null ∷ []) → OnOk r (Stands (IsValueJson p v) old new)
null_put p r v old new is put =
    put_as p r v values.absent old new is (one_stands r (IsValueJson p values.absent) null old new refl put)

-- a list holds others
pub list_holds : {A : Type 0} (v : Value) (vs : values.Items) → v ≡ values.list vs → HoldsNone v → A
list_holds v vs is none = absurd (subst HoldsNone is none)

-- a map holds others
pub map_holds : {A : Type 0} (v : Value) (ps : values.Pairs) → v ≡ values.map ps → HoldsNone v → A
map_holds v ps is none = absurd (subst HoldsNone is none)
