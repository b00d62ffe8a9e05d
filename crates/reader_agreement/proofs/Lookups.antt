-- What is missing of values that are looked up by hand: the first of it, found element by element.
use Rattle.std.proofs.Common.{◌≡◌, ℕ, ◌+◌, ◌<◌, ◌≤◌, true, false, List, [], ◌∷◌, ◌++◌, length, get_or, drop, sym}
use Rattle.std.proofs.Common.{ap, ap₂, ◌∙◌, arith, Option, Some, None, is_some, slice_get, refl}
use Rattle.std.proofs.lemmas.Bool.{false≢true}
use Rattle.std.proofs.lemmas.List.{drop_more, drop_all}
use Rattle.trace_values.proofs.OptionsAndBytes.{none_some, some_is}
use Rattle.trace_values.specs.Refs.{ref_view, ref_views}
use Rattle.trace_values.specs.declared.types.borrowed.FieldValueRef.{FieldValueRef}
use Rattle.trace_wire.specs.Runs.{Pools}
use Rattle.trace_wire.specs.Schemas.{Field}
use Rattle.dial9_trace_format.specs.Resolving.{field_unresolved, unknown_ids}
use Rattle.dial9_trace_format.specs.ShownEvents.{names_of}
use Rattle.dial9_trace_format.specs.declared.resolve.error.DeserError.{DeserError}
use Rattle.dial9_trace_format.specs.declared.resolve.error.DeserError.TheVariants as errors

-- the first element, if there is one
abbrev pub first : {B : Type 0} → List B → Option B
first xs = slice_get xs 0

-- the first of both lists is that of the one in front, where that has one
pub first_stays : {B : Type 0} (xs ys : List B) (found : Option B) → found ≡ first xs → is_some found ≡ true
    → found ≡ first (xs ++ ys)
first_stays {B} [] ys found is there = absurd (false≢true (sym (ap (λ (o : Option B). is_some o) is) ∙ there))
first_stays (x ∷ xs) ys found is there = is

-- and that of the other where it has none
pub first_passes : {B : Type 0} (xs ys : List B) (found : Option B) → found ≡ first xs → is_some found ≡ false
    → first (xs ++ ys) ≡ first ys
first_passes [] ys found is none = refl
first_passes {B} (x ∷ xs) ys found is none =
    absurd (false≢true (sym none ∙ ap (λ (o : Option B). is_some o) is))

-- of two lists neither of which has one there is none
pub neither : {B : Type 0} (xs ys : List B) (a b : Option B) → a ≡ first xs → is_some a ≡ false → b ≡ first ys
    → b ≡ first (xs ++ ys)
neither xs ys a b is none other = other ∙ sym (first_passes xs ys a is none)

-- what is missing of all elements, one after the other
abbrev pub Gathers : {A B : Type 0} → (List A → List B) → (A → List B) → Type 0
Gathers {A} {B} all one = (x : A) (xs : List A) → all (x ∷ xs) ≡ one x ++ all xs

at_element :
    {A B : Type 0} (all : List A → List B) (one : A → List B) → Gathers all one → (xs : List A) (i : ℕ) (x : A)
    → i < length xs → x ≡ get_or xs i x → all (drop i xs) ≡ one x ++ all (drop (i + 1) xs)
at_element {A} all one step xs i x lt is =
    ap all (drop_more xs i x lt ∙ ap (λ (z : A). z ∷ drop (i + 1) xs) (sym is)) ∙ step x _

-- something is missing of an element, before which nothing was
pub missing_here :
    {A B : Type 0} (all : List A → List B) (one : A → List B) → Gathers all one → (xs : List A) (i : ℕ) {x : A}
    {found whole : Option B} → i < length xs → x ≡ get_or xs i x → found ≡ first (one x) → is_some found ≡ true
    → first (all (drop i xs)) ≡ whole → found ≡ whole
missing_here {A} {B} all one step xs i {x} {found} lt is tells there before =
    first_stays (one x) (all (drop (i + 1) xs)) found tells there
    ∙ sym (ap (λ (l : List B). first l) (at_element all one step xs i x lt is)) ∙ before

-- nothing is missing of it
pub nothing_here :
    {A B : Type 0} (all : List A → List B) (one : A → List B) → Gathers all one → (xs : List A) (i : ℕ) {x : A}
    {found whole : Option B} → i < length xs → x ≡ get_or xs i x → found ≡ first (one x) → is_some found ≡ false
    → first (all (drop i xs)) ≡ whole → first (all (drop (i + 1) xs)) ≡ whole
nothing_here {A} {B} all one step xs i {x} {found} lt is tells none before =
    sym (first_passes (one x) (all (drop (i + 1) xs)) found tells none)
    ∙ sym (ap (λ (l : List B). first l) (at_element all one step xs i x lt is)) ∙ before

-- nothing is missing of any
pub nothing_missing :
    {A B : Type 0} (all : List A → List B) → first (all []) ≡ None → (xs : List A) (i : ℕ) {whole : Option B}
    → length xs ≤ i → first (all (drop i xs)) ≡ whole → None ≡ whole
nothing_missing {A} all none xs i le before =
    sym none ∙ sym (ap (λ (ys : List A). first (all ys)) (drop_all i xs le)) ∙ before

-- ---- the fields of an event, each with its name

-- what is missing of values, each under a name
abbrev pub missing_of : Pools → List Field → List FieldValueRef → List DeserError
missing_of p names values = field_unresolved p (names_of names) (ref_views values)

at_field :
    (p : Pools) {names : List Field} {name : Field} {others : List Field} (values : List FieldValueRef) (i : ℕ)
    (x : FieldValueRef) → names ≡ name ∷ others → i < length values → x ≡ get_or values i x
    → missing_of p names (drop i values) ≡ unknown_ids p (ref_view x) ++ missing_of p others (drop (i + 1) values)
at_field p values i x parts lt is =
    ap₂ (λ (ns : List Field) (vs : List FieldValueRef). missing_of p ns vs) parts
    (drop_more values i x lt ∙ ap (λ (z : FieldValueRef). z ∷ drop (i + 1) values) (sym is))

-- a field is left, and no name
pub name_missing :
    (p : Pools) (names : List Field) (values : List FieldValueRef) (i : ℕ) {x : FieldValueRef}
    {whole : Option DeserError} → length names ≡ 0 → i < length values → x ≡ get_or values i x
    → first (missing_of p names (drop i values)) ≡ whole → Some errors.SchemaShort ≡ whole
name_missing p [] values i {x} none lt is before =
    sym (ap (λ (vs : List FieldValueRef). first (missing_of p [] vs))
    (drop_more values i x lt ∙ ap (λ (z : FieldValueRef). z ∷ drop (i + 1) values) (sym is))) ∙ before
name_missing p (n ∷ names) values i none lt is before = absurd (omega (arith, none))

-- an id is missing of a field
pub field_missing :
    (p : Pools) {names : List Field} {name : Field} {others : List Field} (values : List FieldValueRef) (i : ℕ)
    {x : FieldValueRef} {found whole : Option DeserError} → names ≡ name ∷ others → i < length values
    → x ≡ get_or values i x → found ≡ first (unknown_ids p (ref_view x)) → is_some found ≡ true
    → first (missing_of p names (drop i values)) ≡ whole → found ≡ whole
field_missing p {others = others} values i {x} {found} parts lt is tells there before =
    first_stays (unknown_ids p (ref_view x)) (missing_of p others (drop (i + 1) values)) found tells there
    ∙ sym (ap (λ (l : List DeserError). first l) (at_field p values i x parts lt is)) ∙ before

-- or none is
pub field_there :
    (p : Pools) {names : List Field} {name : Field} {others : List Field} (values : List FieldValueRef) (i : ℕ)
    {x : FieldValueRef} {found whole : Option DeserError} → names ≡ name ∷ others → i < length values
    → x ≡ get_or values i x → found ≡ first (unknown_ids p (ref_view x)) → is_some found ≡ false
    → first (missing_of p names (drop i values)) ≡ whole → first (missing_of p others (drop (i + 1) values)) ≡ whole
field_there p {others = others} values i {x} {found} parts lt is tells none before =
    sym (first_passes (unknown_ids p (ref_view x)) (missing_of p others (drop (i + 1) values)) found tells none)
    ∙ sym (ap (λ (l : List DeserError). first l) (at_field p values i x parts lt is)) ∙ before

-- at the end no field is left
pub fields_there :
    (p : Pools) (names : List Field) (values : List FieldValueRef) (i : ℕ) {whole : Option DeserError}
    → length values ≤ i → first (missing_of p names (drop i values)) ≡ whole → None ≡ whole
fields_there p [] values i le before =
    sym (ap (λ (vs : List FieldValueRef). first (missing_of p [] vs)) (drop_all i values le)) ∙ before
fields_there p (n ∷ names) values i le before =
    sym (ap (λ (vs : List FieldValueRef). first (missing_of p (n ∷ names) vs)) (drop_all i values le)) ∙ before

-- ---- nothing, or the first thing, is missing

-- of a list with no first element
pub none_first : {B : Type 0} (xs : List B) (found : Option B) → found ≡ first xs → is_some found ≡ false → xs ≡ []
none_first [] found is none = refl
none_first {B} (x ∷ xs) found is none = absurd (false≢true (sym none ∙ ap (λ (o : Option B). is_some o) is))

-- what comes after the first
pub later_ones : {B : Type 0} (xs : List B) (x : B) → first xs ≡ Some x → (later : List B) × (xs ≡ x ∷ later)
later_ones [] x e = absurd (none_some x e)
later_ones {B} (y ∷ ys) x e = (ys, ap (λ (z : B). z ∷ ys) (some_is y x e))
